use Rattle.std.proofs.Common.{arith}
use Rattle.lis_kept.proofs.Common.{◌∙◌, count_by, ap}
use Rattle.lis_kept.specs.Metadata.{Metadata}
use Rattle.lis_kept.specs.Linking.{is_filled}
use Rattle.lis_kept.proofs.AxiomSlots.{few_slots}
use Rattle.lis_kept.specs.contracts.metadata.Metadata.{the_view}
use Rattle.lis_kept.proofs.metadata.Metadata.axiom_count.Goals as goal

pub filled_count-requires : goal.filled_count-requires
filled_count-requires c = omega (arith, c.as_slice.ensures.len, few_slots (the_view c.self.inside) c.self.invariant.sound)

pub returns : goal.returns
returns c = c.filled_count.ensures ∙ (ap (count_by is_filled) c.as_slice.ensures.value ∙ ap (λ (k : Metadata). count_by is_filled k.axioms) c.self.view_is)
