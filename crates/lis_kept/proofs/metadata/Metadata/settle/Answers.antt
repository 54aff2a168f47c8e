use Rattle.lis_kept.proofs.Common.{false, length, ap, ◌∙◌}
use Rattle.std.proofs.lemmas.List.{length-replicate}
use Rattle.lis_kept.specs.contracts.metadata.Metadata.{the_view}
use Rattle.lis_kept.proofs.Formed.{held_marks}
use Rattle.lis_kept.proofs.metadata.Metadata.settle.Goals as goal

pub invariant_of-self : goal.invariant_of-self
invariant_of-self c =
    held_marks (the_view c.self.inside) c.self.inside.taxonomy c.fill.new.self c.self.invariant (ap length c.fill.ensures ∙ length-replicate (length c.self.inside.marks) false)

pub returns-clause-sound : goal.returns-clause-sound
returns-clause-sound c =
    (held_marks (the_view c.self.inside) c.self.inside.taxonomy c.fill.new.self c.self.invariant (ap length c.fill.ensures ∙ length-replicate (length c.self.inside.marks) false)).sound
