use Rattle.lis_kept.proofs.Common.{◌∙◌, List, ap, AxiomSlot}
use Rattle.lis_kept.specs.Metadata.{Metadata}
use Rattle.lis_kept.specs.Links.{has_pair}
use Rattle.lis_kept.proofs.metadata.Metadata.has_axiom.Goals as goal

pub returns : goal.returns
returns c =
    c.has_pair.ensures
    ∙ (ap (λ (xs : List AxiomSlot). has_pair xs c.args.left c.args.right) c.as_slice.ensures.value
    ∙ ap (λ (k : Metadata). has_pair k.axioms c.args.left c.args.right) c.self.view_is)
