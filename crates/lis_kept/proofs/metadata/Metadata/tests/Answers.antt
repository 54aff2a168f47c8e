use Rattle.lis_kept.proofs.Common.{◌∙◌, ap, slice_get}
use Rattle.lis_kept.specs.Metadata.{Metadata}
use Rattle.lis_kept.proofs.metadata.Metadata.tests.Goals as goal

pub returns-clause-before : goal.returns-clause-before
returns-clause-before c = λ k e lt at. c.tests.ensures.before k e lt (ap (λ (p : Metadata). slice_get p.dict.entries k) c.self.view_is ∙ at)

pub returns-clause-behind : goal.returns-clause-behind
returns-clause-behind c = λ k e le at. c.tests.ensures.behind k e le (ap (λ (p : Metadata). slice_get p.dict.entries k) c.self.view_is ∙ at)
