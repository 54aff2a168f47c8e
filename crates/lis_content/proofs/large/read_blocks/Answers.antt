use Rattle.std.proofs.Common.{sym, ◌∙◌}
use Rattle.std.proofs.lemmas.Bool.{false≢true}
use Rattle.lis_content.proofs.large.read_blocks.Goals.{then-is_large+in_ok-are_formed, else-is_large}
use Rattle.lis_content.proofs.large.read_blocks.Goals as goal

pub returns-clause-malformed : goal.returns-clause-malformed
returns-clause-malformed g c = λ told kept fits indexed. elim c.if-is_large.branch as (λ _. ⊥) [
  | then-is_large+in_ok-are_formed w ↦ w.in_ok-are_formed.ensures.malformed (sym w.are_formed-is ∙ told) kept fits indexed
  | else-is_large w ↦ false≢true (sym told ∙ w.are_formed-is)
]
