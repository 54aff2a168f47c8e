use Rattle.lis_open.proofs.Common.{◌≡◌, ℕ, ◌<◌, false, []}
use Rattle.lis_open.specs.ReadAll.{metadata_in, is_stray}
use Rattle.lis_open.proofs.checks.check_words.Given as goal

abbrev pub invariant-loop-number : goal.invariant-loop-number
invariant-loop-number l = (n : ℕ) → n < l.number → is_stray (metadata_in l.limits l.words l.axioms l.files []) n ≡ false
