use Rattle.std.proofs.Common.{◌≡◌, ◌⊎◌, ℕ, ◌+◌, ◌<◌, ◌≤◌, length, get_or}
use Rattle.lis_ext.proofs.lists.write.Given as goal

abbrev pub invariant-loop-k : goal.invariant-loop-k
invariant-loop-k l = record {
  written : (j : ℕ) → j < l.k → get_or l.places (l.start + j) 0 ≡ get_or l.numbers j 0;
  others : (j : ℕ) → (j < l.start) ⊎ (l.start + length l.numbers ≤ j) → get_or l.places j 0 ≡ get_or l.fn.places j 0;
}
