use Rattle.std.proofs.Common.{◌≡◌, ℕ, ◌-◌, ◌≤◌, length, get_or, vec_capacity}
use Rattle.lis_ext.proofs.lists.fill_to.Given as goal

-- what there was is followed by zeros alone
abbrev pub invariant-loop-numbers : goal.invariant-loop-numbers
invariant-loop-numbers l = record {
  same : (k : ℕ) → get_or l.numbers.items k 0 ≡ get_or l.fn.numbers.items k 0;
  no_shorter : length l.fn.numbers.items ≤ length l.numbers.items;
  room : vec_capacity l.numbers ≡ vec_capacity l.fn.numbers;
}

abbrev pub decreases-loop-numbers : goal.decreases-loop-numbers
decreases-loop-numbers l = l.len - length l.numbers.items
