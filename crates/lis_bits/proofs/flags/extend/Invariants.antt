use Rattle.std.proofs.Common.{◌≡◌, ℕ, ◌-◌, ◌<◌, ◌≤◌, max, length, get_or, vec_capacity}
use Rattle.lis_bits.proofs.flags.extend.Given as goal

-- what there was is followed by that word alone
abbrev pub invariant-loop-words : goal.invariant-loop-words
invariant-loop-words l = record {
  same : (k : ℕ) → k < length l.fn.words.items → get_or l.words.items k 0 ≡ get_or l.fn.words.items k 0;
  added : (k : ℕ) → length l.fn.words.items ≤ k → k < length l.words.items → get_or l.words.items k 0 ≡ l.word;
  within : length l.words.items ≤ max (length l.fn.words.items) l.len;
  no_shorter : length l.fn.words.items ≤ length l.words.items;
  room : vec_capacity l.words ≡ vec_capacity l.fn.words;
}

abbrev pub decreases-loop-words : goal.decreases-loop-words
decreases-loop-words l = l.len - length l.words.items
