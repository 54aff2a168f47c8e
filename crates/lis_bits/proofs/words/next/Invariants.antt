use Rattle.std.proofs.Common.{◌≡◌, ℕ, ◌*◌, ◌<◌, ◌≤◌, false}
use Rattle.lis_bits.specs.Words.{words_bit}
use Rattle.lis_bits.proofs.words.next.Given as goal

abbrev pub invariant-loop-i : goal.invariant-loop-i
invariant-loop-i l = (k : ℕ) → l.start ≤ k → k < 64 * l.i → words_bit l.words k ≡ false
