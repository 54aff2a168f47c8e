use Rattle.std.proofs.Common.{◌≡◌, ℕ, ◌<◌, ◌≤◌, ◌&&◌, length, get_or}
use Rattle.lis_bits.specs.Rows.{get}
use Rattle.lis_ext.specs.Numbers.{numbers_where}
use Rattle.lis_ext.specs.Ext.{has}
use Rattle.lis_ext.proofs.ext.Ext.count_among.Given as goal

abbrev pub invariant-loop : goal.invariant-loop
invariant-loop l = record {
  counts : (p : ℕ) → p < l.self.props → get_or l.counts p 0 ≡ length (numbers_where l.start (λ file. get l.found 0 file && has l.self p file));
  many : l.many ≡ length (numbers_where l.start (get l.found 0));
  low : l.counter ≤ l.start;
  high : l.start ≤ length l.self.sets;
}
