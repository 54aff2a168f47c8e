use Rattle.std.proofs.Common.{◌≡◌, ℕ, false, length, take, slice_index_or, IsTrue}
use Rattle.lis_taxonomy.specs.Search.{is_found}
use Rattle.lis_taxonomy.proofs.search.unmark.Given as goal

abbrev pub invariant-loop-number : goal.invariant-loop-number
invariant-loop-number l = record {
  long : length l.marks ≡ length l.fn.marks;
  others : (q : ℕ) → IsTrue (slice_index_or l.marks q false) → IsTrue (slice_index_or l.fn.marks q false);
  cleared : (q : ℕ) → IsTrue (is_found (take l.number-index l.numbers) q) → slice_index_or l.marks q false ≡ false;
}
