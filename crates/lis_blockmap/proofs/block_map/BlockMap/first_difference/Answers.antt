use Rattle.std.proofs.Common.{◌≡◌, ◌≢◌, ℕ, ◌+◌, ◌*◌, ◌<◌, Bool, List, Option, Some, None, IfSome, sym, ap, ◌∙◌, arith}
use Rattle.lis_blockmap.specs.Bitmap.{is_taken, bitmap_bytes, has_bit, IsFirstDifference}
use Rattle.lis_blockmap.proofs.Laws.{has_bit-bitmap_bytes}
use Rattle.lis_blockmap.proofs.block_map.BlockMap.first_difference.Goals as goal

-- the first bit that is not as it is written is the first one that is not as its data block
module _ (n : ℕ) (bytes block : List ℕ) (taken : List Bool) (written : block ≡ bitmap_bytes n taken) where
  at : (bit : ℕ) → bit < 32768 → has_bit block bit ≡ is_taken taken (32768 * n + bit)
  at bit lt = ap (λ b. has_bit b bit) written ∙ has_bit-bitmap_bytes n taken bit lt

  as_written : (found : Option ℕ) → IfSome found (λ bit. bit < 32768) → IfSome found (λ bit. has_bit bytes bit ≢ has_bit block bit) → IfSome found (λ bit. (m : ℕ) → m < bit → has_bit bytes m ≡ has_bit block m) → IfSome found (λ bit. IsFirstDifference n bytes taken bit)
  as_written None within here before = tt
  as_written (Some bit) within here before = record {
    within = within;
    here = λ same. here (same ∙ sym (at bit within));
    none_before = λ m lt. before m lt ∙ at m (omega (arith, lt, within));
  }

pub returns-clause-differs : goal.returns-clause-differs
returns-clause-differs c =
    let found = c.first_unlike.ensures in
    as_written c.args.n c.args.bytes.now c.write_to.new.bytes c.args.self.now c.write_to.ensures c.first_unlike.result found.within found.here found.none_before
