use Rattle.std.proofs.Common.{◌+◌, ◌*◌, ◌≤◌, length, inl, inr, sym, ◌∙◌, arith}
use Rattle.std.proofs.lemmas.Bool.{cases_lt}
use Rattle.lis_bits.proofs.Numbers.{bytes_are}
use Rattle.lis_blockmap.specs.Bitmap.{is_taken, bitmap_bytes}
use Rattle.lis_blockmap.proofs.Bytes.{byte_past, byte_in_block}
use Rattle.lis_blockmap.proofs.Taken.{long}
use Rattle.lis_blockmap.proofs.block_map.BlockMap.write_to.Goals as goal

pub overflow_mul-first : goal.overflow_mul-first
overflow_mul-first c = omega (arith, long c.self.inside.rows c.self.inside.blocks c.args.self.now c.self.view_is, c.self.invariant.few, c.requires.some)

pub overflow_sub-end : goal.overflow_sub-end
overflow_sub-end c = omega (arith, long c.self.inside.rows c.self.inside.blocks c.args.self.now c.self.view_is, c.requires.some, c.div_ceil-end.ensures)

pub byte-requires : goal.byte-requires
byte-requires c = omega (arith, long c.self.inside.rows c.self.inside.blocks c.args.self.now c.self.view_is, c.requires.some, c.div_ceil-end.ensures, c.min-count.ensures, c.loop-k-test.true)

pub returns : goal.returns
unfolding bitmap_bytes
returns c =
    let l = c.loop-k in
    let taken = c.args.self.now in
    let n = c.args.n in
    let blocks = long c.self.inside.rows c.self.inside.blocks taken c.self.view_is in
    bytes_are l.bytes 4096 (λ k. is_taken taken (32768 * n + k)) (omega (arith, l.auto.bytes, c.fill.ensures.len, c.requires.whole)) (λ k lt. elim (cases_lt k l.k) [
      | inl before ↦ l.invariant.0 k before ∙ byte_in_block taken n k
      | inr behind ↦
          let past : length taken ≤ 8 * (4096 * n + k) = omega (arith, blocks, lt, behind, c.loop-k-test.false, c.div_ceil-end.ensures, c.min-count.ensures) in
          l.invariant.1 k behind ∙ (sym (byte_past taken (4096 * n + k) past) ∙ byte_in_block taken n k)
    ])
