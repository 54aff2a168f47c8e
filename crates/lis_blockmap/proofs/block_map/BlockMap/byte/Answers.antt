use Rattle.std.proofs.Common.{ℕ, ◌≡◌, ◌+◌, ◌-◌, ◌*◌, ◌≤◌, refl, ap, ap₂, ◌∙◌, arith}
use Rattle.lis_bits.specs.Bytes.{bits_number}
use Rattle.lis_bits.specs.Rows.{get}
use Rattle.lis_blockmap.specs.Bitmap.{is_taken}
use Rattle.lis_blockmap.proofs.Taken.{get-taken_of, long}
use Rattle.lis_blockmap.proofs.Bytes.{turned_over, byte_fits, number_more, bit_small}
use Rattle.lis_blockmap.proofs.block_map.BlockMap.byte.Goals as goal

pub overflow_mul-k : goal.overflow_mul-k
overflow_mul-k c = omega (arith, long c.self.inside.rows c.self.inside.blocks c.args.self.now c.self.view_is, c.self.invariant.few, c.requires)

pub overflow_add-k : goal.overflow_add-k
overflow_add-k c = omega (arith, long c.self.inside.rows c.self.inside.blocks c.args.self.now c.self.view_is, c.self.invariant.few, c.requires)

pub overflow_mul-k-in-loop-i : goal.overflow_mul-k-in-loop-i
overflow_mul-k-in-loop-i c = omega (arith, long c.self.inside.rows c.self.inside.blocks c.args.self.now c.self.view_is, c.self.invariant.few, c.requires)

pub overflow_add-k-in-loop-i : goal.overflow_add-k-in-loop-i
overflow_add-k-in-loop-i c = omega (arith, long c.self.inside.rows c.self.inside.blocks c.args.self.now c.self.view_is, c.self.invariant.few, c.requires)

pub loop-i-init : goal.loop-i-init
unfolding bits_number
loop-i-init c = refl

pub overflow_mul-byte : goal.overflow_mul-byte
overflow_mul-byte c =
    let l = c.loop-i in
    let fits = byte_fits (λ n. is_taken c.args.self.now (8 * c.args.k + (8 - l.i) + n)) l.i l.byte 0 c.loop-i-test.true l.invariant (omega arith) in
    omega (arith, fits)

pub overflow_add-byte : goal.overflow_add-byte
overflow_add-byte c =
    let l = c.loop-i in
    let bit : c.from.result ≤ 1 = rw c.from.ensures (bit_small c.is_taken.result) in
    omega (arith, byte_fits (λ n. is_taken c.args.self.now (8 * c.args.k + (8 - l.i) + n)) l.i l.byte c.from.result c.loop-i-test.true l.invariant bit)

pub loop-i-preserved : goal.loop-i-preserved
loop-i-preserved c =
    let l = c.loop-i in
    let taken = is_taken c.args.self.now in
    let n : ℕ = 8 * c.args.k + (8 - (l.i + 1)) in
    let here : 8 * c.args.k + 7 - l.i ≡ n = omega (arith, c.loop-i-test.true) in
    let above : 8 * c.args.k + (8 - l.i) ≡ n + 1 = omega (arith, c.loop-i-test.true) in
    ap (λ bit. 2 * l.byte + bit) c.from.ensures
    ∙ number_more taken n l.i l.byte c.is_taken.result (c.is_taken.ensures ∙ ap taken here) (l.invariant ∙ ap (λ m. bits_number l.i (λ j. taken (m + j))) above)

pub returns-then-self-k : goal.returns-then-self-k
returns-then-self-k c =
    let e = c.self.inside in
    let k = c.args.k in
    let same = turned_over 8 (λ i. get e.rows 0 (8 * k + i)) (λ i. is_taken c.args.self.now (8 * k + i)) (λ i lt. rw (← c.self.view_is) (get-taken_of e.rows e.blocks (8 * k + i) (omega arith))) in
    omega (arith, same, c.byte.ensures)

pub returns : goal.returns
returns c =
    let l = c.loop-i in
    let all : l.i ≡ 8 = omega (arith, c.loop-i-test.false, l.auto.i-end) in
    let first : 8 * c.args.k + (8 - l.i) ≡ 8 * c.args.k = omega (arith, all) in
    l.invariant ∙ ap₂ (λ i at. bits_number i (λ n. is_taken c.args.self.now (at + n))) all first
