use Rattle.std.proofs.Common.{◌≡◌, ◌==◌, if◌then◌else◌, true, false, length, refl, sym, ◌∙◌, arith}
use Rattle.lis_bits.specs.Rows.{get}
use Rattle.lis_bits.proofs.Laws.{bits_set}
use Rattle.lis_eval.proofs.Slots.{bits_same, bits_stay, set_passes, stay_passes}
use Rattle.lis_incr.specs.Marked.{splits_by}
use Rattle.lis_incr.proofs.marks.mark_number.Goals as goal

pub returns-then-splits : goal.returns-then-splits
returns-then-splits c =
    let old = c.args.candidates.now in
    let number = c.args.number in
    let counts = c.args.counts.now in
    let many = c.args.many in
    let splits : splits_by counts many number ≡ true = sym c.splits.ensures ∙ c.if-splits.true in
    rw c.put.ensures (bits_same old _ 1 (length counts) 0 _ _ (bits_set old 1 (length counts) 0 (λ k. if k == number then true else get old 0 k) c.requires.candidates (omega arith))
    (λ n lt. set_passes (get old 0 n) (splits_by counts many number) n number number refl splits))

pub returns-else-splits : goal.returns-else-splits
returns-else-splits c =
    let old = c.args.candidates.now in
    let number = c.args.number in
    let counts = c.args.counts.now in
    let many = c.args.many in
    let splits : splits_by counts many number ≡ false = sym c.splits.ensures ∙ c.if-splits.false in
    bits_stay old 1 (length counts) 0 _ c.requires.candidates (λ n lt. stay_passes (get old 0 n) (splits_by counts many number) (number == n) splits)
