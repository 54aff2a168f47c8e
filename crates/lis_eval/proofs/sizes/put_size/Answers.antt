use Rattle.std.proofs.Common.{refl, ◌≡◌, ◌==◌, true, false, nat_le, if◌then◌else◌, arith}
use Rattle.std.proofs.lemmas.Bool.{le-leb, lt-leb}
use Rattle.lis_bits.specs.Rows.{get}
use Rattle.lis_bits.proofs.Laws.{bits_set}
use Rattle.lis_eval.proofs.Slots.{bits_same, bits_stay, set_passes, stay_passes}
use Rattle.lis_eval.proofs.sizes.put_size.Goals as goal

pub returns-then-size_of-least : goal.returns-then-size_of-least
returns-then-size_of-least g c = λ f there.
    let old = c.args.rows.now in
    let size : c.size_of.result ≡ f.entry.size = rw there at c.size_of.ensures in
    let large : nat_le c.args.least f.entry.size ≡ true = le-leb c.args.least f.entry.size (omega (arith, c.if-size_of-least.true)) in
    rw c.put.ensures (bits_same old _ 65 c.args.files c.args.row _ _ (bits_set old 65 c.args.files c.args.row (λ k. if k == c.args.slot then true else get old c.args.row k) c.requires.room.shape c.requires.row)
    (λ bit lt. set_passes (get old c.args.row bit) (nat_le c.args.least f.entry.size) bit c.args.slot c.args.slot refl large))

pub returns-else-size_of-least : goal.returns-else-size_of-least
returns-else-size_of-least g c = λ f there.
    let old = c.args.rows.now in
    let size : c.size_of.result ≡ f.entry.size = rw there at c.size_of.ensures in
    let small : nat_le c.args.least f.entry.size ≡ false = lt-leb c.args.least f.entry.size (omega (arith, c.if-size_of-least.false)) in
    bits_stay old 65 c.args.files c.args.row _ c.requires.room.shape (λ bit lt. stay_passes (get old c.args.row bit) (nat_le c.args.least f.entry.size) (c.args.slot == bit) small)
