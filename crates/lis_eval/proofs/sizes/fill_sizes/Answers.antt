use Rattle.std.proofs.Common.{◌==◌, nat_le, ◌&&◌, ◌||◌, Bool, false, take, sym, ap, ◌∙◌, arith}
use Rattle.std.specs.List.{slice_get}
use Rattle.std.proofs.lemmas.List.{take_all}
use Rattle.lis_bits.proofs.Laws.{bits_set, bits_again}
use Rattle.lis_model.specs.Table.{Entry}
use Rattle.lis_eval.specs.View.{name_and_slot, slot_passes}
use Rattle.lis_eval.proofs.Members.{all_taken, mapped_none}
use Rattle.lis_eval.proofs.Slots.{bits_same, file_given, passes_more}
use Rattle.lis_eval.proofs.sizes.fill_sizes.Goals as goal

pub loop-k-init : goal.loop-k-init
loop-k-init g c = rw c.fill.ensures (bits_set c.args.rows.now 65 c.args.files c.args.row (λ _. false) c.requires.room.shape c.requires.row)

pub returns-in-None : goal.returns-in-None
returns-in-None g c =
    let files = (g.V.View.seen c.args.view.now).files in
    let all = all_taken files c.loop-k.k (mapped_none name_and_slot (slice_get files c.loop-k.k) (sym c.in-None.is ∙ c.file_at.ensures)) in
    bits_same c.args.rows.now c.loop-k.rows 65 c.args.files c.args.row _ _ c.loop-k.invariant (λ bit lt. ap (λ fs. slot_passes fs (λ (e : Entry). nat_le c.args.least e.size) bit) all)

pub put_size-requires-clause-slot : goal.put_size-requires-clause-slot
put_size-requires-clause-slot g c =
    let v = g.V.View.seen c.args.view.now in
    let f = file_given v c.requires.room.kept c.loop-k.k c.in-Some.field-0-0 c.in-Some.slot (sym c.in-Some.is ∙ c.file_at.ensures) in
    omega (arith, c.requires.room.within, c.requires.room.kept.slots f.0 f.1.there, f.1.placed)

pub put_size-requires-clause-there : goal.put_size-requires-clause-there
put_size-requires-clause-there g c =
    let v = g.V.View.seen c.args.view.now in
    let f = file_given v c.requires.room.kept c.loop-k.k c.in-Some.field-0-0 c.in-Some.slot (sym c.in-Some.is ∙ c.file_at.ensures) in
    (f.0, f.1.in_slot)

pub loop-k-preserved : goal.loop-k-preserved
loop-k-preserved g c =
    let v = g.V.View.seen c.args.view.now in
    let test : Entry → Bool = λ e. nat_le c.args.least e.size in
    let f = file_given v c.requires.room.kept c.loop-k.k c.in-Some.field-0-0 c.in-Some.slot (sym c.in-Some.is ∙ c.file_at.ensures) in
    let sets = c.put_size.ensures f.0 f.1.in_slot in
    bits_same c.args.rows.now c.put_size.new.rows 65 c.args.files c.args.row _ _ (bits_again c.args.rows.now c.loop-k.rows c.put_size.new.rows 65 c.args.files c.args.row _ _ c.loop-k.invariant sets)
    (λ bit lt. ap (λ b. b || ((c.in-Some.slot == bit) && test f.0.entry)) (c.loop-k.invariant.at bit lt) ∙ (ap (λ n. slot_passes (take c.loop-k.k v.files) test bit || ((n == bit) && test f.0.entry)) (sym f.1.placed)
    ∙ passes_more v.files test c.loop-k.k bit f.0 f.1.at))

pub returns : goal.returns
returns g c =
    let v = g.V.View.seen c.args.view.now in
    let all = take_all c.loop-k.k v.files (omega (arith, c.requires.room.within, c.requires.room.kept.few_files)) in
    bits_same c.args.rows.now c.loop-k.rows 65 c.args.files c.args.row _ _ c.loop-k.invariant (λ bit lt. ap (λ fs. slot_passes fs (λ (e : Entry). nat_le c.args.least e.size) bit) all)
