use Rattle.lis_store.proofs.Common.{◌∙◌, length, Err, is_some, refl, sym, derived_words, ap, subst, err_from_is_err_and, rules, State}
use Rattle.lis_store.specs.Memory.{stored}
use Rattle.lis_store.specs.Stored.{Stored, IsSound, StoreHolds}
use Rattle.lis_store.proofs.FileRead.{name_taken, rename_asks, read_lost, renaming_refused, renaming_holds}
use Rattle.lis_store.proofs.Keeping.{keeps_lost, ends_saved}
use Rattle.lis_store.proofs.ReplaceFile.{still_in_form, still_below, refiled_change}
use Rattle.lis_store.proofs.Retaken.{in_form, sound_lost}
use Rattle.lis_store.proofs.SavedAlone.{change_saves, whole_view}
use Rattle.lis_store.proofs.WriteFile.{found_there, renamed_nowhere}
use Rattle.lis_store.proofs.store.Store.rename.Goals as goal

pub returns-in_default-clause-holds : goal.returns-in_default-clause-holds
returns-in_default-clause-holds g c = λ base s holds.
    let sound = subst (λ (k : Stored). IsSound k) c.self.view_is c.self.invariant in
    renamed_nowhere c.args.self.now (g.D.Disk.meaning c.args.disk.now) c.args.place.now c.args.name.now _ sound base s holds c.args.new.now (sym c.in_default.ensures.here) refl

pub returns-then-is_some-clause-holds : goal.returns-then-is_some-clause-holds
returns-then-is_some-clause-holds g c = λ base s holds.
    name_taken c.self.view_is c.self.invariant c.args.place.now c.args.name.now c.in-Some.ensures.slot c.in-Some.ensures.here c.args.new.now (g.D.Disk.meaning c.args.disk.now) base s holds
    (sym (c.is_some.ensures ∙ ap is_some c.slot_of.ensures.slot) ∙ c.if-is_some.true)

pub read_file-requires-clause-there : goal.read_file-requires-clause-there
read_file-requires-clause-there g c =
    ap is_some (found_there c.self.view_is c.self.invariant c.args.name.now c.in-Some.ensures.slot).1

pub returns-in-Err-clause-holds : goal.returns-in-Err-clause-holds
returns-in-Err-clause-holds g c = λ base s holds.
    read_lost c.self.view_is c.self.invariant c.args.place.now c.args.name.now c.in-Some.ensures.slot c.in-Some.ensures.here c.args.new.now (g.D.Disk.meaning c.args.disk.now) base s holds (g.D.Disk.meaning c.read_file.new.disk)
    (record { reads = c.read_file.ensures.disk.reads; fits = c.read_file.ensures.fits }) _ _ refl (ap Err c.from.ensures)

pub returns-in-Err-clause-ends : goal.returns-in-Err-clause-ends
returns-in-Err-clause-ends g c =
    let sound = sound_lost c.self.inside.memory.metadata c.self.inside.memory.journal (in_form _ c.self.invariant) c.self.invariant.pairs c.self.invariant.image in
    let keeps = keeps_lost {T = Unit {0}} c.self.view_is sound (ap Err c.from.ensures) refl refl refl refl in
    search (rules, keeps)

pub may_rename-requires-clause-there : goal.may_rename-requires-clause-there
may_rename-requires-clause-there g c =
    ap is_some (found_there c.self.view_is c.self.invariant c.args.name.now c.in-Some.ensures.slot).1

pub returns-in_err-words : goal.returns-in_err-words
returns-in_err-words g c =
    let holds = λ (base : State) (s : State) (holds : StoreHolds c.args.self.now (g.D.Disk.meaning c.args.disk.now) base s).
    let e = err_from_is_err_and c.from_residual.result c.from_residual.ensures.1 in
    renaming_refused c.self.view_is c.self.invariant c.args.place.now c.args.name.now c.in-Some.ensures.slot c.in-Some.ensures.here c.args.new.now (g.D.Disk.meaning c.args.disk.now) base s holds (g.D.Disk.meaning c.read_file.new.disk)
    (record { reads = c.read_file.ensures.disk.reads; fits = c.read_file.ensures.fits })
    c.in_default-read_file.ensures.read c.bytes.ensures.bytes c.in_err-words.field-0.0 c.from_residual.result (e.1 ∙ ap Err e.2) c.in_err-words.ensures.row in
    search (rules, holds)

pub replace_record-requires-clause-may : goal.replace_record-requires-clause-may
replace_record-requires-clause-may g c =
    rename_asks c.self.view_is c.self.invariant c.args.place.now c.args.name.now c.in-Some.ensures.slot c.in-Some.ensures.here c.args.new.now c.bytes.ensures.bytes c.bytes-2.ensures.bytes c.in_default-read_file.ensures.size
    c.slot_of.ensures.name c.in_ok-words.ensures.words c.in_ok-words.ensures.row

pub replace_record-requires-clause-derived : goal.replace_record-requires-clause-derived
replace_record-requires-clause-derived g c = c.in_ok-words.ensures.derived ∙ ap (derived_words c.args.new.now) (c.bytes.ensures.bytes ∙ sym c.bytes-2.ensures.bytes)

pub hold-requires-clause-ready : goal.hold-requires-clause-ready
hold-requires-clause-ready g c =
    let change = refiled_change c.self.view_is c.self.invariant c.requires.usable.unbroken c.replace_record.ensures.refiles in
    change_saves c.self.invariant (whole_view c.self.view_is c.requires.usable.unbroken) change refl

pub returns-clause-ends : goal.returns-clause-ends
returns-clause-ends g c =
    let change = refiled_change c.self.view_is c.self.invariant c.requires.usable.unbroken c.replace_record.ensures.refiles in
    ends_saved c.self.view_is c.self.invariant change.limits change.edits refl c.hold.ensures.saved (search rules)

pub returns-clause-holds : goal.returns-clause-holds
returns-clause-holds g c = λ base s holds.
    let new = stored c.hold.new.self in
    renaming_holds c.self.view_is c.self.invariant c.args.place.now c.args.name.now c.in-Some.ensures.slot c.in-Some.ensures.here c.args.new.now (g.D.Disk.meaning c.args.disk.now) base s holds (g.D.Disk.meaning c.read_file.new.disk)
    (record { reads = c.read_file.ensures.disk.reads; fits = c.read_file.ensures.fits })
    c.in_default-read_file.ensures.read c.bytes-2.ensures.bytes c.bytes.ensures.bytes c.in_ok-words.ensures.row c.in_ok-words.ensures.words
    c.replace_record.ensures.refiles c.blocks_in-blocks.ensures c.requires.usable.unbroken new (g.D.Disk.meaning c.hold.new.disk) c.hold.result c.hold.ensures.saves

pub blocks_in-blocks-requires : goal.blocks_in-blocks-requires
blocks_in-blocks-requires g c =
    ap is_some (found_there c.self.view_is c.self.invariant c.args.name.now c.in-Some.ensures.slot).1

pub replace_record-requires-clause-in_form : goal.replace_record-requires-clause-in_form
replace_record-requires-clause-in_form g c =
    still_in_form c.self.view_is c.self.invariant c.args.name.now c.in-Some.ensures.slot c.blocks_in-blocks.ensures
    (λ rec is. ap length c.bytes-2.ensures.bytes ∙ c.in_default-read_file.ensures.size rec is)

pub replace_record-requires-clause-below : goal.replace_record-requires-clause-below
replace_record-requires-clause-below g c =
    still_below c.self.view_is c.self.invariant c.args.name.now c.in-Some.ensures.slot c.blocks_in-blocks.ensures
