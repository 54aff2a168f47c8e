use Rattle.lis_store.proofs.Common.{rules, ◌≡◌, ◌∙◌, ℕ, ◌≤◌, true, length, Err, sym, ap, subst, arith, err_from_is_err_and, ArrayVec, is_large, blocks_taken, new_file, file_added, changed}
use Rattle.lis_store.specs.Memory.{stored}
use Rattle.lis_store.specs.Stored.{Stored, StoreHolds}
use Rattle.lis_store.specs.Drafts.{draft_of}
use Rattle.lis_store.specs.Instead.{free_for}
use Rattle.lis_store.specs.ReplacingIn.{record_in, file_gone}
use Rattle.lis_store.proofs.Keeping.{keeps_saved}
use Rattle.lis_store.proofs.Large.{none_left}
use Rattle.lis_store.proofs.ReplaceFile.{anew_there, anew_small, anew_room, mid_form, mid_first, mid_in_form, mid_below, mid_short, mid_image, written_within, written_saves, written_same, written_edits, written_holds}
use Rattle.lis_store.proofs.Torn.{lost_sound, lost_holds, lost_keeps}
use Rattle.lis_store.proofs.store.Store.put_alone.Goals as goal
use Rattle.lis_kept.proofs.Image.{same_blocks}

pub invariant_of-self : goal.invariant_of-self
invariant_of-self g c =
    let old = stored c.self.inside.memory in
    lost_sound (ArrayVec ℕ) old c.self.invariant c.args.payload.now (record_in old.metadata c.args.slot) c.put_anew.new.self.metadata c.put_anew.new.self.journal c.put_anew.new.self.is_broken c.in_err-blocks.field-0.0
    (g.D.Disk.meaning c.args.disk.now) (g.D.Disk.meaning c.put_anew.new.disk) c.in_err-blocks.ensures.renewed c.in_err-blocks.ensures.ends.ended c.put_anew.ensures.ends.sound

pub returns-in_err-blocks-clause-keeps : goal.returns-in_err-blocks-clause-keeps
returns-in_err-blocks-clause-keeps g c =
    let old = stored c.self.inside.memory in
    let r = err_from_is_err_and c.from_residual.result c.from_residual.ensures.1 in
    lost_keeps (ArrayVec ℕ) old c.self.invariant c.args.payload.now (record_in old.metadata c.args.slot) c.put_anew.new.self.metadata c.put_anew.new.self.journal c.put_anew.new.self.is_broken c.in_err-blocks.field-0.0
    (g.D.Disk.meaning c.args.disk.now) (g.D.Disk.meaning c.put_anew.new.disk) c.in_err-blocks.ensures.renewed c.in_err-blocks.ensures.ends.ended c.self.view_is (r.1 ∙ ap Err r.2) c.put_anew.ensures.ends.sound

pub returns-in_err-blocks-clause-holds : goal.returns-in_err-blocks-clause-holds
returns-in_err-blocks-clause-holds g c = λ base now holds.
    let old = stored c.self.inside.memory in
    let m = g.D.Disk.meaning c.args.disk.now in
    let after = g.D.Disk.meaning c.put_anew.new.disk in
    let alone = λ (large : is_large (length c.args.payload.now) ≡ true). ap (λ (k : Stored). k.journal.staged) c.self.view_is ∙ c.requires.alone large in
    let H : Stored → Type 0 = λ k. StoreHolds k m base now.state in
    let r = err_from_is_err_and c.from_residual.result c.from_residual.ensures.1 in
    lost_holds (ArrayVec ℕ) old c.self.invariant c.args.payload.now (record_in old.metadata c.args.slot) c.put_anew.new.self.metadata c.put_anew.new.self.journal c.put_anew.new.self.is_broken c.in_err-blocks.field-0.0 m after c.in_err-blocks.ensures.renewed c.in_err-blocks.ensures.ends.ended base now
    (changed now (file_added (file_gone now.state (record_in c.args.self.now.metadata c.args.slot)) (new_file c.args.name.now c.args.words.now.assigned.items c.args.payload.now))) c.from_residual.result (r.1 ∙ ap Err r.2) alone (subst H (sym c.self.view_is) holds)

pub replace_record-requires : goal.replace_record-requires
replace_record-requires g c = record {
  form = mid_form c.self.view_is c.args.slot c.args.name.now c.args.words.now.assigned.items c.args.payload.now c.in_ok-blocks.blocks.items c.self.invariant c.in_ok-blocks.ensures.ends.sound c.requires.may.0 c.in_ok-blocks.ensures.renewed;
  derived = c.requires.derived;
  may = mid_first c.self.view_is c.args.slot c.args.name.now c.args.words.now.assigned.items c.args.payload.now c.in_ok-blocks.blocks.items c.self.invariant c.in_ok-blocks.ensures.ends.sound c.requires.may.0 c.in_ok-blocks.ensures.renewed;
  in_form = mid_in_form c.self.view_is c.args.slot c.args.name.now c.args.words.now.assigned.items c.args.payload.now c.in_ok-blocks.blocks.items c.self.invariant c.in_ok-blocks.ensures.ends.sound c.requires.may.0 c.in_ok-blocks.ensures.renewed;
  below = mid_below c.self.view_is c.args.slot c.args.name.now c.args.words.now.assigned.items c.args.payload.now c.in_ok-blocks.blocks.items c.self.invariant c.in_ok-blocks.ensures.ends.sound c.requires.may.0 c.in_ok-blocks.ensures.renewed;
}

pub most_held-requires : goal.most_held-requires
most_held-requires g c =
    omega (arith, mid_short c.self.view_is c.args.slot c.args.name.now c.args.words.now.assigned.items c.args.payload.now c.in_ok-blocks.blocks.items c.self.invariant c.in_ok-blocks.ensures.ends.sound c.requires.may.0 c.in_ok-blocks.ensures.renewed)

pub hold-requires : goal.hold-requires
hold-requires g c = record {
  ready = written_saves c.self.view_is c.args.slot c.args.name.now c.args.words.now.assigned.items c.args.payload.now c.in_ok-blocks.blocks.items c.self.invariant c.in_ok-blocks.ensures.ends.sound c.requires.may.0 c.in_ok-blocks.ensures.renewed c.replace_record.ensures.refiles c.requires.usable.unbroken c.put_anew.new.self.is_broken;
  usable = record {
    unbroken = c.in_ok-blocks.ensures.ends.ended;
    long = omega (arith, c.requires.usable.long, same_blocks (mid_image c.self.view_is c.args.slot c.args.name.now c.args.words.now.assigned.items c.args.payload.now c.in_ok-blocks.blocks.items c.self.invariant c.in_ok-blocks.ensures.ends.sound c.requires.may.0 c.in_ok-blocks.ensures.renewed), c.in_ok-blocks.ensures.ends.disk.run.len);
  };
  unplaced = λ some. c.in_ok-blocks.ensures.renewed.unplaced (c.most_held.ensures.large some);
  within = λ _. written_within c.self.view_is c.args.slot c.args.name.now c.args.words.now.assigned.items c.args.payload.now c.in_ok-blocks.blocks.items c.self.invariant c.in_ok-blocks.ensures.ends.sound c.requires.may.0 c.in_ok-blocks.ensures.renewed c.replace_record.ensures.refiles;
  few = search rules;
}

pub returns-clause-holds : goal.returns-clause-holds
returns-clause-holds g c = λ base now holds.
    let new = stored c.hold.new.self in
    written_holds c.self.view_is c.args.slot c.args.name.now c.args.words.now.assigned.items c.args.payload.now c.in_ok-blocks.blocks.items c.self.invariant c.in_ok-blocks.ensures.ends.sound c.requires.may.0 c.in_ok-blocks.ensures.renewed c.replace_record.ensures.refiles
    base now holds c.requires.may.1 c.requires.alone new (g.D.Disk.meaning c.hold.new.disk) c.hold.result c.hold.ensures.saves

pub returns-clause-settled : goal.returns-clause-settled
returns-clause-settled g c = λ large.
    none_left (length c.args.payload.now) c.most_held.result c.hold.new.self.journal.staged c.hold.result c.most_held.ensures.large large c.hold.ensures.few

pub returns-clause-keeps : goal.returns-clause-keeps
returns-clause-keeps g c =
    let limits = written_same c.self.view_is c.args.slot c.args.name.now c.args.words.now.assigned.items c.args.payload.now c.in_ok-blocks.blocks.items c.self.invariant c.in_ok-blocks.ensures.ends.sound c.requires.may.0 c.in_ok-blocks.ensures.renewed c.replace_record.ensures.refiles in
    let edits = written_edits c.self.view_is c.args.slot c.args.name.now c.args.words.now.assigned.items c.args.payload.now c.in_ok-blocks.blocks.items c.self.invariant c.in_ok-blocks.ensures.ends.sound c.requires.may.0 c.in_ok-blocks.ensures.renewed c.replace_record.ensures.refiles in
    keeps_saved c.self.view_is limits edits c.in_ok-blocks.ensures.renewed.image c.hold.ensures.saved

pub put_anew-requires : goal.put_anew-requires
put_anew-requires g c =
    let there = anew_there c.self.view_is c.args.slot (draft_of (new_file c.args.name.now c.args.words.now.assigned.items c.args.payload.now)) c.requires.may.0 in
    let short = anew_small c.self.view_is c.args.slot (draft_of (new_file c.args.name.now c.args.words.now.assigned.items c.args.payload.now)) c.requires.may.0 in
    let enough = subst (λ (k : Stored). blocks_taken k.metadata.limits.version (length c.args.payload.now) ≤ free_for k.metadata (record_in k.metadata c.args.slot)) (sym c.self.view_is) c.requires.may.1 in
    let room = anew_room c.self.invariant (ap (λ (k : Stored). k.is_broken) c.self.view_is ∙ c.requires.usable.unbroken) in
    search (rules, there, short, enough, room)
