use Rattle.std.proofs.Common.{◌≡◌, ◌+◌, length, refl, arith, rules}
use Rattle.std.proofs.lemmas.Bool.{lt-ltb}
use Rattle.lis_memdisk.specs.History.{seen_of}
use Rattle.lis_memdisk.specs.Changes.Deed.{Shows}
use Rattle.lis_memdisk.proofs.Steps.{sound_did}
use Rattle.lis_memdisk.proofs.Stored.{noted_show, stored_show}
use Rattle.lis_memdisk.proofs.history.History.note_show.Goals as goal

pub invariant_of-self-clause-stored : goal.invariant_of-self-clause-stored
invariant_of-self-clause-stored c =
    let old = c.args.self.now in
    let from : c.len.result ≡ length old.shown.items = search rules in
    stored_show old.given.items old.shown.items c.keep.new.kept.items c.args.piece.now old.events.items c.note.new.events.items _ _ c.len.result old.stored c.keep.ensures.items from c.note.ensures.items

pub invariant_of-self-clause-sound : goal.invariant_of-self-clause-sound
invariant_of-self-clause-sound c = λ kept.
    let old = c.args.self.now in
    let from : c.len.result ≡ length old.shown.items = search rules in
    let changes = noted_show old.given.items old.shown.items c.keep.new.kept.items c.args.piece.now old.events.items c.note.new.events.items _ _ c.len.result old.stored c.keep.ensures.items from c.note.ensures.items in
    sound_did (seen_of old) _ (Shows c.args.piece.now) (48 + length c.args.piece.now) kept (old.sound kept)
    (record {
      kept = refl;
      start = refl;
      changes = λ _. changes;
      passes = λ _. omega arith;
      bytes = refl;
      shown = c.keep.ensures.items;
      left = omega arith;
    })
    refl
    (lt-ltb 0 _ (omega arith))

pub returns-clause-did : goal.returns-clause-did
returns-clause-did c =
    let old = c.args.self.now in
    let from : c.len.result ≡ length old.shown.items = search rules in
    let changes = noted_show old.given.items old.shown.items c.keep.new.kept.items c.args.piece.now old.events.items c.note.new.events.items _ _ c.len.result old.stored c.keep.ensures.items from c.note.ensures.items in
    record {
      kept = refl;
      start = refl;
      changes = λ _. changes;
      passes = λ _. omega arith;
      bytes = refl;
      shown = c.keep.ensures.items;
      left = omega arith;
    }
