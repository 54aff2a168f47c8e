use Rattle.std.proofs.Common.{◌≡◌, ◌+◌, length, refl, arith, rules}
use Rattle.std.proofs.lemmas.Bool.{le-leb}
use Rattle.lis_memdisk.specs.History.{seen_of}
use Rattle.lis_memdisk.specs.Changes.Deed.{Writes}
use Rattle.lis_memdisk.proofs.Steps.{sound_did}
use Rattle.lis_memdisk.proofs.Stored.{noted_write, stored_write}
use Rattle.lis_memdisk.proofs.history.History.note_write.Goals as goal

pub invariant_of-self-clause-stored : goal.invariant_of-self-clause-stored
invariant_of-self-clause-stored c =
    let old = c.args.self.now in
    let from : c.len.result ≡ length old.given.items = search rules in
    stored_write old.given.items old.shown.items c.keep.new.kept.items c.args.bytes.now old.events.items c.note.new.events.items _ _ c.args.place c.len.result old.stored c.keep.ensures.items from c.note.ensures.items

pub invariant_of-self-clause-sound : goal.invariant_of-self-clause-sound
invariant_of-self-clause-sound c = λ kept.
    let old = c.args.self.now in
    let from : c.len.result ≡ length old.given.items = search rules in
    let changes = noted_write old.given.items old.shown.items c.keep.new.kept.items c.args.bytes.now old.events.items c.note.new.events.items _ _ c.args.place c.len.result old.stored c.keep.ensures.items from c.note.ensures.items in
    sound_did (seen_of old) _ (Writes c.args.place c.args.bytes.now) (48 + length c.args.bytes.now) kept (old.sound kept)
    (record {
      kept = refl;
      start = refl;
      changes = λ _. changes;
      passes = λ _. omega arith;
      bytes = c.overwrite_vec.ensures.bytes;
      shown = refl;
      left = omega arith;
    })
    (le-leb _ _ c.requires.within)
    refl

pub returns-clause-did : goal.returns-clause-did
returns-clause-did c =
    let old = c.args.self.now in
    let from : c.len.result ≡ length old.given.items = search rules in
    let changes = noted_write old.given.items old.shown.items c.keep.new.kept.items c.args.bytes.now old.events.items c.note.new.events.items _ _ c.args.place c.len.result old.stored c.keep.ensures.items from c.note.ensures.items in
    record {
      kept = refl;
      start = refl;
      changes = λ _. changes;
      passes = λ _. omega arith;
      bytes = c.overwrite_vec.ensures.bytes;
      shown = refl;
      left = omega arith;
    }
