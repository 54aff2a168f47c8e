use Rattle.std.proofs.Common.{refl, arith}
use Rattle.lis_memdisk.specs.History.{seen_of}
use Rattle.lis_memdisk.specs.Changes.Deed.{Syncs}
use Rattle.lis_memdisk.proofs.Steps.{sound_did}
use Rattle.lis_memdisk.proofs.Stored.{noted_sync, stored_sync}
use Rattle.lis_memdisk.proofs.history.History.note_sync.Goals as goal

pub invariant_of-self-clause-stored : goal.invariant_of-self-clause-stored
invariant_of-self-clause-stored c =
    let old = c.args.self.now in
    stored_sync old.given.items old.shown.items old.events.items c.note.new.events.items _ _ old.stored c.note.ensures.items

pub invariant_of-self-clause-sound : goal.invariant_of-self-clause-sound
invariant_of-self-clause-sound c = λ kept.
    let old = c.args.self.now in
    let changes = noted_sync old.given.items old.shown.items old.events.items c.note.new.events.items _ _ old.stored c.note.ensures.items in
    sound_did (seen_of old) _ Syncs 48 kept (old.sound kept)
    (record {
      kept = refl;
      start = refl;
      changes = λ _. changes;
      passes = λ _. omega arith;
      bytes = refl;
      shown = refl;
      left = omega arith;
    })
    refl
    refl

pub returns-clause-did : goal.returns-clause-did
returns-clause-did c =
    let old = c.args.self.now in
    let changes = noted_sync old.given.items old.shown.items old.events.items c.note.new.events.items _ _ old.stored c.note.ensures.items in
    record {
      kept = refl;
      start = refl;
      changes = λ _. changes;
      passes = λ _. omega arith;
      bytes = refl;
      shown = refl;
      left = omega arith;
    }
