use Rattle.lis_store.proofs.Common.{◌∙◌, arith}
use Rattle.lis_kept.proofs.Image.{same_blocks}
use Rattle.lis_store.specs.Memory.{stored}
use Rattle.lis_store.proofs.Saved.{not_placed, save_keeps, sound_held, sound_committed, none_placed, change_held, change_committed}
use Rattle.lis_store.proofs.memory.Memory.hold.Goals as goal

pub stage-requires-clause-unplaced : goal.stage-requires-clause-unplaced
stage-requires-clause-unplaced g c = not_placed c.args.self.now.metadata c.args.self.now.journal c.requires.ready.placed

pub commit-requires-clause-usable : goal.commit-requires-clause-usable
commit-requires-clause-usable g c = record {
  unbroken = c.stage.ensures.staged.broken ∙ c.requires.ready.unbroken;
  long = omega (arith, same_blocks c.stage.ensures.staged.image, c.requires.usable.long);
}

pub returns-then-staged-most-clause-saved : goal.returns-then-staged-most-clause-saved
returns-then-staged-most-clause-saved g c =
    let old = c.args.self.now in
    let new = c.commit.new.self in
    let staged = c.stage.ensures.staged in
    let cleaned = c.commit.ensures.metadata ∙ c.settle.ensures.settled in
    let image = c.commit.ensures.image ∙ staged.image in
    let sound =
    sound_committed old.metadata old.journal new.journal (c.requires.ready.settles c.stage.ensures.sound) image
    c.stage.new.journal (g.D.Disk.meaning c.args.disk.now) (g.D.Disk.meaning c.commit.new.disk) new.metadata new.is_broken c.commit.result cleaned
    (staged.broken ∙ c.requires.ready.unbroken) (omega arith) c.commit.ensures.keeps c.commit.ensures.ended in
    save_keeps (stored old) (stored new) sound cleaned image c.commit.ensures.ended

pub returns-then-staged-most-clause-saves : goal.returns-then-staged-most-clause-saves
returns-then-staged-most-clause-saves g c = λ base now outcome t kept fits limits stood ready is.
    let old = c.args.self.now in
    let new = c.commit.new.self in
    change_committed old.metadata old.journal c.stage.new.journal (g.D.Disk.meaning c.args.disk.now) c.stage.ensures.staged c.stage.ensures.sound (c.requires.ready.settles c.stage.ensures.sound) c.requires.ready.image
    base now outcome t kept fits limits stood (ready c.stage.ensures.sound) is new.journal (g.D.Disk.meaning c.commit.new.disk) c.commit.result c.commit.ensures.keeps
    new.metadata new.is_broken (c.commit.ensures.metadata ∙ c.settle.ensures.settled) c.commit.ensures.ended

pub returns-clause-saved : goal.returns-clause-saved
returns-clause-saved g c =
    let old = c.args.self.now in
    let staged = c.stage.ensures.staged in
    let sound =
    sound_held old.metadata old.journal c.stage.new.journal (c.requires.ready.settles c.stage.ensures.sound) staged.image c.settle.new.self old.is_broken c.settle.ensures.settled
    (staged.broken ∙ c.requires.ready.unbroken) (omega (arith, c.requires.few)) c.staged.ensures.whole
    (none_placed old.metadata old.journal c.stage.new.journal c.args.most c.requires.ready.placed c.requires.within staged c.requires.unplaced (omega arith)) in
    save_keeps (stored old) _ sound c.settle.ensures.settled staged.image c.requires.usable.unbroken

pub returns-clause-saves : goal.returns-clause-saves
returns-clause-saves g c = λ base now outcome t kept fits limits stood ready is.
    let old = c.args.self.now in
    change_held old.metadata old.journal c.stage.new.journal (g.D.Disk.meaning c.args.disk.now) c.stage.ensures.staged c.stage.ensures.sound (c.requires.ready.settles c.stage.ensures.sound) c.requires.ready.image
    base now outcome t kept fits limits stood (ready c.stage.ensures.sound) is c.settle.new.self old.is_broken _ c.settle.ensures.settled c.requires.usable.unbroken
