use Rattle.lis_store.proofs.Common.{ap}
use Rattle.lis_store.specs.declared.memory.Memory.{Memory}
use Rattle.lis_store.specs.Memory.{stored}
use Rattle.lis_store.proofs.Saved.{committed_sound, committed}
use Rattle.lis_store.proofs.SavedAlone.{whole_view, held_view}
use Rattle.lis_store.proofs.store.Store.commit.Goals as goal

pub invariant_of-self : goal.invariant_of-self
invariant_of-self g c =
    let new = c.commit.new.self in
    committed_sound (stored c.self.inside.memory) new.metadata new.journal new.is_broken (g.D.Disk.meaning c.args.disk.now) (g.D.Disk.meaning c.commit.new.disk) c.commit.result c.self.invariant
    (whole_view c.self.view_is c.requires.usable.unbroken) c.commit.ensures.metadata c.commit.ensures.keeps (λ none. ap (λ (k : Memory). k.journal) (c.commit.ensures.idle none).2) c.commit.ensures.ended

pub returns-clause-sound : goal.returns-clause-sound
returns-clause-sound g c =
    let new = c.commit.new.self in
    committed_sound (stored c.self.inside.memory) new.metadata new.journal new.is_broken (g.D.Disk.meaning c.args.disk.now) (g.D.Disk.meaning c.commit.new.disk) c.commit.result c.self.invariant
    (whole_view c.self.view_is c.requires.usable.unbroken) c.commit.ensures.metadata c.commit.ensures.keeps (λ none. ap (λ (k : Memory). k.journal) (c.commit.ensures.idle none).2) c.commit.ensures.ended

pub returns-clause-commits : goal.returns-clause-commits
returns-clause-commits g c = λ base s holds.
    let new = c.commit.new.self in
    committed (stored c.self.inside.memory) new.metadata new.journal new.is_broken (g.D.Disk.meaning c.args.disk.now) (g.D.Disk.meaning c.commit.new.disk) c.commit.result c.self.invariant
    (whole_view c.self.view_is c.requires.usable.unbroken) c.commit.ensures.metadata c.commit.ensures.keeps (λ none. ap (λ (k : Memory). k.journal) (c.commit.ensures.idle none).2) c.commit.ensures.ended
    base s (held_view c.self.view_is holds)
