use Rattle.std.proofs.Common.{◌≡◌, ap}
use Rattle.lis_session.specs.Session.{Situated}
use Rattle.lis_session.proofs.Holding.{kept_ends, unbroken_held}
use Rattle.lis_session.proofs.Written.{holds_written}
use Rattle.lis_session.proofs.session.Session.hold.Goals as goal

pub returns-clause-holds : goal.returns-clause-holds
returns-clause-holds g c =
    let store : c.self.inside.store ≡ c.args.self.now.store = ap (λ (s : Situated). s.store) c.self.view_is in
    let place : c.self.inside.place ≡ c.args.self.now.place = ap (λ (s : Situated). s.place) c.self.view_is in
    holds_written c.write_of-write.result c.write_of-write.ensures.written (rw (store, place) at c.hold.ensures.holds)

pub returns-clause-keeps : goal.returns-clause-keeps
returns-clause-keeps g c =
    let store : c.self.inside.store ≡ c.args.self.now.store = ap (λ (s : Situated). s.store) c.self.view_is in
    let keeps = rw store at c.hold.ensures.keeps in
    record {
      left = record {
        limits = keeps.limits;
        image = keeps.image;
        unbroken = unbroken_held c.args.self.now.store c.hold.new.self c.hold.result c.requires.usable.unbroken keeps.left;
      };
      sound = keeps.sound;
      ends = kept_ends c.hold.result c.hold.ensures.disk.run c.hold.ensures.disk.cause c.hold.ensures.disk.first_fault;
    }

pub hold-requires-clause-whole : goal.hold-requires-clause-whole
hold-requires-clause-whole g c = c.write_of-write.ensures.whole c.self.inside.store.metadata.limits
