use Rattle.std.proofs.Common.{◌≡◌, ap}
use Rattle.lis_kept.specs.Metadata.{Metadata}
use Rattle.lis_session.specs.Session.{Situated}
use Rattle.lis_session.proofs.Holding.{kept_ends, unbroken_committed}
use Rattle.lis_session.proofs.session.Session.commit.Goals as goal

pub returns-clause-commits : goal.returns-clause-commits
returns-clause-commits g c =
    let store : c.self.inside.store ≡ c.args.self.now.store = ap (λ (s : Situated). s.store) c.self.view_is in
    rw store at c.commit.ensures.commits

pub returns-clause-keeps : goal.returns-clause-keeps
returns-clause-keeps g c =
    let store : c.self.inside.store ≡ c.args.self.now.store = ap (λ (s : Situated). s.store) c.self.view_is in
    record {
      left = record {
        limits = ap (λ (k : Metadata). k.limits) (rw store at c.commit.ensures.metadata);
        image = rw store at c.commit.ensures.image;
        unbroken = unbroken_committed c.commit.new.self c.commit.result c.commit.ensures.left;
      };
      sound = c.commit.ensures.sound;
      ends = kept_ends c.commit.result c.commit.ensures.disk.run c.commit.ensures.disk.cause c.commit.ensures.disk.first_fault;
    }
