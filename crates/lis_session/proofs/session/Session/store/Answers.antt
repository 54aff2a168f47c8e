use Rattle.std.proofs.Common.{subst}
use Rattle.lis_store.specs.Stored.{IsSound}
use Rattle.lis_session.specs.Session.{Situated}
use Rattle.lis_session.proofs.session.Session.store.Goals as goal

pub returns-clause-sound : goal.returns-clause-sound
returns-clause-sound c = subst (λ (s : Situated). IsSound s.store) c.self.view_is c.self.invariant.sound
