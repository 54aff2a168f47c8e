use Rattle.std.proofs.Common.{◌≡◌, ap, refl}
use Rattle.lis_model.specs.Step.{Situation, refused, step}
use Rattle.lis_session.specs.Session.{Situated}
use Rattle.lis_session.proofs.Tallying.{tallied_still}
use Rattle.lis_session.proofs.session.Session.tally.Goals as goal

pub returns-in-Command-clause-tallies : goal.returns-in-Command-clause-tallies
unfolding step
returns-in-Command-clause-tallies g c =
    let store : c.self.inside.store ≡ c.args.self.now.store = ap (λ (s : Situated). s.store) c.self.view_is in
    let place : c.self.inside.place ≡ c.args.self.now.place = ap (λ (s : Situated). s.place) c.self.view_is in
    rw c.in-Command.is (rw (store, place) at c.tally_command.ensures.tallies)

pub returns-in-Bad-clause-tallies : goal.returns-in-Bad-clause-tallies
unfolding step
returns-in-Bad-clause-tallies g c =
    let store : c.self.inside.store ≡ c.args.self.now.store = ap (λ (s : Situated). s.store) c.self.view_is in
    let place : c.self.inside.place ≡ c.args.self.now.place = ap (λ (s : Situated). s.place) c.self.view_is in
    rw (c.in-Bad.is, c.no_listing.ensures, store, place) (λ state fitting.
    let now : Situation = record { state = state; place = c.args.self.now.place } in
    tallied_still (refused now c.in-Bad.field-0) 0 c.args.self.now.place _ _ fitting refl refl)
