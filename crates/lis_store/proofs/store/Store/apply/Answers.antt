use Rattle.lis_store.proofs.Common.{◌∙◌, sym, ap, subst, Err, err_from_is_err_and, rules, State, Situation}
use Rattle.lis_store.specs.Changes.{ChangeLeft, Holds}
use Rattle.lis_store.specs.Stored.{StoreFits, StoreHolds}
use Rattle.lis_store.specs.Writes.{written}
use Rattle.lis_store.proofs.Holding.{fits_held, changes_applied, applies_ended, applies_committed}
use Rattle.lis_store.proofs.Keeping.{keeps_committed}
use Rattle.lis_store.proofs.store.Store.apply.Goals as goal

pub returns-in_err-hold : goal.returns-in_err-hold
returns-in_err-hold g c =
    let p = err_from_is_err_and c.from_residual.result c.from_residual.ensures.1 in
    let ends = p.1 ∙ ap Err p.2 in
    let applies = λ (base s : State) (holds : StoreHolds c.args.self.now (g.D.Disk.meaning c.args.disk.now) base s).
    applies_ended c.in_err-hold.was ends (c.hold.ensures.holds base s holds) in
    let left = subst (λ r. ChangeLeft c.args.self.now c.hold.new.self r) (c.in_err-hold.was ∙ sym ends) c.hold.ensures.keeps.left in
    let changes = λ (s : State) (fits : StoreFits c.args.self.now (g.D.Disk.meaning c.args.disk.now) s).
    changes_applied fits left (applies s s (fits_held c.args.self.now (g.D.Disk.meaning c.args.disk.now) s c.hold.ensures.entry fits)) in
    search (rules, changes, applies)

pub returns-clause-applies : goal.returns-clause-applies
returns-clause-applies g c = λ base s holds.
    let now : Situation = record { state = s; place = c.args.place.now } in
    let held = subst (λ r. Holds base now (written now c.args.write) c.hold.new.self (g.D.Disk.meaning c.args.disk.now) (g.D.Disk.meaning c.hold.new.disk) r) c.in_ok-hold.was (c.hold.ensures.holds base s holds) in
    applies_committed holds c.hold.ensures.keeps.limits held c.commit.ensures.commits

pub returns-clause-changes : goal.returns-clause-changes
returns-clause-changes g c = λ s fits.
    let now : Situation = record { state = s; place = c.args.place.now } in
    let holds = fits_held c.args.self.now (g.D.Disk.meaning c.args.disk.now) s c.hold.ensures.entry fits in
    let held = subst (λ r. Holds s now (written now c.args.write) c.hold.new.self (g.D.Disk.meaning c.args.disk.now) (g.D.Disk.meaning c.hold.new.disk) r) c.in_ok-hold.was (c.hold.ensures.holds s s holds) in
    let keeps = keeps_committed c.commit.result c.hold.ensures.keeps c.commit.ensures.sound c.commit.ensures.left c.commit.ensures.metadata c.commit.ensures.image in
    changes_applied fits keeps.left (applies_committed holds c.hold.ensures.keeps.limits held c.commit.ensures.commits)

pub returns-clause-keeps : goal.returns-clause-keeps
returns-clause-keeps g c = keeps_committed c.commit.result c.hold.ensures.keeps c.commit.ensures.sound c.commit.ensures.left c.commit.ensures.metadata c.commit.ensures.image
