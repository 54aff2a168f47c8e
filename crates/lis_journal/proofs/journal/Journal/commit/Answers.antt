use Rattle.std.proofs.Common.{ℕ, List, refl, sym, ◌∙◌, ap, subst}
use Rattle.lis_ports.specs.Runs.{Leaves}
use Rattle.lis_journal.specs.declared.layout.Layout.{Layout}
use Rattle.lis_journal.specs.Images.{Fits, FitsAt, StandsForAllOrNone, KeepsPast, look}
use Rattle.lis_journal.specs.Journal.{Held}
use Rattle.lis_journal.specs.Spreads.{Spreads, SamePast}
use Rattle.lis_journal.specs.Staging.{Staging}
use Rattle.lis_journal.proofs.Fitting.{fits_told, past_kept}
use Rattle.lis_journal.proofs.journal.Journal.commit.Goals as goal

pub returns-in-Ok-clause-any_moment : goal.returns-in-Ok-clause-any_moment
returns-in-Ok-clause-any_moment g c =
    let old = g.D.Disk.meaning c.args.disk.now in
    let new = g.D.Disk.meaning c.save.new.disk in
    let inside = c.self.inside in
    subst (λ (h : Held). (kept : ℕ → List ℕ) → Fits h old kept → Leaves old new (StandsForAllOrNone h.layout h.placed kept h.staged)) c.self.view_is
    (λ kept fits. subst (λ b. Leaves old new (StandsForAllOrNone b inside.placed.items kept inside.stage.entries)) c.self.invariant.same
    (c.save.ensures.any_moment inside.placed.items kept (fits_told (sym c.self.invariant.same) refl refl fits)))

pub returns-in-Err-clause-any_moment : goal.returns-in-Err-clause-any_moment
returns-in-Err-clause-any_moment g c =
    let old = g.D.Disk.meaning c.args.disk.now in
    let new = g.D.Disk.meaning c.save.new.disk in
    let inside = c.self.inside in
    subst (λ (h : Held). (kept : ℕ → List ℕ) → Fits h old kept → Leaves old new (StandsForAllOrNone h.layout h.placed kept h.staged)) c.self.view_is
    (λ kept fits. subst (λ b. Leaves old new (StandsForAllOrNone b inside.placed.items kept inside.stage.entries)) c.self.invariant.same
    (c.save.ensures.any_moment inside.placed.items kept (fits_told (sym c.self.invariant.same) refl refl fits)))

pub returns-in-Ok-clause-kept : goal.returns-in-Ok-clause-kept
returns-in-Ok-clause-kept g c =
    let old = g.D.Disk.meaning c.args.disk.now in
    let new = g.D.Disk.meaning c.save.new.disk in
    let inside = c.self.inside in
    let blocks = c.save.ensures.layout ∙ (c.self.invariant.same ∙ sym (ap (λ (s : Staging). s.layout) c.clear.ensures)) in
    subst (λ (h : Held). (kept : ℕ → List ℕ) → Fits h old kept → FitsAt c.clear.new.self.layout c.save.new.self.records c.clear-in-Ok.new.self.items new (λ n. look h.staged n (kept n))) c.self.view_is
    (λ kept fits. fits_told blocks refl (sym c.clear-in-Ok.ensures.items) (c.in-Ok.ensures.kept inside.placed.items kept (fits_told (sym c.self.invariant.same) refl refl fits)))

pub returns-in-Ok-clause-past : goal.returns-in-Ok-clause-past
returns-in-Ok-clause-past g c =
    let old = g.D.Disk.meaning c.args.disk.now in
    let new = g.D.Disk.meaning c.save.new.disk in
    subst (λ (h : Held). (kept : ℕ → List ℕ) → Fits h old kept → KeepsPast h.layout.blocks old new) c.self.view_is
    (λ kept fits. past_kept c.self.invariant.within fits (subst (λ (l : Layout). Spreads old new (SamePast l.blocks)) c.self.invariant.same (c.save.ensures.past fits.honest)))

pub returns-in-Err-clause-past : goal.returns-in-Err-clause-past
returns-in-Err-clause-past g c =
    let old = g.D.Disk.meaning c.args.disk.now in
    let new = g.D.Disk.meaning c.save.new.disk in
    subst (λ (h : Held). (kept : ℕ → List ℕ) → Fits h old kept → KeepsPast h.layout.blocks old new) c.self.view_is
    (λ kept fits. past_kept c.self.invariant.within fits (subst (λ (l : Layout). Spreads old new (SamePast l.blocks)) c.self.invariant.same (c.save.ensures.past fits.honest)))
