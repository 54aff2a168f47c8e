use Rattle.std.proofs.Common.{ℕ, List, ◌∷◌, refl, sym, ◌∙◌, subst, arith}
use Rattle.std.proofs.lemmas.List.{take_all}
use Rattle.lis_ports.specs.Runs.{Leaves}
use Rattle.lis_journal.specs.declared.layout.Layout.{Layout}
use Rattle.lis_journal.specs.Images.{Fits, FitsAt, StandsBut, KeepsPast, with_kept, with_placed}
use Rattle.lis_journal.specs.Journal.{Held}
use Rattle.lis_journal.specs.Spreads.{Spreads, SamePast}
use Rattle.lis_journal.proofs.Holding.{fits_among}
use Rattle.lis_journal.proofs.Fitting.{fits_told, past_kept, among_more}
use Rattle.lis_journal.proofs.journal.Journal.place.Goals as goal

pub returns-in-Ok-clause-any_moment : goal.returns-in-Ok-clause-any_moment
returns-in-Ok-clause-any_moment g c =
    let old = g.D.Disk.meaning c.args.disk.now in
    let new = g.D.Disk.meaning c.write_homes.new.disk in
    let placed = c.self.inside.placed.items in
    subst (λ (h : Held). (kept : ℕ → List ℕ) → Fits h old kept → Leaves old new (StandsBut h.layout (c.args.n ∷ h.placed) kept)) c.self.view_is
    (λ kept fits. subst (λ b. Leaves old new (StandsBut b (c.args.n ∷ placed) kept)) c.self.invariant.same
    (c.write_homes.ensures.any_moment placed kept (fits_told (sym c.self.invariant.same) refl refl fits)))

pub returns-in-Err-clause-any_moment : goal.returns-in-Err-clause-any_moment
returns-in-Err-clause-any_moment g c =
    let old = g.D.Disk.meaning c.args.disk.now in
    let new = g.D.Disk.meaning c.write_homes.new.disk in
    let placed = c.self.inside.placed.items in
    subst (λ (h : Held). (kept : ℕ → List ℕ) → Fits h old kept → Leaves old new (StandsBut h.layout (c.args.n ∷ h.placed) kept)) c.self.view_is
    (λ kept fits. subst (λ b. Leaves old new (StandsBut b (c.args.n ∷ placed) kept)) c.self.invariant.same
    (c.write_homes.ensures.any_moment placed kept (fits_told (sym c.self.invariant.same) refl refl fits)))

pub returns-in-Ok-clause-kept : goal.returns-in-Ok-clause-kept
returns-in-Ok-clause-kept g c =
    let old = g.D.Disk.meaning c.args.disk.now in
    let new = g.D.Disk.meaning c.write_homes.new.disk in
    let placed = c.self.inside.placed.items in
    let n = c.args.n in
    subst (λ (h : Held). (kept : ℕ → List ℕ) → Fits h old kept → Fits c.note_placed.new.self new (with_kept n c.args.bytes.now kept)) c.self.view_is
    (λ kept fits. subst (λ (h : Held). Fits h new (with_kept n c.args.bytes.now kept)) (sym c.note_placed.ensures)
    (fits_among (n ∷ placed) (with_placed placed n) (among_more placed n)
    (fits_told (c.write_homes.ensures.layout ∙ c.self.invariant.same) refl refl
    (subst (λ bytes. FitsAt c.write_homes.new.self.layout c.write_homes.new.self.records (n ∷ placed) new (with_kept n bytes kept)) (take_all 4096 c.args.bytes.now (omega (arith, c.requires.whole)))
    (c.in-Ok.ensures.kept placed kept (fits_told (sym c.self.invariant.same) refl refl fits))))))

pub returns-in-Ok-clause-past : goal.returns-in-Ok-clause-past
returns-in-Ok-clause-past g c =
    let old = g.D.Disk.meaning c.args.disk.now in
    let new = g.D.Disk.meaning c.write_homes.new.disk in
    subst (λ (h : Held). (kept : ℕ → List ℕ) → Fits h old kept → KeepsPast h.layout.blocks old new) c.self.view_is
    (λ kept fits. past_kept c.self.invariant.within fits (subst (λ (l : Layout). Spreads old new (SamePast l.blocks)) c.self.invariant.same (c.write_homes.ensures.past fits.honest)))

pub returns-in-Err-clause-past : goal.returns-in-Err-clause-past
returns-in-Err-clause-past g c =
    let old = g.D.Disk.meaning c.args.disk.now in
    let new = g.D.Disk.meaning c.write_homes.new.disk in
    subst (λ (h : Held). (kept : ℕ → List ℕ) → Fits h old kept → KeepsPast h.layout.blocks old new) c.self.view_is
    (λ kept fits. past_kept c.self.invariant.within fits (subst (λ (l : Layout). Spreads old new (SamePast l.blocks)) c.self.invariant.same (c.write_homes.ensures.past fits.honest)))
