use Rattle.std.proofs.Common.{ℕ, List, [], ◌<◌, ap, subst, arith}
use Rattle.lis_ports.specs.Runs.{Leaves}
use Rattle.lis_journal.specs.Journal.{no_records}
use Rattle.lis_journal.specs.Images.{StandsBut, FitsAt}
use Rattle.lis_journal.specs.Spreads.{Spreads, SamePast}
use Rattle.lis_journal.specs.Inside.{Log}
use Rattle.lis_journal.proofs.Saving.{around_past}
use Rattle.lis_journal.proofs.Holding.{fits_opened}
use Rattle.lis_journal.proofs.records.Records.clear.Goals as goal

pub returns-in_err-checkpoint-clause-any_moment : goal.returns-in_err-checkpoint-clause-any_moment
returns-in_err-checkpoint-clause-any_moment g c =
    let old = g.D.Disk.meaning c.args.disk.now in
    let new = g.D.Disk.meaning c.checkpoint.new.disk in
    let some : 0 < c.self.inside.count = omega (arith, c.requires.some, ap (λ (log : Log). log.records.count) c.self.view_is) in
    subst (λ (log : Log). (placed : List ℕ) (kept : ℕ → List ℕ) → FitsAt log.layout log.records placed old kept → Leaves old new (StandsBut log.layout placed kept)) c.self.view_is
    (λ placed kept fits. c.checkpoint.ensures.any_moment c.self.inside.count c.self.inside.next placed kept (fits_opened some fits))

pub returns-in_err-checkpoint-clause-past : goal.returns-in_err-checkpoint-clause-past
returns-in_err-checkpoint-clause-past g c = λ honest.
    subst (λ (log : Log). Spreads (g.D.Disk.meaning c.args.disk.now) (g.D.Disk.meaning c.checkpoint.new.disk) (SamePast log.layout.blocks)) c.self.view_is
    (around_past (c.checkpoint.ensures.around honest))

pub returns-clause-any_moment : goal.returns-clause-any_moment
returns-clause-any_moment g c =
    let old = g.D.Disk.meaning c.args.disk.now in
    let new = g.D.Disk.meaning c.checkpoint.new.disk in
    let some : 0 < c.self.inside.count = omega (arith, c.requires.some, ap (λ (log : Log). log.records.count) c.self.view_is) in
    subst (λ (log : Log). (placed : List ℕ) (kept : ℕ → List ℕ) → FitsAt log.layout log.records placed old kept → Leaves old new (StandsBut log.layout placed kept)) c.self.view_is
    (λ placed kept fits. c.checkpoint.ensures.any_moment c.self.inside.count c.self.inside.next placed kept (fits_opened some fits))

pub returns-clause-kept : goal.returns-clause-kept
returns-clause-kept g c =
    let old = g.D.Disk.meaning c.args.disk.now in
    let new = g.D.Disk.meaning c.checkpoint.new.disk in
    let some : 0 < c.self.inside.count = omega (arith, c.requires.some, ap (λ (log : Log). log.records.count) c.self.view_is) in
    subst (λ (log : Log). (placed : List ℕ) (kept : ℕ → List ℕ) → FitsAt log.layout log.records placed old kept → FitsAt log.layout no_records [] new kept) c.self.view_is
    (λ placed kept fits. c.in_ok-checkpoint.ensures.kept c.self.inside.count c.self.inside.next placed kept (fits_opened some fits))

pub returns-clause-past : goal.returns-clause-past
returns-clause-past g c = λ honest.
    subst (λ (log : Log). Spreads (g.D.Disk.meaning c.args.disk.now) (g.D.Disk.meaning c.checkpoint.new.disk) (SamePast log.layout.blocks)) c.self.view_is
    (around_past (c.checkpoint.ensures.around honest))
