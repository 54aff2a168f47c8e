use Rattle.std.proofs.Common.{ap, ◌∙◌, subst}
use Rattle.lis_ports.specs.Runs.{Leaves}
use Rattle.lis_journal.specs.declared.layout.Layout.{Layout}
use Rattle.lis_journal.specs.Images.{StandsForAllOrNone}
use Rattle.lis_journal.specs.Spreads.{Spreads, SamePast}
use Rattle.lis_journal.proofs.Saving.{on_ok, then_past}
use Rattle.lis_journal.proofs.Holding.{save_moments, saving_moments}
use Rattle.lis_journal.proofs.records.Records.save.Goals as goal

pub returns-in_err-make_room-clause-any_moment : goal.returns-in_err-make_room-clause-any_moment
returns-in_err-make_room-clause-any_moment g c = λ placed kept fits.
    saving_moments c.args.self.now.layout placed kept c.args.stage.now.entries (c.make_room.ensures.any_moment placed kept fits)

pub returns-clause-any_moment : goal.returns-clause-any_moment
returns-clause-any_moment g c = λ placed kept fits.
    let es = c.args.stage.now.entries in
    save_moments c.args.self.now.layout placed kept es (c.make_room.ensures.any_moment placed kept fits)
    (subst (λ b. Leaves (g.D.Disk.meaning c.make_room.new.disk) (g.D.Disk.meaning c.append.new.disk) (StandsForAllOrNone b placed kept es)) c.make_room.ensures.layout (c.append.ensures.any_moment placed kept (c.in_ok-make_room.ensures.kept placed kept fits)))

pub returns-clause-kept : goal.returns-clause-kept
returns-clause-kept g c =
    on_ok c.append.result (λ keeps. λ placed kept fits. keeps placed kept (c.in_ok-make_room.ensures.kept placed kept fits)) c.append.ensures.kept

pub returns-clause-past : goal.returns-clause-past
returns-clause-past g c = λ honest.
    then_past (c.make_room.ensures.past honest)
    (subst (λ b. Spreads (g.D.Disk.meaning c.make_room.new.disk) (g.D.Disk.meaning c.append.new.disk) (SamePast b)) (ap (λ (l : Layout). l.blocks) c.make_room.ensures.layout) (c.append.ensures.past (c.make_room.ensures.disk.run.honest ∙ honest)))
