-- The answers of one more record: it is written, and then its gate is opened.
use Rattle.std.proofs.Common.{◌∙◌, arith}
use Rattle.lis_ports.proofs.Moments.{leaves_then}
use Rattle.lis_journal.proofs.Saving.{plan_of, on_ok, record_moments, record_written, opening_moments, appended, torn_past, then_past}
use Rattle.lis_journal.proofs.commit.append.Goals as goal

pub returns-in_err-write_record-clause-any_moment :
    goal.returns-in_err-write_record-clause-any_moment
returns-in_err-write_record-clause-any_moment g c = λ latest placed kept fits.
    record_moments c.args.stage.now.entries c.requires.room fits (c.write_record.ensures.spreads fits.honest)

pub returns-in_err-write_record-clause-past : goal.returns-in_err-write_record-clause-past
returns-in_err-write_record-clause-past g c = λ honest.
    torn_past c.args.stage.now.layout _ _ c.requires.blocks (omega (arith, c.requires.room)) (c.write_record.ensures.spreads honest)

pub returns-clause-any_moment : goal.returns-clause-any_moment
returns-clause-any_moment g c = λ latest placed kept fits.
    let es = c.args.stage.now.entries in
    let plan = plan_of c.args.stage.now c.requires.blocks c.requires.staging in
    let honest = c.write_record.ensures.disk.run.honest ∙ fits.honest in
    let unsure = record_written es c.args.header.now plan c.requires.few c.requires.room c.requires.header c.requires.form c.requires.homes fits (c.in_ok-write_record.ensures.settled fits.honest) in
    leaves_then (record_moments es c.requires.room fits (c.write_record.ensures.spreads fits.honest)) (opening_moments es placed unsure (c.write_gate.ensures.spreads honest))

pub returns-clause-kept : goal.returns-clause-kept
returns-clause-kept g c = on_ok c.write_gate.result (λ settled. λ latest later placed kept absorbs fits.
    let es = c.args.stage.now.entries in
    let plan = plan_of c.args.stage.now c.requires.blocks c.requires.staging in
    let honest = c.write_record.ensures.disk.run.honest ∙ fits.honest in
    let unsure = record_written es c.args.header.now plan c.requires.few c.requires.room c.requires.header c.requires.form c.requires.homes fits (c.in_ok-write_record.ensures.settled fits.honest) in
    appended es later (c.write_gate.ensures.disk.run.honest ∙ honest) absorbs unsure (settled honest))
    c.write_gate.ensures.settled

pub returns-clause-past : goal.returns-clause-past
returns-clause-past g c = λ honest.
    then_past
    (torn_past c.args.stage.now.layout _ _ c.requires.blocks (omega (arith, c.requires.room)) (c.write_record.ensures.spreads honest))
    (torn_past c.args.stage.now.layout _ _ c.requires.blocks (omega (arith, c.requires.few)) (c.write_gate.ensures.spreads (c.write_record.ensures.disk.run.honest ∙ honest)))
