-- The answers of a checkpoint: the homes, gate 0, and the other gates.
use Rattle.std.proofs.Common.{◌∙◌, arith}
use Rattle.lis_ports.proofs.Moments.{leaves_then}
use Rattle.lis_journal.proofs.Saving.{plan_of, on_ok, homes_moments, homes_homed, closing_moments, first_shut, others_moments, others_fit, all_closed_settled, homes_around, gate_around}
use Rattle.lis_journal.proofs.commit.checkpoint.Goals as goal

pub returns-in_err-write_synced-clause-any_moment :
    goal.returns-in_err-write_synced-clause-any_moment
returns-in_err-write_synced-clause-any_moment g c = λ count next placed kept opened.
    let plan = plan_of c.args.latest.now c.requires.blocks c.write_synced.ensures.staging in
    homes_moments plan opened (c.write_synced.ensures.spreads opened.honest)

pub returns-in_err-write_synced-clause-around : goal.returns-in_err-write_synced-clause-around
returns-in_err-write_synced-clause-around g c = λ honest.
    homes_around (plan_of c.args.latest.now c.requires.blocks c.write_synced.ensures.staging) (c.write_synced.ensures.spreads honest)

pub returns-in_err-write_gate-clause-any_moment : goal.returns-in_err-write_gate-clause-any_moment
returns-in_err-write_gate-clause-any_moment g c = λ count next placed kept opened.
    let plan = plan_of c.args.latest.now c.requires.blocks c.write_synced.ensures.staging in
    let homed = homes_homed plan opened (c.in_ok-write_synced.ensures.settled opened.honest) in
    let still = c.write_synced.ensures.disk.run.honest ∙ opened.honest in
    leaves_then (homes_moments plan opened (c.write_synced.ensures.spreads opened.honest))
    (closing_moments plan opened homed (c.write_gate.ensures.spreads still))

pub returns-in_err-write_gate-clause-around : goal.returns-in_err-write_gate-clause-around
returns-in_err-write_gate-clause-around g c = λ honest.
    let plan = plan_of c.args.latest.now c.requires.blocks c.write_synced.ensures.staging in
    gate_around c.args.latest.now.layout c.requires.blocks 4096 1 (omega arith) (homes_around plan (c.write_synced.ensures.spreads honest)) (c.write_gate.ensures.spreads (c.write_synced.ensures.disk.run.honest ∙ honest))

pub returns-clause-any_moment : goal.returns-clause-any_moment
returns-clause-any_moment g c = λ count next placed kept opened.
    let plan = plan_of c.args.latest.now c.requires.blocks c.write_synced.ensures.staging in
    let homed = homes_homed plan opened (c.in_ok-write_synced.ensures.settled opened.honest) in
    let still = c.write_synced.ensures.disk.run.honest ∙ opened.honest in
    let then_still = c.write_gate.ensures.disk.run.honest ∙ still in
    let shut = first_shut plan opened homed (c.in_ok-write_gate.ensures.settled still) in
    leaves_then (homes_moments plan opened (c.write_synced.ensures.spreads opened.honest))
    (leaves_then (closing_moments plan opened homed (c.write_gate.ensures.spreads still))
    (others_moments placed shut (c.close_others.ensures.spreads then_still)))

pub returns-clause-kept : goal.returns-clause-kept
returns-clause-kept g c = on_ok c.close_others.result (λ settled. λ count next placed kept opened.
    let plan = plan_of c.args.latest.now c.requires.blocks c.write_synced.ensures.staging in
    let homed = homes_homed plan opened (c.in_ok-write_synced.ensures.settled opened.honest) in
    let still = c.write_synced.ensures.disk.run.honest ∙ opened.honest in
    let then_still = c.write_gate.ensures.disk.run.honest ∙ still in
    let shut = first_shut plan opened homed (c.in_ok-write_gate.ensures.settled still) in
    others_fit (c.close_others.ensures.disk.run.honest ∙ then_still) shut (settled then_still))
    c.close_others.ensures.settled

pub returns-clause-around : goal.returns-clause-around
returns-clause-around g c = λ honest.
    let plan = plan_of c.args.latest.now c.requires.blocks c.write_synced.ensures.staging in
    let blocks = c.args.latest.now.layout in
    let still = c.write_synced.ensures.disk.run.honest ∙ honest in
    gate_around blocks c.requires.blocks 4097 63 (omega arith)
    (gate_around blocks c.requires.blocks 4096 1 (omega arith) (homes_around plan (c.write_synced.ensures.spreads honest)) (c.write_gate.ensures.spreads still))
    (c.close_others.ensures.spreads (c.write_gate.ensures.disk.run.honest ∙ still))

pub returns-clause-settled : goal.returns-clause-settled
returns-clause-settled g c = on_ok c.close_others.result (λ settled. λ honest.
    let still = c.write_synced.ensures.disk.run.honest ∙ honest in
    all_closed_settled _ _ _ (c.in_ok-write_synced.ensures.settled honest).reads (c.in_ok-write_gate.ensures.settled still).reads (settled (c.write_gate.ensures.disk.run.honest ∙ still)))
    c.close_others.ensures.settled
