use Rattle.lis_open.proofs.Common.{rules, ◌≡◌, ◌∙◌, sym, ap, subst, arith, ends_then, err_from_is_err_and, Limits}
use Rattle.lis_ports.specs.Calls.{Rose}
use Rattle.lis_ports.proofs.Moments.{run_then}
use Rattle.lis_open.specs.Opens.{OpenUnwritten}
use Rattle.lis_open.proofs.Upgraded.{fault_of, disk_alone, handed_on, not_refused, opening_moments, later_left, later_stands, first_left, upgrade_moments, upgrade_past, first_stands}
use Rattle.lis_open.proofs.upgrading.upgrade.Goals as goal
use Rattle.lis_kept.proofs.Image.{same_blocks}

-- it is refused
pub returns-in_err-store : goal.returns-in_err-store
returns-in_err-store g c =
    let p = err_from_is_err_and c.from_residual.result c.from_residual.ensures.1 in
    let m = c.in_err-store.ensures in
    record {
      run = search rules;
      cause = search rules;
      first_fault = search rules;
      ended = search rules;
      spot = λ spot is honest. m.spot spot (fault_of p.1 p.2 is) honest;
      moments = λ s honest stands. opening_moments s (m.same_state s honest stands);
      left = search rules;
      refused = λ honest none. m.any_moment honest;
      unbegun = λ s fault is other honest stands. m.same_state s honest stands;
      unwritten = λ fault is other honest shut. subst (OpenUnwritten (g.D.Disk.meaning c.args.disk.now) (g.D.Disk.meaning c.mount.new.disk)) (fault_of p.1 p.2 is) (m.unwritten honest shut);
      numbers = λ len need is. m.numbers len need (fault_of p.1 p.2 is);
      small = λ short. let told = m.small short in (handed_on p.1 p.2 told.0, told.1);
      past = λ limits honest super settled. m.past limits honest super (λ is. settled (handed_on p.1 p.2 is));
    }

-- it is of a later version than 1 already
pub returns-else-version-eq1 : goal.returns-else-version-eq1
returns-else-version-eq1 g c =
    let old = g.D.Disk.meaning c.args.disk.now in
    let mid = g.D.Disk.meaning c.mount.new.disk in
    let m = c.in_ok-store.ensures in
    let sound = c.limits-version.ensures.sound in
    let none = λ (one : c.in_ok-store.store.metadata.limits.version ≡ 1). c.if-version-eq1.false (ap (λ (l : Limits). l.version) c.limits-version.ensures.value ∙ one) in
    record {
      run = search rules;
      cause = search rules;
      first_fault = search rules;
      ended = λ honest. let ended = m.ended honest in (ended.0, (ended.1.0, ended.1.1, later_stands old mid c.in_ok-store.store sound ended (m.left honest) none));
      spot = search rules;
      moments = λ s honest stands. opening_moments s (m.same_state s honest stands);
      left = λ honest. later_left old mid c.in_ok-store.store sound (m.ended honest) (m.left honest) none;
      refused = λ honest none. m.any_moment honest;
      unbegun = λ s fault is. absurd (cc);
      unwritten = λ fault is. absurd (cc);
      numbers = search rules;
      small = λ short. absurd (not_refused (m.small short).0);
      past = λ limits honest super settled. m.past limits honest super (λ e. absurd (not_refused e));
    }

pub write_gate-requires : goal.write_gate-requires
write_gate-requires g c = omega (arith, c.in_ok-store.ensures.long, same_blocks c.limits-version.ensures.sound.image)

-- the gate is not written, or not synced
pub returns-in_err-write_gate : goal.returns-in_err-write_gate
returns-in_err-write_gate g c =
    let old = g.D.Disk.meaning c.args.disk.now in
    let mid = g.D.Disk.meaning c.mount.new.disk in
    let m = c.in_ok-store.ensures in
    let sound = c.limits-version.ensures.sound in
    let one = ap (λ (l : Limits). l.version) (sym c.limits-version.ensures.value) ∙ c.if-version-eq1.true in
    let p = err_from_is_err_and c.from_residual-in_err-write_gate.result c.from_residual-in_err-write_gate.ensures.1 in
    record {
      run = run_then m.run c.write_gate.ensures.disk.run;
      cause = rw (p.1, p.2) (subst (λ before. Rose before (g.D.Disk.meaning c.write_gate.new.disk).disk_faults) m.cause c.in_err-write_gate.ensures.disk.cause.rose);
      first_fault = ends_then m.first_fault m.cause c.write_gate.ensures.disk.first_fault;
      ended = λ honest. rw (p.1, p.2) tt;
      spot = search rules;
      moments = λ s honest stands.
          upgrade_moments old mid c.in_ok-store.store sound (m.ended honest) (m.left honest) one s stands (m.same_state s honest stands) (c.write_gate.ensures.spreads (c.mount.ensures.run.honest ∙ honest));
      left = λ honest. rw (p.1, p.2) tt;
      refused = λ honest none. let ended = m.ended honest in absurd (none ended.1.0 ended.1.1);
      unbegun = λ s fault is other. absurd (disk_alone p.1 p.2 is other);
      unwritten = λ fault is other. absurd (disk_alone p.1 p.2 is other);
      numbers = search rules;
      small = λ short. absurd (not_refused (m.small short).0);
      past = λ limits honest super settled.
          upgrade_past old mid c.in_ok-store.store sound (m.ended honest) (m.left honest) one limits (m.past limits honest super (λ e. absurd (not_refused e)))
          (c.write_gate.ensures.spreads (c.mount.ensures.run.honest ∙ honest));
    }

pub returns-in_ok-write_gate : goal.returns-in_ok-write_gate
returns-in_ok-write_gate g c =
    let old = g.D.Disk.meaning c.args.disk.now in
    let mid = g.D.Disk.meaning c.mount.new.disk in
    let m = c.in_ok-store.ensures in
    let sound = c.limits-version.ensures.sound in
    let one = ap (λ (l : Limits). l.version) (sym c.limits-version.ensures.value) ∙ c.if-version-eq1.true in
    record {
      run = run_then m.run c.write_gate.ensures.disk.run;
      cause = c.in_ok-write_gate.ensures.disk.cause.stays ∙ m.cause;
      first_fault = ends_then m.first_fault m.cause c.write_gate.ensures.disk.first_fault;
      ended = λ honest.
          let ended = m.ended honest in
          (ended.0, (ended.1.0, ended.1.1, first_stands old mid c.in_ok-store.store sound ended (m.left honest) one (c.in_ok-write_gate.ensures.settled (c.mount.ensures.run.honest ∙ honest))));
      spot = search rules;
      moments = λ s honest stands.
          upgrade_moments old mid c.in_ok-store.store sound (m.ended honest) (m.left honest) one s stands (m.same_state s honest stands) (c.write_gate.ensures.spreads (c.mount.ensures.run.honest ∙ honest));
      left = λ honest. first_left old mid c.in_ok-store.store sound (m.ended honest) (m.left honest) one (c.in_ok-write_gate.ensures.settled (c.mount.ensures.run.honest ∙ honest));
      refused = λ honest none. let ended = m.ended honest in absurd (none ended.1.0 ended.1.1);
      unbegun = λ s fault is. absurd (cc);
      unwritten = λ fault is. absurd (cc);
      numbers = search rules;
      small = λ short. absurd (not_refused (m.small short).0);
      past = λ limits honest super settled.
          upgrade_past old mid c.in_ok-store.store sound (m.ended honest) (m.left honest) one limits (m.past limits honest super (λ e. absurd (not_refused e)))
          (c.write_gate.ensures.spreads (c.mount.ensures.run.honest ∙ honest));
    }
