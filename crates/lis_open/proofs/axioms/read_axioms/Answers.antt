use Rattle.lis_open.proofs.Common.{rules, ◌≡◌, refl, subst, ◌∙◌, arith, below_more, ends_none, ends_then, axiom_slots}
use Rattle.lis_open.specs.Checks.{AxiomFails}
use Rattle.lis_open.specs.ReadWords.{AxiomsAreSpelled}
use Rattle.lis_open.proofs.SpotKinds.{none_before, none_fails}
use Rattle.lis_ports.proofs.OnlyReading.{reads_none, reads_then}
use Rattle.lis_open.proofs.BlocksRead.{fits_after}
use Rattle.lis_open.proofs.AxiomsRead.{axiom_on, no_axioms_yet, axiom_fails, axiom_passes}
use Rattle.std.proofs.Common.{ap, Err}
use Rattle.lis_open.proofs.Common.{err_from_is_err_and}
use Rattle.lis_open.specs.declared.mounting.OpenFault.TheVariants.{DiskFault}
use Rattle.lis_open.proofs.ReadOn.{HasRead, fails_then}
use Rattle.lis_open.proofs.axioms.read_axioms.Goals as goal

pub loop-k-init : goal.loop-k-init
loop-k-init g c = record {
  reads = reads_none (g.D.Disk.meaning c.args.disk.now);
  faults = refl;
  first_fault = ends_none (g.D.Disk.meaning c.args.disk.now);
  first = no_axioms_yet c.args.limits.now c.args.words.now c.requires.words c.link_heads.new.taxonomy _ c.requires.none.slots c.link_heads.ensures c.link_tests.ensures;
  recalls = λ kept fits recalled. recalled;
  spelled = λ kept fits recalled n lt. absurd (omega (arith, lt));
  passed = λ kept fits recalled told n lt. absurd (omega (arith, lt));
}

pub returns-then-not-take_axiom-clause-ended : goal.returns-then-not-take_axiom-clause-ended
returns-then-not-take_axiom-clause-ended g c = λ kept fits recalled told.
    let l = c.loop-k in
    let limits = c.args.limits.now in
    record {
      fails = axiom_fails limits kept c.args.words.now c.requires.words told l.axioms l.k (omega (arith, c.loop-k-test.true, c.slot_count-k-end.ensures)) l.invariant.first (l.invariant.spelled kept fits recalled) c.in_ok-found.found
          (omega (arith, c.loop-k-test.true, c.slot_count-k-end.ensures)) c.if-not-take_axiom.ensures.why
          (c.in_ok-found.ensures.read kept (fits_after c.args.journal.now kept l.invariant.reads fits) (l.invariant.recalls kept fits recalled));
      is = refl;
      none_before = none_before limits kept 3 l.k (l.invariant.passed kept fits recalled told);
    }

pub loop-k-preserved : goal.loop-k-preserved
loop-k-preserved g c =
    let l = c.loop-k in
    let limits = c.args.limits.now in
    let words = c.args.words.now in
    let next = c.take_axiom.new.axioms in
    let more = axiom_on limits words c.requires.words l.axioms l.k l.invariant.first c.in_ok-found.found next (omega (arith, c.loop-k-test.true, c.slot_count-k-end.ensures)) c.if-not-take_axiom.ensures.taken in
    record {
      reads = reads_then l.invariant.reads c.read_axiom_slot.ensures.disk.reads;
      faults = c.in_ok-found.ensures.disk.cause.stays ∙ l.invariant.faults;
      first_fault = ends_then l.invariant.first_fault l.invariant.faults c.in_ok-found.ensures.disk.first_fault;
      first = more.0;
      recalls = λ kept fits recalled.
          c.read_axiom_slot.ensures.recalls kept (fits_after c.args.journal.now kept l.invariant.reads fits) (l.invariant.recalls kept fits recalled);
      spelled = λ kept fits recalled.
          more.1 kept (l.invariant.spelled kept fits recalled)
          (c.in_ok-found.ensures.read kept (fits_after c.args.journal.now kept l.invariant.reads fits) (l.invariant.recalls kept fits recalled));
      passed = λ kept fits recalled told.
          below_more (λ n. AxiomFails limits kept n → ⊥) l.k (l.invariant.passed kept fits recalled told)
          (axiom_passes limits kept words c.requires.words told l.axioms l.k (omega (arith, c.loop-k-test.true, c.slot_count-k-end.ensures)) l.invariant.first (l.invariant.spelled kept fits recalled) c.in_ok-found.found next c.if-not-take_axiom.ensures.taken
          (c.in_ok-found.ensures.read kept (fits_after c.args.journal.now kept l.invariant.reads fits) (l.invariant.recalls kept fits recalled)));
    }

pub returns-clause-ended : goal.returns-clause-ended
returns-clause-ended g c = λ kept fits recalled told.
    let l = c.loop-k in
    let limits = c.args.limits.now in
    let end : l.k ≡ (axiom_slots limits).count = omega (arith, c.loop-k-test.false, l.auto.k-end, c.slot_count-k-end.ensures) in
    record {
      none = none_fails limits kept 3 (λ n fails. l.invariant.passed kept fits recalled told n (omega (arith, end, fails.below)) fails);
      is = subst (λ n. AxiomsAreSpelled limits kept l.axioms n) end (l.invariant.spelled kept fits recalled);
    }

pub returns-in_err-found : goal.returns-in_err-found
returns-in_err-found g c =
    let l = c.loop-k in
    let p = err_from_is_err_and c.from_residual.result c.from_residual.ensures.1 in
    let so_far : HasRead (g.D.Disk.meaning c.args.disk.now) (g.D.Disk.meaning l.disk) = record { reads = l.invariant.reads; faults = l.invariant.faults; first_fault = l.invariant.first_fault } in
    let fails = fails_then {U = Unit {0}} DiskFault so_far c.in_err-found.ensures.disk in
    rw (p.1 ∙ ap Err p.2) (record {
      disk = record { reads = fails.reads; cause = fails.cause.rose; first_fault = fails.first_fault };
      read = tt;
      recalls = λ kept fits recalled.
          c.read_axiom_slot.ensures.recalls kept (fits_after c.args.journal.now kept l.invariant.reads fits) (l.invariant.recalls kept fits recalled);
      ended = λ kept fits recalled told. tt;
    })
