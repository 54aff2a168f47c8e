use Rattle.lis_open.proofs.Common.{refl, ◌∙◌, arith, ends_none, ends_then}
use Rattle.lis_ports.proofs.OnlyReading.{reads_none, reads_then}
use Rattle.lis_open.proofs.BlocksRead.{fits_after}
use Rattle.lis_open.proofs.WordsRead.{no_slots, slot_on, ended_at, form_there, read_there}
use Rattle.lis_open.proofs.words.read_properties.Goals as goal

pub loop-number-init : goal.loop-number-init
loop-number-init g c = record {
  reads = reads_none (g.D.Disk.meaning c.args.disk.now);
  faults = refl;
  first_fault = ends_none (g.D.Disk.meaning c.args.disk.now);
  first = no_slots c.args.limits.now c.args.slots.now c.requires.none;
  recalls = λ kept fits recalled. recalled;
  spelled = λ kept fits recalled n lt. absurd (omega (arith, lt));
}

pub returns-in_default-clause-ended : goal.returns-in_default-clause-ended
returns-in_default-clause-ended g c = λ kept fits recalled.
    let l = c.loop-number in
    ended_at c.args.limits.now kept l.slots l.number c.in_ok-property.field-0 (l.invariant.spelled kept fits recalled) c.in_default.is
    (c.in_ok-property.ensures.read kept (fits_after c.args.journal.now kept l.invariant.reads fits) (l.invariant.recalls kept fits recalled))

pub loop-number-preserved : goal.loop-number-preserved
loop-number-preserved g c =
    let l = c.loop-number in
    let more = slot_on c.args.limits.now l.slots l.number l.invariant.first c.loop-number-test.true c.in-Some.property c.take_property.new.slots (form_there c.in-Some.property c.in_ok-property.field-0 c.in-Some.is c.in_ok-property.ensures.form) c.take_property.ensures in
    record {
      reads = reads_then l.invariant.reads c.read_property.ensures.disk.reads;
      faults = c.in_ok-property.ensures.disk.cause.stays ∙ l.invariant.faults;
      first_fault = ends_then l.invariant.first_fault l.invariant.faults c.in_ok-property.ensures.disk.first_fault;
      first = more.0;
      recalls = λ kept fits recalled.
          c.read_property.ensures.recalls kept (fits_after c.args.journal.now kept l.invariant.reads fits) (l.invariant.recalls kept fits recalled);
      spelled = λ kept fits recalled.
          more.1 kept (l.invariant.spelled kept fits recalled)
          (read_there c.args.limits.now kept l.number c.in-Some.property c.in_ok-property.field-0 c.in-Some.is (c.in_ok-property.ensures.read kept (fits_after c.args.journal.now kept l.invariant.reads fits) (l.invariant.recalls kept fits recalled)));
    }
