use Rattle.lis_open.proofs.Common.{◌∙◌, ◌<◌, subst, below_more, ends_then}
use Rattle.lis_kept.specs.Areas.{set_slots}
use Rattle.lis_ports.proofs.OnlyReading.{reads_then}
use Rattle.lis_open.proofs.BlocksRead.{fits_after}
use Rattle.lis_open.proofs.Lefts.{first_set}
use Rattle.lis_open.proofs.checks.check_sets.Goals as goal

pub returns-then-not-branch-clause-ended : goal.returns-then-not-branch-clause-ended
returns-then-not-branch-clause-ended g c = λ kept fits recalls.
    let l = c.loop-i in
    let limits = c.args.limits.now in
    let below : l.i < (set_slots limits).count = subst (λ n. l.i < n) c.set_count-i-end.ensures c.loop-i-test.true in
    let there = fits_after c.args.journal.now kept l.invariant.reads fits in
    first_set limits kept c.args.ext.now l.i c.in_ok-read_set.field-0 below (c.in_ok-read_set.ensures.read kept there (l.invariant.recalls kept fits recalls)) c.if-not-branch.true
    (l.invariant.same kept fits recalls)

pub loop-i-preserved : goal.loop-i-preserved
loop-i-preserved g c =
    let l = c.loop-i in
    let journal = c.args.journal.now in
    record {
      reads = reads_then l.invariant.reads c.read_set.ensures.disk.reads;
      faults = c.in_ok-read_set.ensures.disk.cause.stays ∙ l.invariant.faults;
      first_fault = ends_then l.invariant.first_fault l.invariant.faults c.in_ok-read_set.ensures.disk.first_fault;
      recalls = λ kept fits recalls. c.read_set.ensures.recalls kept (fits_after journal kept l.invariant.reads fits) (l.invariant.recalls kept fits recalls);
      same = λ kept fits recalls.
          let there = fits_after journal kept l.invariant.reads fits in
          below_more _ _ (l.invariant.same kept fits recalls) ((c.in_ok-read_set.ensures.read kept there (l.invariant.recalls kept fits recalls)).0 c.if-not-branch.false);
    }
