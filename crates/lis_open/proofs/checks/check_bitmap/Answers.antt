use Rattle.lis_open.proofs.Common.{◌∙◌, refl, arith, ends_then}
use Rattle.lis_kept.proofs.InArea.{few_blocks}
use Rattle.lis_ports.proofs.OnlyReading.{reads_then}
use Rattle.lis_open.proofs.BlocksRead.{fits_after}
use Rattle.lis_open.proofs.BitmapRead.{first_bit, spelled_more}
use Rattle.lis_open.proofs.checks.check_bitmap.Goals as goal

pub overflow_add-result : goal.overflow_add-result
overflow_add-result g c =
    let within = rw c.in-Some.is at (c.in_ok-bit.ensures.within) in
    omega (arith, within, c.loop-n-test.true, c.bitmap_blocks-n-end.ensures, few_blocks c.args.limits.now c.requires.readable.range)

pub loop-n-preserved : goal.loop-n-preserved
loop-n-preserved g c =
    let was = c.loop-n.invariant in
    let read = c.in_ok-bit.ensures in
    let same = rw c.in_default.is at (read.same) in
    record {
      reads = reads_then was.reads c.read_bits.ensures.disk.reads;
      faults = read.disk.cause.stays ∙ was.faults;
      first_fault = ends_then was.first_fault was.faults read.disk.first_fault;
      same = λ kept fits. spelled_more c.args.limits.now kept c.args.map.now c.loop-n.n (was.same kept fits) (same kept (fits_after c.args.journal.now kept was.reads fits));
    }

pub returns-in-Some-clause-ended : goal.returns-in-Some-clause-ended
returns-in-Some-clause-ended g c = λ kept fits.
    let was = c.loop-n.invariant in
    let differs = rw c.in-Some.is at (c.in_ok-bit.ensures.differs) in (
      _,
      refl,
      first_bit c.args.limits.now kept c.args.map.now c.loop-n.n c.in-Some.bit (omega (arith, c.loop-n-test.true, c.bitmap_blocks-n-end.ensures)) (was.same kept fits)
          (differs kept (fits_after c.args.journal.now kept was.reads fits)),
    )

pub returns-clause-ended : goal.returns-clause-ended
returns-clause-ended g c = λ kept fits n lt. c.loop-n.invariant.same kept fits n (omega (arith, lt, c.loop-n-test.false, c.bitmap_blocks-n-end.ensures))
