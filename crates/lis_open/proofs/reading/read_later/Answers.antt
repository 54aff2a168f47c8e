use Rattle.lis_open.proofs.Common.{◌∙◌, err_from_is_err_and, ends_then}
use Rattle.lis_ports.proofs.OnlyReading.{reads_then}
use Rattle.lis_open.specs.declared.files.Files.{Files}
use Rattle.lis_open.proofs.AllRead.{later_cause}
use Rattle.lis_open.proofs.BlocksRead.{fits_after}
use Rattle.lis_open.proofs.reading.read_later.Goals as goal

pub returns-in_err-files-clause-ended : goal.returns-in_err-files-clause-ended
returns-in_err-files-clause-ended g c = λ kept fits recalls passed.
    let p = err_from_is_err_and c.from_residual.result c.from_residual.ensures.1 in
    rw (p.1, p.2) (c.in_err-files.ensures.ended kept fits recalls passed)

pub returns-in-Ok-clause-disk : goal.returns-in-Ok-clause-disk
returns-in-Ok-clause-disk g c = record {
  reads = reads_then c.read_slots.ensures.disk.reads c.check_parts.ensures.disk.reads;
  cause = c.in-Ok.ensures.disk.cause ∙ c.in_ok-files.ensures.disk.cause;
  first_fault = ends_then c.read_slots.ensures.disk.first_fault c.in_ok-files.ensures.disk.cause c.check_parts.ensures.disk.first_fault;
}

pub returns-in-Ok-clause-read : goal.returns-in-Ok-clause-read
returns-in-Ok-clause-read g c =
    let slots = c.in_ok-files.ensures.read in
    rw c.check_parts.ensures.same (λ marks. record { words_are = slots.words_are; axioms_are = slots.axioms_are; files_are = slots.files_are; used = c.in-Ok.ensures.used marks })

pub returns-in-Ok-clause-ended : goal.returns-in-Ok-clause-ended
returns-in-Ok-clause-ended g c = λ kept fits recalls passed.
    let fits1 = fits_after c.args.journal.now kept c.read_slots.ensures.disk.reads fits in
    rw c.check_parts.ensures.same
    (c.in-Ok.ensures.ended kept fits1 (c.in_ok-files.ensures.recalls kept fits recalls) (c.in_ok-files.ensures.ended kept fits recalls passed))

pub returns-in-Err-clause-disk : goal.returns-in-Err-clause-disk
returns-in-Err-clause-disk g c = record {
  reads = reads_then c.read_slots.ensures.disk.reads c.check_parts.ensures.disk.reads;
  cause = later_cause (Unit {0}) Files (g.D.Disk.meaning c.args.disk.now).disk_faults (g.D.Disk.meaning c.read_slots.new.disk).disk_faults (g.D.Disk.meaning c.check_parts.new.disk).disk_faults c.in-Err.fault c.in_ok-files.ensures.disk.cause c.in-Err.ensures.disk.cause;
  first_fault = ends_then c.read_slots.ensures.disk.first_fault c.in_ok-files.ensures.disk.cause c.check_parts.ensures.disk.first_fault;
}

pub returns-in-Err-clause-ended : goal.returns-in-Err-clause-ended
returns-in-Err-clause-ended g c = λ kept fits recalls passed.
    let fits1 = fits_after c.args.journal.now kept c.read_slots.ensures.disk.reads fits in
    c.in-Err.ensures.ended kept fits1 (c.in_ok-files.ensures.recalls kept fits recalls) (c.in_ok-files.ensures.ended kept fits recalls passed)
