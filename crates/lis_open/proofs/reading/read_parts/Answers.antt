use Rattle.lis_open.proofs.Common.{◌∙◌, ends_then, err_from_is_err_and}
use Rattle.lis_ports.proofs.OnlyReading.{reads_then}
use Rattle.lis_open.proofs.AllRead.{none_below, kind_failed, none_recalled, later_cause}
use Rattle.lis_open.specs.declared.files.Files.{Files}
use Rattle.lis_open.specs.declared.words.Words.{Words}
use Rattle.lis_open.proofs.BlocksRead.{fits_after}
use Rattle.lis_open.proofs.reading.read_parts.Goals as goal

pub returns-in_err-words-clause-ended : goal.returns-in_err-words-clause-ended
returns-in_err-words-clause-ended g c = λ kept fits.
    let limits = c.args.limits.now in
    let p = err_from_is_err_and c.from_residual.result c.from_residual.ensures.1 in
    rw (p.1, p.2) (kind_failed limits kept 2 c.in_err-words.field-0.0 (none_below limits kept) (c.in_err-words.ensures.ended kept fits (none_recalled c.new-last.result kept c.new-last.ensures)))

pub returns-in-Ok-clause-disk : goal.returns-in-Ok-clause-disk
returns-in-Ok-clause-disk g c = record {
  reads = reads_then c.read_words.ensures.disk.reads c.read_later.ensures.disk.reads;
  cause = c.in-Ok.ensures.disk.cause ∙ c.in_ok-words.ensures.disk.cause;
  first_fault = ends_then c.read_words.ensures.disk.first_fault c.in_ok-words.ensures.disk.cause c.read_later.ensures.disk.first_fault;
}

pub returns-in-Ok-clause-ended : goal.returns-in-Ok-clause-ended
returns-in-Ok-clause-ended g c = λ kept fits.
    let recalls = none_recalled c.new-last.result kept c.new-last.ensures in
    let fits1 = fits_after c.args.journal.now kept c.read_words.ensures.disk.reads fits in
    c.in-Ok.ensures.ended kept fits1 (c.read_words.ensures.recalls kept fits recalls) (c.in_ok-words.ensures.ended kept fits recalls)

pub returns-in-Err-clause-disk : goal.returns-in-Err-clause-disk
returns-in-Err-clause-disk g c = record {
  reads = reads_then c.read_words.ensures.disk.reads c.read_later.ensures.disk.reads;
  cause = later_cause Files (Words × Files) (g.D.Disk.meaning c.args.disk.now).disk_faults (g.D.Disk.meaning c.read_words.new.disk).disk_faults (g.D.Disk.meaning c.read_later.new.disk).disk_faults c.in-Err.fault c.in_ok-words.ensures.disk.cause c.in-Err.ensures.disk.cause;
  first_fault = ends_then c.read_words.ensures.disk.first_fault c.in_ok-words.ensures.disk.cause c.read_later.ensures.disk.first_fault;
}

pub returns-in-Err-clause-ended : goal.returns-in-Err-clause-ended
returns-in-Err-clause-ended g c = λ kept fits.
    let recalls = none_recalled c.new-last.result kept c.new-last.ensures in
    let fits1 = fits_after c.args.journal.now kept c.read_words.ensures.disk.reads fits in
    c.in-Err.ensures.ended kept fits1 (c.read_words.ensures.recalls kept fits recalls) (c.in_ok-words.ensures.ended kept fits recalls)
