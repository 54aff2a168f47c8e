use Rattle.lis_open.proofs.Common.{err_from_is_err_and}
use Rattle.lis_open.proofs.AllRead.{none_below, pass_more, kind_failed, on_ok, files_read, files_ended, reads_after}
use Rattle.lis_open.proofs.BlocksRead.{fits_after}
use Rattle.lis_open.proofs.reading.read_slots.Goals as goal

pub returns-in_err-read_axioms-clause-ended : goal.returns-in_err-read_axioms-clause-ended
returns-in_err-read_axioms-clause-ended g c = λ kept fits recalls passed.
    let limits = c.args.limits.now in
    let below = pass_more limits kept 2 (none_below limits kept) passed.none in
    let p = err_from_is_err_and c.from_residual.result c.from_residual.ensures.1 in
    rw (p.1, p.2) (kind_failed limits kept 3 c.in_err-read_axioms.field-0.0 below (c.in_err-read_axioms.ensures.ended kept fits recalls passed.is))

pub returns-clause-disk : goal.returns-clause-disk
returns-clause-disk g c = reads_after _ _ _ c.read_files.result c.read_axioms.ensures.disk.reads c.in_ok-read_axioms.ensures.disk.cause c.read_axioms.ensures.disk.first_fault c.read_files.ensures.disk

pub returns-clause-read : goal.returns-clause-read
returns-clause-read g c = files_read c.args.limits.now c.args.words.now c.read_axioms.new.axioms c.requires.words c.in_ok-read_axioms.ensures.read c.read_files.result c.read_files.ensures.read

pub returns-clause-recalls : goal.returns-clause-recalls
returns-clause-recalls g c = on_ok c.read_files.result (λ kept fits recalls.
    c.read_files.ensures.recalls kept (fits_after c.args.journal.now kept c.read_axioms.ensures.disk.reads fits) (c.read_axioms.ensures.recalls kept fits recalls))

pub returns-clause-ended : goal.returns-clause-ended
returns-clause-ended g c = λ kept fits recalls passed.
    let limits = c.args.limits.now in
    let pairs = c.in_ok-read_axioms.ensures.ended kept fits recalls passed.is in
    let fits1 = fits_after c.args.journal.now kept c.read_axioms.ensures.disk.reads fits in
    files_ended limits c.args.words.now c.read_axioms.new.axioms c.requires.words c.in_ok-read_axioms.ensures.read kept passed pairs c.read_files.result c.read_files.ensures.read
    (c.read_files.ensures.ended kept fits1 (c.read_axioms.ensures.recalls kept fits recalls) passed.is pairs.is)
