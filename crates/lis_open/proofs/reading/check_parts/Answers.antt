use Rattle.lis_open.proofs.Common.{rules, refl, [], ends_none, err_from_is_err_and}
use Rattle.lis_open.specs.ReadAll.{metadata_in, AreRead}
use Rattle.lis_open.proofs.Joined.{none_past}
use Rattle.lis_open.proofs.AllRead.{words_failed, bitmap_failed, rows_failed, sets_ended, on_ok, stray_cause}
use Rattle.lis_ports.proofs.OnlyReading.{reads_none}
use Rattle.lis_open.proofs.BlocksRead.{fits_after}
use Rattle.lis_open.proofs.reading.check_parts.Goals as goal

pub returns-in_err-check_words-clause-disk : goal.returns-in_err-check_words-clause-disk
returns-in_err-check_words-clause-disk g c =
    let k = metadata_in c.args.limits.now c.args.words.now c.args.memory.now.axioms c.args.files.now [] in
    let p = err_from_is_err_and c.from_residual.result c.from_residual.ensures.1 in
    record {
      reads = reads_none (g.D.Disk.meaning c.args.disk.now);
      cause = rw (p.1, p.2) (stray_cause (Unit {0}) _ _ k c.in_err-check_words.field-0.0 refl (c.in_err-check_words.ensures []));
      first_fault = ends_none (g.D.Disk.meaning c.args.disk.now);
    }

pub returns-in_err-check_words-clause-ended : goal.returns-in_err-check_words-clause-ended
returns-in_err-check_words-clause-ended g c = λ kept fits recalls passed.
    let p = err_from_is_err_and c.from_residual.result c.from_residual.ensures.1 in
    rw (p.1, p.2) (words_failed c.args.limits.now kept c.args.words.now c.args.memory.now.axioms c.args.files.now passed.read passed.none c.in_err-check_words.field-0.0 c.in_err-check_words.ensures)

pub returns-in_err-check_bitmap-clause-ended : goal.returns-in_err-check_bitmap-clause-ended
returns-in_err-check_bitmap-clause-ended g c = λ kept fits recalls passed.
    let p = err_from_is_err_and c.from_residual-in_err-check_bitmap.result c.from_residual-in_err-check_bitmap.ensures.1 in
    rw (p.1, p.2)
    (bitmap_failed c.args.limits.now kept c.args.words.now c.args.memory.now.axioms c.args.files.now passed.read passed.none c.in_ok-check_words.ensures c.in_err-check_bitmap.field-0.0 (c.in_err-check_bitmap.ensures.ended kept fits))

pub check_rows-requires-clause-rest : goal.check_rows-requires-clause-rest
check_rows-requires-clause-rest g c = λ n slot past.
    let read : AreRead c.args.limits.now c.args.words.now c.args.memory.now.axioms c.args.files.now [] = assumption (c.requires.read, c.in_ok-check_words.ensures []) in
    none_past c.args.limits.now c.args.words.now c.args.memory.now.axioms c.args.files.now [] read n slot past

pub returns-clause-used : goal.returns-clause-used
returns-clause-used g c = on_ok c.check_sets.result c.in_ok-check_words.ensures

pub returns-clause-ended : goal.returns-clause-ended
returns-clause-ended g c = λ kept fits recalls passed.
    let fits1 = fits_after c.args.journal.now kept c.check_bitmap.ensures.disk.reads fits in
    let fits2 = fits_after c.args.journal.now kept c.check_rows.ensures.disk.reads fits1 in
    sets_ended c.args.limits.now kept c.args.words.now c.args.memory.now.axioms c.args.files.now passed.read passed.none c.in_ok-check_words.ensures c.requires.readable.range (c.in_ok-check_bitmap.ensures.ended kept fits)
    (c.in_ok-check_rows.ensures.ended kept fits1 recalls) c.check_sets.result (c.check_sets.ensures.ended kept fits2 (c.check_rows.ensures.recalls kept fits1 recalls))

pub returns-in_err-check_rows-clause-ended : goal.returns-in_err-check_rows-clause-ended
returns-in_err-check_rows-clause-ended g c = λ kept fits recalls passed.
    let p = err_from_is_err_and c.from_residual-in_err-check_rows.result c.from_residual-in_err-check_rows.ensures.1 in
    let fits1 = fits_after c.args.journal.now kept c.check_bitmap.ensures.disk.reads fits in
    rw (p.1, p.2)
    (rows_failed c.args.limits.now kept c.args.words.now c.args.memory.now.axioms c.args.files.now passed.read passed.none c.in_ok-check_words.ensures c.requires.readable.range (c.in_ok-check_bitmap.ensures.ended kept fits)
    c.in_err-check_rows.field-0.0 (c.in_err-check_rows.ensures.ended kept fits1 recalls))

pub returns-in_err-check_bitmap-clause-disk : goal.returns-in_err-check_bitmap-clause-disk
returns-in_err-check_bitmap-clause-disk g c = search rules
