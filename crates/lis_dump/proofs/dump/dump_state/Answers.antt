use Rattle.std.proofs.lemmas.Result.{err_from_is_err_and}
use Rattle.lis_dump.proofs.Whole.{words_broke, files_broke, axioms_broke, dump_shown}
use Rattle.lis_dump.proofs.dump.dump_state.Goals as goal

pub returns-in_err-show_words-clause-shows : goal.returns-in_err-show_words-clause-shows
returns-in_err-show_words-clause-shows g c =
    let p = err_from_is_err_and c.from_residual.result c.from_residual.ensures.1 in
    rw (p.1, p.2) (words_broke c.new-page.ensures c.in_err-show_words.field-0.0 c.in_err-show_words.ensures).shows

pub returns-in_err-show_files-clause-shows : goal.returns-in_err-show_files-clause-shows
returns-in_err-show_files-clause-shows g c =
    let p = err_from_is_err_and c.from_residual-in_err-show_files.result c.from_residual-in_err-show_files.ensures.1 in
    rw (p.1, p.2) (files_broke c.new-page.ensures c.in_ok-show_words.field-0 c.in_ok-show_words.ensures c.in_err-show_files.field-0.0 c.in_err-show_files.ensures).shows

pub returns-in_err-show_axioms-clause-shows : goal.returns-in_err-show_axioms-clause-shows
returns-in_err-show_axioms-clause-shows g c =
    let p = err_from_is_err_and c.from_residual-in_err-show_axioms.result c.from_residual-in_err-show_axioms.ensures.1 in
    rw (p.1, p.2)
    (axioms_broke c.new-page.ensures c.in_ok-show_words.field-0 c.in_ok-show_words.ensures c.in_ok-show_files.field-0 c.in_ok-show_files.ensures c.in_err-show_axioms.field-0.0 c.in_err-show_axioms.ensures).shows

pub returns-clause-shows : goal.returns-clause-shows
returns-clause-shows g c =
    (dump_shown c.new-page.ensures c.in_ok-show_words.field-0 c.in_ok-show_words.ensures c.in_ok-show_files.field-0 c.in_ok-show_files.ensures c.in_ok-show_axioms.field-0 c.show_page.result c.in_ok-show_axioms.ensures c.show_page.ensures.answers).shows
