use Rattle.lis_model.specs.Changes.{file_of}
use Rattle.lis_session.proofs.Blocks.{size_is, size_broke, size_fits, bytes_broke, bytes_item}
use Rattle.lis_session.proofs.content.show_file.Goals as goal

pub returns-in_err-answer_size-clause-shows : goal.returns-in_err-answer_size-clause-shows
returns-in_err-answer_size-clause-shows g c = λ name is state fitting.
    let len = size_is name c.args.slot c.file_size-size.result c.requires.sound fitting.own is c.file_size-size.ensures.size in
    size_broke (file_of state.files name).bytes len fitting c.in_err-answer_size.ensures c.from_residual.ensures.1

pub returns-in_err-show_content-clause-shows : goal.returns-in_err-show_content-clause-shows
returns-in_err-show_content-clause-shows g c = λ name is state fitting.
    let bytes = (file_of state.files name).bytes in
    let len = size_is name c.args.slot c.file_size-size.result c.requires.sound fitting.own is c.file_size-size.ensures.size in
    let fits = size_fits bytes len fitting c.in_ok-answer_size.ensures in
    bytes_broke bytes len fitting c.in_ok-answer_size.ensures (c.in_err-show_content.ensures.shows name is state fits) c.from_residual-in_err-show_content.ensures.1

pub returns-clause-shows : goal.returns-clause-shows
returns-clause-shows g c = λ name is state fitting.
    let bytes = (file_of state.files name).bytes in
    let len = size_is name c.args.slot c.file_size-size.result c.requires.sound fitting.own is c.file_size-size.ensures.size in
    let fits = size_fits bytes len fitting c.in_ok-answer_size.ensures in
    bytes_item bytes len fitting c.in_ok-answer_size.ensures (c.in_ok-show_content.ensures.shows name is state fits) c.answer_bytes.ensures
