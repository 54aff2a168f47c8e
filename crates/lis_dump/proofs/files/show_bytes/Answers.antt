use Rattle.std.proofs.Common.{[], sym, arith}
use Rattle.std.proofs.lemmas.Result.{err_from_is_err_and}
use Rattle.std.proofs.lemmas.List.{nil_from_length}
use Rattle.lis_model.specs.State.{State}
use Rattle.lis_model.specs.Changes.{file_of}
use Rattle.lis_session.proofs.Blocks.{size_is}
use Rattle.lis_dump.proofs.Paging.{paged_none, page_shown, text_shown, paged_same, paged_then, paged_front}
use Rattle.lis_dump.proofs.files.show_bytes.Goals as goal

pub returns-then-size-eq0 : goal.returns-then-size-eq0
returns-then-size-eq0 g c = λ name is.
    paged_same (λ (state : State). (file_of state.files name).bytes)
    (λ state fitting. sym (nil_from_length (file_of state.files name).bytes (omega (arith, size_is name c.args.slot c.args.size c.requires.sound fitting.own is c.requires.size))))
    (paged_none (g.T.Disk.meaning c.args.station.now) c.args.page.now.items)

pub returns-in_err-show_page : goal.returns-in_err-show_page
returns-in_err-show_page g c = λ name is.
    let p = err_from_is_err_and c.from_residual.result c.from_residual.ensures.1 in
    rw (p.1, p.2) (paged_front (λ state. []) (λ (state : State). (file_of state.files name).bytes) c.in_err-show_page.field-0.0 (page_shown {after = c.show_page.new.page.items} c.in_err-show_page.ensures.answers c.in_err-show_page.ensures.empty))

pub returns : goal.returns
returns g c = λ name is.
    let content = c.show_content.ensures in
    paged_then (λ state. []) (λ (state : State). (file_of state.files name).bytes) c.in_ok-show_page.field-0 (page_shown c.in_ok-show_page.ensures.answers c.in_ok-show_page.ensures.empty)
    (text_shown c.in_ok-show_page.ensures.empty (record { shows = content.shows name is; ends = content.ends; disk = content.disk }))
