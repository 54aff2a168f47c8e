use Rattle.std.proofs.Common.{◌≡◌, OnOk, [], ◌++◌, ap, subst, ◌∙◌}
use Rattle.std.proofs.lemmas.Result.{err_from_is_err_and}
use Rattle.lis_dump.proofs.Paging.{paged_front, paged_then, line_paged}
use Rattle.lis_dump.proofs.page.push_line.Goals as goal

pub returns-in_err-make_room : goal.returns-in_err-make_room
returns-in_err-make_room g c =
    let p = err_from_is_err_and c.from_residual.result c.from_residual.ensures.1 in
    λ k. rw (p.1, p.2) (paged_front (λ state. []) (λ state. c.args.line.now.items) c.in_err-make_room.field-0.0 (c.in_err-make_room.ensures.pages k))

pub returns : goal.returns
returns g c =
    let page = c.make_room.new.page.items in
    let line = c.args.line.now.items in
    let more : c.try_extend_from_slice.new.self.items ≡ page ++ line =
    subst (λ r. OnOk r (c.try_extend_from_slice.new.self.items ≡ page ++ c.as_slice.result.now)) c.unwrap.ensures c.try_extend_from_slice.ensures.ok ∙ ap (λ bytes. page ++ bytes) c.as_slice.ensures.value in
    λ k. rw more (paged_then (λ state. []) (λ state. line) c.in_ok-make_room.field-0 (c.in_ok-make_room.ensures.pages k) (line_paged (g.T.Disk.meaning c.make_room.new.station) page line))
