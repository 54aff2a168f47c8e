use Rattle.std.proofs.Common.{◌≡◌, ◌++◌, List, ℕ, ap, sym, subst}
use Rattle.std.specs.List.{flat_map}
use Rattle.lis_session.specs.Parts.{shown_line}
use Rattle.lis_session.proofs.InTurn.{TextSoFar, text_more, text_broke}
use Rattle.lis_session.proofs.listing.answer_lines.Goals as goal

pub returns-in_err-answer_bytes : goal.returns-in_err-answer_bytes
returns-in_err-answer_bytes g c =
    let rest : List ℕ = flat_map shown_line c.loop-listing.listing in
    text_broke rest c.loop-listing.invariant.0 (ap (λ page. page ++ rest) (sym c.as_slice.ensures.value)) c.in_err-answer_bytes.ensures c.from_residual.ensures.1

pub loop-listing-preserved : goal.loop-listing-preserved
loop-listing-preserved g c =
    let rest : List ℕ = flat_map shown_line c.loop-listing.listing in
    let shown = text_more c.loop-listing.invariant.0 (ap (λ page. page ++ rest) (sym c.as_slice.ensures.value)) c.in_ok-answer_bytes.ensures in
    let next = c.next_page-page-in-loop-listing.ensures in
    (subst (λ (text : List ℕ). TextSoFar (flat_map shown_line c.args.listing) text (g.T.Disk.meaning c.args.station.now) (g.T.Disk.meaning c.answer_bytes.new.station)) next.page shown, next.last)
