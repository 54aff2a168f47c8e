use Rattle.std.proofs.Common.{refl}
use Rattle.lis_store.specs.Seen.{table_of}
use Rattle.lis_session.proofs.InTurn.{in_a_row, passed_on, listing_shown}
use Rattle.lis_session.proofs.listing.answer_listing.Goals as goal

pub returns-in_err-answer_lines-clause-answers : goal.returns-in_err-answer_lines-clause-answers
returns-in_err-answer_lines-clause-answers g c =
    let shown = listing_shown (table_of c.args.store.now.metadata) c.args.place.now c.lines.result (rw c.make_listing.ensures.lines at c.lines.ensures) in
    passed_on _ (rw shown at c.in_err-answer_lines.ensures) c.from_residual.ensures.1 refl

pub returns-clause-answers : goal.returns-clause-answers
returns-clause-answers g c =
    let shown = listing_shown (table_of c.args.store.now.metadata) c.args.place.now c.lines.result (rw c.make_listing.ensures.lines at c.lines.ensures) in
    in_a_row (rw shown at c.in_ok-answer_lines.ensures) c.answer_ok.ensures refl
