use Rattle.lis_parts.proofs.Saying.{says_then, said_flushed, said_broke}
use Rattle.lis_parts.proofs.Viewed.{view_parts}
use Rattle.lis_parts.proofs.viewing.show_view.Goals as goal

pub returns-in_err-say_end : goal.returns-in_err-say_end
returns-in_err-say_end g c =
    said_broke c.new-kept.ensures (says_then c.in_ok-say_pieces.ensures (rw c.is_open.ensures at c.in_err-say_end.ensures) (view_parts c.args.bytes.now c.args.place.now)) c.from_residual-in_err-say_end.ensures.1

pub returns : goal.returns
returns g c =
    said_flushed c.new-kept.ensures (says_then c.in_ok-say_pieces.ensures (rw c.is_open.ensures at c.in_ok-say_end.ensures) (view_parts c.args.bytes.now c.args.place.now)) c.flush.ensures.shows
