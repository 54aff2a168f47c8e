use Rattle.lis_transducers.specs.Joined.{joined}
use Rattle.lis_csource.proofs.PieceLemmas.{first_read, nothing_read}
use Rattle.lis_csource.proofs.pieces.first_piece.Goals as goal

pub returns-in-None-clause-piece : goal.returns-in-None-clause-piece
returns-in-None-clause-piece c = nothing_read c.args.context (joined c.args.bytes.now) c.in-None.ensures.joined

pub returns-in-Some-clause-piece : goal.returns-in-Some-clause-piece
returns-in-Some-clause-piece c =
    first_read c.args.context (joined c.args.bytes.now) _ _ _ _ _ c.in-Some.ensures.joined c.begun_piece.ensures.read
