use Rattle.lis_line.proofs.Segments.{dropped_whole, dropped_last}
use Rattle.lis_line.proofs.segment.drop_line.Goals as goal

pub returns-in-Feed-clause-takes : goal.returns-in-Feed-clause-takes
returns-in-Feed-clause-takes g c = λ payload.
    let reads = rw c.in-Feed.is at c.in_ok-read_line.ensures.reads in
    dropped_whole _ _ _ _ c.read_line.new.line.items reads.0 reads.1 reads.2

pub returns-in-Last-clause-takes : goal.returns-in-Last-clause-takes
returns-in-Last-clause-takes g c = λ payload.
    let reads = rw c.in-Last.is at c.in_ok-read_line.ensures.reads in
    dropped_last _ _ _ _ c.read_line.new.line.items reads.0 reads.1 reads.2 reads.3 reads.4
