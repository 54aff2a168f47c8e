use Rattle.std.proofs.Common.{[], ◌∷◌, ◌++◌}
use Rattle.std.proofs.lemmas.Result.{err_from_is_err_and}
use Rattle.lis_line.proofs.Rooms.{tagged_cuts, tagged_lines}
use Rattle.lis_line.specs.Spoken.{tagged_with}
use Rattle.lis_line.proofs.Asking.{feed_given, last_given, past_given, failed_given}
use Rattle.lis_line.proofs.Kept.{kept_one_line}
use Rattle.lis_line.proofs.tagged.TaggedInputItem.take_segment.Goals as goal

pub take_spoken-requires-clause-one_line : goal.take_spoken-requires-clause-one_line
take_spoken-requires-clause-one_line g c =
    let reads = rw c.in-Feed.is at c.in_ok-read_line.ensures.reads in
    kept_one_line {text = reads.0} {bytes = reads.0 ++ 10 ∷ []} c.as_slice.ensures.value reads.1

pub spoken_last-requires : goal.spoken_last-requires
spoken_last-requires g c =
    let reads = rw c.in-Last.is at c.in_ok-read_line.ensures.reads in
    kept_one_line {text = reads.0} {bytes = reads.0} c.as_slice-in-Last.ensures.value reads.1

pub returns-in-Feed-clause-gives : goal.returns-in-Feed-clause-gives
returns-in-Feed-clause-gives g c =
    feed_given tagged_cuts tagged_lines (tagged_with c.take_spoken.new.payload) _ (g.S.Source.left c.take_spoken.new.source) c.take_spoken.result
    (rw c.in-Feed.is at c.in_ok-read_line.ensures.reads) c.as_slice.ensures.value c.take_spoken.ensures.takes

pub returns-in-Last-clause-gives : goal.returns-in-Last-clause-gives
returns-in-Last-clause-gives g c =
    last_given tagged_cuts tagged_lines (tagged_with c.clear.new.self) c.spoken_last.result
    (rw c.in-Last.is at c.in_ok-read_line.ensures.reads) c.as_slice-in-Last.ensures.value (rw c.clear.ensures c.spoken_last.ensures)

pub returns-in-Spent-clause-gives : goal.returns-in-Spent-clause-gives
returns-in-Spent-clause-gives g c = past_given tagged_cuts tagged_lines (rw c.in-Spent.is at c.in_ok-read_line.ensures.reads)

pub returns-in_err-read_line-clause-gives : goal.returns-in_err-read_line-clause-gives
returns-in_err-read_line-clause-gives g c =
    let p = err_from_is_err_and c.from_residual.result c.from_residual.ensures.1 in
    rw p.1 (failed_given tagged_cuts tagged_lines c.in_err-read_line.field-0.0 c.in_err-read_line.ensures.reads)
