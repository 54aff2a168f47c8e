use Rattle.std.proofs.Common.{List}
use Rattle.lis_bits.specs.Rows.{HasShape}
use Rattle.lis_model.specs.Table.{Entry}
use Rattle.lis_model.specs.Listing.{is_candidate}
use Rattle.lis_incr.specs.Marked.{SplitBy, MarkedTo}
use Rattle.lis_incr.proofs.marks.mark_candidates.Given as goal

abbrev pub invariant-loop-k : goal.invariant-loop-k
invariant-loop-k g l = record {
  shape : HasShape l.candidates 1 (g.V.View.seen l.view).limits.props;
  marked : (files : List Entry) → SplitBy (g.V.View.seen l.view) files l.counts l.many → MarkedTo (g.V.View.seen l.view) (is_candidate files) l.k l.candidates;
}
