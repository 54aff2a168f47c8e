use Rattle.std.proofs.Common.{◌≡◌, ◌&&◌, take}
use Rattle.std.specs.List.{Contains}
use Rattle.lis_words.specs.Words.{has_word}
use Rattle.lis_bits.specs.Rows.{HasShape}
use Rattle.lis_model.specs.Listing.{is_candidate}
use Rattle.lis_eval.specs.View.{Placed}
use Rattle.lis_incr.specs.Marked.{found_files, MarkedOf}
use Rattle.lis_incr.proofs.marks.mark_own.Given as goal

abbrev pub invariant-loop-number : goal.invariant-loop-number
invariant-loop-number g l = record {
  shape : HasShape l.candidates 1 (g.V.View.seen l.view).limits.props;
  marked : (f : Placed) → Contains (g.V.View.seen l.view).files f → f.slot ≡ l.slot
      → MarkedOf (g.V.View.seen l.view) (λ word. has_word f.entry.words word && is_candidate (found_files (g.V.View.seen l.view) l.found) word) (take l.number-index l.numbers) l.fn.candidates l.candidates;
}
