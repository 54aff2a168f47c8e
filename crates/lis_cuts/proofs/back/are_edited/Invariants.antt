use Rattle.std.proofs.Common.{◌≡◌, length}
use Rattle.std.specs.List.{list_all}
use Rattle.lis_views.specs.Lines.{lines_of}
use Rattle.lis_views.specs.Edits.{is_edited}
use Rattle.lis_cuts.proofs.back.are_edited.Given as goal

abbrev pub invariant-loop-line : goal.invariant-loop-line
invariant-loop-line l = list_all is_edited (lines_of l.rest).texts ≡ list_all is_edited (lines_of l.lines).texts

abbrev pub decreases-loop-line : goal.decreases-loop-line
decreases-loop-line l = length l.rest
