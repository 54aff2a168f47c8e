use Rattle.std.proofs.Common.{◌≡◌, ◌++◌, [], length}
use Rattle.std.specs.List.{flat_map}
use Rattle.lis_session.specs.Parts.{shown_line}
use Rattle.lis_session.proofs.InTurn.{TextSoFar}
use Rattle.lis_session.proofs.listing.answer_lines.Given as goal

abbrev pub invariant-loop-listing : goal.invariant-loop-listing
invariant-loop-listing g l =
    TextSoFar (flat_map shown_line l.fn.listing) (l.page.items ++ flat_map shown_line l.listing) (g.T.Disk.meaning l.fn.station) (g.T.Disk.meaning l.station)
    × (length l.page.items ≡ 0 → l.listing ≡ [])

abbrev pub decreases-loop-listing : goal.decreases-loop-listing
decreases-loop-listing g l = length (l.page.items ++ flat_map shown_line l.listing)
