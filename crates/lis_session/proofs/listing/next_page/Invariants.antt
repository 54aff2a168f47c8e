use Rattle.std.proofs.Common.{◌≡◌, ◌++◌, length}
use Rattle.std.specs.List.{flat_map}
use Rattle.lis_session.specs.Parts.{shown_line}
use Rattle.lis_session.proofs.listing.next_page.Given as goal

abbrev pub invariant-loop-listing : goal.invariant-loop-listing
invariant-loop-listing l = flat_map shown_line l.fn.listing ≡ l.page.items ++ flat_map shown_line l.listing

abbrev pub decreases-loop-listing : goal.decreases-loop-listing
decreases-loop-listing l = length l.listing
