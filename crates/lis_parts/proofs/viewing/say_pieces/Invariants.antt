use Rattle.std.proofs.Common.{◌+◌, ◌<◌, ◌≤◌, length}
use Rattle.lis_parts.specs.Viewing.{pieces_text}
use Rattle.lis_parts.proofs.Saying.{SaidSoFar}
use Rattle.lis_parts.proofs.viewing.say_pieces.Given as goal

-- the stretches so far were appended
abbrev pub invariant-loop-number : goal.invariant-loop-number
invariant-loop-number g l = record {
  so_far : SaidSoFar (pieces_text 1 l.bytes l.place) (pieces_text l.number l.rest l.place) (g.T.Disk.meaning l.fn.station) (g.T.Disk.meaning l.station) l.fn.kept.items l.kept.items;
  low : l.number + length l.rest ≤ length l.bytes + 1;
  one : 0 < l.number;
}

abbrev pub decreases-loop-number : goal.decreases-loop-number
decreases-loop-number g l = length l.rest
