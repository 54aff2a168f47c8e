use Rattle.std.proofs.Common.{◌-◌, length}
use Rattle.lis_reply.proofs.Showing.{ShownSoFar}
use Rattle.lis_reply.proofs.show_all.Given as goal

abbrev pub invariant-loop-place : goal.invariant-loop-place
invariant-loop-place g l = ShownSoFar (g.T.Disk.meaning l.fn.station) (g.T.Disk.meaning l.station) l.bytes l.place

abbrev pub decreases-loop-place : goal.decreases-loop-place
decreases-loop-place g l = length l.bytes - l.place
