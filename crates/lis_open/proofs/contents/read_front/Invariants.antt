use Rattle.std.proofs.Common.{length}
use Rattle.lis_open.proofs.ContentRead.{IsReadTo}
use Rattle.lis_open.proofs.contents.read_front.Given as goal

abbrev pub invariant-loop-n : goal.invariant-loop-n
invariant-loop-n g l =
    IsReadTo (g.D.Disk.meaning l.initial.disk) (g.D.Disk.meaning l.disk) l.journal l.base l.blocks l.n (length l.initial.bytes) l.bytes
