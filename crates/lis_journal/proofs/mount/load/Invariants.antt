use Rattle.lis_journal.proofs.Loading.{Loaded}
use Rattle.lis_journal.proofs.mount.load.Given as goal

abbrev pub invariant-loop-k : goal.invariant-loop-k
invariant-loop-k g l = Loaded (g.D.Disk.meaning l.initial.disk) (g.D.Disk.meaning l.disk) l.initial.latest l.latest l.header l.contents l.k
