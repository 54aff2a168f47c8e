use Rattle.lis_journal.proofs.Loading.{Through}
use Rattle.lis_journal.proofs.mount.load_records.Given as goal

abbrev pub invariant-loop-k : goal.invariant-loop-k
invariant-loop-k g l = Through (g.D.Disk.meaning l.initial.disk) (g.D.Disk.meaning l.disk) l.initial.latest l.latest l.first l._k
