use Rattle.lis_open.proofs.WordsRead.{SlotsTurn}
use Rattle.lis_open.proofs.words.read_properties.Given as goal

abbrev pub invariant-loop-number : goal.invariant-loop-number
invariant-loop-number g l = SlotsTurn l.journal l.limits (g.D.Disk.meaning l.initial.disk) (g.D.Disk.meaning l.disk) l.initial.last l.last l.slots l.number
