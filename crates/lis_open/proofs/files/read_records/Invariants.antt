use Rattle.lis_open.proofs.FilesRead.{FilesTurn}
use Rattle.lis_open.proofs.files.read_records.Given as goal

abbrev pub invariant-loop-slot : goal.invariant-loop-slot
invariant-loop-slot g l =
    FilesTurn l.known.journal.now l.known.limits.now l.known.words.now l.known.axioms.now (g.D.Disk.meaning l.initial.disk) (g.D.Disk.meaning l.disk) l.initial.last l.last l.slots l.slot
