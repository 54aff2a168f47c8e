use Rattle.lis_memdisk.specs.MemStation.{meaning_of}
use Rattle.lis_crashes.specs.Idle.{IsAtRest, IsSameDisk}
use Rattle.lis_crashes.proofs.journal.keep_all.Given as goal

abbrev pub invariant-loop-number : goal.invariant-loop-number
invariant-loop-number l = record {
  idle : IsAtRest 594 l.journal;
  same : IsSameDisk (meaning_of l.initial.disk) (meaning_of l.disk);
}
