use Rattle.lis_open.proofs.Common.{take}
use Rattle.lis_open.proofs.Gathering.{Gathered}
use Rattle.lis_open.proofs.files.gather.Given as goal

abbrev pub invariant-loop-number : goal.invariant-loop-number
invariant-loop-number l = Gathered l.fn.search l.search (take l.number-index l.numbers)
