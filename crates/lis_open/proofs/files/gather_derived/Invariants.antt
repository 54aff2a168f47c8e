use Rattle.lis_open.proofs.Gathering.{WordsGathered}
use Rattle.lis_open.proofs.files.gather_derived.Given as goal

abbrev pub invariant-loop-word : goal.invariant-loop-word
invariant-loop-word l = WordsGathered l.words l.derived l.fn.search l.search l.word-index
