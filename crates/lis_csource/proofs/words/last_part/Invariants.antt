use Rattle.std.proofs.Common.{◌≡◌, length}
use Rattle.lis_transducers.specs.Entries.{last_part}
use Rattle.lis_csource.specs.Runs.{run_text}
use Rattle.lis_csource.specs.declared.runs.Run.TheVariants.{Path}
use Rattle.lis_csource.proofs.PathLemmas.{last_or}
use Rattle.lis_csource.proofs.words.last_part.Given as goal

abbrev pub invariant-loop-byte : goal.invariant-loop-byte
invariant-loop-byte l =
    last_or (run_text (Path l.close) l.last) (run_text (Path l.close) l.rest) ≡ last_part (run_text (Path l.close) l.path)

abbrev pub decreases-loop-byte : goal.decreases-loop-byte
decreases-loop-byte l = length l.rest
