use Rattle.std.proofs.Common.{◌≡◌, ◌+◌, ◌≤◌, length}
use Rattle.lis_model.specs.Noted.{noted_all}
use Rattle.lis_transducers.specs.Joined.{joined}
use Rattle.lis_transducers.specs.Pieces.{pieces}
use Rattle.lis_transducers.specs.Entries.{entries}
use Rattle.lis_transducers.specs.Source.{source_words}
use Rattle.lis_csource.specs.Reading.{IsSoundStage}
use Rattle.lis_csource.specs.Rights.{words_to_come}
use Rattle.lis_csource.proofs.source.source_props.Given as goal

abbrev pub invariant-loop-found : goal.invariant-loop-found
invariant-loop-found l = record {
  words : words_to_come l.reading l.out (entries l.reading.context (pieces l.reading.context (joined l.rest)))
      ≡ noted_all l.fn.out (source_words l.bytes);
  sound : IsSoundStage l.reading.stage l.reading.parens;
  few : (l.reading.braces + length l.rest ≤ length l.bytes) × (l.reading.parens + length l.rest ≤ length l.bytes);
}

abbrev pub decreases-loop-found : goal.decreases-loop-found
decreases-loop-found l = length l.rest
