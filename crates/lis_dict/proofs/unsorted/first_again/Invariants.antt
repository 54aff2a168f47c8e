use Rattle.std.proofs.Common.{[]}
use Rattle.lis_graph.proofs.Passes.{IsPassed}
use Rattle.lis_words.specs.Words.{is_property}
use Rattle.lis_dict.specs.Inside.{word_in}
use Rattle.lis_dict.proofs.unsorted.first_again.Given as goal

abbrev pub invariant-loop-number : goal.invariant-loop-number
invariant-loop-number l = IsPassed (word_in l.holders) is_property [] l.order l.number-index l.before l.first
