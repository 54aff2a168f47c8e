use Rattle.std.proofs.Common.{[]}
use Rattle.lis_graph.proofs.Passes.{IsPassed}
use Rattle.lis_words.specs.Words.{is_file_name}
use Rattle.lis_catalog.specs.Inside.{name_in}
use Rattle.lis_catalog.proofs.unsorted.first_again.Given as goal

abbrev pub invariant-loop-slot : goal.invariant-loop-slot
invariant-loop-slot l = IsPassed (name_in l.records) is_file_name [] l.order l.slot-index l.before l.first
