use Rattle.std.proofs.Common.{◌≡◌, take}
use Rattle.lis_model.specs.Tests.{met_tests}
use Rattle.lis_table.proofs.links.met_tests.Given as goal

abbrev pub invariant-loop-word : goal.invariant-loop-word
invariant-loop-word l = l.met.items ≡ met_tests (take l.word-index l.declared) l.size
