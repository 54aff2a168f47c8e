use Rattle.std.proofs.Common.{◌≡◌, Some, filter, take}
use Rattle.lis_words.specs.Words.{test_of}
use Rattle.lis_model.specs.Sets.{with_words}
use Rattle.lis_model.specs.Tests.{are_weaker}
use Rattle.lis_table.proofs.links.insert_weaker_than.Given as goal

abbrev pub invariant-loop-other : goal.invariant-loop-other
invariant-loop-other l = l.words.items ≡ with_words l.fn.words.items (filter (λ q. are_weaker (test_of q) (Some l.test)) (take l.other-index l.declared))
