use Rattle.lis_store.proofs.Common.{AreSound}
use Rattle.lis_store.specs.Redescribing.{Redescribes}
use Rattle.lis_store.specs.Testing.{without_number}
use Rattle.lis_store.proofs.testing.describe_all_without.Given as goal

-- the slots so far no longer have the number, and memory is well formed
abbrev pub invariant-loop-slot : goal.invariant-loop-slot
invariant-loop-slot l = Redescribes (without_number l.initial.metadata l.number) l.slot l.initial.metadata l.metadata × AreSound l.metadata
