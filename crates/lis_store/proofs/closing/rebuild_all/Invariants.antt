use Rattle.lis_store.proofs.Common.{AreSound}
use Rattle.lis_store.specs.Closing.{rebuilt}
use Rattle.lis_store.specs.Redescribing.{Redescribes}
use Rattle.lis_store.proofs.closing.rebuild_all.Given as goal

-- the slots so far are rebuilt
abbrev pub invariant-loop-slot : goal.invariant-loop-slot
invariant-loop-slot l = Redescribes (rebuilt l.initial.metadata l.how) l.slot l.initial.metadata l.metadata × AreSound l.metadata
