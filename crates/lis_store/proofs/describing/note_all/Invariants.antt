use Rattle.lis_store.proofs.Common.{take}
use Rattle.lis_store.specs.Describing.{with_heads, Notes}
use Rattle.lis_store.proofs.describing.note_all.Given as goal

-- the words so far are noted
abbrev pub invariant-loop-word : goal.invariant-loop-word
invariant-loop-word l = Notes l.metadata (with_heads (take l.word-index l.words)) l.initial.fresh.items l.fresh.items
