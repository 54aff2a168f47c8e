use Rattle.lis_store.proofs.Common.{ℕ, List, length, ap, subst, arith}
use Rattle.lis_store.specs.Describing.{with_heads, Notes}
use Rattle.lis_store.specs.Drafts.{drafted}
use Rattle.lis_store.proofs.Gathered.{with_heads_few}
use Rattle.lis_store.proofs.Measured.{draft_found}
use Rattle.lis_store.proofs.describing.find_draft.Goals as goal

pub note_all-requires : goal.note_all-requires
note_all-requires c = omega (arith, ap length c.new-fresh.ensures, c.requires.few)

pub note_all-requires-2 : goal.note_all-requires-2
note_all-requires-2 c =
    omega (arith, ap length c.new-fresh.ensures, c.note_all.ensures.few, with_heads_few c.args.draft.assigned.now, c.requires.few, c.requires.few_own)

pub returns : goal.returns
returns c =
    let k = c.args.metadata.now in
    let some = c.note_all.new.fresh.items in
    let fresh = c.note_all-2.new.fresh.items in
    let first = subst (λ (ws : List (List ℕ)). Notes k (with_heads c.args.draft.assigned.now) ws some) c.new-fresh.ensures c.note_all.ensures in
    draft_found k c.requires.sound (drafted c.args.draft.name.now c.args.draft.size c.args.draft.assigned.now c.args.draft.own.now)
    c.find_description.new.search some fresh c.find_description.ensures first c.note_all-2.ensures
