use Rattle.lis_store.proofs.Common.{ℕ, ◌∙◌, ◌∷◌, [], refl, sym, ap, subst, List}
use Rattle.lis_store.specs.Describing.{Notes}
use Rattle.lis_store.proofs.Gathered.{notes_more, headed}
use Rattle.lis_store.proofs.Found.{headless}
use Rattle.lis_store.proofs.describing.note_with_head.Goals as goal

pub returns-in-Some : goal.returns-in-Some
returns-in-Some c =
    let k = c.args.metadata.now in
    let word = c.args.word.now in
    let is = ap (λ (w : List ℕ). w ∷ []) c.in-Some.ensures.head ∙ sym (headed word (c.in-Some.ensures.valued.0 refl)) in
    subst (λ (ws : List (List ℕ)). Notes k (word ∷ ws) c.args.fresh.now.items c.note-in-Some.new.fresh.items) is
    (notes_more k (word ∷ []) (c.in-Some.head ∷ []) c.args.fresh.now.items c.note.new.fresh.items c.note-in-Some.new.fresh.items c.note.ensures c.note-in-Some.ensures)

pub returns-in_default : goal.returns-in_default
returns-in_default c =
    let word = c.args.word.now in
    subst (λ (ws : List (List ℕ)). Notes c.args.metadata.now (word ∷ ws) c.args.fresh.now.items c.note.new.fresh.items)
    (sym (headless word (λ valued. let some = c.in_default.ensures.valued.1 valued in cc))) c.note.ensures
