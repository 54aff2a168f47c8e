use Rattle.lis_store.proofs.Common.{rules, ◌≡◌, ℕ, true, number_of, ◌∙◌, ◌∷◌, [], ◌++◌, is_none, sym, ap, subst, List, has_word}
use Rattle.lis_store.specs.Describing.{Notes}
use Rattle.lis_store.proofs.Gathered.{notes_new}
use Rattle.lis_store.proofs.describing.note.Goals as goal

pub returns-then-not-has : goal.returns-then-not-has
returns-then-not-has c =
    let k = c.args.metadata.now in
    let fresh = c.args.fresh.now.items in
    let word = c.args.word.now in
    let none : is_none (number_of k.dict word) ≡ true = search (rules, c.number_of.ensures, c.is_none.ensures, c.if-is_none.true) in
    let lacks = ap (λ ws. has_word ws word) (sym c.as_slice.ensures.value) ∙ (sym c.has.ensures ∙ c.if-not-has.true) in
    subst (λ (ws : List (List ℕ)). Notes k (word ∷ []) fresh ws)
    (sym (c.push.ensures.items ∙ ap (λ w. fresh ++ w ∷ []) c.copied.ensures))
    (notes_new k word none fresh lacks)
