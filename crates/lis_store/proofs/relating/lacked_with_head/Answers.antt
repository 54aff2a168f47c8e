use Rattle.lis_store.proofs.Common.{◌+◌, ◌∙◌, List, ℕ, cond, is_some, length, refl, sym, ap, ap₂, number_of}
use Rattle.lis_store.proofs.Related.{lacks_one, lacks_two}
use Rattle.lis_store.proofs.relating.lacked_with_head.Goals as goal

pub returns-in-None-clause-count : goal.returns-in-None-clause-count
returns-in-None-clause-count c =
    let k = c.args.metadata.now in
    lacks_one k c.requires.sound c.args.word.now (λ valued. let some = c.in-None.ensures.valued.1 valued in cc) ∙ ap (λ n. length k.dict.entries + n) (sym c.lacked.ensures)

pub returns-in-Some-clause-count : goal.returns-in-Some-clause-count
returns-in-Some-clause-count c =
    let k = c.args.metadata.now in
    lacks_two k c.requires.sound c.args.word.now (c.in-Some.ensures.valued.0 refl)
    ∙ ap₂ (λ m n. length k.dict.entries + (m + n))
    (sym (c.lacked-in-Some.ensures ∙ ap (λ (w : List ℕ). cond (is_some (number_of k.dict w)) 0 1) c.in-Some.ensures.head)) (sym c.lacked-in-Some-2.ensures)
