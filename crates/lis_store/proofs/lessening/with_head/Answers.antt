use Rattle.lis_store.proofs.Common.{◌≡◌, ◌∙◌, ℕ, false, if◌then◌else◌, Option, None, List, [], ◌∷◌, ◌++◌, is_some, option_to_list, sym, ap, both_ways, false_from_ne_true, number_of, is_valued, head_bytes}
use Rattle.lis_store.specs.Unlinking.{heads_by}
use Rattle.lis_store.proofs.lessening.with_head.Goals as goal

pub returns-in_default-head_of : goal.returns-in_default-head_of
returns-in_default-head_of c =
    let dict = c.args.metadata.now.dict in
    let word = c.in-Some.word in
    let none : is_valued word ≡ false = false_from_ne_true (is_valued word) (λ valued. both_ways (is_some c.head_of.result) (ap is_some c.in_default-head_of.is) (c.head_of.ensures.valued.1 valued)) in
    c.push.ensures.items
    ∙ (ap (λ (xs : List ℕ). xs ++ c.args.left ∷ []) c.new-numbers.ensures
    ∙ (ap (λ (o : Option ℕ). c.args.left ∷ option_to_list o) (sym (ap (λ b. if b then number_of dict (head_bytes word) else None) none))
    ∙ ap (λ (o : Option (List ℕ)). c.args.left ∷ heads_by dict o) (sym (sym c.word_of.ensures ∙ c.in-Some.is))))
