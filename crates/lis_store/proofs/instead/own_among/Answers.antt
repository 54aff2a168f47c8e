use Rattle.lis_store.proofs.Common.{◌∙◌, ◌∷◌, ◌++◌, [], ℕ, List, get_or, length, take, append-nil, length-append, option_to_list, sym, ap, ap₂, arith, ArrayVec, flat_map, get_or_default}
use Rattle.lis_store.specs.Drafts.{own_word}
use Rattle.lis_store.proofs.Assigned.{flat_next}
use Rattle.lis_store.proofs.instead.own_among.Goals.{in-Some, in_default}
use Rattle.lis_store.proofs.instead.own_among.Goals as goal

pub push-requires : goal.push-requires
push-requires c = omega (arith, c.loop-number.invariant.1, c.loop-number-test.true, c.requires)

pub loop-number-preserved : goal.loop-number-preserved
loop-number-preserved c =
    let k = c.args.metadata.now in
    let i = c.loop-number.number-index in
    let number = get_or c.args.numbers.now i 0 in
    let words = c.loop-number.words.items in
    let next = flat_next (own_word k) c.args.numbers.now i number c.loop-number-test.true (get_or_default c.args.numbers.now i 0 number c.loop-number-test.true) in
    elim c.match-own_word.branch [
      | in-Some w ↦
          let items = ap (λ (ws : ArrayVec (List ℕ)). ws.items) w.words-is ∙ w.push.ensures.items in
          let found = ap option_to_list (sym w.in-Some.is) ∙ c.own_word.ensures in (
            items ∙ (ap₂ (λ (ws xs : List (List ℕ)). ws ++ xs) c.loop-number.invariant.0 found ∙ sym next),
            omega (arith, ap (λ (ws : List (List ℕ)). length ws) items, length-append words (w.in-Some.word ∷ []), c.loop-number.invariant.1),
          )
      | in_default w ↦
          let items = ap (λ (ws : ArrayVec (List ℕ)). ws.items) w.words-is in
          let found = ap option_to_list (sym w.in_default.is) ∙ c.own_word.ensures in
          let before = flat_map (own_word k) (take i c.args.numbers.now) in (
            items ∙ (c.loop-number.invariant.0 ∙ (sym (append-nil before) ∙ (ap (λ (xs : List (List ℕ)). before ++ xs) found ∙ sym next))),
            omega (arith, ap (λ (ws : List (List ℕ)). length ws) items, c.loop-number.invariant.1),
          )
    ]
