use Rattle.std.proofs.lemmas.List.Sums.{count_by_more_no, count_by_more_yes, count_by-le-length}
use Rattle.lis_store.proofs.Common.{◌∙◌, ℕ, Bool, not, ◌&&◌, length, take, sym, ap, subst, IfSome, IsSome, arith, count_by, get_or, take_all, length-take-le, rec_at, is_used, emptied, named_below, Contains-get_or, Among, among_from_contains, number_from_among, ◌+◌}
use Rattle.lis_ext.specs.Numbers.{has_number}
use Rattle.lis_taxonomy.specs.Search.{is_found}
use Rattle.lis_store.specs.Beside.{leaving}
use Rattle.lis_store.proofs.KnownBeside.{counted_own}
use Rattle.lis_store.proofs.describing.leaving.Goals.{then-is_leaving, else-is_leaving}
use Rattle.lis_store.proofs.describing.leaving.Goals as goal

pub is_leaving-requires-clause-named : goal.is_leaving-requires-clause-named
is_leaving-requires-clause-named c =
    let k = c.args.metadata.now in
    let own = c.numbers-number-items.result.now in
    let number = get_or own c.loop-number.number-index 0 in
    let there = subst (λ o. IfSome o (λ slot. IsSome (rec_at k.catalog slot))) c.in-Some.is c.requires.there in
    let has_it = number_from_among own number (among_from_contains own number (Contains-get_or own c.loop-number.number-index 0 c.loop-number-test.true)) in
    c.requires.sound.named number c.in-Some.slot there (ap (λ ns. has_number ns number) (sym c.numbers-number-items.ensures.numbers) ∙ has_it)

pub overflow_add-count : goal.overflow_add-count
overflow_add-count c =
    let own = c.numbers-number-items.result.now in
    let goes : ℕ → Bool = λ n. not (is_found c.args.found.now n) && not (is_used (emptied c.args.metadata.now c.in-Some.slot) n) in
    let i = c.loop-number.number-index in
    omega (arith, c.loop-number.invariant, count_by-le-length goes (take i own), length-take-le i own c.loop-number.auto.number-index-end, c.loop-number.auto.number-index-end, c.numbers-number-items.ensures.few)

pub loop-number-preserved : goal.loop-number-preserved
loop-number-preserved c =
    let own = c.numbers-number-items.result.now in
    let goes : ℕ → Bool = λ n. not (is_found c.args.found.now n) && not (is_used (emptied c.args.metadata.now c.in-Some.slot) n) in
    let i = c.loop-number.number-index in
    let lt = c.loop-number-test.true in
    elim c.if-is_leaving.branch [
      | then-is_leaving w ↦ w.count-is ∙ (ap (λ n. n + 1) c.loop-number.invariant ∙ sym (count_by_more_yes goes own i 0 lt (sym c.is_leaving.ensures ∙ w.if-is_leaving.true)))
      | else-is_leaving w ↦ w.count-is ∙ (c.loop-number.invariant ∙ sym (count_by_more_no goes own i 0 lt (sym c.is_leaving.ensures ∙ w.if-is_leaving.false)))
    ]

pub returns : goal.returns
returns c =
    let k = c.args.metadata.now in
    let found = c.args.found.now in
    let own = c.numbers-number-items.result.now in
    let slot = c.in-Some.slot in
    let there = subst (λ o. IfSome o (λ slot. IsSome (rec_at k.catalog slot))) c.in-Some.is c.requires.there in
    let all = take_all c.loop-number.number-index own (omega (arith, c.loop-number-test.false)) in
    let set = c.numbers-number-items.ensures.numbers in
    let named = λ (n : ℕ) (of : Among own n). c.requires.sound.named n slot there (ap (λ ns. has_number ns n) (sym set) ∙ number_from_among own n of) in
    c.loop-number.invariant
    ∙ (ap (count_by (λ n. not (is_found found n) && not (is_used (emptied k slot) n))) all
    ∙ (counted_own k found slot own set c.numbers-number-items.ensures.rising (λ n of. named_below k c.requires.sound n (named n of))
    ∙ ap (λ o. length (leaving k found o)) (sym c.in-Some.is)))
