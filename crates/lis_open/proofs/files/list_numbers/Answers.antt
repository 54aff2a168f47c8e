use Rattle.std.proofs.Common.{append-nil}
use Rattle.lis_open.proofs.Common.{ℕ, List, Bool, true, false, ◌≡◌, ◌≤◌, ◌<◌, ◌+◌, ◌++◌, ◌∙◌, ◌∷◌, [], length, refl, sym, ap, subst, arith, append_assoc, length-append, eqb-true}
use Rattle.std.proofs.lemmas.Bool.{eqb-false}
use Rattle.lis_ext.specs.Numbers.{numbers_where}
use Rattle.lis_ext.proofs.Numbers.{numbers_from, from_start, none_from, next_from}
use Rattle.lis_taxonomy.specs.Search.{is_found}
use Rattle.lis_open.proofs.Gathering.{where_longer}
use Rattle.lis_open.proofs.files.list_numbers.Goals as goal

-- the numbers so far, and those from `start` on
abbrev AreSplit : ℕ → (ℕ → Bool) → List ℕ → ℕ → Type 0
AreSplit most test items start = items ++ numbers_from most start test ≡ numbers_where most test

module _ (most : ℕ) (test : ℕ → Bool) (items : List ℕ) (start : ℕ) (split : AreSplit most test items start) where
  -- one more
  one_more : (number : ℕ) → start ≤ number → number < most → ((n : ℕ) → start ≤ n → n < number → test n ≡ false) → test number ≡ true → AreSplit most test (items ++ number ∷ []) (number + 1)
  one_more number from below none found =
      append_assoc items (number ∷ []) (numbers_from most (number + 1) test) ∙ (ap (λ ns. items ++ ns) (sym (next_from most start number test from below none found)) ∙ split)

  -- there are no more
  no_more : ((n : ℕ) → start ≤ n → n < most → test n ≡ false) → items ≡ numbers_where most test
  no_more none = sym (append-nil items) ∙ (ap (λ ns. items ++ ns) (sym (none_from most start test none)) ∙ split)

-- there are more than are listed
longer : (most : ℕ) (test : ℕ → Bool) (items : List ℕ) (number : ℕ) → AreSplit most test (items ++ number ∷ []) (number + 1) → length items < length (numbers_where most test)
longer most test items number split =
    omega (arith, ap length split, length-append (items ++ number ∷ []) (numbers_from most (number + 1) test), length-append items (number ∷ []))

pub loop-number-init : goal.loop-number-init
loop-number-init c = (λ most is. ap (λ items. items ++ numbers_from most 0 (is_found c.args.search.now)) c.new-numbers.ensures ∙ sym (from_start most (is_found c.args.search.now)), omega (arith, ap (λ (ns : List ℕ). length ns) c.new-numbers.ensures))

pub returns-then-is_full : goal.returns-then-is_full
returns-then-is_full c = λ props few below.
    let test = is_found c.args.search.now in
    let items = c.loop-number.numbers.items in
    let next = c.in-Some.ensures in
    let full : length items ≡ 128 = eqb-true (length items) 128 (sym c.if-is_full.ensures.value) in
    let of = λ (most : ℕ) (is : most ≡ 1048576).
    longer most test items c.in-Some.number (one_more most test items c.loop-number.start (c.loop-number.invariant.0 most is) c.in-Some.number next.from_start (omega (arith, next.below, is)) next.least next.found) in
    subst (λ numbers. 128 < length numbers) (where_longer props 1048576 test few below) (omega (arith, full, of 1048576 refl))

pub loop-number-preserved : goal.loop-number-preserved
loop-number-preserved c =
    let test = is_found c.args.search.now in
    let items = c.loop-number.numbers.items in
    let next = c.in-Some.ensures in (
      λ most is.
          ap (λ ns. ns ++ numbers_from most (c.in-Some.number + 1) test) c.push.ensures.items
          ∙ one_more most test items c.loop-number.start (c.loop-number.invariant.0 most is) c.in-Some.number next.from_start (omega (arith, next.below, is)) next.least next.found,
      let open_room = eqb-false (length items) 128 (sym c.if-is_full.ensures.value) in
          let pushed = c.push.ensures.len in
          omega (arith, c.loop-number.invariant.1, pushed, open_room),
    )

pub returns : goal.returns
returns c = λ props few below.
    let test = is_found c.args.search.now in
    let was = no_more 1048576 test c.loop-number.numbers.items c.loop-number.start (c.loop-number.invariant.0 1048576 refl) (λ n from lt. c.in_default.ensures.none n from) in
    let all = was ∙ where_longer props 1048576 test few below in
    (all, subst (λ numbers. length numbers ≤ 128) all c.loop-number.invariant.1)
