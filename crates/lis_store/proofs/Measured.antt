-- How many words the description of a new file has, and how many of them are not known yet.
use Rattle.std.proofs.Common.{rules}
use Rattle.lis_store.proofs.Common.{◌≡◌, ◌⊎◌, refl, sym, ap, ap₂, ◌∙◌, subst, inl, inr, ℕ, ◌+◌, ◌<◌, ◌≤◌, Bool, true, false, not, ◌&&◌, ◌||◌, is_some, is_none, Option, Some, None, option_to_list, IsSome, List, [], ◌∷◌, ◌++◌, length, arith, flat_map, nat_cmp, nat_cmp_total, tied_itself, Ordering, IsStrictlySortedBy, and-true, and-false, or-false, and_parts, not-true, none-some, Among, among_flat_map, below_tail, sorted_tail, number_of, word_of, number_from_word, word_from_number, word_cmp, has_word, with_words, heads, up, all_up, met_tests, word_exact, among_from_has_word, among_with_words, with_words_new, sorted_with_words, sorted_set_of, up_self, entailing, sorted_all_up, Metadata, AreSound, declared_of, axioms_of, among_where, where_among, sorted_where, word_among, among_word, some_word, both_ways, false_from_ne_true, flat_map_among, has_word_from_among, with_words_old, same_words, entailed_in, same_tests, words_told, among_from_number, number_from_among, one_number, only_word}
use Rattle.lis_ext.specs.Numbers.{numbers_where}
use Rattle.std.specs.Cmp.{IsTotalOrder}
use Rattle.lis_taxonomy.specs.Search.{is_found}
use Rattle.lis_model.specs.Noted.{are_distinct_words}
use Rattle.lis_kept.proofs.Described.{few_where}
use Rattle.lis_store.specs.Drafts.{Draft}
use Rattle.lis_store.specs.Admitting.{described_words, described_by}
use Rattle.lis_store.specs.Finding.{FindsAll}
use Rattle.lis_store.specs.Adding.{is_one_of}
use Rattle.lis_store.specs.Describing.{with_heads, Notes, IsFound}
use Rattle.lis_store.proofs.Entailment.{up_has_number}
use Rattle.lis_store.proofs.Entailed.{ups_both}
use Rattle.lis_store.proofs.Gathered.{numbered_below}
use Rattle.lis_store.proofs.Found.{through, behind}
use Rattle.lis_store.proofs.MetTests.{met_numbered}
use Rattle.lis_store.proofs.Naming.{one_of}
use Rattle.lis_store.proofs.Points.{AllApart, no_tie, length-with_more}

-- ---- lists without repeats
distinct_apart : (words : List (List ℕ)) → are_distinct_words words ≡ true → AllApart words
distinct_apart [] h = tt
distinct_apart (w ∷ words) h =
    let both = and_parts (not (has_word words w)) (are_distinct_words words) h in
    (λ m. both_ways (has_word words w) (not-true (has_word words w) both.0) (has_word_from_among words w m), distinct_apart words both.1)

pub sorted_apart : {K : Type 0} (cmp : K → K → Ordering) → IsTotalOrder cmp → (xs : List K) → IsStrictlySortedBy cmp xs → AllApart xs
sorted_apart cmp order [] sorted = tt
sorted_apart cmp order (x ∷ xs) sorted =
    (λ m. no_tie cmp order x x xs (below_tail cmp order x xs sorted) m (tied_itself order x), sorted_apart cmp order xs (sorted_tail cmp order x xs sorted))

-- ---- numbers
pub numbers_apart : (props : ℕ) (test : ℕ → Bool) → AllApart (numbers_where props test)
numbers_apart props test = sorted_apart nat_cmp nat_cmp_total (numbers_where props test) (sorted_where props test)

module _ (k : Metadata) (sound : AreSound k) where
  -- ---- what words lead to
  abbrev Up : List ℕ → List (List ℕ)
  Up = up (declared_of k) (axioms_of k)

  -- ---- there are as many words as numbers
  abbrev word_list : ℕ → List (List ℕ)
  word_list n = option_to_list (word_of k.dict n)

  told_once : (ns : List ℕ) → AllApart ns → ((n : ℕ) → Among ns n → IsSome (word_of k.dict n)) → AllApart (flat_map word_list ns) × (length (flat_map word_list ns) ≡ length ns)
  told_once [] apart some = (tt, refl)
  told_once (n ∷ ns) apart some =
      let here = some_word (word_of k.dict n) (some n (inl refl)) in
      let rest = told_once ns apart.1 (λ m of. some m (inr of)) in
      let new : Among (flat_map word_list ns) here.0 → ⊥ = λ of.
      let found = among_flat_map word_list ns here.0 of in
      apart.0 (subst (λ m. Among ns m) (one_number k sound found.0 n here.0 (only_word (word_of k.dict found.0) here.0 found.2) here.1) found.1) in
      let is : flat_map word_list (n ∷ ns) ≡ here.0 ∷ flat_map word_list ns = ap (λ o. option_to_list o ++ flat_map word_list ns) here.1 in
      (subst (λ (ws : List (List ℕ)). AllApart ws) (sym is) (new, rest.0), omega (arith, ap length is, rest.1))

  pub told_counted : (ns : List ℕ) → AllApart ns → ((n : ℕ) → Among ns n → IsSome (word_of k.dict n)) → length (words_told k.dict ns) ≡ length ns
  told_counted ns apart some =
      let once = told_once ns apart some in
      omega (arith, length-with_more word_cmp word_exact [] (flat_map word_list ns) once.0 (λ w m none. none), once.1)

  -- ---- sets of words, of which some have numbers
  -- A set has the words whose numbers pass a test, and, of the words that have no number, those that are given.
  pub record IsCounted (test : ℕ → Bool) (fresh set : List (List ℕ)) : Type 0 where
    pub sorted : IsStrictlySortedBy word_cmp set
    pub named : (n : ℕ) → n < k.limits.props → test n ≡ true → IsSome (word_of k.dict n)
    pub numbered : (w : List ℕ) (n : ℕ) → word_of k.dict n ≡ Some w → has_word set w ≡ test n
    pub once : are_distinct_words fresh ≡ true
    pub new : (w : List ℕ) → has_word fresh w ≡ true → number_of k.dict w ≡ None
    pub others : (w : List ℕ) → number_of k.dict w ≡ None → has_word set w ≡ has_word fresh w

  pub counted : (test : ℕ → Bool) (fresh set : List (List ℕ)) → IsCounted test fresh set → length set ≡ length (numbers_where k.limits.props test) + length fresh
  counted test fresh set is =
      omega (
        arith,
        ap length all,
        told_counted numbers (numbers_apart k.limits.props test) (λ n m. let at = among_where k.limits.props test n m in is.named n at.0 at.1),
        length-with_more word_cmp word_exact told fresh (distinct_apart fresh is.once)
            (λ w m old. let found = among_word k sound numbers w old in none-some found.0 (sym (is.new w (has_word_from_among fresh w m)) ∙ number_from_word k.dict sound.dict w found.0 found.1)),
      )
    where
      numbers : List ℕ
      numbers = numbers_where k.limits.props test

      told : List (List ℕ)
      told = words_told k.dict numbers

      to : (w : List ℕ) → Among set w → (o : Option ℕ) → number_of k.dict w ≡ o → Among (with_words told fresh) w
      to w m None none = with_words_new told fresh w (among_from_has_word fresh w (sym (is.others w none) ∙ has_word_from_among set w m))
      to w m (Some n) at =
          let named = word_from_number k.dict sound.dict w n at in
          with_words_old told fresh w
          (word_among k sound numbers n w named
          (number_from_among numbers n (where_among k.limits.props test n (numbered_below k sound w n named) (sym (is.numbered w n named) ∙ has_word_from_among set w m))))

      from : (w : List ℕ) → Among told w ⊎ Among fresh w → Among set w
      from w (inl old) =
          let found = among_word k sound numbers w old in
          among_from_has_word set w (is.numbered w found.0 found.1 ∙ (among_where k.limits.props test found.0 (among_from_number numbers found.0 found.2)).1)
      from w (inr m) = let has = has_word_from_among fresh w m in among_from_has_word set w (is.others w (is.new w has) ∙ has)

      all : set ≡ with_words told fresh
      all =
          same_words set (with_words told fresh) is.sorted (sorted_with_words told fresh (sorted_set_of (flat_map word_list numbers)))
          (λ w m. to w m (number_of k.dict w) refl) (λ w m. from w (among_with_words told fresh w m))

  -- ---- what words with their heads entail
  abbrev All : List (List ℕ) → List (List ℕ)
  All words = all_up (declared_of k) (axioms_of k) words

  module _ (words : List (List ℕ)) where
    source : (q : List ℕ) → Among (All words) q → (s : List ℕ) × Among (with_heads words) s × Among (Up s) q × (number_of k.dict s ≡ None → s ≡ q)
    source q m =
        let own = entailing (declared_of k) (axioms_of k) words q m in
        let found = through k sound own.0 q own.2 in
        (found.0, flat_map_among (λ (x : List ℕ). x ∷ heads x) words own.0 found.0 own.1 found.1, found.2, found.3)

    of_source : (s q : List ℕ) → Among (with_heads words) s → Among (Up s) q → Among (All words) q
    of_source s q m there =
        let own = among_flat_map (λ (x : List ℕ). x ∷ heads x) words s m in
        entailed_in (declared_of k) (axioms_of k) words own.0 q own.1 (behind k sound own.0 s q own.2 there)

    -- what has no number is one of them, or a head
    noted_same : (w : List ℕ) → number_of k.dict w ≡ None → has_word (with_heads words) w ≡ has_word (All words) w
    noted_same w none =
        same_tests (has_word (with_heads words) w) (has_word (All words) w)
        (λ h. has_word_from_among (All words) w (of_source w w (among_from_has_word (with_heads words) w h) (up_self (declared_of k) (axioms_of k) w)))
        (λ h.
        let found = source w (among_from_has_word (All words) w h) in
        has_word_from_among (with_heads words) w (subst (λ v. Among (with_heads words) v) (found.3 (without found.0 (number_of k.dict found.0) refl found.2)) found.1))
      where
        without : (s : List ℕ) (o : Option ℕ) → number_of k.dict s ≡ o → Among (Up s) w → number_of k.dict s ≡ None
        without s None e there = e
        without s (Some m) e there =
            absurd (let found = up_has_number k sound m s w (word_from_number k.dict sound.dict s m e) there in none-some found.0 (sym none ∙ number_from_word k.dict sound.dict w found.0 found.1))

  -- ---- a description is found
  module _ (draft : Draft) (found : List ℕ) (some fresh : List (List ℕ)) (finds : FindsAll k (described_words k draft) found)
      (first : Notes k (with_heads draft.assigned) [] some) (second : Notes k (with_heads draft.own) some fresh) where
    abbrev tests : List (List ℕ)
    tests = met_tests (declared_of k) draft.size

    noted : (w : List ℕ) → has_word fresh w ≡ ((has_word (with_heads draft.assigned) w && is_none (number_of k.dict w)) || (has_word (with_heads draft.own) w && is_none (number_of k.dict w)))
    noted w = second.noted w ∙ ap (λ b. b || (has_word (with_heads draft.own) w && is_none (number_of k.dict w))) (first.noted w)

    found_new : (w : List ℕ) → has_word fresh w ≡ true → number_of k.dict w ≡ None
    found_new w has = search (rules, noted, both_ways, and-false)

    found_others : (w : List ℕ) → number_of k.dict w ≡ None → has_word (described_by k draft) w ≡ has_word fresh w
    found_others w none =
        ups_both (declared_of k) (axioms_of k) (Some w) (draft.assigned ++ draft.own) tests
        ∙ (ap₂ (λ a b. a || b) (ups_both (declared_of k) (axioms_of k) (Some w) draft.assigned draft.own) untested
        ∙ (or-false (has_word (All draft.assigned) w || has_word (All draft.own) w)
        ∙ (ap₂ (λ a b. a || b) (half draft.assigned) (half draft.own)
        ∙ sym (noted w))))
      where
        half : (words : List (List ℕ)) → has_word (All words) w ≡ (has_word (with_heads words) w && is_none (number_of k.dict w))
        half words =
            sym (noted_same words w none) ∙ (sym (and-true (has_word (with_heads words) w)) ∙ ap (λ (o : Option ℕ). has_word (with_heads words) w && is_none o) (sym none))

        untested : has_word (All tests) w ≡ false
        untested = false_from_ne_true (has_word (All tests) w) (λ h.
            let test = entailing (declared_of k) (axioms_of k) tests w (among_from_has_word (All tests) w h) in
            let number = met_numbered k sound draft.size test.0 test.1 in
            let found = up_has_number k sound number.0 test.0 w number.1 test.2 in
            none-some found.0 (sym none ∙ number_from_word k.dict sound.dict w found.0 found.1))

    pub draft_found : IsFound k draft found fresh
    draft_found = search (rules, finds, first, second, found_new, found_others)

  -- ---- and measured
  module _ (draft : Draft) (found : List ℕ) (fresh : List (List ℕ)) (is : IsFound k draft found fresh) where
    described_is : IsCounted (is_found found) fresh (described_by k draft)
    described_is = record {
      sorted = sorted_all_up (declared_of k) (axioms_of k) (described_words k draft);
      named = λ n lt on. ap (λ (o : Option (List ℕ)). is_some o) (one_of (described_by k draft) (word_of k.dict n) (sym (is.finds.named n) ∙ on)).1;
      numbered = λ w n named. sym (is.finds.named n ∙ ap (is_one_of (described_by k draft)) named);
      once = is.once;
      new = is.new;
      others = is.others;
    }

    pub words_measured : length found + length fresh ≡ length (described_by k draft)
    words_measured = omega (arith, is.finds.count, counted (is_found found) fresh (described_by k draft) described_is)

    pub few_numbers : length found ≤ k.limits.props
    few_numbers = omega (arith, is.finds.count, few_where k.limits.props (is_found found) (numbers_where k.limits.props (is_found found)) refl)
