-- How many words would be known with a file that is added, or that replaces another file.
use Rattle.std.proofs.Common.{rules}
use Rattle.lis_store.proofs.Common.{◌≡◌, ◌⊎◌, refl, sym, ap, ap₂, ◌∙◌, subst, inl, inr, ℕ, ◌+◌, ◌<◌, not, ◌&&◌, ◌||◌, Bool, true, false, is_some, IsSome, IfSome, Option, Some, None, List, [], length, filter, count_by, arith, IsStrictlyIncreasing, IsStrictlySortedBy, Among, numbers_at, and-true, and-false, and_parts, cases_eq, length-map, none-some, sorted_from_rising, is_taken, rec_at, number_of, word_of, number_from_word, has, numbers_same, word_cmp, has_word, word_order, among_from_has_word, sorted_with_words, Metadata, AreSound, is_had, is_named_left, is_used, AreUsed, emptied, had_at, left_out, both_ways, false_from_ne_true, words, numbers_where, has_word_from_among, same_tests, one_number}
use Rattle.lis_taxonomy.specs.Search.{is_found}
use Rattle.std.proofs.lemmas.List.Sums.{length-filter}
use Rattle.lis_ext.specs.Numbers.{has_number}
use Rattle.lis_ext.proofs.Numbers.{numbers_apart, numbers_of}
use Rattle.lis_kept.proofs.Without.{elsewhere_had}
use Rattle.lis_store.specs.Adding.{is_one_of}
use Rattle.lis_store.specs.Drafts.{Draft}
use Rattle.lis_store.specs.Admitting.{described_by}
use Rattle.lis_store.specs.Beside.{words_beside, known_beside, is_leaving, leaving}
use Rattle.lis_store.specs.Describing.{IsFound}
use Rattle.lis_store.proofs.Assigned.{has_both}
use Rattle.lis_store.proofs.Widened.{where_twice}
use Rattle.lis_store.proofs.StoreSays.{numbered}
use Rattle.lis_store.proofs.InsteadKnown.{sorted_without, without_word, word_without}
use Rattle.lis_store.proofs.Measured.{IsCounted, counted}

-- if a number has a word that is used at all, it is used elsewhere or found, or it goes out of use
goes_or_stays : (used found had : Bool) → (used ≡ false → had ≡ true) → (((used || found) && true) || (had && not found && not used)) ≡ true
goes_or_stays used found had other = search (rules)

not_both : (used found had named : Bool) → ((used || found) && named) ≡ true → (had && not found && not used) ≡ false
not_both used found had named h = search (rules, and-false)

parted : (had found used : Bool) → (had && (not found && not used)) ≡ (had && not found && not used)
parted true found used = refl
parted false found used = refl

-- of the numbers of a description, those that go out of use
pub counted_own : (k : Metadata) (found : List ℕ) (slot : ℕ) (own : List ℕ) → own ≡ numbers_at k.ext slot → IsStrictlyIncreasing own → ((n : ℕ) → Among own n → n < k.limits.props)
    → count_by (λ n. not (is_found found n) && not (is_used (emptied k slot) n)) own ≡ length (leaving k found (Some slot))
counted_own k found slot own is rises below =
    let goes : ℕ → Bool = λ n. not (is_found found n) && not (is_used (emptied k slot) n) in
    let props = k.limits.props in
    sym (length-filter goes own)
    ∙ ap length (ap (filter goes) (sym (numbers_of props own rises below))
    ∙ (where_twice props (has_number own) goes
    ∙ numbers_same props (λ n. has_number own n && goes n) (is_leaving k found slot)
    (λ n lt. parted (has_number own n) (is_found found n) (is_used (emptied k slot) n) ∙ ap (λ (ns : List ℕ). has_number ns n && not (is_found found n) && not (is_used (emptied k slot) n)) is)))

only_had : (flag had other left : Bool) → (flag || had || left) ≡ true → (flag || other || left) ≡ false → (had ≡ true) × (other ≡ false)
only_had flag had other left some none = search (rules)

module _ (k : Metadata) (sound : AreSound k) where
  -- the word of a number is in use, the description in the slot not counted, if a slot is given
  abbrev stays : Option ℕ → ℕ → Bool
  stays None n = true
  stays (Some slot) n = is_used (emptied k slot) n

  sorted_beside : (old : Option ℕ) → IsStrictlySortedBy word_cmp (words_beside k old)
  sorted_beside old = search (rules, sorted_from_rising, word_order, sorted_without)

  is_beside : (old : Option ℕ) (w : List ℕ) (n : ℕ) → word_of k.dict n ≡ Some w → has_word (words_beside k old) w ≡ stays old n
  is_beside None w n is = numbered k.dict w ∙ ap (λ (o : Option ℕ). is_some o) (number_from_word k.dict sound.dict w n is)
  is_beside (Some slot) w n is =
      same_tests (has_word (words_beside k (Some slot)) w) (is_used (emptied k slot) n)
      (λ h.
      let found = without_word k sound slot w (among_from_has_word (words_beside k (Some slot)) w h) in
      subst (λ m. is_used (emptied k slot) m ≡ true) (one_number k sound found.0 n w found.1 is) found.2)
      (λ used. has_word_from_among (words_beside k (Some slot)) w (word_without k sound slot w n is used))

  none_beside : (old : Option ℕ) (w : List ℕ) → number_of k.dict w ≡ None → has_word (words_beside k old) w ≡ false
  none_beside None w none = numbered k.dict w ∙ ap (λ (o : Option ℕ). is_some o) none
  none_beside (Some slot) w none = false_from_ne_true (has_word (words_beside k (Some slot)) w) (λ h.
      let found = without_word k sound slot w (among_from_has_word (words_beside k (Some slot)) w h) in
      none-some found.0 (sym none ∙ number_from_word k.dict sound.dict w found.0 found.1))

  abbrev named : ℕ → Bool
  named n = is_some (word_of k.dict n)

  -- a number that only the slot uses
  used_here : (slot n : ℕ) → is_used k n ≡ true → is_used (emptied k slot) n ≡ false → has k.ext n slot ≡ true
  used_here slot n there gone =
      let had = only_had (is_taken k.declared n) (is_had k.ext n) (is_had (left_out k.ext slot) n) (is_named_left k n) there gone in
      let at = had_at k.ext n had.0 in
      by at.0 at.2 had.1 (cases_eq at.0 slot)
    where
      by : (at : ℕ) → has k.ext n at ≡ true → is_had (left_out k.ext slot) n ≡ false → (at ≡ slot) ⊎ (at ≡ slot → ⊥) → has k.ext n slot ≡ true
      by at has_it gone (inl same) = subst (λ i. has k.ext n i ≡ true) same has_it
      by at has_it gone (inr differ) = absurd (both_ways (is_had (left_out k.ext slot) n) gone (elsewhere_had k.ext slot n at differ has_it))

  -- all known words, by their numbers
  all_known : length k.dict.entries ≡ length (numbers_where k.limits.props named)
  all_known =
      let some = counted k sound named [] (words k.dict) (record {
        sorted = sorted_beside None;
        named = λ n lt h. h;
        numbered = λ w n is. is_beside None w n is ∙ sym (ap (λ (o : Option (List ℕ)). is_some o) is);
        once = refl;
        new = λ w h. absurd cc;
        others = λ w none. none_beside None w none;
      }) in
      omega (arith, some, length-map k.dict.entries (λ (e : List ℕ × ℕ). e.0))

  module _ (draft : Draft) (found : List ℕ) (fresh : List (List ℕ)) (is : IsFound k draft found fresh) where
    abbrev remains : Option ℕ → ℕ → Bool
    remains old n = (stays old n || is_found found n) && named n

    known_is : (old : Option ℕ) → IsCounted k sound (remains old) fresh (known_beside k old draft)
    known_is old = record {
      sorted = sorted_with_words (words_beside k old) (described_by k draft) (sorted_beside old);
      named = λ n lt h. (and_parts (stays old n || is_found found n) (named n) h).1;
      numbered = λ w n at.
          has_both (words_beside k old) (described_by k draft) w
          ∙ (ap₂ (λ a b. a || b) (is_beside old w n at) (sym (is.finds.named n ∙ ap (is_one_of (described_by k draft)) at))
          ∙ (sym (and-true (stays old n || is_found found n)) ∙ ap (λ (o : Option (List ℕ)). (stays old n || is_found found n) && is_some o) (sym at)));
      once = is.once;
      new = is.new;
      others = λ w none. has_both (words_beside k old) (described_by k draft) w ∙ ap₂ (λ a b. a || b) (none_beside old w none) (is.others w none);
    }

    all_remain : (old : Option ℕ) → IfSome old (λ slot. IsSome (rec_at k.catalog slot)) → IfSome old (λ slot. AreUsed k)
        → length (numbers_where k.limits.props (remains old)) + length (leaving k found old) ≡ length (numbers_where k.limits.props named)
    all_remain None there used = omega arith
    all_remain (Some slot) there used =
        numbers_apart k.limits.props (remains (Some slot)) (is_leaving k found slot)
        (λ n h. not_both (is_used (emptied k slot) n) (is_found found n) (has k.ext n slot) (named n) h)
        ∙ ap length (numbers_same k.limits.props (λ n. remains (Some slot) n || is_leaving k found slot n) named (λ n lt. by n (word_of k.dict n) refl))
      where
        by : (n : ℕ) (o : Option (List ℕ)) → word_of k.dict n ≡ o → (((stays (Some slot) n || is_found found n) && named n) || is_leaving k found slot n) ≡ named n
        by n None none =
            ap₂ (λ a b. a || b) (ap (λ (o : Option (List ℕ)). (stays (Some slot) n || is_found found n) && is_some o) none ∙ and-false (stays (Some slot) n || is_found found n)) unnamed
            ∙ sym (ap (λ (o : Option (List ℕ)). is_some o) none)
          where
            unnamed : is_leaving k found slot n ≡ false
            unnamed = false_from_ne_true (is_leaving k found slot n) (λ h.
                let here = (and_parts (has k.ext n slot) (not (is_found found n)) (and_parts (has k.ext n slot && not (is_found found n)) (not (is_used (emptied k slot) n)) h).0).0 in
                both_ways (named n) (ap (λ (o : Option (List ℕ)). is_some o) none) (sound.named n slot there here))
        by n (Some w) some =
            let here = ap (λ (o : Option (List ℕ)). is_some o) some in
            ap (λ b. ((stays (Some slot) n || is_found found n) && b) || is_leaving k found slot n) here
            ∙ (goes_or_stays (is_used (emptied k slot) n) (is_found found n) (has k.ext n slot) (λ gone. used_here slot n (used n here) gone) ∙ sym here)

    pub known_measured : (old : Option ℕ) → IfSome old (λ slot. IsSome (rec_at k.catalog slot)) → IfSome old (λ slot. AreUsed k)
        → length (known_beside k old draft) + length (leaving k found old) ≡ length k.dict.entries + length fresh
    known_measured old there used =
        omega (arith, all_known, all_remain old there used, counted k sound (remains old) fresh (known_beside k old draft) (known_is old))
