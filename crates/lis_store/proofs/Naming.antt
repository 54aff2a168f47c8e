-- The numbers of words.
use Rattle.std.proofs.Common.{rules}
use Rattle.lis_store.proofs.Common.{◌≡◌, refl, sym, ap, ◌∙◌, subst, inl, inr, ℕ, ◌≤◌, not, ◌||◌, true, false, List, [], ◌∷◌, ◌++◌, length, filter, Option, Some, option_to_list, arith, Less, nat_cmp, nat_cmp_total, tied_itself, AllByRecursion, flat_map, IsStrictlySortedBy, not_from_false, list_any-append, same_Some, Among, among_flat_map, filter_among, below_tail, sorted_tail, Dict, IsDict, number_of, word_of, word_from_number, number_from_word, number_below, word_cmp, same_word, same_word_decides, among_from_has_word, among_set_of, sorted_set_of, among_where, where_among, sorted_where, some_number, false_from_ne_true, flat_map_among, has_number, filter_drops, has_word_from_among, set_of_among, same_words, same_tests, words_told, among_from_number, number_from_among, only_word}
use Rattle.std.proofs.lemmas.Bool.{not_from_true}
use Rattle.lis_store.specs.Adding.{is_one_of, numbers_named, AreNumbered}

-- ---- one of these words
pub one_of : (words : List (List ℕ)) (o : Option (List ℕ)) → is_one_of words o ≡ true → (word : List ℕ) × (o ≡ Some word) × Among words word
one_of words o h = search (rules, among_from_has_word)

pub of_one : (words : List (List ℕ)) (o : Option (List ℕ)) (word : List ℕ) → o ≡ Some word → Among words word → is_one_of words o ≡ true
of_one words o word is m = ap (is_one_of words) is ∙ has_word_from_among words word m

pub one_of_none : (o : Option (List ℕ)) → is_one_of [] o ≡ false
one_of_none o = search (rules)

pub one_of_both : (some more : List (List ℕ)) (o : Option (List ℕ)) → is_one_of (some ++ more) o ≡ (is_one_of some o || is_one_of more o)
one_of_both some more o = search (rules, list_any-append)

-- ---- how many there are
all_of : {X : Type 0} (P : X → Type 0) (xs : List X) (x : X) → AllByRecursion P xs → Among xs x → P x
all_of P [] x all m = absurd m
all_of P (y ∷ ys) x all (inl same) = subst P same all.0
all_of P (y ∷ ys) x all (inr m) = all_of P ys x all.1 m

one_number : (d : Dict) → IsDict d → (m n : ℕ) (word : List ℕ) → word_of d m ≡ Some word → word_of d n ≡ Some word → m ≡ n
one_number d dict m n word is_m is_n = same_Some m n (sym (number_from_word d dict word m is_m) ∙ number_from_word d dict word n is_n)

-- there are at most as many numbers of words as words
few_named : (d : Dict) → IsDict d → (ns : List ℕ) (words : List (List ℕ)) → IsStrictlySortedBy nat_cmp ns → ((n : ℕ) → Among ns n → is_one_of words (word_of d n) ≡ true) → length ns ≤ length words
few_named d dict [] words sorted each = omega arith
few_named d dict (n ∷ ns) words sorted each =
    let first = one_of words (word_of d n) (each n (inl refl)) in
    let word = first.0 in
    let others : List (List ℕ) = filter (λ w. not (same_word w word)) words in
    let fewer = filter_drops (λ w. not (same_word w word)) words word first.2 (not_from_true (same_word word word) ((same_word_decides word word).1 refl)) in
    let rest = few_named d dict ns others (sorted_tail nat_cmp nat_cmp_total n ns sorted) (λ m of.
    let found = one_of words (word_of d m) (each m (inr of)) in
    of_one others (word_of d m) found.0 found.1
    (filter_among (λ w. not (same_word w word)) words found.0 found.2 (not_from_false (same_word found.0 word) (false_from_ne_true (same_word found.0 word) (λ same.
    let here : word_of d m ≡ Some word = found.1 ∙ ap Some ((same_word_decides found.0 word).0 same) in
    apart m of (one_number d dict n m word first.1 here)))))) in
    omega (arith, fewer, rest)
  where
    apart : (m : ℕ) → Among ns m → n ≡ m → ⊥
    apart m of same =
        let less = all_of (λ k. nat_cmp n k ≡ Less) ns m (below_tail nat_cmp nat_cmp_total n ns sorted) of in
        let level = tied_itself nat_cmp_total m in
        let this : nat_cmp m m ≡ Less = subst (λ k. nat_cmp k m ≡ Less) same less in
        cc

-- ---- the numbers of words
module _ (d : Dict) (dict : IsDict d) (words : List (List ℕ)) where
  among_named : (n : ℕ) (word : List ℕ) → word_of d n ≡ Some word → Among words word → Among (numbers_named d words) n
  among_named n word is m =
      where_among d.props (λ k. is_one_of words (word_of d k)) n (number_below d dict word n (number_from_word d dict word n is)) (of_one words (word_of d n) word is m)

  pub named_one : (n : ℕ) → Among (numbers_named d words) n → is_one_of words (word_of d n) ≡ true
  named_one n m = (among_where d.props (λ k. is_one_of words (word_of d k)) n m).1

  pub named_has : (n : ℕ) → has_number (numbers_named d words) n ≡ is_one_of words (word_of d n)
  named_has n = search (rules, same_tests, named_one, among_from_number, one_of, number_from_among, among_named)

  pub named_few : length (numbers_named d words) ≤ length words
  named_few = few_named d dict (numbers_named d words) words (sorted_where d.props (λ n. is_one_of words (word_of d n))) named_one

  -- they represent the words
  pub named_told : IsStrictlySortedBy word_cmp words → AreNumbered d words → words_told d (numbers_named d words) ≡ words
  named_told sorted numbered =
      same_words (words_told d (numbers_named d words)) words (sorted_set_of (flat_map (λ n. option_to_list (word_of d n)) (numbers_named d words))) sorted
      (λ word m.
      let found = among_flat_map (λ n. option_to_list (word_of d n)) (numbers_named d words) word (among_set_of (flat_map (λ n. option_to_list (word_of d n)) (numbers_named d words)) word m) in
      let named = one_of words (word_of d found.0) (named_one found.0 found.1) in
      subst (λ w. Among words w) (same_Some named.0 word (sym named.1 ∙ only_word (word_of d found.0) word found.2)) named.2)
      (λ word m.
      let number = some_number (number_of d word) (numbered word (has_word_from_among words word m)) in
      let is = word_from_number d dict word number.0 number.1 in
      set_of_among (flat_map (λ n. option_to_list (word_of d n)) (numbers_named d words)) word
      (flat_map_among (λ n. option_to_list (word_of d n)) (numbers_named d words) number.0 word (among_named number.0 word is m) (subst (λ o. Among (option_to_list o) word) (sym is) (inl refl))))
