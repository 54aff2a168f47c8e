-- The numbers of what a file has by itself, found number by number, and those of its description. `is_found` and `has_number` are one test,
-- and the checker takes one for the other.
use Rattle.std.proofs.Common.{rules}
pub use Rattle.lis_open.specs.ReadFiles.{Gathered}
use Rattle.std.proofs.Common.{All}
use Rattle.lis_open.proofs.Common.{◌≡◌, ℕ, ◌<◌, ◌||◌, Option, Some, None, List, [], ◌∷◌, ◌++◌, get_or, ⊎_elim, ◌==◌, refl, sym, ap, ◌∙◌, subst, arith, ◌+◌, nat_le, nat_lt, true, false, ◌&&◌, option_to_list, length, take, ◌≤◌, Bool, not, is_some, slice_get, le-leb, ltb-true, or-false, IsTrue, Among, all_among, among_flat_map, among_from_contains, has_number, Taxonomy, list_all, list_all-append, number_below, number_of, FileRecord, or_left, IsDict, is_valued, head_bytes, met_tests, Metadata, bit_of, and_from, nat_cmp}
use Rattle.std.specs.List.Sorted.{IsStrictlyIncreasing}
use Rattle.std.proofs.Math.Bool.{or_assoc, and-true}
use Rattle.std.proofs.lemmas.List.Elements.{Contains-get_or}
use Rattle.std.proofs.lemmas.List.Folds.{list_any-append}
use Rattle.std.proofs.lemmas.Map.Keys.{IsStrictlyIncreasing-from_sorted}
use Rattle.std.specs.Cmp.{nat_cmp_total}
use Rattle.lis_taxonomy.specs.Search.{is_found, met}
use Rattle.lis_taxonomy.specs.Taxonomy.{any_entails}
use Rattle.lis_taxonomy.proofs.Searches.{met_found}
use Rattle.lis_taxonomy.proofs.Finds.{any_entails_as}
use Rattle.lis_ext.specs.Numbers.{numbers_where}
use Rattle.lis_ext.proofs.Numbers.{has_decides, numbers_same, sorted_where, among_where, where_among}
use Rattle.lis_graph.proofs.Sets.{same_sets}
use Rattle.lis_open.specs.ReadFiles.{described, AreListed, is_numbered, numbers_of, own_numbers, may_describe, AreDescribed}
use Rattle.std.proofs.lemmas.Bool.{lt-leb}
use Rattle.std.proofs.lemmas.Grind.{flat_map-append}
use Rattle.std.proofs.lemmas.List.{take_more}
use Rattle.lis_open.specs.declared.words.Words.{Words}
use Rattle.lis_graph.proofs.Members.{among_filter, among_append}
use Rattle.lis_words.specs.Words.{test_of}
use Rattle.lis_laws.proofs.Apart.{test_not_valued}
use Rattle.lis_laws.proofs.Counts.{all_from}
use Rattle.lis_laws.proofs.Touched.{met_is_test}
use Rattle.lis_model.specs.Tests.{is_met}
use Rattle.lis_store.proofs.MetTests.{met_first, met_next, unmet_next, met_before, met_behind}
use Rattle.lis_open.specs.ReadWords.{AreWords, declared_words, kept_words}
use Rattle.lis_open.proofs.Descriptions.{no_limits, declared_numbered}

pub gathered_none : (found : List ℕ) → Gathered found found []
gathered_none found n = sym (or-false (is_found found n))

pub gathered_then : (old found new ms ns : List ℕ) → Gathered old found ms → Gathered found new ns → Gathered old new (ms ++ ns)
gathered_then old found new ms ns first second n =
    second n ∙ (ap (λ b. b || has_number ns n) (first n) ∙ (or_assoc (is_found old n) (has_number ms n) (has_number ns n) ∙ ap (λ b. is_found old n || b) (sym (list_any-append (λ m. m == n) ms ns))))

-- one number is met
pub gathered_one : (found : List ℕ) (number : ℕ) → Gathered found (met found number) (number ∷ [])
gathered_one found number n = met_found found number n ∙ ap (λ b. is_found found n || b) (sym (or-false (number == n)))

-- ---- the numbers of a description
-- numbers that all pass below one bound are the same below a greater one
pub where_longer : (props more : ℕ) (test : ℕ → Bool) → props ≤ more → ((n : ℕ) → IsTrue (test n) → n < props) → numbers_where more test ≡ numbers_where props test
where_longer props more test le below = same_sets nat_cmp nat_cmp_total (numbers_where more test) (numbers_where props test) (sorted_where more test) (sorted_where props test)
    (λ n m. let parts = among_where more test n m in where_among props test n (below n parts.1) parts.1)
    (λ n m. let parts = among_where props test n m in where_among more test n (omega (arith, parts.0, le)) parts.1)

-- what the own numbers entail was found, and was listed
pub listed_are : (t : Taxonomy) (own start found : List ℕ) (listed : Option (List ℕ)) → Gathered [] start own → ((n : ℕ) → is_found found n ≡ any_entails t start n) → AreListed (numbers_where t.props (is_found found)) listed
    → AreListed (described t own) listed
listed_are t own start found listed all closed =
    subst (λ ns. AreListed ns listed) (numbers_same t.props (is_found found) (any_entails t own) (λ n lt. closed n ∙ any_entails_as t n start own all))

pub described_rise : (t : Taxonomy) (tags numbers : List ℕ) → numbers ≡ described t tags → IsStrictlyIncreasing numbers
described_rise t tags numbers is = search (rules, IsStrictlyIncreasing-from_sorted, sorted_where)

pub described_in : (t : Taxonomy) (tags numbers : List ℕ) (props : ℕ) → props ≡ t.props → numbers ≡ described t tags → All (λ n. n < props) numbers
described_in t tags numbers props same is k d lt =
    let here = among_from_contains numbers (get_or numbers k d) (Contains-get_or numbers k d lt) in
    let below = (among_where t.props (any_entails t tags) (get_or numbers k d) (subst (λ ns. Among ns (get_or numbers k d)) is here)).0 in
    omega (arith, below, same)

-- ---- the numbers of the derived words of a file, found word by word
-- the first k derived words have numbers, and these are found
pub record WordsGathered (words : Words) (derived : List (List ℕ)) (old found : List ℕ) (k : ℕ) : Type 0 where
  pub gathered : Gathered old found (numbers_of words.dict (take k derived))
  pub all : list_all (is_numbered words.dict) (take k derived) ≡ true

pub words_more : (words : Words) (derived : List (List ℕ)) (old found : List ℕ) (k : ℕ) (word : List ℕ) (n : ℕ) → WordsGathered words derived old found k → k < length derived → word ≡ get_or derived k word
    → is_numbered words.dict word ≡ true → number_of words.dict word ≡ Some n → WordsGathered words derived old (met found n) (k + 1)
words_more words derived old found k word n was lt here has is = record {
  gathered = subst (λ ns. Gathered old (met found n) ns) (sym numbers_more) (gathered_then old found (met found n) (numbers_of words.dict (take k derived)) (n ∷ []) was.gathered (gathered_one found n));
  all = ap (list_all (is_numbered words.dict)) more ∙ (list_all-append (is_numbered words.dict) (take k derived) (word ∷ []) ∙ and_from _ _ was.all (and_from _ _ has refl));
}
  where
    more : take (k + 1) derived ≡ take k derived ++ word ∷ []
    more = take_more derived k word lt ∙ ap (λ w. take k derived ++ w ∷ []) (sym here)

    numbers_more : numbers_of words.dict (take (k + 1) derived) ≡ numbers_of words.dict (take k derived) ++ n ∷ []
    numbers_more =
        ap (numbers_of words.dict) more
        ∙ (flat_map-append (λ w. option_to_list (number_of words.dict w)) (take k derived) (word ∷ [])
        ∙ ap (λ (o : Option ℕ). numbers_of words.dict (take k derived) ++ (option_to_list o ++ [])) is)

-- ---- the description
module _ (words : Words) (t : Taxonomy) (rec : FileRecord) (in_file : List (List ℕ)) where
  -- the file has none if a word that is found in it has no number
  pub undescribed : list_all (is_numbered words.dict) in_file ≡ false → may_describe words t rec in_file ≡ false
  undescribed none = ap (λ b. b && nat_le (length (described t (own_numbers words.dict rec.tags in_file))) 128) none

  -- and otherwise it depends on how many numbers it has
  pub listed_described : (listed : Option (List ℕ)) → list_all (is_numbered words.dict) in_file ≡ true → AreListed (described t (own_numbers words.dict rec.tags in_file)) listed
      → AreDescribed words t rec in_file listed
  listed_described listed all many = search (rules, lt-leb, and_from, le-leb)

-- a file's own numbers are numbers of words
pub own_below : (words : Words) (t : Taxonomy) (tags start : List ℕ) (in_file : List (List ℕ)) → AreWords words → t.props ≡ words.dict.props → list_all (λ n. nat_lt n t.props) tags ≡ true → Gathered [] start (own_numbers words.dict tags in_file)
    → (n : ℕ) → IsTrue (is_found start n) → n < t.props
unfolding own_numbers
own_below words t tags start in_file are same given all n found =
    ⊎_elim (λ m. ltb-true n t.props (all_among (λ k. nat_lt k t.props) tags n given m)) (λ m.
    let word = among_flat_map (λ w. option_to_list (number_of words.dict w)) in_file n m in
    omega (arith, number_below words.dict are.dict word.0 n (only_one (number_of words.dict word.0) n word.2), same))
    (among_append tags (numbers_of words.dict in_file) n ((has_decides (own_numbers words.dict tags in_file) n).0 (sym (all n) ∙ found)))
  where
    only_one : (o : Option ℕ) (n : ℕ) → Among (option_to_list o) n → o ≡ Some n
    only_one None n m = absurd m
    only_one (Some k) n m = search rules

-- ---- the declared tests that a file meets, and their numbers
-- ---- the tests that are met, one after another
-- the numbers of those among the first words are found
abbrev pub MetSoFar : Words → ℕ → List ℕ → List ℕ → ℕ → Type 0
MetSoFar words size old found i = Gathered old found (numbers_of words.dict (met_first (kept_words no_limits words []) size i))

module _ (words : Words) (size : ℕ) (old : List ℕ) where
  abbrev k : Metadata
  k = kept_words no_limits words []

  pub met_none : (start : ℕ) → start ≤ length words.dict.entries → ((i : ℕ) (e : List ℕ × ℕ) → i < start → slice_get words.dict.entries i ≡ Some e → test_of e.0 ≡ None) → MetSoFar words size old old start
  met_none start le none = subst (λ ws. Gathered old old (numbers_of words.dict ws)) (sym (met_before k size start le none)) (gathered_none old)

  pub met_all : (found : List ℕ) (end : ℕ) → MetSoFar words size old found end → end ≤ length words.dict.entries → ((i : ℕ) (e : List ℕ × ℕ) → end ≤ i → slice_get words.dict.entries i ≡ Some e → test_of e.0 ≡ None)
      → Gathered old found (numbers_of words.dict (met_tests (declared_words words) size))
  met_all found end was le none = subst (λ ws. Gathered old found (numbers_of words.dict ws)) (met_behind k size end le none) was

  module _ (i : ℕ) (word : List ℕ) (number : ℕ) (here : slice_get words.dict.entries i ≡ Some (word, number)) (found : List ℕ) (was : MetSoFar words size old found i) where
    pub met_not : (is_met (test_of word) size && bit_of words.declared (number_of words.dict word)) ≡ false → MetSoFar words size old found (i + 1)
    met_not unmet = subst (λ ws. Gathered old found (numbers_of words.dict ws)) (sym (unmet_next k size i (word, number) here unmet)) was

    pub met_more : number_of words.dict word ≡ Some number → (is_met (test_of word) size && bit_of words.declared (number_of words.dict word)) ≡ true → MetSoFar words size old (met found number) (i + 1)
    met_more named passes =
        let before = met_first k size i in
        let more = ap (numbers_of words.dict) (met_next k size i (word, number) here passes)
        ∙ (flat_map-append (λ w. option_to_list (number_of words.dict w)) before (word ∷ []) ∙ ap (λ (o : Option ℕ). numbers_of words.dict before ++ (option_to_list o ++ [])) named) in
        subst (λ ns. Gathered old (met found number) ns) (sym more) (gathered_then old found (met found number) (numbers_of words.dict before) (number ∷ []) was (gathered_one found number))

-- ---- with what is derived
module _ (words : Words) (dict : IsDict words.dict) (size : ℕ) where
  abbrev met_words : List (List ℕ)
  met_words = met_tests (declared_words words) size

  -- each has a number
  met_numbered : list_all (is_numbered words.dict) (met_tests (declared_words words) size) ≡ true
  met_numbered = all_from (is_numbered words.dict) met_words (λ w m.
      let both = among_filter (λ word. is_met (test_of word) size) (declared_words words) w m in
      and_from (is_some (number_of words.dict w)) (not (is_valued w) || is_some (number_of words.dict (head_bytes w))) (declared_numbered no_limits words dict w both.0)
      (or_left (not (is_valued w)) (is_some (number_of words.dict (head_bytes w))) (ap not (test_not_valued w (met_is_test (test_of w) size both.1)))))

  -- if the derived words have numbers, all that are found have them
  pub found_numbered : (derived : List (List ℕ)) → list_all (is_numbered words.dict) (derived ++ met_tests (declared_words words) size) ≡ list_all (is_numbered words.dict) derived
  found_numbered derived = list_all-append (is_numbered words.dict) derived met_words ∙ (ap (λ b. list_all (is_numbered words.dict) derived && b) met_numbered ∙ and-true (list_all (is_numbered words.dict) derived))

  -- a file's own numbers are those of its assigned words, of its derived words, and of the tests that it meets
  pub found_gathered : (tags : List ℕ) (derived : List (List ℕ)) (old given found new : List ℕ) → Gathered old given tags → Gathered given found (numbers_of words.dict derived)
      → Gathered found new (numbers_of words.dict (met_tests (declared_words words) size)) → Gathered old new (own_numbers words.dict tags (derived ++ met_tests (declared_words words) size))
  unfolding own_numbers
  found_gathered tags derived old given found new first second third =
      let all = gathered_then old given new tags (numbers_of words.dict derived ++ numbers_of words.dict met_words) first (gathered_then given found new (numbers_of words.dict derived) (numbers_of words.dict met_words) second third) in
      subst (λ ns. Gathered old new (tags ++ ns)) (sym (flat_map-append (λ w. option_to_list (number_of words.dict w)) derived met_words)) all
