-- What the calls do to the number of a word and to the word of a number.
use Rattle.std.proofs.Common.{◌≡◌, ◌⊎◌, ℕ, ◌+◌, ◌<◌, ◌≤◌, ◌==◌, nat_lt, Bool, true, false, not, cond, if◌then◌else◌, Option, Some, None, List, [], filter, length, get_or, IsTrue, refl, sym, ap, subst, ◌∙◌, inl, inr}
use Rattle.std.specs.declared.cmp.Ordering.TheVariants.{Equal}
use Rattle.std.specs.Option.{option_map}
use Rattle.std.specs.BTreeSet.{insert_key}
use Rattle.std.specs.List.{find, HoldsAt}
use Rattle.std.proofs.lemmas.Bool.{eq-eqb, eqb-true, ltb-true, lt-ltb}
use Rattle.std.proofs.lemmas.Map.Lookups.{exact_bytes}
use Rattle.lis_graph.proofs.Members.{Among, among_at, all_among, all_from, find_among, find_none, none_found, among_filter, among_insert_key, among_map, map_among}
use Rattle.lis_graph.proofs.Filters.{filter_all}
use Rattle.lis_words.specs.Words.{is_property, same_word}
use Rattle.lis_dict.specs.Dict.{Dict, IsDict, words, number_of, word_of, entry_cmp, with_entry, without_word}
use Rattle.lis_dict.proofs.Finds.{find_filter, find_filter_none, find_insert_key, length-insert_key}
use Rattle.lis_dict.proofs.Entries.{DictEntry, Ordered, Apart, ordered_from_rising, rising_from_ordered, apart_from_distinct, distinct_from_apart, unique_word, unique_number, ordered_insert, apart_insert, ordered_filter, apart_filter}
use Rattle.lis_dict.proofs.Places.{same_true, same_from, same_false, is_other, other_true, one_filtered, IsGap, gap_absent}

abbrev has_this : List ℕ → DictEntry → Bool
has_this word e = same_word e.0 word

abbrev has_that : ℕ → DictEntry → Bool
has_that number e = e.1 == number

-- ---- entries, numbers and words
module _ (d : Dict) where
  -- an entry has the word and the number
  pub among_from_number : (word : List ℕ) (number : ℕ) → number_of d word ≡ Some number → Among d.entries (word, number)
  among_from_number word number h = by (find (has_this word) d.entries) refl h
    where
      by : (o : Option DictEntry) → find (has_this word) d.entries ≡ o → option_map (λ (e : DictEntry). e.1) o ≡ Some number → Among d.entries (word, number)
      by None is none = absurd cc
      by (Some e) is some =
          let m = find_among (has_this word) d.entries e is in
          let same : e.1 ≡ number = cc in
          subst (λ (w : List ℕ). Among d.entries (w, number)) (same_from e.0 word m.1) (subst (λ (n : ℕ). Among d.entries (e.0, n)) same m.0)

  pub among_from_word : (word : List ℕ) (number : ℕ) → word_of d number ≡ Some word → Among d.entries (word, number)
  among_from_word word number h = by (find (has_that number) d.entries) refl h
    where
      by : (o : Option DictEntry) → find (has_that number) d.entries ≡ o → option_map (λ (e : DictEntry). e.0) o ≡ Some word → Among d.entries (word, number)
      by None is none = absurd cc
      by (Some e) is some =
          let m = find_among (has_that number) d.entries e is in
          let same : e.0 ≡ word = cc in
          subst (λ (n : ℕ). Among d.entries (word, n)) (eqb-true e.1 number m.1) (subst (λ (w : List ℕ). Among d.entries (w, e.1)) same m.0)

  find_new : (word : List ℕ) → number_of d word ≡ None → find (has_this word) d.entries ≡ None
  find_new word h = by (find (has_this word) d.entries) h
    where
      by : (o : Option DictEntry) → option_map (λ (e : DictEntry). e.1) o ≡ None → o ≡ None
      by None none = refl
      by (Some e) none = absurd cc

  find_free : (number : ℕ) → word_of d number ≡ None → find (has_that number) d.entries ≡ None
  find_free number h = by (find (has_that number) d.entries) h
    where
      by : (o : Option DictEntry) → option_map (λ (e : DictEntry). e.0) o ≡ None → o ≡ None
      by None none = refl
      by (Some e) none = absurd cc

  pub new_word : (word : List ℕ) → number_of d word ≡ None → (x : DictEntry) → Among d.entries x → x.0 ≡ word → ⊥
  new_word word h x m same = let no = find_none (has_this word) d.entries x (find_new word h) m in let yes = same_true x.0 word same in cc

  pub free_number : (number : ℕ) → word_of d number ≡ None → (x : DictEntry) → Among d.entries x → x.1 ≡ number → ⊥
  free_number number h x m same = let no = find_none (has_that number) d.entries x (find_free number h) m in let yes = eq-eqb x.1 number same in cc

  pub none_has_word : (word : List ℕ) → ((x : DictEntry) → Among d.entries x → x.0 ≡ word → ⊥) → number_of d word ≡ None
  none_has_word word none = ap (option_map (λ (e : DictEntry). e.1)) (none_found (has_this word) d.entries (λ x m. same_false x.0 word (none x m)))

module _ (d : Dict) (kept : IsDict d) where
  ordered : Ordered d.entries
  ordered = ordered_from_rising d.entries kept.rising

  apart : Apart d.entries
  apart = apart_from_distinct d.entries kept.apart

  pub number_from_among : (word : List ℕ) (number : ℕ) → Among d.entries (word, number) → number_of d word ≡ Some number
  number_from_among word number m = by (find (has_this word) d.entries) refl
    where
      by : (o : Option DictEntry) → find (has_this word) d.entries ≡ o → option_map (λ (e : DictEntry). e.1) o ≡ Some number
      by None is = absurd (let no = find_none (has_this word) d.entries (word, number) is m in let yes = same_true word word refl in cc)
      by (Some e) is =
          let found = find_among (has_this word) d.entries e is in
          ap (λ (x : DictEntry). Some x.1) (unique_word d.entries ordered e (word, number) found.0 m (same_from e.0 word found.1))

  pub word_from_among : (word : List ℕ) (number : ℕ) → Among d.entries (word, number) → word_of d number ≡ Some word
  word_from_among word number m = by (find (has_that number) d.entries) refl
    where
      by : (o : Option DictEntry) → find (has_that number) d.entries ≡ o → option_map (λ (e : DictEntry). e.0) o ≡ Some word
      by None is = absurd (let no = find_none (has_that number) d.entries (word, number) is m in let yes = eq-eqb number number refl in cc)
      by (Some e) is =
          let found = find_among (has_that number) d.entries e is in
          ap (λ (x : DictEntry). Some x.0) (unique_number d.entries apart e (word, number) found.0 m (eqb-true e.1 number found.1))

  -- the word of a word's number is the word
  pub word_from_number : (word : List ℕ) (number : ℕ) → number_of d word ≡ Some number → word_of d number ≡ Some word
  word_from_number word number h = word_from_among word number (among_from_number d word number h)

  -- the number of a number's word is the number
  pub number_from_word : (word : List ℕ) (number : ℕ) → word_of d number ≡ Some word → number_of d word ≡ Some number
  number_from_word word number h = number_from_among word number (among_from_word d word number h)

  pub number_below : (word : List ℕ) (number : ℕ) → number_of d word ≡ Some number → number < d.props
  number_below word number h = ltb-true number d.props (all_among (λ (e : DictEntry). nat_lt e.1 d.props) d.entries (word, number) kept.below (among_from_number d word number h))

-- ---- one more word
module _ (d : Dict) (word : List ℕ) (number : ℕ) (new : number_of d word ≡ None) where
  no_tie : (x : DictEntry) → Among d.entries x → entry_cmp (word, number) x ≡ Equal → ⊥
  no_tie x m tied = new_word d word new x m (sym (exact_bytes word x.0 tied))

  pub number_of-with_entry : (other : List ℕ) → number_of (with_entry d word number) other ≡ (if same_word word other then Some number else number_of d other)
  number_of-with_entry other =
      let absent : same_word word other ≡ true → find (has_this other) d.entries ≡ None = λ same. subst (λ w. find (has_this w) d.entries ≡ None) (same_from word other same) (find_new d word new) in
      ap (option_map (λ (e : DictEntry). e.1)) (find_insert_key (has_this other) entry_cmp d.entries (word, number) no_tie absent) ∙ by (same_word word other)
    where
      by : (b : Bool) → option_map (λ (e : DictEntry). e.1) (cond b (Some (word, number)) (find (has_this other) d.entries)) ≡ (if b then Some number else number_of d other)
      by true = refl
      by false = refl

  pub word_of-with_entry : word_of d number ≡ None → (other : ℕ) → word_of (with_entry d word number) other ≡ (if number == other then Some word else word_of d other)
  word_of-with_entry free other =
      let absent : (number == other) ≡ true → find (has_that other) d.entries ≡ None = λ same. subst (λ n. find (has_that n) d.entries ≡ None) (eqb-true number other same) (find_free d number free) in
      ap (option_map (λ (e : DictEntry). e.0)) (find_insert_key (has_that other) entry_cmp d.entries (word, number) no_tie absent) ∙ by (number == other)
    where
      by : (b : Bool) → option_map (λ (e : DictEntry). e.0) (cond b (Some (word, number)) (find (has_that other) d.entries)) ≡ (if b then Some word else word_of d other)
      by true = refl
      by false = refl

  pub length-with_entry : length (with_entry d word number).entries ≡ length d.entries + 1
  length-with_entry = length-insert_key entry_cmp d.entries (word, number) no_tie

  pub kept_with_entry : IsDict d → IsTrue (is_property word) → number < d.props → word_of d number ≡ None → length (with_entry d word number).entries ≤ d.props → IsDict (with_entry d word number)
  kept_with_entry kept form below free few = record {
    rising = rising_from_ordered (insert_key entry_cmp d.entries (word, number)) (ordered_insert d.entries (word, number) (ordered d kept));
    forms = all_from is_property (words (with_entry d word number)) (λ w m. formed w (among_map (λ (e : DictEntry). e.0) (insert_key entry_cmp d.entries (word, number)) w m));
    below = all_from (λ (e : DictEntry). nat_lt e.1 d.props) (insert_key entry_cmp d.entries (word, number)) (λ x m. lower x (among_insert_key entry_cmp d.entries (word, number) x m));
    apart = distinct_from_apart (insert_key entry_cmp d.entries (word, number)) (apart_insert d.entries (word, number) (apart d kept) (free_number d number free));
    few = few;
  }
    where
      lower : (x : DictEntry) → ((word, number) ≡ x) ⊎ Among d.entries x → nat_lt x.1 d.props ≡ true
      lower x (inl same) = subst (λ (e : DictEntry). nat_lt e.1 d.props ≡ true) same (lt-ltb number d.props below)
      lower x (inr m) = all_among (λ (e : DictEntry). nat_lt e.1 d.props) d.entries x kept.below m

      formed_at : (x : DictEntry) → ((word, number) ≡ x) ⊎ Among d.entries x → is_property x.0 ≡ true
      formed_at x (inl same) = subst (λ (e : DictEntry). is_property e.0 ≡ true) same form
      formed_at x (inr m) = all_among is_property (words d) x.0 kept.forms (map_among (λ (e : DictEntry). e.0) d.entries x m)

      formed : (w : List ℕ) → (x : DictEntry) × Among (insert_key entry_cmp d.entries (word, number)) x × (x.0 ≡ w) → is_property w ≡ true
      formed w found = subst (λ v. is_property v ≡ true) found.2 (formed_at found.0 (among_insert_key entry_cmp d.entries (word, number) found.0 found.1))

-- ---- one fewer word
module _ (d : Dict) (word : List ℕ) where
  pub number_of-without_word : (other : List ℕ) → number_of (without_word d word) other ≡ (if same_word word other then None else number_of d other)
  number_of-without_word other = by (same_word word other) refl
    where
      by : (b : Bool) → same_word word other ≡ b → number_of (without_word d word) other ≡ (if b then None else number_of d other)
      by true is =
          ap (option_map (λ (e : DictEntry). e.1)) (find_filter_none (has_this other) (is_other word) d.entries (λ x m has. ap not (same_true x.0 word (same_from x.0 other has ∙ sym (same_from word other is)))))
      by false is =
          ap (option_map (λ (e : DictEntry). e.1)) (find_filter (has_this other) (is_other word) d.entries (λ x m has. ap not (same_false x.0 word (λ same. let yes = same_true word other (sym same ∙ same_from x.0 other has) in cc))))

  pub word_of-without_word : IsDict d → (number : ℕ) → number_of d word ≡ Some number → (other : ℕ) → word_of (without_word d word) other ≡ (if number == other then None else word_of d other)
  word_of-without_word kept number there other = by (number == other) refl
    where
      here : Among d.entries (word, number)
      here = among_from_number d word number there

      by : (b : Bool) → (number == other) ≡ b → word_of (without_word d word) other ≡ (if b then None else word_of d other)
      by true is =
          ap (option_map (λ (e : DictEntry). e.0)) (find_filter_none (has_that other) (is_other word) d.entries (λ x m has.
          ap not (same_true x.0 word (ap (λ (e : DictEntry). e.0) (unique_number d.entries (apart d kept) x (word, number) m here (eqb-true x.1 other has ∙ sym (eqb-true number other is)))))))
      by false is =
          ap (option_map (λ (e : DictEntry). e.0)) (find_filter (has_that other) (is_other word) d.entries (λ x m has.
          ap not (same_false x.0 word (λ same.
          let is_it = ap (λ (e : DictEntry). e.1) (unique_word d.entries (ordered d kept) x (word, number) m here same) in
          let yes = eq-eqb number other (sym is_it ∙ eqb-true x.1 other has) in cc))))

  pub length-without_word : IsDict d → (number : ℕ) → number_of d word ≡ Some number → length (without_word d word).entries + 1 ≡ length d.entries
  length-without_word kept number there = one_filtered d.entries (ordered d kept) word number (among_from_number d word number there)

  pub kept_without_word : IsDict d → length (without_word d word).entries ≤ d.props → IsDict (without_word d word)
  kept_without_word kept few = record {
    rising = rising_from_ordered (filter (is_other word) d.entries) (ordered_filter (is_other word) d.entries (ordered d kept));
    forms = all_from is_property (words (without_word d word)) (λ w m.
        let x = among_map (λ (e : DictEntry). e.0) (filter (is_other word) d.entries) w m in
        subst (λ v. is_property v ≡ true) x.2 (all_among is_property (words d) (x.0).0 kept.forms (map_among (λ (e : DictEntry). e.0) d.entries x.0 (among_filter (is_other word) d.entries x.0 x.1).0)));
    below = all_from (λ (e : DictEntry). nat_lt e.1 d.props) (filter (is_other word) d.entries) (λ x m. all_among (λ (e : DictEntry). nat_lt e.1 d.props) d.entries x kept.below (among_filter (is_other word) d.entries x m).0);
    apart = distinct_from_apart (filter (is_other word) d.entries) (apart_filter (is_other word) d.entries (apart d kept));
    few = few;
  }

-- ---- what a search finds
module _ (d : Dict) (word : List ℕ) (k : ℕ) where
  pub number_found : IsDict d → k < length d.entries → HoldsAt (λ (e : DictEntry). e.0 ≡ word) d.entries k → (e : DictEntry) → e ≡ get_or d.entries k e → number_of d word ≡ Some e.1
  number_found kept lt at e is =
      let here : Among d.entries e = subst (λ (x : DictEntry). Among d.entries x) (sym is) (among_at d.entries k e lt) in
      let same : e.0 ≡ word = ap (λ (x : DictEntry). x.0) is ∙ at e in
      number_from_among d kept word e.1 (subst (λ (w : List ℕ). Among d.entries (w, e.1)) same here)

  pub not_found : k < length d.entries → HoldsAt (λ (e : DictEntry). e.0 ≡ word) d.entries k → number_of d word ≡ None → ⊥
  not_found lt at new = new_word d word new (get_or d.entries k ([], 0)) (among_at d.entries k ([], 0) lt) (at ([], 0))

  pub number_absent : IsGap d.entries word k → number_of d word ≡ None
  number_absent gap = none_has_word d word (gap_absent d.entries word k gap)

  -- a word that is not there is not removed
  pub without_new : IsGap d.entries word k → d ≡ without_word d word
  without_new gap = ap (λ (es : List DictEntry). record { props = d.props; entries = es }) (sym (filter_all (is_other word) d.entries (λ x m. other_true word x (gap_absent d.entries word k gap x m))))
