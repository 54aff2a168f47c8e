-- The parts of a dictionary, with one word more and with one word less.
use Rattle.std.proofs.Common.{◌≡◌, ◌⊎◌, ℕ, suc, ◌+◌, ◌<◌, ◌≤◌, ◌==◌, Bool, true, false, cond, if◌then◌else◌, is_some, is_none, nat_lt, Option, Some, None, unwrap_or, List, [], ◌∷◌, length, get_or, set, map, take, drop, filter, IsTrue, refl, sym, ap, subst, ◌∙◌, inl, inr, arith, eq-eqb, length-set, get_or-set_same, get_or-set_other}
use Rattle.std.specs.List.{count_by, position, position_or_len, insert, remove, slice_get, HoldsAt}
use Rattle.std.specs.Option.{option_map}
use Rattle.std.proofs.lemmas.Bool.{cases_eq, ne_eqb, ltb-false}
use Rattle.std.proofs.lemmas.List.{length-map, get_or-map, map-append, take-map, drop-map}
use Rattle.std.proofs.lemmas.List.Edits.{length-insert, length-remove}
use Rattle.std.proofs.lemmas.List.Sums.{sum_by-cons, sum_by-set, count_by-le-length}
use Rattle.std.proofs.lemmas.Option.{slice_get-map, slice_get_within, get_or_from_slice_get}
use Rattle.lis_graph.proofs.Members.{Among, among_at, among_filter, map_among}
use Rattle.lis_words.specs.Words.{is_property}
use Rattle.lis_dict.specs.Dict.{Dict, IsDict, number_of, word_of, with_entry, without_word}
use Rattle.lis_dict.specs.Inside.{Holders, word_in, entry_in, dict_of, IsSoundDict}
use Rattle.lis_dict.proofs.Entries.{DictEntry, ordered_from_rising}
use Rattle.lis_dict.proofs.Places.{IsGap, insert_gap, is_other, remove_found, same_true}
use Rattle.lis_dict.proofs.Laws.{free_number, word_from_number, number_below, number_found, number_absent, word_of-with_entry, length-with_entry, kept_with_entry, word_of-without_word, length-without_word, kept_without_word}

-- ---- one holder is written over
module _ (holders : Holders) (number : ℕ) (now : Option (List ℕ)) where
  -- the entries of other numbers stay
  others : (order : List ℕ) → (Among order number → ⊥) → map (entry_in (set holders number now)) order ≡ map (entry_in holders) order
  others [] none = refl
  others (n ∷ ns) none =
      let same = get_or-set_other holders number n now None (λ at. none (inl at)) in
      ap (λ (h : Option (List ℕ)). (unwrap_or h [], n) ∷ map (entry_in (set holders number now)) ns) same ∙ ap (λ es. entry_in holders n ∷ es) (others ns (λ m. none (inr m)))

  module _ (lt : number < length holders) where
    told_after : (said : ℕ → Option (List ℕ)) → ((n : ℕ) → get_or holders n None ≡ said n) → (n : ℕ) → get_or (set holders number now) n None ≡ (if number == n then now else said n)
    told_after said told n = by (cases_eq number n)
      where
        by : (number ≡ n) ⊎ (number ≡ n → ⊥) → get_or (set holders number now) n None ≡ (if number == n then now else said n)
        by (inl same) = subst (λ m. get_or (set holders number now) m None ≡ (if number == m then now else said m)) same
            (get_or-set_same holders number now None lt ∙ sym (ap (λ b. if b then now else said number) (eq-eqb number number refl)))
        by (inr differ) = get_or-set_other holders number n now None (λ same. differ (sym same)) ∙ (told n ∙ sym (ap (λ b. if b then now else said n) (ne_eqb number n differ)))

    count_after : count_by is_some (set holders number now) + cond (is_some (get_or holders number None)) 1 0 ≡ count_by is_some holders + cond (is_some now) 1 0
    count_after = sum_by-set (λ (h : Option (List ℕ)). cond (is_some h) 1 0) holders number now None lt

-- a number without a word leaves room for one
pub some_room : (holders : Holders) (number : ℕ) → number < length holders → get_or holders number None ≡ None → count_by is_some holders < length holders
some_room holders number lt free =
    let nothing = ap {B = ℕ} (λ (h : Option (List ℕ)). cond (is_some h) 1 0) free in
    omega (arith, count_after holders number (Some []) lt, nothing, count_by-le-length is_some (set holders number (Some [])), length-set holders number (Some []))

-- ---- the order, with one number more and with one less
module _ (v : ℕ → DictEntry) (order : List ℕ) (k : ℕ) where
  map_insert : (n : ℕ) → map v (insert order k n) ≡ insert (map v order) k (v n)
  map_insert n = rw (take-map v k order, drop-map v k order) (map-append v (take k order) (n ∷ drop k order))

  map_remove : map v (remove order k) ≡ remove (map v order) k
  map_remove = rw (take-map v k order, drop-map v (suc k) order) (map-append v (take k order) (drop (suc k) order))

module _ (props room : ℕ) (holders : Holders) (order : List ℕ) (sound : IsSoundDict props holders order room) where
  abbrev es : List DictEntry
  es = map (entry_in holders) order

  abbrev d : Dict
  d = dict_of props holders order

  as_long : length es ≡ length order
  as_long = length-map order (entry_in holders)

  -- ---- what is at a place in the order
  module _ (k n : ℕ) (at : slice_get order k ≡ Some n) where
    pub entry_there : slice_get es k ≡ Some (entry_in holders n)
    entry_there = slice_get-map (entry_in holders) order k ∙ ap (option_map (entry_in holders)) at

    pub has_word : word_of d n ≡ None → ⊥
    has_word free =
        let there : Among order n = subst (Among order) (get_or_from_slice_get order k n n at) (among_at order k n (slice_get_within order k n at)) in
        free_number d n free (entry_in holders n) (map_among (entry_in holders) order n there) refl

    pub told_there : (word : List ℕ) → word_of d n ≡ Some word → slice_get es k ≡ Some (word, n)
    told_there word is = entry_there ∙ ap (λ (h : Option (List ℕ)). Some (unwrap_or h [], n)) (sound.told n ∙ is)

  -- ---- one word more
  module _ (word : List ℕ) (number k : ℕ) (below : number < props) (free : word_of d number ≡ None) (within : k ≤ length es) (gap : IsGap es word k) where
    lt : number < length holders
    lt = omega (arith, below, sound.table)

    absent : number_of d word ≡ None
    absent = number_absent d word k gap

    put : map (entry_in (set holders number (Some word))) (insert order k number) ≡ insert es k (word, number)
    put =
        map_insert (entry_in (set holders number (Some word))) order k number
        ∙ (ap (λ xs. insert xs k (entry_in (set holders number (Some word)) number)) (others holders number (Some word) order (λ m. free_number d number free (entry_in holders number) (map_among (entry_in holders) order number m) refl))
        ∙ ap (λ (h : Option (List ℕ)). insert es k (unwrap_or h [], number)) (get_or-set_same holders number (Some word) None lt))

    pub put_same : dict_of props (set holders number (Some word)) (insert order k number) ≡ with_entry d word number
    put_same = ap (λ (xs : List DictEntry). record { props = props; entries = xs }) (put ∙ insert_gap es word number k within gap)

    counted_more : count_by is_some (set holders number (Some word)) ≡ length order + 1
    counted_more =
        let nothing = ap {B = ℕ} (λ (h : Option (List ℕ)). cond (is_some h) 1 0) (sound.told number ∙ free) in
        omega (arith, count_after holders number (Some word) lt, nothing, sound.counted)

    pub room_left : length order < props
    room_left = omega (arith, some_room holders number lt (sound.told number ∙ free), sound.counted, sound.table)

    pub put_sound : IsTrue (is_property word) → (more : ℕ) → props ≤ more → IsSoundDict props (set holders number (Some word)) (insert order k number) more
    put_sound form more wide = record {
      dict = subst IsDict (sym put_same) (kept_with_entry d word number absent sound.dict form below free (omega (arith, length-with_entry d word number absent, as_long, room_left)));
      limit = sound.limit;
      table = length-set holders number (Some word) ∙ sound.table;
      told = λ n. told_after holders number (Some word) lt (word_of d) sound.told n ∙ sym (ap (λ (t : Dict). word_of t n) put_same ∙ word_of-with_entry d word number absent free n);
      counted = omega (arith, counted_more, length-insert order k number (omega (arith, within, as_long)));
      has_room = wide;
    }

  -- ---- one word less
  module _ (word : List ℕ) (number k : ℕ) (within : k < length es) (found : HoldsAt (λ (e : DictEntry). e.0 ≡ word) es k) (at : number ≡ get_or order k number) where
    pub in_order : k < length order
    in_order = omega (arith, within, as_long)

    here : entry_in holders number ≡ get_or es k (entry_in holders number)
    here = ap (entry_in holders) at ∙ sym (get_or-map (entry_in holders) order k number (entry_in holders number) in_order)

    pub number_there : number_of d word ≡ Some number
    number_there = number_found d word k sound.dict within found (entry_in holders number) here

    pub in_holders : number < length holders
    in_holders = omega (arith, number_below d sound.dict word number number_there, sound.table)

    rest : map (entry_in holders) (remove order k) ≡ filter (is_other word) es
    rest = map_remove (entry_in holders) order k ∙ remove_found es (ordered_from_rising es sound.dict.rising) word k within found

    gone : Among (remove order k) number → ⊥
    gone m =
        let kept = (among_filter (is_other word) es (entry_in holders number) (subst (λ (xs : List DictEntry). Among xs (entry_in holders number)) rest (map_among (entry_in holders) (remove order k) number m))).1 in
        let same = same_true (word_in holders number) word (ap (λ (e : DictEntry). e.0) here ∙ found (entry_in holders number)) in
        cc

    pub cut_same : dict_of props (set holders number None) (remove order k) ≡ without_word d word
    cut_same = ap (λ (xs : List DictEntry). record { props = props; entries = xs }) (others holders number None (remove order k) gone ∙ rest)

    pub cut_sound : (more : ℕ) → props ≤ more → IsSoundDict props (set holders number None) (remove order k) more
    cut_sound more wide = record {
      dict = subst IsDict (sym cut_same) (kept_without_word d word sound.dict (omega (arith, length-without_word d word sound.dict number number_there, sound.dict.few)));
      limit = sound.limit;
      table = length-set holders number None ∙ sound.table;
      told = λ n. told_after holders number None in_holders (word_of d) sound.told n ∙ sym (ap (λ (t : Dict). word_of t n) cut_same ∙ word_of-without_word d word sound.dict number number_there n);
      counted = let one = ap {B = ℕ} (λ (h : Option (List ℕ)). cond (is_some h) 1 0) (sound.told number ∙ word_from_number d sound.dict word number number_there) in
          omega (arith, count_after holders number None in_holders, one, sound.counted, length-remove order k in_order);
      has_room = wide;
    }

-- ---- the first number that no word has
free_there : (holders : Holders) → get_or holders (position_or_len is_none holders) None ≡ None
free_there [] = refl
free_there (None ∷ hs) = refl
free_there (Some word ∷ hs) = let deeper : 1 + position_or_len is_none hs ≡ suc (position_or_len is_none hs) = omega arith in rw deeper (free_there hs)

pub first_is_free : (holders : Holders) (number : ℕ) → Some number ≡ position is_none holders → get_or holders number None ≡ None
first_is_free holders number h = by (nat_lt (position_or_len is_none holders) (length holders)) h
  where
    by : (b : Bool) → Some number ≡ cond b (Some (position_or_len is_none holders)) None → get_or holders number None ≡ None
    by true some = let here : number ≡ position_or_len is_none holders = cc in ap (λ n. get_or holders n None) here ∙ free_there holders
    by false none = absurd cc

all_held : (holders : Holders) → length holders ≤ position_or_len is_none holders → count_by is_some holders ≡ length holders
all_held [] past = refl
all_held (None ∷ hs) past = absurd (omega (arith, past))
all_held (Some word ∷ hs) past = omega (arith, sum_by-cons (λ (h : Option (List ℕ)). cond (is_some h) 1 0) (Some word) hs, all_held hs (omega (arith, past)))

-- if no number is free, each is taken
pub none_is_free : (holders : Holders) → None ≡ position is_none holders → count_by is_some holders ≡ length holders
none_is_free holders h = by (nat_lt (position_or_len is_none holders) (length holders)) refl h
  where
    by : (b : Bool) → nat_lt (position_or_len is_none holders) (length holders) ≡ b → None ≡ cond b (Some (position_or_len is_none holders)) None → count_by is_some holders ≡ length holders
    by true is none = absurd cc
    by false is none = all_held holders (ltb-false (position_or_len is_none holders) (length holders) is)
