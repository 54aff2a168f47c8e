-- Words that get numbers, one after another.
use Rattle.std.proofs.Common.{rules}
use Rattle.std.proofs.Common.{take-append-drop}
use Rattle.lis_store.proofs.Common.{◌≡◌, ◌⊎◌, refl, sym, ap, ◌∙◌, subst, inl, inr, ℕ, ◌+◌, ◌<◌, ◌≤◌, ◌&&◌, ◌||◌, Bool, true, false, cond, List, [], ◌∷◌, ◌++◌, length, take, drop, get_or, None, is_some, IsSome, append-nil, length-append, arith, list_all, or_cases, length-map, take_more, Contains-get_or, Among, among_from_contains, Dict, number_of, word_cmp, is_valued, is_plain_word, is_head, is_built_in, head_bytes, with_word, with_words, heads, head_not_valued, word_exact, among_from_has_word, Metadata, stays_marked, block_of, is_marked, marked_count, Properties, and_from, or_left, or_right, both_ways, flat_map-append, words, built_in_not_plain, all_among, has_word_from_among}
use Rattle.std.proofs.lemmas.List.Sums.{fold-append}
use Rattle.lis_graph.proofs.Members.{with_more_old, with_more_new}
use Rattle.lis_words.proofs.Head.{head_is_word}
use Rattle.lis_fields.specs.Layouts.{is_undeclared}
use Rattle.lis_kept.specs.Changes.{Learns}
use Rattle.lis_store.specs.Adding.{behind_head, with_heads, may_learn, HasWordRoom, LearnsAll}
use Rattle.lis_store.proofs.StoreSays.{numbered}
use Rattle.lis_store.proofs.Told.{length-with_word, words_grow}

-- ---- words that have numbers
pub number_there : (d : Dict) (word : List ℕ) → Among (words d) word → IsSome (number_of d word)
number_there d word m = sym (numbered d word) ∙ has_word_from_among (words d) word m

pub there_number : (d : Dict) (word : List ℕ) → IsSome (number_of d word) → Among (words d) word
there_number d word some = among_from_has_word (words d) word (numbered d word ∙ some)

not_unknown : (d : Dict) (word : List ℕ) → number_of d word ≡ None → Among (words d) word → ⊥
not_unknown d word none m = both_ways (is_some (number_of d word)) (ap is_some none) (number_there d word m)

-- ---- how many there are
one_more : (d : Dict) (word : List ℕ) → number_of d word ≡ None → length (with_word (words d) word) ≡ length (words d) + 1
one_more d word none = length-with_word (words d) word (λ other m tie. not_unknown d word none (subst (λ w. Among (words d) w) (sym (word_exact word other tie)) m))

-- an unknown word needs room
pub room_for : (d : Dict) (word : List ℕ) (more : List (List ℕ)) (most : ℕ) → number_of d word ≡ None → length (with_words (words d) (word ∷ more)) ≤ most → length d.entries < most
room_for d word more most none room =
    omega (arith, room, words_grow (with_word (words d) word) more, one_more d word none, length-map d.entries (λ (e : List ℕ × ℕ). e.0))

-- ---- numbers for words one after another
pub learns_none : (p : Metadata) → LearnsAll [] p p
learns_none p = search (rules)

pub learns_one : (p q : Metadata) (word : List ℕ) (number : ℕ) → Learns word number p q → LearnsAll (word ∷ []) p q
learns_one p q word number learns = record {
  metadata = elim learns.metadata [
    | inl there ↦ subst (λ (k : Metadata). k ≡ record p { dict = k.dict; marks = k.marks }) (sym there.1) refl
    | inr new ↦ subst (λ (k : Metadata). k ≡ record p { dict = k.dict; marks = k.marks }) (sym new.2) refl
  ];
  marks = learns.marks;
  few = elim learns.metadata [
    | inl there ↦ subst (λ (k : Metadata). marked_count k + length (words p.dict) ≤ marked_count p + length (words k.dict)) (sym there.1) (omega arith)
    | inr new ↦ omega (arith, learns.marks.few, ap (λ (ws : List (List ℕ)). length ws) learns.words, one_more p.dict word new.0)
  ];
  marked = λ block is. elim learns.metadata [
    | inl there ↦ subst (λ (k : Metadata). is_marked k block ≡ true) (sym there.1) is
    | inr new ↦ subst (λ (k : Metadata). is_marked k block ≡ true) (sym new.2) (stays_marked p.marks (block_of p.limits Properties number ∷ []) block is)
  ];
  words = learns.words;
  keeps = learns.keeps;
  state = learns.state;
}

pub learns_more : (p q r : Metadata) (some more : List (List ℕ)) → LearnsAll some p q → LearnsAll more q r → LearnsAll (some ++ more) p r
learns_more p q r some more first second = search (rules, length-append, fold-append)

module _ (p q : Metadata) (more : List (List ℕ)) (learns : LearnsAll more p q) where
  pub limits_stay : q.limits.props ≡ p.limits.props
  limits_stay = ap (λ (k : Metadata). k.limits.props) learns.metadata

  -- a word that had a number has one
  pub number_stays : (word : List ℕ) → IsSome (number_of p.dict word) → IsSome (number_of q.dict word)
  number_stays word some =
      number_there q.dict word (subst (λ ws. Among ws word) (sym learns.words) (with_more_old word_cmp (words p.dict) more word (there_number p.dict word some)))

  pub number_learnt : (word : List ℕ) → Among more word → IsSome (number_of q.dict word)
  number_learnt word m =
      number_there q.dict word (subst (λ ws. Among ws word) (sym learns.words) (with_more_new word_cmp word_exact (words p.dict) more word m))

  pub may_still : (word : List ℕ) → may_learn p word ≡ true → may_learn q word ≡ true
  may_still word may = by (is_valued word) may
    where
      head : (is_some (number_of p.dict (head_bytes word)) ≡ true) ⊎ (is_built_in (head_bytes word) ≡ true) → (is_some (number_of q.dict (head_bytes word)) || is_built_in (head_bytes word)) ≡ true
      head (inl some) = or_left (is_some (number_of q.dict (head_bytes word))) (is_built_in (head_bytes word)) (number_stays (head_bytes word) some)
      head (inr own) = or_right (is_some (number_of q.dict (head_bytes word))) (is_built_in (head_bytes word)) own

      bare : (is_some (number_of p.dict word) ≡ true) ⊎ ((is_head word && is_built_in word) ≡ true) → (is_some (number_of q.dict word) || (is_head word && is_built_in word)) ≡ true
      bare (inl some) = or_left (is_some (number_of q.dict word)) (is_head word && is_built_in word) (number_stays word some)
      bare (inr own) = or_right (is_some (number_of q.dict word)) (is_head word && is_built_in word) own

      by : (b : Bool) → cond b (is_some (number_of p.dict (head_bytes word)) || is_built_in (head_bytes word)) (is_some (number_of p.dict word) || (is_head word && is_built_in word)) ≡ true
          → cond b (is_some (number_of q.dict (head_bytes word)) || is_built_in (head_bytes word)) (is_some (number_of q.dict word) || (is_head word && is_built_in word)) ≡ true
      by true h = head (or_cases (is_some (number_of p.dict (head_bytes word))) (is_built_in (head_bytes word)) h)
      by false h = bare (or_cases (is_some (number_of p.dict word)) (is_head word && is_built_in word) h)

  -- what is left of the room
  pub room_left : (others : List (List ℕ)) → HasWordRoom p (more ++ others) → HasWordRoom q others
  room_left others room = search (rules, fold-append, limits_stay)

-- ---- a word and its head
built_in_is_undeclared : (word : List ℕ) → is_valued word ≡ true → is_built_in (head_bytes word) ≡ true → is_undeclared (head_bytes word) ≡ true
built_in_is_undeclared word valued own =
    or_right (is_valued (head_bytes word)) (is_head (head_bytes word) && is_built_in (head_bytes word))
    (and_from (is_head (head_bytes word)) (is_built_in (head_bytes word)) (by (or_cases (is_plain_word (head_bytes word) || is_head (head_bytes word)) (is_valued (head_bytes word)) (head_is_word word valued))) own)
  where
    first : (is_plain_word (head_bytes word) ≡ true) ⊎ (is_head (head_bytes word) ≡ true) → is_head (head_bytes word) ≡ true
    first (inl plain) = absurd (both_ways (is_plain_word (head_bytes word)) (built_in_not_plain (head_bytes word) own) plain)
    first (inr head) = head

    by : ((is_plain_word (head_bytes word) || is_head (head_bytes word)) ≡ true) ⊎ (is_valued (head_bytes word) ≡ true) → is_head (head_bytes word) ≡ true
    by (inl either) = first (or_cases (is_plain_word (head_bytes word)) (is_head (head_bytes word)) either)
    by (inr again) = absurd (both_ways (is_valued (head_bytes word)) (head_not_valued word) again)

module _ (p : Metadata) (word : List ℕ) (may : may_learn p word ≡ true) (room : HasWordRoom p (behind_head word)) where
  abbrev by_form : Bool → Bool
  by_form b = cond b (is_some (number_of p.dict (head_bytes word)) || is_built_in (head_bytes word)) (is_some (number_of p.dict word) || (is_head word && is_built_in word))

  may_valued : is_valued word ≡ true → (is_some (number_of p.dict (head_bytes word)) || is_built_in (head_bytes word)) ≡ true
  may_valued valued = subst (λ b. by_form b ≡ true) valued may

  may_bare : is_valued word ≡ false → (is_some (number_of p.dict word) || (is_head word && is_built_in word)) ≡ true
  may_bare bare = subst (λ b. by_form b ≡ true) bare may

  heads_are : is_valued word ≡ true → heads word ≡ head_bytes word ∷ []
  heads_are valued = ap (λ b. cond b (head_bytes word ∷ []) []) valued

  no_heads : is_valued word ≡ false → heads word ≡ []
  no_heads plain = ap (λ b. cond b (head_bytes word ∷ []) []) plain

  pub head_form : (head : List ℕ) → head ≡ head_bytes word → is_valued word ≡ true → number_of p.dict head ≡ None → is_undeclared head ≡ true
  head_form head is valued none = by (or_cases (is_some (number_of p.dict (head_bytes word))) (is_built_in (head_bytes word)) (may_valued valued))
    where
      by : (is_some (number_of p.dict (head_bytes word)) ≡ true) ⊎ (is_built_in (head_bytes word) ≡ true) → is_undeclared head ≡ true
      by (inl some) = absurd (both_ways (is_some (number_of p.dict (head_bytes word))) (ap is_some (ap (number_of p.dict) (sym is) ∙ none)) some)
      by (inr own) = ap is_undeclared is ∙ built_in_is_undeclared word valued own

  pub head_bare : (head : List ℕ) → head ≡ head_bytes word → is_valued head ≡ true → ⊥
  head_bare head is valued = both_ways (is_valued head) (ap is_valued is ∙ head_not_valued word) valued

  pub head_room : (head : List ℕ) → head ≡ head_bytes word → is_valued word ≡ true → number_of p.dict head ≡ None → length p.dict.entries < p.limits.props
  head_room head is valued none =
      room_for p.dict (head_bytes word) (word ∷ []) p.limits.props (ap (number_of p.dict) (sym is) ∙ none)
      (subst (λ hs. length (with_words (words p.dict) (hs ++ word ∷ [])) ≤ p.limits.props) (heads_are valued) room)

  -- the head gets a number, if there is one
  pub heads_learnt : (q : Metadata) (head : List ℕ) (number : ℕ) → head ≡ head_bytes word → is_valued word ≡ true → Learns head number p q → LearnsAll (heads word) p q
  heads_learnt q head number is valued learns =
      subst (λ hs. LearnsAll hs p q) (ap (λ h. h ∷ []) is ∙ sym (heads_are valued)) (learns_one p q head number learns)

  pub no_head_learnt : (q : Metadata) → q ≡ p → is_valued word ≡ false → LearnsAll (heads word) p q
  no_head_learnt q same plain = search (rules, no_heads, learns_none)

  module _ (q : Metadata) (learns : LearnsAll (heads word) p q) where
    pub word_form : number_of q.dict word ≡ None → is_undeclared word ≡ true
    word_form none = by (is_valued word) refl
      where
        side : (is_some (number_of p.dict word) ≡ true) ⊎ ((is_head word && is_built_in word) ≡ true) → is_undeclared word ≡ true
        side (inl some) = absurd (both_ways (is_some (number_of q.dict word)) (ap is_some none) (number_stays p q (heads word) learns word some))
        side (inr own) = or_right (is_valued word) (is_head word && is_built_in word) own

        by : (b : Bool) → is_valued word ≡ b → is_undeclared word ≡ true
        by true valued = or_left (is_valued word) (is_head word && is_built_in word) valued
        by false bare = side (or_cases (is_some (number_of p.dict word)) (is_head word && is_built_in word) (may_bare bare))

    pub word_headed : is_valued word ≡ true → IsSome (number_of q.dict (head_bytes word))
    word_headed valued = number_learnt p q (heads word) learns (head_bytes word) (subst (λ hs. Among hs (head_bytes word)) (sym (heads_are valued)) (inl refl))

    pub word_room : number_of q.dict word ≡ None → length q.dict.entries < q.limits.props
    word_room none = room_for q.dict word [] q.limits.props none (room_left p q (heads word) learns (word ∷ []) room)

    pub word_learnt : (r : Metadata) (number : ℕ) → Learns word number q r → LearnsAll (behind_head word) p r
    word_learnt r number more = learns_more p q r (heads word) (word ∷ []) learns (learns_one q r word number more)

-- ---- words one by one
module _ (p q : Metadata) (all : List (List ℕ)) (i : ℕ) (lt : i < length all) (word : List ℕ) (is : word ≡ get_or all i word) (learns : LearnsAll (with_heads (take i all)) p q) where
  next_is : with_heads (take (i + 1) all) ≡ with_heads (take i all) ++ behind_head word
  next_is =
      ap with_heads (take_more all i word lt ∙ ap (λ w. take i all ++ w ∷ []) (sym is))
      ∙ (flat_map-append behind_head (take i all) (word ∷ []) ∙ ap (λ ws. with_heads (take i all) ++ ws) (append-nil (behind_head word)))

  pub next_room : HasWordRoom p (with_heads all) → HasWordRoom q (behind_head word)
  next_room room =
      let split : with_heads all ≡ with_heads (take (i + 1) all) ++ with_heads (drop (i + 1) all) =
      ap with_heads (sym (take-append-drop (i + 1) all)) ∙ flat_map-append behind_head (take (i + 1) all) (drop (i + 1) all) in
      let whole = ap (λ ws. length (with_words (words p.dict) ws)) split in
      let parts = ap (λ (ws : List (List ℕ)). length ws) (fold-append with_word (words p.dict) (with_heads (take (i + 1) all)) (with_heads (drop (i + 1) all))) in
      let grow = words_grow (with_words (words p.dict) (with_heads (take (i + 1) all))) (with_heads (drop (i + 1) all)) in
      let some : HasWordRoom p (with_heads (take (i + 1) all)) = omega (arith, whole, parts, grow, room) in
      room_left p q (with_heads (take i all)) learns (behind_head word) (subst (λ ws. HasWordRoom p ws) next_is some)

  pub next_may : list_all (may_learn p) all ≡ true → may_learn q word ≡ true
  next_may may =
      may_still p q (with_heads (take i all)) learns word
      (subst (λ w. may_learn p w ≡ true) (sym is) (all_among (may_learn p) all (get_or all i word) may (among_from_contains all (get_or all i word) (Contains-get_or all i word lt))))

  pub next_learnt : (r : Metadata) → LearnsAll (behind_head word) q r → LearnsAll (with_heads (take (i + 1) all)) p r
  next_learnt r more = subst (λ ws. LearnsAll ws p r) (sym next_is) (learns_more p q r (with_heads (take i all)) (behind_head word) learns more)
