-- All that a list of words entails.
use Rattle.std.proofs.Common.{◌≡◌, ◌⊎◌, ℕ, ◌≤◌, Bool, true, false, cond, List, [], ◌∷◌, ◌++◌, length, refl, ap, ◌∙◌, inl, inr}
use Rattle.std.specs.List.{flat_map}
use Rattle.std.specs.List.Sorted.{IsStrictlySortedBy}
use Rattle.lis_graph.proofs.Members.{Among, among_flat_map, flat_map_among}
use Rattle.lis_graph.proofs.Sets.{members_le}
use Rattle.lis_words.specs.Words.{word_cmp, has_word}
use Rattle.lis_model.specs.Sets.{with_words}
use Rattle.lis_model.specs.State.{up, all_up}
use Rattle.lis_model.specs.Changes.{with_axiom}
use Rattle.lis_laws.proofs.Members.{word_order, among_from_has_word, has_word_from_among, among_set_of, set_of_among, among_with_words, with_words_old, with_words_new, sorted_with_words, sorted_set_of, same_words}
use Rattle.lis_laws.proofs.Chains.{Pairs, up_self, up_trans, up_cons, up_old, up_through, up_wider}
use Rattle.lis_laws.proofs.Axioms.{up_with_axiom}

-- one of the words entails it
pub entailing : (declared : List (List ℕ)) (axioms : Pairs) (words : List (List ℕ)) (q : List ℕ) → Among (all_up declared axioms words) q
    → (w : List ℕ) × Among words w × Among (up declared axioms w) q
entailing declared axioms words q h = among_flat_map (up declared axioms) words q (among_set_of (flat_map (up declared axioms) words) q h)

pub entailed_in : (declared : List (List ℕ)) (axioms : Pairs) (words : List (List ℕ)) (w q : List ℕ) → Among words w → Among (up declared axioms w) q → Among (all_up declared axioms words) q
entailed_in declared axioms words w q m h = set_of_among (flat_map (up declared axioms) words) q (flat_map_among (up declared axioms) words w q m h)

pub all_up_has : (declared : List (List ℕ)) (axioms : Pairs) (words : List (List ℕ)) (w : List ℕ) → Among words w → Among (all_up declared axioms words) w
all_up_has declared axioms words w m = entailed_in declared axioms words w w m (up_self declared axioms w)

pub all_up_closed : (declared : List (List ℕ)) (axioms : Pairs) (words : List (List ℕ)) (p q : List ℕ) → Among (all_up declared axioms words) p → Among (up declared axioms p) q → Among (all_up declared axioms words) q
all_up_closed declared axioms words p q m h =
    let source = entailing declared axioms words p m in
    entailed_in declared axioms words source.0 q source.1 (up_trans declared axioms source.0 p q source.2 h)

pub sorted_all_up : (declared : List (List ℕ)) (axioms : Pairs) (words : List (List ℕ)) → IsStrictlySortedBy word_cmp (all_up declared axioms words)
sorted_all_up declared axioms words = sorted_set_of (flat_map (up declared axioms) words)

-- ---- more declared words, axioms and words
pub record IsLess (some more : List (List ℕ)) (axioms others : Pairs) (words wider : List (List ℕ)) : Type 0 where
  pub in_declared : (w : List ℕ) → Among some w → Among more w
  pub in_axioms : (e : List ℕ × List ℕ) → Among axioms e → Among others e
  pub in_words : (w : List ℕ) → Among words w → Among wider w

pub all_up_within : (some more : List (List ℕ)) (axioms others : Pairs) (words wider : List (List ℕ)) → IsLess some more axioms others words wider
    → (q : List ℕ) → Among (all_up some axioms words) q → Among (all_up more others wider) q
all_up_within some more axioms others words wider less q m =
    let source = entailing some axioms words q m in
    entailed_in more others wider source.0 q (less.in_words source.0 source.1) (up_wider some more axioms others less.in_declared less.in_axioms source.0 q source.2)

pub all_up_le : (some more : List (List ℕ)) (axioms others : Pairs) (words wider : List (List ℕ)) → IsLess some more axioms others words wider
    → length (all_up some axioms words) ≤ length (all_up more others wider)
all_up_le some more axioms others words wider less =
    members_le word_cmp word_order (all_up some axioms words) (all_up more others wider) (sorted_all_up some axioms words) (sorted_all_up more others wider)
    (all_up_within some more axioms others words wider less)

-- lists made of equal parts
same_parts : (f g : List ℕ → List (List ℕ)) → ((p : List ℕ) → f p ≡ g p) → (words : List (List ℕ)) → flat_map f words ≡ flat_map g words
same_parts f g same [] = refl
same_parts f g same (w ∷ words) = ap (λ x. x ++ flat_map f words) (same w) ∙ ap (λ xs. g w ++ xs) (same_parts f g same words)

-- ---- one more axiom, in front of the others
pub new_word : (declared : List (List ℕ)) (pair : List ℕ × List ℕ) (axioms : Pairs) (words : List (List ℕ)) (q : List ℕ) → Among (all_up declared (pair ∷ axioms) words) q
    → Among (all_up declared axioms words) q ⊎ (Among (all_up declared axioms words) pair.0 × Among (up declared axioms pair.1) q)
new_word declared pair axioms words q h = by (entailing declared (pair ∷ axioms) words q h)
  where
    at : (w : List ℕ) → Among words w → Among (up declared axioms w) q ⊎ (Among (up declared axioms w) pair.0 × Among (up declared axioms pair.1) q)
        → Among (all_up declared axioms words) q ⊎ (Among (all_up declared axioms words) pair.0 × Among (up declared axioms pair.1) q)
    at w own (inl old) = inl (entailed_in declared axioms words w q own old)
    at w own (inr new) = inr (entailed_in declared axioms words w pair.0 own new.0, new.1)

    by : (w : List ℕ) × Among words w × Among (up declared (pair ∷ axioms) w) q
        → Among (all_up declared axioms words) q ⊎ (Among (all_up declared axioms words) pair.0 × Among (up declared axioms pair.1) q)
    by source = at source.0 source.1 (up_cons declared pair axioms source.0 q source.2)

old_word : (declared : List (List ℕ)) (pair : List ℕ × List ℕ) (axioms : Pairs) (words : List (List ℕ)) (q : List ℕ) → Among (all_up declared axioms words) q → Among (all_up declared (pair ∷ axioms) words) q
old_word declared pair axioms words q h =
    let source = entailing declared axioms words q h in
    entailed_in declared (pair ∷ axioms) words source.0 q source.1 (up_old declared pair axioms source.0 q source.2)

through_left : (declared : List (List ℕ)) (pair : List ℕ × List ℕ) (axioms : Pairs) (words : List (List ℕ)) (q : List ℕ) → Among (all_up declared axioms words) pair.0 → Among (up declared axioms pair.1) q
    → Among (all_up declared (pair ∷ axioms) words) q
through_left declared pair axioms words q h up_q =
    let source = entailing declared axioms words pair.0 h in
    entailed_in declared (pair ∷ axioms) words source.0 q source.1 (up_through declared pair axioms source.0 q source.2 up_q)

in_front : (declared : List (List ℕ)) (pair : List ℕ × List ℕ) (axioms : Pairs) (words : List (List ℕ))
    → all_up declared (pair ∷ axioms) words
    ≡ cond (has_word (all_up declared axioms words) pair.0) (with_words (all_up declared axioms words) (up declared axioms pair.1)) (all_up declared axioms words)
in_front declared pair axioms words = by (has_word (all_up declared axioms words) pair.0) refl
  where
    wider : Among (all_up declared axioms words) pair.0 → (q : List ℕ) → Among (with_words (all_up declared axioms words) (up declared axioms pair.1)) q → Among (all_up declared (pair ∷ axioms) words) q
    wider left q m = either (among_with_words (all_up declared axioms words) (up declared axioms pair.1) q m)
      where
        either : Among (all_up declared axioms words) q ⊎ Among (up declared axioms pair.1) q → Among (all_up declared (pair ∷ axioms) words) q
        either (inl old) = old_word declared pair axioms words q old
        either (inr new) = through_left declared pair axioms words q left new

    inside : (q : List ℕ) → Among (all_up declared axioms words) q ⊎ (Among (all_up declared axioms words) pair.0 × Among (up declared axioms pair.1) q)
        → Among (with_words (all_up declared axioms words) (up declared axioms pair.1)) q
    inside q (inl old) = with_words_old (all_up declared axioms words) (up declared axioms pair.1) q old
    inside q (inr new) = with_words_new (all_up declared axioms words) (up declared axioms pair.1) q new.1

    no_more : (has_word (all_up declared axioms words) pair.0 ≡ false) → (q : List ℕ) → Among (all_up declared axioms words) q ⊎ (Among (all_up declared axioms words) pair.0 × Among (up declared axioms pair.1) q)
        → Among (all_up declared axioms words) q
    no_more lacks q (inl old) = old
    no_more lacks q (inr new) = absurd (let has = has_word_from_among (all_up declared axioms words) pair.0 new.0 in cc)

    by : (b : Bool) → has_word (all_up declared axioms words) pair.0 ≡ b
        → all_up declared (pair ∷ axioms) words ≡ cond b (with_words (all_up declared axioms words) (up declared axioms pair.1)) (all_up declared axioms words)
    by true e =
        same_words (all_up declared (pair ∷ axioms) words) (with_words (all_up declared axioms words) (up declared axioms pair.1))
        (sorted_all_up declared (pair ∷ axioms) words) (sorted_with_words (all_up declared axioms words) (up declared axioms pair.1) (sorted_all_up declared axioms words))
        (λ q m. inside q (new_word declared pair axioms words q m)) (wider (among_from_has_word (all_up declared axioms words) pair.0 e))
    by false e =
        same_words (all_up declared (pair ∷ axioms) words) (all_up declared axioms words) (sorted_all_up declared (pair ∷ axioms) words) (sorted_all_up declared axioms words)
        (λ q m. no_more e q (new_word declared pair axioms words q m)) (old_word declared pair axioms words)

-- and at its position among them
pub with_one_axiom : (declared : List (List ℕ)) (axioms : Pairs) (pair : List ℕ × List ℕ) (words : List (List ℕ))
    → all_up declared (with_axiom axioms pair) words
    ≡ cond (has_word (all_up declared axioms words) pair.0) (with_words (all_up declared axioms words) (up declared axioms pair.1)) (all_up declared axioms words)
with_one_axiom declared axioms pair words =
    ap (λ ws. with_words [] ws) (same_parts (up declared (with_axiom axioms pair)) (up declared (pair ∷ axioms)) (up_with_axiom declared axioms pair) words) ∙ in_front declared pair axioms words
