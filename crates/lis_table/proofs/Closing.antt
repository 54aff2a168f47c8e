-- A set of words that axioms widen one after another becomes all that the words entail.
use Rattle.std.proofs.Common.{◌≡◌, ◌⊎◌, ℕ, zero, suc, ◌<◌, ◌≤◌, Bool, true, false, not, cond, ◌&&◌, Some, None, List, [], ◌∷◌, length, filter, refl, ap, sym, subst, ◌∙◌, inl, inr, arith}
use Rattle.std.specs.List.{find, flat_map}
use Rattle.std.specs.List.Sorted.{IsStrictlySortedBy}
use Rattle.lis_graph.specs.Graph.{Linked, Chain}
use Rattle.lis_graph.proofs.Members.{Among, find_among, find_none, among_from_contains, contains_from_among, among_flat_map, flat_map_among}
use Rattle.lis_words.specs.Words.{word_cmp, has_word}
use Rattle.lis_model.specs.Sets.{with_words}
use Rattle.lis_model.specs.State.{links, up, all_up}
use Rattle.lis_laws.proofs.Members.{among_from_has_word, has_word_from_among, among_set_of, set_of_among, among_with_words, with_words_old, with_words_new, sorted_with_words, sorted_set_of, same_words}
use Rattle.lis_laws.proofs.Chains.{Pairs, links_ordered, up_self, up_own, up_edge, entails_from_up, sorted_up}
use Rattle.lis_laws.proofs.Closures.{entailing, entailed_in, all_up_closed, sorted_all_up}
use Rattle.lis_table.specs.Links.{with_links, all_linked, is_open}

-- what the set keeps while it is widened
pub record Closing (declared : List (List ℕ)) (axioms : Pairs) (words all : List (List ℕ)) : Type 0 where
  pub sorted : IsStrictlySortedBy word_cmp all
  pub within : (q : List ℕ) → Among all q → Among (all_up declared axioms words) q
  pub given : (w : List ℕ) → Among words w → Among all w
  pub owned : (p q : List ℕ) → Among all p → Among (links declared p) q → Among all q

-- ---- links
linked_on : (declared : List (List ℕ)) (w p q : List ℕ) → Among (with_links declared w) p → Among (links declared p) q → Among (with_links declared w) q
linked_on declared w p q (inl same) h = inr (subst (λ k. Among (links declared k) q) (sym same) h)
linked_on declared w p q (inr m) h =
    inr (among_from_contains (links declared w) q
    ((links_ordered declared).joined w p q (contains_from_among (links declared w) p m) (contains_from_among (links declared p) q h)))

up_linked : (declared : List (List ℕ)) (axioms : Pairs) (w q : List ℕ) → Among (with_links declared w) q → Among (up declared axioms w) q
up_linked declared axioms w q (inl same) = subst (λ k. Among (up declared axioms w) k) same (up_self declared axioms w)
up_linked declared axioms w q (inr own) = up_own declared axioms w q own

pub begun : (declared : List (List ℕ)) (axioms : Pairs) (words : List (List ℕ)) → Closing declared axioms words (all_linked declared words)
begun declared axioms words = record {
  sorted = sorted_set_of (flat_map (with_links declared) words);
  within = λ q m.
      let source = among_flat_map (with_links declared) words q (among_set_of (flat_map (with_links declared) words) q m) in
      entailed_in declared axioms words source.0 q source.1 (up_linked declared axioms source.0 q source.2);
  given = λ w m. set_of_among (flat_map (with_links declared) words) w (flat_map_among (with_links declared) words w w m (inl refl));
  owned = λ p q m h.
      let source = among_flat_map (with_links declared) words p (among_set_of (flat_map (with_links declared) words) p m) in
      set_of_among (flat_map (with_links declared) words) q (flat_map_among (with_links declared) words source.0 q source.1 (linked_on declared source.0 p q source.2 h));
}

-- ---- the first that passes a test

opened : (a b : Bool) → (a && not b) ≡ true → (a ≡ true) × (b ≡ false)
opened true true h = absurd cc
opened true false h = (refl, refl)
opened false b h = absurd cc

shut : (a b : Bool) → (a && not b) ≡ false → a ≡ true → b ≡ true
shut true true h e = refl
shut true false h e = absurd cc
shut false b h e = absurd cc

-- ---- one more axiom
module _ (declared : List (List ℕ)) (axioms : Pairs) (words all : List (List ℕ)) where
  pub widened : Closing declared axioms words all → (pair : List ℕ × List ℕ) → find (is_open all) axioms ≡ Some pair
      → Closing declared axioms words (with_words all (with_links declared pair.1))
  widened c pair h = record {
    sorted = sorted_with_words all (with_links declared pair.1) c.sorted;
    within = λ q m. inside q (among_with_words all (with_links declared pair.1) q m);
    given = λ w m. with_words_old all (with_links declared pair.1) w (c.given w m);
    owned = λ p q m own. leading p q (among_with_words all (with_links declared pair.1) p m) own;
  }
    where
      at : Among axioms pair × (is_open all pair ≡ true)
      at = find_among (is_open all) axioms pair h

      right : Among (all_up declared axioms words) pair.1
      right =
          all_up_closed declared axioms words pair.0 pair.1
          (c.within pair.0 (among_from_has_word all pair.0 (opened (has_word all pair.0) (has_word all pair.1) at.1).0)) (up_edge declared axioms pair.0 pair.1 at.0)

      inside : (q : List ℕ) → Among all q ⊎ Among (with_links declared pair.1) q → Among (all_up declared axioms words) q
      inside q (inl old) = c.within q old
      inside q (inr new) = all_up_closed declared axioms words pair.1 q right (up_linked declared axioms pair.1 q new)

      leading : (p q : List ℕ) → Among all p ⊎ Among (with_links declared pair.1) p → Among (links declared p) q → Among (with_words all (with_links declared pair.1)) q
      leading p q (inl old) own = with_words_old all (with_links declared pair.1) q (c.owned p q old own)
      leading p q (inr new) own = with_words_new all (with_links declared pair.1) q (linked_on declared pair.1 p q new own)

  -- if no axiom leads further, the set is complete
  pub closed : Closing declared axioms words all → find (is_open all) axioms ≡ None → all ≡ all_up declared axioms words
  closed c h = same_words all (all_up declared axioms words) c.sorted (sorted_all_up declared axioms words) c.within back
    where
      onward : (p r : List ℕ) → Among all p → Linked (links declared) axioms p r → Among all r
      onward p r m (inl own) = c.owned p r m (among_from_contains (links declared p) r own)
      onward p r m (inr edge) =
          among_from_has_word all r
          (shut (has_word all p) (has_word all r) (find_none (is_open all) axioms (p, r) h (among_from_contains axioms (p, r) edge)) (has_word_from_among all p m))

      along : (n : ℕ) (p q : List ℕ) → Among all p → Chain (links declared) axioms n p q → Among all q
      along zero p q m same = subst (λ k. Among all k) same m
      along (suc n) p q m chain = along n chain.0 q (onward p chain.0 m chain.1) chain.2

      back : (q : List ℕ) → Among (all_up declared axioms words) q → Among all q
      back q m =
          let source = entailing declared axioms words q m in
          let chain = entails_from_up declared axioms source.0 q source.2 in
          along chain.0 source.0 q (c.given source.0 source.1) chain.1

-- ---- each step closes an axiom
abbrev pub open_count : Pairs → List (List ℕ) → ℕ
open_count axioms all = length (filter (λ pair. not (has_word all pair.1)) axioms)

no_more : {A : Type 0} (f g : A → Bool) → ((x : A) → f x ≡ true → g x ≡ true) → (xs : List A) → length (filter f xs) ≤ length (filter g xs)
no_more f g to [] = omega arith
no_more {A} f g to (x ∷ xs) = by (f x) refl (g x) refl (no_more f g to xs)
  where
    by : (a : Bool) → f x ≡ a → (b : Bool) → g x ≡ b → length (filter f xs) ≤ length (filter g xs)
        → length (cond a (x ∷ filter f xs) (filter f xs)) ≤ length (cond b (x ∷ filter g xs) (filter g xs))
    by true ef true eg le = omega (arith, le)
    by true ef false eg le = absurd (let e = to x ef in cc)
    by false ef true eg le = omega (arith, le)
    by false ef false eg le = le

fewer : {A : Type 0} (f g : A → Bool) → ((x : A) → f x ≡ true → g x ≡ true) → (xs : List A) (e : A) → Among xs e → g e ≡ true → f e ≡ false
    → length (filter f xs) < length (filter g xs)
fewer f g to [] e m yes_g no_f = absurd m
fewer {A} f g to (x ∷ xs) e m yes_g no_f = by (f x) refl (g x) refl m (no_more f g to xs) (λ deep. fewer f g to xs e deep yes_g no_f)
  where
    by : (a : Bool) → f x ≡ a → (b : Bool) → g x ≡ b → (x ≡ e) ⊎ Among xs e → length (filter f xs) ≤ length (filter g xs)
        → (Among xs e → length (filter f xs) < length (filter g xs))
        → length (cond a (x ∷ filter f xs) (filter f xs)) < length (cond b (x ∷ filter g xs) (filter g xs))
    by true ef b eg (inl same) le more = absurd (let n = ap f same ∙ no_f in cc)
    by false ef false eg (inl same) le more = absurd (let y = ap g same ∙ yes_g in cc)
    by false ef true eg (inl same) le more = omega (arith, le)
    by true ef true eg (inr deep) le more = let lt = more deep in omega (arith, lt)
    by true ef false eg (inr deep) le more = absurd (let y = to x ef in cc)
    by false ef true eg (inr deep) le more = let lt = more deep in omega (arith, lt)
    by false ef false eg (inr deep) le more = more deep

unless : (a : Bool) → a ≡ false → not a ≡ true
unless true h = absurd cc
unless false h = refl

lacked : (a b : Bool) → (b ≡ true → a ≡ true) → not a ≡ true → not b ≡ true
lacked a true to h = absurd (let e = to refl in cc)
lacked a false to h = refl

pub shrinks : (declared : List (List ℕ)) (axioms : Pairs) (all : List (List ℕ)) (pair : List ℕ × List ℕ) → find (is_open all) axioms ≡ Some pair
    → open_count axioms (with_words all (with_links declared pair.1)) < open_count axioms all
shrinks declared axioms all pair h =
    fewer (λ p. not (has_word more p.1)) (λ p. not (has_word all p.1))
    (λ p. lacked (has_word more p.1) (has_word all p.1) (λ has. has_word_from_among more p.1 (with_words_old all (with_links declared pair.1) p.1 (among_from_has_word all p.1 has))))
    axioms pair at.0 (unless (has_word all pair.1) (opened (has_word all pair.0) (has_word all pair.1) at.1).1)
    (ap not (has_word_from_among more pair.1 (with_words_new all (with_links declared pair.1) pair.1 (inl refl))))
  where
    more : List (List ℕ)
    more = with_words all (with_links declared pair.1)

    at : Among axioms pair × (is_open all pair ≡ true)
    at = find_among (is_open all) axioms pair h

-- ---- a single word
pub up_alone : (declared : List (List ℕ)) (axioms : Pairs) (p : List ℕ) → all_up declared axioms (p ∷ []) ≡ up declared axioms p
up_alone declared axioms p =
    same_words (all_up declared axioms (p ∷ [])) (up declared axioms p) (sorted_all_up declared axioms (p ∷ [])) (sorted_up declared axioms p)
    (λ q m. let source = entailing declared axioms (p ∷ []) q m in only source.0 q source.1 source.2) (λ q m. entailed_in declared axioms (p ∷ []) p q (inl refl) m)
  where
    only : (w q : List ℕ) → Among (p ∷ []) w → Among (up declared axioms w) q → Among (up declared axioms p) q
    only w q (inl same) h = subst (λ k. Among (up declared axioms k) q) (sym same) h
    only w q (inr none) h = absurd none

-- ---- a step of the loop, by what it reads
module _ (declared : List (List ℕ)) (axioms : Pairs) (words all seen more : List (List ℕ)) (pair sides : List ℕ × List ℕ)
    (same : seen ≡ all) (first : find (is_open seen) axioms ≡ Some pair) (at : sides ≡ pair) (is : more ≡ with_words all (with_links declared sides.1)) where
  first_is : find (is_open all) axioms ≡ Some sides
  first_is = ap (λ ws. find (is_open ws) axioms) (sym same) ∙ (first ∙ ap Some (sym at))

  pub step_keeps : Closing declared axioms words all → Closing declared axioms words more
  step_keeps c = subst (λ ws. Closing declared axioms words ws) (sym is) (widened declared axioms words all c sides first_is)

  pub step_shrinks : open_count axioms more < open_count axioms all
  step_shrinks = subst (λ ws. open_count axioms ws < open_count axioms all) (sym is) (shrinks declared axioms all sides first_is)
