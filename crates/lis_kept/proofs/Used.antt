-- What the tests say by which numbers in use are found.
use Rattle.std.proofs.Common.{arith}
use Rattle.lis_kept.proofs.Common.{common_steps, rules, ◌≡◌, ◌⊎◌, inl, inr, slice_get, refl, sym, ap, ap₂, ◌∙◌, ℕ, ◌<◌, ◌||◌, Bool, true, false, List, [], ◌∷◌, length, Option, Some, list_any, and_parts, eqb-true, or_cases, Among, among_from_any, contains_from_among, Dict, IsDict, word_of, number_from_word, word_from_number, Ext, has, AxiomSlot, FreeAxiom, Pair, is_valued, same_word_decides, head_not_valued, and_from, both_ways, or_left, or_right, any_from_among, same_tests}
use Rattle.std.proofs.lemmas.Bool.{eq-eqb}
use Rattle.std.proofs.lemmas.List.{get_or_default}
use Rattle.lis_blockmap.specs.Bitmap.{is_taken}
use Rattle.lis_kept.specs.Metadata.{Metadata}
use Rattle.lis_kept.specs.Telling.{is_left_of, is_head_by, is_left_head_of, is_had, is_named_left, is_used}
use Rattle.lis_kept.specs.Edges.{head_number}
pub use Rattle.lis_kept.specs.Edges.{is_at}
use Rattle.lis_kept.proofs.OwnLinks.{slot_at, among_slot}
use Rattle.lis_kept.proofs.WordLess.{had_from}

-- ---- by slots
-- a description that has the number is that of some slot
pub had_at : (e : Ext) (n : ℕ) → is_had e n ≡ true → (slot : ℕ) × (slot < length e.sets) × (has e n slot ≡ true)
had_at e n had = search (rules, among_from_any, contains_from_among, get_or_default)

-- ---- why a number is in use
module _ (k : Metadata) where
  pub used_flagged : (n : ℕ) → is_taken k.declared n ≡ true → is_used k n ≡ true
  used_flagged n bit = or_left (is_taken k.declared n || is_had k.ext n) (is_named_left k n) (or_left (is_taken k.declared n) (is_had k.ext n) bit)

  pub used_had : (n slot : ℕ) → has k.ext n slot ≡ true → is_used k n ≡ true
  used_had n slot h = or_left (is_taken k.declared n || is_had k.ext n) (is_named_left k n) (or_right (is_taken k.declared n) (is_had k.ext n) (had_from k.ext n slot h))

  pub used_left : (n : ℕ) → is_named_left k n ≡ true → is_used k n ≡ true
  used_left n left = or_right (is_taken k.declared n || is_had k.ext n) (is_named_left k n) left

-- which reason it is
pub data WhyUsed (k : Metadata) (n : ℕ) : Type 0 where
  Flagged : is_taken k.declared n ≡ true → WhyUsed k n
  Had : (slot : ℕ) → has k.ext n slot ≡ true → WhyUsed k n
  OnLeft : (slot right : ℕ) → slice_get k.axioms slot ≡ Some (Pair n right) → WhyUsed k n
  HeadOfLeft : (slot left right : ℕ) → slice_get k.axioms slot ≡ Some (Pair left right) → is_head_by (word_of k.dict left) (word_of k.dict n) ≡ true → WhyUsed k n

module _ (k : Metadata) (n : ℕ) where
  pub named_head : (slot left right : ℕ) → slice_get k.axioms slot ≡ Some (Pair left right) → is_head_by (word_of k.dict left) (word_of k.dict n) ≡ true → is_named_left k n ≡ true
  named_head slot left right is head = search (rules, or_right, any_from_among, among_slot)

  on_left : (a : AxiomSlot) → Among k.axioms a → (is_left_of n a ≡ true) ⊎ (is_left_head_of k.dict n a ≡ true) → WhyUsed k n
  on_left FreeAxiom m (inl is) = absurd (both_ways false refl is)
  on_left FreeAxiom m (inr is) = absurd (both_ways false refl is)
  on_left (Pair left right) m (inl is) = let at = slot_at k.axioms (Pair left right) m in OnLeft at.0 right (at.1 ∙ ap (λ i. Some (Pair i right)) (eqb-true left n is))
  on_left (Pair left right) m (inr is) = let at = slot_at k.axioms (Pair left right) m in HeadOfLeft at.0 left right at.1 is

  pub why_used : is_used k n ≡ true → WhyUsed k n
  why_used used = elim (or_cases (is_taken k.declared n || is_had k.ext n) (is_named_left k n) used) [
    | inl front ↦ elim (or_cases (is_taken k.declared n) (is_had k.ext n) front) [
      | inl bit ↦ Flagged bit
      | inr had ↦ let at = had_at k.ext n had in Had at.0 at.2
    ]
    | inr named ↦ elim (or_cases (list_any (is_left_of n) k.axioms) (list_any (is_left_head_of k.dict n) k.axioms) named) [
      | inl left ↦ let found = among_from_any (is_left_of n) k.axioms left in on_left found.0 found.1 (inl found.2)
      | inr head ↦ let found = among_from_any (is_left_head_of k.dict n) k.axioms head in on_left found.0 found.1 (inr found.2)
    ]
  ]

-- a head is not valued, so it is no word that has one
pub no_head_twice : (o w v : Option (List ℕ)) → is_head_by o w ≡ true → is_head_by w v ≡ true → ⊥
no_head_twice o w v h1 h2 = search (rules, both_ways, same_word_decides, and_parts, head_not_valued)

-- the word that has a head is known, and valued
pub headed : (o w : Option (List ℕ)) → is_head_by o w ≡ true → (v : List ℕ) × (o ≡ Some v) × (is_valued v ≡ true)
headed o w h1 = search (rules, both_ways, and_parts)

-- ---- by the number of a head
pub head_by_number : (d : Dict) → IsDict d → (word : List ℕ) (head : ℕ) → is_at (head_number d word) head ≡ is_head_by (Some word) (word_of d head)
head_by_number d dict word head =
    grind (arith, common_steps, both_ways, word_from_number, eqb-true, and_from, same_word_decides, and_parts, number_from_word, eq-eqb, same_tests)

-- ---- by the axioms
or_swap : (a b x y : Bool) → ((a || b) || (x || y)) ≡ ((a || x) || (b || y))
or_swap a b x y = grind arith

pub any_or : {X : Type 0} (f g : X → Bool) (xs : List X) → list_any (λ x. f x || g x) xs ≡ (list_any f xs || list_any g xs)
any_or f g [] = refl
any_or f g (x ∷ xs) = ap (λ b. (f x || g x) || b) (any_or f g xs) ∙ or_swap (f x) (g x) (list_any f xs) (list_any g xs)

-- ---- what is left
pub used_on_left : (k : Metadata) (n : ℕ) → is_taken k.declared n ≡ false → is_had k.ext n ≡ false → is_named_left k n ≡ is_used k n
used_on_left k n flag had = sym (ap₂ (λ a b. a || b || is_named_left k n) flag had)
