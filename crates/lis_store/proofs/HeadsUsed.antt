-- The head of a word in use is in use.
use Rattle.lis_store.proofs.Common.{rules, ◌≡◌, ◌⊎◌, refl, sym, ap, ◌∙◌, inl, inr, ℕ, ◌||◌, true, false, List, Option, Some, None, list_any, and_parts, eqb-true, or_cases, is_taken, word_of, has, AxiomSlot, FreeAxiom, Pair, same_word, is_valued, head_bytes, same_word_decides, head_not_valued, Metadata, AreSound, has_pair, is_own_link, declared_of, is_left_of, is_head_by, is_left_head_of, is_had, is_named_left, is_used, had_at, used_flagged, used_had, both_ways, or_left, or_right, among_from_any, any_from_among, used_left}
use Rattle.lis_kept.proofs.OwnLinks.{own_head}
use Rattle.lis_kept.proofs.Emptied.{flagged_not_valued}
use Rattle.lis_store.specs.Stored.{AreClosed}

-- why a number is in use
pub data IsUsedFor (k : Metadata) (n : ℕ) : Type 0 where
  Flagged : is_taken k.declared n ≡ true → IsUsedFor k n
  HadAt : (slot : ℕ) → has k.ext n slot ≡ true → IsUsedFor k n
  NamedLeft : is_named_left k n ≡ true → IsUsedFor k n

pub used_for : (k : Metadata) (n : ℕ) → is_used k n ≡ true → IsUsedFor k n
used_for k n used = by (or_cases (is_taken k.declared n || is_had k.ext n) (is_named_left k n) used)
  where
    first : (is_taken k.declared n ≡ true) ⊎ (is_had k.ext n ≡ true) → IsUsedFor k n
    first (inl bit) = Flagged bit
    first (inr h) = let at = had_at k.ext n h in HadAt at.0 at.2

    by : ((is_taken k.declared n || is_had k.ext n) ≡ true) ⊎ (is_named_left k n ≡ true) → IsUsedFor k n
    by (inl either) = first (or_cases (is_taken k.declared n) (is_had k.ext n) either)
    by (inr left) = NamedLeft left

-- so a number stays in use if these stay
pub use_stays : (k m : Metadata) (n : ℕ) → (is_taken k.declared n ≡ true → is_taken m.declared n ≡ true) → (is_named_left k n ≡ true → is_named_left m n ≡ true)
    → ((slot : ℕ) → has k.ext n slot ≡ true → is_used m n ≡ true) → is_used k n ≡ true → is_used m n ≡ true
use_stays k m n bits lefts had used = search (rules, used_for, used_flagged, used_left)

module _ (k : Metadata) (sound : AreSound k) (closed : AreClosed k) (n head : ℕ) (is_head : is_head_by (word_of k.dict n) (word_of k.dict head) ≡ true) where
  not_bare : (w : List ℕ) → word_of k.dict n ≡ Some w → is_valued w ≡ false → ⊥
  not_bare w is bare = search (rules, both_ways, and_parts)

  flagged_head : (o : Option (List ℕ)) → word_of k.dict n ≡ o → is_taken k.declared n ≡ true → ⊥
  flagged_head None is bit = both_ways false refl (sym (ap (λ o. is_head_by o (word_of k.dict head)) is) ∙ is_head)
  flagged_head (Some w) is bit = not_bare w is (flagged_not_valued k sound n w is bit)

  had_head : (slot : ℕ) → has k.ext n slot ≡ true → is_used k head ≡ true
  had_head slot h =
      let linked = or_left (is_own_link (declared_of k) (word_of k.dict n) (word_of k.dict head)) (has_pair k.axioms n head) (own_head (declared_of k) (word_of k.dict n) (word_of k.dict head) is_head) in
      used_had k head slot (closed slot n head h linked)

  left_head : list_any (is_left_of n) k.axioms ≡ true → is_used k head ≡ true
  left_head h = search (rules, among_from_any, both_ways, used_left, or_right, any_from_among, eqb-true)

  no_head_twice : list_any (is_left_head_of k.dict n) k.axioms ≡ true → ⊥
  no_head_twice h = let found = among_from_any (is_left_head_of k.dict n) k.axioms h in by found.0 found.2
    where
      two : (o w : Option (List ℕ)) → word_of k.dict n ≡ w → is_head_by o w ≡ true → ⊥
      two None w is said = both_ways false refl said
      two (Some v) None is said = both_ways false refl said
      two (Some v) (Some w) is said =
          let same = (same_word_decides (head_bytes v) w).0 (and_parts (is_valued v) (same_word (head_bytes v) w) said).1 in
          not_bare w is (sym (ap is_valued same) ∙ head_not_valued v)

      by : (a : AxiomSlot) → is_left_head_of k.dict n a ≡ true → ⊥
      by FreeAxiom is = both_ways false refl is
      by (Pair left right) is = two (word_of k.dict left) (word_of k.dict n) refl is

  pub head_used : is_used k n ≡ true → is_used k head ≡ true
  head_used used = by (used_for k n used)
    where
      second : (list_any (is_left_of n) k.axioms ≡ true) ⊎ (list_any (is_left_head_of k.dict n) k.axioms ≡ true) → is_used k head ≡ true
      second (inl left) = left_head left
      second (inr again) = absurd (no_head_twice again)

      by : IsUsedFor k n → is_used k head ≡ true
      by (Flagged bit) = absurd (flagged_head (word_of k.dict n) refl bit)
      by (HadAt slot h) = had_head slot h
      by (NamedLeft left) = second (or_cases (list_any (is_left_of n) k.axioms) (list_any (is_left_head_of k.dict n) k.axioms) left)
