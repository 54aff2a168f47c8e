-- Descriptions without one number.
use Rattle.lis_store.proofs.Common.{◌≡◌, refl, sym, ap, ◌∙◌, subst, ℕ, ◌≤◌, ◌==◌, not, cond, Bool, true, false, List, [], ◌∷◌, filter, slice_get, Some, is_some, IsSome, arith, list_all, IsStrictlyIncreasing, nat_cmp, not-true, get_or_past, IsStrictlySortedBy-filter, Among, among_filter, is_taken, word_of, rec_at, has, numbers_at, Pair, Metadata, AreSound, is_head_by, is_had, is_named_left, had_at, both_ways, false_from_ne_true, eq-eqb, IsStrictlyIncreasing-from_sorted, has_number, all_from, among_from_number, number_from_among}
use Rattle.std.proofs.lemmas.Map.Keys.{sorted_from_strictly_increasing}
use Rattle.lis_content.proofs.Numbers.{neither}
use Rattle.lis_kept.specs.Undeclaring.{MayUndeclare}
use Rattle.lis_store.specs.Redescribing.{Redescribes}
use Rattle.lis_store.specs.Testing.{without_number, undescribed}
use Rattle.lis_store.proofs.Rebuilt.{same_here, given_then}

abbrev pub is_other : ℕ → ℕ → Bool
is_other number n = not (n == number)

-- numbers without it stay
pub without_none : (number : ℕ) (ns : List ℕ) → has_number ns number ≡ false → filter (is_other number) ns ≡ ns
without_none number [] none = refl
without_none number (n ∷ ns) none =
    let both = neither (n == number) (has_number ns number) none in
    ap (λ b. cond (not b) (n ∷ filter (is_other number) ns) (filter (is_other number) ns)) both.0 ∙ ap (λ ms. n ∷ ms) (without_none number ns both.1)

pub without_rising : (number : ℕ) (ns : List ℕ) → IsStrictlyIncreasing ns → IsStrictlyIncreasing (filter (is_other number) ns)
without_rising number ns rising =
    IsStrictlyIncreasing-from_sorted (filter (is_other number) ns) (IsStrictlySortedBy-filter nat_cmp (is_other number) ns (sorted_from_strictly_increasing ns rising))

pub without_named : (k : Metadata) (number : ℕ) (ns : List ℕ) → ((n : ℕ) → has_number ns n ≡ true → IsSome (word_of k.dict n)) → list_all (λ n. is_some (word_of k.dict n)) (filter (is_other number) ns) ≡ true
without_named k number ns named =
    all_from (λ n. is_some (word_of k.dict n)) (filter (is_other number) ns) (λ n m. named n (number_from_among ns n (among_filter (is_other number) ns n m).0))

-- a slot that is not reached yet gets what it would get at the start
pub without_same : (number n : ℕ) (p q : Metadata) → Redescribes (without_number p number) n p q → without_number q number n ≡ without_number p number n
without_same number n p q so_far = ap (filter (is_other number)) (same_here (without_number p number) n p q so_far)

pub without_past : (p : Metadata) → AreSound p → (number slot : ℕ) → p.limits.files ≤ slot → without_number p number slot ≡ numbers_at p.ext slot
without_past p sound number slot le =
    let none : numbers_at p.ext slot ≡ [] = get_or_past p.ext.sets slot [] (omega (arith, le, sound.files)) in
    ap (filter (is_other number)) none ∙ sym none

-- a word may be undeclared once no description has it
pub may_then : (p made : Metadata) (number : ℕ) → AreSound p → Redescribes (without_number p number) p.limits.files p made → MayUndeclare number (undescribed p) → MayUndeclare number made
may_then p made number sound takes may = record {
  declared = ap (λ (k : Metadata). is_taken k.declared number) takes.metadata ∙ may.declared;
  had = false_from_ne_true (is_had made.ext number) (λ h. let place = had_at made.ext number h in never place.0 place.2);
  lefts = ap (λ (k : Metadata). is_named_left k number) takes.metadata ∙ may.lefts;
  rights = λ slot left right is. may.rights slot left right (subst (λ (k : Metadata). slice_get k.axioms slot ≡ Some (Pair left right)) takes.metadata is);
  tags = λ slot rec is. may.tags slot rec (subst (λ (k : Metadata). rec_at k.catalog slot ≡ Some rec) takes.metadata is);
  heads = λ m. ap (λ (k : Metadata). is_head_by (word_of k.dict m) (word_of k.dict number)) takes.metadata ∙ may.heads m;
}
  where
    never : (slot : ℕ) → has made.ext number slot ≡ true → ⊥
    never slot had =
        let then = given_then (without_number p number) p.limits.files p made takes sound.files (without_past p sound number) slot in
        let found = among_filter (is_other number) (numbers_at p.ext slot) number (subst (λ ns. Among ns number) then (among_from_number (numbers_at made.ext slot) number had)) in
        both_ways (number == number) (not-true (number == number) found.1) (eq-eqb number number refl)
