-- Whether a description has a number if the one in a slot is left out, by counts.
use Rattle.std.proofs.Common.{◌⊎◌, inl, inr, zero, suc, nat_lt, if◌then◌else◌, refl, arith}
use Rattle.std.proofs.lemmas.List.{set_past}
use Rattle.lis_kept.proofs.Common.{rules, ◌≡◌, sym, ap, ◌∙◌, subst, ℕ, ◌+◌, ◌<◌, ◌≤◌, true, false, [], length, set, get_or-set_same, get_or-set_other, length-set, get_or_past, cases_lt, lt-ltb, Ext, has, both_ways}
use Rattle.lis_ext.specs.Ext.{count_of}
use Rattle.lis_ext.proofs.Counted.{counted_set, any_counted}
use Rattle.lis_kept.specs.Telling.{is_had}
use Rattle.lis_kept.proofs.Used.{had_at}
use Rattle.lis_kept.proofs.WordLess.{had_from}
use Rattle.lis_model.specs.Sets.{has_number}

abbrev pub left_out : Ext → ℕ → Ext
left_out e slot = record e { sets = set e.sets slot [] }

module _ (e : Ext) (slot n : ℕ) where
  pub none_here : has (left_out e slot) n slot ≡ false
  none_here = search (rules, cases_lt, get_or-set_same, get_or_past, length-set)

  pub same_elsewhere : (at : ℕ) → (at ≡ slot → ⊥) → has (left_out e slot) n at ≡ has e n at
  same_elsewhere at differ = ap (λ ns. has_number ns n) (get_or-set_other e.sets slot at [] [] differ)

  -- it is had by another slot
  pub had_elsewhere : is_had (left_out e slot) n ≡ true → (at : ℕ) × (at < length e.sets) × (at ≡ slot → ⊥) × (has e n at ≡ true)
  had_elsewhere had =
      let found = had_at (left_out e slot) n had in
      let differ : found.0 ≡ slot → ⊥ = λ same. both_ways (has (left_out e slot) n slot) none_here (subst (λ at. has (left_out e slot) n at ≡ true) same found.2) in
      (found.0, omega (arith, found.1, length-set e.sets slot []), differ, sym (same_elsewhere found.0 differ) ∙ found.2)

  pub elsewhere_had : (at : ℕ) → (at ≡ slot → ⊥) → has e n at ≡ true → is_had (left_out e slot) n ≡ true
  elsewhere_had at differ has_it = had_from (left_out e slot) n at (same_elsewhere at differ ∙ has_it)

  -- it is had by as many more sets as have it, of which that in the slot is one
  pub counted_out : slot < length e.sets → count_of (left_out e slot).sets n + (if has e n slot then 1 else 0) ≡ count_of e.sets n
  counted_out lt = let sum = counted_set e.sets slot [] n lt in omega (arith, sum)

  pub had_counted : nat_lt 0 (count_of (left_out e slot).sets n) ≡ is_had (left_out e slot) n
  had_counted = any_counted (λ ns. has_number ns n) (left_out e slot).sets

  -- the slot has it; then another one has it exactly if there are two
  pub had_twice : has e n slot ≡ true → nat_lt 1 (count_of e.sets n) ≡ is_had (left_out e slot) n
  had_twice here = by (cases_lt slot (length e.sets))
    where
      one_less : (m : ℕ) → nat_lt 1 (m + 1) ≡ nat_lt 0 m
      one_less zero = refl
      one_less (suc m) = lt-ltb 1 (suc m + 1) (omega arith) ∙ sym (lt-ltb 0 (suc m) (omega arith))

      by : (slot < length e.sets) ⊎ (length e.sets ≤ slot) → nat_lt 1 (count_of e.sets n) ≡ is_had (left_out e slot) n
      by (inl lt) =
          let sum = rw here at (counted_out lt) in
          ap (nat_lt 1) (sym sum) ∙ (one_less (count_of (left_out e slot).sets n) ∙ had_counted)
      by (inr past) = absurd (both_ways (has e n slot) (ap (λ ns. has_number ns n) (get_or_past e.sets slot [] past)) here)

  -- the slot lacks it
  pub had_once : has e n slot ≡ false → nat_lt 0 (count_of e.sets n) ≡ is_had (left_out e slot) n
  had_once lacks = by (cases_lt slot (length e.sets))
    where
      by : (slot < length e.sets) ⊎ (length e.sets ≤ slot) → nat_lt 0 (count_of e.sets n) ≡ is_had (left_out e slot) n
      by (inl lt) =
          let sum = rw lacks at (counted_out lt) in
          let same : count_of e.sets n ≡ count_of (left_out e slot).sets n = omega (arith, sum) in
          ap (nat_lt 0) same ∙ had_counted
      by (inr past) = ap (λ sets. nat_lt 0 (count_of sets n)) (sym (set_past e.sets slot [] past)) ∙ had_counted
