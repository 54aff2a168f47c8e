-- Lists at a fixed stride.
use Rattle.std.proofs.Common.{◌≡◌, ◌⊎◌, ℕ, zero, suc, ◌+◌, ◌*◌, ◌<◌, ◌≤◌, List, [], length, get_or, set, take, drop, replicate, refl, sym, ap, ◌∙◌, inl, inr, arith, length-take, length-drop, length-set, get_or-take, get_or-set_same, get_or-set_other}
use Rattle.std.proofs.lemmas.Bool.{cases_eq, cases_lt}
use Rattle.std.proofs.lemmas.Grind.{same_number_lists}
use Rattle.std.proofs.lemmas.List.{get_or-drop, get_or-replicate, length-replicate}
use Rattle.std.proofs.lemmas.List.FromFn.{fill_by_all, length-map-range_with_len, get_or-map-range_with_len}
use Rattle.lis_limits.specs.declared.TheConstants.{MAX_DESCRIPTION}
use Rattle.lis_ext.specs.Stride.{lists_of, AreSoundLists}

module _ (numbers lengths : List ℕ) where
  pub length-lists_of : length (lists_of numbers lengths) ≡ length lengths
  unfolding lists_of
  length-lists_of = length-map-range_with_len (λ i. take (get_or lengths i 0) (drop (i * MAX_DESCRIPTION) numbers)) 0 (length lengths)

  pub list-lists_of : (i : ℕ) → i < length lengths → get_or (lists_of numbers lengths) i [] ≡ take (get_or lengths i 0) (drop (i * MAX_DESCRIPTION) numbers)
  unfolding lists_of
  list-lists_of i lt = get_or-map-range_with_len (λ i. take (get_or lengths i 0) (drop (i * MAX_DESCRIPTION) numbers)) 0 (length lengths) i i [] lt (omega arith)

-- no list has a number at first
pub lists-empty : (lists : ℕ) (numbers : List ℕ) → lists_of numbers (replicate lists 0) ≡ replicate lists []
unfolding lists_of
lists-empty lists numbers = sym (fill_by_all (λ i. take (get_or (replicate lists 0) i 0) (drop (i * MAX_DESCRIPTION) numbers)) (replicate lists []) (length (replicate lists 0)) [] (length-replicate {A = List ℕ} lists [] ∙ sym (length-replicate {A = ℕ} lists 0))
    (λ k lt. let low : k < lists = omega (arith, length-replicate {A = ℕ} lists 0) in get_or-replicate lists k [] [] low ∙ sym (ap (λ n. take n (drop (k * MAX_DESCRIPTION) numbers)) (get_or-replicate lists k 0 0 low))))

-- the part of a list that has these numbers, one by one
part_is : (xs part : List ℕ) (start : ℕ) → start + length part ≤ length xs → ((k : ℕ) → k < length part → get_or xs (start + k) 0 ≡ get_or part k 0) → take (length part) (drop start xs) ≡ part
part_is xs part start room same = same_number_lists (take (length part) (drop start xs)) part long
    (λ k lt. let low : k < length part = omega (arith, long) in get_or-take (length part) (drop start xs) k 0 low ∙ (get_or-drop start xs k 0 ∙ same k low))
  where
    long : length (take (length part) (drop start xs)) ≡ length part
    long = omega (arith, length-take (length part) (drop start xs), length-drop start xs)

pub length-part : (xs : List ℕ) (start many : ℕ) → start + many ≤ length xs → length (take many (drop start xs)) ≡ many
length-part xs start many room = omega (arith, length-take many (drop start xs), length-drop start xs)

module _ (numbers lengths numbers' new : List ℕ) (list capacity : ℕ) (sound : AreSoundLists numbers lengths capacity) (lt : list < length lengths) (few : length new ≤ MAX_DESCRIPTION)
    (grown : length numbers ≤ length numbers') (reach : list * MAX_DESCRIPTION + length new ≤ length numbers') where
  pub lists-set : ((k : ℕ) → k < length new → get_or numbers' (list * MAX_DESCRIPTION + k) 0 ≡ get_or new k 0) → ((k : ℕ) → (k < list * MAX_DESCRIPTION) ⊎ (list * MAX_DESCRIPTION + length new ≤ k) → get_or numbers' k 0 ≡ get_or numbers k 0)
      → lists_of numbers' (set lengths list (length new)) ≡ set (lists_of numbers lengths) list new
  unfolding lists_of
  lists-set written others = sym (fill_by_all (λ i. take (get_or (set lengths list (length new)) i 0) (drop (i * MAX_DESCRIPTION) numbers')) (set (lists_of numbers lengths) list new) (length (set lengths list (length new))) []
      (length-set (lists_of numbers lengths) list new ∙ (length-lists_of numbers lengths ∙ sym (length-set lengths list (length new))))
      (λ k low. at k (omega (arith, length-set lengths list (length new))) (cases_eq k list)))
    where
      apart : (i k : ℕ) → (i ≡ list → ⊥) → k < MAX_DESCRIPTION → (i * MAX_DESCRIPTION + k < list * MAX_DESCRIPTION) ⊎ (list * MAX_DESCRIPTION + length new ≤ i * MAX_DESCRIPTION + k)
      apart i k differ low = by (cases_lt i list)
        where
          by : (i < list) ⊎ (list ≤ i) → (i * MAX_DESCRIPTION + k < list * MAX_DESCRIPTION) ⊎ (list * MAX_DESCRIPTION + length new ≤ i * MAX_DESCRIPTION + k)
          by (inl less) = inl (omega arith)
          by (inr ge) = inr (omega arith)

      kept : (i many : ℕ) → many ≤ MAX_DESCRIPTION → i * MAX_DESCRIPTION + many ≤ length numbers → (i ≡ list → ⊥) → take many (drop (i * MAX_DESCRIPTION) numbers) ≡ take many (drop (i * MAX_DESCRIPTION) numbers')
      kept i many short room differ = same_number_lists (take many (drop (i * MAX_DESCRIPTION) numbers)) (take many (drop (i * MAX_DESCRIPTION) numbers'))
          (length-part numbers (i * MAX_DESCRIPTION) many room ∙ sym (length-part numbers' (i * MAX_DESCRIPTION) many (omega (arith, room, grown))))
          (λ k in_part.
          let less : k < many = omega (arith, length-part numbers (i * MAX_DESCRIPTION) many room) in
          (get_or-take many (drop (i * MAX_DESCRIPTION) numbers) k 0 less ∙ get_or-drop (i * MAX_DESCRIPTION) numbers k 0) ∙ (sym (others (i * MAX_DESCRIPTION + k) (apart i k differ (omega arith))) ∙ sym (get_or-take many (drop (i * MAX_DESCRIPTION) numbers') k 0 less ∙ get_or-drop (i * MAX_DESCRIPTION) numbers' k 0)))

      stays : (i many : ℕ) → many ≤ MAX_DESCRIPTION → (0 < many → i * MAX_DESCRIPTION + many ≤ length numbers) → (i ≡ list → ⊥) → take many (drop (i * MAX_DESCRIPTION) numbers) ≡ take many (drop (i * MAX_DESCRIPTION) numbers')
      stays i zero short room differ = refl
      stays i (suc many) short room differ = kept i (suc many) short (room (omega arith)) differ

      at : (k : ℕ) → k < length lengths → (k ≡ list) ⊎ (k ≡ list → ⊥) → get_or (set (lists_of numbers lengths) list new) k [] ≡ take (get_or (set lengths list (length new)) k 0) (drop (k * MAX_DESCRIPTION) numbers')
      at k low (inl same) = rw (same, get_or-set_same lengths list (length new) 0 lt) (get_or-set_same (lists_of numbers lengths) list new [] (omega (arith, length-lists_of numbers lengths))
          ∙ sym (part_is numbers' new (list * MAX_DESCRIPTION) reach written))
      at k low (inr differ) = rw (get_or-set_other lengths list k (length new) 0 differ) (get_or-set_other (lists_of numbers lengths) list k new [] differ
          ∙ (list-lists_of numbers lengths k low ∙ stays k (get_or lengths k 0) (sound.few_numbers k low) (sound.within k low) differ))
