-- The order of the free frames, as a frame is taken and given back.
use Rattle.std.proofs.Common.{◌≡◌, ◌≢◌, ℕ, ◌+◌, ◌<◌, List, length, get_or, set, Option, Some, None, is_some, cond, count_by, arith, sym, ◌∙◌, ap, length-set, get_or-set_same, get_or-set_other}
use Rattle.std.proofs.lemmas.List.Sums.{sum_by-set, count_by-le-length}
use native.Mathlib.Decide.{dec_lt}
use Prim.{yes, no}
use Rattle.lis_region.specs.Inside.{IsOrder}

none_some : {X : Type 0} (x : X) → None ≡ Some x → ⊥
none_some x e = cc

module _ {X : Type 0} (frames : List (Option X)) (order : List ℕ) where
  -- a free frame is taken
  count_taken : (n : ℕ) (x : X) → n < length frames → get_or frames n None ≡ None → count_by is_some (set frames n (Some x)) ≡ count_by is_some frames + 1
  count_taken n x in_range was =
      let step = sum_by-set (λ (o : Option X). cond (is_some o) 1 0) frames n (Some x) None in_range in
      omega (arith, rw was at step)

  pub taken : (free : ℕ) (x : X) → IsOrder frames order (free + 1) → IsOrder (set frames (get_or order free 0) (Some x)) order free
  taken free x h =
      let n : ℕ = get_or order free 0 in
      let in_range : n < length frames = h.in_range free (omega arith) in
      let was : get_or frames n None ≡ None = h.all_free free (omega arith) in
      let count = count_taken n x in_range was in
      let same = length-set frames n (Some x) in
      record {
        as_many = h.as_many ∙ sym same;
        few = omega (arith, h.few);
        counted = omega (arith, h.counted);
        in_range = λ k lt. omega (arith, h.in_range k (omega arith));
        all_free = λ k lt. get_or-set_other frames n (get_or order k 0) (Some x) None (h.apart k free lt (omega arith)) ∙ h.all_free k (omega arith);
        apart = λ j k lt le. h.apart j k lt (omega arith);
      }

  -- what holds of the number at each index below `free`, and of the one put at `free`, holds at each index below `free + 1`
  by_place : (P : ℕ → Type 0) (free n k : ℕ) → k < free + 1 → (k < free → P (get_or (set order free n) k 0)) → P (get_or (set order free n) free 0) → P (get_or (set order free n) k 0)
  by_place P free n k lt below here =
      elim (dec_lt k free) [ yes l ↦ below l | no ge ↦ (let e : k ≡ free = omega arith in rw e here) ]

  -- a taken frame is given back
  count_given : (n : ℕ) (x : X) → n < length frames → get_or frames n None ≡ Some x → count_by is_some (set frames n None) + 1 ≡ count_by is_some frames
  count_given n x in_range was =
      let step = sum_by-set (λ (o : Option X). cond (is_some o) 1 0) frames n None None in_range in
      omega (arith, rw was at step)

  pub given : (free n : ℕ) (x : X) → n < length frames → get_or frames n None ≡ Some x → IsOrder frames order free → IsOrder (set frames n None) (set order free n) (free + 1)
  given free n x in_range was h =
      let count = count_given n x in_range was in
      let few = count_by-le-length is_some frames in
      let room : free < length order = omega (arith, h.as_many, h.counted) in
      let same = length-set frames n None in
      let others = λ (k : ℕ) (lt : k < free). get_or-set_other order free k n 0 (omega arith) in
      let last = get_or-set_same order free n 0 room in
      let differs : (k : ℕ) → k < free → get_or order k 0 ≢ n = λ k lt e. none_some x (sym (h.all_free k lt) ∙ ap (λ i. get_or frames i None) e ∙ was) in
      record {
        as_many = length-set order free n ∙ h.as_many ∙ sym same;
        few = omega (arith, h.few);
        counted = omega (arith, h.counted);
        in_range = λ k lt. by_place (λ i. i < length (set frames n None)) free n k lt (λ l. rw (others k l) (omega (arith, h.in_range k l))) (rw last (omega arith));
        all_free = λ k lt. by_place (λ i. get_or (set frames n None) i None ≡ None) free n k lt (λ l. rw (others k l) (get_or-set_other frames n (get_or order k 0) None None (differs k l) ∙ h.all_free k l)) (rw last (get_or-set_same frames n None None in_range));
        apart = λ j k lt le. by_place (λ i. get_or (set order free n) j 0 ≢ i) free n k le (λ l. rw (others k l, others j (omega arith)) (h.apart j k lt l)) (rw (last, others j (omega arith)) (differs j (omega arith)));
      }

  -- the items of a taken frame are written
  pub written : (free n : ℕ) (x y : X) → n < length frames → get_or frames n None ≡ Some x → IsOrder frames order free → IsOrder (set frames n (Some y)) order free
  written free n x y in_range was h =
      let same = length-set frames n (Some y) in
      let step = sum_by-set (λ (o : Option X). cond (is_some o) 1 0) frames n (Some y) None in_range in
      let count : count_by is_some (set frames n (Some y)) ≡ count_by is_some frames = omega (arith, rw was at step) in
      let differs : (k : ℕ) → k < free → get_or order k 0 ≢ n = λ k lt e. none_some x (sym (h.all_free k lt) ∙ ap (λ i. get_or frames i None) e ∙ was) in
      record {
        as_many = h.as_many ∙ sym same;
        few = omega (arith, h.few);
        counted = omega (arith, h.counted);
        in_range = λ k lt. omega (arith, h.in_range k lt);
        all_free = λ k lt. get_or-set_other frames n (get_or order k 0) (Some y) None (differs k lt) ∙ h.all_free k lt;
        apart = h.apart;
      }
