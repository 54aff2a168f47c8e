-- The made frames that are free, as a frame is taken, given back and made.
use Rattle.std.proofs.Common.{◌≡◌, ◌≢◌, ℕ, ◌+◌, ◌<◌, Bool, true, false, List, [], ◌∷◌, ◌++◌, length, get_or, set, count_by, cond, arith, refl, sym, ◌∙◌, ap, length-set, length-append, get_or-set_same, get_or-set_other}
use Rattle.std.proofs.lemmas.List.{get_or_at, get_or_append_left, get_or_past, get_or_default}
use Rattle.std.proofs.lemmas.List.Sums.{sum_by-set}
use Rattle.std.proofs.lemmas.Grind.{common_steps}
use native.Mathlib.Decide.{dec_lt}
use Prim.{yes, no}
use Rattle.lis_region.specs.Made.{IsOrder}

true_false : true ≡ false → ⊥
true_false e = cc

count_by-append_one : (taken : List Bool) → count_by (λ b. b) (taken ++ true ∷ []) ≡ count_by (λ b. b) taken + 1
count_by-append_one taken = grind (arith, common_steps)

-- a frame that is free was made
pub free_in_range : (taken : List Bool) (n : ℕ) → get_or taken n true ≡ false → n < length taken
free_in_range taken n free = elim (dec_lt n (length taken)) [ yes l ↦ l | no ge ↦ absurd (let past = get_or_past taken n true (omega arith) in cc) ]

-- and one that is taken
pub taken_in_range : (taken : List Bool) (n : ℕ) → get_or taken n false ≡ true → n < length taken
taken_in_range taken n free = elim (dec_lt n (length taken)) [ yes l ↦ l | no ge ↦ absurd (let past = get_or_past taken n false (omega arith) in cc) ]

module _ (taken : List Bool) (given : List ℕ) where
  module _ (n : ℕ) where
    front : (k : ℕ) → k < length given → get_or (given ++ n ∷ []) k 0 ≡ get_or given k 0
    front k lt = get_or_append_left given (n ∷ []) 0 k lt

    last : get_or (given ++ n ∷ []) (length given) 0 ≡ n
    last = get_or_at given n [] 0 (length given) refl

    more : length (given ++ n ∷ []) ≡ length given + 1
    more = length-append given (n ∷ [])

    -- the last of the free frames
    pub last_free : IsOrder taken (given ++ n ∷ []) → get_or taken n true ≡ false
    last_free h = ap (λ i. get_or taken i true) (sym last) ∙ h.all_free (length given) (omega (arith, more))

    -- it is taken
    pub order_taken : IsOrder taken (given ++ n ∷ []) → IsOrder (set taken n true) given
    order_taken h =
        let free = last_free h in
        let in_range = free_in_range taken n free in
        let was = get_or_default taken n false true in_range ∙ free in
        let step = sum_by-set (λ (b : Bool). cond b 1 0) taken n true false in_range in
        record {
          counted = omega (arith, rw was at step, more, h.counted, length-set taken n true);
          all_free = λ k lt.
              let differs : get_or given k 0 ≢ n = rw (front k lt, last) at (h.apart k (length given) lt (omega (arith, more))) in
              get_or-set_other taken n (get_or given k 0) true true differs ∙ (rw (front k lt) at (h.all_free k (omega (arith, more))));
          apart = λ j k lt le. rw (front j (omega arith), front k le) at (h.apart j k lt (omega (arith, more)));
        }

    -- a property of each number that was there, and of the one at the end
    by_place : (P : ℕ → Type 0) (k : ℕ) → k < length (given ++ n ∷ []) → (k < length given → P (get_or given k 0)) → (k ≡ length given → P n) → P (get_or (given ++ n ∷ []) k 0)
    by_place P k lt below here =
        elim (dec_lt k (length given)) [ yes l ↦ rw (front k l) (below l) | no ge ↦ (let e : k ≡ length given = omega (arith, more) in rw (e, last) (here e)) ]

    -- a taken frame is given back
    pub order_given : get_or taken n false ≡ true → IsOrder taken given → IsOrder (set taken n false) (given ++ n ∷ [])
    order_given was h =
        let in_range = taken_in_range taken n was in
        let step = sum_by-set (λ (b : Bool). cond b 1 0) taken n false false in_range in
        let differs : (k : ℕ) → k < length given → get_or given k 0 ≢ n = λ k lt e. true_false (sym was ∙ (get_or_default taken n false true in_range ∙ (ap (λ i. get_or taken i true) (sym e) ∙ h.all_free k lt))) in
        record {
          counted = omega (arith, rw was at step, more, h.counted, length-set taken n false);
          all_free = λ k lt. by_place (λ i. get_or (set taken n false) i true ≡ false) k lt
              (λ l. get_or-set_other taken n (get_or given k 0) false true (differs k l) ∙ h.all_free k l)
              (λ _. get_or-set_same taken n false true in_range);
          apart = λ j k lt le. rw (front j (omega (arith, more))) (by_place (λ i. get_or given j 0 ≢ i) k le (λ l. h.apart j k lt l) (λ e. differs j (omega arith)));
        }

  -- one more frame is made, and taken
  pub order_made : IsOrder taken given → IsOrder (taken ++ true ∷ []) given
  order_made h =
      let step = count_by-append_one taken in
      record {
        counted = omega (arith, step, h.counted, length-append taken (true ∷ []));
        all_free = λ k lt.
            let free = h.all_free k lt in get_or_append_left taken (true ∷ []) true (get_or given k 0) (free_in_range taken (get_or given k 0) free) ∙ free;
        apart = h.apart;
      }
