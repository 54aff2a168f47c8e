-- The marks of a search and its numbers.
use Rattle.std.proofs.Common.{◌≡◌, ◌⊎◌, ℕ, zero, suc, ◌+◌, ◌-◌, ◌<◌, ◌≤◌, All, Bool, true, false, cond, List, [], ◌∷◌, ◌++◌, length, get_or, replicate, set, count_by, refl, sym, ap, subst, ◌∙◌, inl, inr, arith, length-append, length-set, get_or-set_same, get_or-set_other}
use Rattle.std.specs.Bool.{one_answer}
use Rattle.std.specs.List.{range_with_len}
use Rattle.std.proofs.lemmas.Bool.{cases_eq, cases_lt}
use Rattle.std.proofs.lemmas.List.{get_or_default, length-replicate}
use Rattle.std.proofs.lemmas.List.Sums.{sum_by-cons, sum_by-set, count_by-le-length}
use Rattle.std.proofs.Math.ListN.{get_or-eq_default}
use Rattle.lis_limits.specs.declared.TheConstants.{V3_MAX_PROPS}
use Rattle.lis_bits.proofs.Laws.{all_false}
use Rattle.lis_taxonomy.specs.Search.{is_found}
use Rattle.lis_taxonomy.specs.Inside.{IsSoundSearch}
use Rattle.lis_taxonomy.proofs.Searches.{has_at, push_from, push_old, push_new}

-- ---- counts
pub none_counted : (marks : List Bool) → ((k : ℕ) → get_or marks k false ≡ false) → count_by (λ (mark : Bool). mark) marks ≡ 0
none_counted [] none = refl
none_counted (mark ∷ marks) none =
    let head = ap {B = ℕ} (λ (m : Bool). cond m 1 0) (none 0) in
    omega (arith, sum_by-cons (λ (m : Bool). cond m 1 0) mark marks, head, none_counted marks (λ k. none (suc k)))

pub sound_empty : (n capacity : ℕ) → n ≡ V3_MAX_PROPS → capacity ≡ V3_MAX_PROPS → IsSoundSearch [] (replicate n false) capacity
sound_empty n capacity all exact = record {
  size = omega (arith, length-replicate n false, all);
  memory = omega (arith, exact);
  marked = λ q. all_false n q;
  once = none_counted (replicate n false) (all_false n);
}

-- as many places are marked as there are numbers that are
counted_from : (marks : List Bool) (start : ℕ) (f : ℕ → Bool) → ((k : ℕ) → k < length marks → get_or marks k false ≡ f (start + k)) → count_by (λ (mark : Bool). mark) marks ≡ count_by f (range_with_len start (length marks))
counted_from [] start f same = refl
counted_from (mark ∷ marks) start f same =
    let here : start + 0 ≡ start = omega arith in
    let head = ap {B = ℕ} (λ (m : Bool). cond m 1 0) (same 0 (omega arith) ∙ ap f here) in
    let rest = counted_from marks (start + 1) f (λ k lt. let next : start + suc k ≡ start + 1 + k = omega arith in same (suc k) (omega (arith, lt)) ∙ ap f next) in
    omega (arith, sum_by-cons (λ (m : Bool). cond m 1 0) mark marks, sum_by-cons (λ x. cond (f x) 1 0) start (range_with_len (start + 1) (length marks)), head, rest)

-- numbers that pass are below the bound, so counting further finds no more of them
none_pass : (start n : ℕ) (f : ℕ → Bool) → ((k : ℕ) → start ≤ k → f k ≡ false) → count_by f (range_with_len start n) ≡ 0
none_pass start zero f none = refl
none_pass start (suc n) f none =
    let head = ap {B = ℕ} (λ (m : Bool). cond m 1 0) (none start (omega arith)) in
    omega (arith, sum_by-cons (λ x. cond (f x) 1 0) start (range_with_len (start + 1) n), head, none_pass (start + 1) n f (λ k le. none k (omega arith)))

count_from : (start n more : ℕ) (f : ℕ → Bool) → ((k : ℕ) → start + n ≤ k → f k ≡ false) → count_by f (range_with_len start (n + more)) ≡ count_by f (range_with_len start n)
count_from start zero more f none = let same : 0 + more ≡ more = omega arith in subst (λ n. count_by f (range_with_len start n) ≡ 0) (sym same) (none_pass start more f (λ k le. none k (omega arith)))
count_from start (suc n) more f none =
    let same : suc n + more ≡ suc (n + more) = omega arith in
    subst (λ m. count_by f (range_with_len start m) ≡ count_by f (range_with_len start (suc n))) (sym same) (omega (
      arith,
      sum_by-cons (λ x. cond (f x) 1 0) start (range_with_len (start + 1) (n + more)),
      sum_by-cons (λ x. cond (f x) 1 0) start (range_with_len (start + 1) n),
      count_from (start + 1) n more f (λ k le. none k (omega arith)),
    ))

pub same_counts : (xs : List ℕ) (f g : ℕ → Bool) → ((k : ℕ) → f k ≡ g k) → count_by f xs ≡ count_by g xs
same_counts [] f g same = refl
same_counts (x ∷ xs) f g same =
    let head = ap {B = ℕ} (λ (m : Bool). cond m 1 0) (same x) in
    omega (arith, sum_by-cons (λ k. cond (f k) 1 0) x xs, sum_by-cons (λ k. cond (g k) 1 0) x xs, head, same_counts xs f g same)

counted_below : (props n : ℕ) (f : ℕ → Bool) → props ≤ n → ((k : ℕ) → f k ≡ true → k < props) → count_by f (range_with_len 0 n) ≡ count_by f (range_with_len 0 props)
counted_below props n f few below =
    let all : props + (n - props) ≡ n = omega (arith, few) in
    subst (λ m. count_by f (range_with_len 0 m) ≡ count_by f (range_with_len 0 props)) all (count_from 0 props (n - props) f past)
  where
    past : (k : ℕ) → 0 + props ≤ k → f k ≡ false
    past k le = by (f k) refl
      where
        by : (t : Bool) → f k ≡ t → t ≡ false
        by true e = absurd (omega (arith, below k e, le))
        by false e = refl

module _ (numbers : List ℕ) (marks : List Bool) (capacity : ℕ) (sound : IsSoundSearch numbers marks capacity) where
  -- what is found is below the bound
  pub found_in_range : (q : ℕ) → is_found numbers q ≡ true → q < length marks
  found_in_range q h = by (cases_lt q (length marks))
    where
      by : (q < length marks) ⊎ (length marks ≤ q) → q < length marks
      by (inl lt) = lt
      by (inr past) = absurd (let none = get_or-eq_default marks false past in let yes = sound.marked q ∙ h in cc)

  pub place_in_range : (k : ℕ) → k < length numbers → get_or numbers k 0 < length marks
  place_in_range k lt = found_in_range (get_or numbers k 0) (has_at numbers k lt)

  pub numbers_below : All (λ q. q < V3_MAX_PROPS) numbers
  numbers_below k d lt = subst (λ q. q < V3_MAX_PROPS) (sym (get_or_default numbers k d 0 lt)) (omega (arith, place_in_range k lt, sound.size))

  pub few_found : length numbers ≤ V3_MAX_PROPS
  few_found = omega (arith, sound.once, sound.size, count_by-le-length (λ (mark : Bool). mark) marks)

  pub found_once : (props : ℕ) → props ≤ V3_MAX_PROPS → ((q : ℕ) → is_found numbers q ≡ true → q < props) → length numbers ≡ count_by (is_found numbers) (range_with_len 0 props)
  found_once props few below =
      sym sound.once
      ∙ (counted_from marks 0 (is_found numbers) (λ k lt. let here : 0 + k ≡ k = omega arith in sound.marked k ∙ ap (is_found numbers) (sym here))
      ∙ counted_below props (length marks) (is_found numbers) (omega (arith, few, sound.size)) below)

  pub sound_cleared : (after : List Bool) (room : ℕ) → capacity ≤ room → length after ≡ length marks → ((q : ℕ) → get_or after q false ≡ true → get_or marks q false ≡ true) → ((q : ℕ) → is_found numbers q ≡ true → get_or after q false ≡ false) → IsSoundSearch [] after room
  sound_cleared after room wide long others cleared = record {
    size = omega (arith, long, sound.size);
    memory = omega (arith, sound.memory);
    marked = λ q. by q (get_or after q false) refl;
    once = none_counted after (λ q. by q (get_or after q false) refl);
  }
    where
      by : (q : ℕ) (t : Bool) → get_or after q false ≡ t → get_or after q false ≡ false
      by q true e = cleared q (sym (sound.marked q) ∙ others q e)
      by q false e = e

  module _ (number : ℕ) (below : number < length marks) (new : get_or marks number false ≡ false) where
    counted : count_by (λ (mark : Bool). mark) (set marks number true) ≡ count_by (λ (mark : Bool). mark) marks + 1
    counted =
        let nothing = ap {B = ℕ} (λ (mark : Bool). cond mark 1 0) new in
        omega (arith, sum_by-set (λ (mark : Bool). cond mark 1 0) marks number true false below, nothing)

    pub some_room : length numbers + 1 ≤ V3_MAX_PROPS
    some_room = omega (arith, counted, sound.once, sound.size, count_by-le-length (λ (mark : Bool). mark) (set marks number true), length-set marks number true)

    pub sound_met : (room : ℕ) → capacity ≤ room → IsSoundSearch (numbers ++ number ∷ []) (set marks number true) room
    sound_met room wide = record {
      size = omega (arith, sound.size, length-set marks number true);
      memory = omega (arith, sound.memory);
      marked = λ q. one_answer (get_or (set marks number true) q false) (is_found (numbers ++ number ∷ []) q) (to q (cases_eq q number), from q (cases_eq q number)) (λ h. h, λ h. h);
      once = omega (arith, counted, sound.once, length-append numbers (number ∷ []));
    }
      where
        to : (q : ℕ) → (q ≡ number) ⊎ (q ≡ number → ⊥) → get_or (set marks number true) q false ≡ true → is_found (numbers ++ number ∷ []) q ≡ true
        to q (inl same) h = push_new numbers number q (sym same)
        to q (inr apart) h = push_old numbers number q (sym (sound.marked q) ∙ (sym (get_or-set_other marks number q true false apart) ∙ h))

        from : (q : ℕ) → (q ≡ number) ⊎ (q ≡ number → ⊥) → is_found (numbers ++ number ∷ []) q ≡ true → get_or (set marks number true) q false ≡ true
        from q (inl same) h = subst (λ k. get_or (set marks number true) k false ≡ true) (sym same) (get_or-set_same marks number true false below)
        from q (inr apart) h = by (push_from numbers number q h)
          where
            by : (is_found numbers q ≡ true) ⊎ (number ≡ q) → get_or (set marks number true) q false ≡ true
            by (inl old) = get_or-set_other marks number q true false apart ∙ (sound.marked q ∙ old)
            by (inr same) = absurd (apart (sym same))
