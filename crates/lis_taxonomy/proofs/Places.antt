-- The places of edges in a list that is in order.
use Rattle.std.proofs.Common.{◌≡◌, ◌⊎◌, Bool, true, false, ◌&&◌, ◌||◌, nat_eq, nat_lt, eq-eqb, eqb-true, ltb-true, ltb-false, ℕ, suc, ◌+◌, ◌-◌, ◌<◌, ◌≤◌, List, ◌∷◌, ◌++◌, length, get_or, take, drop, refl, sym, ap, subst, ◌∙◌, inl, inr, arith, take-append-drop, drop-cons}
use Rattle.std.specs.List.{insert, remove}
use Rattle.std.specs.List.Sorted.{IsPartitionedBy, IsPartitionPoint}
use Rattle.std.proofs.lemmas.Bool.{cases_eq, cases_lt}
use Rattle.std.proofs.lemmas.List.{get_or_default}
use Rattle.std.proofs.lemmas.List.Edits.{length-insert, get_or-insert_below, get_or-insert_at, get_or-insert_above, length-remove, get_or-remove_below, get_or-remove_above}
use Rattle.lis_graph.proofs.Members.{Among, among_from_contains, contains_from_among, among_append, among_left, among_right}
use Rattle.lis_limits.specs.declared.TheConstants.{V3_MAX_PROPS}
use Rattle.lis_taxonomy.specs.Inside.{edge_at, rank, AreInOrder, IsPlace, IsGap}

-- ---- members by their places
pub among_place : (es : List (ℕ × ℕ)) (e : ℕ × ℕ) → Among es e → (k : ℕ) × (k < length es) × (edge_at es k ≡ e)
among_place es e m = let c = contains_from_among es e m in (c.0, c.1, get_or_default es c.0 (0, 0) e c.1 ∙ c.2)

pub place_among : (es : List (ℕ × ℕ)) (e : ℕ × ℕ) (k : ℕ) → k < length es → edge_at es k ≡ e → Among es e
place_among es e k lt same = among_from_contains es e (k, lt, get_or_default es k e (0, 0) lt ∙ same)

rank_same : (a b : ℕ × ℕ) → a.1 < V3_MAX_PROPS → b.1 < V3_MAX_PROPS → rank a ≡ rank b → a ≡ b
rank_same a b a_in b_in same = let left : a.0 ≡ b.0 = omega arith in let right : a.1 ≡ b.1 = omega arith in λ i. (left i, right i)

module _ (es : List (ℕ × ℕ)) (props : ℕ) (order : AreInOrder es props) (p q place : ℕ) (right : q < props) (at : IsPlace es p q place) where
  -- an edge that is there is at its place
  pub among_here : Among es (p, q) → (place < length es) × (edge_at es place ≡ (p, q))
  among_here m = let k = among_place es (p, q) m in by k.0 k.1 k.2 (cases_lt k.0 place) (cases_eq place k.0)
    where
      by : (k : ℕ) → k < length es → edge_at es k ≡ (p, q) → (k < place) ⊎ (place ≤ k) → (place ≡ k) ⊎ (place ≡ k → ⊥) → (place < length es) × (edge_at es place ≡ (p, q))
      by k lt same (inl less) other = absurd (omega (arith, at.before k less, ap rank same))
      by k lt same (inr more) (inl here) = (omega arith, ap (edge_at es) here ∙ same)
      by k lt same (inr more) (inr apart) = absurd (omega (arith, at.after place (omega arith) (omega arith), order.rising place k (omega arith) lt, ap rank same))

  pub gap : ((place < length es) × (edge_at es place ≡ (p, q)) → ⊥) → IsGap es p q place
  gap other = record { at = at; absent = λ k lt same. other (among_here (place_among es (p, q) k lt same)) }

  module _ (absent : Among es (p, q) → ⊥) where
    above : (k : ℕ) → place ≤ k → k < length es → rank (p, q) < rank (edge_at es k)
    above k le lt = by (cases_eq (rank (p, q)) (rank (edge_at es k)))
      where
        by : (rank (p, q) ≡ rank (edge_at es k)) ⊎ (rank (p, q) ≡ rank (edge_at es k) → ⊥) → rank (p, q) < rank (edge_at es k)
        by (inl same) = absurd (absent (place_among es (p, q) k lt (rank_same (edge_at es k) (p, q) (omega (arith, order.right k lt, order.few)) (omega (arith, order.few)) (sym same))))
        by (inr apart) = omega (arith, at.after k le lt)

    module _ (left : p < props) where
      more : List (ℕ × ℕ)
      more = insert es place (p, q)

      same_below : (k : ℕ) → k < place → edge_at more k ≡ edge_at es k
      unfolding more
      same_below k less = get_or-insert_below es place (p, q) (0, 0) k less at.within

      same_here : edge_at more place ≡ (p, q)
      unfolding more
      same_here = get_or-insert_at es place (p, q) (0, 0) at.within

      same_above : (k : ℕ) → place < k → edge_at more k ≡ edge_at es (k - 1)
      unfolding more
      same_above k less = let step : k - 1 + 1 ≡ k = omega arith in subst (λ j. edge_at (insert es place (p, q)) j ≡ edge_at es (k - 1)) step (get_or-insert_above es place (p, q) (0, 0) (k - 1) (omega arith) at.within)

      long : length more ≡ length es + 1
      unfolding more
      long = length-insert es place (p, q) at.within

      -- where the k-th edge comes from
      from : (P : ℕ × ℕ → Type 0) → P (p, q) → ((k : ℕ) → k < length es → P (edge_at es k)) → (k : ℕ) → k < length more → P (edge_at more k)
      from P new old k lt = by (cases_lt k place) (cases_eq k place)
        where
          by : (k < place) ⊎ (place ≤ k) → (k ≡ place) ⊎ (k ≡ place → ⊥) → P (edge_at more k)
          by (inl less) other = subst P (sym (same_below k less)) (old k (omega (arith, at.within)))
          by (inr le) (inl here) = subst P (sym (ap (edge_at more) here ∙ same_here)) new
          by (inr le) (inr apart) = subst P (sym (same_above k (omega arith))) (old (k - 1) (omega (arith, long)))

      rising : (i j : ℕ) → i < j → j < length more → rank (edge_at more i) < rank (edge_at more j)
      rising i j less lt = by (cases_lt i place) (cases_eq i place) (cases_lt j place) (cases_eq j place)
        where
          by : (i < place) ⊎ (place ≤ i) → (i ≡ place) ⊎ (i ≡ place → ⊥) → (j < place) ⊎ (place ≤ j) → (j ≡ place) ⊎ (j ≡ place → ⊥) → rank (edge_at more i) < rank (edge_at more j)
          by (inl i_low) i_at (inl j_low) j_at = rw (same_below i i_low, same_below j j_low) (order.rising i j less (omega (arith, at.within)))
          by (inl i_low) i_at (inr j_high) (inl j_here) = rw (same_below i i_low, ap (edge_at more) j_here ∙ same_here) (at.before i i_low)
          by (inl i_low) i_at (inr j_high) (inr j_apart) = rw (same_below i i_low, same_above j (omega arith)) (order.rising i (j - 1) (omega arith) (omega (arith, long)))
          by (inr i_high) (inl i_here) (inl j_low) j_at = absurd (omega arith)
          by (inr i_high) (inl i_here) (inr j_high) j_at = rw (ap (edge_at more) i_here ∙ same_here, same_above j (omega arith)) (above (j - 1) (omega arith) (omega (arith, long)))
          by (inr i_high) (inr i_apart) (inl j_low) j_at = absurd (omega arith)
          by (inr i_high) (inr i_apart) (inr j_high) j_at = rw (same_above i (omega arith), same_above j (omega arith)) (order.rising (i - 1) (j - 1) (omega arith) (omega (arith, long)))

      pub order_more : AreInOrder (insert es place (p, q)) props
      unfolding more
      order_more = record {
        few = order.few;
        left = from (λ e. e.0 < props) left order.left;
        right = from (λ e. e.1 < props) right order.right;
        rising = rising;
      }

pub not_among : (es : List (ℕ × ℕ)) (p q place : ℕ) → IsGap es p q place → Among es (p, q) → ⊥
not_among es p q place none m = let k = among_place es (p, q) m in none.absent k.0 k.1 k.2

-- ---- one edge is taken out
module _ (es : List (ℕ × ℕ)) (props : ℕ) (order : AreInOrder es props) (place : ℕ) (there : place < length es) where
  less : List (ℕ × ℕ)
  less = remove es place

  kept_below : (k : ℕ) → k < place → edge_at less k ≡ edge_at es k
  unfolding less
  kept_below k low = get_or-remove_below es place (0, 0) k low there

  kept_above : (k : ℕ) → place ≤ k → edge_at less k ≡ edge_at es (k + 1)
  unfolding less
  kept_above k high = get_or-remove_above es place (0, 0) k high there

  short : length less + 1 ≡ length es
  unfolding less
  short = length-remove es place there

  came : (P : ℕ × ℕ → Type 0) → ((k : ℕ) → k < length es → P (edge_at es k)) → (k : ℕ) → k < length less → P (edge_at less k)
  came P old k lt = by (cases_lt k place)
    where
      by : (k < place) ⊎ (place ≤ k) → P (edge_at less k)
      by (inl low) = subst P (sym (kept_below k low)) (old k (omega arith))
      by (inr high) = subst P (sym (kept_above k high)) (old (k + 1) (omega (arith, short)))

  rise : (i j : ℕ) → i < j → j < length less → rank (edge_at less i) < rank (edge_at less j)
  rise i j first lt = by (cases_lt i place) (cases_lt j place)
    where
      by : (i < place) ⊎ (place ≤ i) → (j < place) ⊎ (place ≤ j) → rank (edge_at less i) < rank (edge_at less j)
      by (inl i_low) (inl j_low) = rw (kept_below i i_low, kept_below j j_low) (order.rising i j first (omega arith))
      by (inl i_low) (inr j_high) = rw (kept_below i i_low, kept_above j j_high) (order.rising i (j + 1) (omega arith) (omega (arith, short)))
      by (inr i_high) (inl j_low) = absurd (omega arith)
      by (inr i_high) (inr j_high) = rw (kept_above i i_high, kept_above j j_high) (order.rising (i + 1) (j + 1) (omega arith) (omega (arith, short)))

  pub order_less : AreInOrder (remove es place) props
  unfolding less
  order_less = record { few = order.few; left = came (λ e. e.0 < props) order.left; right = came (λ e. e.1 < props) order.right; rising = rise }

  -- what is taken out is there no more
  pub gone : Among (remove es place) (edge_at es place) → ⊥
  unfolding less
  gone m = let k = among_place less (edge_at es place) m in by k.0 k.1 k.2 (cases_lt k.0 place)
    where
      by : (k : ℕ) → k < length less → edge_at less k ≡ edge_at es place → (k < place) ⊎ (place ≤ k) → ⊥
      by k lt same (inl low) = omega (arith, order.rising k place low there, ap rank (sym (kept_below k low) ∙ same))
      by k lt same (inr high) = omega (arith, order.rising place (k + 1) (omega arith) (omega (arith, short)), ap rank (sym (kept_above k high) ∙ same))

-- ---- members of both lists
pub among_insert : (xs : List (ℕ × ℕ)) (i : ℕ) (y e : ℕ × ℕ) → Among (insert xs i y) e → Among (y ∷ xs) e
among_insert xs i y e m = by (among_append (take i xs) (y ∷ drop i xs) e m)
  where
    old : Among (take i xs ++ drop i xs) e → Among xs e
    old = subst (λ ys. Among ys e) (take-append-drop i xs)

    by : Among (take i xs) e ⊎ ((y ≡ e) ⊎ Among (drop i xs) e) → Among (y ∷ xs) e
    by (inl front) = inr (old (among_left (take i xs) (drop i xs) e front))
    by (inr (inl same)) = inl same
    by (inr (inr back)) = inr (old (among_right (take i xs) (drop i xs) e back))

pub insert_among : (xs : List (ℕ × ℕ)) (i : ℕ) (y e : ℕ × ℕ) → Among (y ∷ xs) e → Among (insert xs i y) e
insert_among xs i y e (inl same) = among_right (take i xs) (y ∷ drop i xs) e (inl same)
insert_among xs i y e (inr m) = by (among_append (take i xs) (drop i xs) e (subst (λ ys. Among ys e) (sym (take-append-drop i xs)) m))
  where
    by : Among (take i xs) e ⊎ Among (drop i xs) e → Among (insert xs i y) e
    by (inl front) = among_left (take i xs) (y ∷ drop i xs) e front
    by (inr back) = among_right (take i xs) (y ∷ drop i xs) e (inr back)

-- the list is the one without the edge, with the edge at its place
put_back : (xs : List (ℕ × ℕ)) (i : ℕ) → i < length xs → xs ≡ take i xs ++ edge_at xs i ∷ drop (suc i) xs
put_back xs i lt = sym (take-append-drop i xs) ∙ ap (λ ys. take i xs ++ ys) (drop-cons xs i (0, 0) lt)

pub among_remove : (xs : List (ℕ × ℕ)) (i : ℕ) → i < length xs → (e : ℕ × ℕ) → Among xs e → Among (edge_at xs i ∷ remove xs i) e
among_remove xs i lt e m = by (among_append (take i xs) (edge_at xs i ∷ drop (suc i) xs) e (subst (λ ys. Among ys e) (put_back xs i lt) m))
  where
    by : Among (take i xs) e ⊎ ((edge_at xs i ≡ e) ⊎ Among (drop (suc i) xs) e) → Among (edge_at xs i ∷ remove xs i) e
    by (inl front) = inr (among_left (take i xs) (drop (suc i) xs) e front)
    by (inr (inl same)) = inl same
    by (inr (inr back)) = inr (among_right (take i xs) (drop (suc i) xs) e back)

pub remove_among : (xs : List (ℕ × ℕ)) (i : ℕ) → i < length xs → (e : ℕ × ℕ) → Among (edge_at xs i ∷ remove xs i) e → Among xs e
remove_among xs i lt e (inl same) = place_among xs e i lt same
remove_among xs i lt e (inr m) = subst (λ ys. Among ys e) (sym (put_back xs i lt)) (by (among_append (take i xs) (drop (suc i) xs) e m))
  where
    by : Among (take i xs) e ⊎ Among (drop (suc i) xs) e → Among (take i xs ++ edge_at xs i ∷ drop (suc i) xs) e
    by (inl front) = among_left (take i xs) (edge_at xs i ∷ drop (suc i) xs) e front
    by (inr back) = among_right (take i xs) (edge_at xs i ∷ drop (suc i) xs) e (inr back)

-- ---- a test of ranks
abbrev pub is_before : ℕ → ℕ → ℕ × ℕ → Bool
is_before p q e = nat_lt e.0 p || (nat_eq e.0 p && nat_lt e.1 q)

module _ (p q : ℕ) (right : q < V3_MAX_PROPS) (e : ℕ × ℕ) (within : e.1 < V3_MAX_PROPS) where
  rank_before : is_before p q e ≡ true → rank e < rank (p, q)
  rank_before h = by (nat_lt e.0 p) (nat_eq e.0 p) (nat_lt e.1 q) refl refl refl h
    where
      by : (a b c : Bool) → nat_lt e.0 p ≡ a → nat_eq e.0 p ≡ b → nat_lt e.1 q ≡ c → (a || (b && c)) ≡ true → rank e < rank (p, q)
      by true b c ae be ce h = omega (arith, ltb-true e.0 p ae)
      by false true true ae be ce h = omega (arith, eqb-true e.0 p be, ltb-true e.1 q ce)
      by false true false ae be ce h = absurd cc
      by false false c ae be ce h = absurd cc

  rank_after : is_before p q e ≡ false → rank (p, q) ≤ rank e
  rank_after h = by (nat_lt e.0 p) (nat_eq e.0 p) (nat_lt e.1 q) refl refl refl h
    where
      by : (a b c : Bool) → nat_lt e.0 p ≡ a → nat_eq e.0 p ≡ b → nat_lt e.1 q ≡ c → (a || (b && c)) ≡ false → rank (p, q) ≤ rank e
      by true b c ae be ce h = absurd cc
      by false true true ae be ce h = absurd cc
      by false true false ae be ce h = omega (arith, eqb-true e.0 p be, ltb-false e.1 q ce)
      by false false c ae be ce h = let differ : e.0 ≡ p → ⊥ = (λ same. let k = eq-eqb e.0 p same in cc) in omega (arith, ltb-false e.0 p ae)

module _ (es : List (ℕ × ℕ)) (props : ℕ) (order : AreInOrder es props) (p q : ℕ) (right : q < V3_MAX_PROPS) where
  narrow : (k : ℕ) → k < length es → (edge_at es k).1 < V3_MAX_PROPS
  narrow k lt = omega (arith, order.right k lt, order.few)

  pub parted : IsPartitionedBy (is_before p q) es
  parted i j d le lt before = by (is_before p q (get_or es i d)) refl (cases_eq i j)
    where
      at : (k : ℕ) → k < length es → get_or es k d ≡ edge_at es k
      at k lt = get_or_default es k d (0, 0) lt

      high : rank (edge_at es j) < rank (p, q)
      high = rank_before p q right (edge_at es j) (narrow j lt) (ap (is_before p q) (sym (at j lt)) ∙ before)

      by : (t : Bool) → is_before p q (get_or es i d) ≡ t → (i ≡ j) ⊎ (i ≡ j → ⊥) → is_before p q (get_or es i d) ≡ true
      by true e other = e
      by false e (inl same) = ap (λ k. is_before p q (get_or es k d)) same ∙ before
      by false e (inr apart) = absurd (omega (arith, high, order.rising i j (omega arith) lt, rank_after p q right (edge_at es i) (narrow i (omega arith)) (ap (is_before p q) (sym (at i (omega arith))) ∙ e)))

  pub is_place : (place : ℕ) → place ≤ length es → IsPartitionPoint (λ e. is_before p q e ≡ true) (λ e. is_before p q e ≡ false) es place → IsPlace es p q place
  is_place place within point = record {
    within = within;
    before = λ k lt. rank_before p q right (edge_at es k) (narrow k (omega arith)) (point.0 k (0, 0) (omega arith) lt);
    after = λ k le lt. rank_after p q right (edge_at es k) (narrow k lt) (point.1 k (0, 0) le lt);
  }
