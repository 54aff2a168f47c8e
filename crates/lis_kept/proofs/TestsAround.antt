-- The next weaker tests with a number's test and without it.
use Rattle.lis_kept.proofs.Common.{◌≡◌, ◌⊎◌, inl, inr, refl, sym, ap, ap₂, ◌∙◌, subst, ℕ, ◌==◌, ◌&&◌, ◌||◌, not, Bool, true, false, Option, None, List, eqb-true, ne_eqb, and_parts, both_ways, false_from_ne_true, are_weaker, Dict, IsDict, cases_eq, same_tests}
use Rattle.std.proofs.lemmas.Bool.{eq-eqb, cases_Bool}
use Rattle.lis_laws.proofs.Chains.{weaker_trans, weaker_apart}
use Rattle.lis_kept.specs.Edges.{is_at}
use Rattle.lis_kept.specs.TestEdges.{declared_test, is_test_link, is_next_test, AreNeighbours}
use Rattle.lis_kept.proofs.NextTests.{none_weaker, IsNext, next_is, next_from, next_from_here, next_to_here, below_one, Ranked}

-- `d` and `bits` are with the number, `e` and `less` without it
module _ (d : Dict) (kept : IsDict d) (bits : List Bool) (e : Dict) (kept_e : IsDict e) (less : List Bool) (n : ℕ) (same : (x : ℕ) → (x ≡ n → ⊥) → declared_test d bits x ≡ declared_test e less x) (gone : declared_test e less n ≡ None)
    (stronger weaker : Option ℕ) (near : AreNeighbours d bits n stronger weaker) where
  abbrev link : ℕ → ℕ → Bool
  link = is_test_link d bits

  abbrev link_e : ℕ → ℕ → Bool
  link_e = is_test_link e less

  -- a link without the number is one with it, and back
  not_here_to : (x : ℕ) → link_e x n ≡ true → ⊥
  not_here_to x h = both_ways false refl (sym (ap (λ t. are_weaker t (declared_test e less x)) gone) ∙ h)

  not_here_from : (x : ℕ) → link_e n x ≡ true → ⊥
  not_here_from x h = both_ways (are_weaker (declared_test e less x) None) (none_weaker (declared_test e less x)) (sym (ap (are_weaker (declared_test e less x)) gone) ∙ h)

  from_differs : (x y : ℕ) → link_e x y ≡ true → x ≡ n → ⊥
  from_differs x y h is = not_here_from y (subst (λ m. link_e m y ≡ true) is h)

  to_differs : (x y : ℕ) → link_e x y ≡ true → y ≡ n → ⊥
  to_differs x y h is = not_here_to x (subst (λ m. link_e x m ≡ true) is h)

  same_link : (x y : ℕ) → (x ≡ n → ⊥) → (y ≡ n → ⊥) → link x y ≡ link_e x y
  same_link x y differ apart = ap₂ are_weaker (same y apart) (same x differ)

  with_it : (x y : ℕ) → link_e x y ≡ true → link x y ≡ true
  with_it x y h = same_link x y (from_differs x y h) (to_differs x y h) ∙ h

  without_it : (x y : ℕ) → (x ≡ n → ⊥) → (y ≡ n → ⊥) → link x y ≡ true → link_e x y ≡ true
  without_it x y differ apart h = sym (same_link x y differ apart) ∙ h

  trans : (p q r : ℕ) → link p q ≡ true → link q r ≡ true → link p r ≡ true
  trans p q r h g = weaker_trans (declared_test d bits r) (declared_test d bits q) (declared_test d bits p) g h

  itself : (p : ℕ) → link p p ≡ true → ⊥
  itself p h = weaker_apart (declared_test d bits p) h

  -- what links to the number, or is linked to by it, is another one
  differs_from : (x y : ℕ) → link x y ≡ true → x ≡ y → ⊥
  differs_from x y h is = itself y (subst (λ m. link m y ≡ true) is h)

  -- ---- the neighbours are next to the number
  above : (x : ℕ) → is_at stronger x ≡ true → IsNext d kept bits x n
  above x at = next_is d kept bits x n (next_to_here d kept bits n stronger near.above x ∙ at)

  below : (y : ℕ) → is_at weaker y ≡ true → IsNext d kept bits n y
  below y at = next_is d kept bits n y (next_from_here d kept bits n weaker near.below y ∙ at)

  at_above : (x : ℕ) → IsNext d kept bits x n → is_at stronger x ≡ true
  at_above x next = sym (next_to_here d kept bits n stronger near.above x) ∙ next_from d kept bits x n next

  at_below : (y : ℕ) → IsNext d kept bits n y → is_at weaker y ≡ true
  at_below y next = sym (next_from_here d kept bits n weaker near.below y) ∙ next_from d kept bits n y next

  -- a number next without it, with the number between, is the neighbour
  parted_above : (x y : ℕ) → IsNext e kept_e less x y → link x n ≡ true → link n y ≡ true → IsNext d kept bits x n
  parted_above x y next from to = record {
    linked = from;
    none = λ r left right.
        let differ = differs_from r n right in
        next.none r (without_it x r (differs_from x n from) differ left) (without_it r y differ (λ is. differs_from n y to (sym is)) (trans r n y right to));
  }

  parted_below : (x y : ℕ) → IsNext e kept_e less x y → link x n ≡ true → link n y ≡ true → IsNext d kept bits n y
  parted_below x y next from to = record {
    linked = to;
    none = λ r left right.
        let differ : r ≡ n → ⊥ = λ is. differs_from n r left (sym is) in
        next.none r (without_it x r (differs_from x n from) differ (trans x n r from left)) (without_it r y differ (λ is. differs_from n y to (sym is)) right);
  }

  -- ---- without the number
  next_without : (x y : ℕ) → (x ≡ n → ⊥) → (y ≡ n → ⊥) → IsNext d kept bits x y → IsNext e kept_e less x y
  next_without x y differ apart next = record {
    linked = without_it x y differ apart next.linked;
    none = λ r from to. next.none r (with_it x r from) (with_it r y to);
  }

  -- its neighbours are next to each other
  joined : (x y : ℕ) → is_at stronger x ≡ true → is_at weaker y ≡ true → IsNext e kept_e less x y
  joined x y high low =
      let up = above x high in
      let down = below y low in
      let from = differs_from x n up.linked in
      let to : y ≡ n → ⊥ = λ is. differs_from n y down.linked (sym is) in
      record {
        linked = without_it x y from to (trans x n y up.linked down.linked);
        none = λ r left right. by r (with_it x r left) (with_it r y right) (to_differs x r left) (below_one d kept bits x r n (with_it x r left) up.linked);
      }
    where
      by : (r : ℕ) → link x r ≡ true → link r y ≡ true → (r ≡ n → ⊥) → Ranked d kept bits r n → ⊥
      by r left right differ (inl is) = differ is
      by r left right differ (inr (inl to)) = (below y low).none r to right
      by r left right differ (inr (inr from)) = (above x high).none r left from

  -- a number that is next without it is so with it, unless both are neighbours
  next_with : (x y : ℕ) → IsNext e kept_e less x y → IsNext d kept bits x y ⊎ ((is_at stronger x ≡ true) × (is_at weaker y ≡ true))
  next_with x y next = by (cases_Bool (link x n)) (cases_Bool (link n y))
    where
      apart : ((link x n ≡ true) → (link n y ≡ true) → ⊥) → IsNext d kept bits x y
      apart never = record {
        linked = with_it x y next.linked;
        none = λ r from to. parted r from to (cases_eq r n);
      }
        where
          parted : (r : ℕ) → link x r ≡ true → link r y ≡ true → (r ≡ n) ⊎ (r ≡ n → ⊥) → ⊥
          parted r from to (inl is) = never (subst (λ m. link x m ≡ true) is from) (subst (λ m. link m y ≡ true) is to)
          parted r from to (inr differ) = next.none r (without_it x r (from_differs x y next.linked) differ from) (without_it r y differ (to_differs x y next.linked) to)

      by : (link x n ≡ true) ⊎ (link x n ≡ false) → (link n y ≡ true) ⊎ (link n y ≡ false) → IsNext d kept bits x y ⊎ ((is_at stronger x ≡ true) × (is_at weaker y ≡ true))
      by (inl from) (inl to) = inr (at_above x (parted_above x y next from to), at_below y (parted_below x y next from to))
      by (inl from) (inr none) = inl (apart (λ h g. both_ways (link n y) none g))
      by (inr none) to = inl (apart (λ h g. both_ways (link x n) none h))

  -- ---- as tests
  -- what the two sets of tests say of two numbers
  record Around (sx wy nx ny with_n without_n : Bool) : Type 0 where
    high : sx ≡ true → nx ≡ false
    low : wy ≡ true → ny ≡ false
    from : nx ≡ true → with_n ≡ wy
    to : ny ≡ true → with_n ≡ sx
    none_from : nx ≡ true → without_n ≡ false
    none_to : ny ≡ true → without_n ≡ false
    parted : sx ≡ true → wy ≡ true → with_n ≡ false
    meet : sx ≡ true → wy ≡ true → without_n ≡ true
    fewer : nx ≡ false → ny ≡ false → with_n ≡ true → without_n ≡ true
    more : without_n ≡ true → (with_n ≡ true) ⊎ ((sx ≡ true) × (wy ≡ true))

  around : (x y : ℕ) → Around (is_at stronger x) (is_at weaker y) (n == x) (n == y) (is_next_test d bits x y) (is_next_test e less x y)
  around x y = record {
    high = λ at. ne_eqb n x (λ is. differs_from x n (above x at).linked (sym is));
    low = λ at. ne_eqb n y (λ is. differs_from n y (below y at).linked is);
    from = λ is. subst (λ m. is_next_test d bits m y ≡ is_at weaker y) (eqb-true n x is) (next_from_here d kept bits n weaker near.below y);
    to = λ is. subst (λ m. is_next_test d bits x m ≡ is_at stronger x) (eqb-true n y is) (next_to_here d kept bits n stronger near.above x);
    none_from = λ is. false_from_ne_true (is_next_test e less x y) (λ h. from_differs x y (next_is e kept_e less x y h).linked (sym (eqb-true n x is)));
    none_to = λ is. false_from_ne_true (is_next_test e less x y) (λ h. to_differs x y (next_is e kept_e less x y h).linked (sym (eqb-true n y is)));
    parted = λ high low. false_from_ne_true (is_next_test d bits x y) (λ h. (next_is d kept bits x y h).none n (above x high).linked (below y low).linked);
    meet = λ high low. next_from e kept_e less x y (joined x y high low);
    fewer = λ differ apart h.
        next_from e kept_e less x y (next_without x y (λ is. both_ways (n == x) differ (eq-eqb n x (sym is))) (λ is. both_ways (n == y) apart (eq-eqb n y (sym is))) (next_is d kept bits x y h));
    more = λ h. more_by (next_with x y (next_is e kept_e less x y h));
  }
    where
      more_by : IsNext d kept bits x y ⊎ ((is_at stronger x ≡ true) × (is_at weaker y ≡ true)) → (is_next_test d bits x y ≡ true) ⊎ ((is_at stronger x ≡ true) × (is_at weaker y ≡ true))
      more_by (inl next) = inl (next_from d kept bits x y next)
      more_by (inr both) = inr both

  -- away from the number, if not both are neighbours
  away : (sx wy f g : Bool) → Around sx wy false false f g → ((sx ≡ true) × (wy ≡ true) → ⊥) → f ≡ g
  away sx wy f g a none = same_tests f g (λ h. a.fewer refl refl h) (λ h. by (a.more h))
    where
      by : (f ≡ true) ⊎ ((sx ≡ true) × (wy ≡ true)) → f ≡ true
      by (inl is) = is
      by (inr both) = absurd (none both)

  insert_by : (sx wy nx ny f g : Bool) → Around sx wy nx ny f g → f ≡ ((sx && ny) || ((nx && wy) || (not (sx && wy) && g)))
  insert_by true wy true ny f g a = absurd (both_ways true (a.high refl) refl)
  insert_by false true true ny f g a = a.from refl
  insert_by false false true ny f g a = a.from refl ∙ sym (a.none_from refl)
  insert_by sx true false true f g a = absurd (both_ways true (a.low refl) refl)
  insert_by true false false true f g a = a.to refl
  insert_by false false false true f g a = a.to refl ∙ sym (a.none_to refl)
  insert_by true true false false f g a = a.parted refl refl
  insert_by true false false false f g a = away true false f g a (λ both. both_ways false refl both.1)
  insert_by false wy false false f g a = away false wy f g a (λ both. both_ways false refl both.0)

  remove_by : (sx wy nx ny f g : Bool) → Around sx wy nx ny f g → g ≡ ((sx && wy) || (not (sx && ny) && (not (nx && wy) && f)))
  remove_by true wy true ny f g a = absurd (both_ways true (a.high refl) refl)
  remove_by false true true ny f g a = a.none_from refl
  remove_by false false true ny f g a = a.none_from refl ∙ sym (a.from refl)
  remove_by sx true false true f g a = absurd (both_ways true (a.low refl) refl)
  remove_by true false false true f g a = a.none_to refl
  remove_by false false false true f g a = a.none_to refl ∙ sym (a.to refl)
  remove_by true true false false f g a = a.meet refl refl
  remove_by true false false false f g a = sym (away true false f g a (λ both. both_ways false refl both.1))
  remove_by false wy false false f g a = sym (away false wy f g a (λ both. both_ways false refl both.0))

  -- its neighbours are next to each other without it
  pub met : (x y : ℕ) → (is_at stronger x && is_at weaker y) ≡ true → is_next_test e less x y ≡ true
  met x y h = let both = and_parts (is_at stronger x) (is_at weaker y) h in (around x y).meet both.0 both.1

  -- the next weaker tests with the number, by those without it
  pub inserted : (x y : ℕ) → is_next_test d bits x y
      ≡ ((is_at stronger x && (n == y)) || (((n == x) && is_at weaker y) || (not (is_at stronger x && is_at weaker y) && is_next_test e less x y)))
  inserted x y = insert_by (is_at stronger x) (is_at weaker y) (n == x) (n == y) (is_next_test d bits x y) (is_next_test e less x y) (around x y)

  -- and those without it, by those with it
  pub removed : (x y : ℕ) → is_next_test e less x y
      ≡ ((is_at stronger x && is_at weaker y) || (not (is_at stronger x && (n == y)) && (not ((n == x) && is_at weaker y) && is_next_test d bits x y)))
  removed x y = remove_by (is_at stronger x) (is_at weaker y) (n == x) (n == y) (is_next_test d bits x y) (is_next_test e less x y) (around x y)
