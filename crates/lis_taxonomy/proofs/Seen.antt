-- The value of the edges in contracts, and how one edge more or less changes it.
use Rattle.std.proofs.Common.{◌≡◌, ◌⊎◌, ◌↔◌, Result, Ok, Err, IfOk, IfErr, is_ok, ℕ, ◌+◌, ◌-◌, ◌*◌, ◌<◌, ◌≤◌, Bool, true, false, cond, not, ◌&&◌, ◌||◌, nat_eq, eqb-true, eq-eqb, List, [], ◌∷◌, length, get_or, take, drop, set, replicate, Decides, refl, sym, ap, subst, ◌∙◌, inl, inr, arith, length-set, get_or-set_same, get_or-set_other}
use Rattle.std.proofs.lemmas.Bool.{cases_eq, cases_lt}
use Rattle.std.proofs.lemmas.List.{get_or-drop, get_or-take, length-drop, length-replicate, length-take-le}
use Rattle.std.specs.Bool.{one_answer}
use Rattle.std.specs.List.{list_any, insert, remove}
use Rattle.std.specs.Ordering.{nat_cmp, eq_by_cmp}
use Rattle.std.specs.Cmp.{IsTotalOrder, nat_cmp_total, Equal-is, tied_itself}
use Rattle.std.specs.FinSet as set
use Rattle.std.proofs.lemmas.Map.Lookups.{CmpEqualImpliesEq, exact_unsigned}
use Rattle.std.proofs.lemmas.List.Edits.{length-insert, length-remove}
use Rattle.lis_graph.specs.Graph.{Acyclic}
use Rattle.lis_graph.specs.Graph as chains
use Rattle.lis_graph.proofs.Members.{Among, among_from_any, any_from_among, contains_from_among}
use Rattle.lis_graph.proofs.Pairs.{pairs_total, pairs_exact}
use Rattle.lis_graph.proofs.Graph as graph
use Rattle.lis_taxonomy.specs.Taxonomy.{pair_cmp, no_links, has_edge, leads_to, Entails, IsAcyclic, with_edge, without_edge}
use Rattle.lis_limits.specs.declared.TheConstants.{V3_MAX_PROPS}
use Rattle.lis_taxonomy.specs.Search.{is_found}
use Rattle.lis_taxonomy.specs.Inside.{edge_at, rank, AreInOrder, AreEntered, IsPlace, IsGap, seen, IsSoundTaxonomy, IsSearched}
use Rattle.lis_taxonomy.proofs.Laws.{nat_decides, no_links_ordered}
use Rattle.lis_taxonomy.proofs.Searches.{has_at, only_start}
use Rattle.lis_taxonomy.proofs.Places.{among_place, place_among, not_among, order_more, order_less, gone, among_insert, insert_among, among_remove, remove_among}

-- ---- sets of pairs
pair_total : IsTotalOrder pair_cmp
pair_total = pairs_total nat_cmp nat_cmp nat_cmp_total nat_cmp_total exact_unsigned exact_unsigned

pair_exact : CmpEqualImpliesEq pair_cmp
pair_exact = pairs_exact nat_cmp nat_cmp nat_cmp_total nat_cmp_total exact_unsigned exact_unsigned

pub pair_decides : (a b : ℕ × ℕ) → Decides (eq_by_cmp pair_cmp a b) (a ≡ b)
pair_decides a b = (
  λ h. pair_exact a b ((Equal-is (pair_cmp a b)).0 h),
  λ same. (Equal-is (pair_cmp a b)).1 (ap (λ k. pair_cmp a k) (sym same) ∙ tied_itself pair_total a),
)

listed : (es : List (ℕ × ℕ)) (e : ℕ × ℕ) → Decides (list_any (eq_by_cmp pair_cmp e) es) (Among es e)
listed es e = (
  λ h. let found = among_from_any (eq_by_cmp pair_cmp e) es h in subst (λ (k : ℕ × ℕ). Among es k) (sym ((pair_decides e found.0).0 found.2)) found.1,
  λ m. any_from_among (eq_by_cmp pair_cmp e) es e m ((pair_decides e e).1 refl),
)

pub contains_decides : (es : List (ℕ × ℕ)) (e : ℕ × ℕ) → Decides (set.contains (set.from_list {R = pair_cmp} es) e) (Among es e)
contains_decides es e =
    let test = set.contains-from_list pair_total es e in
    (λ h. (listed es e).0 (sym test ∙ h), λ m. test ∙ (listed es e).1 m)

items_decide : (s : set.FinSet pair_cmp) (e : ℕ × ℕ) → Decides (set.contains s e) (Among (set.items s) e)
items_decide s e =
    let test = set.contains-items s e in
    (λ h. (listed (set.items s) e).0 (sym test ∙ h), λ m. test ∙ (listed (set.items s) e).1 m)

-- the items of the set of a list are the list's
from_items : (es : List (ℕ × ℕ)) (e : ℕ × ℕ) → Among (set.items (set.from_list {R = pair_cmp} es)) e → Among es e
from_items es e m = (contains_decides es e).0 ((items_decide (set.from_list {R = pair_cmp} es) e).1 m)

to_items : (es : List (ℕ × ℕ)) (e : ℕ × ℕ) → Among es e → Among (set.items (set.from_list {R = pair_cmp} es)) e
to_items es e m = (items_decide (set.from_list {R = pair_cmp} es) e).0 ((contains_decides es e).1 m)

-- ---- the value in contracts
module _ (es : List (ℕ × ℕ)) (props : ℕ) where
  pub entails_seen : (p q : ℕ) → chains.Entails no_links es p q → Entails (seen es props) p q
  entails_seen p q e = graph.entails_within no_links es (set.items (seen es props).edges) (to_items es) p q e

  pub seen_entails : (p q : ℕ) → Entails (seen es props) p q → chains.Entails no_links es p q
  seen_entails p q e = graph.entails_within no_links (set.items (seen es props).edges) es (from_items es) p q e

  pub acyclic_seen : Acyclic no_links es → IsAcyclic (seen es props)
  acyclic_seen acyclic = graph.acyclic_within no_links (set.items (seen es props).edges) es (from_items es) acyclic

  pub edge_there : (p q place : ℕ) → (place < length es) × (edge_at es place ≡ (p, q)) → has_edge (seen es props) p q ≡ true
  edge_there p q place here = (contains_decides es (p, q)).1 (place_among es (p, q) place here.0 here.1)

  pub edge_absent : (p q place : ℕ) → IsGap es p q place → has_edge (seen es props) p q ≡ false
  edge_absent p q place none = by (has_edge (seen es props) p q) refl
    where
      by : (t : Bool) → has_edge (seen es props) p q ≡ t → t ≡ false
      by true e = absurd (not_among es p q place none ((contains_decides es (p, q)).0 e))
      by false e = refl

  pub edges_in_range : AreInOrder es props → (p q : ℕ) → has_edge (seen es props) p q ≡ true → (p < props) × (q < props)
  edges_in_range order p q h =
      let k = among_place es (p, q) ((contains_decides es (p, q)).0 h) in
      (subst (λ (e : ℕ × ℕ). e.0 < props) k.2 (order.left k.0 k.1), subst (λ (e : ℕ × ℕ). e.1 < props) k.2 (order.right k.0 k.1))

  -- whether the edge was found
  pub has_edge_found : (p q : ℕ) (r : Result ℕ ℕ) → IfOk r (λ k. (k < length es) × (edge_at es k ≡ (p, q))) → IfErr r (λ k. IsGap es p q k) → is_ok r ≡ has_edge (seen es props) p q
  has_edge_found p q (Ok k) here none = sym (edge_there p q k here)
  has_edge_found p q (Err k) here none = sym (edge_absent p q k none)

  -- just what the search found is entailed
  pub just_entailed : (found : List ℕ) (p : ℕ) → IsSearched es (p ∷ []) found → (q : ℕ) → (is_found found q ≡ true) ↔ Entails (seen es props) p q
  just_entailed found p searched q = (
    λ h. let e = (searched q).0 h in subst (λ x. Entails (seen es props) x q) (sym (only_start p e.0 e.1)) (entails_seen e.0 q e.2),
    λ e. (searched q).1 (p, has_at (p ∷ []) 0 (omega arith), seen_entails p q e),
  )

  -- an edge has no way back
  pub no_way_back : Acyclic no_links es → (p q : ℕ) → has_edge (seen es props) p q ≡ true → Entails (seen es props) q p → ⊥
  no_way_back acyclic p q there back = let chain = seen_entails q p back in acyclic chain.0 p (q, inr (contains_from_among es (p, q) ((contains_decides es (p, q)).0 there)), chain.1)

-- ---- the edges of a number are those between two places
module _ (es : List (ℕ × ℕ)) (props : ℕ) (order : AreInOrder es props) (p start end : ℕ) (first : IsPlace es p 0 start) (last : IsPlace es (p + 1) 0 end) where
  pub in_turn : start ≤ end
  in_turn = by (cases_lt end start)
    where
      by : (end < start) ⊎ (start ≤ end) → start ≤ end
      by (inl less) = absurd (omega (arith, first.within, first.before end less, last.after end (omega arith) (omega (arith, first.within))))
      by (inr le) = le

  part : List (ℕ × ℕ)
  part = take (end - start) (drop start es)

  part_at : (k : ℕ) → k < end - start → edge_at part k ≡ edge_at es (start + k)
  unfolding part
  part_at k lt = get_or-take (end - start) (drop start es) k (0, 0) lt ∙ get_or-drop start es k (0, 0)

  part_long : length part ≡ end - start
  unfolding part
  part_long = length-take-le (end - start) (drop start es) (omega (arith, length-drop start es, last.within))

  pub edges_between : (q : ℕ) → has_edge (seen es props) p q ≡ leads_to (take (end - start) (drop start es)) q
  unfolding part
  edges_between q = one_answer (has_edge (seen es props) p q) (leads_to part q) (contains_decides es (p, q)) (there, back)
    where
      there : leads_to part q ≡ true → Among es (p, q)
      there h =
          let found = among_from_any (λ (e : ℕ × ℕ). nat_eq e.1 q) part h in
          let k = among_place part found.0 found.1 in
          let within : k.0 < end - start = omega (arith, k.1, part_long) in
          let i = start + k.0 in
          let below : i < length es = omega (arith, within, last.within) in
          let is : edge_at es i ≡ found.0 = sym (part_at k.0 within) ∙ k.2 in
          let left : (edge_at es i).0 ≡ p = omega (arith, first.after i (omega arith) below, last.before i (omega (arith, within)), order.right i below, order.few) in
          let right : (edge_at es i).1 ≡ q = ap (λ (e : ℕ × ℕ). e.1) is ∙ eqb-true (found.0).1 q found.2 in
          place_among es (p, q) i below (λ j. (left j, right j))

      back : Among es (p, q) → leads_to part q ≡ true
      back m =
          let k = among_place es (p, q) m in
          let few : q < V3_MAX_PROPS = subst (λ (e : ℕ × ℕ). e.1 < V3_MAX_PROPS) k.2 (omega (arith, order.right k.0 k.1, order.few)) in
          let rank_is = ap rank k.2 in
          let low : start ≤ k.0 = by (cases_lt k.0 start) (λ less. omega (arith, first.before k.0 less, rank_is)) in
          let high : k.0 < end = beyond (cases_lt k.0 end) (λ le. omega (arith, last.after k.0 le k.1, rank_is, few)) in
          let here : edge_at part (k.0 - start) ≡ (p, q) = part_at (k.0 - start) (omega (arith, low, high)) ∙ (ap (edge_at es) (omega (arith, low)) ∙ k.2) in
          any_from_among (λ (e : ℕ × ℕ). nat_eq e.1 q) part (p, q) (place_among part (p, q) (k.0 - start) (omega (arith, part_long, low, high)) here) (eq-eqb q q refl)
        where
          by : {a b : ℕ} → (a < b) ⊎ (b ≤ a) → (a < b → ⊥) → b ≤ a
          by (inl less) none = absurd (none less)
          by (inr le) none = le

          beyond : {a b : ℕ} → (a < b) ⊎ (b ≤ a) → (b ≤ a → ⊥) → a < b
          beyond (inl less) none = less
          beyond (inr le) none = absurd (none le)

-- ---- one edge more
module _ (small big : List (ℕ × ℕ)) (props p q : ℕ)
    (big_among : (e : ℕ × ℕ) → Among big e → Among ((p, q) ∷ small) e) (among_big : (e : ℕ × ℕ) → Among ((p, q) ∷ small) e → Among big e) where
  set_more : set.from_list {R = pair_cmp} big ≡ set.insert (set.from_list small) (p, q)
  set_more = set.same_set pair_total pair_exact (set.from_list big) (set.insert (set.from_list small) (p, q))
      (λ e. one_answer (set.contains (set.from_list big) e) (set.contains (set.insert (set.from_list small) (p, q)) e) (contains_decides big e) (inserted e))
    where
      or_true : (x y : Bool) → (x || y) ≡ true → (x ≡ true) ⊎ (y ≡ true)
      or_true true y h = inl refl
      or_true false y h = inr h

      true_or : (x y : Bool) → (x ≡ true) ⊎ (y ≡ true) → (x || y) ≡ true
      true_or true y h = refl
      true_or false y (inl h) = absurd cc
      true_or false y (inr h) = h

      inserted : (e : ℕ × ℕ) → Decides (set.contains (set.insert (set.from_list {R = pair_cmp} small) (p, q)) e) (Among big e)
      inserted e = (
        λ h. among_big e (to (or_true (eq_by_cmp pair_cmp e (p, q)) (set.contains (set.from_list {R = pair_cmp} small) e) (sym test ∙ h))),
        λ m. test ∙ true_or (eq_by_cmp pair_cmp e (p, q)) (set.contains (set.from_list {R = pair_cmp} small) e) (from (big_among e m)),
      )
        where
          test : set.contains (set.insert (set.from_list {R = pair_cmp} small) (p, q)) e ≡ (eq_by_cmp pair_cmp e (p, q) || set.contains (set.from_list {R = pair_cmp} small) e)
          test = set.contains-insert pair_total (set.from_list {R = pair_cmp} small) (p, q) e

          to : (eq_by_cmp pair_cmp e (p, q) ≡ true) ⊎ (set.contains (set.from_list {R = pair_cmp} small) e ≡ true) → Among ((p, q) ∷ small) e
          to (inl same) = inl (sym ((pair_decides e (p, q)).0 same))
          to (inr old) = inr ((contains_decides small e).0 old)

          from : Among ((p, q) ∷ small) e → (eq_by_cmp pair_cmp e (p, q) ≡ true) ⊎ (set.contains (set.from_list {R = pair_cmp} small) e ≡ true)
          from (inl same) = inl ((pair_decides e (p, q)).1 (sym same))
          from (inr m) = inr ((contains_decides small e).1 m)

  pub seen_more : seen big props ≡ with_edge (seen small props) p q
  seen_more = ap (λ edges. record { props = props; edges = edges }) set_more

  pub acyclic_more : Acyclic no_links small → (chains.Entails no_links small q p → ⊥) → Acyclic no_links big
  acyclic_more acyclic open_end = graph.acyclic_within no_links big ((p, q) ∷ small) big_among
      (graph.acyclic_cons nat_eq nat_cmp no_links nat_decides exact_unsigned no_links_ordered (p, q) small acyclic open_end)

  pub acyclic_fewer : Acyclic no_links big → Acyclic no_links small
  acyclic_fewer acyclic = graph.acyclic_within no_links small big (λ e m. among_big e (inr m)) acyclic

  module _ (new : Among small (p, q) → ⊥) where
    absent : set.contains (set.from_list {R = pair_cmp} small) (p, q) ≡ false
    absent = by (set.contains (set.from_list {R = pair_cmp} small) (p, q)) refl
      where
        by : (t : Bool) → set.contains (set.from_list {R = pair_cmp} small) (p, q) ≡ t → t ≡ false
        by true e = absurd (new ((contains_decides small (p, q)).0 e))
        by false e = refl

    -- sets of one more, and of one fewer
    count_more : set.len (set.from_list {R = pair_cmp} big) ≡ set.len (set.from_list {R = pair_cmp} small) + 1
    count_more = ap (λ (s : set.FinSet pair_cmp). set.len s) set_more ∙ (set.len-insert pair_total (set.from_list small) (p, q) ∙ ap (λ t. cond t (set.len (set.from_list {R = pair_cmp} small)) (set.len (set.from_list {R = pair_cmp} small) + 1)) absent)

    set_less : set.from_list {R = pair_cmp} small ≡ set.remove (set.from_list big) (p, q)
    set_less = set.same_set pair_total pair_exact (set.from_list small) (set.remove (set.from_list big) (p, q))
        (λ e. one_answer (set.contains (set.from_list small) e) (set.contains (set.remove (set.from_list big) (p, q)) e) (contains_decides small e) (removed e))
      where
        not_and : (x y : Bool) → (not x && y) ≡ true → (x ≡ false) × (y ≡ true)
        not_and true y h = absurd cc
        not_and false y h = (refl, h)

        removed : (e : ℕ × ℕ) → Decides (set.contains (set.remove (set.from_list {R = pair_cmp} big) (p, q)) e) (Among small e)
        removed e = (
          λ h. let parts = not_and (eq_by_cmp pair_cmp e (p, q)) (set.contains (set.from_list {R = pair_cmp} big) e) (sym test ∙ h) in
              to parts.0 (big_among e ((contains_decides big e).0 parts.1)),
          λ m. test ∙ ap (λ t. not t && set.contains (set.from_list {R = pair_cmp} big) e) (other m (eq_by_cmp pair_cmp e (p, q)) refl)
              ∙ (contains_decides big e).1 (among_big e (inr m)),
        )
          where
            test : set.contains (set.remove (set.from_list {R = pair_cmp} big) (p, q)) e ≡ (not (eq_by_cmp pair_cmp e (p, q)) && set.contains (set.from_list {R = pair_cmp} big) e)
            test = set.contains-remove pair_total (set.from_list {R = pair_cmp} big) (p, q) e

            to : eq_by_cmp pair_cmp e (p, q) ≡ false → Among ((p, q) ∷ small) e → Among small e
            to differs (inl same) = absurd (let k = (pair_decides e (p, q)).1 (sym same) in cc)
            to differs (inr m) = m

            other : Among small e → (t : Bool) → eq_by_cmp pair_cmp e (p, q) ≡ t → t ≡ false
            other m true same = absurd (new (subst (λ (k : ℕ × ℕ). Among small k) ((pair_decides e (p, q)).0 same) m))
            other m false same = refl

    pub seen_less : seen small props ≡ without_edge (seen big props) p q
    seen_less = ap (λ edges. record { props = props; edges = edges }) set_less

-- ---- what the fields keep
pub sound_new : (props capacity n : ℕ) → n ≡ V3_MAX_PROPS → props ≤ V3_MAX_PROPS → capacity ≡ 3 * props → IsSoundTaxonomy [] (replicate n false) props capacity
sound_new props capacity n all few exact = record {
  order = record { few = few; left = λ k lt. absurd (omega arith); right = λ k lt. absurd (omega arith); rising = λ i j less lt. absurd (omega arith) };
  marked = record { size = length-replicate n false ∙ all; each = λ k lt. absurd (omega arith) };
  acyclic = graph.acyclic_from nat_eq nat_cmp no_links nat_decides exact_unsigned no_links_ordered [] refl;
  count = set.len-empty pair_cmp;
  memory = omega arith;
}

module _ (es : List (ℕ × ℕ)) (entered : List Bool) (props capacity : ℕ) (sound : IsSoundTaxonomy es entered props capacity) (p q place : ℕ) where
  module _ (left : p < props) (right : q < props) (none : IsGap es p q place) (open_end : chains.Entails no_links es q p → ⊥) (big : List (ℕ × ℕ)) (same : big ≡ insert es place (p, q)) where
    new : Among es (p, q) → ⊥
    new = not_among es p q place none

    -- the number to which the new edge leads is marked too
    entered_more : AreEntered (insert es place (p, q)) (set entered q true)
    entered_more = record { size = length-set entered q true ∙ sound.marked.size; each = λ k lt. each k lt }
      where
        each : (k : ℕ) → k < length (insert es place (p, q)) → get_or (set entered q true) (edge_at (insert es place (p, q)) k).1 false ≡ true
        each k lt = by (among_insert es place (p, q) (edge_at (insert es place (p, q)) k) (place_among (insert es place (p, q)) (edge_at (insert es place (p, q)) k) k lt refl))
          where
            old : (r : ℕ) → get_or entered r false ≡ true → (r ≡ q) ⊎ (r ≡ q → ⊥) → get_or (set entered q true) r false ≡ true
            old r mark (inl is) = subst (λ x. get_or (set entered q true) x false ≡ true) (sym is) (get_or-set_same entered q true false (omega (arith, right, sound.order.few, sound.marked.size)))
            old r mark (inr apart) = get_or-set_other entered q r true false apart ∙ mark

            by : Among ((p, q) ∷ es) (edge_at (insert es place (p, q)) k) → get_or (set entered q true) (edge_at (insert es place (p, q)) k).1 false ≡ true
            by (inl is) = subst (λ (e : ℕ × ℕ). get_or (set entered q true) e.1 false ≡ true) is (get_or-set_same entered q true false (omega (arith, right, sound.order.few, sound.marked.size)))
            by (inr there) =
                let j = among_place es (edge_at (insert es place (p, q)) k) there in
                subst (λ (e : ℕ × ℕ). get_or (set entered q true) e.1 false ≡ true) j.2 (old (edge_at es j.0).1 (sound.marked.each j.0 j.1) (cases_eq (edge_at es j.0).1 q))

    pub sound_added : (marks : List Bool) → marks ≡ set entered q true → (wider : ℕ) → capacity ≤ wider → IsSoundTaxonomy big marks props wider
    sound_added marks put wider wide = subst (λ (ms : List Bool). IsSoundTaxonomy big ms props wider) (sym put) (subst (λ bs. IsSoundTaxonomy bs (set entered q true) props wider) (sym same) (record {
      order = order_more es props sound.order p q place right none.at new left;
      marked = entered_more;
      acyclic = acyclic_more es (insert es place (p, q)) props p q (among_insert es place (p, q)) (insert_among es place (p, q)) sound.acyclic open_end;
      count = count_more es (insert es place (p, q)) props p q (among_insert es place (p, q)) (insert_among es place (p, q)) new ∙ (ap (λ n. n + 1) sound.count ∙ sym (length-insert es place (p, q) none.at.within));
      memory = omega (arith, sound.memory);
    }))

    pub seen_added : seen big props ≡ with_edge (seen es props) p q
    seen_added = ap (λ bs. seen bs props) same ∙ seen_more es (insert es place (p, q)) props p q (among_insert es place (p, q)) (insert_among es place (p, q))

  module _ (there : place < length es) (same : edge_at es place ≡ (p, q)) (small : List (ℕ × ℕ)) (is : small ≡ remove es place) where
    to : (e : ℕ × ℕ) → Among es e → Among ((p, q) ∷ remove es place) e
    to e m = subst (λ (k : ℕ × ℕ). Among (k ∷ remove es place) e) same (among_remove es place there e m)

    from : (e : ℕ × ℕ) → Among ((p, q) ∷ remove es place) e → Among es e
    from e m = remove_among es place there e (subst (λ (k : ℕ × ℕ). Among (k ∷ remove es place) e) (sym same) m)

    out : Among (remove es place) (p, q) → ⊥
    out m = gone es props sound.order place there (subst (λ (k : ℕ × ℕ). Among (remove es place) k) (sym same) m)

    pub seen_removed : seen small props ≡ without_edge (seen es props) p q
    seen_removed = ap (λ bs. seen bs props) is ∙ seen_less (remove es place) es props p q to from out

    entered_less : AreEntered (remove es place) entered
    entered_less = record {
      size = sound.marked.size;
      each = λ k lt.
          let m = place_among (remove es place) (edge_at (remove es place) k) k lt refl in
          let j = among_place es (edge_at (remove es place) k) (from (edge_at (remove es place) k) (inr m)) in
          subst (λ (e : ℕ × ℕ). get_or entered e.1 false ≡ true) j.2 (sound.marked.each j.0 j.1);
    }

    pub sound_removed : (wider : ℕ) → capacity ≤ wider → IsSoundTaxonomy small entered props wider
    sound_removed wider wide = subst (λ bs. IsSoundTaxonomy bs entered props wider) (sym is) (record {
      order = order_less es props sound.order place there;
      marked = entered_less;
      acyclic = acyclic_fewer (remove es place) es props p q to from sound.acyclic;
      count = let more = count_more (remove es place) es props p q to from out in omega (arith, more, sound.count, length-remove es place there);
      memory = omega (arith, sound.memory);
    })
