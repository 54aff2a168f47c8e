-- The edges are few: each word has at most one own edge, to its head or to the next weaker test, and each axiom has one.
use Rattle.std.proofs.Common.{arith, filter, length-append}
use Rattle.lis_kept.proofs.Common.{rules, ◌≡◌, ◌⊎◌, inl, inr, refl, sym, ap, ◌∙◌, subst, ℕ, zero, suc, ◌+◌, ◌-◌, ◌*◌, ◌<◌, ◌≤◌, ◌==◌, ◌&&◌, ◌||◌, not, cond, Bool, true, false, Option, Some, None, is_some, List, [], ◌∷◌, ◌++◌, length, map, count_by, Among, among_filter, filter_among, map_among, among_right, or_cases, and_parts, and_from, both_ways, not-true, false_from_ne_true, same_Some, length-map, Dict, IsDict, word_of, number_of, number_from_word, AxiomSlot, FreeAxiom, Pair, Taxonomy, has_edge, without_edge, same_word, same_word_decides, is_valued, head_bytes, is_test, slice_get, sum_by-cons}
use Rattle.std.proofs.lemmas.Bool.{cases_Bool, eq-eqb}
use Rattle.std.proofs.lemmas.List.Sums.{length-filter}
use Rattle.std.specs.FinSet as set
use Rattle.std.specs.List.{range_with_len}
use Rattle.lis_dict.proofs.Laws.{among_from_number, number_below}
use Rattle.lis_graph.proofs.Members.{among_left}
use Rattle.lis_graph.proofs.Ranges.{range_among}
use Rattle.lis_taxonomy.specs.Taxonomy.{pair_cmp, edge_count, edge_room}
use Rattle.lis_words.proofs.Tests.{valued_not_test}
use Rattle.lis_kept.specs.Metadata.{Metadata}
use Rattle.lis_kept.specs.Sound.{AreSound}
use Rattle.lis_kept.specs.Telling.{is_head_by}
use Rattle.lis_kept.specs.Linking.{is_filled}
use Rattle.lis_kept.specs.Links.{has_pair, HasEdges}
use Rattle.lis_kept.specs.TestEdges.{declared_test, is_next_test}
use Rattle.lis_kept.proofs.HeadEdges.{pair_order as edge_order, same_pairs, has_edge-without_edge}
use Rattle.lis_kept.proofs.OwnLinks.{pair_slot, among_slot}
use Rattle.lis_kept.proofs.NextTests.{IsNext, next_is, next_parts, below_one, Ranked, linked_below, has_test}
use Rattle.lis_laws.proofs.Chains.{tests_by}
use Rattle.lis_kept.proofs.InArea.{some_properties}
use Rattle.lis_kept.proofs.Used.{headed}

-- ---- if all edges are in a list, there are no more of them than the list has
-- what is in the list without its first one
others_listed : (e : ℕ × ℕ) (edges : List (ℕ × ℕ)) (t : Taxonomy) → ((p q : ℕ) → has_edge t p q ≡ true → Among (e ∷ edges) (p, q)) → (p q : ℕ) → has_edge (without_edge t e.0 e.1) p q ≡ true → Among edges (p, q)
others_listed e edges t all p q h = by both.0 (all p q both.1)
  where
    both : (not ((p == e.0) && (q == e.1)) ≡ true) × (has_edge t p q ≡ true)
    both = and_parts (not ((p == e.0) && (q == e.1))) (has_edge t p q) (sym (has_edge-without_edge t e.0 e.1 p q) ∙ h)

    by : not ((p == e.0) && (q == e.1)) ≡ true → Among (e ∷ edges) (p, q) → Among edges (p, q)
    by differ (inl same) =
        let one : ((p == e.0) && (q == e.1)) ≡ true = and_from (p == e.0) (q == e.1) (eq-eqb p e.0 (sym (ap (λ (x : ℕ × ℕ). x.0) same))) (eq-eqb q e.1 (sym (ap (λ (x : ℕ × ℕ). x.1) same))) in
        absurd (both_ways ((p == e.0) && (q == e.1)) (not-true ((p == e.0) && (q == e.1)) differ) one)
    by differ (inr more) = more

one_fewer : (e : ℕ × ℕ) (t : Taxonomy) (most : ℕ) → edge_count (without_edge t e.0 e.1) ≤ most → (set.contains t.edges e ≡ true) ⊎ (set.contains t.edges e ≡ false) → edge_count t ≤ suc most
one_fewer e t most fewer (inl there) = omega (arith, fewer, set.len-remove edge_order t.edges e ∙ ap (λ b. cond b (set.len t.edges - 1) (set.len t.edges)) there)
one_fewer e t most fewer (inr none) = omega (arith, fewer, set.len-remove edge_order t.edges e ∙ ap (λ b. cond b (set.len t.edges - 1) (set.len t.edges)) none)

no_edges : (t : Taxonomy) → ((p q : ℕ) → has_edge t p q ≡ false) → edge_count t ≡ 0
no_edges t none = ap set.len (set.same_set edge_order same_pairs t.edges set.empty (λ e. none e.0 e.1 ∙ sym (set.contains-empty pair_cmp e))) ∙ set.len-empty pair_cmp

listed : (edges : List (ℕ × ℕ)) (t : Taxonomy) → ((p q : ℕ) → has_edge t p q ≡ true → Among edges (p, q)) → edge_count t ≤ length edges
listed [] t all = omega (arith, no_edges t (λ p q. false_from_ne_true (has_edge t p q) (λ h. all p q h)))
listed (e ∷ edges) t all = one_fewer e t (length edges) (listed edges (without_edge t e.0 e.1) (others_listed e edges t all)) (cases_Bool (set.contains t.edges e))

-- ---- the own edge of a number
abbrev first_or_none : List ℕ → ℕ
first_or_none [] = 0
first_or_none (n ∷ ns) = n

first_of : (test : ℕ → Bool) (ns : List ℕ) → ((x y : ℕ) → test x ≡ true → test y ≡ true → x ≡ y) → (q : ℕ) → Among ns q → test q ≡ true → first_or_none (filter test ns) ≡ q
first_of test ns one q m passes = by (filter test ns) refl (filter_among test ns q m passes)
  where
    by : (xs : List ℕ) → filter test ns ≡ xs → Among xs q → first_or_none xs ≡ q
    by [] e none = absurd none
    by (x ∷ xs) e m = one x q (among_filter test ns x (subst (λ ys. Among ys x) (sym e) (inl refl))).1 passes

module _ (d : Dict) (kept : IsDict d) (bits : List Bool) where
  abbrev own : ℕ → ℕ → Bool
  own p q = is_head_by (word_of d p) (word_of d q) || is_next_test d bits p q

  -- the head of a word has one number
  one_head : (p x y : ℕ) → is_head_by (word_of d p) (word_of d x) ≡ true → is_head_by (word_of d p) (word_of d y) ≡ true → x ≡ y
  one_head p x y h g = by (word_of d p) (word_of d x) (word_of d y) refl refl h g
    where
      by : (o r s : Option (List ℕ)) → word_of d x ≡ r → word_of d y ≡ s → is_head_by o r ≡ true → is_head_by o s ≡ true → x ≡ y
      by None r s e f h g = absurd cc
      by (Some w) None s e f h g = absurd cc
      by (Some w) (Some v) None e f h g = absurd cc
      by (Some w) (Some v) (Some u) e f h g =
          let left = (same_word_decides (head_bytes w) v).0 (and_parts (is_valued w) (same_word (head_bytes w) v) h).1 in
          let right = (same_word_decides (head_bytes w) u).0 (and_parts (is_valued w) (same_word (head_bytes w) u) g).1 in
          same_Some x y (sym (number_from_word d kept v x e) ∙ (ap (number_of d) (sym left ∙ right) ∙ number_from_word d kept u y f))

  -- a test has one next weaker one
  one_next : (p x y : ℕ) → is_next_test d bits p x ≡ true → is_next_test d bits p y ≡ true → x ≡ y
  one_next p x y h g = by (next_is d kept bits p x h) (next_is d kept bits p y g)
    where
      by : IsNext d kept bits p x → IsNext d kept bits p y → x ≡ y
      by left right = cases (below_one d kept bits p x y left.linked right.linked)
        where
          cases : Ranked d kept bits x y → x ≡ y
          cases (inl same) = same
          cases (inr (inl to)) = absurd (left.none y right.linked to)
          cases (inr (inr from)) = absurd (right.none x left.linked from)

  -- and a test with a next weaker one has no head
  no_head_and_next : (p x y : ℕ) → is_head_by (word_of d p) (word_of d x) ≡ true → is_next_test d bits p y ≡ true → ⊥
  no_head_and_next p x y h g =
      let valued = headed (word_of d p) (word_of d x) h in
      let link = (next_parts d kept bits p y g).0 in
      let at = has_test d bits p (tests_by (declared_test d bits y) (declared_test d bits p) link).1 in
      let same : valued.0 ≡ at.word = same_Some valued.0 at.word (sym valued.1 ∙ at.is) in
      both_ways (is_test at.word) (valued_not_test at.word (subst (λ w. is_valued w ≡ true) same valued.2)) (ap is_some (sym at.test) ∙ (tests_by (declared_test d bits y) (declared_test d bits p) link).1)

  one_own : (p x y : ℕ) → own p x ≡ true → own p y ≡ true → x ≡ y
  one_own p x y h g = by (or_cases (is_head_by (word_of d p) (word_of d x)) (is_next_test d bits p x) h) (or_cases (is_head_by (word_of d p) (word_of d y)) (is_next_test d bits p y) g)
    where
      by : (is_head_by (word_of d p) (word_of d x) ≡ true) ⊎ (is_next_test d bits p x ≡ true) → (is_head_by (word_of d p) (word_of d y) ≡ true) ⊎ (is_next_test d bits p y ≡ true) → x ≡ y
      by (inl left) (inl right) = one_head p x y left right
      by (inl left) (inr right) = absurd (no_head_and_next p x y left right)
      by (inr left) (inl right) = absurd (no_head_and_next p y x right left)
      by (inr left) (inr right) = one_next p x y left right

  -- both of such an edge have words
  own_named : (p q : ℕ) → own p q ≡ true → (v : List ℕ) × (word_of d p ≡ Some v) × (q < d.props)
  own_named p q h = by (or_cases (is_head_by (word_of d p) (word_of d q)) (is_next_test d bits p q) h)
    where
      below : (o r : Option (List ℕ)) → word_of d q ≡ r → is_head_by o r ≡ true → q < d.props
      below None r e h = absurd cc
      below (Some w) None e h = absurd cc
      below (Some w) (Some v) e h = number_below d kept v q (number_from_word d kept v q e)

      by : (is_head_by (word_of d p) (word_of d q) ≡ true) ⊎ (is_next_test d bits p q ≡ true) → (v : List ℕ) × (word_of d p ≡ Some v) × (q < d.props)
      by (inl head) = let at = headed (word_of d p) (word_of d q) head in (at.0, at.1, below (word_of d p) (word_of d q) refl head)
      by (inr next) =
          let link = (next_parts d kept bits p q next).0 in
          let at = has_test d bits p (tests_by (declared_test d bits q) (declared_test d bits p) link).1 in
          (at.word, at.is, (linked_below d kept bits p q link).1)

  abbrev own_edge_of : List ℕ × ℕ → ℕ × ℕ
  own_edge_of e = (e.1, first_or_none (filter (own e.1) (range_with_len 0 d.props)))

  own_listed : (p q : ℕ) → own p q ≡ true → Among (map own_edge_of d.entries) (p, q)
  own_listed p q h =
      let at = own_named p q h in
      let first = first_of (own p) (range_with_len 0 d.props) (one_own p) q (range_among 0 d.props q (omega arith) (omega (arith, at.2))) h in
      subst (λ n. Among (map own_edge_of d.entries) (p, n)) first (map_among own_edge_of d.entries (at.0, p) (among_from_number d at.0 p (number_from_word d kept at.0 p at.1)))

  -- a taxonomy of such edges alone has at most one for each word
  pub own_few : (t : Taxonomy) → ((p q : ℕ) → has_edge t p q ≡ true → own p q ≡ true) → edge_count t ≤ length d.entries
  own_few t all =
      let few = listed (map own_edge_of d.entries) t (λ p q edge. own_listed p q (all p q edge)) in
      let long : length (map own_edge_of d.entries) ≡ length d.entries = search (rules, length-map) in
      omega (arith, few, long)

-- ---- the edges of axioms
abbrev sides_of : AxiomSlot → ℕ × ℕ
sides_of FreeAxiom = (0, 0)
sides_of (Pair left right) = (left, right)

pair_listed : (axioms : List AxiomSlot) (p q : ℕ) → has_pair axioms p q ≡ true → Among (map sides_of (filter is_filled axioms)) (p, q)
pair_listed axioms p q h =
    let at = pair_slot axioms p q h in
    map_among sides_of (filter is_filled axioms) (Pair p q) (filter_among is_filled axioms (Pair p q) (among_slot axioms at.0 (Pair p q) at.1) refl)

-- ---- all edges
edges_few : (k : Metadata) → IsDict k.dict → (t : Taxonomy) → HasEdges k t → edge_count t ≤ length k.dict.entries + count_by is_filled k.axioms
edges_few k kept t has =
    let few = listed (own_list ++ pair_list) t all in
    let own_long : length own_list ≡ length k.dict.entries = search (rules, length-map) in
    let pairs_long : length pair_list ≡ length (filter is_filled k.axioms) = search (rules, length-map) in
    omega (arith, few, length-append own_list pair_list, own_long, pairs_long, length-filter is_filled k.axioms)
  where
    own_list : List (ℕ × ℕ)
    own_list = map (own_edge_of k.dict kept k.declared) k.dict.entries

    pair_list : List (ℕ × ℕ)
    pair_list = map sides_of (filter is_filled k.axioms)

    all : (p q : ℕ) → has_edge t p q ≡ true → Among (own_list ++ pair_list) (p, q)
    all p q edge = by (or_cases (is_head_by (word_of k.dict p) (word_of k.dict q) || is_next_test k.dict k.declared p q) (has_pair k.axioms p q) (sym (has.edges p q) ∙ edge))
      where
        by : ((is_head_by (word_of k.dict p) (word_of k.dict q) || is_next_test k.dict k.declared p q) ≡ true) ⊎ (has_pair k.axioms p q ≡ true) → Among (own_list ++ pair_list) (p, q)
        by (inl own) = among_left own_list pair_list (p, q) (own_listed k.dict kept k.declared p q own)
        by (inr pair) = among_right own_list pair_list (p, q) (pair_listed k.axioms p q pair)

-- ---- room for more
-- filled slots are below the limit
abbrev AreBelow : ℕ → List AxiomSlot → Type 0
AreBelow n axioms = (slot left right : ℕ) → slice_get axioms slot ≡ Some (Pair left right) → slot < n

below_tail : (n : ℕ) (x : AxiomSlot) (xs : List AxiomSlot) → AreBelow (suc n) (x ∷ xs) → AreBelow n xs
below_tail n x xs below slot left right is = omega (arith, below (suc slot) left right is)

filled_most : (x : AxiomSlot) (xs : List AxiomSlot) → count_by is_filled (x ∷ xs) ≤ suc (count_by is_filled xs)
filled_most FreeAxiom xs = omega (arith, sum_by-cons (λ a. cond (is_filled a) 1 0) FreeAxiom xs)
filled_most (Pair left right) xs = omega (arith, sum_by-cons (λ a. cond (is_filled a) 1 0) (Pair left right) xs)

filled_few : (n : ℕ) (axioms : List AxiomSlot) → AreBelow n axioms → count_by is_filled axioms ≤ n
filled_few n [] below = omega arith
filled_few zero (FreeAxiom ∷ xs) below =
    omega (arith, filled_few zero xs (λ slot left right is. absurd (omega (arith, below (suc slot) left right is))), sum_by-cons (λ a. cond (is_filled a) 1 0) FreeAxiom xs)
filled_few zero (Pair left right ∷ xs) below = absurd (omega (arith, below 0 left right refl))
filled_few (suc n) (x ∷ xs) below = omega (arith, filled_most x xs, filled_few n xs (below_tail n x xs below))

-- at most two for each number
pub edges_most : (k : Metadata) → IsDict k.dict → length k.dict.entries ≤ k.limits.props → AreBelow k.limits.props k.axioms → (t : Taxonomy) → HasEdges k t → edge_count t ≤ 2 * k.limits.props
edges_most k kept words below t has = omega (arith, edges_few k kept t has, filled_few k.limits.props k.axioms below, words)

-- so there is room for several more
pub has_room : (k : Metadata) → AreSound k → (t : Taxonomy) → HasEdges k t → edge_count t + 2 ≤ edge_room t.props
has_room k sound t has =
    let most = edges_most k sound.dict (omega (arith, sound.dict.few, sound.numbers)) (λ slot left right is. (sound.axioms slot left right is).below) t has in
    omega (arith, most, some_properties k.limits sound.range, has.props)
