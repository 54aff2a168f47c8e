-- The next weaker test of a test, and what becomes of it when a test is added or removed.
use Rattle.std.proofs.Common.{arith}
use Rattle.lis_kept.proofs.Common.{rules, ◌≡◌, ◌⊎◌, inl, inr, refl, sym, ap, ap₂, ◌∙◌, subst, ℕ, ◌<◌, ◌==◌, ◌&&◌, not, if◌then◌else◌, Bool, true, false, Option, Some, None, is_some, List, same_Some, and_parts, and_from, eqb-true, both_ways, false_from_ne_true, not-true, not_from_false, are_weaker, same_tests, among_from_any, any_from_among, Dict, IsDict, word_of, number_of, number_from_word, number_below}
use Rattle.std.proofs.lemmas.Bool.{eq-eqb}
use Rattle.std.specs.List.{range_with_len}
use Rattle.lis_graph.proofs.Ranges.{range_among}
use Rattle.lis_blockmap.specs.Bitmap.{is_taken}
use Rattle.lis_words.specs.declared.test.Test.{Test}
use Rattle.lis_words.specs.Words.{test_of}
use Rattle.lis_laws.proofs.Chains.{tests_by}
use Rattle.lis_kept.specs.Edges.{is_at}
use Rattle.lis_kept.specs.declared.test_edges.Side.TheVariants.{Weaker, Stronger}
use Rattle.lis_kept.specs.TestEdges.{test_by, declared_test, is_test_link, is_between, is_next_test, IsNeighbour}
use Rattle.lis_kept.proofs.TestOrder.{ordered_weaker, ordered_stronger, one_word_a_test}

-- ---- tests of numbers
pub none_weaker : (t : Option Test) → are_weaker t None ≡ false
none_weaker t = search (rules)

-- a number that has no word has no test
pub no_test : (dict : Dict) (declared : List Bool) (n : ℕ) → word_of dict n ≡ None → declared_test dict declared n ≡ None
no_test dict declared n none = search (rules)

-- a link between tests is one between the words
pub record TestLink (dict : Dict) (declared : List Bool) (p q : ℕ) : Type 0 where
  pub from : is_taken declared p ≡ true
  pub to : is_taken declared q ≡ true
  pub weaker : are_weaker (test_by (word_of dict q)) (test_by (word_of dict p)) ≡ true

pub test_link : (dict : Dict) (declared : List Bool) (p q : ℕ) → is_test_link dict declared p q ≡ true → TestLink dict declared p q
test_link dict declared p q h = by (is_taken declared p) refl (is_taken declared q) refl h
  where
    by : (a : Bool) → is_taken declared p ≡ a → (b : Bool) → is_taken declared q ≡ b → are_weaker (if b then test_by (word_of dict q) else None) (if a then test_by (word_of dict p) else None) ≡ true
        → TestLink dict declared p q
    by true e true f w = record { from = e; to = f; weaker = w }
    by true e false f w = absurd cc
    by false e b f w = absurd (both_ways (are_weaker (if b then test_by (word_of dict q) else None) None) (none_weaker (if b then test_by (word_of dict q) else None)) w)

pub test_linked : (dict : Dict) (declared : List Bool) (p q : ℕ) → is_taken declared p ≡ true → is_taken declared q ≡ true → are_weaker (test_by (word_of dict q)) (test_by (word_of dict p)) ≡ true
    → is_test_link dict declared p q ≡ true
test_linked dict declared p q from to weaker = search (rules)

-- ---- the word of a number that has a declared test
pub record HasTest (d : Dict) (bits : List Bool) (n : ℕ) : Type 0 where
  pub word : List ℕ
  pub is : word_of d n ≡ Some word
  pub test : declared_test d bits n ≡ test_of word

pub has_test : (d : Dict) (bits : List Bool) (n : ℕ) → is_some (declared_test d bits n) ≡ true → HasTest d bits n
has_test d bits n some = by (is_taken bits n) (word_of d n) refl refl some
  where
    by : (b : Bool) (o : Option (List ℕ)) → is_taken bits n ≡ b → word_of d n ≡ o → is_some (if b then test_by o else None) ≡ true → HasTest d bits n
    by true (Some w) e f some = record { word = w; is = f; test = ap₂ (λ b o. if b then test_by o else None) e f }
    by true None e f some = absurd cc
    by false o e f some = absurd cc

module _ (d : Dict) (kept : IsDict d) (bits : List Bool) where
  abbrev test : ℕ → Option Test
  test = declared_test d bits

  abbrev link : ℕ → ℕ → Bool
  link = is_test_link d bits

  -- a test has one number
  pub one_number_a_test : (x y : ℕ) → is_some (test x) ≡ true → test x ≡ test y → x ≡ y
  one_number_a_test x y some same =
      let left = has_test d bits x some in
      let right = has_test d bits y (ap is_some (sym same) ∙ some) in
      let word = one_word_a_test left.word right.word (ap is_some (sym left.test) ∙ some) (sym left.test ∙ (same ∙ right.test)) in
      same_Some x y (sym (number_from_word d kept left.word x left.is) ∙ (ap (number_of d) word ∙ number_from_word d kept right.word y right.is))

  pub linked_below : (p q : ℕ) → link p q ≡ true → (p < d.props) × (q < d.props)
  linked_below p q h =
      let some = tests_by (test q) (test p) h in
      (below p some.1, below q some.0)
    where
      below : (n : ℕ) → is_some (test n) ≡ true → n < d.props
      below n some = let at = has_test d bits n some in number_below d kept at.word n (number_from_word d kept at.word n at.is)

  -- two numbers to which one links, and two that link to one
  abbrev pub Ranked : ℕ → ℕ → Type 0
  Ranked x y = (x ≡ y) ⊎ ((link y x ≡ true) ⊎ (link x y ≡ true))

  ranked : (x y : ℕ) → is_some (test x) ≡ true → (test x ≡ test y) ⊎ ((are_weaker (test x) (test y) ≡ true) ⊎ (are_weaker (test y) (test x) ≡ true)) → Ranked x y
  ranked x y some (inl same) = inl (one_number_a_test x y some same)
  ranked x y some (inr which) = inr which

  pub below_one : (p x y : ℕ) → link p x ≡ true → link p y ≡ true → Ranked x y
  below_one p x y h g = ranked x y (tests_by (test x) (test p) h).0 (ordered_weaker (test x) (test y) (test p) h g)

  pub above_one : (x y q : ℕ) → link x q ≡ true → link y q ≡ true → Ranked x y
  above_one x y q h g = ranked x y (tests_by (test q) (test x) h).1 (ordered_stronger (test x) (test y) (test q) h g)

  -- ---- the next weaker test
  pub record IsNext (p q : ℕ) : Type 0 where
    pub linked : link p q ≡ true
    pub none : (r : ℕ) → link p r ≡ true → link r q ≡ true → ⊥

  pub between : (p q : ℕ) → is_between d bits p q ≡ true → (r : ℕ) × (link p r ≡ true) × (link r q ≡ true)
  between p q h =
      let found = among_from_any (λ r. link p r && link r q) (range_with_len 0 d.props) h in
      let both = and_parts (link p found.0) (link found.0 q) found.2 in
      (found.0, both.0, both.1)

  between_from : (p q r : ℕ) → link p r ≡ true → link r q ≡ true → is_between d bits p q ≡ true
  between_from p q r h g =
      let below : r < d.props = (linked_below p r h).1 in
      any_from_among (λ r. link p r && link r q) (range_with_len 0 d.props) r (range_among 0 d.props r (omega arith) (omega (arith, below))) (and_from (link p r) (link r q) h g)

  pub next_parts : (p q : ℕ) → is_next_test d bits p q ≡ true → (link p q ≡ true) × (is_between d bits p q ≡ false)
  unfolding is_next_test
  next_parts p q h = let both = and_parts (link p q) (not (is_between d bits p q)) h in (both.0, not-true (is_between d bits p q) both.1)

  pub next_made : (p q : ℕ) → link p q ≡ true → is_between d bits p q ≡ false → is_next_test d bits p q ≡ true
  unfolding is_next_test
  next_made p q h none = and_from (link p q) (not (is_between d bits p q)) h (not_from_false (is_between d bits p q) none)

  pub next_is : (p q : ℕ) → is_next_test d bits p q ≡ true → IsNext p q
  next_is p q h = record {
    linked = (next_parts p q h).0;
    none = λ r from to. both_ways (is_between d bits p q) (next_parts p q h).1 (between_from p q r from to);
  }

  pub next_from : (p q : ℕ) → IsNext p q → is_next_test d bits p q ≡ true
  next_from p q n =
      next_made p q n.linked (false_from_ne_true (is_between d bits p q) (λ h. let found = between p q h in n.none found.0 found.1 found.2))

  -- ---- the neighbours of a number
  module _ (n : ℕ) where
    abbrev Above : Option ℕ → Type 0
    Above o = IsNeighbour Stronger d bits (declared_test d bits n) o

    abbrev Below : Option ℕ → Type 0
    Below o = IsNeighbour Weaker d bits (declared_test d bits n) o

    below_next : (o : Option ℕ) (q : ℕ) → Below o → is_at o q ≡ true → IsNext n q
    below_next None q none at = absurd cc
    below_next (Some m) q near at =
        let same = eqb-true m q at in
        subst (λ x. IsNext n x) same (record { linked = near.past; none = λ r from to. both_ways (link r m) (near.nearest r from) to })

    next_below : (o : Option ℕ) (q : ℕ) → Below o → IsNext n q → is_at o q ≡ true
    next_below None q none next = absurd (both_ways (link n q) (none q) next.linked)
    next_below (Some m) q near next = by (below_one n m q near.past next.linked)
      where
        by : Ranked m q → (m == q) ≡ true
        by (inl same) = eq-eqb m q same
        by (inr (inl to)) = absurd (both_ways (link q m) (near.nearest q next.linked) to)
        by (inr (inr from)) = absurd (next.none m near.past from)

    above_next : (o : Option ℕ) (p : ℕ) → Above o → is_at o p ≡ true → IsNext p n
    above_next None p none at = absurd cc
    above_next (Some m) p near at =
        let same = eqb-true m p at in
        subst (λ x. IsNext x n) same (record { linked = near.past; none = λ r from to. both_ways (link m r) (near.nearest r to) from })

    next_above : (o : Option ℕ) (p : ℕ) → Above o → IsNext p n → is_at o p ≡ true
    next_above None p none next = absurd (both_ways (link p n) (none p) next.linked)
    next_above (Some m) p near next = by (above_one m p n near.past next.linked)
      where
        by : Ranked m p → (m == p) ≡ true
        by (inl same) = eq-eqb m p same
        by (inr (inl to)) = absurd (next.none m to near.past)
        by (inr (inr from)) = absurd (both_ways (link m p) (near.nearest p next.linked) from)

    -- the next weaker test is the neighbour
    pub next_from_here : (o : Option ℕ) → Below o → (q : ℕ) → is_next_test d bits n q ≡ is_at o q
    next_from_here o near q = same_tests (is_next_test d bits n q) (is_at o q) (λ h. next_below o q near (next_is n q h)) (λ h. next_from n q (below_next o q near h))

    pub next_to_here : (o : Option ℕ) → Above o → (p : ℕ) → is_next_test d bits p n ≡ is_at o p
    next_to_here o near p = same_tests (is_next_test d bits p n) (is_at o p) (λ h. next_above o p near (next_is p n h)) (λ h. next_from p n (above_next o p near h))

-- the same tests have the same next ones
pub next_alike : (d e : Dict) → IsDict d → IsDict e → (bits less : List Bool) → ((n : ℕ) → declared_test d bits n ≡ declared_test e less n) → (p q : ℕ) → is_next_test d bits p q ≡ is_next_test e less p q
next_alike d e kept_d kept_e bits less same p q =
    same_tests (is_next_test d bits p q) (is_next_test e less p q)
    (λ h. let next = next_is d kept_d bits p q h in
    next_from e kept_e less p q (record { linked = sym (link_same p q) ∙ next.linked; none = λ r from to. next.none r (link_same p r ∙ from) (link_same r q ∙ to) }))
    (λ h. let next = next_is e kept_e less p q h in
    next_from d kept_d bits p q (record { linked = link_same p q ∙ next.linked; none = λ r from to. next.none r (sym (link_same p r) ∙ from) (sym (link_same r q) ∙ to) }))
  where
    link_same : (x y : ℕ) → is_test_link d bits x y ≡ is_test_link e less x y
    link_same x y = ap₂ are_weaker (same y) (same x)
