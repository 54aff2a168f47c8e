-- The axioms of axiom slots, read one after another.
use Rattle.lis_open.proofs.Common.{rules, ◌≡◌, ◌⊎◌, ◌∙◌, refl, sym, ap, ap₂, subst, inl, inr, ℕ, ◌+◌, ◌<◌, ◌==◌, nat_lt, Bool, true, false, ◌&&◌, ◌||◌, Option, Some, None, List, arith, eq-eqb, is_some, IfSome, ⊎_elim, ltb-true, lt-ltb, zero, suc, ◌≤◌, [], ◌∷◌, ◌++◌, length, take, set, replicate, slice_get, ◌^◌, ◌-◌, not, below_more, length-set, get_or-set_same, get_or-set_other, fold, length-take-le, Contains, take_all, and-false, Dict, IsDict, word_of, number_from_word, number_below, Taxonomy, has_edge, is_valued, head_bytes, same_word_decides, head_not_valued, is_head_by, or_left, or_right, or_cases, is_test, and_parts, both_ways, false_from_ne_true, insert_key, or-false, length-replicate, get_or_from_slice_get, same_Some, Among, among_from_any, Meaning, DiskFaultEnds, Held, Fits, slot, axiom_bytes, is_axiom, AxiomSlot, FreeAxiom, Pair, plain_not_valued, Limits, axiom_at, axiom_slots, pair_told, pairs_told, axioms_of, has_pair, among_place, cases_lt, among_from_contains, contains_from_among, number_of, word_from_number, Leads, PropSlot, axiom_once, is_plain_word, is_nameable, some_number, word_at, words_in, one_array, and_from, get_or_past, slice_get-get_or, any_from_among, pair_cmp, has_word, ⊎_map, property_slots, prop_bytes, is_prop, prop_once, cases_Bool}
use Rattle.std.proofs.lemmas.Bool.Decides.{nat_tests}
use Rattle.lis_taxonomy.specs.Taxonomy.{pair_cmp as edge_cmp, edge_count, empty_taxonomy}
use Rattle.lis_kept.specs.Edges.{with_edge_to}
use Rattle.lis_kept.proofs.AxiomsChanged.{swapped}
use Rattle.lis_kept.proofs.FewEdges.{own_few}
use Rattle.lis_kept.proofs.HeadEdges.{has_edge-with_edge}
use Rattle.lis_kept.proofs.Used.{is_at, head_by_number}
use Rattle.lis_open.specs.declared.words.Words.{Words}
use Rattle.lis_open.specs.ReadWords.{head_by, LinksHeads, declared_words, kept_words, AreWords, AreFirstWords, LinksTests, WordsAreSpelled, is_left, is_right, are_sides, TakesPair, TakesAxiom, IsGoodPair, AreFirstAxioms, AxiomsAreSpelled, is_left_by, is_right_by, RefusesPair, RefusesAxiom}
use Rattle.lis_laws.proofs.Chains.{head_no_test, acyclic_within, acyclic_cons, acyclic_decides}
use Rattle.lis_kept.specs.TestEdges.{test_by, is_next_test, TestsAreOrdered, LinksNext}
use Rattle.lis_kept.proofs.EdgesTell.{tells_links}
use Rattle.lis_kept.proofs.NextTests.{linked_below, next_parts}
use Rattle.std.proofs.Math.Bool.{or_comm}
use Rattle.lis_model.specs.State.{Entails, Acyclic}
use Rattle.lis_kept.specs.Links.{is_pair, is_edge, TellsLinks}
use Rattle.lis_catalog.proofs.Slots.{swapped as or_swapped}
use Rattle.lis_kept.proofs.AxiomSlots.{set_cases, any_set, pair_is, same_sides}
use Rattle.lis_kept.proofs.TestLinks.{no_own_edge}
use Rattle.lis_open.specs.declared.blocks.LastBlock.{LastBlock}
use Rattle.lis_open.specs.declared.axioms.Axioms.{Axioms}
use Rattle.lis_open.specs.Checks.{AreAxioms, AxiomFails, IsAxiom, AreFirstAxiomSlots, declared_by, axioms_by, AxiomFault, HasAxiomFault, AreProperties}
use Rattle.lis_ports.specs.Calls.{OnlyReads}
use Rattle.lis_open.specs.Reading.{Recalls, IsReadAs}
use Rattle.lis_open.proofs.BlocksRead.{StillRecalls}
use Rattle.lis_open.proofs.WordsRead.{nothing_at, told_properties, number_within, word_at_told, declared_told, told_word, word_told, axioms_told, are_told}
use Rattle.lis_open.proofs.Descriptions.{Sides, sides, left_word, right_word, bare_numbered, one_number, among_pair, pair_among, leads_numbered, chain_named}
use Rattle.std.proofs.Math.Path.{fun_ext}
use Rattle.lis_laws.proofs.Locals.{same_tests}
use Rattle.lis_kept.proofs.OwnLinks.{own_to_plain}
use Rattle.lis_open.specs.Checks.AxiomFault.{PastLast, LeftUnnumbered, RightUnnumbered, RightNotPlain, RightUndeclared, LeftUnnameable, HeadUnnumbered, PairThere, Circle}
use Rattle.lis_open.proofs.Once.{taken_place}
use Rattle.std.specs.FinSet as finite

-- a valued word, and its head
pub record Headed (o r : Option (List ℕ)) : Type 0 where
  pub word : List ℕ
  pub is : o ≡ Some word
  pub valued : is_valued word ≡ true
  pub head : r ≡ Some (head_bytes word)

pub headed : (o r : Option (List ℕ)) → is_head_by o r ≡ true → Headed o r
headed o r h = search (rules, and_parts, same_word_decides)

-- a valued word is no head
valued_no_head : (o r : Option (List ℕ)) (w : List ℕ) → r ≡ Some w → is_valued w ≡ true → is_head_by o r ≡ false
valued_no_head o r w is valued = false_from_ne_true (is_head_by o r) (λ h.
    let found = headed o r h in
    let both : ◌≡◌ {A = Option (List ℕ)} (Some (head_bytes found.word)) (Some w) = sym found.head ∙ is in
    let same : head_bytes found.word ≡ w = cc in
    both_ways (is_valued w) (ap is_valued (sym same) ∙ head_not_valued found.word) valued)

edge_to : (t : Taxonomy) (n : ℕ) (o : Option ℕ) (x y : ℕ) → has_edge (with_edge_to t n o) x y ≡ (((x == n) && is_at o y) || has_edge t x y)
edge_to t n None x y = ap (λ b. b || has_edge t x y) (sym (and-false (x == n)))
edge_to t n (Some h) x y = has_edge-with_edge t n h x y ∙ ap (λ b. ((x == n) && b) || has_edge t x y) (swapped y h)

module _ (d : Dict) (kept : IsDict d) where
  pub head_test : (o : Option (List ℕ)) (q : ℕ) → is_at (head_by d o) q ≡ is_head_by o (word_of d q)
  head_test None q = refl
  head_test (Some w) q = head_by_number d kept w q

  head_is : (n h : ℕ) → head_by d (word_of d n) ≡ Some h → Headed (word_of d n) (word_of d h)
  head_is n h is = headed (word_of d n) (word_of d h) (sym (head_test (word_of d n) h) ∙ (ap (λ o. is_at o h) is ∙ eq-eqb h h refl))

  -- ---- a number that is linked to its head
  pub head_below : (n : ℕ) (o : Option ℕ) (props : ℕ) → o ≡ head_by d (word_of d n) → props ≡ d.props → IfSome o (λ h. h < props)
  head_below n None props is same = tt
  head_below n (Some h) props is same =
      let found = head_is n h (sym is) in
      omega (arith, number_below d kept (head_bytes found.word) h (number_from_word d kept (head_bytes found.word) h found.head), same)

  pub head_apart : (n : ℕ) (o : Option ℕ) → o ≡ head_by d (word_of d n) → o ≡ Some n → ⊥
  head_apart n o is here =
      let found = head_is n n (sym is ∙ here) in
      both_ways (is_head_by (word_of d n) (word_of d n)) (valued_no_head (word_of d n) (word_of d n) found.word found.is found.valued)
      (sym (head_test (word_of d n) n) ∙ (ap (λ h. is_at h n) (sym is ∙ here) ∙ eq-eqb n n refl))

-- a test of the numbers up to the next one
below_next : (p end : ℕ) (b : Bool) → (nat_lt p (end + 1) && b) ≡ (((p == end) && b) || (nat_lt p end && b))
below_next p end b = grind (arith, nat_tests)

module _ (words : Words) (kept : IsDict words.dict) (end : ℕ) (t : Taxonomy) (linked : LinksHeads words end t) where
  pub none_to : (o : Option ℕ) → o ≡ head_by words.dict (word_of words.dict end) → IfSome o (λ h. (x : ℕ) → has_edge t x end ≡ false)
  none_to None is = tt
  none_to (Some h) is = λ x.
      let found = head_is words.dict kept end h (sym is) in
      linked.edges x end
      ∙ (ap (λ b. nat_lt x end && b) (valued_no_head (word_of words.dict x) (word_of words.dict end) found.word found.is found.valued) ∙ and-false (nat_lt x end))

  -- at most one edge for each word
  pub heads_few : edge_count t ≤ length words.dict.entries
  heads_few =
      own_few words.dict kept words.declared t (λ p q edge.
      or_left (is_head_by (word_of words.dict p) (word_of words.dict q)) (is_next_test words.dict words.declared p q)
      (and_parts (nat_lt p end) (is_head_by (word_of words.dict p) (word_of words.dict q)) (sym (linked.edges p q) ∙ edge)).1)

  pub linked_more : (next : Taxonomy) → next ≡ with_edge_to t end (head_by words.dict (word_of words.dict end)) → LinksHeads words (end + 1) next
  linked_more next is = search (rules, is_at, head_test, edge_to, below_next)

pub linked_none : (words : Words) (t : Taxonomy) (props : ℕ) → words.dict.props ≡ props → t ≡ empty_taxonomy props → LinksHeads words 0 t
linked_none words t props same none =
    subst (λ (u : Taxonomy). LinksHeads words 0 u) (sym none) (record { props = sym same; edges = λ p q. finite.contains-empty edge_cmp (p, q) ∙ sym (ap (λ b. b && is_head_by (word_of words.dict p) (word_of words.dict q)) (false_from_ne_true (nat_lt p 0) (λ h. let lt = ltb-true p 0 h in omega (arith, lt)))) })

-- ---- the links of declared tests to weaker ones, one number after another
-- ---- tests of numbers
-- a word that is a test
pub record IsTestBy (o : Option (List ℕ)) : Type 0 where
  pub word : List ℕ
  pub is : o ≡ Some word
  pub test : is_test word ≡ true

pub test_word : (o : Option (List ℕ)) → is_some (test_by o) ≡ true → IsTestBy o
test_word None some = absurd (both_ways false refl some)
test_word (Some w) some = record { word = w; is = refl; test = some }

-- ---- after the links to heads
module _ (words : Words) (kept : IsDict words.dict) (end : ℕ) (t : Taxonomy) (heads : LinksHeads words end t) where
  -- no test is a head
  pub heads_ordered : TestsAreOrdered words.dict t
  heads_ordered p q edge some =
      let found = headed (word_of words.dict p) (word_of words.dict q) (and_parts (nat_lt p end) (is_head_by (word_of words.dict p) (word_of words.dict q)) (sym (heads.edges p q) ∙ edge)).1 in
      absurd (head_no_test found.word (subst (λ o. is_some (test_by o) ≡ true) found.head some))

  pub head_edges : words.dict.props ≡ end → (p q : ℕ) → has_edge t p q ≡ is_head_by (word_of words.dict p) (word_of words.dict q)
  head_edges same p q = heads.edges p q ∙ by (word_of words.dict p) refl
    where
      by : (o : Option (List ℕ)) → word_of words.dict p ≡ o → (nat_lt p end && is_head_by o (word_of words.dict q)) ≡ is_head_by o (word_of words.dict q)
      by None is = and-false (nat_lt p end)
      by (Some w) is =
          ap (λ b. b && is_head_by (Some w) (word_of words.dict q))
          (lt-ltb p end (let below = number_below words.dict kept w p (number_from_word words.dict kept w p is) in omega (arith, below, same)))

-- ---- the edges of declared tests to the next weaker ones, one number after another
pub record LinksBelow (words : Words) (end : ℕ) (t u : Taxonomy) : Type 0 where
  pub props : u.props ≡ t.props
  pub edges : (p q : ℕ) → has_edge u p q ≡ ((nat_lt p end && is_next_test words.dict words.declared p q) || has_edge t p q)
  pub ordered : TestsAreOrdered words.dict u

pub below_none : (words : Words) → IsDict words.dict → (props : ℕ) (t : Taxonomy) → LinksHeads words props t → LinksBelow words 0 t t
below_none words kept props t heads = record {
  props = refl;
  edges = λ p q. sym (ap (λ b. (b && is_next_test words.dict words.declared p q) || has_edge t p q) (false_from_ne_true (nat_lt p 0) (λ h. let lt = ltb-true p 0 h in omega (arith, lt))));
  ordered = heads_ordered words kept props t heads;
}

one_more : (p end : ℕ) (b h : Bool) → (((p == end) && b) || ((nat_lt p end && b) || h)) ≡ ((nat_lt p (end + 1) && b) || h)
one_more p end b h = grind (arith, nat_tests)

pub below_one_more : (words : Words) (end : ℕ) (t u v : Taxonomy) → LinksBelow words end t u → LinksNext words.dict words.declared end u v → TestsAreOrdered words.dict v → LinksBelow words (end + 1) t v
below_one_more words end t u v linked next ordered = record {
  props = next.props ∙ linked.props;
  edges = λ p q.
      next.edges p q ∙ (ap (λ b. ((p == end) && is_next_test words.dict words.declared p q) || b) (linked.edges p q) ∙ one_more p end (is_next_test words.dict words.declared p q) (has_edge t p q));
  ordered = ordered;
}

-- at most one edge for each word
pub below_few : (words : Words) → IsDict words.dict → (props end : ℕ) (t u : Taxonomy) → LinksHeads words props t → LinksBelow words end t u → edge_count u ≤ length words.dict.entries
below_few words kept props end t u heads linked =
    own_few words.dict kept words.declared u (λ p q edge. by p q (or_cases (nat_lt p end && is_next_test words.dict words.declared p q) (has_edge t p q) (sym (linked.edges p q) ∙ edge)))
  where
    by : (p q : ℕ) → ((nat_lt p end && is_next_test words.dict words.declared p q) ≡ true) ⊎ (has_edge t p q ≡ true)
        → (is_head_by (word_of words.dict p) (word_of words.dict q) || is_next_test words.dict words.declared p q) ≡ true
    by p q (inl next) =
        or_right (is_head_by (word_of words.dict p) (word_of words.dict q)) (is_next_test words.dict words.declared p q)
        (and_parts (nat_lt p end) (is_next_test words.dict words.declared p q) next).1
    by p q (inr head) =
        or_left (is_head_by (word_of words.dict p) (word_of words.dict q)) (is_next_test words.dict words.declared p q)
        (and_parts (nat_lt p props) (is_head_by (word_of words.dict p) (word_of words.dict q)) (sym (heads.edges p q) ∙ head)).1

-- a number past the last one has no test
pub all_linked : (words : Words) → IsDict words.dict → (end : ℕ) (t u : Taxonomy) → words.dict.props ≡ end → LinksBelow words end t u → LinksTests words t u
all_linked words kept end t u same linked = record {
  props = linked.props;
  edges = λ p q. linked.edges p q ∙ ap (λ b. b || has_edge t p q) (by p q (is_next_test words.dict words.declared p q) refl);
}
  where
    by : (p q : ℕ) (b : Bool) → is_next_test words.dict words.declared p q ≡ b → (nat_lt p end && b) ≡ b
    by p q true next =
        ap (λ b. b && true)
        (lt-ltb p end (let below = linked_below words.dict kept words.declared p q (next_parts words.dict kept words.declared p q next).0 in omega (arith, below.0, same)))
    by p q false next = and-false (nat_lt p end)

-- ---- the axioms of axiom slots, read one after another
-- ---- the sides of an axiom
pub sides_of : (words : Words) (left right : ℕ) → are_sides words left right ≡ true → Sides words left right
sides_of words left right h =
    let both = and_parts (is_left words (word_of words.dict left)) (is_right words (word_of words.dict right)) h in
    record { from = left_word words (word_of words.dict left) both.0; to = right_word words (word_of words.dict right) both.1 }

pub right_below : (words : Words) (left right props : ℕ) → AreWords words → words.dict.props ≡ props → are_sides words left right ≡ true → right < props
right_below words left right props are same h =
    let to = (sides_of words left right h).to in
    let below = number_below words.dict are.dict to.word right (number_from_word words.dict are.dict to.word right to.is) in
    omega (arith, below, same)

-- ---- pairs in slots
pub pair_has : (left right : ℕ) (slots : List AxiomSlot) → Among slots (Pair left right) → has_pair slots left right ≡ true
pair_has left right slots m =
    any_from_among (is_pair left right) slots (Pair left right) m (and_from (left == left) (right == right) (eq-eqb left left refl) (eq-eqb right right refl))

pub has_pair_is : (left right : ℕ) (slots : List AxiomSlot) → has_pair slots left right ≡ true → Among slots (Pair left right)
has_pair_is left right slots h =
    let found = among_from_any (is_pair left right) slots h in
    subst (λ (a : AxiomSlot). Among slots a) (pair_is left right found.0 found.2) found.1

-- slots that are free have none
pub pairs_front : (dict : Dict) (n : ℕ) (slots : List AxiomSlot) → ((k : ℕ) → n ≤ k → axiom_at slots k ≡ FreeAxiom) → pairs_told dict (take n slots) ≡ pairs_told dict slots
pairs_front dict zero [] free = refl
pairs_front dict zero (x ∷ xs) free =
    pairs_front dict zero xs (λ k le. free (suc k) (omega arith)) ∙ sym (ap (λ a. pair_told dict a ++ pairs_told dict xs) (free 0 (omega arith)))
pairs_front dict (suc n) [] free = refl
pairs_front dict (suc n) (x ∷ xs) free = ap (λ ps. pair_told dict x ++ ps) (pairs_front dict n xs (λ k le. free (suc k) (omega arith)))

pub has_pair_front : (left right n : ℕ) (slots : List AxiomSlot) → ((k : ℕ) → n ≤ k → axiom_at slots k ≡ FreeAxiom) → has_pair (take n slots) left right ≡ has_pair slots left right
has_pair_front left right zero [] free = refl
has_pair_front left right zero (x ∷ xs) free =
    has_pair_front left right zero xs (λ k le. free (suc k) (omega arith)) ∙ sym (ap (λ a. is_pair left right a || has_pair xs left right) (free 0 (omega arith)))
has_pair_front left right (suc n) [] free = refl
has_pair_front left right (suc n) (x ∷ xs) free = ap (λ b. is_pair left right x || b) (has_pair_front left right n xs (λ k le. free (suc k) (omega arith)))

-- ---- one slot more
module _ (limits : Limits) (words : Words) (first : AreFirstWords limits words limits.props) (old : Axioms) (k : ℕ) (are : AreFirstAxioms limits words old k) where
  abbrev dict : IsDict words.dict
  dict = first.are.dict

  abbrev slots : List AxiomSlot
  slots = old.slots.items

  old_sides : (n left right : ℕ) → slice_get slots n ≡ Some (Pair left right) → Sides words left right
  old_sides n left right is = sides limits words old dict k are n left right is

  old_tells : TellsLinks (kept_words limits words slots) old.taxonomy
  old_tells = tells_links (kept_words limits words slots) dict old.taxonomy are.links

  module _ (left right : ℕ) (next : Axioms) (taken : TakesPair limits words k left right old next) (below : k < (axiom_slots limits).count) where
    both : Sides words left right
    both = sides_of words left right taken.sides

    within : k < length slots
    within = omega (arith, are.count, below)

    free_here : slice_get slots k ≡ Some FreeAxiom
    free_here = slice_get-get_or slots k FreeAxiom within ∙ ap Some (are.rest k (omega arith))

    -- the slot is the new one, or as it was
    abbrev IsThen : ℕ → AxiomSlot → Type 0
    IsThen n a = ((n ≡ k) × (Pair left right ≡ a)) ⊎ ((n ≡ k → ⊥) × (slice_get slots n ≡ Some a))

    slot_then : (n a b : ℕ) → slice_get next.slots.items n ≡ Some (Pair a b) → IsThen n (Pair a b)
    slot_then n a b is = set_cases slots k FreeAxiom (Pair left right) free_here n (Pair a b) (ap (λ ys. slice_get ys n) (sym taken.slots) ∙ is)

    good_then : (n a b : ℕ) → slice_get next.slots.items n ≡ Some (Pair a b) → IsGoodPair limits words n a b
    good_then n a b is = ⊎_elim (λ here.
        let same = same_sides here.1 in
        record { below = omega (arith, taken.below, here.0); sides = ap₂ (are_sides words) (sym same.0) (sym same.1) ∙ taken.sides }) (λ there. are.good n a b there.1) (slot_then n a b is)

    -- a pair that is there has an edge
    clash : (n a b : ℕ) → Pair left right ≡ Pair a b → slice_get slots n ≡ Some (Pair a b) → ⊥
    clash n a b here there =
        both_ways (has_edge old.taxonomy left right) taken.absent
        (are.links.edges left right ∙ or_right (is_head_by (word_of words.dict left) (word_of words.dict right) || is_next_test words.dict words.declared left right) (has_pair slots left right)
        (pair_has left right slots (among_place slots n (Pair left right) (there ∙ ap Some (sym here)))))

    apart_then : (n m a b : ℕ) → slice_get next.slots.items n ≡ Some (Pair a b) → slice_get next.slots.items m ≡ Some (Pair a b) → n ≡ m
    apart_then n m a b is_n is_m = by (slot_then n a b is_n) (slot_then m a b is_m)
      where
        by : IsThen n (Pair a b) → IsThen m (Pair a b) → n ≡ m
        by (inl here) (inl there) = here.0 ∙ sym there.0
        by (inl here) (inr there) = absurd (clash m a b here.1 there.1)
        by (inr here) (inl there) = absurd (clash n a b there.1 here.1)
        by (inr here) (inr there) = are.apart n m a b here.1 there.1

    edges_then : (p q : ℕ) → has_edge next.taxonomy p q ≡ is_edge (kept_words limits words next.slots.items) p q
    edges_then p q =
        let own = is_head_by (word_of words.dict p) (word_of words.dict q) || is_next_test words.dict words.declared p q in
        ap (λ (t : Taxonomy). has_edge t p q) taken.taxonomy
        ∙ (has_edge-with_edge old.taxonomy left right p q
        ∙ (ap₂ (λ a b. a || b) (ap₂ (λ a b. a && b) (swapped p left) (swapped q right)) (are.links.edges p q)
        ∙ (or_swapped ((left == p) && (right == q)) own (has_pair slots p q)
        ∙ (ap (λ b. own || b) (sym (any_set (is_pair p q) slots k FreeAxiom (Pair left right) free_here refl)) ∙ ap (λ ys. own || has_pair ys p q) (sym taken.slots)))))

    no_circle : Entails (declared_words words) (axioms_of (kept_words limits words slots)) both.to.word both.from.word → ⊥
    no_circle chain =
        let found = leads_numbered limits words dict slots old_sides old.taxonomy old_tells chain.0 right both.to.word both.from.word (bare_numbered words right both.to.word both.to.is (plain_not_valued both.to.word both.to.plain)) chain.1 in
        let same = one_number limits words dict slots old_sides found.0 left both.from.word found.1.named both.from.is in
        taken.open_end (subst (λ j. Leads old.taxonomy right j) same found.2)

    in_front : (e : List ℕ × List ℕ) → Among (axioms_of (kept_words limits words next.slots.items)) e → Among ((both.from.word, both.to.word) ∷ axioms_of (kept_words limits words slots)) e
    in_front e m =
        let found = among_pair limits words dict next.slots.items (λ n a b is. sides_of words a b (good_then n a b is).sides) e m in
        ⊎_map (λ here.
        let same = same_sides here.1 in
        ap₂ (λ p q. (p, q)) (same_Some both.from.word e.0 (sym both.from.is ∙ (ap (word_of words.dict) same.0 ∙ found.4))) (same_Some both.to.word e.1 (sym both.to.is ∙ (ap (word_of words.dict) same.1 ∙ found.5))))
        (λ there. pair_among limits words dict slots old_sides found.0 found.1 found.2 e.0 e.1 there.1 found.4 found.5) (slot_then found.0 found.1 found.2 found.3)

    pair_more : AreFirstAxioms limits words next (k + 1)
    pair_more = record {
      count = ap length taken.slots ∙ (length-set slots k (Pair left right) ∙ are.count);
      rest = λ n le. ap (λ ys. axiom_at ys n) taken.slots ∙ (get_or-set_other slots k n (Pair left right) FreeAxiom (λ e. omega arith) ∙ are.rest n (omega arith));
      good = good_then;
      apart = apart_then;
      links = record { props = ap (λ (t : Taxonomy). t.props) taken.taxonomy ∙ are.links.props; edges = edges_then };
      acyclic =
          acyclic_within (declared_words words) (axioms_of (kept_words limits words next.slots.items)) ((both.from.word, both.to.word) ∷ axioms_of (kept_words limits words slots)) in_front
          (acyclic_cons (declared_words words) (both.from.word, both.to.word) (axioms_of (kept_words limits words slots)) are.acyclic no_circle);
    }

  -- with it these are the axioms, and if the earlier slots are spelled by them, so is this slot
  pub axiom_on : (found : Option AxiomSlot) (next : Axioms) → k < (axiom_slots limits).count → TakesAxiom limits words k found old next
      → AreFirstAxioms limits words next (k + 1) × ((at : ℕ → List ℕ) → AxiomsAreSpelled limits at old k → IsReadAs axiom_bytes is_axiom (axiom_slots limits) at k found → AxiomsAreSpelled limits at next (k + 1))
  axiom_on None next below taken = absurd taken
  axiom_on (Some FreeAxiom) next below taken = (
    subst (λ (a : Axioms). AreFirstAxioms limits words a (k + 1)) (sym taken)
        (record { count = are.count; rest = λ n le. are.rest n (omega arith); good = are.good; apart = are.apart; links = are.links; acyclic = are.acyclic }),
    λ at spelled read.
        subst (λ (a : Axioms). AxiomsAreSpelled limits at a (k + 1)) (sym taken)
        (below_more (λ n. slot (axiom_slots limits) at n ≡ axiom_bytes (axiom_at slots n)) k spelled (read.bytes ∙ ap axiom_bytes (sym (are.rest k (omega arith))))),
  )
  axiom_on (Some (Pair left right)) next below taken = (
    pair_more left right next taken below,
    λ at spelled read.
        let a : AxiomSlot = Pair left right in
        subst (λ ys. (n : ℕ) → n < k + 1 → slot (axiom_slots limits) at n ≡ axiom_bytes (axiom_at ys n)) (sym taken.slots)
        (below_more (λ n. slot (axiom_slots limits) at n ≡ axiom_bytes (axiom_at (set slots k a) n)) k
        (λ n lt. spelled n lt ∙ ap axiom_bytes (sym (get_or-set_other slots k n a FreeAxiom (λ e. omega (arith, lt, e)))))
        (read.bytes ∙ ap axiom_bytes (sym (get_or-set_same slots k a FreeAxiom (within left right next taken below))))),
  )

-- ---- no slot yet
module _ (limits : Limits) (words : Words) (first : AreFirstWords limits words limits.props) (heads : Taxonomy) (axioms : Axioms) (free : axioms.slots.items ≡ replicate (axiom_slots limits).count FreeAxiom)
    (headed : LinksHeads words limits.props heads) (linked : LinksTests words heads axioms.taxonomy) where
  abbrev no_slots : List AxiomSlot
  no_slots = axioms.slots.items

  all_free : (n : ℕ) → 0 ≤ n → axiom_at no_slots n ≡ FreeAxiom
  all_free n le = ap (λ ys. axiom_at ys n) free ∙ nothing_at (axiom_slots limits).count n FreeAxiom

  no_axiom : (n left right : ℕ) → slice_get no_slots n ≡ Some (Pair left right) → ⊥
  no_axiom n left right is = let both = sym (get_or_from_slice_get no_slots n (Pair left right) FreeAxiom is) ∙ all_free n (omega arith) in cc

  own_edges : (p q : ℕ) → has_edge axioms.taxonomy p q ≡ is_edge (kept_words limits words no_slots) p q
  own_edges p q =
      let head = is_head_by (word_of words.dict p) (word_of words.dict q) in
      let next = is_next_test words.dict words.declared p q in
      linked.edges p q
      ∙ (ap (λ b. next || b) (head_edges words first.are.dict limits.props heads headed first.props p q)
      ∙ (or_comm next head ∙ (sym (or-false (head || next)) ∙ ap (λ b. (head || next) || b) (has_pair_front p q 0 no_slots all_free))))

  pub no_axioms_yet : AreFirstAxioms limits words axioms 0
  no_axioms_yet = record {
    count = ap length free ∙ length-replicate (axiom_slots limits).count FreeAxiom;
    rest = all_free;
    good = λ n left right is. absurd (no_axiom n left right is);
    apart = λ n m left right is_n is_m. absurd (no_axiom n left right is_n);
    links = record { props = linked.props ∙ (headed.props ∙ first.props); edges = own_edges };
    acyclic = subst (λ es. Acyclic (declared_words words) es) (ap (fold (insert_key pair_cmp) []) (pairs_front words.dict 0 no_slots all_free))
        ((acyclic_decides (declared_words words) []).0 refl);
  }

-- ---- the loop
pub record AxiomsTurn (journal : Held) (limits : Limits) (old now : Meaning) (before last : LastBlock) (words : Words) (axioms : Axioms) (end : ℕ) : Type 0 where
  pub reads : OnlyReads old now
  pub faults : now.disk_faults ≡ old.disk_faults
  pub first_fault : DiskFaultEnds old now
  pub first : AreFirstAxioms limits words axioms end
  pub recalls : StillRecalls journal old before last
  pub spelled : (kept : ℕ → List ℕ) → Fits journal old kept → Recalls before kept → AxiomsAreSpelled limits kept axioms end
  pub passed : (kept : ℕ → List ℕ) → Fits journal old kept → Recalls before kept → WordsAreSpelled limits kept words limits.props → (n : ℕ) → n < end → AxiomFails limits kept n → ⊥

-- ---- which axiom slots fail their checks, by what was read of the earlier slots
-- ---- what may be wrong with an axiom, by the words and axioms that were read
pub second_false : (a b : Bool) → (a && b) ≡ false → a ≡ true → b ≡ false
second_false true b bad good = bad
second_false false b bad good = absurd cc

pub headless : (a b : Bool) → (not a || b) ≡ false → (a ≡ true) × (b ≡ false)
headless true b bad = (refl, bad)
headless false b bad = absurd cc

module _ (limits : Limits) (properties : List PropSlot) (earlier : List AxiomSlot) (n left right : ℕ) where
  abbrev Faulty : Type 0
  Faulty = AxiomFault limits properties earlier n left right

  abbrev declared : List (List ℕ)
  declared = declared_by properties

  abbrev left_passes : Option (List ℕ) → Bool
  left_passes o = is_left_by declared (has_word (words_in properties)) o

  abbrev right_passes : Option (List ℕ) → Bool
  right_passes o = is_right_by declared o

  abbrev sides_pass : Bool
  sides_pass = left_passes (word_at properties left) && right_passes (word_at properties right)

  left_fault : (o : Option (List ℕ)) → word_at properties left ≡ o → left_passes o ≡ false → Faulty
  left_fault None is bad = LeftUnnumbered is
  left_fault (Some w) is bad =
      ⊎_elim (λ nameable.
      let head = second_false (is_nameable declared w) (not (is_valued w) || has_word (words_in properties) (head_bytes w)) bad nameable in
      let parts = headless (is_valued w) (has_word (words_in properties) (head_bytes w)) head in
      HeadUnnumbered w is parts.0 parts.1) (λ unnameable. LeftUnnameable w is unnameable) (cases_Bool (is_nameable declared w))

  right_fault : (o : Option (List ℕ)) → word_at properties right ≡ o → right_passes o ≡ false → Faulty
  right_fault None is bad = RightUnnumbered is
  right_fault (Some w) is bad =
      ⊎_elim (λ plain. RightUndeclared w is (second_false (is_plain_word w) (has_word declared w) bad plain)) (λ not_plain. RightNotPlain w is not_plain) (cases_Bool (is_plain_word w))

  sides_fault : sides_pass ≡ false → Faulty
  sides_fault bad =
      ⊎_elim (λ good. right_fault (word_at properties right) refl (second_false (left_passes (word_at properties left)) (right_passes (word_at properties right)) bad good))
      (left_fault (word_at properties left) refl) (cases_Bool (left_passes (word_at properties left)))

  left_bad : left_passes (word_at properties left) ≡ false → sides_pass ≡ false
  left_bad bad = ap (λ b. b && right_passes (word_at properties right)) bad

  right_bad : right_passes (word_at properties right) ≡ false → sides_pass ≡ false
  right_bad bad = ap (λ b. left_passes (word_at properties left) && b) bad ∙ and-false (left_passes (word_at properties left))

  -- a fault is of one of four kinds
  why : (P : Type 0) → (limits.props ≤ n → P) → (sides_pass ≡ false → P) → (Contains earlier (Pair left right) → P)
      → ((p q : List ℕ) → word_at properties left ≡ Some p → word_at properties right ≡ Some q → Entails declared (axioms_by properties earlier) q p → P) → Faulty → P
  why P past sides there circle (PastLast h) = past h
  why P past sides there circle (LeftUnnumbered none) = sides (left_bad (ap left_passes none))
  why P past sides there circle (RightUnnumbered none) = sides (right_bad (ap right_passes none))
  why P past sides there circle (RightNotPlain q is bad) = sides (right_bad (ap right_passes is ∙ ap (λ b. b && has_word declared q) bad))
  why P past sides there circle (RightUndeclared q is bad) = sides (right_bad (ap right_passes is ∙ (ap (λ b. is_plain_word q && b) bad ∙ and-false (is_plain_word q))))
  why P past sides there circle (LeftUnnameable p is bad) = sides (left_bad (ap left_passes is ∙ ap (λ b. b && (not (is_valued p) || has_word (words_in properties) (head_bytes p))) bad))
  why P past sides there circle (HeadUnnumbered p is valued bad) =
      sides (left_bad (ap left_passes is ∙ (ap₂ (λ a b. is_nameable declared p && (not a || b)) valued bad ∙ and-false (is_nameable declared p))))
  why P past sides there circle (PairThere h) = there h
  why P past sides there circle (Circle p q is_p is_q chain) = circle p q is_p is_q chain

-- a fault is one by all words and the earlier axioms, whichever lists they are
pub axiom_fault_by : (limits : Limits) (at : ℕ → List ℕ) (n : ℕ) (properties : List PropSlot) (earlier : List AxiomSlot) → AxiomFails limits at n → AreProperties limits at properties → AreFirstAxiomSlots limits at n earlier
    → (value : AxiomSlot) → IsAxiom limits at n value → HasAxiomFault limits properties earlier n value
axiom_fault_by limits at n properties earlier fails words before value is =
    subst (λ (xs : List AxiomSlot). HasAxiomFault limits properties xs n value) (one_array axiom_bytes is_axiom (record (axiom_slots limits) { count = n }) at fails.earlier earlier axiom_once fails.before before)
    (subst (λ (ps : List PropSlot). HasAxiomFault limits ps fails.earlier n value) (one_array prop_bytes is_prop (property_slots limits) at fails.properties properties prop_once fails.words words) (fails.fault value is))

-- ---- by what was read
module _ (limits : Limits) (at : ℕ → List ℕ) (words : Words) (first : AreFirstWords limits words limits.props) (told : WordsAreSpelled limits at words limits.props) (axioms : Axioms) (end : ℕ) (few : end ≤ (axiom_slots limits).count)
    (are : AreFirstAxioms limits words axioms end) (spelled : AxiomsAreSpelled limits at axioms end) where
  abbrev is_dict : IsDict words.dict
  is_dict = first.are.dict

  abbrev items : List AxiomSlot
  items = axioms.slots.items

  abbrev properties : List PropSlot
  properties = told_properties limits words

  abbrev all_sides : (n left right : ℕ) → slice_get items n ≡ Some (Pair left right) → Sides words left right
  all_sides n left right is = sides limits words axioms is_dict end are n left right is

  tells : TellsLinks (kept_words limits words items) axioms.taxonomy
  tells = tells_links (kept_words limits words items) is_dict axioms.taxonomy are.links

  named : (n : ℕ) → word_at properties n ≡ word_of words.dict n
  named n = word_at_told limits words first.are first.props n

  abbrev declared_are : declared_by properties ≡ declared_words words
  declared_are = declared_told limits words first.are first.props

  -- a word has a number if it is the word of a slot
  has_number : (w : List ℕ) → is_some (number_of words.dict w) ≡ has_word (words_in properties) w
  has_number w =
      same_tests (is_some (number_of words.dict w)) (has_word (words_in properties) w)
      (λ some. let n = some_number (number_of words.dict w) some in told_word limits words first.are first.props n.0 w (word_from_number words.dict is_dict w n.0 n.1))
      (λ has. let n = word_told limits words first.are first.props w has in ap is_some (number_from_word words.dict is_dict w n.0 n.1))

  sides_are : (left right : ℕ) → are_sides words left right ≡ sides_pass limits properties items 0 left right
  sides_are left right =
      ap₂ (λ a b. a && b)
      (ap₂ (λ o has. is_left_by (declared_words words) has o) (sym (named left)) (fun_ext has_number) ∙ ap (λ ds. is_left_by ds (has_word (words_in properties)) (word_at properties left)) (sym declared_are))
      (ap₂ (λ ds o. is_right_by ds o) (sym declared_are) (sym (named right)))

  axioms_are : axioms_by properties (take end items) ≡ axioms_of (kept_words limits words items)
  axioms_are = axioms_told limits words first.are first.props (take end items) ∙ ap (fold (insert_key pair_cmp) []) (pairs_front words.dict end items are.rest)

  -- ---- items
  slot_there : (n left right : ℕ) → axiom_at items n ≡ Pair left right → slice_get items n ≡ Some (Pair left right)
  slot_there n left right is =
      ⊎_elim (λ lt. slice_get-get_or items n FreeAxiom lt ∙ ap Some is)
      (λ past. absurd (let both : FreeAxiom ≡ Pair left right = sym (get_or_past items n FreeAxiom past) ∙ is in cc)) (cases_lt n (length items))

  -- numbers of words are short
  formed : (n : ℕ) → is_axiom (axiom_at items n) ≡ true
  formed n = by (axiom_at items n) refl
    where
      short : (m : ℕ) (w : List ℕ) → word_of words.dict m ≡ Some w → nat_lt m (2 ^ 32 - 1) ≡ true
      short m w is = lt-ltb m (2 ^ 32 - 1) (omega (arith, number_within limits words first.are first.props m w is, first.props, first.are.few))

      by : (a : AxiomSlot) → axiom_at items n ≡ a → is_axiom a ≡ true
      by FreeAxiom is = refl
      by (Pair left right) is =
          let both = all_sides n left right (slot_there n left right is) in
          and_from (nat_lt left (2 ^ 32 - 1)) (nat_lt right (2 ^ 32 - 1)) (short left both.from.word both.from.is) (short right both.to.word both.to.is)

  first_are : AreFirstAxiomSlots limits at end (take end items)
  first_are = search (rules, length-take-le, taken_place, get_or_from_slice_get, formed)

  -- ---- one pair
  module _ (left right : ℕ) where
    abbrev Fault : Type 0
    Fault = AxiomFault limits properties (take end items) end left right

    abbrev Refused : Type 0
    Refused = RefusesPair limits words end left right axioms

    -- if the sides are good, or if they are not
    by_sides : (P : Type 0) → (are_sides words left right ≡ false → P) → (Sides words left right → P) → P
    by_sides P bad good = ⊎_elim (λ fine. good (sides_of words left right fine)) bad (cases_Bool (are_sides words left right))

    bad_sides : are_sides words left right ≡ false → Fault
    bad_sides bad = sides_fault limits properties (take end items) end left right (sym (sides_are left right) ∙ bad)

    -- an edge between the sides of an axiom is that of a slot
    edge_is : Sides words left right → has_edge axioms.taxonomy left right ≡ has_pair (take end items) left right
    edge_is both =
        are.links.edges left right
        ∙ (ap (λ b. b || has_pair items left right) (no_own_edge (kept_words limits words items) is_dict left right
        (own_to_plain (declared_words words) (word_of words.dict left) (word_of words.dict right) (λ w is.
        subst (λ v. is_plain_word v ≡ true) (same_Some both.to.word w (sym both.to.is ∙ is)) both.to.plain)))
        ∙ sym (has_pair_front left right end items are.rest))

    -- a chain of edges from the right side to the left is one of words
    chain_there : Sides words left right → Leads axioms.taxonomy right left → Fault
    chain_there both leads =
        let found = chain_named limits words is_dict items all_sides axioms.taxonomy tells leads.0 right left both.to.word both.to.is leads.1 in
        let chain : Entails (declared_words words) (axioms_of (kept_words limits words items)) both.to.word both.from.word =
        subst (λ w. Entails (declared_words words) (axioms_of (kept_words limits words items)) both.to.word w) (same_Some found.0 both.from.word (sym found.1 ∙ both.from.is)) (leads.0, found.2) in
        Circle both.from.word both.to.word (named left ∙ both.from.is) (named right ∙ both.to.is)
        (subst (λ ds. Entails ds (axioms_by properties (take end items)) both.to.word both.from.word) (sym declared_are)
        (subst (λ es. Entails (declared_words words) es both.to.word both.from.word) (sym axioms_are) chain))

    there_chain : Sides words left right → (p q : List ℕ) → word_at properties left ≡ Some p → word_at properties right ≡ Some q → Entails (declared_by properties) (axioms_by properties (take end items)) q p → Leads axioms.taxonomy right left
    there_chain both p q is_p is_q told_chain =
        let chain = subst (λ es. Entails (declared_words words) es q p) axioms_are (subst (λ ds. Entails ds (axioms_by properties (take end items)) q p) declared_are told_chain) in
        let is = sym (named right) ∙ is_q in
        let numbered = bare_numbered words right q is (subst (λ w. is_valued w ≡ false) (same_Some both.to.word q (sym both.to.is ∙ is)) (plain_not_valued both.to.word both.to.plain)) in
        let found = leads_numbered limits words is_dict items all_sides axioms.taxonomy tells chain.0 right q p numbered chain.1 in
        subst (λ j. Leads axioms.taxonomy right j) (one_number limits words is_dict items all_sides found.0 left p found.1.named (sym (named left) ∙ is_p)) found.2

    -- a pair is refused exactly if something is wrong with it
    pair_fault : Refused → Fault
    pair_fault (inl past) = PastLast past
    pair_fault (inr (inl bad)) = bad_sides bad
    pair_fault (inr (inr (inl edge))) = by_sides Fault bad_sides (λ both. PairThere (contains_from_among (take end items) (Pair left right) (has_pair_is left right (take end items) (sym (edge_is both) ∙ edge))))
    pair_fault (inr (inr (inr leads))) = by_sides Fault bad_sides (λ both. chain_there both leads)

    fault_refused : Fault → Refused
    fault_refused =
        why limits properties (take end items) end left right Refused (λ past. inl past) (λ bad. inr (inl (sides_are left right ∙ bad)))
        (λ there. by_sides Refused (λ bad. inr (inl bad)) (λ both. inr (inr (inl (edge_is both ∙ pair_has left right (take end items) (among_from_contains (take end items) (Pair left right) there))))))
        (λ p q is_p is_q chain. by_sides Refused (λ bad. inr (inl bad)) (λ both. inr (inr (inr (there_chain both p q is_p is_q chain)))))

  -- ---- the slot
  pub axiom_fails : (found : Option AxiomSlot) → end < (axiom_slots limits).count → RefusesAxiom limits words end found axioms → IsReadAs axiom_bytes is_axiom (axiom_slots limits) at end found → AxiomFails limits at end
  axiom_fails found below why read = record {
    below = below;
    properties = properties;
    words = are_told limits words first.are first.props at told;
    earlier = take end items;
    before = first_are;
    fault = by found why read;
  }
    where
      by : (found : Option AxiomSlot) → RefusesAxiom limits words end found axioms → IsReadAs axiom_bytes is_axiom (axiom_slots limits) at end found → (value : AxiomSlot) → IsAxiom limits at end value
          → HasAxiomFault limits properties (take end items) end value
      by None why read value is = absurd (read value is)
      by (Some FreeAxiom) why read value is = absurd why
      by (Some (Pair left right)) why read value is =
          subst (λ (a : AxiomSlot). HasAxiomFault limits properties (take end items) end a) (axiom_once (Pair left right) value read.range is.range (sym read.bytes ∙ is.bytes)) (pair_fault left right why)

  pub axiom_passes : (found : Option AxiomSlot) (next : Axioms) → TakesAxiom limits words end found axioms next → IsReadAs axiom_bytes is_axiom (axiom_slots limits) at end found → AxiomFails limits at end → ⊥
  axiom_passes None next taken read fails = taken
  axiom_passes (Some value) next taken read fails =
      by value taken (axiom_fault_by limits at end properties (take end items) fails (are_told limits words first.are first.props at told) first_are value read)
    where
      not_refused : (left right : ℕ) → TakesPair limits words end left right axioms next → RefusesPair limits words end left right axioms → ⊥
      not_refused left right taken (inl past) = omega (arith, past, taken.below)
      not_refused left right taken (inr (inl bad)) = both_ways (are_sides words left right) bad taken.sides
      not_refused left right taken (inr (inr (inl edge))) = both_ways (has_edge axioms.taxonomy left right) taken.absent edge
      not_refused left right taken (inr (inr (inr leads))) = taken.open_end leads

      by : (a : AxiomSlot) → TakesAxiom limits words end (Some a) axioms next → HasAxiomFault limits properties (take end items) end a → ⊥
      by FreeAxiom taken none = none
      by (Pair left right) taken fault = not_refused left right taken (fault_refused left right fault)

-- all slots at once
pub are_axioms : (limits : Limits) (at : ℕ → List ℕ) (words : Words) → AreFirstWords limits words limits.props → WordsAreSpelled limits at words limits.props → (axioms : Axioms) → AreFirstAxioms limits words axioms (axiom_slots limits).count
    → AxiomsAreSpelled limits at axioms (axiom_slots limits).count → AreAxioms limits at axioms.slots.items
are_axioms limits at words first told axioms are spelled =
    subst (λ (xs : List AxiomSlot). AreAxioms limits at xs) (take_all (axiom_slots limits).count axioms.slots.items (omega (arith, are.count)))
    (first_are limits at words first told axioms (axiom_slots limits).count (omega arith) are spelled)
