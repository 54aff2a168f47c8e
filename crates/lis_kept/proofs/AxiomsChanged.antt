-- An axiom that is put into a free slot, and one that is removed from its slot.
use Rattle.std.proofs.Common.{arith}
use Rattle.lis_kept.proofs.Common.{rules, data_start, ◌≡◌, ◌⊎◌, ◌↔◌, refl, sym, ap, ap₂, ◌∙◌, subst, inl, inr, ℕ, ◌<◌, ◌≤◌, ◌==◌, ◌&&◌, ◌||◌, Bool, true, false, List, [], set, slice_get, Some, Result, Err, length, length-set, get_or-set_other, not, list_any, IsStrictlySortedBy, same_Some, Among, among_insert_key, insert_key_old, insert_key_new, same_sets, sorted_insert_key, word_of, Taxonomy, has_edge, with_edge, EdgeFault, Present, Cycle, Absent, has_word, is_plain_word, AxiomSlot, FreeAxiom, Pair, up, with_axiom, pair_exact, and_parts, eqb-true, not_from_false, not-true, IsStrictlySortedBy-filter, among_filter, without_edge, same_word, same_pair, same_word_decides, both_ways, and_from, false_from_ne_true, pair_order, has_word_from_among, filter_among, any_from_among}
use Rattle.lis_graph.proofs.Sets.{sorted_nil, sorted_with_more}
use Rattle.lis_taxonomy.specs.Taxonomy.{Entails as Leads}
use Rattle.lis_model.specs.State.{pair_cmp}
use Rattle.lis_catalog.proofs.Slots.{swapped as or_swapped}
use Rattle.lis_kept.specs.Metadata.{Metadata}
use Rattle.lis_kept.specs.Areas.{Area, slots_of, block_of, spelled}
use Rattle.lis_kept.specs.Areas.Area.{Axioms}
use Rattle.lis_kept.specs.Telling.{declared_of, pairs_told, axioms_of, state_of, is_head_by, is_used}
use Rattle.lis_kept.specs.Sound.{AreSound, IsSoundAxiom}
use Rattle.lis_kept.specs.Links.{AreHeld, is_pair, has_pair, is_linked, is_edge}
use Rattle.lis_kept.specs.Linking.{are_both, MayLink, Links, MayUnlink, Unlinks}
use Rattle.lis_kept.specs.Changes.{Marks}
use Rattle.lis_kept.proofs.InArea.{among_slots}
use Rattle.lis_kept.proofs.Marking.{block_marked}
use Rattle.lis_kept.proofs.HeadEdges.{has_edge-with_edge, swapped as edges_swapped, has_edge-without_edge}
use Rattle.lis_kept.proofs.Known.{axiom_among, among_axiom}
use Rattle.lis_kept.proofs.OwnLinks.{own_to_plain, pair_slot}
use Rattle.lis_kept.specs.TestEdges.{is_next_test}
use Rattle.lis_kept.proofs.EdgesTell.{tells_links}
use Rattle.lis_kept.proofs.Entailed.{up_from_leads}
use Rattle.lis_kept.proofs.TestLinks.{edge_linked, no_edge}
use Rattle.lis_kept.proofs.AxiomSlots.{set_here, set_cases, set_there, any_set, axiom_within, same_sides, set_back}
use Rattle.std.specs.List.{filter}
use Rattle.lis_model.specs.Changes.{has_axiom}
use Rattle.lis_kept.proofs.AxiomsTold.{axiom_told}

pub sorted_axioms : (k : Metadata) → IsStrictlySortedBy pair_cmp (axioms_of k)
sorted_axioms k = sorted_with_more pair_cmp pair_order [] (pairs_told k.dict k.axioms) (sorted_nil pair_cmp pair_order)

pub swapped : (x y : ℕ) → (x == y) ≡ (y == x)
swapped = edges_swapped

pub used_more : (d h a b x y : Bool) → (d || h || ((a || x) || (b || y))) ≡ (a || b || (d || h || (x || y)))
used_more d h a b x y = grind arith

-- ---- another slot's content
-- One slot has another axiom, or none, and its block is marked.
pub record OneAxiom (p : Metadata) (slot : ℕ) (now : AxiomSlot) (axioms : List AxiomSlot) (marks : List Bool) : Type 0 where
  pub was : AxiomSlot
  pub there : slice_get p.axioms slot ≡ Some was
  pub below : slot < p.limits.props
  pub sound : (x y : ℕ) → now ≡ Pair x y → IsSoundAxiom p slot x y
  pub axioms_are : axioms ≡ set p.axioms slot now
  pub marked : marks ≡ set p.marks (block_of p.limits Axioms slot) true

module _ (p : Metadata) (sound : AreSound p) {slot : ℕ} {now : AxiomSlot} {axioms : List AxiomSlot} {marks : List Bool} (one : OneAxiom p slot now axioms marks) where
  abbrev pub after : Metadata
  after = record p { axioms = axioms; marks = marks }

  -- what is in each slot then
  pub cases_then : (at : ℕ) (a : AxiomSlot) → slice_get axioms at ≡ Some a → ((at ≡ slot) × (now ≡ a)) ⊎ ((at ≡ slot → ⊥) × (slice_get p.axioms at ≡ Some a))
  cases_then at a is = set_cases p.axioms slot one.was now one.there at a (ap (λ xs. slice_get xs at) (sym one.axioms_are) ∙ is)

  axiom_then : (at x y : ℕ) → slice_get axioms at ≡ Some (Pair x y) → IsSoundAxiom p at x y
  axiom_then at x y is = by (cases_then at (Pair x y) is)
    where
      by : ((at ≡ slot) × (now ≡ Pair x y)) ⊎ ((at ≡ slot → ⊥) × (slice_get p.axioms at ≡ Some (Pair x y))) → IsSoundAxiom p at x y
      by (inl new) = subst (λ n. IsSoundAxiom p n x y) (sym new.0) (one.sound x y new.1)
      by (inr old) = sound.axioms at x y old.1

  pub sound_then : AreSound after
  sound_then = assumption (pairs_sound, ap length one.axioms_are ∙ (length-set p.axioms slot now ∙ sound.axiom_count), long)
    where
      pairs_sound : (at x y : ℕ) → slice_get axioms at ≡ Some (Pair x y) → IsSoundAxiom after at x y
      pairs_sound at x y is = assumption (axiom_then at x y is)

      long : data_start p.limits ≤ length marks
      long = omega (arith, ap length one.marked, length-set p.marks (block_of p.limits Axioms slot) true, sound.marks)

  spelled_before : (area : Area) (n : ℕ) → n < (slots_of p.limits area).count → (block_of p.limits area n ≡ block_of p.limits Axioms slot → ⊥) → spelled after area n ≡ spelled p area n
  spelled_before area n lt apart = search (rules, get_or-set_other)

  pub marks_then : Marks 1 p after
  marks_then =
      block_marked p after (block_of p.limits Axioms slot) refl one.marked
      (omega (arith, (among_slots p.limits sound.range Axioms slot (axiom_within p.limits slot one.below)).1, sound.marks)) spelled_before

-- ---- with an axiom and without it
-- a slot that was free has the axiom
pub record IsFilled (before after : List AxiomSlot) (slot left right : ℕ) : Type 0 where
  pub free : slice_get before slot ≡ Some FreeAxiom
  pub filled : after ≡ set before slot (Pair left right)

module _ (few : Metadata) (sound : AreSound few) (marks : List Bool) {axioms : List AxiomSlot} {slot left right : ℕ} (is : IsFilled few.axioms axioms slot left right) where
  abbrev many : Metadata
  many = record few { axioms = axioms; marks = marks }

  any_filled : (f : AxiomSlot → Bool) → f FreeAxiom ≡ false → list_any f axioms ≡ (f (Pair left right) || list_any f few.axioms)
  any_filled f none = ap (list_any f) is.filled ∙ any_set f few.axioms slot FreeAxiom (Pair left right) is.free none

  pub pairs_more : (x y : ℕ) → has_pair axioms x y ≡ (are_both left right x y || has_pair few.axioms x y)
  pairs_more x y = any_filled (is_pair x y) refl

  pub links_more : (x y : ℕ) → is_linked many x y ≡ (are_both left right x y || is_linked few x y)
  links_more x y = search (rules, pairs_more, or_swapped)

  pub edges_more : (x y : ℕ) → is_edge many x y ≡ (are_both left right x y || is_edge few x y)
  edges_more x y = search (rules, pairs_more, or_swapped)

  pub used_then : (n : ℕ) → is_used many n ≡ ((left == n) || is_head_by (word_of few.dict left) (word_of few.dict n) || is_used few n)
  used_then n = search (rules, any_filled, used_more)

  pub told_more : AreSound many → (l r : List ℕ) → word_of few.dict left ≡ Some l → word_of few.dict right ≡ Some r → axioms_of many ≡ with_axiom (axioms_of few) (l, r)
  told_more sound_many l r is_l is_r =
      same_sets pair_cmp pair_order (axioms_of many) (with_axiom (axioms_of few) (l, r)) (sorted_axioms many) (sorted_insert_key pair_cmp pair_order (axioms_of few) (l, r) (sorted_axioms few))
      to (λ e m. from e (among_insert_key pair_cmp (axioms_of few) (l, r) e m))
    where
      there : (at : ℕ) (a : AxiomSlot) → slice_get (set few.axioms slot (Pair left right)) at ≡ Some a → slice_get axioms at ≡ Some a
      there at a stands = ap (λ xs. slice_get xs at) is.filled ∙ stands

      to : (e : List ℕ × List ℕ) → Among (axioms_of many) e → Among (with_axiom (axioms_of few) (l, r)) e
      to e m = by (set_cases few.axioms slot FreeAxiom (Pair left right) is.free found.0 (Pair found.1 found.2) (ap (λ xs. slice_get xs found.0) (sym is.filled) ∙ found.3))
        where
          found : (at : ℕ) × (x : ℕ) × (y : ℕ) × (slice_get axioms at ≡ Some (Pair x y)) × (word_of few.dict x ≡ Some e.0) × (word_of few.dict y ≡ Some e.1)
          found = among_axiom many sound_many e m

          by : ((found.0 ≡ slot) × (◌≡◌ {A = AxiomSlot} (Pair left right) (Pair found.1 found.2))) ⊎ ((found.0 ≡ slot → ⊥) × (slice_get few.axioms found.0 ≡ Some (Pair found.1 found.2))) → Among (with_axiom (axioms_of few) (l, r)) e
          by (inl new) =
              let same_l : l ≡ e.0 = same_Some l e.0 (sym is_l ∙ (ap (word_of few.dict) (same_sides new.1).0 ∙ found.4)) in
              let same_r : r ≡ e.1 = same_Some r e.1 (sym is_r ∙ (ap (word_of few.dict) (same_sides new.1).1 ∙ found.5)) in
              let same : ◌≡◌ {A = List ℕ × List ℕ} (l, r) e = ap₂ (λ (a b : List ℕ). (a, b)) same_l same_r in
              subst (λ (x : List ℕ × List ℕ). Among (with_axiom (axioms_of few) (l, r)) x) same (insert_key_new pair_cmp pair_exact (axioms_of few) (l, r))
          by (inr old) = insert_key_old pair_cmp (axioms_of few) (l, r) e (axiom_among few sound found.0 found.1 found.2 e.0 e.1 old.1 found.4 found.5)

      from : (e : List ℕ × List ℕ) → (◌≡◌ {A = List ℕ × List ℕ} (l, r) e) ⊎ Among (axioms_of few) e → Among (axioms_of many) e
      from e (inl same) =
          subst (λ (x : List ℕ × List ℕ). Among (axioms_of many) x) same
          (axiom_among many sound_many slot left right l r (there slot (Pair left right) (set_here few.axioms slot FreeAxiom (Pair left right) is.free)) is_l is_r)
      from e (inr m) = axiom_among many sound_many found.0 found.1 found.2 e.0 e.1 (there found.0 (Pair found.1 found.2) (set_there few.axioms slot (Pair left right) found.0 differ ∙ found.3)) found.4 found.5
        where
          found : (at : ℕ) × (x : ℕ) × (y : ℕ) × (slice_get few.axioms at ≡ Some (Pair x y)) × (word_of few.dict x ≡ Some e.0) × (word_of few.dict y ≡ Some e.1)
          found = among_axiom few sound e m

          differ : found.0 ≡ slot → ⊥
          differ same =
              let both : ◌≡◌ {A = AxiomSlot} FreeAxiom (Pair found.1 found.2) = same_Some FreeAxiom (Pair found.1 found.2) (sym is.free ∙ (ap (slice_get few.axioms) (sym same) ∙ found.3)) in
              cc

-- ---- the axiom is added, over what memory kept
module _ (k p : Metadata) (t u : Taxonomy) (left right slot : ℕ) (axioms : List AxiomSlot) (marks : List Bool) (is : p ≡ k) (held : AreHeld p t) (may : MayLink left right p) (below : slot < p.limits.props)
    (free : slice_get p.axioms slot ≡ Some FreeAxiom) (filled : axioms ≡ set p.axioms slot (Pair left right)) (linked_is : u ≡ with_edge t left right)
    (marked : marks ≡ set p.marks (block_of p.limits Axioms slot) true) where
  abbrev linked : Metadata
  linked = record p { axioms = axioms; marks = marks }

  into : IsFilled p.axioms axioms slot left right
  into = record { free = free; filled = filled }

  one : OneAxiom p slot (Pair left right) axioms marks
  one = search (rules, same_sides, same_Some)

  edges_then : (x y : ℕ) → has_edge u x y ≡ is_edge linked x y
  edges_then x y =
      ap (λ (v : Taxonomy). has_edge v x y) linked_is
      ∙ (has_edge-with_edge t left right x y
      ∙ (ap₂ (λ a b. a || b) (ap₂ (λ a b. a && b) (swapped x left) (swapped y right)) (held.links.edges x y) ∙ sym (edges_more p held.sound marks into x y)))

  pub links : AreHeld linked u × Links left right k linked
  links = (
    record { sound = sound_then p held.sound one; links = record { props = ap (λ (v : Taxonomy). v.props) linked_is ∙ held.links.props; edges = edges_then } },
    subst (λ (x : Metadata). Links left right x linked) is (record {
      slot = slot;
      below = below;
      free = free;
      metadata = cc (filled, marked);
      marks = marks_then p held.sound one;
      pairs = pairs_more p held.sound marks into;
      linked = links_more p held.sound marks into;
      state = λ at l r is_l is_r. ap (λ (xs : List (List ℕ × List ℕ)). record (state_of p at) { axioms = xs }) (told_more p held.sound marks into (sound_then p held.sound one) l r is_l is_r);
      used = used_then p held.sound marks into;
    }),
  )

-- ---- why its edge is not refused
pub link_refused : {T : Type 0} (p : Metadata) (t : Taxonomy) → AreHeld p t → (left right : ℕ) → MayLink left right p → (fault : EdgeFault) (r : Result T EdgeFault) → r ≡ Err fault
    → ((r ≡ Err Present) ↔ (has_edge t left right ≡ true)) → ((r ≡ Err Cycle) ↔ Leads t right left) → (r ≡ Err Absent → ⊥) → ⊥
link_refused p t held left right may fault r is present cycle absent = by fault is
  where
    plain : (to : List ℕ) → word_of p.dict right ≡ Some to → is_plain_word to ≡ true
    plain to at = subst (λ (w : List ℕ). is_plain_word w ≡ true) (same_Some may.to to (sym may.is_right ∙ at)) may.plain

    not_linked : is_linked p left right ≡ false
    not_linked = ap₂ (λ a b. a || b) (own_to_plain (declared_of p) (word_of p.dict left) (word_of p.dict right) plain) may.new

    by : (fault : EdgeFault) → r ≡ Err fault → ⊥
    by Present said = both_ways (is_linked p left right) not_linked (edge_linked p held.sound.dict left right (sym (held.links.edges left right) ∙ present.0 said))
    by Cycle said =
        let back = up_from_leads p held.sound t (tells_links p held.sound.dict t held.links) right left may.to may.from may.is_right may.is_left (cycle.0 said) in
        both_ways (has_word (up (declared_of p) (axioms_of p) may.to) may.from) may.no_circle (has_word_from_among (up (declared_of p) (axioms_of p) may.to) may.from back)
    by Absent said = absent said

-- ---- an axiom that is removed from its slot
pub both_sides : (left right x y : ℕ) → are_both left right x y ≡ true → (left ≡ x) × (right ≡ y)
both_sides left right x y is = let parts = and_parts (left == x) (right == y) is in (eqb-true left x parts.0, eqb-true right y parts.1)

-- if at most one of `b` and `f` holds, `f` is what is left of both without `b`
without_one : (b f g : Bool) → g ≡ (b || f) → (b ≡ true → f ≡ false) → f ≡ (not b && g)
without_one b f g h1 h2 = search (rules)

-- axioms that lack one, with it and then without it
axiom_gone : (axioms : List (List ℕ × List ℕ)) (pair : List ℕ × List ℕ) → IsStrictlySortedBy pair_cmp axioms → has_axiom axioms pair ≡ false → axioms ≡ filter (λ e. not (same_pair e pair)) (with_axiom axioms pair)
axiom_gone axioms pair sorted none =
    same_sets pair_cmp pair_order axioms (filter (λ e. not (same_pair e pair)) (with_axiom axioms pair)) sorted
    (IsStrictlySortedBy-filter pair_cmp (λ e. not (same_pair e pair)) (with_axiom axioms pair) (sorted_insert_key pair_cmp pair_order axioms pair sorted))
    (λ e m. filter_among (λ e. not (same_pair e pair)) (with_axiom axioms pair) e (insert_key_old pair_cmp axioms pair e m)
    (not_from_false (same_pair e pair) (false_from_ne_true (same_pair e pair) (λ same. both_ways (has_axiom axioms pair) none (any_from_among (λ x. same_pair x pair) axioms e m same)))))
    (λ e m. let kept = among_filter (λ e. not (same_pair e pair)) (with_axiom axioms pair) e m in from e kept.1 (among_insert_key pair_cmp axioms pair e kept.0))
  where
    from : (e : List ℕ × List ℕ) → not (same_pair e pair) ≡ true → (pair ≡ e) ⊎ Among axioms e → Among axioms e
    from e differ (inl same) =
        absurd (both_ways (same_pair e pair) (not-true (same_pair e pair) differ)
        (and_from (same_word e.0 pair.0) (same_word e.1 pair.1) ((same_word_decides e.0 pair.0).1 (ap (λ (x : List ℕ × List ℕ). x.0) (sym same))) ((same_word_decides e.1 pair.1).1 (ap (λ (x : List ℕ × List ℕ). x.1) (sym same)))))
    from e differ (inr m) = m

-- ---- over what memory kept
module _ (k p : Metadata) (t u : Taxonomy) (left right slot : ℕ) (axioms : List AxiomSlot) (marks : List Bool) (is : p ≡ k) (held : AreHeld p t) (may : MayUnlink left right p)
    (there : slice_get p.axioms slot ≡ Some (Pair left right)) (emptied : axioms ≡ set p.axioms slot FreeAxiom) (unlinked_is : u ≡ without_edge t left right)
    (marked : marks ≡ set p.marks (block_of p.limits Axioms slot) true) where
  abbrev unlinked : Metadata
  unlinked = record p { axioms = axioms; marks = marks }

  one_gone : OneAxiom p slot FreeAxiom axioms marks
  one_gone = record {
    was = Pair left right;
    there = there;
    below = (held.sound.axioms slot left right there).below;
    sound = λ x y same. absurd (let none : ◌≡◌ {A = AxiomSlot} FreeAxiom (Pair x y) = same in cc);
    axioms_are = emptied;
    marked = marked;
  }

  sound_gone : AreSound unlinked
  sound_gone = sound_then p held.sound one_gone

  -- memory was what it is now with the axiom
  into_before : IsFilled axioms p.axioms slot left right
  into_before = record {
    free = ap (λ (xs : List AxiomSlot). slice_get xs slot) emptied ∙ set_here p.axioms slot (Pair left right) FreeAxiom there;
    filled = sym (ap (λ (xs : List AxiomSlot). set xs slot (Pair left right)) emptied ∙ set_back p.axioms slot (Pair left right) FreeAxiom there);
  }

  -- no other slot has it
  pair_gone : has_pair axioms left right ≡ false
  pair_gone = false_from_ne_true (has_pair axioms left right) (λ has.
      let at = pair_slot axioms left right has in
      by at.0 (cases_then p held.sound one_gone at.0 (Pair left right) at.1))
    where
      by : (at : ℕ) → ((at ≡ slot) × (◌≡◌ {A = AxiomSlot} FreeAxiom (Pair left right))) ⊎ ((at ≡ slot → ⊥) × (slice_get p.axioms at ≡ Some (Pair left right))) → ⊥
      by at (inl new) = let none = new.1 in cc
      by at (inr old) = old.0 (may.once at slot old.1 there)

  gone_at : (x y : ℕ) → are_both left right x y ≡ true → has_pair axioms x y ≡ false
  gone_at x y is = let sides = both_sides left right x y is in subst (λ n. has_pair axioms n y ≡ false) sides.0 (subst (λ n. has_pair axioms left n ≡ false) sides.1 pair_gone)

  pairs_then : (x y : ℕ) → has_pair axioms x y ≡ (not (are_both left right x y) && has_pair p.axioms x y)
  pairs_then x y = without_one (are_both left right x y) (has_pair axioms x y) (has_pair p.axioms x y) (pairs_more unlinked sound_gone p.marks into_before x y) (gone_at x y)

  unlinked_at : (x y : ℕ) → are_both left right x y ≡ true → is_linked unlinked x y ≡ false
  unlinked_at x y is =
      ap₂ (λ a b. a || b) (own_to_plain (declared_of p) (word_of p.dict x) (word_of p.dict y) (λ to at. may.plain to (ap (word_of p.dict) (both_sides left right x y is).1 ∙ at))) (gone_at x y is)

  links_then : (x y : ℕ) → is_linked unlinked x y ≡ (not (are_both left right x y) && is_linked p x y)
  links_then x y = without_one (are_both left right x y) (is_linked unlinked x y) (is_linked p x y) (links_more unlinked sound_gone p.marks into_before x y) (unlinked_at x y)

  edges_less : (x y : ℕ) → is_edge unlinked x y ≡ (not (are_both left right x y) && is_edge p x y)
  edges_less x y = without_one (are_both left right x y) (is_edge unlinked x y) (is_edge p x y) (edges_more unlinked sound_gone p.marks into_before x y)
      (λ is. no_edge unlinked sound_gone.dict x y (unlinked_at x y is))

  edges_gone : (x y : ℕ) → has_edge u x y ≡ is_edge unlinked x y
  edges_gone x y = search (rules, has_edge-without_edge, swapped, edges_less)

  told_then : (l r : List ℕ) → word_of p.dict left ≡ Some l → word_of p.dict right ≡ Some r → axioms_of unlinked ≡ filter (λ e. not (same_pair e (l, r))) (axioms_of p)
  told_then l r is_l is_r =
      axiom_gone (axioms_of unlinked) (l, r) (sorted_axioms unlinked) (axiom_told unlinked sound_gone left right l r is_l is_r ∙ pair_gone)
      ∙ ap (filter (λ e. not (same_pair e (l, r)))) (sym (told_more unlinked sound_gone p.marks into_before held.sound l r is_l is_r))

  pub unlinks : AreHeld unlinked u × Unlinks left right k unlinked
  unlinks = (
    record { sound = sound_gone; links = record { props = ap (λ (v : Taxonomy). v.props) unlinked_is ∙ held.links.props; edges = edges_gone } },
    subst (λ (x : Metadata). Unlinks left right x unlinked) is (record {
      slot = slot;
      below = one_gone.below;
      there = there;
      metadata = cc (emptied, marked);
      marks = marks_then p held.sound one_gone;
      pairs = pairs_then;
      linked = links_then;
      state = λ at l r is_l is_r. ap (λ (xs : List (List ℕ × List ℕ)). record (state_of p at) { axioms = xs }) (told_then l r is_l is_r);
      used = used_then unlinked sound_gone p.marks into_before;
    }),
  )

-- ---- why its edge is not missing
pub unlink_missed : {T : Type 0} (p : Metadata) (t : Taxonomy) → AreHeld p t → (left right : ℕ) → MayUnlink left right p → (r : Result T EdgeFault)
    → ((r ≡ Err Absent) ↔ (has_edge t left right ≡ false)) → r ≡ Err Absent → ⊥
unlink_missed p t held left right may r absent only =
    both_ways (has_edge t left right) (absent.0 only)
    (held.links.edges left right ∙ by (is_head_by (word_of p.dict left) (word_of p.dict right) || is_next_test p.dict p.declared left right))
  where
    by : (b : Bool) → (b || has_pair p.axioms left right) ≡ true
    by true = refl
    by false = may.there
