-- A declared word that loses its number.
use Rattle.std.proofs.Common.{filter, arith}
use Rattle.lis_kept.proofs.Common.{common_steps, rules, ◌≡◌, ◌⊎◌, inl, inr, refl, sym, ap, ap₂, ◌∙◌, subst, ℕ, ◌==◌, ◌&&◌, ◌||◌, not, Bool, true, false, List, length, set, slice_get, Option, Some, None, is_some, cases_eq, eqb-true, and_parts, is_prop, is_declarable, declarable_not_valued, head_bytes, length-set, get_or-set_same, get_or-set_other, list_any, cases_lt, among_from_contains, Dict, word_of, without_word, Ext, has, Pair, Taxonomy, has_edge, same_word, both_ways, false_from_ne_true, get_or_past, any_from_among, neither}
use Rattle.std.proofs.lemmas.Bool.{eq-eqb}
use Rattle.std.proofs.Math.Bool.{or-false}
use Rattle.lis_blockmap.specs.Bitmap.{is_taken}
use Rattle.lis_kept.specs.Metadata.{Metadata, property_by}
use Rattle.lis_kept.specs.Areas.{block_of}
use Rattle.lis_kept.specs.Areas.Area.{Properties}
use Rattle.lis_kept.specs.Edges.{is_at}
use Rattle.lis_kept.specs.Telling.{declared_of, is_left_of, is_head_by, is_left_head_of, is_named_left, is_had}
use Rattle.lis_kept.specs.Links.{AreHeld, has_pair, is_edge}
use Rattle.lis_kept.specs.TestEdges.{is_next_test, RemovesTest}
use Rattle.lis_kept.specs.Undeclaring.{MayUndeclare, Undeclares}
use Rattle.lis_kept.proofs.Formed.{named_below}
use Rattle.lis_kept.proofs.OwnLinks.{among_slot, no_pair_to, no_pair_from}
use Rattle.lis_kept.proofs.NextTests.{no_test}
use Rattle.lis_kept.proofs.TestLinks.{no_head_none}
use Rattle.lis_kept.proofs.TestsAround.{removed}
use Rattle.lis_kept.proofs.OneWord.{OneWord, sound_then, marks_then, state_then, declared_less, linked_elsewhere, heads_elsewhere, test_elsewhere, used_same, Goes, word_left, word_gone, not_gone, goes}

-- a number that some file has is had
pub had_from : (e : Ext) (n slot : ℕ) → has e n slot ≡ true → is_had e n ≡ true
had_from e n slot has_it = grind (arith, common_steps, cases_lt, any_from_among, among_from_contains, get_or_past, both_ways)

-- a number that is not named on a left is on none
pub not_left : (k : Metadata) (number : ℕ) → is_named_left k number ≡ false → (slot left right : ℕ) → slice_get k.axioms slot ≡ Some (Pair left right) → left ≡ number → ⊥
not_left k number lefts slot left right is same =
    both_ways (list_any (is_left_of number) k.axioms) (neither (list_any (is_left_of number) k.axioms) (list_any (is_left_head_of k.dict number) k.axioms) lefts).0
    (any_from_among (is_left_of number) k.axioms (Pair left right) (among_slot k.axioms slot (Pair left right) is) (eq-eqb left number same))

-- edges of which one between tests replaces some: `s` is it, `a` and `b` are those, `h`, `f` and `c` to heads, between tests and by axioms
taken_out : (a b s h f c : Bool) → (a ≡ true → (h ≡ false) × (c ≡ false)) → (b ≡ true → (h ≡ false) × (c ≡ false)) → (s || (not a && (not b && ((h || f) || c)))) ≡ ((h || (s || (not a && (not b && f)))) || c)
taken_out true b s h f c to from = let no = to refl in sym (ap₂ (λ i j. (i || (s || false)) || j) no.0 no.1 ∙ or-false (s || false))
taken_out false true s h f c to from = let no = from refl in sym (ap₂ (λ i j. (i || (s || false)) || j) no.0 no.1 ∙ or-false (s || false))
taken_out false false true true f c to from = refl
taken_out false false true false f c to from = refl
taken_out false false false h f c to from = refl

-- over what memory kept
module _ (k p : Metadata) (t u : Taxonomy) (is : p ≡ k) (held : AreHeld p t) {number : ℕ} (may : MayUndeclare number p) {word : List ℕ} (there : word_of p.dict number ≡ Some word)
    (dict : Dict) (bits marks : List Bool) (dict_is : dict ≡ without_word p.dict word) (bits_are : bits ≡ set p.declared number false) (removes : RemovesTest p.dict p.declared number t u)
    (marked : marks ≡ set p.marks (block_of p.limits Properties number) true) where
  abbrev q : Metadata
  q = record p { dict = dict; declared = bits; marks = marks }

  go : Goes p word number dict
  go = search (rules, not_left, false_from_ne_true, both_ways, had_from)

  bit : is_taken bits number ≡ false
  bit = ap (λ bs. is_taken bs number) bits_are ∙ get_or-set_same p.declared number false false (omega (arith, named_below p held.sound number (ap is_some there), held.sound.bits))

  pub one : OneWord p number dict bits marks
  one =
      goes p held.sound go bits marks (ap length bits_are ∙ length-set p.declared number false)
      (λ n differ. ap (λ bs. is_taken bs n) bits_are ∙ get_or-set_other p.declared number n false false differ) bit marked

  none : word_of dict number ≡ None
  none = word_gone p held.sound go

  -- what is declared is not valued
  none_behind : (o : Option (List ℕ)) → is_head_by (word_of p.dict number) o ≡ false
  none_behind o = ap (λ w. is_head_by w o) there ∙ by o
    where
      form : is_declarable word ≡ true
      form = sym (ap₂ (λ o b. is_prop (property_by o b)) there may.declared) ∙ held.sound.properties number

      by : (o : Option (List ℕ)) → is_head_by (Some word) o ≡ false
      by None = refl
      by (Some v) = ap (λ b. b && same_word (head_bytes word) v) (declarable_not_valued word form)

  -- the word is no valued one, and no head of one
  no_head_at : (x y : ℕ) → (x ≡ number) ⊎ (y ≡ number) → is_head_by (word_of p.dict x) (word_of p.dict y) ≡ false
  no_head_at x y (inl same) = ap (λ m. is_head_by (word_of p.dict m) (word_of p.dict y)) same ∙ none_behind (word_of p.dict y)
  no_head_at x y (inr same) = ap (λ m. is_head_by (word_of p.dict x) (word_of p.dict m)) same ∙ may.heads x

  heads_same : (x y : ℕ) → (x ≡ number) ⊎ (x ≡ number → ⊥) → (y ≡ number) ⊎ (y ≡ number → ⊥) → is_head_by (word_of p.dict x) (word_of p.dict y) ≡ is_head_by (word_of dict x) (word_of dict y)
  heads_same x y (inl same) other = no_head_at x y (inl same) ∙ sym (ap (λ o. is_head_by o (word_of dict y)) (ap (word_of dict) same ∙ none))
  heads_same x y (inr differ) (inl same) = no_head_at x y (inr same) ∙ sym (ap (is_head_by (word_of dict x)) (ap (word_of dict) same ∙ none) ∙ no_head_none (word_of dict x))
  heads_same x y (inr differ) (inr apart) = sym (heads_elsewhere p held.sound one x y differ apart)

  no_pair_at : (x y : ℕ) → (x ≡ number) ⊎ (y ≡ number) → has_pair p.axioms x y ≡ false
  no_pair_at x y (inl same) = ap (λ m. has_pair p.axioms m y) same ∙ no_pair_from p.axioms number go.unnamed.sides y
  no_pair_at x y (inr same) = ap (has_pair p.axioms x) same ∙ no_pair_to p.axioms number go.unnamed.sides x

  edges_then : (x y : ℕ) → has_edge u x y ≡ is_edge q x y
  edges_then x y =
      removes.edges x y
      ∙ (ap (λ b. (is_at removes.stronger x && is_at removes.weaker y) || (not (is_at removes.stronger x && (number == y)) && (not ((number == x) && is_at removes.weaker y) && b))) (held.links.edges x y)
      ∙ (taken_out (is_at removes.stronger x && (number == y)) ((number == x) && is_at removes.weaker y) (is_at removes.stronger x && is_at removes.weaker y) (is_head_by (word_of p.dict x) (word_of p.dict y))
      (is_next_test p.dict p.declared x y) (has_pair p.axioms x y) (λ h. alone (inr (sym (eqb-true number y (and_parts (is_at removes.stronger x) (number == y) h).1))))
      (λ h. alone (inl (sym (eqb-true number x (and_parts (number == x) (is_at removes.weaker y) h).0))))
      ∙ ap₂ (λ h n. (h || n) || has_pair p.axioms x y) (heads_same x y (cases_eq x number) (cases_eq y number))
      (sym (removed p.dict held.sound.dict p.declared dict one.dict bits number (λ n differ. sym (test_elsewhere p held.sound one n differ)) (no_test dict bits number none) removes.stronger removes.weaker
      removes.neighbours x y))))
    where
      alone : (x ≡ number) ⊎ (y ≡ number) → (is_head_by (word_of p.dict x) (word_of p.dict y) ≡ false) × (has_pair p.axioms x y ≡ false)
      alone which = (no_head_at x y which, no_pair_at x y which)

  pub undeclares : AreHeld q u × Undeclares number k q
  undeclares = (
    record { sound = sound_then p held.sound one; links = record { props = removes.props ∙ held.links.props; edges = edges_then } },
    subst (λ (x : Metadata). Undeclares number x q) is (record {
      word = word;
      named = there;
      metadata = cc (dict_is, bits_are, marked);
      marks = marks_then p held.sound one;
      words = word_left p held.sound go;
      state = state_then p held.sound one (filter (λ v. not (same_word v word)) (declared_of p)) (declared_less p held.sound one word there bit);
      used = λ n some. used_same p held.sound one n (not_gone p held.sound go n some);
      linked = linked_elsewhere p held.sound one;
    }),
  )
