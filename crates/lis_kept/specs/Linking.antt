-- One more axiom, and one fewer.
use Rattle.std.specs.Prelude.{◌≡◌, ℕ, ◌<◌, ◌==◌, true, false, Bool, not, ◌&&◌, ◌||◌, Some, List, slice_get, slice_set, IsTrue}
use Rattle.lis_dict.specs.Dict.{word_of}
use Rattle.lis_fields.specs.declared.slots.AxiomSlot.{AxiomSlot}
use Rattle.lis_fields.specs.declared.slots.AxiomSlot.TheVariants.{Free as FreeAxiom, Pair}
use Rattle.lis_words.specs.Words.{has_word, is_plain_word}
use Rattle.lis_model.specs.State.{up}
use Rattle.lis_model.specs.Changes.{axiom_added, axiom_removed}
use Rattle.lis_kept.specs.Metadata.{Metadata}
use Rattle.lis_kept.specs.Areas.{block_of}
use Rattle.lis_kept.specs.Areas.Area.{Axioms}
use Rattle.lis_kept.specs.Telling.{declared_of, axioms_of, state_of, is_head_by, is_used}
use Rattle.lis_kept.specs.Links.{has_pair, is_linked}
use Rattle.lis_kept.specs.Changes.{Marks}

abbrev pub is_free : AxiomSlot → Bool
is_free FreeAxiom = true
is_free (Pair left right) = false

abbrev pub is_filled : AxiomSlot → Bool
is_filled slot = not (is_free slot)

-- the numbers are those of the two
abbrev pub are_both : ℕ → ℕ → ℕ → ℕ → Bool
are_both left right x y = (left == x) && (right == y)

-- An axiom may be added that leads from the word of the one number to that of the other: it is new, no chain of links leads back, and a
-- slot is free.
pub record MayLink (left right : ℕ) (k : Metadata) : Type 0 where
  pub from : List ℕ
  pub to : List ℕ
  pub is_left : word_of k.dict left ≡ Some from
  pub is_right : word_of k.dict right ≡ Some to
  pub plain : IsTrue (is_plain_word to)
  pub new : has_pair k.axioms left right ≡ false
  pub no_circle : has_word (up (declared_of k) (axioms_of k) to) from ≡ false
  pub slot : ℕ
  pub below : slot < k.limits.props
  pub free : slice_get k.axioms slot ≡ Some FreeAxiom

-- The axiom from the word of the one number to that of the other is in a slot that was free. Its left word and the head of that are in use
-- from now on.
pub record Links (left right : ℕ) (p q : Metadata) : Type 0 where
  pub slot : ℕ
  pub below : slot < p.limits.props
  pub free : slice_get p.axioms slot ≡ Some FreeAxiom
  pub metadata : q ≡ record p {
    axioms = slice_set p.axioms slot (Pair left right);
    marks = slice_set p.marks (block_of p.limits Axioms slot) true;
  }
  pub marks : Marks 1 p q
  pub pairs : (x y : ℕ) → has_pair q.axioms x y ≡ (are_both left right x y || has_pair p.axioms x y)
  pub linked : (x y : ℕ) → is_linked q x y ≡ (are_both left right x y || is_linked p x y)
  pub state : (at : ℕ → List ℕ) (l r : List ℕ) → word_of p.dict left ≡ Some l → word_of p.dict right ≡ Some r → state_of q at ≡ axiom_added (state_of p at) (l, r)
  pub used : (n : ℕ) → is_used q n ≡ ((left == n) || is_head_by (word_of p.dict left) (word_of p.dict n) || is_used p n)

-- The axiom from the word of the one number to that of the other is in one slot. Its right word is plain, so it is no head, to which an own
-- link could lead.
pub record MayUnlink (left right : ℕ) (k : Metadata) : Type 0 where
  pub there : has_pair k.axioms left right ≡ true
  pub once : (slot other : ℕ) → slice_get k.axioms slot ≡ Some (Pair left right) → slice_get k.axioms other ≡ Some (Pair left right) → slot ≡ other
  pub plain : (to : List ℕ) → word_of k.dict right ≡ Some to → IsTrue (is_plain_word to)

-- The slot of the axiom is free now. Only its left word and the head of that may no longer be in use.
pub record Unlinks (left right : ℕ) (p q : Metadata) : Type 0 where
  pub slot : ℕ
  pub below : slot < p.limits.props
  pub there : slice_get p.axioms slot ≡ Some (Pair left right)
  pub metadata : q ≡ record p {
    axioms = slice_set p.axioms slot FreeAxiom;
    marks = slice_set p.marks (block_of p.limits Axioms slot) true;
  }
  pub marks : Marks 1 p q
  pub pairs : (x y : ℕ) → has_pair q.axioms x y ≡ (not (are_both left right x y) && has_pair p.axioms x y)
  pub linked : (x y : ℕ) → is_linked q x y ≡ (not (are_both left right x y) && is_linked p x y)
  pub state : (at : ℕ → List ℕ) (l r : List ℕ) → word_of p.dict left ≡ Some l → word_of p.dict right ≡ Some r → state_of q at ≡ axiom_removed (state_of p at) (l, r)
  pub used : (n : ℕ) → is_used p n ≡ ((left == n) || is_head_by (word_of p.dict left) (word_of p.dict n) || is_used q n)
