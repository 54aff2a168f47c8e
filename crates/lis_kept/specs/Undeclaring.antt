-- Removing a declared word.
use Rattle.std.specs.Prelude.{◌≡◌, ◌≢◌, ℕ, ◌==◌, ◌||◌, ◌&&◌, not, true, false, Bool, if◌then◌else◌, Some, None, is_some, List, slice_get, slice_set}
use Rattle.std.specs.List.{list_any}
use Rattle.lis_blockmap.specs.Bitmap.{is_taken}
use Rattle.lis_dict.specs.Dict.{Dict, word_of, without_word}
use Rattle.lis_catalog.specs.Catalog.{rec_at}
use Rattle.lis_fields.specs.Records.{FileRecord}
use Rattle.lis_fields.specs.declared.slots.AxiomSlot.{AxiomSlot}
use Rattle.lis_fields.specs.declared.slots.AxiomSlot.TheVariants.{Free as FreeAxiom, Pair}
use Rattle.lis_model.specs.Changes.{undeclared}
use Rattle.lis_kept.specs.Metadata.{Metadata}
use Rattle.lis_kept.specs.Areas.{block_of}
use Rattle.lis_kept.specs.Areas.Area.{Properties}
use Rattle.lis_kept.specs.Telling.{state_of, is_left_of, is_head_by, is_left_head_of, is_had, is_named_left, is_used}
use Rattle.lis_kept.specs.Links.{is_linked}
use Rattle.lis_kept.specs.Changes.{Marks}
use Rattle.lis_kept.specs.TestEdges.{test_by}
use Rattle.lis_model.specs.Sets.{has_number}

-- The word is declared and in use for nothing else: no description has it, no axiom names it, no file was assigned it, and it is no known
-- word's head.
pub record MayUndeclare (number : ℕ) (k : Metadata) : Type 0 where
  pub declared : is_taken k.declared number ≡ true
  pub had : is_had k.ext number ≡ false
  pub lefts : is_named_left k number ≡ false
  pub rights : (slot left right : ℕ) → slice_get k.axioms slot ≡ Some (Pair left right) → right ≢ number
  pub tags : (slot : ℕ) (rec : FileRecord) → rec_at k.catalog slot ≡ Some rec → has_number rec.tags number ≡ false
  pub heads : (n : ℕ) → is_head_by (word_of k.dict n) (word_of k.dict number) ≡ false

-- The word of the number is not declared any more, and has no number.
pub record Undeclares (number : ℕ) (p q : Metadata) : Type 0 where
  pub word : List ℕ
  pub named : word_of p.dict number ≡ Some word
  pub metadata : q ≡ record p {
    dict = without_word p.dict word;
    declared = slice_set p.declared number false;
    marks = slice_set p.marks (block_of p.limits Properties number) true;
  }
  pub marks : Marks 1 p q
  pub words : (n : ℕ) → word_of q.dict n ≡ (if number == n then None else word_of p.dict n)
  pub state : (at : ℕ → List ℕ) → state_of q at ≡ undeclared (state_of p at) word
  pub used : (n : ℕ) → is_some (word_of q.dict n) ≡ true → is_used q n ≡ is_used p n
  -- other words have the links that they had
  pub linked : (x y : ℕ) → x ≢ number → y ≢ number → is_linked q x y ≡ is_linked p x y

-- ---- what is needed
abbrev pub is_right_of : ℕ → AxiomSlot → Bool
is_right_of n FreeAxiom = false
is_right_of n (Pair left right) = right == n

-- an axiom has it on its left or its right, or has it as the head of its left
abbrev pub is_named_by : Dict → ℕ → AxiomSlot → Bool
is_named_by dict n slot = is_left_of n slot || is_left_head_of dict n slot || is_right_of n slot

-- Some description has it, or an axiom names it. A test is in descriptions by sizes alone, and leaves them with its declaration.
abbrev pub is_needed : Metadata → ℕ → Bool
is_needed k n = (not (is_some (test_by (word_of k.dict n))) && is_had k.ext n) || list_any (is_named_by k.dict n) k.axioms
