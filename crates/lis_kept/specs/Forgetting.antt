-- When the words of numbers may be forgotten, and which are forgotten if a slot has no file but keeps its bits.
use Rattle.std.specs.Prelude.{◌≡◌, ◌≢◌, ℕ, ◌&&◌, not, true, false, if◌then◌else◌, is_some, IsSome, Some, None, List, [], length, slice_get, slice_set}
use Rattle.lis_dict.specs.Dict.{word_of}
use Rattle.lis_catalog.specs.Catalog.{rec_at}
use Rattle.lis_blockmap.specs.Bitmap.{is_taken}
use Rattle.lis_ext.specs.Ext.{has}
use Rattle.lis_fields.specs.Records.{FileRecord}
use Rattle.lis_fields.specs.declared.slots.AxiomSlot.TheVariants.{Pair}
use Rattle.lis_kept.specs.Metadata.{Metadata}
use Rattle.lis_kept.specs.Telling.{state_of, is_head_by, is_named_left, is_used, AreUsed}
use Rattle.lis_kept.specs.Areas.{is_marked}
use Rattle.lis_kept.specs.Changes.{Marks}
use Rattle.lis_model.specs.Sets.{has_number}

-- what memory keeps, without the description in a slot
abbrev pub emptied : Metadata → ℕ → Metadata
emptied k slot = record k { ext = record k.ext { sets = slice_set k.ext.sets slot [] } }

-- The word is not declared, no file has it or was assigned it, no axiom names it, and it is no known word's head. A slot without a file may
-- keep it.
pub record MayGo (number : ℕ) (k : Metadata) : Type 0 where
  pub flagged : is_taken k.declared number ≡ false
  pub had : (slot : ℕ) → IsSome (rec_at k.catalog slot) → has k.ext number slot ≡ false
  pub lefts : is_named_left k number ≡ false
  pub tags : (slot : ℕ) (rec : FileRecord) → rec_at k.catalog slot ≡ Some rec → has_number rec.tags number ≡ false
  pub rights : (slot left right : ℕ) → slice_get k.axioms slot ≡ Some (Pair left right) → right ≢ number
  pub heads : (n : ℕ) → is_head_by (word_of k.dict n) (word_of k.dict number) ≡ false

-- Every known word that is not in use has one of these numbers. What files were assigned and what axioms lead to is in use, and so is the
-- head of each word that is.
pub record MayForget (numbers : List ℕ) (k : Metadata) : Type 0 where
  pub given : (n : ℕ) → is_some (word_of k.dict n) ≡ true → is_used k n ≡ false → has_number numbers n ≡ true
  pub tags : (slot : ℕ) (rec : FileRecord) → rec_at k.catalog slot ≡ Some rec → (n : ℕ) → has_number rec.tags n ≡ true → is_used k n ≡ true
  pub rights : (slot left right : ℕ) → slice_get k.axioms slot ≡ Some (Pair left right) → is_used k right ≡ true
  pub heads : (n head : ℕ) → is_used k n ≡ true → is_head_by (word_of k.dict n) (word_of k.dict head) ≡ true → is_used k head ≡ true

-- Those of these numbers that nothing uses except the description in a slot have no word any more. The slot has no file, and keeps its
-- bits.
pub record ForgetsWithout (slot : ℕ) (numbers : List ℕ) (p q : Metadata) : Type 0 where
  pub metadata : q ≡ record p { dict = q.dict; marks = q.marks }
  pub props : q.dict.props ≡ p.dict.props
  pub marks : Marks (length numbers) p q
  pub marked : (block : ℕ) → is_marked p block ≡ true → is_marked q block ≡ true
  pub words : (n : ℕ) → word_of q.dict n ≡ (if has_number numbers n && not (is_used (emptied p slot) n) then None else word_of p.dict n)
  pub state : (at : ℕ → List ℕ) → state_of q at ≡ state_of p at
  pub used : (n : ℕ) → is_some (word_of q.dict n) ≡ true → is_used (emptied q slot) n ≡ is_used (emptied p slot) n

-- What is in use if memory describes a state: every known word is, a file has what it was assigned, and axioms lead to declared words.
pub record KeepsInUse (k : Metadata) : Type 0 where
  pub used : AreUsed k
  pub tags : (slot : ℕ) (rec : FileRecord) → rec_at k.catalog slot ≡ Some rec → (n : ℕ) → has_number rec.tags n ≡ true → has k.ext n slot ≡ true
  pub rights : (slot left right : ℕ) → slice_get k.axioms slot ≡ Some (Pair left right) → is_taken k.declared right ≡ true
