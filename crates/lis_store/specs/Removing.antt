-- A file that is removed from memory.
use Rattle.std.specs.Prelude.{◌≡◌, ℕ, ◌+◌, true, not, ◌&&◌, if◌then◌else◌, is_some, Some, None, List, [], length}
use Rattle.std.specs.List.Sorted.{IsStrictlyIncreasing}
use Rattle.lis_catalog.specs.Catalog.{rec_at, without_slot}
use Rattle.lis_dict.specs.Dict.{word_of}
use Rattle.lis_ext.specs.Ext.{set_of}
use Rattle.lis_fields.specs.Records.{FileRecord}
use Rattle.lis_model.specs.Changes.{file_removed}
use Rattle.lis_kept.specs.Metadata.{Metadata}
use Rattle.lis_kept.specs.Areas.{block_of, is_marked}
use Rattle.lis_kept.specs.Areas.Area.{Files}
use Rattle.lis_kept.specs.Sound.{AreSound}
use Rattle.lis_kept.specs.Telling.{state_of, is_used}
use Rattle.lis_kept.specs.Forgetting.{emptied}
use Rattle.lis_kept.specs.Changes.{Marks, Describes}
use Rattle.lis_model.specs.Sets.{has_number}

-- the metadata without the record in the slot
abbrev pub without_record : Metadata → ℕ → Metadata
without_record k slot = record k { catalog = without_slot k.catalog slot }

-- The record in the slot is removed, and so are the words that only the description in the slot uses. The slot is described as before.
pub record Vacates (slot : ℕ) (rec : FileRecord) (p q : Metadata) : Type 0 where
  pub there : rec_at p.catalog slot ≡ Some rec
  pub rising : IsStrictlyIncreasing (set_of p.ext slot)
  pub metadata : q ≡ record p { dict = q.dict; catalog = without_slot p.catalog slot; marks = q.marks }
  pub words : (n : ℕ) → word_of q.dict n ≡ (if has_number (set_of p.ext slot) n && not (is_used (emptied p slot) n) then None else word_of p.dict n)
  pub used : (n : ℕ) → is_some (word_of q.dict n) ≡ true → is_used (emptied q slot) n ≡ is_used (emptied p slot) n
  pub told : (at : ℕ → List ℕ) → state_of q at ≡ state_of (without_record p slot) at
  pub state : (at : ℕ → List ℕ) → state_of (without_record p slot) at ≡ file_removed (state_of p at) rec.name
  pub marks : Marks (1 + length (set_of p.ext slot)) p q
  pub marked : (block : ℕ) → is_marked p block ≡ true → is_marked q block ≡ true
  pub slot_marked : is_marked q (block_of p.limits Files slot) ≡ true
  pub sound : AreSound q

-- Its slot is vacated, and then its description is removed.
pub record TakesOut (slot : ℕ) (rec : FileRecord) (p q : Metadata) : Type 0 where
  pub vacated : Metadata
  pub vacates : Vacates slot rec p vacated
  pub empties : Describes slot [] vacated q
  pub sound : AreSound q
