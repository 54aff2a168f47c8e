-- What holds of memory alone, whatever blocks hold.
use Rattle.std.specs.Prelude.{◌≡◌, ℕ, ◌<◌, ◌≤◌, nat_lt, true, false, Bool, ◌&&◌, is_some, Some, None, List, [], length, IsTrue, IsSome, slice_get}
use Rattle.std.specs.List.{list_all}
use Rattle.lis_blockmap.specs.Bitmap.{is_taken}
use Rattle.lis_dict.specs.Dict.{Dict, IsDict, number_of, word_of}
use Rattle.lis_catalog.specs.Catalog.{IsCatalog, rec_at}
use Rattle.std.specs.List.Sorted.{IsStrictlyIncreasing}
use Rattle.lis_ext.specs.Ext.{has, set_of}
use Rattle.lis_fields.specs.Records.{FileRecord}
use Rattle.lis_fields.specs.declared.slots.AxiomSlot.TheVariants.{Pair}
use Rattle.lis_fields.specs.Layouts.{is_prop, is_record}
use Rattle.lis_words.specs.Words.{is_plain_word, is_valued, head_bytes}
use Rattle.lis_model.specs.declared.limits.Limits.{Limits}
use Rattle.lis_model.specs.Ranges.{are_in_range}
use Rattle.lis_model.specs.Image.{data_start}
use Rattle.lis_kept.specs.Metadata.{Metadata, property_at}
use Rattle.lis_kept.specs.Areas.{axiom_slots}

-- a record in the ranges of the layout, whose words have numbers and whose blocks exist
abbrev pub is_sound_record : Limits → Dict → ℕ → FileRecord → Bool
is_sound_record limits dict blocks rec =
    is_record limits rec && list_all (λ n. is_some (word_of dict n)) rec.tags && list_all (λ n. nat_lt n blocks) rec.blocks

-- the numbers of an axiom slot have words, the right one a plain one; slots past the last number are free
pub record IsSoundAxiom (k : Metadata) (slot p q : ℕ) : Type 0 where
  pub below : slot < k.limits.props
  pub left : IsSome (word_of k.dict p)
  pub right : IsSome (word_of k.dict q)
  pub plain : (word : List ℕ) → word_of k.dict q ≡ Some word → IsTrue (is_plain_word word)

pub record AreSound (k : Metadata) : Type 0 where
  pub range : IsTrue (are_in_range k.limits)
  pub numbers : k.dict.props ≡ k.limits.props
  pub dict : IsDict k.dict
  -- the head of a valued word has a number too
  pub heads : (n : ℕ) (word : List ℕ) → word_of k.dict n ≡ Some word → is_valued word ≡ true → IsSome (number_of k.dict (head_bytes word))
  pub bits : length k.declared ≡ k.limits.props
  -- what is declared has a word
  pub flagged : (n : ℕ) → is_taken k.declared n ≡ true → IsSome (word_of k.dict n)
  pub properties : (n : ℕ) → IsTrue (is_prop (property_at k.dict k.declared n))
  pub axiom_count : length k.axioms ≡ (axiom_slots k.limits).count
  pub axioms : (slot left right : ℕ) → slice_get k.axioms slot ≡ Some (Pair left right) → IsSoundAxiom k slot left right
  pub slots : k.catalog.files ≡ k.limits.files
  pub catalog : IsCatalog k.catalog
  pub records : (slot : ℕ) (rec : FileRecord) → rec_at k.catalog slot ≡ Some rec → IsTrue (is_sound_record k.limits k.dict k.limits.blocks rec)
  pub blocks : length k.taken ≡ k.limits.blocks
  pub rows : k.ext.props ≡ k.limits.props
  pub files : length k.ext.sets ≡ k.limits.files
  -- the numbers of each set rise
  pub rising : (slot : ℕ) → slot < length k.ext.sets → IsStrictlyIncreasing (set_of k.ext slot)
  -- each number of a file's description has a word
  pub named : (n slot : ℕ) → IsSome (rec_at k.catalog slot) → has k.ext n slot ≡ true → IsSome (word_of k.dict n)
  -- rows that changed are marked by their blocks alone
  pub settled : k.ext.marks ≡ []
  pub marks : data_start k.limits ≤ length k.marks

-- a slot without a file has no numbers
abbrev pub FreeSlotsAreEmpty : Metadata → Type 0
FreeSlotsAreEmpty k = (slot : ℕ) → rec_at k.catalog slot ≡ None → (n : ℕ) → has k.ext n slot ≡ false
