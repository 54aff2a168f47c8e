-- The checks of opening: which part fails its check, by what the blocks of an image hold, and the order of the parts.
use Rattle.std.specs.Prelude.{◌≡◌, ◌≢◌, ◌⊎◌, ℕ, ◌+◌, ◌*◌, ◌/◌, ◌%◌, ◌≤◌, ◌<◌, Bool, false, List, [], Some, None, length, IsTrue}
use Rattle.std.specs.BTreeSet.{insert_key}
use Rattle.std.specs.List.{fold, Contains}
use Rattle.lis_limits.specs.declared.TheConstants.{BLOCK_BITS, MAX_DESCRIPTION}
use Rattle.lis_bits.specs.Bytes.{bits_bytes}
use Rattle.lis_journal.specs.Record.{block, bad_record, replayed}
use Rattle.lis_slots.specs.Slots.{Slots, slot}
use Rattle.lis_blockmap.specs.Bitmap.{has_bit}
use Rattle.lis_fields.specs.Records.{FileRecord}
use Rattle.lis_fields.specs.Layouts.{zeros, prop_bytes, is_prop, axiom_bytes, is_axiom, file_bytes, is_file, set_bytes}
use Rattle.lis_fields.specs.declared.slots.PropSlot.{PropSlot}
use Rattle.lis_fields.specs.declared.slots.AxiomSlot.{AxiomSlot}
use Rattle.lis_fields.specs.declared.slots.AxiomSlot.TheVariants.{Free as FreeAxiom, Pair}
use Rattle.lis_fields.specs.declared.slots.FileSlot.{FileSlot}
use Rattle.lis_fields.specs.declared.slots.FileSlot.TheVariants.{Free as FreeFile, Used}
use Rattle.lis_words.specs.Words.{is_plain_word, is_valued, head_bytes, has_word}
use Rattle.lis_model.specs.declared.limits.Limits.{Limits}
use Rattle.lis_model.specs.declared.spot.Spot.{Spot}
use Rattle.lis_model.specs.declared.spot.Spot.TheVariants.{Super, BadRecord, Property, Axiom, File, Word, Bitmap, Row, Set}
use Rattle.lis_model.specs.Image.{bitmap_blocks}
use Rattle.lis_model.specs.Sets.{set_of, are_distinct, has_number}
use Rattle.lis_model.specs.State.{Entails, file_words, known, is_assignable, is_nameable, pair_cmp}
use Rattle.lis_kept.specs.Areas.{bitmap_home, property_slots, axiom_slots, file_slots, row_slots, set_slots}
use Rattle.lis_kept.specs.Telling.{blocks_told, HasIndex}
use Rattle.lis_store.specs.Stands.{Contents, AreSlots, word_in, words_in, word_at, all_declared, pairs_in, file_by, spelled_state, row_bit, set_by}
use Rattle.lis_open.specs.Opens.{HasSuper}
use Rattle.lis_kept.specs.Image.{image_layout}

-- ---- what slots hold
-- there is such a slot; it is spelled as this value, which is in the ranges of the layout
pub record IsSlot {X : Type 0} (spelled : X → List ℕ) (is_in_range : X → Bool) (slots : Slots) (at : ℕ → List ℕ) (n : ℕ) (value : X) : Type 0 where
  pub below : n < slots.count
  pub bytes : slot slots at n ≡ spelled value
  pub range : IsTrue (is_in_range value)

abbrev pub IsProperty : Limits → (ℕ → List ℕ) → ℕ → PropSlot → Type 0
IsProperty limits at n property = IsSlot prop_bytes is_prop (property_slots limits) at n property

abbrev pub IsAxiom : Limits → (ℕ → List ℕ) → ℕ → AxiomSlot → Type 0
IsAxiom limits at n value = IsSlot axiom_bytes is_axiom (axiom_slots limits) at n value

abbrev pub IsFile : Limits → (ℕ → List ℕ) → ℕ → FileSlot → Type 0
IsFile limits at n file = IsSlot (file_bytes limits.version) (is_file limits) (file_slots limits) at n file

-- the property slots are these, all of them in the layout
abbrev pub AreProperties : Limits → (ℕ → List ℕ) → List PropSlot → Type 0
AreProperties limits at properties = AreSlots prop_bytes is_prop (property_slots limits) at properties

-- the first `count` axiom slots are these, all of them in the layout
abbrev pub AreFirstAxiomSlots : Limits → (ℕ → List ℕ) → ℕ → List AxiomSlot → Type 0
AreFirstAxiomSlots limits at count axioms = AreSlots axiom_bytes is_axiom (record (axiom_slots limits) { count = count }) at axioms

abbrev pub AreAxioms : Limits → (ℕ → List ℕ) → List AxiomSlot → Type 0
AreAxioms limits at axioms = AreSlots axiom_bytes is_axiom (axiom_slots limits) at axioms

-- the property, axiom and file slots are these
pub record AreContents (limits : Limits) (at : ℕ → List ℕ) (contents : Contents) : Type 0 where
  pub properties : AreProperties limits at contents.properties
  pub axioms : AreAxioms limits at contents.axioms
  pub files : AreSlots (file_bytes limits.version) (is_file limits) (file_slots limits) at contents.files

-- the property slot has the word
pub record HasWord (limits : Limits) (at : ℕ → List ℕ) (n : ℕ) (word : List ℕ) : Type 0 where
  pub property : PropSlot
  pub is : IsProperty limits at n property
  pub has : word_in property ≡ Some word

-- some file uses the block, for its bytes or as an index block
pub record IsUsed (limits : Limits) (at : ℕ → List ℕ) (data_block : ℕ) : Type 0 where
  pub slot : ℕ
  pub rec : FileRecord
  pub is : IsFile limits at slot (Used rec)
  pub has : IsTrue (has_number (blocks_told limits at rec) data_block)

-- ---- what they represent
-- the declared words, a set
abbrev pub declared_by : List PropSlot → List (List ℕ)
declared_by properties = set_of (all_declared properties)

-- the axioms, a set
abbrev pub axioms_by : List PropSlot → List AxiomSlot → List (List ℕ × List ℕ)
axioms_by properties axioms = fold (insert_key pair_cmp) [] (pairs_in properties axioms)

-- the description of a record's file
abbrev pub description_by : Limits → List PropSlot → List AxiomSlot → (ℕ → List ℕ) → FileRecord → List (List ℕ)
description_by limits properties axioms at rec = file_words (declared_by properties) (axioms_by properties axioms) (file_by limits properties at rec)

-- ---- words
-- a property slot before this one has its word
pub record HasWordBefore (limits : Limits) (at : ℕ → List ℕ) (n : ℕ) (property : PropSlot) : Type 0 where
  pub word : List ℕ
  pub has : word_in property ≡ Some word
  pub earlier : ℕ
  pub before : earlier < n
  pub there : HasWord limits at earlier word

-- A property slot is not in its layout, or its word is in an earlier slot.
pub record PropertyFails (limits : Limits) (at : ℕ → List ℕ) (n : ℕ) : Type 0 where
  pub below : n < limits.props
  pub fault : (property : PropSlot) → IsProperty limits at n property → HasWordBefore limits at n property

-- ---- axioms
-- what may be wrong with the axiom of a slot, by all words and the axiom slots before it
pub data AxiomFault (limits : Limits) (properties : List PropSlot) (earlier : List AxiomSlot) (n left right : ℕ) : Type 0 where
  -- the slot must be free
  PastLast : limits.props ≤ n → AxiomFault limits properties earlier n left right
  -- no word has the number
  LeftUnnumbered : word_at properties left ≡ None → AxiomFault limits properties earlier n left right
  RightUnnumbered : word_at properties right ≡ None → AxiomFault limits properties earlier n left right
  -- the right word is not plain, or not declared
  RightNotPlain : (q : List ℕ) → word_at properties right ≡ Some q → is_plain_word q ≡ false → AxiomFault limits properties earlier n left right
  RightUndeclared : (q : List ℕ) → word_at properties right ≡ Some q → has_word (declared_by properties) q ≡ false → AxiomFault limits properties earlier n left right
  -- an axiom may not name the left word
  LeftUnnameable : (p : List ℕ) → word_at properties left ≡ Some p → is_nameable (declared_by properties) p ≡ false → AxiomFault limits properties earlier n left right
  -- the left word is valued, and no slot has its head
  HeadUnnumbered : (p : List ℕ) → word_at properties left ≡ Some p → IsTrue (is_valued p) → has_word (words_in properties) (head_bytes p) ≡ false
      → AxiomFault limits properties earlier n left right
  -- an earlier slot has the pair
  PairThere : Contains earlier (Pair left right) → AxiomFault limits properties earlier n left right
  -- with the earlier ones it closes a cycle
  Circle : (p q : List ℕ) → word_at properties left ≡ Some p → word_at properties right ≡ Some q
      → Entails (declared_by properties) (axioms_by properties earlier) q p → AxiomFault limits properties earlier n left right

abbrev pub HasAxiomFault : Limits → List PropSlot → List AxiomSlot → ℕ → AxiomSlot → Type 0
HasAxiomFault limits properties earlier n FreeAxiom = ⊥
HasAxiomFault limits properties earlier n (Pair left right) = AxiomFault limits properties earlier n left right

-- An axiom slot is not in its layout, or something is wrong with its axiom.
pub record AxiomFails (limits : Limits) (at : ℕ → List ℕ) (n : ℕ) : Type 0 where
  pub below : n < (axiom_slots limits).count
  pub properties : List PropSlot
  pub words : AreProperties limits at properties
  pub earlier : List AxiomSlot
  pub before : AreFirstAxiomSlots limits at n earlier
  pub fault : (value : AxiomSlot) → IsAxiom limits at n value → HasAxiomFault limits properties earlier n value

-- ---- files
-- what may be wrong with the file of a slot, by all words and axioms
pub data FileFault (limits : Limits) (at : ℕ → List ℕ) (properties : List PropSlot) (axioms : List AxiomSlot) (n : ℕ) (rec : FileRecord) : Type 0 where
  -- a file in an earlier slot has its name
  NameTaken : (earlier : ℕ) (other : FileRecord) → earlier < n → IsFile limits at earlier (Used other) → other.name ≡ rec.name → FileFault limits at properties axioms n rec
  -- no word has one of its numbers
  TagUnnumbered : (tag : ℕ) → IsTrue (has_number rec.tags tag) → word_at properties tag ≡ None → FileFault limits at properties axioms n rec
  -- a word of one of its numbers may not be assigned to files
  TagUnassignable : (tag : ℕ) (word : List ℕ) → IsTrue (has_number rec.tags tag) → word_at properties tag ≡ Some word
      → is_assignable (declared_by properties) word ≡ false → FileFault limits at properties axioms n rec
  -- there is no such block
  BlockMissing : (data_block : ℕ) → IsTrue (has_number (blocks_told limits at rec) data_block) → limits.blocks ≤ data_block → FileFault limits at properties axioms n rec
  -- an index block of it is malformed
  IndexUnformed : (HasIndex limits at rec → ⊥) → FileFault limits at properties axioms n rec
  -- it uses a block twice
  BlockTwice : are_distinct (blocks_told limits at rec) ≡ false → FileFault limits at properties axioms n rec
  -- a file in an earlier slot uses one of its blocks
  BlockTaken : (earlier : ℕ) (other : FileRecord) (data_block : ℕ) → earlier < n → IsFile limits at earlier (Used other)
      → IsTrue (has_number (blocks_told limits at other) data_block) → IsTrue (has_number (blocks_told limits at rec) data_block)
      → FileFault limits at properties axioms n rec
  -- no slot has a word of its description
  WordUnnumbered : (word : List ℕ) → IsTrue (has_word (description_by limits properties axioms at rec) word) → has_word (words_in properties) word ≡ false
      → FileFault limits at properties axioms n rec
  -- its description has more words than a state allows
  TooManyWords : MAX_DESCRIPTION < length (description_by limits properties axioms at rec) → FileFault limits at properties axioms n rec

abbrev pub HasFileFault : Limits → (ℕ → List ℕ) → List PropSlot → List AxiomSlot → ℕ → FileSlot → Type 0
HasFileFault limits at properties axioms n FreeFile = ⊥
HasFileFault limits at properties axioms n (Used rec) = FileFault limits at properties axioms n rec

-- A file slot is not in its layout, or something is wrong with its file.
pub record FileFails (limits : Limits) (at : ℕ → List ℕ) (n : ℕ) : Type 0 where
  pub below : n < limits.files
  pub properties : List PropSlot
  pub words : AreProperties limits at properties
  pub axioms : List AxiomSlot
  pub pairs : AreAxioms limits at axioms
  pub fault : (file : FileSlot) → IsFile limits at n file → HasFileFault limits at properties axioms n file

-- ---- what follows from them
-- The word of a property slot is not known: it is not declared, no file's description has it, and it is no left side of an axiom and the
-- head of none.
pub record WordFails (limits : Limits) (at : ℕ → List ℕ) (n : ℕ) : Type 0 where
  pub contents : Contents
  pub are : AreContents limits at contents
  pub word : List ℕ
  pub has : word_at contents.properties n ≡ Some word
  pub unknown : has_word (known (spelled_state limits contents at)) word ≡ false

-- bit n of the bitmap, over all its blocks
abbrev pub has_bitmap_bit : Limits → (ℕ → List ℕ) → ℕ → Bool
has_bitmap_bit limits at n = has_bit (at (bitmap_home limits n)) (n % BLOCK_BITS)

-- A bit of the bitmap is 1 and no file uses the block, or it is 0 and some file does.
pub record BitFails (limits : Limits) (at : ℕ → List ℕ) (n : ℕ) : Type 0 where
  pub below : n < BLOCK_BITS * bitmap_blocks limits
  pub fault : (IsTrue (has_bitmap_bit limits at n) × (IsUsed limits at n → ⊥)) ⊎ ((has_bitmap_bit limits at n ≡ false) × IsUsed limits at n)

-- what may be wrong with a row
pub data RowFault (limits : Limits) (at : ℕ → List ℕ) (contents : Contents) (n : ℕ) : Type 0 where
  -- some bit is wrong: it does not show whether a file's description has the word
  RowWrong : n < limits.props → n < (row_slots limits).count → slot (row_slots limits) at n ≢ bits_bytes (limits.files / 8) (row_bit (spelled_state limits contents at) limits contents at n)
      → RowFault limits at contents n
  -- the rest of the part after the last row is not zero
  RestNotZero : n ≡ limits.props → (p : ℕ) → limits.props ≤ p → p < (row_slots limits).count → slot (row_slots limits) at p ≢ zeros (limits.files / 8)
      → RowFault limits at contents n

-- A row does not show which file's description has its word. Or the rest of the part is not zero, which counts as the row after the last
-- one.
pub record RowFails (limits : Limits) (at : ℕ → List ℕ) (n : ℕ) : Type 0 where
  pub contents : Contents
  pub are : AreContents limits at contents
  pub fault : RowFault limits at contents n

-- A set does not have exactly the numbers of the words of its file's description; that of a free slot is zero.
pub record SetFails (limits : Limits) (at : ℕ → List ℕ) (n : ℕ) : Type 0 where
  pub below : n < (set_slots limits).count
  pub contents : Contents
  pub are : AreContents limits at contents
  pub wrong : slot (set_slots limits) at n ≢ set_bytes (set_by (spelled_state limits contents at) limits contents at n)

-- the check of a part after the journal fails
abbrev pub Fails : Limits → (ℕ → List ℕ) → Spot → Type 0
Fails limits at Super = ⊥
Fails limits at (BadRecord b) = ⊥
Fails limits at (Property n) = PropertyFails limits at n
Fails limits at (Axiom n) = AxiomFails limits at n
Fails limits at (File n) = FileFails limits at n
Fails limits at (Word n) = WordFails limits at n
Fails limits at (Bitmap n) = BitFails limits at n
Fails limits at (Row n) = RowFails limits at n
Fails limits at (Set n) = SetFails limits at n

-- ---- images
-- the check of a part of the replayed image fails
pub record FailsReplayed (image : List ℕ) (spot : Spot) : Type 0 where
  pub limits : Limits
  pub super : HasSuper limits image
  pub replay : List ℕ
  pub replays : replayed (image_layout limits) image ≡ Some replay
  pub fails : Fails limits (λ n. block n replay) spot

-- the record that begins at block b is the first open one that is malformed
pub record RecordFails (image : List ℕ) (b : ℕ) : Type 0 where
  pub limits : Limits
  pub super : HasSuper limits image
  pub replays : replayed (image_layout limits) image ≡ None
  pub bad : bad_record (image_layout limits) image ≡ Some b

-- the check of a part of an image fails
abbrev pub FailsIn : List ℕ → Spot → Type 0
FailsIn image Super = (limits : Limits) → HasSuper limits image → ⊥
FailsIn image (BadRecord b) = RecordFails image b
FailsIn image (Property n) = FailsReplayed image (Property n)
FailsIn image (Axiom n) = FailsReplayed image (Axiom n)
FailsIn image (File n) = FailsReplayed image (File n)
FailsIn image (Word n) = FailsReplayed image (Word n)
FailsIn image (Bitmap n) = FailsReplayed image (Bitmap n)
FailsIn image (Row n) = FailsReplayed image (Row n)
FailsIn image (Set n) = FailsReplayed image (Set n)

-- ---- the order of checks
-- the kinds of parts, in their order
abbrev pub rank : Spot → ℕ
rank Super = 0
rank (BadRecord b) = 1
rank (Property n) = 2
rank (Axiom n) = 3
rank (File n) = 4
rank (Word n) = 5
rank (Bitmap n) = 6
rank (Row n) = 7
rank (Set n) = 8

-- the index of a part among those of its kind
abbrev pub place : Spot → ℕ
place Super = 0
place (BadRecord b) = b
place (Property n) = n
place (Axiom n) = n
place (File n) = n
place (Word n) = n
place (Bitmap n) = n
place (Row n) = n
place (Set n) = n

abbrev pub IsBefore : Spot → Spot → Type 0
IsBefore a b = (rank a < rank b) ⊎ ((rank a ≡ rank b) × (place a < place b))

-- the first check that fails is that of this part
pub record FailsFirst (image : List ℕ) (spot : Spot) : Type 0 where
  pub fails : FailsIn image spot
  pub none_before : (earlier : Spot) → IsBefore earlier spot → FailsIn image earlier → ⊥
