-- The changes of memory. Each marks the blocks that it touches, and says what becomes of the state.
use Rattle.std.specs.Prelude.{◌≡◌, ◌⊎◌, ℕ, ◌+◌, ◌<◌, ◌≤◌, nat_lt, Bool, true, false, ◌&&◌, not, if◌then◌else◌, is_some, Some, None, List, [], length, map, filter, slice_set, IsTrue}
use Rattle.lis_journal.specs.Journal.{Held, shape_of}
use Rattle.lis_ports.specs.Meaning.{Meaning}
use Rattle.lis_ports.specs.Runs.{Leaves}
use Rattle.lis_journal.specs.Images.{StandsBut, Fits, KeepsPast, is_among, look}
use Rattle.lis_journal.specs.Phases.{looked}
use Rattle.std.specs.List.{list_all}
use Rattle.lis_limits.specs.declared.TheConstants.{SLOT_BLOCKS}
use Rattle.lis_content.specs.Content.{given, marked, are_free, has_home}
use Rattle.lis_content.specs.Large.{is_large}
use Rattle.lis_content.specs.Placing.{homes_of, HasFile}
use Rattle.lis_dict.specs.Dict.{words, number_of, word_of, with_entry}
use Rattle.lis_catalog.specs.Catalog.{rec_at, without_slot, with_filed}
use Rattle.lis_ext.specs.Ext.{set_of}
use Rattle.lis_ext.specs.Numbers.{differs, numbers_where}
use Rattle.lis_fields.specs.Records.{FileRecord}
use Rattle.lis_fields.specs.Layouts.{are_blocks}
use Rattle.lis_model.specs.declared.limits.Limits.{Limits}
use Rattle.lis_model.specs.Image.{bitmap_blocks, data_start}
use Rattle.lis_model.specs.Sets.{with_word, are_distinct, has_number}
use Rattle.lis_model.specs.Changes.{declared_under, new_file, file_added, file_removed}
use Rattle.lis_kept.specs.Metadata.{Metadata}
use Rattle.lis_kept.specs.Areas.{IsSaved, block_of, bitmap_home, description_home, marked_count}
use Rattle.lis_kept.specs.Areas.Area.{Properties, Files as FileArea}
use Rattle.lis_kept.specs.Telling.{state_of, words_told, bytes_told, blocks_told, is_used, AreUsed}

-- what every change keeps: slots in blocks that are not marked are spelled as before, and at most `most` more blocks are marked
pub record Marks (most : ℕ) (p q : Metadata) : Type 0 where
  pub saved : (at : ℕ → List ℕ) → IsSaved p at → IsSaved q at
  pub few : marked_count q ≤ marked_count p + most

-- ---- words
-- a new word, declared
pub record Declares (word : List ℕ) (p q : Metadata) : Type 0 where
  pub number : ℕ
  pub below : number < p.limits.props
  pub free : word_of p.dict number ≡ None
  pub metadata : q ≡ record p {
    dict = with_entry p.dict word number;
    declared = slice_set p.declared number true;
    marks = slice_set p.marks (block_of p.limits Properties number) true;
  }
  pub marks : Marks 1 p q
  pub state : (at : ℕ → List ℕ) → state_of q at ≡ declared_under (state_of p at) word []
  -- if every known word was in use, it still is
  pub used : AreUsed p → AreUsed q

-- A word that is known and not declared, with its number: the one that it had, or a free one.
pub record Learns (word : List ℕ) (number : ℕ) (p q : Metadata) : Type 0 where
  pub below : number < p.limits.props
  pub metadata : ((number_of p.dict word ≡ Some number) × (q ≡ p))
      ⊎ ((number_of p.dict word ≡ None) × (word_of p.dict number ≡ None)
      × (q ≡ record p { dict = with_entry p.dict word number; marks = slice_set p.marks (block_of p.limits Properties number) true }))
  pub marks : Marks 1 p q
  pub words : words q.dict ≡ with_word (words p.dict) word
  pub named : word_of q.dict number ≡ Some word
  -- every other number keeps its word
  pub keeps : (n : ℕ) (w : List ℕ) → word_of p.dict n ≡ Some w → word_of q.dict n ≡ Some w
  pub only : (n : ℕ) (w : List ℕ) → word_of q.dict n ≡ Some w → (word_of p.dict n ≡ Some w) ⊎ ((n ≡ number) × (w ≡ word))
  pub state : (at : ℕ → List ℕ) → state_of q at ≡ state_of p at

-- Those of these numbers that are not in use have no word any more.
pub record Forgets (numbers : List ℕ) (p q : Metadata) : Type 0 where
  pub metadata : q ≡ record p { dict = q.dict; marks = q.marks }
  pub props : q.dict.props ≡ p.dict.props
  pub marks : Marks (length numbers) p q
  pub words : (n : ℕ) → word_of q.dict n ≡ (if has_number numbers n && not (is_used p n) then None else word_of p.dict n)
  pub state : (at : ℕ → List ℕ) → state_of q at ≡ state_of p at
  pub used : (n : ℕ) → is_some (word_of q.dict n) ≡ true → is_used q n ≡ is_used p n

-- ---- descriptions
-- The file slot has these numbers now. At most as many edits of rows are made as there are numbers that differ, the count of edits does not
-- fall, and exactly the blocks are marked that show who has these numbers: in version 3 that of the file's set, and before it those of rows.
pub record Describes (slot : ℕ) (numbers : List ℕ) (p q : Metadata) : Type 0 where
  pub metadata : q ≡ record p { ext = q.ext; marks = q.marks }
  pub props : q.ext.props ≡ p.ext.props
  pub sets : q.ext.sets ≡ slice_set p.ext.sets slot numbers
  pub settled : q.ext.marks ≡ []
  pub edits : (old : List ℕ) → old ≡ set_of p.ext slot → q.ext.edits ≤ p.ext.edits + length (numbers_where p.ext.props (differs old numbers))
  pub no_fewer : p.ext.edits ≤ q.ext.edits
  pub touched : (old : List ℕ) → old ≡ set_of p.ext slot → q.marks ≡ marked p.marks (map (description_home p.limits slot) (numbers_where p.ext.props (differs old numbers)))
  pub marks : (old : List ℕ) → old ≡ set_of p.ext slot → Marks (length (numbers_where p.ext.props (differs old numbers))) p q

-- ---- files
-- The file in the slot is removed. Its blocks stay taken.
pub record Drops (slot : ℕ) (rec : FileRecord) (p q : Metadata) : Type 0 where
  pub there : rec_at p.catalog slot ≡ Some rec
  pub metadata : q ≡ record p {
    catalog = without_slot p.catalog slot;
    marks = slice_set p.marks (block_of p.limits FileArea slot) true;
  }
  pub marks : Marks 1 p q
  pub state : (at : ℕ → List ℕ) → state_of q at ≡ file_removed (state_of p at) rec.name

-- A record is put into a free slot. Its file has the bytes that its blocks hold.
pub record Files (slot : ℕ) (rec : FileRecord) (p q : Metadata) : Type 0 where
  pub below : slot < p.limits.files
  pub free : rec_at p.catalog slot ≡ None
  pub metadata : q ≡ record p {
    catalog = with_filed p.catalog slot rec;
    marks = slice_set p.marks (block_of p.limits FileArea slot) true;
  }
  pub marks : Marks 1 p q
  pub state : (at : ℕ → List ℕ) → state_of q at ≡ file_added (state_of p at) (new_file rec.name (words_told p.dict rec.tags) (bytes_told p.limits at rec))

-- ---- blocks
-- the blocks of the bitmap with the bits of these data blocks, as far as the image has them
abbrev pub bitmap_homes : Limits → List ℕ → List ℕ
bitmap_homes limits blocks = map (bitmap_home limits) (filter (λ b. nat_lt b limits.blocks) blocks)

-- Now `taken` is what is taken, and exactly the blocks of the bitmap that have the bits of these data blocks are marked besides.
pub record Takes (blocks : List ℕ) (taken : List Bool) (p q : Metadata) : Type 0 where
  pub metadata : q ≡ record p { taken = taken; marks = marked p.marks (bitmap_homes p.limits blocks) }
  pub len : length taken ≡ length p.taken
  pub marks : Marks (bitmap_blocks p.limits) p q

-- The blocks of a file are freed: those that its slot and its index blocks number, by what the disk keeps under this journal. Without index
-- blocks they are those of the slot, whatever the disk keeps.
pub record GivesBack (rec : FileRecord) (p q : Metadata) (journal : Held) (m : Meaning) : Type 0 where
  pub blocks : List ℕ
  pub takes : Takes blocks (given p.taken blocks) p q
  pub small : is_large rec.size ≡ false → blocks ≡ rec.blocks
  pub told : (kept : ℕ → List ℕ) → Fits journal m kept → blocks ≡ blocks_told p.limits (looked journal.staged kept) rec

-- Blocks hold a content: the disk keeps the same as before in all others, and in these the bytes, which the numbers give.
pub record Lands (limits : Limits) (bytes numbers blocks : List ℕ) (at : ℕ → List ℕ) (new : Held) (after : Meaning) : Type 0 where
  pub kept : ℕ → List ℕ
  pub fits : Fits new after kept
  pub same : (n : ℕ) → has_home (data_start limits) blocks n ≡ false → looked new.staged kept n ≡ at n
  pub holds : HasFile limits.version (data_start limits) bytes numbers blocks (looked new.staged kept)

-- A content is put into free blocks, or a put of it was begun: at any moment a crash leaves all other blocks as before.
pub record Fills (blocks : List ℕ) (p : Metadata) (old : Held) (before after : Meaning) : Type 0 where
  pub distinct : IsTrue (are_distinct blocks)
  pub were_free : IsTrue (are_free p.taken blocks)
  pub moments : (kept : ℕ → List ℕ) → Fits old before kept → Leaves before after (StandsBut old.layout (homes_of (data_start p.limits) blocks) kept)
  pub past : (kept : ℕ → List ℕ) → Fits old before kept → KeepsPast old.layout.blocks before after

-- A content is put into free blocks, which are taken: staged, or placed with index blocks if it is large. `old` and `new` are the journal
-- before and after. Nothing else is staged or placed.
pub record Puts (bytes numbers : List ℕ) (p q : Metadata) (old new : Held) (before after : Meaning) : Type 0 where
  pub blocks : List ℕ
  pub fills : Fills blocks p old before after
  pub takes : Takes blocks (marked p.taken blocks) p q
  pub in_form : IsTrue (are_blocks p.limits.version (length bytes) numbers)
  pub below : IsTrue (list_all (λ n. nat_lt n p.limits.blocks) numbers)
  pub image : shape_of new ≡ shape_of old
  pub broken : new.is_broken ≡ old.is_broken
  pub placed : (n : ℕ) → is_among new.placed n ≡ true → has_home (data_start p.limits) blocks n ≡ true
  pub few_staged : length new.staged ≤ length old.staged + SLOT_BLOCKS
  pub others : (n : ℕ) (was : List ℕ) → has_home (data_start p.limits) blocks n ≡ false → look new.staged n was ≡ look old.staged n was
  pub lands : (kept : ℕ → List ℕ) → Fits old before kept → Lands p.limits bytes numbers blocks (looked old.staged kept) new after
  pub stays : (kept : ℕ → List ℕ) (fits : Fits old before kept) (n : ℕ) → is_among new.placed n ≡ false → (lands kept fits).kept n ≡ kept n
  pub moments : (kept : ℕ → List ℕ) → Fits old before kept → Leaves before after (StandsBut old.layout new.placed kept)
  pub unplaced : is_large (length bytes) ≡ false → new.placed ≡ []
  pub unstaged : is_large (length bytes) ≡ true → new.staged ≡ old.staged

-- The disk failed: some blocks are taken, and only what is on the disk counts.
pub record PutTorn (p q : Metadata) (old new : Held) (before after : Meaning) : Type 0 where
  pub blocks : List ℕ
  pub fills : Fills blocks p old before after
  pub metadata : q ≡ record p { taken = q.taken; marks = q.marks }
  pub image : shape_of new ≡ shape_of old
