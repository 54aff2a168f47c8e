-- The blocks of a file as they are read: those that its slot lists, and those that its index blocks list.
use Rattle.std.proofs.Common.{rules}
use Rattle.lis_open.proofs.Common.{◌∙◌, ℕ, List, IsTrue, ◌≡◌, refl, sym, ap, ◌^◌, ◌<◌, ◌≤◌, ◌&&◌, Bool, Option, Some, [], arith, IfSome, subst, true, false, length, data_start, Meaning, IsSettled, Held, Fits, Slots, slot, PropSlot, FileSlot, prop_once, Limits, are_in_range, image_blocks, list_all-append, are_free, are_distinct, FileRecord, is_record, blocks_told, HasIndex, and_parts, both_ways}
use Rattle.lis_journal.proofs.Fitting.{fits_unchanged}
use Rattle.lis_open.specs.declared.blocks.LastBlock.{LastBlock}
use Rattle.lis_ports.specs.Calls.{OnlyReads}
use Rattle.lis_open.specs.Reading.{Recalls, IsReadAs}
use Rattle.lis_journal.specs.Record.{HomeBlock}
use Rattle.lis_journal.specs.Phases.{looked}
use Rattle.lis_fields.proofs.OneSpelling.{file_once}
use Rattle.lis_kept.proofs.InArea.{few_ahead, few_blocks as few_data}
use Rattle.lis_open.specs.Checks.{IsProperty, IsFile}
use Rattle.lis_content.specs.Large.{slot_count, file_blocks, IsIndexed}
use Rattle.lis_content.proofs.Indexes.{large_blocks, small_blocks}
use Rattle.lis_fields.proofs.Parts.{record_tests, few_blocks as few_in_form}
use Rattle.lis_kept.proofs.Contents.{slot_blocks_counted}
use Rattle.lis_open.specs.ReadFiles.{HasBlocks, AreItsBlocks}
use Rattle.lis_model.proofs.Ranges.{limit_le}

pub fits_after : {a b : Meaning} (journal : Held) (kept : ℕ → List ℕ) → OnlyReads a b → Fits journal a kept → Fits journal b kept
fits_after journal kept reads fits = fits_unchanged journal reads.run (reads.same fits.honest) fits

pub settled_after : {a b : Meaning} {bytes : List ℕ} → OnlyReads a b → IsTrue a.is_honest → IsSettled a bytes → IsSettled b bytes
settled_after reads honest settled = search (rules)

-- if an earlier last block is as the disk keeps it, so is a later one
abbrev pub StillRecalls : Held → Meaning → LastBlock → LastBlock → Type 0
StillRecalls journal old before last = (kept : ℕ → List ℕ) → Fits journal old kept → Recalls before kept → Recalls last kept

-- ---- slots and the values that they spell
-- the blocks of an image have numbers of 32 bits
pub few_blocks : (limits : Limits) (blocks : ℕ) → IsTrue (are_in_range limits) → blocks ≡ image_blocks limits → blocks < 2 ^ 32
few_blocks limits blocks range is = omega (arith, is, few_ahead limits range, few_data limits range)

-- what is read of a slot, if nothing is staged
pub slot_read : (slots : Slots) (staged : List HomeBlock) (kept : ℕ → List ℕ) (n : ℕ) (bytes : List ℕ) → staged ≡ [] → bytes ≡ slot slots (looked staged kept) n → bytes ≡ slot slots kept n
slot_read slots staged kept n bytes none read = read ∙ ap (λ es. slot slots (looked es kept) n) none

module _ {X : Type 0} (spelled : X → List ℕ) (is_in_range : X → Bool) (slots : Slots) (at : ℕ → List ℕ) (n : ℕ) where
  -- from what reading the bytes of the slot gave
  pub read_as : (found : Option X) (bytes : List ℕ) → n < slots.count → bytes ≡ slot slots at n → IfSome found (λ value. IsTrue (is_in_range value) × (bytes ≡ spelled value))
      → ((value : X) → IsTrue (is_in_range value) → bytes ≡ spelled value → found ≡ Some value) → IsReadAs spelled is_in_range slots at n found
  read_as found bytes below read told same = search (rules)

pub one_property : (limits : Limits) (at : ℕ → List ℕ) (n : ℕ) (a b : PropSlot) → IsProperty limits at n a → IsProperty limits at n b → a ≡ b
one_property limits at n a b is_a is_b = prop_once a b is_a.range is_b.range (sym is_a.bytes ∙ is_b.bytes)

pub one_file : (limits : Limits) (at : ℕ → List ℕ) (n : ℕ) (a b : FileSlot) → IsFile limits at n a → IsFile limits at n b → a ≡ b
one_file limits at n a b is_a is_b = file_once limits a b is_a.range is_b.range (sym is_a.bytes ∙ is_b.bytes)

-- ---- well-formed records
pub size_of_form : (limits : Limits) (rec : FileRecord) {seen : FileRecord} → IsTrue (is_record limits rec) → seen ≡ rec → seen.size ≤ 67108864
size_of_form limits rec form view =
    omega (arith, limit_le limits, (record_tests limits rec form).small, ap (λ (r : FileRecord). r.size) view)

-- a slot has the numbers of index blocks if its file has any, and otherwise those of its blocks
pub slot_of_form : (limits : Limits) (rec : FileRecord) → IsTrue (are_in_range limits) → IsTrue (is_record limits rec) → length rec.blocks ≡ slot_count rec.size
slot_of_form limits rec range form =
    let tests = record_tests limits rec form in
    few_in_form limits.version rec.size rec.blocks tests.blocks ∙ slot_blocks_counted limits rec.size range tests.small

-- ---- the blocks of a file
-- the numbers of the slot are among all
slot_free : (taken : List Bool) (version base : ℕ) (slot : List ℕ) (size : ℕ) (at : ℕ → List ℕ) → are_free taken (file_blocks version base slot size at) ≡ true → are_free taken slot ≡ true
slot_free taken version base slot size at free = search (rules, and_parts, list_all-append, large_blocks, small_blocks)

module _ (limits : Limits) (at : ℕ → List ℕ) (taken : List Bool) (rec : FileRecord) where
  pub not_own : (slot : List ℕ) → slot ≡ rec.blocks → are_free taken slot ≡ false → HasBlocks limits at taken rec → ⊥
  not_own slot same taken_one has = search (rules, both_ways, slot_free)

  -- what all blocks of a file are, if each index block was tested as it was read
  its_blocks : (formed : Bool) (blocks : List ℕ) → (formed ≡ true → HasIndex limits at rec) → (formed ≡ false → HasIndex limits at rec → ⊥) → blocks ≡ blocks_told limits at rec
      → AreItsBlocks limits at taken rec blocks ((formed && are_free taken blocks) && are_distinct blocks)
  its_blocks formed blocks good bad told = by formed (are_free taken blocks) (are_distinct blocks) refl refl refl
    where
      by : (is all_free all_distinct : Bool) → formed ≡ is → are_free taken blocks ≡ all_free → are_distinct blocks ≡ all_distinct → AreItsBlocks limits at taken rec blocks ((is && all_free) && all_distinct)
      by false all_free all_distinct is free distinct = λ has. bad is has.indexed
      by true false all_distinct is free distinct = λ has. both_ways (are_free taken blocks) free (ap (are_free taken) told ∙ has.free)
      by true true false is free distinct = λ has. both_ways (are_distinct blocks) distinct (ap are_distinct told ∙ has.distinct)
      by true true true is free distinct = (good is, told)

  -- and they were read as the record says, with nothing staged
  pub read_are : (version base : ℕ) (slot : List ℕ) (size : ℕ) (staged : List HomeBlock) (formed : Bool) (blocks : List ℕ) → version ≡ limits.version → base ≡ data_start limits → slot ≡ rec.blocks → size ≡ rec.size → staged ≡ []
      → (formed ≡ true → IsIndexed version base slot size (looked staged at)) → (formed ≡ false → IsIndexed version base slot size (looked staged at) → ⊥) → blocks ≡ file_blocks version base slot size (looked staged at)
      → AreItsBlocks limits at taken rec blocks ((formed && are_free taken blocks) && are_distinct blocks)
  read_are version base slot size staged formed blocks is_version is_base is_slot is_size none good bad told =
      its_blocks formed blocks (λ is. subst Indexed same (good is)) (λ is has. bad is (subst Indexed (sym same) has)) (told ∙ ap (λ p. file_blocks p.0 p.1 p.2 p.3 (looked p.4 at)) same)
    where
      Parts : Type 0
      Parts = ℕ × ℕ × List ℕ × ℕ × List HomeBlock

      Indexed : Parts → Type 0
      Indexed p = IsIndexed p.0 p.1 p.2 p.3 (looked p.4 at)

      same : ◌≡◌ {A = Parts} (version, base, slot, size, staged) (limits.version, data_start limits, rec.blocks, rec.size, [])
      same = cc
