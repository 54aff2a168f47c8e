-- What a file is refused for that would replace another, by what a store keeps.
use Rattle.std.specs.Prelude.{ℕ, ◌+◌, ◌==◌, nat_lt, not, if◌then◌else◌, Bool, is_some, Option, None, Some, List, [], ◌∷◌, ◌++◌, length, filter}
use Rattle.std.specs.List.{list_all}
use Rattle.lis_blockmap.specs.Bitmap.{free_count, is_taken}
use Rattle.lis_catalog.specs.Catalog.{slot_of}
use Rattle.lis_fields.specs.Records.{FileRecord}
use Rattle.lis_grammar.specs.Formula.{Formula}
use Rattle.lis_model.specs.declared.refusal.Refusal.{Refusal}
use Rattle.lis_model.specs.declared.refusal.Refusal.TheVariants.{UnknownProperty, NameTaken, NoFileHere, LargeFile, NoSpace}
use Rattle.lis_model.specs.State.{File, is_assignable, file_limit, blocks_taken}
use Rattle.lis_model.specs.Changes.{new_file}
use Rattle.lis_kept.specs.Metadata.{Metadata}
use Rattle.lis_kept.specs.Telling.{declared_of, words_told}
use Rattle.lis_store.specs.Drafts.{Draft, draft_of}
use Rattle.lis_store.specs.Judging.{is_among}
use Rattle.lis_store.specs.Beside.{words_checks}

-- ---- files
-- a file of a name and these bytes, with the words that are assigned to the file of a record
abbrev pub given_before : Metadata → FileRecord → List ℕ → List ℕ → File
given_before k rec name bytes = new_file name (words_told k.dict rec.tags) bytes

-- ---- rows
-- What the words of a file are refused for that would replace the one in the slot. The words of a file of a state are assignable, but the
-- contents of memory alone do not imply this.
abbrev pub instead_checks : Metadata → ℕ → Draft → List (Bool × Refusal)
instead_checks k slot draft =
    (not (list_all (is_assignable (declared_of k)) draft.assigned), UnknownProperty) ∷ words_checks k (Some slot) draft

-- How many blocks are free for new bytes of the file of a record. In version 1 the taken blocks of the file may be used again. In version 2
-- they stay until the command is done.
abbrev pub free_instead : Metadata → FileRecord → ℕ
free_instead k rec = if k.limits.version == 1 then free_count k.taken + length (filter (is_taken k.taken) rec.blocks) else free_count k.taken

-- how many blocks are free for a file's bytes, which replace those of the file of a record if there is one
abbrev pub free_for : Metadata → Option FileRecord → ℕ
free_for k None = free_count k.taken
free_for k (Some rec) = free_instead k rec

abbrev pub overwriting_checks : Metadata → ℕ → FileRecord → File → ℕ → List (Bool × Refusal)
overwriting_checks k slot rec file size =
    instead_checks k slot (draft_of file)
    ++ (nat_lt (free_instead k rec) (blocks_taken k.limits.version size), NoSpace) ∷ []

abbrev pub renaming_checks : Metadata → ℕ → File → List (Bool × Refusal)
renaming_checks k slot file = (is_some (slot_of k.catalog file.name), NameTaken) ∷ instead_checks k slot (draft_of file)

-- the rows of `write` and of `rename`, and that the words may be assigned, as those of each file of a state may
abbrev pub write_checks_of : Metadata → List Formula → List ℕ → ℕ → FileRecord → File → ℕ → List (Bool × Refusal)
write_checks_of k place name slot rec file size =
    (nat_lt (file_limit k.limits) size, LargeFile)
    ∷ (not (is_among k place name), NoFileHere)
    ∷ overwriting_checks k slot rec file size

abbrev pub rename_checks_of : Metadata → List Formula → List ℕ → ℕ → File → List (Bool × Refusal)
rename_checks_of k place name slot file = (not (is_among k place name), NoFileHere) ∷ renaming_checks k slot file
