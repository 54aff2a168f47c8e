-- The rows of `write` and `rename`: by what a store keeps they are the rows of the state.
use Rattle.lis_store.proofs.Common.{◌≡◌, refl, sym, ap, ap₂, ◌∙◌, ℕ, ◌+◌, ◌==◌, nat_lt, Bool, true, false, not, cond, is_some, Some, None, List, [], ◌∷◌, ◌++◌, length, filter, arith, list_all, not-false, free_count, is_taken, small_size, Filed, slot_of, rec_at, FileRecord, Among, contains_from_among, among_filter, Formula, same_word, Limits, Refusal, UnknownProperty, NameTaken, NoFileHere, LargeFile, NoSpace, data_start, State, File, is_assignable, file_limit, blocks_taken, has_name, derived_words, new_file, file_removed, file_replaced, Situation, Payload, refused, free_blocks, write, rename, file_of_name, Metadata, declared_of, bytes_told, blocks_told, record_in_form, filed_at_slot, file_of, changed, words_told, number_from_among, eqb-true}
use Rattle.lis_content.proofs.Indexes.{small_blocks}
use Rattle.lis_model.specs.Step.{blocks_for, is_here, room_checks, write_checks, rename_checks, first_refusal}
use Rattle.lis_laws.proofs.Named.{gone_free, still_free}
use Rattle.lis_kept.proofs.Contents.{slot_blocks_told}
use Rattle.lis_store.specs.Stored.{Stored, IsSound}
use Rattle.lis_store.proofs.ToldBy.{ToldBy}
use Rattle.lis_store.specs.Drafts.{with_own, draft_of, AreOwnWords}
use Rattle.lis_store.specs.Beside.{words_checks}
use Rattle.lis_store.specs.Judging.{is_among}
use Rattle.lis_store.specs.Instead.{given_before, free_instead, instead_checks, overwriting_checks, renaming_checks, write_checks_of, rename_checks_of}
use Rattle.lis_store.proofs.StoreSays.{name_filed, file_in_slot, size_of_filed, among_told}
use Rattle.lis_store.proofs.FileBlocks.{told_counted}
use Rattle.lis_store.proofs.FreeAgain.{all_pass_filter}
use Rattle.lis_store.proofs.FreeBlocks.{version_told}
use Rattle.lis_store.proofs.InsteadMay.{given_assignable}
use Rattle.lis_store.proofs.InsteadKnown.{rest_known}
use Rattle.lis_store.proofs.Admitted.{limits_are, free_are, words_row}
use Rattle.lis_kept.proofs.InArea.{first_limit}
use Rattle.lis_store.proofs.Judged.{same_behind, judged_refused, judged_done}

-- ---- a file instead of another
module _ (k : Stored) (s : State) (sound : IsSound k) (fits : ToldBy k s) (name : List ℕ) (slot : ℕ) (rec : FileRecord)
    (is_slot : slot_of k.metadata.catalog name ≡ Some slot) (is_rec : rec_at k.metadata.catalog slot ≡ Some rec) where
  abbrev p : Metadata
  p = k.metadata

  -- the file that is there
  pub old_is : file_of s.files name ≡ given_before p rec rec.name (bytes_told p.limits fits.kept rec)
  old_is = file_in_slot p fits.kept s sound.metadata sound.free fits.tells name slot rec is_slot is_rec

  pub old_given : (file_of s.files name).assigned ≡ words_told p.dict rec.tags
  old_given = ap (λ (f : File). f.assigned) old_is

  -- how many blocks are free for other bytes
  pub free_told : free_instead p rec ≡ blocks_for s (file_of s.files name)
  free_told = by (p.limits.version == 1) refl ∙ sym (ap (λ v. cond (v == 1) (free_blocks s + blocks_taken v (length old.bytes)) (free_blocks s)) version)
    where
      f : Filed
      f = record { slot = slot; rec = rec }

      there : Among p.catalog.entries f
      there = filed_at_slot p.catalog sound.metadata.catalog slot rec is_rec

      old : File
      old = file_of s.files name

      version : s.limits.version ≡ p.limits.version
      version = version_told k s sound fits

      size : length old.bytes ≡ rec.size
      size = ap (λ (x : File). length x.bytes) old_is ∙ size_of_filed k s sound fits f there

      -- in version 1 the slot numbers all blocks of the file, and they are taken
      taken : (p.limits.version == 1) ≡ true → length (filter (is_taken p.taken) rec.blocks) ≡ blocks_taken p.limits.version (length old.bytes)
      taken one =
          let short = (record_in_form p.limits p.dict p.limits.blocks rec (sound.metadata.records slot rec is_rec)).small in
          let small = small_size rec.size (omega (arith, short, first_limit p.limits (eqb-true p.limits.version 1 one))) in
          ap length (all_pass_filter (is_taken p.taken) rec.blocks (λ b of.
          (fits.tells.given f (contains_from_among p.catalog.entries f there) b (number_from_among (blocks_told p.limits fits.kept rec) b (slot_blocks_told p.limits fits.kept rec b of))).1))
          ∙ (ap length (sym (small_blocks p.limits.version (data_start p.limits) rec.blocks rec.size fits.kept small))
          ∙ (told_counted p sound.metadata f there fits.kept ∙ ap (blocks_taken p.limits.version) (sym size)))

      by : (one : Bool) → (p.limits.version == 1) ≡ one
          → cond one (free_count p.taken + length (filter (is_taken p.taken) rec.blocks)) (free_count p.taken)
          ≡ cond one (free_blocks s + blocks_taken p.limits.version (length old.bytes)) (free_blocks s)
      by true is = omega (arith, free_are k s sound fits, taken is)
      by false is = free_are k s sound fits

-- ---- the rows
module _ (k : Stored) (s : State) (sound : IsSound k) (fits : ToldBy k s) (place : List Formula) (name : List ℕ) (slot : ℕ) (rec : FileRecord)
    (there : is_among k.metadata place name ≡ true → (slot_of k.metadata.catalog name ≡ Some slot) × (rec_at k.metadata.catalog slot ≡ Some rec)) where
  abbrev now : Situation
  now = record { state = s; place = place }

  abbrev old : File
  old = file_of s.files name

  abbrev kept : Metadata
  kept = k.metadata

  abbrev There : Type 0
  There = (slot_of kept.catalog name ≡ Some slot) × (rec_at kept.catalog slot ≡ Some rec)

  -- what follows the check whether the file is here
  pub here_row : (checks others : List (Bool × Refusal)) → (There → first_refusal checks ≡ first_refusal others)
      → first_refusal ((not (is_among kept place name), NoFileHere) ∷ checks) ≡ first_refusal ((not (is_here now old.name), NoFileHere) ∷ others)
  here_row checks others same =
      same_behind ((not (is_among kept place name), NoFileHere) ∷ []) checks others (λ here. same (there (not-false (is_among kept place name) here.0)))
      ∙ ap (λ b. cond (not b) (Some NoFileHere) (first_refusal others)) (among_told k s sound fits place name)

  -- The words of a file of a state are assignable, so the check on memory refuses nothing.
  pub instead_row : There → (file : File) (own : List (List ℕ)) → AreOwnWords s.declared s.axioms own file → (made : State) → file_replaced s name file ≡ made → has_name (file_removed s name).files file.name ≡ false
      → list_all (is_assignable (declared_of kept)) file.assigned ≡ true → (checks others : List (Bool × Refusal)) → first_refusal checks ≡ first_refusal others
      → first_refusal (instead_checks kept slot (with_own file own) ++ checks) ≡ first_refusal (room_checks made ++ others)
  instead_row at file own are_own made is new given checks others same =
      ap (λ b. cond (not b) (Some UnknownProperty) (first_refusal (words_checks kept (Some slot) (with_own file own) ++ checks))) given
      ∙ (words_row k s sound fits (Some slot) (file_removed s name).files (λ f m. (among_filter (λ (g : File). not (same_word g.name name)) s.files f m).0)
      (rest_known kept fits.kept s sound.metadata sound.free fits.tells name slot rec at.0 at.1) file own are_own new checks others same
      ∙ ap (λ (t : State). first_refusal (room_checks t ++ others)) is)

  given : There → old.assigned ≡ words_told kept.dict rec.tags
  given at = old_given k s sound fits name slot rec at.0 at.1

  write_row : (bytes : List ℕ) (size : ℕ)
      → first_refusal (write_checks_of kept place name slot rec (given_before kept rec name bytes) size)
      ≡ first_refusal (write_checks now old (file_replaced s old.name (new_file old.name old.assigned bytes)) size)
  write_row bytes size =
      let file = given_before kept rec name bytes in
      let made = file_replaced s old.name (new_file old.name old.assigned bytes) in
      let version = ap (λ (l : Limits). l.version) (limits_are k s sound fits) in
      let full : Bool × Refusal = (nat_lt (free_instead kept rec) (blocks_taken kept.limits.version size), NoSpace) in
      let full_told : Bool × Refusal = (nat_lt (blocks_for s old) (blocks_taken s.limits.version size), NoSpace) in
      ap₂ (λ (l : Limits) r. cond (nat_lt (file_limit l) size) (Some LargeFile) r) (limits_are k s sound fits)
      (here_row (overwriting_checks kept slot rec file size) (room_checks made ++ full_told ∷ []) (λ at.
      instead_row at file (derived_words name bytes) refl made (ap₂ (λ n ws. file_replaced s n (new_file n ws bytes)) (sym (file_of_name s.files name)) (sym (given at))) (gone_free s name)
      (given_assignable k sound slot rec at.1 fits.kept s fits.tells) (full ∷ []) (full_told ∷ [])
      (ap₂ (λ free v. cond (nat_lt free (blocks_taken v size)) (Some NoSpace) None) (free_told k s sound fits name slot rec at.0 at.1) version)))

  rename_row : (other : List ℕ)
      → first_refusal (rename_checks_of kept place name slot (given_before kept rec other old.bytes))
      ≡ first_refusal (rename_checks now old.name (new_file other old.assigned old.bytes) (file_replaced s old.name (new_file other old.assigned old.bytes)))
  rename_row other =
      let file = given_before kept rec other old.bytes in
      let made = file_replaced s old.name (new_file other old.assigned old.bytes) in
      let named = name_filed kept fits.kept s sound.metadata sound.free fits.tells other in
      here_row (renaming_checks kept slot file) ((has_name s.files other, NameTaken) ∷ room_checks made) (λ at.
      same_behind ((is_some (slot_of kept.catalog other), NameTaken) ∷ []) (instead_checks kept slot (draft_of file)) (room_checks made) (λ new.
      instead_row at file (derived_words other old.bytes) refl made (ap₂ (λ n ws. file_replaced s n (new_file other ws old.bytes)) (sym (file_of_name s.files name)) (sym (given at))) (still_free s name other (named ∙ new.0))
      (given_assignable k sound slot rec at.1 fits.kept s fits.tells) [] [] refl)
      ∙ ap (λ taken. cond taken (Some NameTaken) (first_refusal (room_checks made))) (sym named))

  -- what `write` gives
  pub write_refused : (payload : Payload) (refusal : Refusal)
      → first_refusal (write_checks_of kept place name slot rec (given_before kept rec name payload.bytes) payload.size) ≡ Some refusal → write now name payload ≡ refused now refusal
  write_refused payload refusal first =
      let made = file_replaced s old.name (new_file old.name old.assigned payload.bytes) in
      judged_refused now (write_checks now old made payload.size) (changed now made) refusal (sym (write_row payload.bytes payload.size) ∙ first)

  pub write_done : (payload : Payload) → first_refusal (write_checks_of kept place name slot rec (given_before kept rec name payload.bytes) payload.size) ≡ None
      → write now name payload ≡ changed now (file_replaced s name (new_file name old.assigned payload.bytes))
  write_done payload none =
      let made = file_replaced s old.name (new_file old.name old.assigned payload.bytes) in
      judged_done now (write_checks now old made payload.size) (changed now made) (sym (write_row payload.bytes payload.size) ∙ none)
      ∙ ap (λ n. changed now (file_replaced s n (new_file n old.assigned payload.bytes))) (file_of_name s.files name)

  -- what `rename` gives
  pub rename_refused : (other : List ℕ) (refusal : Refusal) → first_refusal (rename_checks_of kept place name slot (given_before kept rec other old.bytes)) ≡ Some refusal
      → rename now name other ≡ refused now refusal
  rename_refused other refusal first =
      let new = new_file other old.assigned old.bytes in
      judged_refused now (rename_checks now old.name new (file_replaced s old.name new)) (changed now (file_replaced s old.name new)) refusal (sym (rename_row other) ∙ first)

  pub rename_done : (other : List ℕ) → first_refusal (rename_checks_of kept place name slot (given_before kept rec other old.bytes)) ≡ None
      → rename now name other ≡ changed now (file_replaced s name (new_file other old.assigned old.bytes))
  rename_done other none =
      let new = new_file other old.assigned old.bytes in
      judged_done now (rename_checks now old.name new (file_replaced s old.name new)) (changed now (file_replaced s old.name new)) (sym (rename_row other) ∙ none)
      ∙ ap (λ n. changed now (file_replaced s n new)) (file_of_name s.files name)
