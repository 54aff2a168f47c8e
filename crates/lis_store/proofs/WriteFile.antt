-- The calls that write and rename a file.
use Rattle.std.proofs.Common.{rules}
use Rattle.lis_store.proofs.Common.{◌≡◌, sym, ap, ap₂, ◌∙◌, subst, ℕ, ◌+◌, ◌≤◌, ◌==◌, nat_lt, not, cond, Bool, true, false, List, [], ◌∷◌, length, Some, None, Result, Err, IsSomeAnd, arith, ltb-false, Meaning, slot_of, rec_at, rec_at-slot_of, FileRecord, is_file_name, Formula, Refusal, NoFileHere, NoSpace, LargeFile, State, File, file_limit, blocks_taken, used_blocks, new_file, file_removed, file_replaced, Situation, Payload, free_blocks, write, rename, Metadata, bytes_told, both_ways, file_of, changed, words_told}
use Rattle.std.proofs.lemmas.Bool.{le-ltb}
use Rattle.lis_kept.proofs.Filed.{record_named}
use Rattle.lis_store.specs.declared.change_fault.ChangeFault.{ChangeFault}
use Rattle.lis_store.specs.declared.change_fault.ChangeFault.TheVariants.{Refused}
use Rattle.lis_store.specs.Stored.{Stored, IsSound, StoreHolds}
use Rattle.lis_store.proofs.ToldBy.{ToldBy, told_held}
use Rattle.lis_store.specs.Changes.{Holds}
use Rattle.lis_store.specs.Judging.{is_among}
use Rattle.lis_store.specs.Instead.{given_before, free_instead, free_for, overwriting_checks, renaming_checks, write_checks_of, rename_checks_of}
use Rattle.lis_store.specs.Drafts.{draft_of}
use Rattle.lis_store.specs.Replacing.{MayReplace}
use Rattle.lis_store.specs.ReplacingIn.{file_gone, MayPutBytes}
use Rattle.lis_store.proofs.StoreSays.{filed_named}
use Rattle.lis_store.proofs.InsteadMay.{may_stand, given_set, given_few, sized_small}
use Rattle.lis_store.proofs.Admitted.{none_there, derived_own, derived_few_own}
use Rattle.lis_store.proofs.InsteadTold.{free_told, old_is, old_given, write_refused, write_done, rename_refused, rename_done}
use Rattle.lis_store.proofs.FreeBlocks.{used_told, version_told}
use Rattle.lis_store.proofs.Judged.{all_pass, change_refused}
use Rattle.lis_model.specs.Step.{first_refusal}

-- What a call requires is about the store's value `now`, and what is proved is about its metadata, `old`. The slot that it found has a
-- record.
pub found_there : {old now : Stored} → old ≡ now → IsSound old → (name : List ℕ) {slot : ℕ} → slot_of now.metadata.catalog name ≡ Some slot
    → (rec : FileRecord) × (rec_at old.metadata.catalog slot ≡ Some rec) × (rec.name ≡ name)
found_there {old} same sound name {slot} named = rec_at-slot_of old.metadata.catalog name slot sound.metadata.catalog (ap (λ (k : Stored). slot_of k.metadata.catalog name) same ∙ named)

-- ---- rows
pub rest_of_write : (k : Metadata) (place : List Formula) (name : List ℕ) (slot : ℕ) (rec : FileRecord) (file : File) (size : ℕ) → size ≤ file_limit k.limits → is_among k place name ≡ true
    → first_refusal (write_checks_of k place name slot rec file size) ≡ first_refusal (overwriting_checks k slot rec file size)
rest_of_write k place name slot rec file size small here = search (rules, le-ltb)

pub rest_of_rename : (k : Metadata) (place : List Formula) (name : List ℕ) (slot : ℕ) (file : File) → is_among k place name ≡ true
    → first_refusal (rename_checks_of k place name slot file) ≡ first_refusal (renaming_checks k slot file)
rest_of_rename k place name slot file here = ap (λ b. cond (not b) (Some NoFileHere) (first_refusal (renaming_checks k slot file))) here

-- ---- rows that refuse nothing
module _ (k : Stored) (sound : IsSound k) (place : List Formula) (name : List ℕ) (slot : ℕ) (rec : FileRecord) (named : slot_of k.metadata.catalog name ≡ Some slot)
    (there : rec_at k.metadata.catalog slot ≡ Some rec) (here : is_among k.metadata place name ≡ true) where
  same_name : rec.name ≡ name
  same_name = (filed_named k.metadata sound.metadata name slot rec named there).1

  write_first : (bytes : List ℕ) (size : ℕ) → size ≤ file_limit k.metadata.limits → length bytes ≡ size
      → first_refusal (overwriting_checks k.metadata slot rec (given_before k.metadata rec name bytes) size) ≡ None → MayReplace k.metadata slot rec (draft_of (given_before k.metadata rec name bytes))
  write_first bytes size most long none =
      let file = given_before k.metadata rec name bytes in
      may_stand k sound slot rec there (draft_of file)
      (subst (λ n. is_file_name n ≡ true) same_name (record_named k.metadata.limits k.metadata.dict k.metadata.limits.blocks rec (sound.metadata.records slot rec there))) (λ differ. absurd (differ (sym same_name)))
      (given_set k sound slot rec there) (given_few k sound slot rec there) (derived_own name bytes) (derived_few_own name bytes) (omega (arith, most, long))
      ((nat_lt (free_instead k.metadata rec) (blocks_taken k.metadata.limits.version size), NoSpace) ∷ []) (all_pass (overwriting_checks k.metadata slot rec file size) none)

  -- there are enough blocks for other bytes
  write_enough : (bytes : List ℕ) (size : ℕ) → length bytes ≡ size
      → first_refusal (overwriting_checks k.metadata slot rec (given_before k.metadata rec name bytes) size) ≡ None → blocks_taken k.metadata.limits.version (length bytes) ≤ free_instead k.metadata rec
  write_enough bytes size long none =
      let row = all_pass (overwriting_checks k.metadata slot rec (given_before k.metadata rec name bytes) size) none in
      let enough = ltb-false (free_instead k.metadata rec) (blocks_taken k.metadata.limits.version size) row.1.1.1.0 in
      omega (arith, enough, ap (blocks_taken k.metadata.limits.version) long)

  pub rename_first : (other bytes : List ℕ) → is_file_name other ≡ true → length bytes ≡ rec.size
      → first_refusal (renaming_checks k.metadata slot (given_before k.metadata rec other bytes)) ≡ None → MayReplace k.metadata slot rec (draft_of (given_before k.metadata rec other bytes))
  rename_first other bytes form size none =
      let file = given_before k.metadata rec other bytes in
      let row = all_pass (renaming_checks k.metadata slot file) none in
      may_stand k sound slot rec there (draft_of file) form (λ differ. none_there (slot_of k.metadata.catalog other) row.0) (given_set k sound slot rec there) (given_few k sound slot rec there)
      (derived_own other bytes) (derived_few_own other bytes) (sized_small k sound slot rec there (length bytes) (omega (arith, size))) [] row.1

-- ---- calls that are done
module _ (k : Stored) (s : State) (sound : IsSound k) (fits : ToldBy k s) (name : List ℕ) (slot : ℕ) (rec : FileRecord)
    (named : slot_of k.metadata.catalog name ≡ Some slot) (there : rec_at k.metadata.catalog slot ≡ Some rec) where
  bytes_are : (file_of s.files name).bytes ≡ bytes_told k.metadata.limits fits.kept rec
  bytes_are = ap (λ (f : File). f.bytes) (old_is k s sound fits name slot rec named there)

  -- there are enough blocks for the new bytes
  pub written_enough : (size : ℕ) → blocks_taken k.metadata.limits.version size ≤ free_instead k.metadata rec
      → used_blocks s + blocks_taken s.limits.version size ≤ s.limits.blocks + blocks_taken s.limits.version (length (bytes_told k.metadata.limits fits.kept rec))
  written_enough size enough =
      let old = file_of s.files name in
      let most = by (s.limits.version == 1) in
      omega (
        arith,
        enough,
        free_told k s sound fits name slot rec named there,
        most,
        used_told k s sound fits,
        ap (λ v. blocks_taken v size) (version_told k s sound fits),
        ap (λ bs. blocks_taken s.limits.version (length bs)) bytes_are,
      )
    where
      by : (one : Bool) → cond one (free_blocks s + blocks_taken s.limits.version (length (file_of s.files name).bytes)) (free_blocks s)
          ≤ free_blocks s + blocks_taken s.limits.version (length (file_of s.files name).bytes)
      by true = omega arith
      by false = omega arith

  module _ (place : List Formula) (here : is_among k.metadata place name ≡ true) (assigned : List (List ℕ)) (words_are : assigned ≡ words_told k.metadata.dict rec.tags) where
    abbrev at_place : Situation
    at_place = record { state = s; place = place }

    old_words : (file_of s.files name).assigned ≡ assigned
    old_words = old_given k s sound fits name slot rec named there ∙ sym words_are

    written_done : (payload : Payload) → payload.size ≤ file_limit k.metadata.limits
        → first_refusal (overwriting_checks k.metadata slot rec (given_before k.metadata rec name payload.bytes) payload.size) ≡ None
        → write at_place name payload ≡ changed at_place (file_replaced s name (new_file name assigned payload.bytes))
    written_done payload small none =
        write_done k s sound fits place name slot rec (λ _. (named, there)) payload (rest_of_write k.metadata place name slot rec (given_before k.metadata rec name payload.bytes) payload.size small here ∙ none)
        ∙ ap (λ ws. changed at_place (file_replaced s name (new_file name ws payload.bytes))) old_words

    pub renamed_done : (other bytes : List ℕ) → bytes_told k.metadata.limits fits.kept rec ≡ bytes → first_refusal (renaming_checks k.metadata slot (given_before k.metadata rec other bytes)) ≡ None
        → rename at_place name other ≡ changed at_place (file_replaced s rec.name (new_file other assigned bytes))
    renamed_done other bytes told none =
        let same : (file_of s.files name).bytes ≡ bytes = bytes_are ∙ told in
        let row = subst (λ bs. first_refusal (renaming_checks k.metadata slot (given_before k.metadata rec other bs)) ≡ None) (sym same) none in
        rename_done k s sound fits place name slot rec (λ _. (named, there)) other (rest_of_rename k.metadata place name slot (given_before k.metadata rec other (file_of s.files name).bytes) here ∙ row)
        ∙ (ap₂ (λ n ws. changed at_place (file_replaced s n (new_file other ws (file_of s.files name).bytes))) (sym (filed_named k.metadata sound.metadata name slot rec named there).1) old_words
        ∙ ap (λ bs. changed at_place (file_replaced s rec.name (new_file other assigned bs))) same)

-- ---- a write that is admitted
module _ {old now : Stored} (same : old ≡ now) (sound : IsSound old) (place : List Formula) (name : List ℕ) {slot : ℕ} (named_now : slot_of now.metadata.catalog name ≡ Some slot)
    (here_now : true ≡ is_among now.metadata place name) (bytes : List ℕ) {size : ℕ} (small : size ≤ file_limit old.metadata.limits) (whole : size ≤ file_limit now.metadata.limits → length bytes ≡ size)
    (row : (rec : FileRecord) → rec_at old.metadata.catalog slot ≡ Some rec → first_refusal (overwriting_checks old.metadata slot rec (given_before old.metadata rec name bytes) size) ≡ None)
    {words : List (List ℕ)} (words_are : (rec : FileRecord) → rec_at old.metadata.catalog slot ≡ Some rec → words ≡ words_told old.metadata.dict rec.tags) where
  abbrev p : Metadata
  p = old.metadata

  named : slot_of p.catalog name ≡ Some slot
  named = ap (λ (k : Stored). slot_of k.metadata.catalog name) same ∙ named_now

  here : is_among p place name ≡ true
  here = ap (λ (k : Stored). is_among k.metadata place name) same ∙ sym here_now

  found : (rec : FileRecord) × (rec_at p.catalog slot ≡ Some rec) × (rec.name ≡ name)
  found = found_there same sound name named_now

  long : length bytes ≡ size
  long = whole (subst (λ (k : Stored). size ≤ file_limit k.metadata.limits) same small)

  -- what is required of metadata in which these bytes replace those of a file
  abbrev pub WriteAsks : Metadata → Type 0
  WriteAsks k =
      MayPutBytes k (Some slot) (new_file name words bytes)
      × ((s : State) → file_gone s (rec_at k.catalog slot) ≡ file_removed s name)

  pub write_asks : {k : Metadata} → k ≡ now.metadata → WriteAsks k
  write_asks is = subst (λ (k : Metadata). WriteAsks k) (sym is) (subst (λ (k : Stored). WriteAsks k.metadata) same asks)
    where
      may : MayReplace p slot found.0 (draft_of (new_file name words bytes))
      may =
          subst (λ ws. MayReplace p slot found.0 (draft_of (new_file name ws bytes))) (sym (words_are found.0 found.1))
          (write_first old sound place name slot found.0 named found.1 here bytes size small long (row found.0 found.1))

      asks : WriteAsks p
      asks = (
        (
          subst (λ o. IsSomeAnd o (λ (rec : FileRecord). MayReplace p slot rec (draft_of (new_file name words bytes)))) (sym found.1) may,
          subst (λ o. blocks_taken p.limits.version (length bytes) ≤ free_for p o) (sym found.1) (write_enough old sound place name slot found.0 named found.1 here bytes size long (row found.0 found.1)),
        ),
        λ s. ap (file_gone s) found.1 ∙ ap (file_removed s) found.2,
      )

  pub write_does : (m : Meaning) (base s : State) → StoreHolds now m base s
      → write (record { state = s; place = place }) name (record { size = size; bytes = bytes }) ≡ changed (record { state = s; place = place }) (file_replaced s name (new_file name words bytes))
  write_does m base s holds =
      let held : StoreHolds old m base s = subst (λ (k : Stored). StoreHolds k m base s) (sym same) holds in
      written_done old s sound (told_held old m base s sound held) name slot found.0 named found.1 place here words (words_are found.0 found.1) (record { size = size; bytes = bytes }) small (row found.0 found.1)

-- ---- calls that are refused
module _ {T : Type 0} (old : Stored) (m : Meaning) (place : List Formula) (name : List ℕ) (result : Result T ChangeFault) (sound : IsSound old) (base s : State) (holds : StoreHolds old m base s) where
  abbrev now : Situation
  now = record { state = s; place = place }

  module _ (slot : ℕ) (rec : FileRecord) (there : is_among old.metadata place name ≡ true → (slot_of old.metadata.catalog name ≡ Some slot) × (rec_at old.metadata.catalog slot ≡ Some rec)) where
    pub written_refused : (payload : Payload) (refusal : Refusal) → first_refusal (write_checks_of old.metadata place name slot rec (given_before old.metadata rec name payload.bytes) payload.size) ≡ Some refusal
        → result ≡ Err (Refused refusal) → Holds base now (write now name payload) old m m result
    written_refused payload refusal first ends = search (rules, change_refused, write_refused, told_held)

    pub renamed_refused : (other : List ℕ) (refusal : Refusal) → first_refusal (rename_checks_of old.metadata place name slot (given_before old.metadata rec other (file_of s.files name).bytes)) ≡ Some refusal
        → result ≡ Err (Refused refusal) → Holds base now (rename now name other) old m m result
    renamed_refused other refusal first ends = search (rules, change_refused, rename_refused, told_held)

  -- if the file is not here, its slot and its record do not matter
  abbrev any_rec : FileRecord
  any_rec = record { name = []; size = 0; tags = []; blocks = [] }

  pub written_nowhere : (payload : Payload) → payload.size ≤ file_limit old.metadata.limits → is_among old.metadata place name ≡ false → result ≡ Err (Refused NoFileHere)
      → Holds base now (write now name payload) old m m result
  written_nowhere payload small none ends =
      let rest = first_refusal (overwriting_checks old.metadata 0 any_rec (given_before old.metadata any_rec name payload.bytes) payload.size) in
      written_refused 0 any_rec (λ some. absurd (both_ways (is_among old.metadata place name) none some)) payload NoFileHere
      (ap (λ b. cond b (Some LargeFile) (cond (not (is_among old.metadata place name)) (Some NoFileHere) rest)) (le-ltb (file_limit old.metadata.limits) payload.size small) ∙ ap (λ b. cond (not b) (Some NoFileHere) rest) none) ends

  pub renamed_nowhere : (other : List ℕ) → is_among old.metadata place name ≡ false → result ≡ Err (Refused NoFileHere) → Holds base now (rename now name other) old m m result
  renamed_nowhere other none ends =
      let rest = first_refusal (renaming_checks old.metadata 0 (given_before old.metadata any_rec other (file_of s.files name).bytes)) in
      renamed_refused 0 any_rec (λ some. absurd (both_ways (is_among old.metadata place name) none some)) other NoFileHere (ap (λ b. cond (not b) (Some NoFileHere) rest) none) ends
