-- The call that renames a file: its bytes are read before it is judged.
use Rattle.lis_store.proofs.Common.{◌≡◌, refl, sym, ap, ◌∙◌, subst, ℕ, nat_lt, true, false, List, length, cond, is_some, Option, Some, None, Result, Err, IsSomeAnd, lt-ltb, looked, Filed, slot_of, rec_at, Asks, FileRecord, Formula, is_file_name, derived_words, new_file, State, File, Metadata, bytes_told, blocks_told, filed_at_slot, Meaning, Fits, Refusal, NameTaken, Situation, Outcome, refused, rename, file_of, all_from, words_told}
use Rattle.lis_store.specs.declared.change_fault.ChangeFault.{ChangeFault}
use Rattle.lis_store.specs.declared.change_fault.ChangeFault.TheVariants.{Refused, Disk}
use Rattle.lis_store.specs.Stored.{Stored, IsSound, StoreHolds}
use Rattle.lis_store.specs.Changes.{Holds}
use Rattle.lis_store.specs.Contents.{AreContentsWithin}
use Rattle.lis_store.specs.Judging.{is_among}
use Rattle.lis_store.specs.Saving.{Saves}
use Rattle.lis_store.specs.Instead.{given_before, instead_checks, renaming_checks}
use Rattle.lis_store.specs.Drafts.{draft_of}
use Rattle.lis_store.specs.Replacing.{MayReplace}
use Rattle.lis_store.specs.ReplacingIn.{RefilesIn, record_in}
use Rattle.lis_store.proofs.StoreSays.{told_below}
use Rattle.lis_store.proofs.InsteadTold.{old_is, rename_refused}
use Rattle.lis_store.proofs.Judged.{change_refused}
use Rattle.lis_store.proofs.ReplaceFile.{refiled_holds}
use Rattle.lis_store.proofs.Steps.{holds_behind, holds_lost, asks_stand, asks_past}
use Rattle.lis_store.proofs.ToldBy.{ToldBy, told_held}
use Rattle.lis_store.proofs.WriteFile.{found_there, rest_of_rename, rename_first, renamed_done}
use Rattle.lis_model.specs.Step.{first_refusal}

module _ (k : Stored) (base : State) (before mid : Meaning) (now : Situation) (sound : IsSound k) (holds : StoreHolds k before base now.state) (asks : Asks k.journal before mid) where
  -- memory represents the same by the same blocks
  abbrev pub held_read : StoreHolds k mid base now.state
  held_read = record {
    kept = holds.kept;
    journal = asks.fits holds.kept holds.journal;
    unbroken = holds.unbroken;
    limits = holds.limits;
    stands = holds.stands;
    tells = holds.tells;
    written = holds.written;
  }

  -- what holds from after the read on holds of the whole call
  pub after_read : {T : Type 0} (outcome : Outcome) (new : Stored) (after : Meaning) (result : Result T ChangeFault) → Holds base now outcome new mid after result → Holds base now outcome new before after result
  after_read outcome new after result =
      holds_behind base now outcome new before mid after result (asks_stand k base now.state before sound holds mid asks) (asks_past k base now.state before sound holds mid asks)

  pub refused_read : {T : Type 0} (outcome : Outcome) (refusal : Refusal) (result : Result T ChangeFault) → outcome ≡ refused now refusal → result ≡ Err (Refused refusal) → Holds base now outcome k before mid result
  refused_read outcome refusal result is ends = after_read outcome k mid result (change_refused k mid base now outcome refusal result held_read is ends)

  pub lost_read : {T : Type 0} (outcome : Outcome) (new : Stored) (result : Result T ChangeFault) → new.is_broken ≡ true → result ≡ Err Disk → Holds base now outcome new before mid result
  lost_read outcome new result =
      holds_lost base now outcome new before mid result (asks_stand k base now.state before sound holds mid asks) (asks_past k base now.state before sound holds mid asks)

-- ---- a file that is here
-- What a call requires is about the store's value `now`, and what is proved is about its metadata, `old`.
module _ {old now : Stored} (same : old ≡ now) (sound : IsSound old) (place : List Formula) (name : List ℕ) {slot : ℕ} (named_now : slot_of now.metadata.catalog name ≡ Some slot)
    (here_now : true ≡ is_among now.metadata place name) (other : List ℕ) where
  abbrev k : Metadata
  k = old.metadata

  abbrev rec : FileRecord
  rec = (found_there same sound name named_now).0

  there : rec_at k.catalog slot ≡ Some rec
  there = (found_there same sound name named_now).1

  named : slot_of k.catalog name ≡ Some slot
  named = ap (λ (o : Stored). slot_of o.metadata.catalog name) same ∙ named_now

  here : is_among k place name ≡ true
  here = ap (λ (o : Stored). is_among o.metadata place name) same ∙ sym here_now

  -- what is required of memory in which the file gets another name, and of the bytes that were read
  pub rename_asks : {judged read bytes : List ℕ} → judged ≡ read → bytes ≡ read → ((r : FileRecord) → rec_at k.catalog slot ≡ Some r → length read ≡ r.size) → {words : List (List ℕ)} → is_file_name other ≡ true
      → ((r : FileRecord) → rec_at k.catalog slot ≡ Some r → words ≡ words_told k.dict r.tags)
      → ((r : FileRecord) → rec_at k.catalog slot ≡ Some r → first_refusal (renaming_checks k slot (given_before k r other judged)) ≡ None)
      → IsSomeAnd (rec_at k.catalog slot) (λ (x : FileRecord). MayReplace k slot x (draft_of (new_file other words bytes)))
  rename_asks {judged} {read} {bytes} is_judged is_read size form words_are row =
      let May : List (List ℕ) → List ℕ → Type 0 = λ ws bs. IsSomeAnd (rec_at k.catalog slot) (λ (x : FileRecord). MayReplace k slot x (draft_of (new_file other ws bs))) in
      subst (λ ws. May ws bytes) (sym (words_are rec there))
      (subst (May (words_told k.dict rec.tags)) (is_judged ∙ sym is_read)
      (subst (λ o. IsSomeAnd o (λ (x : FileRecord). MayReplace k slot x (draft_of (given_before k rec other judged)))) (sym there)
      (rename_first old sound place name slot rec named there here other judged form (ap length is_judged ∙ size rec there) (row rec there))))

  module _ (m : Meaning) (base s : State) (holds_now : StoreHolds now m base s) where
    abbrev at_place : Situation
    at_place = record { state = s; place = place }

    holds : StoreHolds old m base s
    holds = subst (λ (o : Stored). StoreHolds o m base s) (sym same) holds_now

    abbrev by_memory : ToldBy old s
    by_memory = told_held old m base s sound holds

    -- another file has the name
    pub name_taken : {T : Type 0} → is_some (slot_of k.catalog other) ≡ true → Holds {T = T} base at_place (rename at_place name other) now m m (Err (Refused NameTaken))
    name_taken {T} taken =
        let file = given_before k rec other (file_of s.files name).bytes in
        subst (λ (o : Stored). Holds {T = T} base at_place (rename at_place name other) o m m (Err (Refused NameTaken))) same
        (change_refused old m base at_place (rename at_place name other) NameTaken (Err (Refused NameTaken)) holds
        (rename_refused old s sound by_memory place name slot rec (λ _. (named, there)) other NameTaken
        (rest_of_rename k place name slot file here ∙ ap (λ b. cond b (Some NameTaken) (first_refusal (instead_checks k slot (draft_of file)))) taken)) refl)

    module _ (mid : Meaning) (asks : Asks old.journal m mid) where
      pub read_lost : {T : Type 0} (new : Stored) (result : Result T ChangeFault) → new.is_broken ≡ true → result ≡ Err Disk → Holds base at_place (rename at_place name other) new m mid result
      read_lost new result = lost_read old base m mid at_place sound holds asks (rename at_place name other) new result

      module _ {read bytes : List ℕ} (are_read : (r : FileRecord) (kept : ℕ → List ℕ) → rec_at k.catalog slot ≡ Some r → Fits old.journal m kept → AreContentsWithin k.limits (looked old.journal.staged kept) r
          → read ≡ bytes_told k.limits (looked old.journal.staged kept) r) (is_read : bytes ≡ read) where
        abbrev at : ℕ → List ℕ
        at = looked old.journal.staged holds.kept

        -- the blocks of the file are blocks of the image
        within : AreContentsWithin k.limits at rec
        within =
            let filed : Filed = record { slot = slot; rec = rec } in
            let of = filed_at_slot k.catalog sound.metadata.catalog slot rec there in
            all_from (λ n. nat_lt n k.limits.blocks) (blocks_told k.limits at rec) (λ n among. lt-ltb n k.limits.blocks (told_below old s sound by_memory filed of n among))

        told : bytes_told k.limits at rec ≡ bytes
        told = sym (is_read ∙ are_read rec holds.kept there holds.journal within)

        bytes_are : bytes ≡ (file_of s.files name).bytes
        bytes_are = sym (ap (λ (f : File). f.bytes) (old_is old s sound by_memory name slot rec named there) ∙ told)

        pub renaming_refused : {T : Type 0} (refusal : Refusal) (result : Result T ChangeFault) → result ≡ Err (Refused refusal)
            → ((r : FileRecord) → rec_at k.catalog slot ≡ Some r → first_refusal (renaming_checks k slot (given_before k r other bytes)) ≡ Some refusal) → Holds base at_place (rename at_place name other) old m mid result
        renaming_refused refusal result ends first =
            let row = subst (λ bs. first_refusal (renaming_checks k slot (given_before k rec other bs)) ≡ Some refusal) bytes_are (first rec there) in
            refused_read old base m mid at_place sound holds asks (rename at_place name other) refusal result
            (rename_refused old s sound by_memory place name slot rec (λ _. (named, there)) other refusal
            (rest_of_rename k place name slot (given_before k rec other (file_of s.files name).bytes) here ∙ row)) ends

        pub renaming_holds : {T : Type 0} {judged : List ℕ} → judged ≡ read → ((r : FileRecord) → rec_at k.catalog slot ≡ Some r → first_refusal (renaming_checks k slot (given_before k r other judged)) ≡ None)
            → {assigned : List (List ℕ)} → ((r : FileRecord) → rec_at k.catalog slot ≡ Some r → assigned ≡ words_told k.dict r.tags)
            → {q : Metadata} {blocks : List ℕ} → RefilesIn (record_in k (Some slot)) (draft_of (new_file other assigned bytes)) blocks k q → ((r : FileRecord) → rec_at k.catalog slot ≡ Some r → blocks ≡ r.blocks)
            → now.is_broken ≡ false → (new : Stored) (end : Meaning) (result : Result T ChangeFault) → Saves q old.journal new mid end result → Holds base at_place (rename at_place name other) new m end result
        renaming_holds is_judged none {assigned} words {q} {blocks} again blocks_are unbroken new end result saves =
            let file = new_file other assigned bytes in
            let Again : Option FileRecord → List ℕ → Type 0 = λ gone ns. RefilesIn gone (draft_of file) ns k q in
            let row = subst (λ bs. first_refusal (renaming_checks k slot (given_before k rec other bs)) ≡ None) (is_judged ∙ sym is_read) (none rec there) in
            after_read old base m mid at_place sound holds asks (rename at_place name other) new end result
            (refiled_holds old q slot file (derived_words other bytes) rec sound (ap (λ (o : Stored). o.is_broken) same ∙ unbroken) there
            (subst (Again (Some rec)) (blocks_are rec there) (subst (λ gone. Again gone blocks) there again)) base at_place new mid end result (rename at_place name other)
            (held_read old base m mid at_place sound holds asks) refl
            (renamed_done old s sound by_memory name slot rec named there place here assigned (words rec there) other bytes told row) told saves)
