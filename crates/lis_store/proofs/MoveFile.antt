-- The call that moves a file to another place.
use Rattle.std.proofs.Common.{rules}
use Rattle.lis_store.proofs.Common.{◌≡◌, sym, ap, ap₂, ◌∙◌, subst, ℕ, ◌≤◌, true, false, List, length, Some, None, Result, Ok, Err, IsSomeAnd, same_Some, slot_of, rec_at, FileRecord, Formula, resolved, text_words, is_file_name, new_file, file_replaced, State, File, Meaning, Refusal, NoFileHere, Situation, mv, retagged, Metadata, file_of, changed, tags_at}
use Rattle.lis_grammar.specs.Places.{Resolution}
use Rattle.lis_grammar.specs.Places.Resolution.{NewPlace, Unreadable, BeyondLimits}
use Rattle.lis_kept.proofs.Filed.{record_named}
use Rattle.lis_store.specs.declared.change_fault.ChangeFault.{ChangeFault}
use Rattle.lis_store.specs.declared.change_fault.ChangeFault.TheVariants.{Refused}
use Rattle.lis_store.specs.Stored.{Stored, IsSound, StoreHolds}
use Rattle.lis_store.specs.Changes.{Holds}
use Rattle.lis_store.specs.Drafts.{Draft, drafted, own_kept}
use Rattle.lis_store.specs.Judging.{is_among}
use Rattle.lis_store.specs.Saving.{Saves}
use Rattle.lis_store.specs.Instead.{instead_checks}
use Rattle.lis_store.specs.Replacing.{MayReplace}
use Rattle.lis_store.specs.ReplacingIn.{RefilesIn, record_in}
use Rattle.lis_store.specs.Retagging.{place_or_refusal, words_moved, moved_draft, moving_checks, retag_checks}
use Rattle.lis_store.proofs.StoreSays.{size_told}
use Rattle.lis_store.proofs.InsteadTold.{old_is, old_given}
use Rattle.lis_store.proofs.Judged.{change_refused, refused_first, refused_then}
use Rattle.lis_store.proofs.OwnKept.{own_told}
use Rattle.lis_store.proofs.ReplaceFile.{refiled_holds}
use Rattle.lis_store.proofs.RetagTold.{mv_may, mv_here_refused, mv_here_done, mv_nowhere}
use Rattle.lis_store.proofs.ToldBy.{ToldBy, told_held}
use Rattle.lis_store.proofs.WriteFile.{found_there}
use Rattle.lis_model.specs.declared.refusal.Refusal.TheVariants.{BadFormula, LargeFormula}
use Rattle.lis_model.specs.Step.{first_refusal, mv_to, refused}

-- the place to which a text leads
pub led_to : (r : Resolution) (next : List Formula) → place_or_refusal r ≡ Ok next → r ≡ NewPlace next
led_to r next is = search (rules, same_Some)

-- a text that leads to no place
led_nowhere : (now : Situation) (old : File) (text : List ℕ) (r : Resolution) (refusal : Refusal) → place_or_refusal r ≡ Err refusal → mv_to now old text r ≡ refused now refusal
led_nowhere now old text Unreadable refusal is = let same : BadFormula ≡ refusal = cc in ap (refused now) same
led_nowhere now old text BeyondLimits refusal is = let same : LargeFormula ≡ refusal = cc in ap (refused now) same
led_nowhere now old text (NewPlace next) refusal is = absurd cc

pub moved_to_none : {T : Type 0} (k : Stored) (m : Meaning) (base s : State) (place : List Formula) (name text : List ℕ) (refusal : Refusal) (result : Result T ChangeFault) → StoreHolds k m base s
    → place_or_refusal (resolved place text) ≡ Err refusal → result ≡ Err (Refused refusal)
    → Holds base (record { state = s; place = place }) (mv (record { state = s; place = place }) name text) k m m result
moved_to_none k m base s place name text refusal result holds leads ends =
    let now : Situation = record { state = s; place = place } in
    change_refused k m base now (mv now name text) refusal result holds (led_nowhere now (file_of s.files name) text (resolved place text) refusal leads) ends

-- no file of the name is here
pub moved_nowhere : {T : Type 0} (old : Stored) (m : Meaning) (base s : State) (place next : List Formula) (name text : List ℕ) (result : Result T ChangeFault) → IsSound old → StoreHolds old m base s
    → resolved place text ≡ NewPlace next → is_among old.metadata place name ≡ false → result ≡ Err (Refused NoFileHere)
    → Holds base (record { state = s; place = place }) (mv (record { state = s; place = place }) name text) old m m result
moved_nowhere old m base s place next name text result sound holds leads none ends = search (rules, change_refused, mv_nowhere, told_held)

-- ---- a file that is here
-- What a call requires is about the store's value `now`, and what is proved is about its metadata, `old`.
module _ {old now : Stored} (same : old ≡ now) (sound : IsSound old) (place : List Formula) (name : List ℕ) {slot : ℕ} (named_now : slot_of now.metadata.catalog name ≡ Some slot)
    (here_now : true ≡ is_among now.metadata place name) (text : List ℕ) {next : List Formula} (led : Ok next ≡ place_or_refusal (resolved place text)) where
  abbrev k : Metadata
  k = old.metadata

  abbrev rec : FileRecord
  rec = (found_there same sound name named_now).0

  abbrev draft : Draft
  draft = moved_draft k slot rec place next name

  there : rec_at k.catalog slot ≡ Some rec
  there = (found_there same sound name named_now).1

  same_name : rec.name ≡ name
  same_name = (found_there same sound name named_now).2

  named : slot_of k.catalog name ≡ Some slot
  named = ap (λ (o : Stored). slot_of o.metadata.catalog name) same ∙ named_now

  here : is_among k place name ≡ true
  here = ap (λ (o : Stored). is_among o.metadata place name) same ∙ sym here_now

  leads : resolved place text ≡ NewPlace next
  leads = led_to (resolved place text) next (sym led)

  -- its row refuses something
  module _ {T : Type 0} (m : Meaning) (base s : State) (holds : StoreHolds now m base s) (refusal : Refusal) (result : Result T ChangeFault) (ends : result ≡ Err (Refused refusal)) where
    abbrev at_place : Situation
    at_place = record { state = s; place = place }

    refused_by : first_refusal (retag_checks k place next (text_words text) slot rec draft) ≡ Some refusal → Holds base at_place (mv at_place name text) now m m result
    refused_by first =
        let held = subst (λ (o : Stored). StoreHolds o m base s) (sym same) holds in
        subst (λ (o : Stored). Holds base at_place (mv at_place name text) o m m result) same
        (change_refused old m base at_place (mv at_place name text) refusal result held
        (mv_here_refused old s sound (told_held old m base s sound held) place name slot rec (λ _. (named, there)) text next refusal leads here first) ends)

    pub moving_refused : ((r : FileRecord) → rec_at k.catalog slot ≡ Some r → first_refusal (moving_checks k place next (text_words text) r) ≡ Some refusal)
        → Holds base at_place (mv at_place name text) now m m result
    moving_refused first = refused_by (refused_first (moving_checks k place next (text_words text) rec) (instead_checks k slot draft) refusal (first rec there))

  -- and what replaces its record
  module _ (moving : (r : FileRecord) → rec_at k.catalog slot ≡ Some r → first_refusal (moving_checks k place next (text_words text) r) ≡ None) {size : ℕ} {words own : List (List ℕ)}
      (size_is : (r : FileRecord) → rec_at k.catalog slot ≡ Some r → size ≡ r.size) (words_are : (r : FileRecord) → rec_at k.catalog slot ≡ Some r → words ≡ words_moved k r place next)
      (own_are : own ≡ own_kept k slot) where
    abbrev told : Draft
    told = drafted name size words own

    told_is : told ≡ draft
    told_is = ap (λ n. drafted name n words own) (size_is rec there) ∙ ap₂ (drafted name rec.size) (words_are rec there) own_are

    row : first_refusal (retag_checks k place next (text_words text) slot rec draft) ≡ first_refusal (instead_checks k slot told)
    row = refused_then (moving_checks k place next (text_words text) rec) (instead_checks k slot draft) (moving rec there) ∙ sym (ap (λ (d : Draft). first_refusal (instead_checks k slot d)) told_is)

    pub standing_refused : {T : Type 0} (m : Meaning) (base s : State) → StoreHolds now m base s → (refusal : Refusal) (result : Result T ChangeFault) → result ≡ Err (Refused refusal)
        → first_refusal (instead_checks k slot told) ≡ Some refusal → Holds base (record { state = s; place = place }) (mv (record { state = s; place = place }) name text) now m m result
    standing_refused m base s holds refusal result ends first = refused_by m base s holds refusal result ends (row ∙ first)

    module _ (none : first_refusal (instead_checks k slot told) ≡ None) where
      pub move_asks : length own ≤ 128 → IsSomeAnd (rec_at k.catalog slot) (λ (x : FileRecord). MayReplace k slot x told)
      move_asks few =
          subst (λ o. IsSomeAnd o (λ (x : FileRecord). MayReplace k slot x told)) (sym there)
          (subst (λ d. MayReplace k slot rec d) (sym told_is)
          (mv_may old sound slot rec there place next name (text_words text) same_name
          (subst (λ n. is_file_name n ≡ true) same_name (record_named k.limits k.dict k.limits.blocks rec (sound.metadata.records slot rec there)))
          (subst (λ ws. length ws ≤ 128) own_are few) (row ∙ none)))

      pub move_holds : {q : Metadata} {blocks : List ℕ} → RefilesIn (record_in k (Some slot)) told blocks k q → ((r : FileRecord) → rec_at k.catalog slot ≡ Some r → blocks ≡ r.blocks) → now.is_broken ≡ false
          → {T : Type 0} (m : Meaning) (base s : State) → StoreHolds now m base s → (new : Stored) (end : Meaning) (result : Result T ChangeFault) → Saves q old.journal new m end result
          → Holds base (record { state = s; place = place }) (mv (record { state = s; place = place }) name text) new m end result
      move_holds {q} {blocks} again blocks_are unbroken m base s holds new end result saves =
          let held : StoreHolds old m base s = subst (λ (o : Stored). StoreHolds o m base s) (sym same) holds in
          let fits : ToldBy old s = told_held old m base s sound held in
          let here_is : Situation = record { state = s; place = place } in
          let was : File = file_of s.files name in
          let ws = words_moved k rec place next in
          let kept = own_kept k slot in
          let told_now = subst (λ o. RefilesIn o told blocks k q) there again in
          let drafts = subst (λ d. RefilesIn (Some rec) d blocks k q) told_is told_now in
          let sized = subst (λ n. RefilesIn (Some rec) (drafted name n ws kept) blocks k q) (sym (size_told old s sound fits name slot rec named there)) drafts in
          let stays = subst (λ bs. RefilesIn (Some rec) (drafted name (length was.bytes) ws kept) bs k q) (blocks_are rec there) sized in
          let given : retagged was.assigned (tags_at place) (tags_at next) ≡ ws = ap (λ words. retagged words (tags_at place) (tags_at next)) (old_given old s sound fits name slot rec named there) in
          refiled_holds old q slot (new_file name ws was.bytes) kept rec sound (ap (λ (o : Stored). o.is_broken) same ∙ unbroken) there stays base here_is new m end result
          (mv here_is name text) held (own_told old s sound fits name slot rec named there ws)
          (mv_here_done old s sound fits place name slot rec (λ _. (named, there)) text next leads here (row ∙ none)
          ∙ (ap (λ words. changed here_is (file_replaced s name (new_file name words was.bytes))) given
          ∙ ap (λ n. changed here_is (file_replaced s n (new_file name ws was.bytes))) (sym same_name)))
          (sym (ap (λ (f : File). f.bytes) (old_is old s sound fits name slot rec named there))) saves
