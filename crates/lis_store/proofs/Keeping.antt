-- What a change keeps of a store, from what its steps keep.
use Rattle.lis_store.proofs.Common.{◌≡◌, sym, ap, ◌∙◌, subst, Bool, true, false, Result, Ok, Err, Ext, Metadata, Meaning, Refusal}
use Rattle.lis_store.specs.declared.change_fault.ChangeFault.{ChangeFault}
use Rattle.lis_store.specs.declared.change_fault.ChangeFault.TheVariants.{Refused, Disk}
use Rattle.lis_store.specs.Stored.{Stored, IsSound}
use Rattle.lis_store.specs.Changes.{ChangeLeft, ChangeKeeps, ChangesDisk, CommitLeft, AreEditsFew, Ends, EndsUnrefused}
use Rattle.lis_store.specs.Saving.{SaveKeeps}
use Rattle.lis_store.proofs.Edits.{edits_same}
use Rattle.lis_journal.specs.Journal.{shape_of}

left_saved : {T : Type 0} (old new : Stored) (result : Result T ChangeFault) → EndsUnrefused new.is_broken result → ChangeLeft old new result
left_saved old new (Ok done) whole = whole
left_saved old new (Err (Refused refusal)) never = absurd (let e : false ≡ true = never in cc)
left_saved old new (Err Disk) broken = broken

left_committed : {T : Type 0} (old new : Stored) (result : Result T ChangeFault) → CommitLeft new result → ChangeLeft old new result
left_committed old new (Ok done) whole = whole.0
left_committed old new (Err (Refused refusal)) never = absurd (let e : false ≡ true = never in cc)
left_committed old new (Err Disk) broken = broken

-- a commit that failed met a fault of the disk
pub left_unrefused : {T : Type 0} (new : Stored) (fault : ChangeFault) (result : Result T ChangeFault) → CommitLeft {T = T} new (Err fault) → result ≡ Err fault → EndsUnrefused new.is_broken result
left_unrefused new (Refused refusal) result never is = absurd (let e : false ≡ true = never in cc)
left_unrefused new Disk result broken is = subst (λ r. EndsUnrefused new.is_broken r) (sym is) broken

-- memory was changed, and then it was saved
pub keeps_saved : {T : Type 0} {old now made new : Stored} {result : Result T ChangeFault} → old ≡ now → made.metadata.limits ≡ old.metadata.limits → AreEditsFew old.metadata.ext made.metadata.ext
    → shape_of made.journal ≡ shape_of old.journal → SaveKeeps made new result → ChangeKeeps now new result
keeps_saved {old = old} {new = new} {result = result} view limits edits image save =
    subst (λ (k : Stored). ChangeKeeps k new result) view (record {
      limits = ap (λ (k : Metadata). k.limits) save.metadata ∙ limits;
      image = save.image ∙ image;
      left = left_saved old new result save.ended;
      edits = subst (λ (e : Ext). AreEditsFew old.metadata.ext e) (sym (ap (λ (k : Metadata). k.ext) save.metadata)) edits;
      sound = save.sound;
    })

-- saving refuses nothing
none_refused : {T Untouched : Type 0} (broken : Bool) (result : Result T ChangeFault) (refusal : Refusal) → EndsUnrefused broken result → result ≡ Err (Refused refusal) → Untouched
none_refused {T = T} broken result refusal ended is = absurd (let e : false ≡ true = subst (λ r. EndsUnrefused {T = T} broken r) is ended in cc)

-- how a change ends that was saved
pub ends_saved : {T Untouched : Type 0} {old now made new : Stored} {before after : Meaning} {result : Result T ChangeFault} → old ≡ now → IsSound old → made.metadata.limits ≡ old.metadata.limits
    → AreEditsFew old.metadata.ext made.metadata.ext → shape_of made.journal ≡ shape_of old.journal → SaveKeeps made new result → ChangesDisk before after result → Ends Untouched now new before after result
ends_saved {new = new} {result = result} view sound limits edits image save disk = record {
  untouched = λ refusal is. none_refused new.is_broken result refusal save.ended is;
  entry = subst (λ (k : Stored). IsSound k) view sound;
  keeps = keeps_saved view limits edits image save;
  disk = disk;
}

-- the disk failed, and so the store is broken
pub keeps_lost : {T : Type 0} {old now new : Stored} {result : Result T ChangeFault} → old ≡ now → IsSound new → result ≡ Err Disk → new.metadata.limits ≡ old.metadata.limits → shape_of new.journal ≡ shape_of old.journal
    → new.metadata.ext ≡ old.metadata.ext → new.is_broken ≡ true → ChangeKeeps now new result
keeps_lost {old = old} {new = new} {result = result} view sound lost limits image rows broken =
    subst (λ (k : Stored). ChangeKeeps k new result) view (record {
      limits = limits;
      image = image;
      left = subst (λ r. ChangeLeft old new r) (sym lost) broken;
      edits = edits_same old.metadata.ext new.metadata.ext rows;
      sound = sound;
    })

-- a commit came before it
pub keeps_behind : {T : Type 0} {old mid new : Stored} {result : Result T ChangeFault} → mid.metadata ≡ old.metadata → shape_of mid.journal ≡ shape_of old.journal → ChangeKeeps mid new result → EndsUnrefused new.is_broken result
    → ChangeKeeps old new result
keeps_behind {old = old} {new = new} {result = result} metadata image keeps ended = record {
  limits = keeps.limits ∙ ap (λ (k : Metadata). k.limits) metadata;
  image = keeps.image ∙ image;
  left = left_saved old new result ended;
  edits = subst (λ (k : Metadata). AreEditsFew k.ext new.metadata.ext) metadata keeps.edits;
  sound = keeps.sound;
}

-- or if a commit came after it
pub keeps_committed : {T U : Type 0} {old mid new : Stored} {held : Result T ChangeFault} (result : Result U ChangeFault) → ChangeKeeps old mid held → IsSound new → CommitLeft new result → new.metadata ≡ mid.metadata
    → shape_of new.journal ≡ shape_of mid.journal → ChangeKeeps old new result
keeps_committed {old = old} {new = new} result keeps sound left metadata image = record {
  limits = ap (λ (k : Metadata). k.limits) metadata ∙ keeps.limits;
  image = image ∙ keeps.image;
  left = left_committed old new result left;
  edits = subst (λ (k : Metadata). AreEditsFew old.metadata.ext k.ext) (sym metadata) keeps.edits;
  sound = sound;
}
