-- A disk fault while a call puts or frees contents: the store is broken, and the clauses of the call hold.
use Rattle.lis_store.proofs.Common.{refl, ap, Option, ◌≡◌, sym, ◌∙◌, subst, ℕ, true, false, Bool, List, [], length, Result, Err, Meaning, Held, is_large, State, Situation, Outcome, Metadata, AreSound, FileRecord}
use Rattle.lis_store.specs.declared.change_fault.ChangeFault.{ChangeFault}
use Rattle.lis_store.specs.declared.change_fault.ChangeFault.TheVariants.{Refused, Disk}
use Rattle.lis_store.specs.Stored.{Stored, IsSound, StoreHolds}
use Rattle.lis_store.specs.Changes.{Holds, ChangeKeeps, EndsUnrefused}
use Rattle.lis_store.specs.Contents.{ContentTorn, ContentRenewed}
use Rattle.lis_store.proofs.Keeping.{keeps_lost}
use Rattle.lis_store.proofs.Retaken.{retaken, form_retaken, in_form, sound_lost}
use Rattle.lis_store.proofs.Steps.{holds_lost, torn_stand, torn_past}

module _ (old : Stored) (bytes : List ℕ) (q : Metadata) (j : Held) (sound : IsSound old) (before after : Meaning) (torn : ContentTorn bytes old.metadata q old.journal j before after) where
  pub torn_sound : AreSound q → IsSound (record { metadata = q; journal = j; is_broken = true })
  torn_sound sound_q =
      let form = form_retaken old.metadata q.taken q.marks (subst (λ (x : Metadata). AreSound x) torn.metadata sound_q) (in_form old sound) in
      subst (λ (x : Metadata). IsSound (record { metadata = x; journal = j; is_broken = true })) (sym torn.metadata)
      (sound_lost (retaken old.metadata q.taken q.marks) j form sound.pairs (torn.image ∙ sound.image))

  pub torn_holds : {T : Type 0} (base : State) (now : Situation) (outcome : Outcome) (new : Stored) (result : Result T ChangeFault) → StoreHolds old before base now.state
      → (is_large (length bytes) ≡ true → old.journal.staged ≡ []) → new.is_broken ≡ true → result ≡ Err Disk → Holds base now outcome new before after result
  torn_holds base now outcome new result holds alone broken ends =
      holds_lost base now outcome new before after result (torn_stand old base now.state before sound holds bytes q j after torn alone) (torn_past old base now.state before sound holds bytes q j after torn alone) broken ends

-- such a fault breaks the store
pub ended_broken : (T : Type 0) (b : Bool) (change : ChangeFault) → EndsUnrefused {T = T} b (Err change) → b ≡ true
ended_broken T b (Refused refusal) never = absurd (let e : false ≡ true = never in cc)
ended_broken T b Disk broken = broken

-- ---- the disk fails while they are put
put_err : (bytes : List ℕ) (replaced : Option FileRecord) (p q : Metadata) (old new : Held) (before after : Meaning) (change : ChangeFault) → ContentRenewed bytes replaced p q old new before after (Err change)
    → (change ≡ Disk) × ContentTorn bytes p q old new before after
put_err bytes replaced p q old new before after (Refused refusal) never = absurd (let e : false ≡ true = never in cc)
put_err bytes replaced p q old new before after Disk torn = (refl, torn)

module _ (T : Type 0) (old : Stored) (sound : IsSound old) (bytes : List ℕ) (replaced : Option FileRecord) (q : Metadata) (j : Held) (b : Bool) (change : ChangeFault) (before after : Meaning)
    (put : ContentRenewed bytes replaced old.metadata q old.journal j before after (Err change)) (ended : EndsUnrefused {T = T} b (Err change)) where
  lost : (change ≡ Disk) × ContentTorn bytes old.metadata q old.journal j before after
  lost = put_err bytes replaced old.metadata q old.journal j before after change put

  broken : b ≡ true
  broken = ended_broken T b change ended

  pub lost_sound : AreSound q → IsSound (record { metadata = q; journal = j; is_broken = b })
  lost_sound after_sound =
      subst (λ c. IsSound (record { metadata = q; journal = j; is_broken = c })) (sym broken) (torn_sound old bytes q j sound before after lost.1 after_sound)

  pub lost_holds : {U : Type 0} (base : State) (now : Situation) (outcome : Outcome) (result : Result U ChangeFault) → result ≡ Err change → (is_large (length bytes) ≡ true → old.journal.staged ≡ [])
      → StoreHolds old before base now.state → Holds base now outcome (record { metadata = q; journal = j; is_broken = b }) before after result
  lost_holds base now outcome result ends alone holds =
      torn_holds old bytes q j sound before after lost.1 base now outcome (record { metadata = q; journal = j; is_broken = b }) result holds alone broken (ends ∙ ap Err lost.0)

  pub lost_keeps : {U : Type 0} {now : Stored} {result : Result U ChangeFault} → old ≡ now → result ≡ Err change → AreSound q → ChangeKeeps now (record { metadata = q; journal = j; is_broken = b }) result
  lost_keeps view ends after =
      keeps_lost view (lost_sound after) (ends ∙ ap Err lost.0) (ap (λ (k : Metadata). k.limits) lost.1.metadata) lost.1.image (ap (λ (k : Metadata). k.ext) lost.1.metadata) broken
