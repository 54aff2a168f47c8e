-- A call that removes a file.
use Rattle.std.proofs.Common.{rules}
use Rattle.lis_store.proofs.Common.{◌≡◌, sym, ap, ◌∙◌, subst, ℕ, is_some, not, IsSome, Bool, true, false, cond, List, Some, Result, Err, arith, Meaning, Held, looked, Asks, slot_of, rec_at, rec_at-slot_of, Ext, Formula, FileRecord, NoFileHere, State, Situation, Outcome, refused, rm, file_removed, Metadata, IsSaved, changed, GivesBack}
use Rattle.lis_content.specs.Content.{marked, given as given_back}
use Rattle.lis_kept.specs.Changes.{bitmap_homes}
use Rattle.lis_store.specs.declared.change_fault.ChangeFault.{ChangeFault}
use Rattle.lis_store.specs.declared.change_fault.ChangeFault.TheVariants.{Refused, Disk}
use Rattle.lis_store.specs.Stored.{Stored, IsSound, StoreHolds}
use Rattle.lis_store.specs.Contents.{ContentGiven}
use Rattle.lis_store.specs.Changes.{Holds, ChangeKeeps, AreEditsFew, EndsUnrefused}
use Rattle.lis_store.specs.Judging.{is_among}
use Rattle.lis_store.specs.Saving.{IsReady, Saves}
use Rattle.lis_store.specs.Removing.{TakesOut}
use Rattle.lis_store.specs.ReplacingIn.{AreInForm}
use Rattle.lis_store.proofs.StoreSays.{here_told}
use Rattle.lis_store.proofs.Judged.{change_refused}
use Rattle.lis_store.proofs.Cleaned.{none_marked}
use Rattle.lis_store.proofs.Fitting.{most_own, own_fits}
use Rattle.lis_store.proofs.Keeping.{keeps_lost}
use Rattle.lis_store.proofs.Removed.{end_is, form_removed, few_marked, few_edits, ready_removed}
use Rattle.lis_store.proofs.Retaken.{in_form, settled_sound}
use Rattle.lis_store.proofs.SavedAlone.{IsChange, unplaced_stands, whole_view, held_view}
use Rattle.lis_store.proofs.Steps.{form_taken, pairs_same, sound_lost, holds_behind, holds_lost, asks_stand, asks_past}
use Rattle.lis_store.proofs.ToldBy.{told_held}
use Rattle.lis_store.proofs.Torn.{ended_broken}
use Rattle.lis_store.proofs.WriteFile.{found_there}
use Rattle.lis_journal.specs.Journal.{shape_of}
use Rattle.lis_kept.specs.Image.{image_shape}

-- one that is refused
pub removed_refused : {T : Type 0} (old : Stored) (m : Meaning) (place : List Formula) (name : List ℕ) (result : Result T ChangeFault) → IsSound old → is_among old.metadata place name ≡ false
    → result ≡ Err (Refused NoFileHere) → (base s : State) → StoreHolds old m base s → Holds base (record { state = s; place = place }) (rm (record { state = s; place = place }) name) old m m result
removed_refused old m place name result sound none ends base s holds = search (rules, change_refused, here_told, told_held)

-- what is known if the disk fails while the blocks of the file are read
given_err : (T : Type 0) (rec : FileRecord) (p q : Metadata) (journal : Held) (before after : Meaning) (change : ChangeFault) → ContentGiven {T = T} rec p q journal before after (Err change)
    → (change ≡ Disk) × (q ≡ p) × Asks journal before after
given_err T rec p q journal before after change never = search (rules)

module _ (T : Type 0) (old : Stored) (slot : ℕ) (name : List ℕ) (sound : IsSound old) (named : slot_of old.metadata.catalog name ≡ Some slot) (q : Metadata) (j : Held) (b : Bool) (change : ChangeFault) (before after : Meaning)
    (same : j ≡ old.journal) (stays : (rec : FileRecord) → rec_at old.metadata.catalog slot ≡ Some rec → ContentGiven {T = T} rec old.metadata q old.journal before after (Err change)) (ended : EndsUnrefused {T = T} b (Err change)) where
  lost : (change ≡ Disk) × (q ≡ old.metadata) × Asks old.journal before after
  lost =
      let found = rec_at-slot_of old.metadata.catalog name slot sound.metadata.catalog named in
      given_err T found.0 old.metadata q old.journal before after change (stays found.0 found.1)

  broken : b ≡ true
  broken = ended_broken T b change ended

  lost_metadata : q ≡ old.metadata
  lost_metadata = lost.1

  lost_there : IsSound (record { metadata = q; journal = old.journal; is_broken = b })
  lost_there = search (rules, lost_metadata, broken, sound_lost, in_form)

  pub lost_sound : IsSound (record { metadata = q; journal = j; is_broken = b })
  lost_sound = subst (λ (h : Held). IsSound (record { metadata = q; journal = h; is_broken = b })) (sym same) lost_there

  pub lost_holds : {U : Type 0} (base : State) (now : Situation) (outcome : Outcome) (result : Result U ChangeFault) → result ≡ Err change → StoreHolds old before base now.state
      → Holds base now outcome (record { metadata = q; journal = j; is_broken = b }) before after result
  lost_holds base now outcome result ends holds =
      holds_lost base now outcome (record { metadata = q; journal = j; is_broken = b }) before after result (asks_stand old base now.state before sound holds after lost.2)
      (asks_past old base now.state before sound holds after lost.2) broken (ends ∙ ap Err lost.0)

  pub lost_keeps : {U : Type 0} {now : Stored} {result : Result U ChangeFault} → old ≡ now → result ≡ Err change → ChangeKeeps now (record { metadata = q; journal = j; is_broken = b }) result
  lost_keeps view ends = keeps_lost view lost_sound (ends ∙ ap Err lost.0) (ap (λ (k : Metadata). k.limits) lost_metadata) (ap shape_of same) (ap (λ (k : Metadata). k.ext) lost_metadata) broken

-- ---- its blocks are freed, and then it is removed
-- What a call requires is about the store's value `now`, and what is proved is about its metadata, `old`.
module _ {old now : Stored} (view : old ≡ now) (sound : IsSound old) (unbroken_now : now.is_broken ≡ false) (place : List Formula) (name : List ℕ) {slot : ℕ} (named : slot_of now.metadata.catalog name ≡ Some slot)
    (here_now : true ≡ is_among now.metadata place name) {mid : Metadata} {before asked : Meaning}
    (given : (rec : FileRecord) → rec_at old.metadata.catalog slot ≡ Some rec → GivesBack rec old.metadata mid old.journal before × Asks old.journal before asked) where
  abbrev rec : FileRecord
  rec = (found_there view sound name named).0

  gives : GivesBack rec old.metadata mid old.journal before
  gives = (given rec (found_there view sound name named).1).0

  unbroken : old.is_broken ≡ false
  unbroken = whole_view view unbroken_now

  pub form_given : AreInForm mid
  form_given = form_taken old.metadata mid gives.blocks (given_back old.metadata.taken gives.blocks) gives.takes (in_form old sound)

  filed_given : rec_at mid.catalog slot ≡ Some rec
  filed_given = ap (λ (k : Metadata). rec_at k.catalog slot) gives.takes.metadata ∙ (found_there view sound name named).1

  pub there_given : IsSome (rec_at mid.catalog slot)
  there_given = ap is_some filed_given

  module _ {q : Metadata} (takes : (rec : FileRecord) → rec_at mid.catalog slot ≡ Some rec → TakesOut slot rec mid q) where
    out : TakesOut slot rec mid q
    out = takes rec filed_given

    abbrev after_marks : List Bool
    after_marks = marked old.metadata.marks (bitmap_homes old.metadata.limits gives.blocks)

    same_axioms : q.axioms ≡ old.metadata.axioms
    same_axioms = ap (λ (k : Metadata). k.axioms) (end_is slot rec mid q form_given out) ∙ ap (λ (k : Metadata). k.axioms) gives.takes.metadata

    same_limits : q.limits ≡ old.metadata.limits
    same_limits = ap (λ (k : Metadata). k.limits) (end_is slot rec mid q form_given out) ∙ ap (λ (k : Metadata). k.limits) gives.takes.metadata

    pub removed_change : IsChange old q
    removed_change = record {
      settles = λ after.
          settled_sound q old.journal (form_removed slot rec mid q form_given out) (pairs_same old.metadata q same_axioms sound.pairs) (sound.image ∙ ap image_shape (sym same_limits)) (sound.journal unbroken);
      limits = same_limits;
      room =
          omega (
            arith,
            few_marked slot rec mid q form_given out,
            gives.takes.marks.few,
            ap (λ (k : Metadata). most_own k.limits 128) gives.takes.metadata,
            own_fits old.metadata.limits 128 sound.metadata.range (omega arith),
            none_marked old.metadata (sound.clean unbroken),
            sound.few unbroken,
          );
      edits = subst (λ (e : Ext). AreEditsFew e q.ext) (ap (λ (k : Metadata). k.ext) gives.takes.metadata) (few_edits slot rec mid q form_given out);
    }

    pub removed_holds : {T : Type 0} {j : Held} {new : Stored} {after : Meaning} {result : Result T ChangeFault} → j ≡ old.journal → Saves q j new asked after result → (base s : State) → StoreHolds now before base s
        → Holds base (record { state = s; place = place }) (rm (record { state = s; place = place }) name) new before after result
    removed_holds {new = new} {after = after} {result = result} same saves_it base s holds_now =
        let saves = subst (λ (h : Held). Saves q h new asked after result) same saves_it in
        let at_place : Situation = record { state = s; place = place } in
        let holds : StoreHolds old before base s = held_view view holds_now in
        let asks = (given rec (found_there view sound name named).1).1 in
        let at : ℕ → List ℕ = looked old.journal.staged holds.kept in
        let gave = ap (λ bs. given_back old.metadata.taken bs) (gives.told holds.kept holds.journal) in
        let ts = given_back old.metadata.taken gives.blocks in
        let R : Metadata → Type 0 = λ k. AreInForm k → TakesOut slot rec k q → IsSaved k at → IsReady q at (file_removed s rec.name) in
        let ready : IsReady q at (file_removed s rec.name) =
        subst R (sym gives.takes.metadata) (λ form out saved. ready_removed slot rec old.metadata ts after_marks q form out sound.metadata at s holds.tells gave saved)
        form_given out (gives.takes.marks.saved at (λ area n lt unmarked. holds.written area n lt)) in
        let here : is_among old.metadata place name ≡ true = ap (λ (k : Stored). is_among k.metadata place name) view ∙ sym here_now in
        holds_behind base at_place (rm at_place name) new before asked after result (asks_stand old base s before sound holds asked asks) (asks_past old base s before sound holds asked asks)
        (saves base at_place (rm at_place name) (file_removed s name) holds.kept (asks.fits holds.kept holds.journal) (same_limits ∙ holds.limits) (unplaced_stands old sound unbroken base s before holds)
        (λ _. subst (λ n. IsReady q at (file_removed s n)) (found_there view sound name named).2 ready)
        (ap (λ b. cond (not b) (refused at_place NoFileHere) (changed at_place (file_removed s name))) (sym (here_told old s sound (told_held old before base s sound holds) place name) ∙ here)))
