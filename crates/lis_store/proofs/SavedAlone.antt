-- Calls that change only memory before they are saved.
use Rattle.std.proofs.Common.{arith}
use Rattle.lis_store.proofs.Common.{◌≡◌, sym, ap, ◌∙◌, subst, ℕ, ◌+◌, ◌≤◌, false, List, length, Result, Meaning, looked, State, Situation, Outcome, Held, Metadata, AreSound, marked_count, StandsBut, changed}
use Rattle.lis_store.specs.declared.change_fault.ChangeFault.{ChangeFault}
use Rattle.lis_store.specs.Stands.{Stands}
use Rattle.lis_store.specs.Stored.{Stored, IsSound, StoreHolds}
use Rattle.lis_store.specs.Changes.{Holds, AreEditsFew}
use Rattle.lis_store.specs.Saving.{settled, IsReady, MayBeSaved, Saves}
use Rattle.lis_store.proofs.Saved.{none_are_placed}
use Rattle.lis_store.proofs.Standing.{stands_none_but}
use Rattle.lis_kept.specs.Image.{image_shape, most_staged}
use Rattle.lis_kept.proofs.Image.{same_staged}

-- What a change does to the memory of a store, if the journal stays.
pub record IsChange (old : Stored) (q : Metadata) : Type 0 where
  pub settles : AreSound q → IsSound (settled q old.journal)
  pub limits : q.limits ≡ old.metadata.limits
  pub room : length old.journal.staged + marked_count q ≤ most_staged old.metadata.limits
  pub edits : AreEditsFew old.metadata.ext q.ext

-- The journal is that of the store.
pub change_saves : {old made : Stored} → IsSound old → old.is_broken ≡ false → IsChange old made.metadata → made.journal ≡ old.journal → MayBeSaved made
change_saves {old} {made} sound unbroken change same =
    subst (λ (j : Held). MayBeSaved (record made { journal = j })) (sym same) (record {
      settles = change.settles;
      image = sound.image ∙ ap image_shape (sym change.limits);
      unbroken = sound.journal unbroken;
      placed = none_are_placed made.metadata old.journal (sound.placed unbroken);
      room = omega (arith, change.room, same_staged sound.image);
    })

module _ (old : Stored) (sound : IsSound old) (unbroken : old.is_broken ≡ false) where
  pub unplaced_stands : (base s : State) (before : Meaning) (holds : StoreHolds old before base s) (image : List ℕ) → StandsBut old.journal.layout old.journal.placed holds.kept image → Stands image base
  unplaced_stands base s before holds image but = holds.stands image (stands_none_but old.journal.layout old.journal.placed holds.kept image (sound.placed unbroken) but)

  -- what is kept by then is as before, and represents the next state
  pub saves_alone : {T : Type 0} {q : Metadata} {new : Stored} {before after : Meaning} {result : Result T ChangeFault} {base : State} {outcome : Outcome} → IsChange old q → Saves q old.journal new before after result
      → (now : Situation) (t : State) (holds : StoreHolds old before base now.state) → IsReady q (looked old.journal.staged holds.kept) t → outcome ≡ changed now t → Holds base now outcome new before after result
  saves_alone {before = before} {base = base} {outcome = outcome} change saves now t holds ready is =
      saves base now outcome t holds.kept holds.journal (change.limits ∙ holds.limits) (unplaced_stands base now.state before holds) (λ _. ready) is

-- ---- a store, as its view says of it
module _ {old now : Stored} (view : old ≡ now) where
  pub whole_view : now.is_broken ≡ false → old.is_broken ≡ false
  whole_view whole = ap (λ (k : Stored). k.is_broken) view ∙ whole

  pub held_view : {m : Meaning} {base s : State} → StoreHolds now m base s → StoreHolds old m base s
  held_view {m} {base} {s} holds = subst (λ k. StoreHolds k m base s) (sym view) holds
