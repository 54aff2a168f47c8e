-- Contents that are put or freed before a change is saved: what is kept then, and what images represent meanwhile.
pub use Rattle.lis_store.proofs.Retaken.{sound_lost}
use Rattle.lis_store.proofs.Common.{rules, ◌≡◌, ◌⊎◌, sym, ap, ◌∙◌, subst, inl, inr, ℕ, true, false, Bool, List, [], length, Result, Err, Meaning, Leaves, Held, KeepsPast, block, are_free, has_home, is_large, Asks, homes_of, among_homes, data_start, image_blocks, State, Situation, Outcome, Metadata, leaves_weaken, leaves_then, StandsBut, is_among}
use Rattle.lis_journal.proofs.Fitting.{fits_stand}
use Rattle.lis_content.specs.Content.{marked}
use Rattle.lis_content.proofs.Numbers.{length-marked}
use Rattle.lis_kept.specs.Changes.{Takes, bitmap_homes}
use Rattle.lis_store.specs.declared.change_fault.ChangeFault.{ChangeFault}
use Rattle.lis_store.specs.declared.change_fault.ChangeFault.TheVariants.{Disk}
use Rattle.lis_store.specs.Stands.{Stands}
use Rattle.lis_store.specs.Stored.{Stored, PairsAreApart, IsSound, StoreHolds}
use Rattle.lis_store.specs.Changes.{Holds}
use Rattle.lis_store.specs.Contents.{ContentTorn}
use Rattle.lis_store.specs.ReplacingIn.{AreInForm}
use Rattle.lis_store.proofs.Holding.{held_fits}
use Rattle.lis_store.proofs.OneState.{one_state}
use Rattle.lis_store.proofs.Renewed.{stands_homes}
use Rattle.lis_store.proofs.Retaken.{form_retaken, sound_retaken}
use Rattle.lis_store.proofs.Standing.{stands_none_but, placed_stand, fitting_stands}
use Rattle.lis_journal.specs.Journal.{shape_of}
use Rattle.lis_kept.specs.Image.{image_shape}
use Rattle.lis_kept.proofs.Image.{same_blocks}

-- ---- memory
-- it is well formed whatever blocks are taken
pub form_taken : (o mid : Metadata) (blocks : List ℕ) (taken : List Bool) → Takes blocks taken o mid → AreInForm o → AreInForm mid
form_taken o mid blocks taken takes form =
    let marks = marked o.marks (bitmap_homes o.limits blocks) in
    subst (λ (k : Metadata). AreInForm k) (sym takes.metadata)
    (form_retaken o taken marks (sound_retaken o taken marks form.sound takes.len (length-marked o.marks (bitmap_homes o.limits blocks))) form)

-- pairs stay distinct if the axioms stay
pub pairs_same : (o q : Metadata) → q.axioms ≡ o.axioms → PairsAreApart o → PairsAreApart q
pairs_same o q same pairs slot other left right is also = search (rules)

-- a content is not large, or it is alone
pub small_or_alone : {X Y : Type 0} (size : ℕ) (placed : List X) (staged : List Y) → (is_large size ≡ false → placed ≡ []) → (is_large size ≡ true → staged ≡ []) → (placed ≡ []) ⊎ (staged ≡ [])
small_or_alone size placed staged small large = search (rules)

-- ---- images
-- While the image represents the base, a change has not begun.
pub holds_behind : {T : Type 0} (base : State) (now : Situation) (outcome : Outcome) (new : Stored) (before mid after : Meaning) (result : Result T ChangeFault)
    → Leaves before mid (λ image. Stands image base) → KeepsPast (image_blocks base.limits) before mid → Holds base now outcome new mid after result → Holds base now outcome new before after result
holds_behind base now outcome new before mid after result first past holds = search (rules, leaves_then, leaves_weaken)

-- The disk fails before a change begins.
pub holds_lost : {T : Type 0} (base : State) (now : Situation) (outcome : Outcome) (new : Stored) (before after : Meaning) (result : Result T ChangeFault)
    → Leaves before after (λ image. Stands image base) → KeepsPast (image_blocks base.limits) before after → new.is_broken ≡ true → result ≡ Err Disk → Holds base now outcome new before after result
holds_lost base now outcome new before after result first past broken ends = search (rules, leaves_weaken)

module _ (old : Stored) (base s : State) (before : Meaning) (sound : IsSound old) (holds : StoreHolds old before base s) where
  image_is : shape_of old.journal ≡ image_shape base.limits
  image_is = sound.image ∙ ap image_shape holds.limits

  -- while the disk is only read
  module _ (after : Meaning) (asks : Asks old.journal before after) where
    pub asks_stand : Leaves before after (λ image. Stands image base)
    asks_stand =
        leaves_weaken (λ image. Stands image base) (asks.reads.moments holds.journal.honest)
        (λ image is. holds.stands image ((fits_stand old.journal (sound.placed holds.unbroken) holds.journal).leaves image is))

    pub asks_past : KeepsPast (image_blocks base.limits) before after
    asks_past n le = ap (block n) (asks.reads.same holds.journal.honest).bytes

  -- An image that keeps all but spare blocks represents the base, if none is placed or nothing is held back.
  module _ (blocks spare : List ℕ) (free : are_free old.metadata.taken spare ≡ true) (among : (n : ℕ) → is_among blocks n ≡ true → has_home (data_start old.metadata.limits) spare n ≡ true)
      (none : (blocks ≡ []) ⊎ (old.journal.staged ≡ [])) where
    pub but_stands : (image : List ℕ) → StandsBut old.journal.layout blocks holds.kept image → Stands image base
    but_stands image but = by none
      where
        by : (blocks ≡ []) ⊎ (old.journal.staged ≡ []) → Stands image base
        by (inl none) = holds.stands image (stands_none_but old.journal.layout blocks holds.kept image none but)
        by (inr settled) =
            let fits = held_fits old before base s settled holds in
            let reads = (fits_stand old.journal (sound.placed holds.unbroken) holds.journal).reads in
            let same : s ≡ base = one_state before.bytes s base ((fitting_stands before old s sound fits).reads) (holds.stands before.bytes reads) in
            subst (λ (t : State). Stands image t) same
            (placed_stand old holds.kept spare s sound fits.tells fits.written free image (stands_homes old.journal.layout (data_start old.metadata.limits) blocks spare holds.kept image among but))

  -- if the disk fails while a content is put
  module _ (bytes : List ℕ) (mid : Metadata) (new : Held) (after : Meaning) (torn : ContentTorn bytes old.metadata mid old.journal new before after) (alone : is_large (length bytes) ≡ true → old.journal.staged ≡ []) where
    pub torn_stand : Leaves before after (λ image. Stands image base)
    torn_stand =
        leaves_weaken (λ image. Stands image base) (torn.moments holds.kept holds.journal)
        (but_stands (homes_of (data_start old.metadata.limits) torn.spare) torn.spare torn.were_free (λ n among. sym (among_homes (data_start old.metadata.limits) torn.spare n) ∙ among)
        (small_or_alone (length bytes) (homes_of (data_start old.metadata.limits) torn.spare) old.journal.staged (λ small. ap (homes_of (data_start old.metadata.limits)) (torn.small small)) alone))

    pub torn_past : KeepsPast (image_blocks base.limits) before after
    torn_past = subst (λ n. KeepsPast n before after) (same_blocks image_is) (torn.past holds.kept holds.journal)
