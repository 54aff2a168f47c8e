-- Calls in which a file is put into a free slot, or replaces another.
use Rattle.std.proofs.Common.{rules}
use Rattle.lis_store.proofs.Common.{◌≡◌, refl, sym, ap, ◌∙◌, subst, ℕ, ◌+◌, ◌-◌, ◌<◌, ◌≤◌, ◌==◌, ◌&&◌, not, nat_lt, is_some, true, false, Bool, IsSome, IfSome, List, [], length, Option, Some, None, Result, arith, list_all, and_parts, eqb-true, Meaning, Held, Fits, KeepsPast, looked, Filed, slot_of, rec_at, is_large, word_of, same_word, FileRecord, are_blocks, is_record, Limits, data_start, image_blocks, State, File, blocks_taken, used_blocks, derived_words, new_file, file_added, file_removed, file_replaced, file_limit, Situation, Outcome, same_word_decides, Metadata, IsSaved, is_marked, marked_count, is_sound_record, AreSound, bytes_told, blocks_told, Tells, record_in_form, filed_at_slot, among_from_any, leaves_weaken, StandsBut, is_among, changed, file_told, number_from_among}
use Rattle.lis_catalog.proofs.Laws.{slot_of-rec_at}
use Rattle.lis_laws.proofs.Counts.{filter_sum_drops}
use Rattle.lis_store.specs.declared.change_fault.ChangeFault.{ChangeFault}
use Rattle.lis_store.specs.Stands.{Stands}
use Rattle.lis_store.specs.Stored.{Stored, IsSound, StoreHolds}
use Rattle.lis_store.specs.Changes.{Holds, AreEditsFew}
use Rattle.lis_store.specs.Contents.{blocks_gone, IsRenewed, Renews, Trades}
use Rattle.lis_store.specs.Saving.{settled, MayBeSaved, Saves}
use Rattle.lis_store.specs.Drafts.{Draft, with_own, draft_of, AreOwnWords}
use Rattle.lis_store.specs.Instead.{free_for}
use Rattle.lis_store.specs.Replacing.{MayReplace}
use Rattle.lis_store.specs.ReplacingIn.{AreInForm, MayPut, RefilesIn, record_in, file_gone}
use Rattle.lis_store.proofs.Cleaned.{none_marked}
use Rattle.lis_store.proofs.Elsewhere.{saved_there, no_home_before}
use Rattle.lis_store.proofs.Fitting.{most_own, own_fits, all_fits}
use Rattle.lis_store.proofs.StoreSays.{size_of_filed, file_of_filed}
use Rattle.lis_store.proofs.FreeBlocks.{used_told, version_told}
use Rattle.lis_store.proofs.Housed.{IsHoused, free_number, stay_housed, trades_housed, alone_housed}
use Rattle.lis_store.proofs.Renewed.{stands_same}
use Rattle.lis_store.proofs.Refiled.{form_refiled, limits_refiled, axioms_refiled, saved_refiled, marked_refiled, edits_refiled, few_refiled, tells_refiled, may_there}
use Rattle.lis_store.proofs.Retaken.{in_form, settled_sound, retaken, form_retaken}
use Rattle.lis_store.proofs.SavedAlone.{IsChange, unplaced_stands}
use Rattle.lis_store.proofs.Steps.{pairs_same, small_or_alone, holds_behind, but_stands}
use Rattle.lis_store.proofs.ToldBy.{ToldBy, told_held}
use Rattle.lis_store.proofs.WriteFile.{found_there, written_enough}
use Rattle.lis_journal.specs.Journal.{shape_of}
use Rattle.lis_kept.specs.Image.{image_shape}
use Rattle.lis_model.proofs.Ranges.{limit_le}
use Rattle.lis_kept.specs.Areas.{bitmap_home}
use Rattle.lis_kept.proofs.Image.{same_layout, same_blocks, same_staged}

may_retaken : (p : Metadata) (taken marks : List Bool) (slot : ℕ) (rec : FileRecord) (draft : Draft) → MayReplace p slot rec draft → MayReplace (retaken p taken marks) slot rec draft
may_retaken p taken marks slot rec draft may = search (rules)

-- a file that may be put into a slot may be put there whatever blocks are taken
put_retaken : (p : Metadata) (taken marks : List Bool) (slot : Option ℕ) (draft : Draft) → MayPut p slot draft → MayPut (retaken p taken marks) slot draft
put_retaken p taken marks slot draft may = search (rules, retaken, may_retaken)

put_small : (p : Metadata) (slot : Option ℕ) (draft : Draft) → MayPut p slot draft → draft.size ≤ file_limit p.limits
put_small p slot draft may = search (rules)

record_retaken : (p : Metadata) (taken marks : List Bool) (slot : Option ℕ) → record_in (retaken p taken marks) slot ≡ record_in p slot
record_retaken p taken marks slot = search (rules)

-- ---- memory represents the next state, wherever the bytes come from
module _ (old : Stored) (taken marks : List Bool) (q : Metadata) (j : Held) (gone : Option FileRecord) (draft : Draft) (numbers : List ℕ) (sound : IsSound old) (sound_p : AreSound (retaken old.metadata taken marks))
    (again : RefilesIn gone draft numbers (retaken old.metadata taken marks) q) where
  abbrev o : Metadata
  o = old.metadata

  abbrev p : Metadata
  p = retaken o taken marks

  pub form : AreInForm p
  form = form_retaken o taken marks sound_p (in_form old sound)

  pub limits_then : q.limits ≡ o.limits
  limits_then = limits_refiled again

  pub replaced_sound : shape_of old.journal ≡ shape_of j → j.is_broken ≡ false → AreSound q → IsSound (settled q j)
  replaced_sound image unbroken after =
      settled_sound q j (form_refiled again) (pairs_same o q (axioms_refiled again) sound.pairs) (sym image ∙ (sound.image ∙ ap image_shape (sym limits_then))) unbroken

  pub replaced_marks : marked_count q ≤ marked_count p + 257 + most_own o.limits 256
  replaced_marks = few_refiled gone form again

  pub replaced_bitmap : (n : ℕ) → is_marked p (bitmap_home o.limits n) ≡ true → is_marked q (bitmap_home q.limits n) ≡ true
  replaced_bitmap n is = ap (λ (x : Limits). is_marked q (bitmap_home x n)) limits_then ∙ marked_refiled again (bitmap_home o.limits n) is

  pub replaced_edits : AreEditsFew o.ext q.ext
  replaced_edits = edits_refiled again

module _ (old : Stored) (taken marks : List Bool) (q : Metadata) (j : Held) (gone : Option FileRecord) (file : File) (own : List (List ℕ)) (numbers : List ℕ) (sound : IsSound old)
    (sound_p : AreSound (retaken old.metadata taken marks)) (again : RefilesIn gone (with_own file own) numbers (retaken old.metadata taken marks) q) where
  abbrev metadata_before : Metadata
  metadata_before = old.metadata

  pub replaced_holds : {T : Type 0} (base : State) (now : Situation) (new : Stored) (before after : Meaning) (result : Result T ChangeFault) (outcome : Outcome) (at kept : ℕ → List ℕ) (held : List ℕ)
      → metadata_before.limits ≡ base.limits → (tells : Tells metadata_before at now.state) → AreOwnWords (file_gone now.state gone).declared (file_gone now.state gone).axioms own file → IsSaved (retaken metadata_before taken marks) at
      → IsHoused metadata_before.limits metadata_before.taken taken (blocks_gone metadata_before.limits at gone) held file.bytes numbers at (looked j.staged kept)
      → Fits j before kept → ((image : List ℕ) → StandsBut j.layout j.placed kept image → Stands image base)
      → used_blocks (file_gone now.state gone) + blocks_taken (file_gone now.state gone).limits.version (length file.bytes) ≤ (file_gone now.state gone).limits.blocks
      → outcome ≡ changed now (file_added (file_gone now.state gone) file) → Saves q j new before after result → Holds base now outcome new before after result
  replaced_holds base now new before after result outcome at kept held limits tells are_own saved housed fits stands room done saves =
      let draft = with_own file own in
      let there = looked j.staged kept in
      saves base now outcome (file_added (file_gone now.state gone) file) kept fits (limits_then old taken marks q j gone draft numbers sound sound_p again ∙ limits) stands
      (λ sound_then. record {
        tells = tells_refiled file own metadata_before taken marks (form old taken marks q j gone draft numbers sound sound_p again) again sound.metadata tells are_own housed room;
        saved = saved_refiled again there (saved_there (retaken metadata_before taken marks) at there sound_p.range (λ n low lt. housed.same n (no_home_before (data_start metadata_before.limits) n held lt)) saved);
      })
      done

-- without a file its blocks are not used
room_without : (old : Stored) (s : State) → IsSound old → {at : ℕ → List ℕ} → Tells old.metadata at s → (slot : ℕ) (rec : FileRecord) → rec_at old.metadata.catalog slot ≡ Some rec → (size : ℕ)
    → used_blocks s + blocks_taken s.limits.version size ≤ s.limits.blocks + blocks_taken s.limits.version (length (bytes_told old.metadata.limits at rec))
    → used_blocks (file_removed s rec.name) + blocks_taken s.limits.version size ≤ s.limits.blocks
room_without old s sound {at} tells slot rec there size room =
    let metadata = old.metadata in
    let filed : Filed = record { slot = slot; rec = rec } in
    let told : File = file_told metadata.limits metadata.dict at filed in
    let gone = (same_word_decides rec.name rec.name).1 refl in
    let fewer = filter_sum_drops (λ (f : File). blocks_taken s.limits.version (length f.bytes)) (λ (f : File). not (same_word f.name rec.name)) s.files told
    (file_of_filed metadata at s sound.metadata sound.free tells filed (filed_at_slot metadata.catalog sound.metadata.catalog slot rec there)) (ap not gone) in
    omega (arith, room, fewer)

-- ---- other bytes
pub anew_there : {old now : Stored} → old ≡ now → (slot : Option ℕ) (draft : Draft) → MayPut now.metadata slot draft → IfSome slot (λ s. IsSome (rec_at old.metadata.catalog s))
anew_there {old} same slot draft may = may_there slot old.metadata draft (subst (λ (o : Stored). MayPut o.metadata slot draft) (sym same) may)

pub anew_small : {old now : Stored} → old ≡ now → (slot : Option ℕ) (draft : Draft) → MayPut now.metadata slot draft → draft.size ≤ file_limit old.metadata.limits
anew_small {old} same slot draft may = put_small old.metadata slot draft (subst (λ (o : Stored). MayPut o.metadata slot draft) (sym same) may)

-- one more content can be staged
pub anew_room : {old : Stored} → IsSound old → old.is_broken ≡ false → length old.journal.staged + 16 ≤ old.journal.capacity.staged
anew_room {old} sound unbroken = omega (arith, sound.few unbroken, same_staged sound.image, all_fits old.metadata.limits sound.metadata.range)

-- What a call requires is about the store's value `now`, and what is proved is about its metadata, `old`.
module _ {old now : Stored} (same : old ≡ now) {mid : Metadata} {j : Held} (slot : Option ℕ) (name : List ℕ) (assigned : List (List ℕ)) (bytes numbers : List ℕ) (sound : IsSound old) (sound_mid : AreSound mid)
    (asked : MayPut now.metadata slot (draft_of (new_file name assigned bytes))) {before placed : Meaning} (renews : Renews bytes numbers (record_in old.metadata slot) old.metadata mid old.journal j before placed) where
  abbrev k : Metadata
  k = old.metadata

  abbrev file : File
  file = new_file name assigned bytes

  abbrev goes : Option FileRecord
  goes = record_in k slot

  first : MayPut k slot (draft_of file)
  first = subst (λ (o : Stored). MayPut o.metadata slot (draft_of file)) (sym same) asked

  abbrev renewed : Metadata
  renewed = retaken k mid.taken mid.marks

  sound_renewed : AreSound renewed
  sound_renewed = subst (λ (x : Metadata). AreSound x) renews.metadata sound_mid

  -- what is required of the metadata then
  pub mid_form : AreInForm mid
  mid_form = subst (λ (x : Metadata). AreInForm x) (sym renews.metadata) (form_retaken k mid.taken mid.marks sound_renewed (in_form old sound))

  mid_same : mid.limits ≡ k.limits
  mid_same = ap (λ (x : Metadata). x.limits) renews.metadata

  pub mid_in_form : are_blocks mid.limits.version (length bytes) numbers ≡ true
  mid_in_form = ap (λ (x : Limits). are_blocks x.version (length bytes) numbers) mid_same ∙ renews.in_form

  pub mid_below : list_all (λ n. nat_lt n mid.limits.blocks) numbers ≡ true
  mid_below = ap (λ (x : Limits). list_all (λ n. nat_lt n x.blocks) numbers) mid_same ∙ renews.below

  pub mid_first : MayPut mid slot (draft_of file)
  mid_first = subst (λ (x : Metadata). MayPut x slot (draft_of file)) (sym renews.metadata) (put_retaken k mid.taken mid.marks slot (draft_of file) first)

  pub mid_short : length bytes ≤ 67108864
  mid_short = omega (arith, limit_le k.limits, put_small k slot (draft_of file) first)

  pub mid_image : shape_of j ≡ shape_of now.journal
  mid_image = renews.image ∙ ap (λ (o : Stored). shape_of o.journal) same

  module _ {q : Metadata} (again_mid : RefilesIn (record_in mid slot) (draft_of file) numbers mid q) where
    again : RefilesIn goes (draft_of file) numbers renewed q
    again = search (rules, record_retaken)

    pub written_same : q.limits ≡ k.limits
    written_same = limits_then old mid.taken mid.marks q j goes (draft_of file) numbers sound sound_renewed again

    pub written_edits : AreEditsFew k.ext q.ext
    written_edits = replaced_edits old mid.taken mid.marks q j goes (draft_of file) numbers sound sound_renewed again

    -- what is placed is within the image
    pub written_within : (n : ℕ) → is_among j.placed n ≡ true → n < image_blocks q.limits
    written_within n among =
        let at = among_from_any (λ b. data_start k.limits + b == n) renews.spare (renews.placed n among) in
        let free = free_number k.taken renews.spare at.0 renews.were_free (number_from_among renews.spare at.0 at.1) in
        omega (arith, eqb-true (data_start k.limits + at.0) n at.2, free.0, sound.metadata.blocks, ap image_blocks written_same)

    module _ (unbroken_now : now.is_broken ≡ false) where
      unbroken : old.is_broken ≡ false
      unbroken = ap (λ (o : Stored). o.is_broken) same ∙ unbroken_now

      written_unbroken : j.is_broken ≡ false
      written_unbroken = renews.broken ∙ sound.journal unbroken

      pub written_saves : (b : Bool) → MayBeSaved (record { metadata = q; journal = j; is_broken = b })
      written_saves b = record {
        settles = replaced_sound old mid.taken mid.marks q j goes (draft_of file) numbers sound sound_renewed again (sym renews.image) written_unbroken;
        image = renews.image ∙ (sound.image ∙ ap image_shape (sym written_same));
        unbroken = written_unbroken;
        placed = λ n among.
            let at = among_from_any (λ b. data_start k.limits + b == n) renews.spare (renews.placed n among) in
            let home = eqb-true (data_start k.limits + at.0) n at.2 in
            let bitmap = subst (λ (x : Metadata). is_marked x (bitmap_home k.limits at.0) ≡ true) renews.metadata (renews.bitmap at.0 (number_from_among renews.spare at.0 at.1)) in
            let block : at.0 ≡ n - data_start q.limits = omega (arith, home, ap data_start written_same) in (
              omega (arith, home, ap data_start written_same),
              ap (λ b. is_marked q (bitmap_home q.limits b)) (sym block) ∙ replaced_bitmap old mid.taken mid.marks q j goes (draft_of file) numbers sound sound_renewed again at.0 bitmap,
            );
        room =
            let some = replaced_marks old mid.taken mid.marks q j goes (draft_of file) numbers sound sound_renewed again in
            omega (arith, some, sound.few unbroken, renews.few_staged, renews.marks.few, own_fits k.limits 256 sound.metadata.range (omega arith), none_marked k (sound.clean unbroken), ap (λ (x : Metadata). marked_count x) renews.metadata, same_staged (renews.image ∙ sound.image));
      }

    -- from a state that memory represented
    module _ (base : State) (was : Situation) (holds : StoreHolds old before base was.state) where
      abbrev s : State
      s = was.state

      abbrev at : ℕ → List ℕ
      at = looked old.journal.staged holds.kept

      comes : IsRenewed bytes numbers renews.blocks goes k mid holds.kept old.journal j placed
      comes = renews.renewed holds.kept holds.journal

      abbrev then_at : ℕ → List ℕ
      then_at = looked j.staged comes.lands.kept

      saved_at : IsSaved renewed at
      saved_at = subst (λ (x : Metadata). IsSaved x at) renews.metadata (renews.marks.saved at (λ area n lt unmarked. holds.written area n lt))

      -- a file that is removed is in a slot
      gone_slot : (o : Option ℕ) (rec : FileRecord) → record_in k o ≡ Some rec → (n : ℕ) × (rec_at k.catalog n ≡ Some rec)
      gone_slot None rec is = absurd cc
      gone_slot (Some n) rec is = (n, is)

      housed : IsHoused k.limits k.taken mid.taken (blocks_gone k.limits at goes) renews.blocks bytes numbers at then_at
      housed = by goes refl comes.trades
        where
          by : (o : Option FileRecord) → goes ≡ o → Trades k.limits o k.taken mid.taken renews.blocks at then_at → IsHoused k.limits k.taken mid.taken (blocks_gone k.limits at o) renews.blocks bytes numbers at then_at
          by None is trades = alone_housed k.limits k.taken mid.taken renews.blocks bytes numbers at then_at sound.metadata.blocks renews.distinct comes.lands.holds comes.lands.same trades
          by (Some rec) is trades =
              let found = gone_slot slot rec is in
              trades_housed k sound.metadata at then_at s holds.tells (record { slot = found.0; rec = rec }) (filed_at_slot k.catalog sound.metadata.catalog found.0 rec found.1) mid.taken renews.blocks bytes numbers renews.distinct
              comes.lands.holds comes.lands.same trades

      -- there are enough blocks for it
      room : blocks_taken k.limits.version (length bytes) ≤ free_for k goes
          → used_blocks (file_gone s goes) + blocks_taken (file_gone s goes).limits.version (length bytes) ≤ (file_gone s goes).limits.blocks
      room enough = by goes refl enough
        where
          fits : ToldBy old s
          fits = told_held old before base s sound holds

          by : (o : Option FileRecord) → goes ≡ o → blocks_taken k.limits.version (length bytes) ≤ free_for k o
              → used_blocks (file_gone s o) + blocks_taken (file_gone s o).limits.version (length bytes) ≤ (file_gone s o).limits.blocks
          by None is free = omega (arith, free, used_told old s sound fits, ap (λ v. blocks_taken v (length bytes)) (version_told old s sound fits))
          by (Some rec) is free =
              let found = gone_slot slot rec is in
              room_without old s sound holds.tells found.0 rec found.1 (length bytes)
              (written_enough old s sound fits rec.name found.0 rec (slot_of-rec_at k.catalog found.0 rec sound.metadata.catalog found.1) found.1 (length bytes) free)

      -- what is kept, except placed blocks, represents the base
      module _ (alone : is_large (length bytes) ≡ true → old.journal.staged ≡ []) where
        stands_old : (image : List ℕ) → StandsBut old.journal.layout j.placed holds.kept image → Stands image base
        stands_old =
            but_stands old base s before sound holds j.placed renews.spare renews.were_free renews.placed (small_or_alone (length bytes) j.placed old.journal.staged renews.unplaced alone)

        stands_then : (image : List ℕ) → StandsBut j.layout j.placed comes.lands.kept image → Stands image base
        stands_then image but =
            stands_old image (stands_same old.journal.layout j.placed comes.lands.kept holds.kept image comes.stays (subst (λ l. StandsBut l j.placed comes.lands.kept image) (same_layout renews.image) but))

        -- if there are enough blocks for it
        replaces : {T : Type 0} (new : Stored) (after : Meaning) (result : Result T ChangeFault) → blocks_taken k.limits.version (length bytes) ≤ free_for k goes → Saves q j new placed after result
            → Holds base was (changed was (file_added (file_gone s goes) file)) new before after result
        replaces new after result enough saves =
            let outcome = changed was (file_added (file_gone s goes) file) in
            holds_behind base was outcome new before placed after result (leaves_weaken (λ image. Stands image base) (renews.moments holds.kept holds.journal) stands_old)
            (subst (λ n. KeepsPast n before placed) (same_blocks (sound.image ∙ ap image_shape holds.limits)) (renews.past holds.kept holds.journal))
            (replaced_holds old mid.taken mid.marks q j goes file (derived_words name bytes) numbers sound sound_renewed again base was new placed after result outcome at comes.lands.kept renews.blocks
            holds.limits holds.tells refl saved_at housed comes.lands.fits stands_then (room enough) refl saves)

    pub written_holds : {T : Type 0} (base : State) (was : Situation) → StoreHolds now before base was.state → blocks_taken now.metadata.limits.version (length bytes) ≤ free_for now.metadata (record_in now.metadata slot)
        → (is_large (length bytes) ≡ true → now.journal.staged ≡ []) → (new : Stored) (after : Meaning) (result : Result T ChangeFault) → Saves q j new placed after result
        → Holds base was (changed was (file_added (file_gone was.state (record_in now.metadata slot)) file)) new before after result
    written_holds base was holds_now enough_now alone_now new after result saves =
        let A : Stored → Type 0 = λ o. is_large (length bytes) ≡ true → o.journal.staged ≡ [] in
        let E : Stored → Type 0 = λ o. blocks_taken o.metadata.limits.version (length bytes) ≤ free_for o.metadata (record_in o.metadata slot) in
        let holds : StoreHolds old before base was.state = subst (λ (o : Stored). StoreHolds o before base was.state) (sym same) holds_now in
        subst (λ (o : Stored). Holds base was (changed was (file_added (file_gone was.state (record_in o.metadata slot)) file)) new before after result) same
        (replaces base was holds (subst A (sym same) alone_now) new after result (subst E (sym same) enough_now) saves)

-- ---- another name and other words, and the same bytes
-- the blocks of a file are those of a record that has its size
module _ {old now : Stored} (same : old ≡ now) (sound : IsSound old) (name : List ℕ) {slot : ℕ} (named : slot_of now.metadata.catalog name ≡ Some slot) {numbers : List ℕ}
    (numbers_are : (rec : FileRecord) → rec_at old.metadata.catalog slot ≡ Some rec → numbers ≡ rec.blocks) where
  abbrev rec : FileRecord
  rec = (found_there same sound name named).0

  blocks_are : numbers ≡ rec.blocks
  blocks_are = numbers_are rec (found_there same sound name named).1

  sound_rec : is_sound_record old.metadata.limits old.metadata.dict old.metadata.limits.blocks rec ≡ true
  sound_rec = sound.metadata.records slot rec (found_there same sound name named).1

  pub still_in_form : {size : ℕ} → ((rec : FileRecord) → rec_at old.metadata.catalog slot ≡ Some rec → size ≡ rec.size) → are_blocks old.metadata.limits.version size numbers ≡ true
  still_in_form size = let there = found_there same sound name named in search (rules, there, blocks_are, record_in_form, sound_rec)

  pub still_below : list_all (λ n. nat_lt n old.metadata.limits.blocks) numbers ≡ true
  still_below =
      ap (list_all (λ n. nat_lt n old.metadata.limits.blocks)) blocks_are
      ∙ (and_parts (is_record old.metadata.limits rec && list_all (λ n. is_some (word_of old.metadata.dict n)) rec.tags) (list_all (λ n. nat_lt n old.metadata.limits.blocks) rec.blocks) sound_rec).1

module _ {old now : Stored} (same : old ≡ now) (sound : IsSound old) (unbroken_now : now.is_broken ≡ false) {gone : Option FileRecord} {q : Metadata} {draft : Draft} {numbers : List ℕ}
    (refiled : RefilesIn gone draft numbers old.metadata q) where
  abbrev old_metadata : Metadata
  old_metadata = old.metadata

  was_unbroken : old.is_broken ≡ false
  was_unbroken = ap (λ (k : Stored). k.is_broken) same ∙ unbroken_now

  pub refiled_change : IsChange old q
  refiled_change = record {
    settles = replaced_sound old old_metadata.taken old_metadata.marks q old.journal gone draft numbers sound sound.metadata refiled refl (sound.journal was_unbroken);
    limits = limits_then old old_metadata.taken old_metadata.marks q old.journal gone draft numbers sound sound.metadata refiled;
    room =
        let some = replaced_marks old old_metadata.taken old_metadata.marks q old.journal gone draft numbers sound sound.metadata refiled in
        omega (arith, some, own_fits old_metadata.limits 256 sound.metadata.range (omega arith), none_marked old_metadata (sound.clean was_unbroken), sound.few was_unbroken);
    edits = replaced_edits old old_metadata.taken old_metadata.marks q old.journal gone draft numbers sound sound.metadata refiled;
  }

-- if the bytes of the file that was there are these
pub refiled_holds : (old : Stored) (q : Metadata) (slot : ℕ) (file : File) (own : List (List ℕ)) (rec : FileRecord) (sound : IsSound old) → old.is_broken ≡ false → rec_at old.metadata.catalog slot ≡ Some rec → RefilesIn (Some rec) (with_own file own) rec.blocks old.metadata q
    → {T : Type 0} (base : State) (now : Situation) (new : Stored) (before after : Meaning) (result : Result T ChangeFault) (outcome : Outcome) (holds : StoreHolds old before base now.state)
    → AreOwnWords now.state.declared now.state.axioms own file → outcome ≡ changed now (file_replaced now.state rec.name file) → bytes_told old.metadata.limits (looked old.journal.staged holds.kept) rec ≡ file.bytes
    → Saves q old.journal new before after result → Holds base now outcome new before after result
refiled_holds old q slot file own rec sound unbroken there again base now new before after result outcome holds are_own done told saves =
    let metadata = old.metadata in
    let s = now.state in
    let filed : Filed = record { slot = slot; rec = rec } in
    let of = filed_at_slot metadata.catalog sound.metadata.catalog slot rec there in
    let at : ℕ → List ℕ = looked old.journal.staged holds.kept in
    let size : rec.size ≡ length file.bytes = sym (size_of_filed old s sound (told_held old before base s sound holds) filed of) ∙ ap length told in
    let room = room_without old s sound holds.tells slot rec there (length file.bytes) (omega (arith, holds.tells.formed.few_blocks, ap (λ bs. blocks_taken s.limits.version (length bs)) told)) in
    replaced_holds old metadata.taken metadata.marks q old.journal (Some rec) file own rec.blocks sound sound.metadata again base now new before after result outcome at holds.kept (blocks_told metadata.limits at rec)
    holds.limits holds.tells are_own (λ area n lt unmarked. holds.written area n lt) (stay_housed metadata at s holds.tells filed of file.bytes size told) holds.journal
    (unplaced_stands old sound unbroken base s before holds) room done saves
