-- How metadata is saved, and what is held back is committed.
use Rattle.std.proofs.Common.{rules}
use Rattle.lis_store.proofs.Common.{◌≡◌, ◌⊎◌, ℕ, zero, suc, ◌+◌, ◌-◌, ◌<◌, ◌≤◌, ◌||◌, Bool, true, false, List, [], ◌∷◌, length, Result, Ok, Err, refl, sym, ap, ◌∙◌, subst, inl, inr, IsTrue, arith, eq-eqb, false_from_ne_true, contains_from_among, Meaning, Leaves, Held, are_whole, Fits, KeepsPast, looked, data_start, image_blocks, State, Situation, Outcome, Metadata, IsWritten, AreSound, Tells, leaves_weaken, HomeBlock, StandsBut, is_among, changed}
use Rattle.lis_ports.proofs.Moments.{leaves_none}
use Rattle.lis_journal.specs.Images.{StandsFor, StandsForAllOrNone}
use Rattle.lis_model.specs.Image.{properties_start}
use Rattle.lis_kept.specs.Areas.{bitmap_home}
use Rattle.lis_kept.specs.Staging.{Stages}
use Rattle.lis_store.specs.declared.change_fault.ChangeFault.{ChangeFault}
use Rattle.lis_store.specs.declared.change_fault.ChangeFault.TheVariants.{Refused, Disk}
use Rattle.lis_store.specs.Stands.{Stands}
use Rattle.lis_store.specs.Stored.{Stored, IsSound, StoreHolds}
use Rattle.lis_store.specs.Changes.{Holds, HeldEnded, Commits, CommitEnded, EndsUnrefused}
use Rattle.lis_store.specs.Saving.{clean, settled, ArePlaced, IsReady, KeepsStaged, SaveKeeps}
use Rattle.lis_store.proofs.Elsewhere.{tells_there}
use Rattle.lis_store.proofs.Retaken.{in_form, sound_at, sound_lost}
use Rattle.lis_store.proofs.Told.{retold}
use Rattle.lis_store.proofs.Standing.{stands_all_but, stands_none_but, change_stands}
use Rattle.lis_journal.specs.Journal.{shape_of}
use Rattle.lis_kept.specs.Image.{image_shape}
use Rattle.lis_kept.proofs.Image.{same_layout, same_blocks}
use Rattle.lis_store.specs.declared.saving.TheConstants.{MOST_HELD}

-- ---- what holds of the store afterwards
module _ (p : Metadata) (j x : Held) (settles : IsSound (settled p j)) (image : shape_of x ≡ shape_of j) where
  pub sound_held : (q : Metadata) (b : Bool) → q ≡ clean p → x.is_broken ≡ false → length x.staged ≤ MOST_HELD → IsTrue (are_whole x.staged) → x.placed ≡ [] → IsSound (record { metadata = q; journal = x; is_broken = b })
  sound_held q b is unbroken few whole placed =
      subst (λ (k : Metadata). IsSound (record { metadata = k; journal = x; is_broken = b })) (sym is)
      (sound_at (clean p) x b (in_form (settled p j) settles) settles.pairs (image ∙ settles.image) unbroken few whole placed (settles.clean refl))

  pub sound_broken : (q : Metadata) (b : Bool) → q ≡ clean p → b ≡ true → IsSound (record { metadata = q; journal = x; is_broken = b })
  sound_broken q b is broken =
      subst (λ (k : Metadata). IsSound (record { metadata = k; journal = x; is_broken = b })) (sym is)
      (subst (λ c. IsSound (record { metadata = clean p; journal = x; is_broken = c })) (sym broken) (sound_lost (clean p) x (in_form (settled p j) settles) settles.pairs (image ∙ settles.image)))

  -- after a commit of at least one block
  pub sound_committed : {T : Type 0} (mid : Held) (before after : Meaning) (q : Metadata) (b : Bool) (result : Result T ChangeFault) → q ≡ clean p → mid.is_broken ≡ false → 0 < length mid.staged
      → KeepsStaged mid x before after result → EndsUnrefused b result → IsSound (record { metadata = q; journal = x; is_broken = b })
  sound_committed mid before after q b (Ok done) is unbroken some keeps whole =
      let none : x.staged ≡ [] = ap (λ (h : Held). h.staged) keeps.done in
      sound_held q b is (ap (λ (h : Held). h.is_broken) keeps.done ∙ unbroken) (omega (arith, ap (λ (es : List HomeBlock). length es) none)) (ap are_whole none) (keeps.none_placed some)
  sound_committed mid before after q b (Err (Refused refusal)) is unbroken some keeps never = absurd (let e : false ≡ true = never in cc)
  sound_committed mid before after q b (Err Disk) is unbroken some keeps broken = sound_broken q b is broken

-- what saving keeps, by what it leaves
pub save_keeps : {T : Type 0} (old new : Stored) {result : Result T ChangeFault} → IsSound new → new.metadata ≡ clean old.metadata → shape_of new.journal ≡ shape_of old.journal → EndsUnrefused new.is_broken result
    → SaveKeeps old new result
save_keeps old new sound is image ended = record {
  sound = sound;
  metadata = subst (λ (k : Metadata). k ≡ record old.metadata { marks = k.marks }) (sym is) refl;
  image = image;
  ended = ended;
}

-- ---- placed blocks
-- if none is placed, none is in a wrong position
pub none_are_placed : (p : Metadata) (j : Held) → j.placed ≡ [] → ArePlaced p j
none_are_placed p j none n among = absurd (let e : true ≡ false = sym among ∙ ap (λ ns. is_among ns n) none in cc)

-- no block before the data blocks is placed
pub not_placed : (p : Metadata) (j : Held) → ArePlaced p j → (n : ℕ) → n < data_start p.limits → is_among j.placed n ≡ false
not_placed p j are n lt = false_from_ne_true (is_among j.placed n) (λ among. omega (arith, lt, (are n among).0))

-- If at most `most` blocks are staged, none is placed: if one were placed, `most` would be 0 and the block of the bitmap with its bit staged.
pub none_placed : (p : Metadata) (j mid : Held) (most : ℕ) → ArePlaced p j → (most ≡ 0 → (n : ℕ) → is_among j.placed n ≡ true → n < image_blocks p.limits) → Stages p j mid → (0 < most → j.placed ≡ []) → length mid.staged ≤ most → mid.placed ≡ []
none_placed p j mid zero are within stages some few = by j.placed refl
  where
    by : (ns : List ℕ) → j.placed ≡ ns → mid.placed ≡ []
    by [] none = stages.placed ∙ none
    by (n ∷ ns) is =
        let there : is_among j.placed n ≡ true = ap (λ ms. is_among ms n) is ∙ ap (λ b. b || is_among ns n) (eq-eqb n n refl) in
        let home = are n there in
        let any : 0 < length mid.staged = stages.some (bitmap_home p.limits (n - data_start p.limits)) (omega arith) (omega (arith, within refl n there, home.0)) home.1 in
        absurd (omega (arith, any, few))
none_placed p j mid (suc most) are within stages some few = stages.placed ∙ some (omega arith)

-- ---- what the metadata represents and spells without its marks
written_clean : (p : Metadata) (at : ℕ → List ℕ) → IsWritten p at → IsWritten (clean p) at
written_clean p at written area n lt = search (rules)

tells_clean : (p : Metadata) (at : ℕ → List ℕ) (s : State) → Tells p at s → Tells (clean p) at s
tells_clean p at s tells = search (rules, retold, contains_from_among)

-- ---- what becomes of a change whose blocks are staged
module _ (p : Metadata) (j mid : Held) (before : Meaning) (stages : Stages p j mid) (sound : AreSound p) (settles : IsSound (settled p j)) (image_is : shape_of j ≡ image_shape p.limits)
    (base : State) (now : Situation) (outcome : Outcome) (t : State) (kept : ℕ → List ℕ) (fits : Fits j before kept) (limits : p.limits ≡ base.limits)
    (stood : (image : List ℕ) → StandsBut j.layout j.placed kept image → Stands image base)
    (ready : IsReady p (looked j.staged kept) t) (is : outcome ≡ changed now t) where
  abbrev there : ℕ → List ℕ
  there = looked mid.staged kept

  abbrev next : State
  next = outcome.next.state

  next_is : t ≡ next
  next_is = sym (ap (λ (o : Outcome). o.next.state) is)

  same : (n : ℕ) → (n < properties_start p.limits) ⊎ (data_start p.limits ≤ n) → there n ≡ looked j.staged kept n
  same n out = stages.others n (kept n) out

  tells : Tells (clean p) there next
  tells =
      subst (λ (s : State). Tells (clean p) there s) next_is
      (tells_clean p there t
      (tells_there p (looked j.staged kept) there sound (λ f m b of. same (data_start p.limits + b) (inr (omega arith))) t (same 0 (inl (omega arith))) ready.tells))

  written : IsWritten (clean p) there
  written = written_clean p there (stages.written kept ready.saved)

  journal_fits : Fits mid before kept
  journal_fits = search (rules)

  base_stands : (image : List ℕ) → StandsBut mid.layout mid.placed kept image → Stands image base
  base_stands image but =
      stood image (subst (λ l. StandsBut l j.placed kept image) (same_layout stages.image) (subst (λ ns. StandsBut mid.layout ns kept image) stages.placed but))

  next_stands : (image : List ℕ) → StandsFor mid.layout there image → Stands image next
  next_stands image stands =
      change_stands (settled p j) mid.layout there next settles.metadata settles.free settles.pairs tells written (same_layout (stages.image ∙ image_is)) image stands

  -- it is held back: the disk stays
  pub change_held : {T : Type 0} (q : Metadata) (b : Bool) (done : T) → q ≡ clean p → b ≡ false → Holds base now outcome (record { metadata = q; journal = mid; is_broken = b }) before before (Ok done)
  change_held {T = T} q b done metadata whole = search (rules, journal_fits, base_stands, stands_all_but, tells, written, leaves_none)

  -- or it is committed
  module _ {T : Type 0} (x : Held) (after : Meaning) (result : Result T ChangeFault) (keeps : KeepsStaged mid x before after result) where
    moments : Leaves before after (λ image. (Stands image base ⊎ Stands image now.state) ⊎ Stands image next)
    moments = leaves_weaken (λ image. (Stands image base ⊎ Stands image now.state) ⊎ Stands image next) (keeps.moments kept journal_fits) by
      where
        by : (image : List ℕ) → StandsForAllOrNone mid.layout mid.placed kept mid.staged image → (Stands image base ⊎ Stands image now.state) ⊎ Stands image next
        by image (inl old) = inl (inl (base_stands image old))
        by image (inr new) = inr (next_stands image new)

    past_image : KeepsPast (image_blocks base.limits) before after
    past_image = subst (λ (n : ℕ). KeepsPast n before after) (same_blocks (stages.image ∙ (image_is ∙ ap image_shape limits))) (keeps.past kept journal_fits)

    pub change_committed : (q : Metadata) (b : Bool) → q ≡ clean p → EndsUnrefused b result → Holds base now outcome (record { metadata = q; journal = x; is_broken = b }) before after result
    change_committed q b metadata ends =
        subst (λ (k : Metadata). Holds base now outcome (record { metadata = k; journal = x; is_broken = b }) before after result) (sym metadata) (record { moments = moments; past = past_image; ended = by result keeps ends })
      where
        by : (r : Result T ChangeFault) → KeepsStaged mid x before after r → EndsUnrefused b r → HeldEnded base now outcome (record { metadata = clean p; journal = x; is_broken = b }) after r
        by (Ok done) keeps whole =
            let staged : x.staged ≡ [] = ap (λ (h : Held). h.staged) keeps.done in
            let layout : x.layout ≡ mid.layout = ap (λ (h : Held). h.layout) keeps.done in (
              ap (λ (o : Outcome). o.reply) is,
              inr (record {
                kept = there;
                journal = keeps.kept kept journal_fits;
                unbroken = whole;
                limits = ap (λ (s : State). s.limits) tells.state;
                stands = λ image stands. next_stands image (subst (λ l. StandsFor l there image) layout stands);
                tells = subst (λ (es : List HomeBlock). Tells (clean p) (looked es there) next) (sym staged) tells;
                written = subst (λ (es : List HomeBlock). IsWritten (clean p) (looked es there)) (sym staged) written;
              }),
            )
        by (Err (Refused refusal)) keeps never = absurd (let e : false ≡ true = never in cc)
        by (Err Disk) keeps broken = broken

-- ---- a commit of what is held back
module _ {T : Type 0} (old : Stored) (q : Metadata) (x : Held) (b : Bool) (before after : Meaning) (result : Result T ChangeFault) (sound : IsSound old) (unbroken : old.is_broken ≡ false) (same : q ≡ old.metadata)
    (keeps : KeepsStaged old.journal x before after result) (idle : old.journal.staged ≡ [] → x ≡ old.journal) (ends : EndsUnrefused b result) where
  -- nothing is placed after a commit, nor if there was nothing to commit
  none_after : (0 < length old.journal.staged → x.placed ≡ []) → x.placed ≡ []
  none_after some = by old.journal.staged idle some
    where
      by : (es : List HomeBlock) → (es ≡ [] → x ≡ old.journal) → (0 < length es → x.placed ≡ []) → x.placed ≡ []
      by [] none some = ap (λ (h : Held). h.placed) (none refl) ∙ sound.placed unbroken
      by (e ∷ es) none some = some (omega arith)

  sound_after : IsSound (record { metadata = old.metadata; journal = x; is_broken = b })
  sound_after = search (rules, sound_at, in_form, none_after, sound_lost)

  pub committed_sound : IsSound (record { metadata = q; journal = x; is_broken = b })
  committed_sound = subst (λ (k : Metadata). IsSound (record { metadata = k; journal = x; is_broken = b })) (sym same) sound_after

  pub committed : (base s : State) → StoreHolds old before base s → Commits base s (record { metadata = q; journal = x; is_broken = b }) before after result
  committed base s holds = record {
    moments = leaves_weaken (λ image. Stands image base ⊎ Stands image s) (keeps.moments kept holds.journal) one_of;
    past = subst (λ n. KeepsPast n before after) (same_blocks (sound.image ∙ ap image_shape holds.limits)) (keeps.past kept holds.journal);
    ended = subst (λ (k : Metadata). CommitEnded s (record { metadata = k; journal = x; is_broken = b }) after result) (sym same) (by result keeps ends);
  }
    where
      kept : ℕ → List ℕ
      kept = holds.kept

      one_of : (image : List ℕ) → StandsForAllOrNone old.journal.layout old.journal.placed kept old.journal.staged image → Stands image base ⊎ Stands image s
      one_of image (inl but) = inl (holds.stands image (stands_none_but old.journal.layout old.journal.placed kept image (sound.placed unbroken) but))
      one_of image (inr all) =
          inr (change_stands old old.journal.layout (looked old.journal.staged kept) s sound.metadata sound.free sound.pairs holds.tells holds.written (same_layout sound.image) image all)

      by : (r : Result T ChangeFault) → KeepsStaged old.journal x before after r → EndsUnrefused b r → CommitEnded s (record { metadata = old.metadata; journal = x; is_broken = b }) after r
      by (Ok done) keeps whole = record {
        kept = looked old.journal.staged kept;
        journal = keeps.kept kept holds.journal;
        unbroken = whole;
        settled = ap (λ (h : Held). h.staged) keeps.done;
        tells = holds.tells;
        written = holds.written;
      }
      by (Err (Refused refusal)) keeps never = absurd (let e : false ≡ true = never in cc)
      by (Err Disk) keeps broken = broken
