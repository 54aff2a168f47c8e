-- A store that holds nothing back, and one that holds changes back; and a change that is held back and then committed.
use Rattle.lis_store.proofs.Common.{◌≡◌, ◌⊎◌, refl, sym, ap, ◌∙◌, subst, inl, inr, ℕ, true, false, List, [], Result, Ok, Err, Meaning, looked, KeepsPast, image_blocks, State, Situation, Outcome, IsWritten, Tells, leaves_weaken, leaves_then, HomeBlock}
use Rattle.lis_store.specs.declared.change_fault.ChangeFault.{ChangeFault}
use Rattle.lis_store.specs.declared.change_fault.ChangeFault.TheVariants.{Refused, Disk}
use Rattle.lis_store.specs.Stands.{Stands}
use Rattle.lis_store.specs.Stored.{Stored, IsSound, StoreFits, StoreHolds}
use Rattle.lis_store.specs.Changes.{Applies, AppliedEnded, Changes, ChangeEnded, ChangeLeft, Holds, HeldEnded, Commits, CommitEnded}
use Rattle.lis_store.proofs.StoreSays.{limits_told}
use Rattle.lis_store.proofs.Standing.{change_stands}
use Rattle.lis_kept.proofs.Image.{same_layout}

-- a store that fits holds back nothing
pub fits_held : (k : Stored) (m : Meaning) (s : State) → IsSound k → StoreFits k m s → StoreHolds k m s s
fits_held k m s sound fits = record {
  kept = fits.kept;
  journal = fits.journal;
  unbroken = fits.unbroken;
  limits = limits_told k.metadata fits.kept s sound.metadata sound.free fits.tells;
  stands = λ image stands. change_stands k k.journal.layout fits.kept s sound.metadata sound.free sound.pairs fits.tells fits.written (same_layout sound.image) image stands;
  tells = subst (λ (es : List HomeBlock). Tells k.metadata (looked es fits.kept) s) (sym fits.settled) fits.tells;
  written = subst (λ (es : List HomeBlock). IsWritten k.metadata (looked es fits.kept)) (sym fits.settled) fits.written;
}

-- and one with nothing staged fits
abbrev pub held_fits : (k : Stored) (m : Meaning) (base s : State) → k.journal.staged ≡ [] → StoreHolds k m base s → StoreFits k m s
held_fits k m base s settled holds = record {
  kept = holds.kept;
  journal = holds.journal;
  unbroken = holds.unbroken;
  settled = settled;
  tells = subst (λ (es : List HomeBlock). Tells k.metadata (looked es holds.kept) s) settled holds.tells;
  written = subst (λ (es : List HomeBlock). IsWritten k.metadata (looked es holds.kept)) settled holds.written;
}

one_of_two : {A B : Type 0} → (A ⊎ A) ⊎ B → A ⊎ B
one_of_two (inl (inl a)) = inl a
one_of_two (inl (inr a)) = inl a
one_of_two (inr b) = inr b

-- ---- a change that is made and committed on a store that holds nothing back
module _ {T : Type 0} {now : Situation} {outcome : Outcome} {old new : Stored} {before after : Meaning} {result : Result T ChangeFault} (fits : StoreFits old before now.state) (left : ChangeLeft old new result)
    (applies : Applies now.state now outcome new before after result) where
  ended_by : (r : Result T ChangeFault) → ChangeLeft old new r → AppliedEnded now.state now outcome new after r → ChangeEnded now outcome new after r
  ended_by (Ok done) whole ended = ended
  ended_by (Err (Refused refusal)) same ended = (ended.0, held_fits new after now.state now.state (ap (λ (k : Stored). k.journal.staged) same ∙ fits.settled) ended.1)
  ended_by (Err Disk) broken ended = ended

  pub changes_applied : Changes now outcome new before after result
  changes_applied = record {
    moments = leaves_weaken (λ image. Stands image now.state ⊎ Stands image outcome.next.state) applies.moments (λ image either. one_of_two either);
    past = applies.past;
    ended = ended_by result left applies.ended;
  }

-- ---- a change that is held back, and the commit after it, if there is one
pub applies_ended : {T : Type 0} {base : State} {now : Situation} {outcome : Outcome} {new : Stored} {before after : Meaning} {change : ChangeFault} {held result : Result T ChangeFault} → held ≡ Err change → result ≡ Err change
    → Holds base now outcome new before after held → Applies base now outcome new before after result
applies_ended {T} {base} {now} {outcome} {new} {before} {after} {change} {held} {result} was ends holds = record {
  moments = holds.moments;
  past = holds.past;
  ended = subst (λ r. AppliedEnded {T = T} base now outcome new after r) (sym ends) (by change (subst (λ r. HeldEnded {T = T} base now outcome new after r) was holds.ended));
}
  where
    by : (c : ChangeFault) → HeldEnded {T = T} base now outcome new after (Err c) → AppliedEnded {T = T} base now outcome new after (Err c)
    by (Refused refusal) ended = ended
    by Disk ended = ended

module _ {T U : Type 0} {base : State} {now : Situation} {outcome : Outcome} {old mid new : Stored} {before between after : Meaning} {done : T} {result : Result U ChangeFault}
    (held : StoreHolds old before base now.state) (limits : mid.metadata.limits ≡ old.metadata.limits) (holds : Holds base now outcome mid before between (Ok done))
    (commits : (base s : State) → StoreHolds mid between base s → Commits base s new between after result) where
  abbrev next : State
  next = outcome.next.state

  abbrev Any : List ℕ → Type 0
  Any image = (Stands image base ⊎ Stands image now.state) ⊎ Stands image next

  committed_by : (r : Result U ChangeFault) → CommitEnded next new after r → AppliedEnded base now outcome new after r
  committed_by (Ok d) fits = (holds.ended.0, fits)
  committed_by (Err (Refused refusal)) never = absurd (let e : false ≡ true = never in cc)
  committed_by (Err Disk) broken = broken

  whole : (first : State) → ((image : List ℕ) → Stands image first ⊎ Stands image next → Any image) → image_blocks first.limits ≡ image_blocks base.limits → Commits first next new between after result
      → Applies base now outcome new before after result
  whole first either blocks commit = record {
    moments = leaves_then holds.moments (leaves_weaken Any commit.moments either);
    past = λ n le. subst (λ (b : ℕ). KeepsPast b between after) blocks commit.past n le ∙ holds.past n le;
    ended = committed_by result commit.ended;
  }

  from_base : (image : List ℕ) → Stands image base ⊎ Stands image next → Any image
  from_base image (inl s) = inl (inl s)
  from_base image (inr s) = inr s

  from_next : (image : List ℕ) → Stands image next ⊎ Stands image next → Any image
  from_next image (inl s) = inr s
  from_next image (inr s) = inr s

  by : StoreHolds mid between base next ⊎ StoreHolds mid between next next → Applies base now outcome new before after result
  by (inl h) = whole base from_base refl (commits base next h)
  by (inr h) = whole next from_next (ap image_blocks (sym h.limits ∙ limits ∙ held.limits)) (commits next next h)

  pub applies_committed : Applies base now outcome new before after result
  applies_committed = by holds.ended.1
