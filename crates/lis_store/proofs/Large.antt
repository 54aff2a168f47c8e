-- A change with a large content: all that is held back is committed before it.
use Rattle.std.proofs.Common.{OnOk}
use Rattle.lis_store.proofs.Common.{rules, ◌≡◌, ◌⊎◌, refl, sym, ap, ◌∙◌, subst, inl, inr, ℕ, ◌<◌, ◌≤◌, true, false, List, [], ◌∷◌, length, Result, Ok, Err, arith, both_ways, Meaning, KeepsPast, looked, is_large, image_blocks, State, Situation, Outcome, leaves_weaken, leaves_then}
use Rattle.lis_store.specs.declared.change_fault.ChangeFault.{ChangeFault}
use Rattle.lis_store.specs.declared.change_fault.ChangeFault.TheVariants.{Refused, Disk}
use Rattle.lis_store.specs.Stands.{Stands}
use Rattle.lis_store.specs.Stored.{Stored, IsSound, StoreHolds}
use Rattle.lis_store.specs.Changes.{Holds, HeldEnded, Commits, EndsUnrefused}
use Rattle.lis_store.proofs.StoreSays.{limits_told}
use Rattle.lis_store.proofs.Holding.{held_fits, fits_held}

module _ (base : State) (now : Situation) (outcome : Outcome) (before between after : Meaning) where
  abbrev Either : List ℕ → Type 0
  Either image = (Stands image base ⊎ Stands image now.state) ⊎ Stands image outcome.next.state

  -- The commit is done, and the change that begins after it leaves nothing staged.
  pub held_behind_commit : {T U : Type 0} (old mid new : Stored) (done : U) (result : Result T ChangeFault) → IsSound old → StoreHolds old before base now.state → Commits base now.state mid before between (Ok done)
      → IsSound new → OnOk result (new.journal.staged ≡ []) → EndsUnrefused new.is_broken result → Holds now.state now outcome new between after result → Holds base now outcome new before after result
  held_behind_commit {T = T} old mid new done result sound held commits sound_new settled ends holds = record {
    moments = leaves_then (leaves_weaken Either commits.moments (λ image either. inl either)) (leaves_weaken Either holds.moments behind);
    past = λ n le. subst (λ (b : ℕ). KeepsPast b between after) blocks holds.past n le ∙ commits.past n le;
    ended = by result settled ends holds.ended;
  }
    where
      behind : (image : List ℕ) → (Stands image now.state ⊎ Stands image now.state) ⊎ Stands image outcome.next.state → Either image
      behind image (inl (inl old)) = inl (inr old)
      behind image (inl (inr old)) = inl (inr old)
      behind image (inr new) = inr new

      blocks : image_blocks now.state.limits ≡ image_blocks base.limits
      blocks = ap image_blocks (sym (limits_told old.metadata (looked old.journal.staged held.kept) now.state sound.metadata sound.free held.tells) ∙ held.limits)

      by : (r : Result T ChangeFault) → OnOk r (new.journal.staged ≡ []) → EndsUnrefused new.is_broken r → HeldEnded now.state now outcome new after r → HeldEnded base now outcome new after r
      by (Ok d) none whole ended = (ended.0, inr (alone ended.1))
        where
          alone : StoreHolds new after now.state outcome.next.state ⊎ StoreHolds new after outcome.next.state outcome.next.state → StoreHolds new after outcome.next.state outcome.next.state
          alone (inl held) = fits_held new after outcome.next.state sound_new (held_fits new after now.state outcome.next.state none held)
          alone (inr held) = held
      by (Err (Refused refusal)) none never ended = absurd (let e : false ≡ true = never in cc)
      by (Err Disk) none broken ended = ended

  -- The disk fails in the commit.
  pub held_lost_commit : {T U : Type 0} (new : Stored) (change : ChangeFault) (result : Result T ChangeFault) → Commits {T = U} base now.state new before after (Err change) → result ≡ Err change
      → Holds base now outcome new before after result
  held_lost_commit {T = T} {U = U} new change result commits ends = search (rules, leaves_weaken)

-- After a step with a large content, which may leave nothing staged, nothing is staged.
pub none_left : {T E X : Type 0} (size most : ℕ) (staged : List X) (result : Result T E) → (0 < most → is_large size ≡ false) → is_large size ≡ true → OnOk result (length staged ≤ most) → OnOk result (staged ≡ [])
none_left size most staged (Err e) small large few = few
none_left size most [] (Ok done) small large few = refl
none_left size most (x ∷ xs) (Ok done) small large few = absurd (both_ways (is_large size) (small (omega (arith, few))) large)
