-- The parts of a kind, by their indexes.
use Rattle.lis_open.proofs.Common.{◌≤◌, ◌≡◌, ◌∙◌, refl, ap, subst, ℕ, ◌+◌, ◌<◌, ◌==◌, cond, List, arith, Limits, Spot, Super, BadRecord, Property, Axiom, Word, Row, Bitmap}
use Rattle.lis_model.specs.declared.spot.Spot.TheVariants.{File, Set}
use Rattle.lis_open.specs.Checks.{Fails, FailsReplayed, FailsIn, rank, place}

-- the part of a kind at an index
abbrev pub spot_at : ℕ → ℕ → Spot
spot_at kind n =
    cond (kind == 0) Super (cond (kind == 1) (BadRecord n) (cond (kind == 2) (Property n) (cond (kind == 3) (Axiom n)
    (cond (kind == 4) (File n) (cond (kind == 5) (Word n) (cond (kind == 6) (Bitmap n) (cond (kind == 7) (Row n) (Set n))))))))

pub spot_is : (spot : Spot) → spot ≡ spot_at (rank spot) (place spot)
spot_is Super = refl
spot_is (BadRecord b) = refl
spot_is (Property n) = refl
spot_is (Axiom n) = refl
spot_is (File n) = refl
spot_is (Word n) = refl
spot_is (Bitmap n) = refl
spot_is (Row n) = refl
spot_is (Set n) = refl

-- what holds of the super block, of a record, and of each part whose check is one of the replayed image, holds of every spot
pub behind : (image : List ℕ) (P : Spot → Type 0) → P Super → ((b : ℕ) → P (BadRecord b))
    → ((spot : Spot) → 2 ≤ rank spot → (FailsReplayed image spot → FailsIn image spot) → (FailsIn image spot → FailsReplayed image spot) → P spot) → (spot : Spot) → P spot
behind image P super bad rest Super = super
behind image P super bad rest (BadRecord b) = bad b
behind image P super bad rest (Property n) = rest (Property n) (omega arith) (λ is. is) (λ is. is)
behind image P super bad rest (Axiom n) = rest (Axiom n) (omega arith) (λ is. is) (λ is. is)
behind image P super bad rest (File n) = rest (File n) (omega arith) (λ is. is) (λ is. is)
behind image P super bad rest (Word n) = rest (Word n) (omega arith) (λ is. is) (λ is. is)
behind image P super bad rest (Bitmap n) = rest (Bitmap n) (omega arith) (λ is. is) (λ is. is)
behind image P super bad rest (Row n) = rest (Row n) (omega arith) (λ is. is) (λ is. is)
behind image P super bad rest (Set n) = rest (Set n) (omega arith) (λ is. is) (λ is. is)

module _ (limits : Limits) (at : ℕ → List ℕ) (kind : ℕ) where
  -- if the parts up to an index pass, none before it fails
  pub none_before : (end : ℕ) → ((n : ℕ) → n < end → Fails limits at (spot_at kind n) → ⊥) → (spot : Spot) → rank spot ≡ kind → place spot < end → Fails limits at spot → ⊥
  none_before end pass spot is lt fails =
      pass (place spot) lt (subst (λ (s : Spot). Fails limits at s) (spot_is spot ∙ ap (λ k. spot_at k (place spot)) is) fails)

  pub none_fails : ((n : ℕ) → Fails limits at (spot_at kind n) → ⊥) → (spot : Spot) → rank spot ≡ kind → Fails limits at spot → ⊥
  none_fails pass spot is fails = none_before (place spot + 1) (λ n lt. pass n) spot is (omega arith) fails
