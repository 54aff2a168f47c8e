-- No two slots have the same axiom, also with one more.
use Rattle.lis_kept.proofs.Common.{rules, ◌≡◌, ℕ, Some, slice_get, Pair}
use Rattle.lis_kept.specs.Metadata.{Metadata}
use Rattle.lis_kept.specs.Linking.{Links}
use Rattle.lis_kept.proofs.AxiomSlots.{InSlot, set_cases}

-- if the new one is in none
pub apart_linked : (left right : ℕ) (p q : Metadata) → Links left right p q → (InSlot p.axioms left right → ⊥)
    → ((slot other x y : ℕ) → slice_get p.axioms slot ≡ Some (Pair x y) → slice_get p.axioms other ≡ Some (Pair x y) → slot ≡ other)
    → (slot other x y : ℕ) → slice_get q.axioms slot ≡ Some (Pair x y) → slice_get q.axioms other ≡ Some (Pair x y) → slot ≡ other
apart_linked left right p q links new apart slot other x y is_slot is_other = search (rules, set_cases)
