-- What one more axiom adds, and what one fewer leaves.
use Rattle.std.proofs.Common.{◌≡◌, ◌⊎◌, ◌↔◌, ℕ, List, ◌∷◌, subst, inl, inr}
use Rattle.lis_graph.proofs.Members.{Among, among_insert_key, insert_key_old, insert_key_new}
use Rattle.lis_graph.proofs.Members.{contains_from_among}
use Rattle.lis_model.specs.State.{Entails, Acyclic, up, pair_cmp}
use Rattle.lis_model.specs.Changes.{with_axiom}
use Rattle.lis_laws.proofs.Members.{pair_exact}
use Rattle.lis_laws.proofs.Chains.{Pairs, up_same, entails_within, entails_apart, entails_through, acyclic_within, acyclic_cons}

-- the new axiom and the old ones are the members, in some order
pub axiom_in_front : (axioms : Pairs) (pair : List ℕ × List ℕ) (e : List ℕ × List ℕ) → Among (with_axiom axioms pair) e → Among (pair ∷ axioms) e
axiom_in_front axioms pair e m = among_insert_key pair_cmp axioms pair e m

pub axiom_in_order : (axioms : Pairs) (pair : List ℕ × List ℕ) (e : List ℕ × List ℕ) → Among (pair ∷ axioms) e → Among (with_axiom axioms pair) e
axiom_in_order axioms pair e (inl same) = subst (λ (k : List ℕ × List ℕ). Among (with_axiom axioms pair) k) same (insert_key_new pair_cmp pair_exact axioms pair)
axiom_in_order axioms pair e (inr m) = insert_key_old pair_cmp axioms pair e m

pub up_with_axiom : (declared : List (List ℕ)) (axioms : Pairs) (pair : List ℕ × List ℕ) (p : List ℕ) → up declared (with_axiom axioms pair) p ≡ up declared (pair ∷ axioms) p
up_with_axiom declared axioms pair p = up_same declared (with_axiom axioms pair) (pair ∷ axioms) (axiom_in_front axioms pair) (axiom_in_order axioms pair) p

pub entails_with_axiom : (declared : List (List ℕ)) (axioms : Pairs) (pair : List ℕ × List ℕ) (p q : List ℕ)
    → Entails declared (with_axiom axioms pair) p q ↔ (Entails declared axioms p q ⊎ (Entails declared axioms p pair.0 × Entails declared axioms pair.1 q))
entails_with_axiom declared axioms pair p q = (
  λ e. entails_apart declared pair axioms p q (entails_within declared (with_axiom axioms pair) (pair ∷ axioms) (axiom_in_front axioms pair) p q e),
  λ e. entails_within declared (pair ∷ axioms) (with_axiom axioms pair) (axiom_in_order axioms pair) p q (by e),
)
  where
    by : Entails declared axioms p q ⊎ (Entails declared axioms p pair.0 × Entails declared axioms pair.1 q) → Entails declared (pair ∷ axioms) p q
    by (inl old) = entails_within declared axioms (pair ∷ axioms) (λ e m. inr m) p q old
    by (inr new) = entails_through declared pair axioms p q new.0 new.1

pub acyclic_with_axiom : (declared : List (List ℕ)) (axioms : Pairs) (pair : List ℕ × List ℕ) → Acyclic declared (with_axiom axioms pair) ↔ (Acyclic declared axioms × (Entails declared axioms pair.1 pair.0 → ⊥))
acyclic_with_axiom declared axioms pair = (
  λ none. (acyclic_within declared axioms (with_axiom axioms pair) (insert_key_old pair_cmp axioms pair) none, circle none),
  λ parts. acyclic_within declared (with_axiom axioms pair) (pair ∷ axioms) (axiom_in_front axioms pair) (acyclic_cons declared pair axioms parts.0 parts.1),
)
  where
    circle : Acyclic declared (with_axiom axioms pair) → Entails declared axioms pair.1 pair.0 → ⊥
    circle none back =
        let chain = entails_within declared axioms (with_axiom axioms pair) (insert_key_old pair_cmp axioms pair) pair.1 pair.0 back in
        none chain.0 pair.0 (pair.1, inr (contains_from_among (with_axiom axioms pair) (pair.0, pair.1) (insert_key_new pair_cmp pair_exact axioms pair)), chain.1)
