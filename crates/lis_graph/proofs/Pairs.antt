-- Pairs in the order of their first parts, and then of their second parts.
use Rattle.std.proofs.Common.{◌≡◌, sym, ap, ◌∙◌, refl}
use Rattle.std.specs.declared.cmp.Ordering.{Ordering}
use Rattle.std.specs.declared.cmp.Ordering.TheVariants.{Less, Equal, Greater}
use Rattle.std.specs.Ordering.{ordering_then}
use Rattle.std.specs.Cmp.{IsTotalOrder, then_flip, alike_right}
use Rattle.std.proofs.lemmas.Map.Lookups.{CmpEqualImpliesEq, exact_pairs}

module _ {A B : Type 0} (first : A → A → Ordering) (second : B → B → Ordering)
    (first_order : IsTotalOrder first) (second_order : IsTotalOrder second)
    (first_exact : CmpEqualImpliesEq first) (second_exact : CmpEqualImpliesEq second) where
  chain : (x y z : A × B) (r s : Ordering) → first x.0 y.0 ≡ r → first y.0 z.0 ≡ s → ordering_then r (second x.1 y.1) ≡ Less → ordering_then s (second y.1 z.1) ≡ Less
      → ordering_then (first x.0 z.0) (second x.1 z.1) ≡ Less
  chain x y z Less Less a b h k = ap (λ r. ordering_then r (second x.1 z.1)) (first_order.trans x.0 y.0 z.0 a b)
  chain x y z Less Equal a b h k = ap (λ r. ordering_then r (second x.1 z.1)) (sym (alike_right first_order y.0 z.0 x.0 b) ∙ a)
  chain x y z Less Greater a b h k = absurd cc
  chain x y z Equal Less a b h k = ap (λ r. ordering_then r (second x.1 z.1)) (first_order.congr x.0 y.0 z.0 a ∙ b)
  chain x y z Equal Equal a b h k = ap (λ r. ordering_then r (second x.1 z.1)) (first_order.congr x.0 y.0 z.0 a ∙ b) ∙ second_order.trans x.1 y.1 z.1 h k
  chain x y z Equal Greater a b h k = absurd cc
  chain x y z Greater s a b h k = absurd cc

  pub pairs_exact : CmpEqualImpliesEq (λ (x y : A × B). ordering_then (first x.0 y.0) (second x.1 y.1))
  pairs_exact = exact_pairs first second first_exact second_exact

  pub pairs_total : IsTotalOrder (λ (x y : A × B). ordering_then (first x.0 y.0) (second x.1 y.1))
  pairs_total = record {
    antisymm = λ x y. (λ i. ordering_then (first_order.antisymm x.0 y.0 i) (second_order.antisymm x.1 y.1 i)) ∙ then_flip (first y.0 x.0) (second y.1 x.1);
    trans = λ x y z. chain x y z (first x.0 y.0) (first y.0 z.0) refl refl;
    congr = λ x y z e. ap (λ (k : A × B). ordering_then (first k.0 z.0) (second k.1 z.1)) (pairs_exact x y e);
  }
