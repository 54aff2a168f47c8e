-- Numbers that rise, and numbers of which none occurs twice, one by one.
use Rattle.std.proofs.Common.{◌≡◌, refl, sym, ap, ap₂, ◌∙◌, ℕ, ◌+◌, ◌≤◌, nat_le, Bool, true, false, ◌&&◌, List, [], ◌∷◌, nat_cmp, is_lt, arith}
use Rattle.std.specs.List.{list_all}
use Rattle.std.proofs.lemmas.Bool.{and_parts, and_from, leb-true, le-leb}
use Rattle.std.proofs.lemmas.Bool.Decides.{nat_tests}
use Rattle.lis_graph.specs.Graph.{is_rising}

-- each number is above those before it, and the first is at least `floor`
abbrev pub rises_from : ℕ → List ℕ → Bool
rises_from floor [] = true
rises_from floor (n ∷ ns) = nat_le floor n && rises_from (n + 1) ns

above_less : (low high : ℕ) (ns : List ℕ) → low ≤ high → list_all (λ n. nat_le high n) ns ≡ true → list_all (λ n. nat_le low n) ns ≡ true
above_less low high [] le all = refl
above_less low high (n ∷ ns) le all =
    let parts = and_parts _ _ all in
    let first = leb-true high n parts.0 in
    and_from _ _ (le-leb low n (omega (arith, first))) (above_less low high ns le parts.1)

below_all : (n : ℕ) (ns : List ℕ) → list_all (λ m. is_lt (nat_cmp n m)) ns ≡ list_all (λ m. nat_le (n + 1) m) ns
below_all n [] = refl
below_all n (m ∷ ns) = ap₂ (λ x y. x && y) (one n m) (below_all n ns)
  where
    one : (n m : ℕ) → is_lt (nat_cmp n m) ≡ nat_le (n + 1) m
    one n m = grind (arith, nat_tests)

rising_from : (floor : ℕ) (ns : List ℕ) → (list_all (λ n. nat_le floor n) ns && is_rising nat_cmp ns) ≡ rises_from floor ns
rising_from floor [] = refl
rising_from floor (n ∷ ns) =
    by (nat_le floor n) refl (list_all (λ m. nat_le floor m) ns) refl (list_all (λ m. is_lt (nat_cmp n m)) ns) refl
    (ap (λ b. b && is_rising nat_cmp ns) (below_all n ns) ∙ rising_from (n + 1) ns)
  where
    by : (t : Bool) → nat_le floor n ≡ t → (low : Bool) → list_all (λ m. nat_le floor m) ns ≡ low → (high : Bool) → list_all (λ m. is_lt (nat_cmp n m)) ns ≡ high
        → (list_all (λ m. is_lt (nat_cmp n m)) ns && is_rising nat_cmp ns) ≡ rises_from (n + 1) ns
        → ((t && low) && (high && is_rising nat_cmp ns)) ≡ (t && rises_from (n + 1) ns)
    by false e low l high h rest = refl
    by true e true l high h rest = ap (λ b. b && is_rising nat_cmp ns) (sym h) ∙ rest
    by true e false l false h rest = ap (λ b. b && is_rising nat_cmp ns) (sym h) ∙ rest
    by true e false l true h rest =
        let first = leb-true floor n e in
        let le : floor ≤ n + 1 = omega (arith, first) in
        let all = above_less floor (n + 1) ns le (sym (below_all n ns) ∙ h) in
        absurd (cc)

pub rises_whole : (ns : List ℕ) → rises_from 0 ns ≡ is_rising nat_cmp ns
rises_whole ns = sym (rising_from 0 ns) ∙ ap (λ b. b && is_rising nat_cmp ns) (all_from_zero ns)
  where
    all_from_zero : (ms : List ℕ) → list_all (λ n. nat_le 0 n) ms ≡ true
    all_from_zero [] = refl
    all_from_zero (m ∷ ms) = and_from (nat_le 0 m) (list_all (λ n. nat_le 0 n) ms) (le-leb 0 m (omega arith)) (all_from_zero ms)
