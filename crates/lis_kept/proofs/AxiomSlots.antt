-- A list with another element at one index.
use Rattle.std.proofs.Common.{arith}
use Rattle.lis_kept.proofs.Common.{rules, ◌≡◌, ◌⊎◌, ℕ, zero, suc, ◌<◌, ◌≤◌, ◌||◌, cond, Bool, true, false, Some, None, slice_get, List, [], ◌∷◌, length, set, get_or, refl, sym, ap, ◌∙◌, inl, inr, list_any, cases_lt, and_parts, eqb-true, lt-ltb, same_Some, slice_get_within, get_or_from_slice_get, among_from_any, AxiomSlot, FreeAxiom, Pair, Limits, both_ways}
use Rattle.std.specs.List.{position, position_or_len}
use Rattle.std.proofs.lemmas.List.Sums.{fails_before_first}
use Rattle.std.proofs.lemmas.Option.{slice_get-get_or}
use Rattle.std.proofs.lemmas.List.Quantifiers.{position-Some}
use Rattle.lis_catalog.proofs.Slots.{swapped}
use Rattle.lis_kept.specs.Metadata.{Metadata}
use Rattle.lis_kept.specs.Areas.{axiom_slots}
use Rattle.lis_kept.specs.Sound.{AreSound}
use Rattle.lis_kept.specs.Links.{is_pair, has_pair}
use Rattle.lis_kept.specs.Linking.{is_free}
use Rattle.lis_kept.proofs.InArea.{few_properties}
use Rattle.lis_kept.proofs.OwnLinks.{slot_at}

-- ---- any list
pub set_here : {X : Type 0} (xs : List X) (i : ℕ) (x y : X) → slice_get xs i ≡ Some x → slice_get (set xs i y) i ≡ Some y
set_here [] i x y is = absurd cc
set_here (z ∷ xs) zero x y is = refl
set_here (z ∷ xs) (suc i) x y is = set_here xs i x y is

pub set_there : {X : Type 0} (xs : List X) (i : ℕ) (y : X) (k : ℕ) → (k ≡ i → ⊥) → slice_get (set xs i y) k ≡ slice_get xs k
set_there [] i y k differ = refl
set_there (z ∷ xs) zero y zero differ = absurd (differ refl)
set_there (z ∷ xs) zero y (suc k) differ = refl
set_there (z ∷ xs) (suc i) y zero differ = refl
set_there (z ∷ xs) (suc i) y (suc k) differ = set_there xs i y k (λ same. differ (ap suc same))

-- what is at each index then
pub set_cases : {X : Type 0} (xs : List X) (i : ℕ) (x y : X) → slice_get xs i ≡ Some x → (k : ℕ) (z : X) → slice_get (set xs i y) k ≡ Some z
    → ((k ≡ i) × (y ≡ z)) ⊎ ((k ≡ i → ⊥) × (slice_get xs k ≡ Some z))
set_cases xs i x y at k z is = search (rules, same_Some, set_here, set_there)

or_around : (a b c : Bool) → a ≡ false → (b || c) ≡ (b || (a || c))
or_around a b c none = ap (λ x. b || (x || c)) (sym none)

-- an element, whether it passes the test or not, replaces one that does not
pub any_set : {X : Type 0} (f : X → Bool) (xs : List X) (i : ℕ) (x y : X) → slice_get xs i ≡ Some x → f x ≡ false → list_any f (set xs i y) ≡ (f y || list_any f xs)
any_set f [] i x y is none = absurd cc
any_set f (z ∷ xs) zero x y is none = or_around (f z) (f y) (list_any f xs) (ap f (same_Some z x is) ∙ none)
any_set f (z ∷ xs) (suc i) x y is none = ap (λ b. f z || b) (any_set f xs i x y is none) ∙ swapped (f z) (f y) (list_any f xs)

-- ---- the first index of an element
pub first_place : {X : Type 0} (test : X → Bool) (xs : List X) (d : X) (i : ℕ) → position test xs ≡ Some i → (slice_get xs i ≡ Some (get_or xs i d)) × (test (get_or xs i d) ≡ true)
first_place test xs d i is = let found = position-Some test xs i d is in (slice_get-get_or xs i d found.0, found.1)

-- an axiom slot of a number is one of the slots of whole blocks
pub axiom_within : (limits : Limits) (slot : ℕ) → slot < limits.props → slot < (axiom_slots limits).count
axiom_within limits slot lt = search (rules)

-- what was there is put back
pub set_back : {X : Type 0} (xs : List X) (i : ℕ) (x y : X) → slice_get xs i ≡ Some x → set (set xs i y) i x ≡ xs
set_back [] i x y is = refl
set_back (z ∷ xs) zero x y is = ap (λ w. w ∷ xs) (sym (same_Some z x is))
set_back (z ∷ xs) (suc i) x y is = ap (λ ws. z ∷ ws) (set_back xs i x y is)

-- the sides of two pairs
pub same_sides : {a b x y : ℕ} → ◌≡◌ {A = AxiomSlot} (Pair a b) (Pair x y) → (a ≡ x) × (b ≡ y)
same_sides is = (cc, cc)

-- ---- the first slot that passes a test
-- if some element passes it, there is a first one, and it is no later
pub first_found : {X : Type 0} (test : X → Bool) (xs : List X) (i : ℕ) (x : X) → slice_get xs i ≡ Some x → test x ≡ true
    → (position test xs ≡ Some (position_or_len test xs)) × (position_or_len test xs ≤ i)
first_found test xs i x at passes =
    let inside : position_or_len test xs < length xs = omega (arith, le, slice_get_within xs i x at) in
    (ap (λ b. cond b (Some (position_or_len test xs)) None) (lt-ltb (position_or_len test xs) (length xs) inside), le)
  where
    le : position_or_len test xs ≤ i
    le = by (cases_lt i (position_or_len test xs))
      where
        by : (i < position_or_len test xs) ⊎ (position_or_len test xs ≤ i) → position_or_len test xs ≤ i
        by (inl before) = absurd (both_ways (test (get_or xs i x)) (fails_before_first test xs i x before) (ap test (get_or_from_slice_get xs i x x at) ∙ passes))
        by (inr le) = le

pub first_is_some : {X : Type 0} (test : X → Bool) (xs : List X) (i : ℕ) (x : X) → slice_get xs i ≡ Some x → test x ≡ true → position test xs ≡ None → ⊥
first_is_some test xs i x at passes none = search (rules, first_found)

pub first_no_later : {X : Type 0} (test : X → Bool) (xs : List X) (i k : ℕ) (x : X) → slice_get xs i ≡ Some x → test x ≡ true → position test xs ≡ Some k → k ≤ i
first_no_later test xs i k x at passes is = search (rules, first_found, same_Some)

free_is : (a : AxiomSlot) → is_free a ≡ true → a ≡ FreeAxiom
free_is a is = search (rules)

pub pair_is : (left right : ℕ) (a : AxiomSlot) → is_pair left right a ≡ true → a ≡ Pair left right
pair_is left right a is = search (rules, and_parts, eqb-true)

pub free_place : (axioms : List AxiomSlot) (k : ℕ) → position is_free axioms ≡ Some k → slice_get axioms k ≡ Some FreeAxiom
free_place axioms k is = let found = first_place is_free axioms FreeAxiom k is in found.0 ∙ ap Some (free_is (get_or axioms k FreeAxiom) found.1)

-- a pair that is there has a first slot; `seen` are the axioms as a call sees them
pub pair_found : (axioms seen : List AxiomSlot) (left right : ℕ) → seen ≡ axioms → has_pair axioms left right ≡ true → position (is_pair left right) seen ≡ None → ⊥
pair_found axioms seen left right are has none = search (rules, among_from_any, slot_at, first_is_some)

pub pair_placed : (axioms seen : List AxiomSlot) (left right k : ℕ) → seen ≡ axioms → position (is_pair left right) seen ≡ Some k → slice_get axioms k ≡ Some (Pair left right)
pair_placed axioms seen left right k are is =
    let found = first_place (is_pair left right) axioms FreeAxiom k (ap (position (is_pair left right)) (sym are) ∙ is) in
    found.0 ∙ ap Some (pair_is left right (get_or axioms k FreeAxiom) found.1)

-- some slot has the pair
abbrev pub InSlot : List AxiomSlot → ℕ → ℕ → Type 0
InSlot axioms left right = (slot : ℕ) × (slice_get axioms slot ≡ Some (Pair left right))

-- how many slots there are
pub few_slots : (k : Metadata) → AreSound k → length k.axioms ≤ 1048576
few_slots k sound = search (rules, few_properties)
