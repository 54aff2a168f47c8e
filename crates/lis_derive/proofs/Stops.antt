-- The last full stop of a name.
use Rattle.std.proofs.Common.{◌≡◌, ℕ, ◌<◌, ◌||◌, ◌==◌, Bool, true, false, cond, zero, suc, List, [], ◌∷◌, length, drop, get_or, Option, Some, None, ap, refl, arith}
use Rattle.std.specs.List.{list_any}
use Rattle.lis_model.specs.Derived.{behind_stop}

abbrev is_stop : ℕ → Bool
is_stop b = b == 46

no_stop : (bytes : List ℕ) → ((k : ℕ) → k < length bytes → is_stop (get_or bytes k 0) ≡ true → ⊥) → list_any is_stop bytes ≡ false
no_stop [] none = refl
no_stop (b ∷ bytes) none = by (is_stop b) (none 0 (omega arith)) (no_stop bytes (λ k lt. none (suc k) (omega (arith, lt))))
  where
    by : (t : Bool) → (t ≡ true → ⊥) → list_any is_stop bytes ≡ false → (t || list_any is_stop bytes) ≡ false
    by true here more = absurd (here refl)
    by false here more = more

a_stop : (bytes : List ℕ) (k : ℕ) → k < length bytes → is_stop (get_or bytes k 0) ≡ true → list_any is_stop bytes ≡ true
a_stop [] k lt is = absurd (omega (arith, lt))
a_stop (b ∷ bytes) zero lt is = ap (λ t. t || list_any is_stop bytes) is
a_stop (b ∷ bytes) (suc k) lt is = by (is_stop b) (a_stop bytes k (omega (arith, lt)) is)
  where
    by : (t : Bool) → list_any is_stop bytes ≡ true → (t || list_any is_stop bytes) ≡ true
    by true more = refl
    by false more = more

pub behind_none : (bytes : List ℕ) → ((k : ℕ) → k < length bytes → is_stop (get_or bytes k 0) ≡ true → ⊥) → behind_stop bytes ≡ None
behind_none [] none = refl
behind_none (b ∷ bytes) none =
    let more : list_any is_stop bytes ≡ false = no_stop bytes (λ k lt. none (suc k) (omega (arith, lt))) in
    rw more (by (is_stop b) (none 0 (omega arith)))
  where
    by : (t : Bool) → (t ≡ true → ⊥) → cond {A = Option (List ℕ)} t (Some bytes) None ≡ None
    by true here = absurd (here refl)
    by false here = refl

-- the index of the last one
pub behind_at : (bytes : List ℕ) (k : ℕ) → k < length bytes → is_stop (get_or bytes k 0) ≡ true
    → ((j : ℕ) → k < j → j < length bytes → is_stop (get_or bytes j 0) ≡ true → ⊥) → behind_stop bytes ≡ Some (drop (suc k) bytes)
behind_at [] k lt is last = absurd (omega (arith, lt))
behind_at (b ∷ bytes) zero lt is last =
    rw (no_stop bytes (λ j below. last (suc j) (omega arith) (omega (arith, below))), is) refl
behind_at (b ∷ bytes) (suc k) lt is last =
    rw (a_stop bytes k (omega (arith, lt)) is)
    (behind_at bytes k (omega (arith, lt)) is (λ j above below. last (suc j) (omega (arith, above)) (omega (arith, below))))
