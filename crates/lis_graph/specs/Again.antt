-- Items by number, of which each has a name: the first whose name a lower number has too.
use Rattle.std.specs.Prelude.{◌≡◌, ℕ, ◌<◌, Option, Some, None, List, slice_index_or}

-- an item of a lower number has the name of this number's item
abbrev pub IsAgain : {X N : Type 0} → (X → N) → List (Option X) → ℕ → Type 0
IsAgain {X} name items n =
    (m : ℕ) × (first : X) × (again : X)
    × (m < n) × (slice_index_or items m None ≡ Some first) × (slice_index_or items n None ≡ Some again) × (name first ≡ name again)

-- and it is the first such number
pub record IsFirstAgain {X N : Type 0} (name : X → N) (items : List (Option X)) (n : ℕ) : Type 0 where
  pub again : IsAgain name items n
  pub first : (m : ℕ) → m < n → IsAgain name items m → ⊥
