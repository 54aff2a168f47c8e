-- Numbers in rising order, and tests of them.
use Rattle.std.specs.Prelude.{ℕ, Bool, not, ◌&&◌, ◌||◌, nat_eq, List, filter}
use Rattle.std.specs.List.{range_with_len, list_any}

-- the number is one of the list
abbrev pub has_number : List ℕ → ℕ → Bool
has_number numbers p = list_any (λ q. nat_eq q p) numbers

-- the numbers below `props` that pass the test, in rising order
unfoldable pub numbers_where : ℕ → (ℕ → Bool) → List ℕ
numbers_where props test = filter test (range_with_len 0 props)

-- the number is in one of the two lists and not in both
abbrev pub differs : List ℕ → List ℕ → ℕ → Bool
differs old new p = (has_number new p && not (has_number old p)) || (has_number old p && not (has_number new p))
