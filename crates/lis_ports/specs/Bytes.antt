-- Parts of an image, and what a write does to one.
use Rattle.std.specs.Prelude.{◌≡◌, ℕ, ◌+◌, List, ◌++◌, length, take, drop}

-- the n bytes from `at` on
abbrev pub part : ℕ → ℕ → List ℕ → List ℕ
part at n xs = take n (drop at xs)

-- xs with these bytes from `at` on
unfoldable pub put : List ℕ → ℕ → List ℕ → List ℕ
put xs at bytes = take at xs ++ bytes ++ drop (at + length bytes) xs

-- any n bytes from `at` on, and the same bytes elsewhere
pub record Torn (at n : ℕ) (old new : List ℕ) : Type 0 where
  pub len : length new ≡ length old
  pub before : take at new ≡ take at old
  pub after : drop (at + n) new ≡ drop (at + n) old
