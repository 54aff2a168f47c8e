-- The first and the last line of some bytes.
use Rattle.std.specs.Prelude.{◌≡◌, ◌⊎◌, ℕ, ◌<◌, true, false, List, [], ◌∷◌, ◌++◌, length, IsTrue}
use Rattle.lis_views.specs.Lines.{lines_of, has_no_feed}

-- The first text of some bytes, and the bytes after its line feed: none, if no line feed follows the text.
pub record IsFirst (bytes text rest : List ℕ) : Type 0 where
  pub no_feed : IsTrue (has_no_feed text)
  pub whole : (bytes ≡ text ++ 10 ∷ rest) ⊎ ((bytes ≡ text) × (rest ≡ []) × (0 < length text))

-- no line feed is missing at their end
abbrev pub IsClosed : List ℕ → Type 0
IsClosed bytes = (lines_of bytes).is_open ≡ false

-- some bytes without the line feed at their end, if there is one
abbrev pub IsTrimmed : List ℕ → List ℕ → Type 0
IsTrimmed bytes trimmed = (bytes ≡ trimmed ++ 10 ∷ []) ⊎ ((bytes ≡ trimmed) × ((bytes ≡ []) ⊎ ((lines_of bytes).is_open ≡ true)))
