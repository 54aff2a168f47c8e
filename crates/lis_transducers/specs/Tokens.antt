-- The tokens of a field's body. All of this is this project's own.
use Rattle.std.specs.Prelude.{ℕ, ◌==◌, Bool, not, List, filter}
use Rattle.std.specs.List.{slice_split, list_any}
use Rattle.lis_words.specs.Words.{is_plain_byte}
use Rattle.lis_words.specs.Bytes.{is_some_bytes}

abbrev pub is_between : ℕ → Bool
is_between b = not (is_plain_byte b)

-- the longest runs of plain bytes
abbrev pub tokens : List ℕ → List (List ℕ)
tokens body = filter is_some_bytes (slice_split is_between body)

-- whether a token has an @
abbrev pub has_at : List ℕ → Bool
has_at token = list_any (λ b. b == 64) token
