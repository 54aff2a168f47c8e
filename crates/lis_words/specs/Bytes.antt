-- Kinds of bytes, the bytes of a line, and those of a field.
use Rattle.std.specs.Prelude.{ℕ, ◌-◌, ◌==◌, Bool, true, false, ◌||◌, if◌then◌else◌, List, [], ◌∷◌, ◌++◌, length, replicate}

abbrev pub is_feed : ℕ → Bool
is_feed b = b == 10

abbrev pub bar_byte : ℕ
bar_byte = 124

abbrev pub opening_brace : ℕ
opening_brace = 123

abbrev pub closing_brace : ℕ
closing_brace = 125

-- the last visible byte
abbrev pub tilde : ℕ
tilde = 126

-- space or tab
abbrev pub is_blank : ℕ → Bool
is_blank b = (b == 32) || (b == 9)

abbrev pub is_colon : ℕ → Bool
is_colon b = b == 58

abbrev pub is_some_bytes : List ℕ → Bool
is_some_bytes [] = false
is_some_bytes (b ∷ bytes) = true

-- A line ends with LF alone, or with CR and LF: one CR at its end is dropped.
abbrev pub without_return : List ℕ → List ℕ
without_return [] = []
without_return (b ∷ []) = if b == 13 then [] else b ∷ []
without_return (b ∷ c ∷ bytes) = b ∷ without_return (c ∷ bytes)

-- the bytes, with zeros after them up to n bytes in all
abbrev pub padded : ℕ → List ℕ → List ℕ
padded n bytes = bytes ++ replicate (n - length bytes) 0
