-- Kinds of bytes, and prefixes of bytes of one kind.
use Rattle.std.specs.Prelude.{ℕ, ◌==◌, Bool, false, not, ◌||◌, if◌then◌else◌, List, [], ◌∷◌}
use Rattle.std.specs.Char.{is_ascii_alphabetic, is_ascii_alphanumeric}
use Rattle.lis_words.specs.Bytes.{is_feed}

abbrev pub is_slash : ℕ → Bool
is_slash b = b == 47

-- the other white space, except LF: vertical tab, form feed, CR
abbrev pub is_white : ℕ → Bool
is_white b = (b == 11) || (b == 12) || (b == 13)

-- what an identifier begins with: a letter or _
abbrev pub is_name_start : ℕ → Bool
is_name_start b = is_ascii_alphabetic b || (b == 95)

-- letters, digits and _
abbrev pub is_name_byte : ℕ → Bool
is_name_byte b = is_ascii_alphanumeric b || (b == 95)

-- what follows the first digit of a number: letters, digits, _ and full stops
abbrev pub is_number_byte : ℕ → Bool
is_number_byte b = is_name_byte b || (b == 46)

abbrev pub is_no_feed : ℕ → Bool
is_no_feed b = not (is_feed b)

-- the longest prefix of bytes that pass a test
abbrev pub front : (ℕ → Bool) → List ℕ → List ℕ
front test [] = []
front test (b ∷ bytes) = if test b then b ∷ front test bytes else []

-- what follows that prefix
abbrev pub past : (ℕ → Bool) → List ℕ → List ℕ
past test [] = []
past test (b ∷ bytes) = if test b then past test bytes else b ∷ bytes

abbrev pub begins_with : ℕ → List ℕ → Bool
begins_with c [] = false
begins_with c (b ∷ bytes) = b == c

abbrev pub but_first : List ℕ → List ℕ
but_first [] = []
but_first (b ∷ bytes) = bytes
