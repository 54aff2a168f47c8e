-- The lines and the fields of a mail's header.
use Rattle.std.specs.Prelude.{ℕ, nat_le, Bool, false, not, ◌&&◌, if◌then◌else◌, List, [], ◌∷◌, ◌++◌, map}
use Rattle.std.specs.List.{slice_split, take_while, concat, list_any, list_all, before_first, after_first}
use Rattle.lis_words.specs.Bytes.{is_feed, is_blank, is_colon, is_some_bytes, without_return, tilde}

-- The header: the lines before the first empty one (RFC 5322, section 2.1), or all of them. A line ends with CR and LF (the same section),
-- or with LF alone (this project's own). What follows the last line feed is a line too.
abbrev pub header : List ℕ → List (List ℕ)
header bytes = take_while is_some_bytes (map without_return (slice_split is_feed bytes))

-- A field's name: printable US-ASCII, but no colon (RFC 5322, section 2.2).
abbrev pub is_name_byte : ℕ → Bool
is_name_byte b = nat_le 33 b && nat_le b tilde && not (is_colon b)

abbrev pub is_field_name : List ℕ → Bool
is_field_name name = is_some_bytes name && list_all is_name_byte name

-- A line that begins a field: a name and a colon (RFC 5322, section 2.2), with nothing between them.
abbrev pub is_field : List ℕ → Bool
is_field line = list_any is_colon line && is_field_name (before_first is_colon line)

-- A line that a fold begins: its first byte is a space or a tab (RFC 5322, section 2.2.3).
abbrev pub is_folded : List ℕ → Bool
is_folded [] = false
is_folded (b ∷ bytes) = is_blank b

-- a field, with its name as it is written and its body without the folds
pub record Field : Type 0 where
  pub name : List ℕ
  pub body : List ℕ

-- The body of a field is what follows the colon, and the folded lines after it (RFC 5322, section 2.2.3).
abbrev pub field_of : List ℕ → List (List ℕ) → Field
field_of line following = record {
  name = before_first is_colon line;
  body = after_first is_colon line ++ concat (take_while is_folded following);
}

-- The fields in order. A line that begins no field and is in none is skipped (this project's own).
abbrev pub fields : List (List ℕ) → List Field
fields [] = []
fields (line ∷ following) = if is_field line then field_of line following ∷ fields following else fields following
