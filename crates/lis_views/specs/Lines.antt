-- The lines of a content: texts without line feeds, and whether a line feed follows the last one.
use Rattle.std.specs.Prelude.{◌≡◌, ℕ, Bool, true, false, not, ◌&&◌, ◌||◌, if◌then◌else◌, List, [], ◌∷◌, ◌++◌, IsTrue}
use Rattle.std.specs.List.{list_all}
use Rattle.lis_transducers.specs.Bytes.{is_no_feed}
use Rattle.lis_model.specs.Replies.{line}
use Rattle.lis_words.specs.Bytes.{is_feed, is_some_bytes}

pub record Lines : Type 0 where
  pub texts : List (List ℕ)
  -- no line feed follows the last text
  pub is_open : Bool

-- the texts, each with a line feed after it, except the last one of an open list
abbrev pub joined_lines : Bool → List (List ℕ) → List ℕ
joined_lines is_open [] = []
joined_lines is_open (text ∷ []) = if is_open then text else line text
joined_lines is_open (text ∷ next ∷ texts) = line text ++ joined_lines is_open (next ∷ texts)

abbrev pub content_of : Lines → List ℕ
content_of lines = joined_lines lines.is_open lines.texts

abbrev pub has_no_feed : List ℕ → Bool
has_no_feed text = list_all is_no_feed text

-- there is a last text, and it is not empty
abbrev pub ends_in_some : List (List ℕ) → Bool
ends_in_some [] = false
ends_in_some (text ∷ []) = is_some_bytes text
ends_in_some (text ∷ next ∷ texts) = ends_in_some (next ∷ texts)

-- no text has a line feed, and the last one of an open list is not empty
abbrev pub are_lines : Lines → Bool
are_lines lines = list_all has_no_feed lines.texts && (not lines.is_open || ends_in_some lines.texts)

-- a byte that is no line feed, before some lines: it begins the first of them, or an open one if there is none
abbrev pub byte_before : ℕ → List (List ℕ) → Bool → Lines
byte_before b [] is_open = record { texts = (b ∷ []) ∷ []; is_open = true }
byte_before b (text ∷ texts) is_open = record { texts = (b ∷ text) ∷ texts; is_open = is_open }

-- a line feed before some lines ends an empty text
abbrev pub before : ℕ → Lines → Lines
before b lines =
    if is_feed b then record { texts = [] ∷ lines.texts; is_open = lines.is_open }
    else byte_before b lines.texts lines.is_open

-- The lines of a content. The law of them that matters is `OneCut`.
abbrev pub lines_of : List ℕ → Lines
lines_of [] = record { texts = []; is_open = false }
lines_of (b ∷ bytes) = before b (lines_of bytes)

-- these lines are well formed and have this content, and no others do
pub record IsCut (bytes : List ℕ) (lines : Lines) : Type 0 where
  pub formed : IsTrue (are_lines lines)
  pub content : content_of lines ≡ bytes
  pub only : (others : Lines) → IsTrue (are_lines others) → content_of others ≡ bytes → others ≡ lines
