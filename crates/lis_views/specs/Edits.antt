-- What an edited view means for the file that it is a view of.
use Rattle.std.specs.Prelude.{ℕ, ◌==◌, ◌+◌, Bool, false, not, ◌&&◌, ◌||◌, if◌then◌else◌, List, [], ◌∷◌, map, filter, codes}
use Rattle.std.specs.List.{list_all, flat_map}
use Rattle.std.specs.Char.{is_ascii_digit}
use Rattle.std.specs.Cmp.Lexicographic.{pointwise}
use Rattle.lis_words.specs.Words.{same_word, begins_with_zero}
use Rattle.lis_transducers.specs.Bytes.{front, past, begins_with, but_first}
use Rattle.lis_grammar.specs.Formula.{Formula}
use Rattle.lis_views.specs.Lines.{lines_of, joined_lines, ends_in_some}
use Rattle.lis_views.specs.Views.{runs_of, pieces, mark_of}
use Rattle.lis_words.specs.Bytes.{is_some_bytes}

-- the three kinds of lines of an edited view: `+` and any bytes, the mark of a run, and `!`
abbrev pub is_kept : List ℕ → Bool
is_kept text = begins_with 43 text

-- 1 or more decimal digits, the first not 0
abbrev pub is_numeral : List ℕ → Bool
is_numeral digits = is_some_bytes digits && list_all is_ascii_digit digits && not (begins_with_zero digits)

abbrev pub is_no_space : ℕ → Bool
is_no_space b = not (b == 32)

-- two numbers above 0 and the blank between them
abbrev pub are_numerals : List ℕ → Bool
are_numerals text = is_numeral (front is_no_space text) && is_numeral (but_first (past is_no_space text))

abbrev pub is_mark : List ℕ → Bool
is_mark text = begins_with 64 text && are_numerals (but_first text)

abbrev pub is_edited : List ℕ → Bool
is_edited text = is_kept text || is_mark text

abbrev pub is_end : List ℕ → Bool
is_end text = same_word text (codes "!")

-- the very last line is `!`
abbrev pub has_end : List (List ℕ) → Bool
has_end [] = false
has_end (text ∷ []) = is_end text
has_end (text ∷ next ∷ texts) = has_end (next ∷ texts)

-- the lines before it
abbrev pub before_end : List (List ℕ) → List (List ℕ)
before_end [] = []
before_end (text ∷ []) = if is_end text then [] else text ∷ []
before_end (text ∷ next ∷ texts) = text ∷ before_end (next ∷ texts)

-- the marks of some runs, numbered from n on, with the texts that each stands for
abbrev pub marked : ℕ → List (List (List ℕ)) → List (List ℕ × List (List ℕ))
marked n [] = []
marked n (run ∷ runs) = (mark_of n run, run) ∷ marked (n + 1) runs

-- the texts that a mark stands for: one that the view does not have stands for a text that is not empty
abbrev pub run_at : List (List ℕ × List (List ℕ)) → List ℕ → List (List ℕ)
run_at [] mark = codes "?" ∷ []
run_at (pair ∷ marks) mark = if same_word pair.0 mark then pair.1 else run_at marks mark

-- the texts that the lines of an edited view stand for
abbrev pub texts_at : List (List ℕ × List (List ℕ)) → List ℕ → List (List ℕ)
texts_at marks text = if is_kept text then but_first text ∷ [] else run_at marks text

abbrev pub new_texts : List (List ℕ × List (List ℕ)) → List (List ℕ) → List (List ℕ)
new_texts marks texts = flat_map (texts_at marks) texts

-- the marks among some lines are those of the view, each once and in order
abbrev pub has_marks : List (List ℕ × List (List ℕ)) → List (List ℕ) → Bool
has_marks marks texts = pointwise same_word (filter is_mark texts) (map (λ pair. pair.0) marks)

-- every line is of one of the kinds, and if the new content must end without a line feed its last text is not empty
abbrev pub is_in_form : List (List ℕ × List (List ℕ)) → List (List ℕ) → Bool → Bool
is_in_form marks texts is_open = list_all is_edited texts && (not is_open || ends_in_some (new_texts marks texts))

-- what an edited view gives
pub data Back : Type 0 where
  -- a refusal: the input is not in the form of a view
  NotAView : Back
  -- a refusal: its marks are not those of the view, each once and in order
  WrongMarks : Back
  -- the file's new bytes
  Content : List ℕ → Back

abbrev pub back_by : List (List ℕ × List (List ℕ)) → List (List ℕ) → Bool → Back
back_by marks texts is_open =
    if not (is_in_form marks texts is_open) then NotAView
    else if not (has_marks marks texts) then WrongMarks
    else Content (joined_lines is_open (new_texts marks texts))

abbrev pub view_marks : List ℕ → List Formula → List (List ℕ × List (List ℕ))
view_marks bytes place = marked 1 (runs_of (pieces bytes place))

-- The input is cut into lines at line feeds alone, and its last line may lack its line feed.
abbrev pub back_of : List ℕ → List Formula → List ℕ → Back
back_of bytes place input =
    back_by (view_marks bytes place) (before_end (lines_of input).texts) (has_end (lines_of input).texts)
