-- Views and what edited views mean, worked by the definitions alone.
use Rattle.std.proofs.Common.{◌≡◌, ℕ, true, false, Option, Some, None, Bool, List, [], ◌∷◌, codes, refl}
use Rattle.lis_grammar.specs.Formula.{Formula}
use Rattle.lis_grammar.specs.Machine.{text_steps}
use Rattle.lis_views.specs.Lines.{lines_of}
use Rattle.lis_views.specs.Truth.{line_words}
use Rattle.lis_views.specs.Views.{view_of}
use Rattle.lis_views.specs.Edits.{back_of, Back}
use Rattle.lis_views.specs.Edits.Back.{NotAView, WrongMarks, Content}

abbrev steps_read : Option (Bool × List Formula) → List Formula
steps_read None = []
steps_read (Some path) = path.1

abbrev view : List ℕ → List ℕ → List ℕ
view bytes formula = view_of bytes (steps_read (text_steps formula))

abbrev back : List ℕ → List ℕ → List ℕ → Back
back bytes formula input = back_of bytes (steps_read (text_steps formula)) input

abbrev notes : List ℕ
notes = codes "alpha one\nbeta\n\nalpha two"

lines_cut : lines_of notes ≡ record { texts = codes "alpha one" ∷ codes "beta" ∷ [] ∷ codes "alpha two" ∷ []; is_open = true }
lines_cut = refl

-- one more line feed is one more empty text, and then the list is closed
lines_ended : lines_of (codes "a\n\n") ≡ record { texts = codes "a" ∷ [] ∷ []; is_open = false }
lines_ended = refl

nothing_cut : lines_of [] ≡ record { texts = []; is_open = false }
nothing_cut = refl

words_of_a_line : line_words (codes "\t #include <stdio.h> // of stdio.h\r")
    ≡ codes "line:" ∷ codes "line:text" ∷ codes "line:directive" ∷ codes "word:" ∷ codes "word:include" ∷ codes "word:stdio.h" ∷ codes "word:of" ∷ codes "word:stdio.h" ∷ []
words_of_a_line = refl

words_of_a_blank_line : line_words (codes " \t\r") ≡ codes "line:" ∷ codes "line:empty" ∷ []
words_of_a_blank_line = refl

alphas : view notes (codes "word:alpha") ≡ codes "+alpha one\n@1 2\n+alpha two\n!\n"
unfolding text_steps
alphas = refl

-- a leading / has no effect
rooted_alphas : view notes (codes "/word:alpha") ≡ codes "+alpha one\n@1 2\n+alpha two\n!\n"
unfolding text_steps
rooted_alphas = refl

empties : view notes (codes "line:empty") ≡ codes "@1 2\n+\n@2 1\n!\n"
unfolding text_steps
empties = refl

edited_alphas : back notes (codes "word:alpha") (codes "+alpha 1\n@1 2\n+alpha 2\n+end\n") ≡ Content (codes "alpha 1\nbeta\n\nalpha 2\nend\n")
unfolding text_steps
edited_alphas = refl

other_marks : back notes (codes "word:alpha") (codes "+x\n") ≡ WrongMarks
unfolding text_steps
other_marks = refl

no_view : back notes (codes "word:alpha") (codes "hello\n") ≡ NotAView
unfolding text_steps
no_view = refl

-- a mark out of order is a wrong mark, and a number with a leading zero makes no mark
marks_out_of_order : back notes (codes "line:empty") (codes "@2 1\n+\n@1 2\n") ≡ WrongMarks
unfolding text_steps
marks_out_of_order = refl

leading_zero : back notes (codes "line:empty") (codes "@1 2\n+\n@02 1\n") ≡ NotAView
unfolding text_steps
leading_zero = refl

-- `!` requires a last text that is not empty, and this check comes before that of the marks
empty_at_the_end : back notes (codes "word:alpha") (codes "@1 2\n!") ≡ NotAView
unfolding text_steps
empty_at_the_end = refl

nothing_at_the_end : back notes (codes "word:alpha") (codes "!\n") ≡ NotAView
unfolding text_steps
nothing_at_the_end = refl

-- an unknown mark stands for a text that is not empty
unknown_at_the_end : back notes (codes "word:alpha") (codes "@12345678901234567890123456789 7\n!") ≡ WrongMarks
unfolding text_steps
unknown_at_the_end = refl

-- an empty input has no marks
empty_input : back notes (codes "/") [] ≡ Content []
unfolding text_steps
empty_input = refl

empty_input_of_hidden : back notes (codes "word:nosuch") [] ≡ WrongMarks
unfolding text_steps
empty_input_of_hidden = refl

-- a CR is a byte like others
with_returns : back notes (codes "/") (codes "+a\r\n+\r\n!") ≡ Content (codes "a\r\n\r")
unfolding text_steps
with_returns = refl

return_behind_end : back notes (codes "/") (codes "+a\n!\r\n") ≡ NotAView
unfolding text_steps
return_behind_end = refl
