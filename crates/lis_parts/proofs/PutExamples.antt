-- Edited views that are put back into a file of a state, worked out by the definitions alone.
use Rattle.std.proofs.Common.{◌≡◌, ℕ, List, [], ◌∷◌, codes, refl}
use Rattle.std.specs.Fmt.{digits}
use Rattle.lis_grammar.specs.Machine.{text_steps}
use Rattle.lis_grammar.specs.Places.{is_place}
use Rattle.lis_grammar.specs.Printing.{printed}
use Rattle.lis_line.specs.declared.carrier.Halt.TheVariants.{Limit}
use Rattle.lis_model.specs.Step.{Situation, Outcome, cat}
use Rattle.lis_session.specs.Parts.{only_shows}
use Rattle.lis_parts.specs.Commands.{put}
use Rattle.lis_parts.specs.Putting.{put_by}
use Rattle.lis_parts.proofs.Examples.{notes, now}

-- the same state with other bytes of its file
abbrev having : List ℕ → Situation
having bytes = record { state = record notes { files = record { name = codes "notes.txt"; bytes = bytes; assigned = [] } ∷ [] }; place = [] }

abbrev put_alphas : List ℕ → Outcome
put_alphas input = put now (codes "notes.txt") (codes "word:alpha") input

abbrev edited : List ℕ
edited = codes "+alpha 1\n@1 2\n+alpha 2\n+end\n"

-- the hidden lines stay at their mark
alphas_edited : put_alphas edited ≡ record { next = having (codes "alpha 1\nbeta\n\nalpha 2\nend\n"); reply = codes "ok\n" }
unfolding digits text_steps is_place printed
alphas_edited = refl

edited_shown : (cat (put_alphas edited).next (codes "notes.txt")).reply ≡ codes "b 26\nalpha 1\nbeta\n\nalpha 2\nend\n\nok\n"
unfolding digits text_steps is_place printed
edited_shown = refl

-- a view that is put back unchanged leaves the state as it was
alphas_unchanged : put_alphas (codes "+alpha one\n@1 2\n+alpha two\n!\n") ≡ record { next = now; reply = codes "ok\n" }
unfolding digits text_steps is_place printed
alphas_unchanged = refl

-- ---- refusals, in their order
no_formula : put now (codes "none") [] (codes "hello\n") ≡ only_shows (codes "no 05 formula\n") now
unfolding digits text_steps is_place printed
no_formula = refl

no_file : put now (codes "none") (codes "word:alpha") (codes "+x\n") ≡ only_shows (codes "no 10 no such file here\n") now
unfolding digits text_steps is_place printed
no_file = refl

no_view : put_alphas (codes "hello\n") ≡ only_shows (codes "no 26 not a view\n") now
unfolding digits text_steps is_place printed
no_view = refl

-- the form is judged before the marks
no_view_of_other_marks : put_alphas (codes "@7 1\nhello\n") ≡ only_shows (codes "no 26 not a view\n") now
unfolding digits text_steps is_place printed
no_view_of_other_marks = refl

other_marks : put_alphas (codes "+x\n") ≡ only_shows (codes "no 27 marks\n") now
unfolding digits text_steps is_place printed
other_marks = refl

-- if an input is too long nothing is shown, whatever it begins with
too_long : put_by Limit now (codes "notes.txt") (codes "word:alpha") edited ≡ only_shows [] now
too_long = refl
