-- Views of a file of a state, worked out by the definitions alone.
use Rattle.std.proofs.Common.{◌≡◌, ℕ, List, [], ◌∷◌, codes, refl}
use Rattle.std.specs.Fmt.{digits}
use Rattle.lis_grammar.specs.Machine.{text_steps}
use Rattle.lis_grammar.specs.Places.{is_place}
use Rattle.lis_grammar.specs.Printing.{printed}
use Rattle.lis_model.specs.declared.limits.Limits.{Limits}
use Rattle.lis_model.specs.State.{State, empty_state}
use Rattle.lis_model.specs.Step.{Situation, Outcome}
use Rattle.lis_session.specs.Parts.{only_shows}
use Rattle.lis_parts.specs.Commands.{view}

abbrev pub small : Limits
small = record { files = 64; props = 64; blocks = 8; version = 2 }

abbrev pub notes : State
notes = record (empty_state small) { files = record { name = codes "notes.txt"; bytes = codes "alpha one\nbeta\n\nalpha two"; assigned = [] } ∷ [] }

abbrev pub now : Situation
now = record { state = notes; place = [] }

abbrev shows : List ℕ → Outcome
shows bytes = only_shows bytes now

alphas : view now (codes "notes.txt") (codes "word:alpha") ≡ shows (codes "+alpha one\n@1 2\n+alpha two\n!\n")
unfolding digits text_steps is_place printed
alphas = refl

empties : view now (codes "notes.txt") (codes "line:empty") ≡ shows (codes "@1 2\n+\n@2 1\n!\n")
unfolding digits text_steps is_place printed
empties = refl

no_formula : view now (codes "notes.txt") [] ≡ shows (codes "no 05 formula\n")
unfolding digits text_steps is_place printed
no_formula = refl

-- `..` is no formula here
no_step_up : view now (codes "notes.txt") (codes "..") ≡ shows (codes "no 05 formula\n")
unfolding digits text_steps is_place printed
no_step_up = refl

no_file : view now (codes "none") (codes "word:alpha") ≡ shows (codes "no 10 no such file here\n")
unfolding digits text_steps is_place printed
no_file = refl

-- the formula is judged first
no_formula_of_no_file : view now (codes "none") [] ≡ shows (codes "no 05 formula\n")
unfolding digits text_steps is_place printed
no_formula_of_no_file = refl
