-- What viewing a part of a file and putting it back do: the new state, and the reply. Both are done at the root.
use Rattle.std.specs.Prelude.{ℕ, nat_lt, not, if◌then◌else◌, Result, Ok, Err, List, [], ◌∷◌, ◌++◌, length, codes}
use Rattle.lis_limits.specs.declared.TheConstants.{MAX_FORMULA}
use Rattle.lis_grammar.specs.Formula.{Formula}
use Rattle.lis_grammar.specs.Machine.{text_steps}
use Rattle.lis_grammar.specs.Places.{Resolution, resolved_path}
use Rattle.lis_grammar.specs.Places.Resolution.{BeyondLimits}
use Rattle.lis_model.specs.declared.refusal.Refusal.{Refusal}
use Rattle.lis_model.specs.declared.refusal.Refusal.TheVariants.{NoFileHere}
use Rattle.lis_model.specs.Changes.{has_name, file_of}
use Rattle.lis_model.specs.Replies.{line, two_digits}
use Rattle.lis_model.specs.Script.{payload_of}
use Rattle.lis_model.specs.Step.{Situation, Outcome, refused, judged, write}
use Rattle.lis_views.specs.Views.{view_of}
use Rattle.lis_views.specs.Edits.{Back, back_of}
use Rattle.lis_views.specs.Edits.Back.{NotAView, WrongMarks, Content}
use Rattle.lis_store.specs.Retagging.{place_or_refusal}
use Rattle.lis_session.specs.Parts.{only_shows}

-- The steps that a formula text represents. A text of more than 1,024 bytes is too large, whatever it holds. `..` is no formula here.
abbrev pub formula_of : List ℕ → Resolution
formula_of text = if nat_lt MAX_FORMULA (length text) then BeyondLimits else resolved_path [] (text_steps text)

-- what is done with a file by a formula: first the formula is judged, and then whether the state has the file
abbrev pub done_of : Situation → List ℕ → Result (List Formula) Refusal → (List Formula → Outcome) → Outcome
done_of now name (Err refusal) done = refused now refusal
done_of now name (Ok place) done = judged now ((not (has_name now.state.files name), NoFileHere) ∷ []) (done place)

abbrev pub bytes_of : Situation → List ℕ → List ℕ
bytes_of now name = (file_of now.state.files name).bytes

-- shows the view of the file of that name under the formula of the text
abbrev pub view : Situation → List ℕ → List ℕ → Outcome
view now name text =
    done_of now name (place_or_refusal (formula_of text)) (λ place. only_shows (view_of (bytes_of now name) place) now)

-- `no`, a number in two digits, and the words of a refusal that no command of a session has
abbrev pub no_line : ℕ → List ℕ → List ℕ
no_line number words = line (codes "no " ++ two_digits number ++ 32 ∷ words)

abbrev pub not_a_view_line : List ℕ
not_a_view_line = no_line 26 (codes "not a view")

abbrev pub marks_line : List ℕ
marks_line = no_line 27 (codes "marks")

-- what an edited view makes of the file: its new bytes are written as any others
abbrev pub put_as : Situation → List ℕ → Back → Outcome
put_as now name NotAView = only_shows not_a_view_line now
put_as now name WrongMarks = only_shows marks_line now
put_as now name (Content bytes) = write now name (payload_of (length bytes) bytes)

-- puts an edited view of the file back
abbrev pub put : Situation → List ℕ → List ℕ → List ℕ → Outcome
put now name text input =
    done_of now name (place_or_refusal (formula_of text)) (λ place. put_as now name (back_of (bytes_of now name) place input))
