-- What is stated of an edited view that was put back.
use Rattle.std.specs.Prelude.{◌≡◌, ℕ, Bool, true, false, if◌then◌else◌, List, [], ◌∷◌, length}
use Rattle.lis_model.specs.Step.{Payload}
use Rattle.lis_model.specs.Script.{payload_of}
use Rattle.lis_views.specs.Edits.{Back}
use Rattle.lis_views.specs.Edits.Back.{NotAView, WrongMarks, Content}
use Rattle.lis_cuts.specs.declared.back.Returned.{Returned}
use Rattle.lis_cuts.specs.declared.back.Returned.TheVariants.{NotInForm, OtherMarks, Whole}

-- these bytes, as a payload
abbrev pub Holds : Payload → List ℕ → Type 0
Holds payload bytes = payload ≡ payload_of (length bytes) bytes

-- Which refusal it is, or that the new content is in the payload.
abbrev pub Returns : Back → Returned → Payload → Type 0
Returns NotAView result payload = result ≡ NotInForm
Returns WrongMarks result payload = result ≡ OtherMarks
Returns (Content bytes) result payload = (result ≡ Whole) × Holds payload bytes

-- the line feed after a text, unless the text must end without one
abbrev pub feed_unless : Bool → List ℕ
feed_unless is_last = if is_last then [] else 10 ∷ []

-- no text is left
abbrev pub are_none : List (List ℕ) → Bool
are_none [] = true
are_none (text ∷ texts) = false
