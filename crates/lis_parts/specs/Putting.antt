-- How putting an edited view back ends, after it is read from an input.
use Rattle.std.specs.Prelude.{◌≡◌, ℕ, ◌<◌, Bool, true, false, List, [], length, Option}
use Rattle.std.specs.Io.KnownBytes.{IsAtEnd}
use Rattle.lis_limits.specs.declared.TheConstants.{MAX_VIEW}
use Rattle.lis_line.specs.declared.carrier.Halt.{Halt}
use Rattle.lis_line.specs.declared.carrier.Halt.TheVariants.{End as AtEnd, Limit, InputFault, Stopped}
use Rattle.lis_model.specs.Step.{Situation, Outcome}
use Rattle.lis_session.specs.declared.end.End.{End}
use Rattle.lis_session.specs.Parts.{only_shows}
use Rattle.lis_parts.specs.Commands.{put}

-- the most bytes of an edited view
abbrev pub view_limit : ℕ
view_limit = MAX_VIEW

-- the input was not read to its end
abbrev pub is_untaken : Halt End → Bool
is_untaken Limit = true
is_untaken InputFault = true
is_untaken halt = false

-- If the input was not read to its end, nothing is shown and nothing changes.
abbrev pub put_by : Halt End → Situation → List ℕ → List ℕ → List ℕ → Outcome
put_by Limit now name text input = only_shows [] now
put_by InputFault now name text input = only_shows [] now
put_by AtEnd now name text input = put now name text input
put_by (Stopped end) now name text input = put now name text input

-- what was gathered of an input: all of it, or it is longer than it may be
abbrev pub Gathers : List ℕ → Option (List ℕ) → List ℕ → Bool → Type 0
Gathers input left bytes true = (bytes ≡ input) × IsAtEnd left
Gathers input left bytes false = view_limit < length input
