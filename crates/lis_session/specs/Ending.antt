-- How a session over the items of an input ends.
use Rattle.std.specs.Prelude.{◌≡◌, ℕ, ◌≤◌, ◌<◌, List, length, Option, Result, Ok, Err}
use Rattle.std.specs.Io.KnownBytes.{IsAtEnd}
use Rattle.lis_ports.specs.Meaning.{Meaning}
use Rattle.lis_line.specs.declared.carrier.Halt.{Halt}
use Rattle.lis_line.specs.declared.carrier.Halt.TheVariants.{End as AtEnd, Limit, InputFault, Stopped}
use Rattle.lis_model.specs.Script.{Cut, script_by}
use Rattle.lis_model.specs.Step.{SituationOf, OutcomeOf}
use Rattle.lis_store.specs.Stored.{Stored, StoreFits}
use Rattle.lis_session.specs.declared.end.End.{End}
use Rattle.lis_session.specs.Runs.{CarriedAll, CarriedToLimit, CarriedWhole, StoppedAt}

-- how running the items ended, wherever the input ended
abbrev pub result_of : Halt End → Result (Unit {0}) End
result_of (Stopped fault) = Err fault
result_of halt = Ok tt

-- How it ended, if the source had these bytes left at the start.
abbrev pub Served : {P I : Type 0} → (SituationOf P → I → OutcomeOf P) → Cut I → SituationOf P → ℕ → List ℕ → Option (List ℕ) → Option (List ℕ) → Meaning → Halt End → Type 0
Served by cut start limit bytes left before new AtEnd = CarriedAll by cut start limit bytes left before new
Served by cut start limit bytes left before new Limit = CarriedToLimit by cut start limit bytes before new
Served by cut start limit bytes left before new InputFault = CarriedWhole by cut start limit bytes left before new
Served by cut start limit bytes left before new (Stopped fault) = StoppedAt by start (script_by cut bytes limit) before new fault

-- what two of the results say of the input, whatever the disk does
abbrev pub InputRead : ℕ → List ℕ → Option (List ℕ) → Halt End → Type 0
InputRead limit bytes left AtEnd = (length bytes ≤ limit) × IsAtEnd left
InputRead limit bytes left Limit = limit < length bytes
InputRead limit bytes left halt = Unit {0}

-- At the end of the input, and at its limit, the store fits the reached state, and the session is at the reached place. So another session
-- can continue.
abbrev pub GoesOn : {P : Type 0} → SituationOf P → Stored → P → Meaning → Halt End → Type 0
GoesOn reached store place new InputFault = Unit {0}
GoesOn reached store place new (Stopped fault) = Unit {0}
GoesOn reached store place new halt = StoreFits store new reached.state × (place ≡ reached.place)
