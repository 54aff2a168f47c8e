-- What `run`, `load` and `rooms` keep.
use Rattle.std.specs.Prelude.{◌≡◌, ℕ, ◌^◌, List, true, false, Option, Some}
use Rattle.std.specs.Io.KnownBytes.{IsAtEnd}
use Rattle.lis_ports.specs.Meaning.{Meaning}
use Rattle.lis_model.specs.State.{State}
use Rattle.lis_model.specs.Step.{SituationOf, OutcomeOf, step}
use Rattle.lis_line.specs.Tagged.{tagged_cut}
use Rattle.lis_model.specs.Script.{Cut, script_by, script, all_items, session_cut}
use Rattle.lis_session.specs.Session.{root_of, SessionMoment}
use Rattle.lis_session.specs.Runs.{Carried}
use Rattle.lis_session.specs.Ending.{Served, InputRead}
use Rattle.lis_load.specs.Load.{LoadMoment, LoadServed}
use Rattle.lis_rooms.specs.Rooms.{room_step, rooms_of}
use Rattle.lis_shell.specs.declared.status.Status.{Status}
use Rattle.lis_shell.specs.Image.{Work, EntryWith, is_opening, Completes}

-- a session of the items of an input, by the situation in which it begins in a state
abbrev pub serving : {P I : Type 0} → (SituationOf P → I → OutcomeOf P) → Cut I → (State → SituationOf P) → Work
serving by cut start = record {
  takes_input = true;
  only_reads = false;
  undone = is_opening;
  may_end = λ halt. Unit {0};
  input = InputRead (2 ^ 40);
  moment = λ state bytes. SessionMoment by (start state) (script_by cut bytes (2 ^ 40));
  ended = λ state. Served by cut (start state) (2 ^ 40);
}

-- `run`: one session, from the root
abbrev pub running : Work
running = serving step session_cut root_of

-- `load`: the same, with many changes in one commit, and replies after it
abbrev pub loading : Work
loading = record {
  takes_input = true;
  only_reads = false;
  undone = is_opening;
  may_end = λ halt. Unit {0};
  input = InputRead (2 ^ 40);
  moment = λ state bytes. LoadMoment (root_of state) (script bytes (2 ^ 40));
  ended = λ state. LoadServed (root_of state) (2 ^ 40);
}

-- `rooms`: eight sessions in one stream, each from the root
abbrev pub rooming : Work
rooming = serving room_step tagged_cut rooms_of

abbrev pub AtEntry : Meaning → Option (List ℕ) → State → List ℕ → Type 0
AtEntry m left state bytes = EntryWith m (left ≡ Some bytes) state

-- Every item was run and its reply shown. Or memory ran out at the opening: nothing was shown, no input was taken, and the image represents
-- the same state.
abbrev pub IsComplete : State → ℕ → List ℕ → Option (List ℕ) → Option (List ℕ) → Meaning → Status → Type 0
IsComplete state limit bytes left before new status = Completes (left ≡ Some bytes) (IsAtEnd left × Carried step (root_of state) (all_items bytes) before new) state before new status
