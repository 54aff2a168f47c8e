-- What `grow` keeps: the large session that is made from a number.
use Rattle.std.specs.Prelude.{ℕ, List, false, Option}
use Rattle.lis_ports.specs.Meaning.{Meaning}
use Rattle.lis_model.specs.State.{State}
use Rattle.lis_model.specs.Step.{Item}
use Rattle.lis_session.specs.Session.{root_of, EachMoment, OpenedMoment}
use Rattle.lis_grow.specs.Session.{grow_items, GrowMoment, GrowEnded, GrewAll, summary}
use Rattle.lis_shell.specs.declared.status.Status.{Status}
use Rattle.lis_shell.specs.Image.{Work, ByResult, IsUnread, is_opening, EntryWith, Completes}

-- `grow`: the session from the root
abbrev pub growing : ℕ → Work
growing n = record {
  takes_input = false;
  only_reads = false;
  undone = is_opening;
  may_end = IsUnread;
  input = λ bytes left halt. Unit {0};
  moment = λ state bytes. GrowMoment (root_of state) (grow_items n);
  ended = λ state bytes left before new. ByResult (GrowEnded (root_of state) (grow_items n) before new);
}

-- The station is honest, and its image represents the state.
abbrev pub GrowEntry : Meaning → State → Type 0
GrowEntry m state = EntryWith m (Unit {0}) state

-- each moment since the start is one of the session, or an image that a crash at its start could have left
abbrev pub GrowHeadline : State → List Item → Meaning → Meaning → Type 0
GrowHeadline state items old new = EachMoment old new (OpenedMoment old (GrowMoment (root_of state) items))

-- Every item was run and the summary was shown. Or memory ran out at the opening: nothing was shown, and the image represents the same
-- state.
abbrev pub IsGrown : State → List Item → Option (List ℕ) → Meaning → Status → Type 0
IsGrown state items before new status = Completes (Unit {0}) (GrewAll (root_of state) items before new (summary (root_of state) items)) state before new status
