-- Rooms: sessions over one state, each at its own place.
use Rattle.std.specs.Prelude.{ℕ, ◌+◌, Option, Some, None, List, [], ◌∷◌, ◌++◌, codes, replicate, slice_index_or, slice_set}
use Rattle.lis_grammar.specs.Formula.{Formula}
use Rattle.lis_model.specs.State.{State}
use Rattle.lis_model.specs.Replies.{line}
use Rattle.lis_model.specs.Step.{SituationOf, OutcomeOf, Situation, Outcome, Item, step}
use Rattle.lis_line.specs.Tagged.{Tagged}

-- the places of the rooms, in the order of their numbers
abbrev pub Places : Type 0
Places = List (List Formula)

-- all eight rooms at the root
abbrev pub all_at_root : Places
all_at_root = replicate 8 []

abbrev pub rooms_of : State → SituationOf Places
rooms_of state = record { state = state; place = all_at_root }

-- the state, at the place of a room
abbrev pub at_room : SituationOf Places → ℕ → Situation
at_room now room = record { state = now.state; place = slice_index_or now.place room [] }

-- the state, at the root
abbrev pub at_no_room : SituationOf Places → Situation
at_no_room now = record { state = now.state; place = [] }

-- the line after a reply: `@` and the digit of its room, or `@-` if it has none
abbrev pub tag_line : Option ℕ → List ℕ
tag_line (Some room) = line (64 ∷ (48 + room) ∷ [])
tag_line None = line (codes "@-")

-- an outcome, with the line of its room after the reply
abbrev pub with_tag : {P : Type 0} → Option ℕ → OutcomeOf P → OutcomeOf P
with_tag room outcome = record { next = outcome.next; reply = outcome.reply ++ tag_line room }

-- an outcome at the place of a room: the places of the others stay
abbrev pub outcome_in : SituationOf Places → ℕ → Outcome → OutcomeOf Places
outcome_in now room outcome = record {
  next = record { state = outcome.next.state; place = slice_set now.place room outcome.next.place };
  reply = outcome.reply;
}

-- An item of a room is run at its place. An item without a room changes nothing: it is a refused line.
abbrev pub done_in : SituationOf Places → Option ℕ → Item → OutcomeOf Places
done_in now (Some room) item = outcome_in now room (step (at_room now room) item)
done_in now None item = record { next = now; reply = (step (at_no_room now) item).reply }

abbrev pub room_step : SituationOf Places → Tagged → OutcomeOf Places
room_step now tagged = with_tag tagged.room (done_in now tagged.room tagged.item)
