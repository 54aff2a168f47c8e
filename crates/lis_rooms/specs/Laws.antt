-- What rooms keep from one another.
use Rattle.std.specs.Prelude.{◌≡◌, ◌↔◌, ℕ, ◌<◌, false, List, [], ◌∷◌, ◌++◌, length, filter, IsTrue}
use Rattle.lis_model.specs.State.{State}
use Rattle.lis_model.specs.Step.{SituationOf, after_by}
use Rattle.lis_line.specs.Tagged.{Tagged}
use Rattle.lis_session.specs.Session.{SaysTheSame}
use Rattle.lis_rooms.specs.Rooms.{Places, at_room, room_step}
use Rattle.lis_rooms.specs.Sights.{same_state, is_of, seen, heard}

-- a step in a room has a reply that is not empty, and the limits stay
pub record RoomStepsAreRegular : Type 0 where
  pub some : (now : SituationOf Places) (tagged : Tagged) → 0 < length (room_step now tagged).reply
  pub limits : (now : SituationOf Places) (tagged : Tagged) → (room_step now tagged).next.state.limits ≡ now.state.limits

-- a moment of rooms stated by how many items were run, and one stated by the replies that were shown whole, are the same
abbrev pub RoomsOneForm : Type 0
RoomsOneForm = (start : SituationOf Places) (items : List Tagged) (image shown : List ℕ) → SaysTheSame room_step start items image shown

-- the test of states is true exactly if they are equal
abbrev pub StatesAreTold : Type 0
StatesAreTold = (a b : State) → IsTrue (same_state a b) ↔ (a ≡ b)

-- Two lists of items give a room equal replies, and lead to equal states with equal places of the room.
pub record HearsTheSame (now : SituationOf Places) (items others : List Tagged) (room : ℕ) : Type 0 where
  pub replies : heard now items room ≡ heard now others room
  pub situation : at_room (after_by room_step now items) room ≡ at_room (after_by room_step now others) room

-- A room hears its own items and the changes of the state alone: lists that look alike to it give it equal replies and an equal place.
abbrev pub RoomsSeeOwn : Type 0
RoomsSeeOwn = (now : SituationOf Places) (items others : List Tagged) (room : ℕ) → room < length now.place
    → seen now items room ≡ seen now others room → HearsTheSame now items others room

-- An item that is not the room's and changes nothing may be inserted or left out anywhere. An item that changes the place of its own room
-- is not such an item: what that room does there may change the state.
abbrev pub QuietIsUnseen : Type 0
QuietIsUnseen = (now : SituationOf Places) (first others : List Tagged) (tagged : Tagged) (room : ℕ) → room < length now.place
    → is_of room tagged.room ≡ false → (room_step (after_by room_step now first) tagged).next ≡ after_by room_step now first
    → HearsTheSame now (first ++ tagged ∷ others) (first ++ others) room

-- each item that is not the room's leaves the state as it was
abbrev pub OthersAreQuiet : SituationOf Places → List Tagged → ℕ → Type 0
OthersAreQuiet now [] room = Unit {0}
OthersAreQuiet now (tagged ∷ items) room =
    (is_of room tagged.room ≡ false → (room_step now tagged).next.state ≡ now.state) × OthersAreQuiet (room_step now tagged).next items room

-- If the other rooms change no state, whatever places they go to, a room hears what it would hear alone.
abbrev pub QuietRoomsAreAbsent : Type 0
QuietRoomsAreAbsent = (now : SituationOf Places) (items : List Tagged) (room : ℕ) → room < length now.place → OthersAreQuiet now items room
    → HearsTheSame now items (filter (λ tagged. is_of room tagged.room) items) room
