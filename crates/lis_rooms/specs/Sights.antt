-- What a room sees of items, and what it hears.
use Rattle.std.specs.Prelude.{ℕ, ◌==◌, Bool, false, ◌&&◌, if◌then◌else◌, Option, Some, None, List, [], ◌∷◌, ◌++◌}
use Rattle.std.specs.Cmp.Lexicographic.{pointwise}
use Rattle.lis_words.specs.Words.{same_word}
use Rattle.lis_model.specs.declared.limits.Limits.{Limits}
use Rattle.lis_model.specs.State.{State, File}
use Rattle.lis_model.specs.Step.{SituationOf, Item}
use Rattle.lis_line.specs.Tagged.{Tagged}
use Rattle.lis_rooms.specs.Rooms.{Places, room_step}

-- ---- whether two states are the same
abbrev pub same_words : List (List ℕ) → List (List ℕ) → Bool
same_words a b = pointwise same_word a b

abbrev pub same_limits : Limits → Limits → Bool
same_limits a b = (a.files == b.files) && (a.props == b.props) && (a.blocks == b.blocks) && (a.version == b.version)

abbrev pub same_pair : List ℕ × List ℕ → List ℕ × List ℕ → Bool
same_pair a b = same_word a.0 b.0 && same_word a.1 b.1

abbrev pub same_file : File → File → Bool
same_file a b = same_word a.name b.name && same_word a.bytes b.bytes && same_words a.assigned b.assigned

abbrev pub same_state : State → State → Bool
same_state a b =
    same_limits a.limits b.limits && same_words a.declared b.declared && pointwise same_pair a.axioms b.axioms && pointwise same_file a.files b.files

-- ---- what a room sees
-- its own item; or, of another item that changed the state, the state after it
pub data Sight : Type 0 where
  Own : Item → Sight
  Changed : State → Sight

abbrev pub is_of : ℕ → Option ℕ → Bool
is_of room None = false
is_of room (Some other) = other == room

-- a room sees nothing of an item that is not its own if the state stayed
abbrev pub change : State → State → List Sight
change before after = if same_state before after then [] else Changed after ∷ []

abbrev pub sight : SituationOf Places → Tagged → ℕ → List Sight
sight now tagged room = if is_of room tagged.room then Own tagged.item ∷ [] else change now.state (room_step now tagged).next.state

abbrev pub seen : SituationOf Places → List Tagged → ℕ → List Sight
seen now [] room = []
seen now (tagged ∷ items) room = sight now tagged room ++ seen (room_step now tagged).next items room

-- ---- what a room hears
-- the replies to its own items
abbrev pub heard : SituationOf Places → List Tagged → ℕ → List (List ℕ)
heard now [] room = []
heard now (tagged ∷ items) room =
    (if is_of room tagged.room then (room_step now tagged).reply ∷ [] else []) ++ heard (room_step now tagged).next items room
