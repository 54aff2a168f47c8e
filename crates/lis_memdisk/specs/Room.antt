-- The room of a history: how much it may still use of the vectors that were reserved for it.
use Rattle.std.specs.Prelude.{ℕ, ◌+◌, ◌*◌, ◌<◌, ◌≤◌, Bool, IsTrue}

pub record HasSpace (is_kept : Bool) (left shown shown_room given given_room events events_room : ℕ) : Type 0 where
  pub to_show : left + shown ≤ shown_room
  pub to_give : IsTrue is_kept → left + given ≤ given_room
  pub to_note : IsTrue is_kept → left + 48 * events < 48 * events_room + 48
