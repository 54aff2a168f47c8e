-- How an input of rooms is cut: a line is in the room of its tag.
use Rattle.std.specs.Prelude.{ℕ, ◌==◌, ◌-◌, nat_le, ◌&&◌, if◌then◌else◌, Option, Some, None, List, [], ◌∷◌, length, drop, unwrap_or}
use Rattle.std.specs.Option.{option_map}
use Rattle.std.specs.List.{list_any}
use Rattle.lis_model.specs.declared.refusal.Refusal.TheVariants.{LongLine}
use Rattle.lis_model.specs.Step.{Item}
use Rattle.lis_model.specs.Step.Item.{Bad}
use Rattle.lis_model.specs.Script.{before_feed, after_feed, bad_line, is_long, line_words, First, FirstOf, first_of, items_within, whole_within, Cut, script_by}
use Rattle.lis_words.specs.Bytes.{is_feed, is_blank}

-- an item, and its room, if it has one
pub record Tagged : Type 0 where
  pub room : Option ℕ
  pub item : Item

-- a text without the blanks at its start
abbrev pub after_blanks : List ℕ → List ℕ
after_blanks [] = []
after_blanks (b ∷ text) = if is_blank b then after_blanks text else b ∷ text

-- the room of a tag: `@` and a digit from 0 to 7, and nothing else
abbrev pub room_of : List ℕ → Option ℕ
room_of [] = None
room_of (at ∷ []) = None
room_of (at ∷ digit ∷ []) = if (at == 64) && (nat_le 48 digit && nat_le digit 55) then Some (digit - 48) else None
room_of (at ∷ digit ∷ more ∷ bytes) = None

-- the room of the first word
abbrev pub room_of_words : List (List ℕ) → Option ℕ
room_of_words [] = None
room_of_words (word ∷ words) = room_of word

-- the room of a line: none for a long line, and none for one whose first word is no tag
abbrev pub spoken_in : List ℕ → Option ℕ
spoken_in line = if is_long line then None else room_of_words (line_words line)

-- what a line in no room requests: nothing if it has no words, and otherwise it is refused
abbrev pub refused_words : List (List ℕ) → Option Item
refused_words [] = None
refused_words (word ∷ words) = Some bad_line

abbrev pub no_room : List ℕ → Option Tagged
no_room line =
    option_map (λ item. record { room = None; item = item }) (if is_long line then Some (Bad LongLine) else refused_words (line_words line))

-- what follows a tag: if there are no words, a bad line
abbrev pub in_room : ℕ → First → FirstOf Tagged
in_room room first = record {
  item = Some (record { room = Some room; item = unwrap_or first.item bad_line });
  rest = first.rest;
  is_whole = first.is_whole;
}

-- The first segment of an input, by the room of its line. What follows the two bytes of the tag is read as a line of a session, with the
-- payload after it. Nothing belongs to a line in no room.
abbrev pub first_spoken : Option ℕ → List ℕ → FirstOf Tagged
first_spoken None bytes = record { item = no_room (before_feed bytes); rest = after_feed bytes; is_whole = list_any is_feed bytes }
first_spoken (Some room) bytes = in_room room (first_of (drop 2 (after_blanks bytes)))

abbrev pub first_tagged : List ℕ → FirstOf Tagged
first_tagged bytes = first_spoken (spoken_in (before_feed bytes)) bytes

-- the items of an input of rooms
unfoldable pub all_tagged : List ℕ → List Tagged
all_tagged bytes = items_within first_tagged (length bytes) bytes

unfoldable pub whole_tagged : List ℕ → List Tagged
whole_tagged bytes = whole_within first_tagged (length bytes) bytes

abbrev pub tagged_cut : Cut Tagged
tagged_cut = record { all = all_tagged; whole = whole_tagged }

abbrev pub room_script : List ℕ → ℕ → List Tagged
room_script bytes limit = script_by tagged_cut bytes limit
