-- What a command keeps.
use Rattle.std.specs.Prelude.{ℕ, ◌==◌, nat_le, Bool, true, ◌&&◌, if◌then◌else◌, List, length, IsTrue}
use Rattle.std.specs.List.{list_all}
use Rattle.lis_words.specs.Words.{is_property, is_file_name}
use Rattle.lis_grammar.specs.Places.{IsPlace}
use Rattle.lis_model.specs.declared.limits.Limits.{Limits}
use Rattle.lis_model.specs.declared.command.Command.{Command}
use Rattle.lis_model.specs.declared.command.Command.TheVariants.{Mkdir, Rmdir, Axiom, Unaxiom, Create, Add, Write, Cat, Mv, Rename, Rm, Cd, Pwd, Ls, Props, Way, Stat}
use Rattle.lis_model.specs.Ranges.{are_in_range}
use Rattle.lis_model.specs.State.{WellFormed}
use Rattle.lis_model.specs.Step.{Situation, Payload, Item, step, start_of, situation_after}
use Rattle.lis_model.specs.Step.Item.{Do, Bad}
use Rattle.lis_model.specs.Script.{payload_limit, all_items, whole_items, script}

-- the words and names of a command have their forms
abbrev pub has_forms : Command → Bool
has_forms (Mkdir word) = is_property word
has_forms (Rmdir word) = is_property word
has_forms (Axiom left right) = is_property left && is_property right
has_forms (Unaxiom left right) = is_property left && is_property right
has_forms (Create name words) = is_file_name name && list_all is_property words
has_forms (Add name words) = is_file_name name && list_all is_property words
has_forms (Write name) = is_file_name name
has_forms (Cat name) = is_file_name name
has_forms (Mv name text) = is_file_name name
has_forms (Rename name other) = is_file_name name && is_file_name other
has_forms (Rm name) = is_file_name name
has_forms (Cd text) = true
has_forms Pwd = true
has_forms Ls = true
has_forms (Props name) = is_file_name name
has_forms (Way name) = is_file_name name
has_forms Stat = true

-- as many bytes as the size says if that many are kept, and otherwise none
abbrev pub is_payload : Payload → Bool
is_payload payload = length payload.bytes == (if nat_le payload.size payload_limit then payload.size else 0)

-- a command's words, names and payload are well formed
abbrev pub is_formed : Item → Bool
is_formed (Do command payload) = has_forms command && is_payload payload
is_formed (Bad refusal) = true

-- and so are those of every item of an input: of all of it, of what is whole in it, and of a script
abbrev pub ItemsAreFormed : Type 0
ItemsAreFormed = (bytes : List ℕ) → record {
  all : IsTrue (list_all is_formed (all_items bytes));
  whole : IsTrue (list_all is_formed (whole_items bytes));
  of_script : (limit : ℕ) → IsTrue (list_all is_formed (script bytes limit));
}

-- a well-formed state, and a place within its limits
pub record IsInForm (now : Situation) : Type 0 where
  pub state : WellFormed now.state
  pub place : IsPlace now.place

-- a step keeps states well formed and places within their limits
abbrev pub StepsKeepForm : Type 0
StepsKeepForm = (now : Situation) (item : Item) → IsInForm now → IsTrue (is_formed item) → IsInForm (step now item).next

-- so each situation to which a session from the empty state leads is well formed, if the limits are in range
abbrev pub SessionsAreFormed : Type 0
SessionsAreFormed = (limits : Limits) → IsTrue (are_in_range limits) → (bytes : List ℕ) (limit : ℕ) → IsInForm (situation_after (start_of limits) (script bytes limit))
