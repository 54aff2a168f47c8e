-- What a line requests, as the code returns it.
use Rattle.std.specs.Prelude.{◌≡◌, ℕ, false, List, [], ◌∷◌, Option, Some, None, Result, Ok, Err, IsTrue, ⊤}
use Rattle.lis_model.specs.declared.command.Command.{Command}
use Rattle.lis_model.specs.declared.command.Command.TheVariants.{Add, Write}
use Rattle.lis_model.specs.declared.refusal.Refusal.{Refusal}
use Rattle.lis_model.specs.Step.{Item, Payload, no_payload}
use Rattle.lis_model.specs.Step.Item.{Do, Bad}
use Rattle.lis_model.specs.Script.{bad_line}
use Rattle.lis_words.specs.Words.{is_count, count_of}

-- a command, given the payload after its line: `add` and `write` alone have it as their payload
abbrev pub command_with : Payload → Command → Item
command_with payload (Add name words) = Do (Add name words) payload
command_with payload (Write name) = Do (Write name) payload
command_with payload command = Do command no_payload

abbrev pub asked_of : Payload → Result Command Refusal → Item
asked_of payload (Ok command) = command_with payload command
asked_of payload (Err refusal) = Bad refusal

abbrev pub line_asks : Payload → Option (Result Command Refusal) → Option Item
line_asks payload None = None
line_asks payload (Some asked) = Some (asked_of payload asked)

-- what a line requests that must have one word of some kind after its first word, or two
abbrev pub word_asks : (List ℕ → Item) → Option (List ℕ) → Item
word_asks item None = bad_line
word_asks item (Some word) = item word

abbrev pub pair_asks : (List ℕ → List ℕ → Item) → Option (List ℕ × List ℕ) → Item
pair_asks item None = bad_line
pair_asks item (Some two) = item two.0 two.1

-- The words of a line after its first one: a word, a count, and others; or the second one is no count.
pub record IsCounted (words : List (List ℕ)) (word : List ℕ) (number : ℕ) (others : List (List ℕ)) : Type 0 where
  pub count : List ℕ
  pub split : words ≡ word ∷ count ∷ others
  pub counts : IsTrue (is_count count)
  pub is : number ≡ count_of count

abbrev pub IsUncounted : List (List ℕ) → Type 0
IsUncounted [] = ⊤
IsUncounted (word ∷ []) = ⊤
IsUncounted (word ∷ count ∷ others) = is_count count ≡ false
