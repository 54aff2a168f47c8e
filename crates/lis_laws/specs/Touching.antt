-- Which words a step touches, command by command.
use Rattle.std.specs.Prelude.{◌*◌, ◌≡◌, ℕ, ◌≤◌, not, Bool, if◌then◌else◌, List, [], ◌∷◌, ◌++◌, length, IsTrue}
use Rattle.std.specs.List.{list_any}
use Rattle.lis_limits.specs.declared.TheConstants.{MAX_DESCRIPTION}
use Rattle.lis_words.specs.Words.{same_word, test_of}
use Rattle.lis_model.specs.declared.command.Command.{Command}
use Rattle.lis_model.specs.declared.command.Command.TheVariants.{Mkdir, Rmdir, Axiom, Unaxiom, Create, Add, Write, Cat, Mv, Rename, Rm, Cd, Pwd, Ls, Props, Way, Stat}
use Rattle.lis_model.specs.Tests.{is_met}
use Rattle.lis_model.specs.State.{State, File, heads, up, description}
use Rattle.lis_model.specs.Changes.{file_of}
use Rattle.lis_model.specs.Replies.{ok_line}
use Rattle.lis_model.specs.Step.{Situation, Outcome, Item, step}
use Rattle.lis_model.specs.Step.Item.{Do, Bad}
use Rattle.lis_laws.specs.Steps.{is_formed, IsInForm}
use Rattle.lis_laws.specs.Touches.{Touches, where_held}

pub record TouchedWords : Type 0 where
  -- those that gain or lose a file
  pub changed : List (List ℕ)
  -- those that enter or leave the known ones
  pub learned : List (List ℕ)

abbrev pub no_words : TouchedWords
no_words = record { changed = []; learned = [] }

-- as a file touches words: the same in both ways
abbrev pub both_kinds : List (List ℕ) → TouchedWords
both_kinds words = record { changed = words; learned = words }

-- the words of the file of that name
abbrev pub described : State → List ℕ → List (List ℕ)
described s name = description s (file_of s.files name)

-- a test that some file meets
abbrev pub is_met_there : State → List ℕ → Bool
is_met_there s word = list_any (λ (file : File). is_met (test_of word) (length file.bytes)) s.files

-- What a command touches, if it leads from s to t. A file command touches the words that its file had before, and those that it has then.
-- An axiom touches what its right side entails, if some file has its left side.
abbrev pub touched_by : State → State → Command → TouchedWords
touched_by s t (Mkdir word) = record { changed = if is_met_there t word then up t.declared t.axioms word else []; learned = word ∷ [] }
touched_by s t (Rmdir word) = both_kinds (word ∷ [])
touched_by s t (Axiom left right) = record { changed = where_held s left (up s.declared s.axioms right); learned = left ∷ heads left }
touched_by s t (Unaxiom left right) = record { changed = where_held t left (up t.declared t.axioms right); learned = left ∷ heads left }
touched_by s t (Create name words) = both_kinds (described t name)
touched_by s t (Add name words) = both_kinds (described t name)
touched_by s t (Write name) = both_kinds (described s name ++ described t name)
touched_by s t (Cat name) = no_words
touched_by s t (Mv name text) = both_kinds (described s name ++ described t name)
touched_by s t (Rename name other) = both_kinds (described s name ++ described t other)
touched_by s t (Rm name) = both_kinds (described s name)
touched_by s t (Cd text) = no_words
touched_by s t Pwd = no_words
touched_by s t Ls = no_words
touched_by s t (Props name) = no_words
touched_by s t (Way name) = no_words
touched_by s t Stat = no_words

-- the reply is `ok` alone, as that of each command that was not refused and shows nothing
abbrev pub says_ok : Outcome → Bool
says_ok outcome = same_word outcome.reply ok_line

abbrev pub touched_in : Situation → Command → Outcome → TouchedWords
touched_in now command outcome = if says_ok outcome then touched_by now.state outcome.next.state command else no_words

-- what a step touches
abbrev pub touched : Situation → Item → TouchedWords
touched now (Do command payload) = touched_in now command (step now (Do command payload))
touched now (Bad refusal) = no_words

pub record StepTouches (now : Situation) (item : Item) : Type 0 where
  pub touches : Touches now.state (step now item).next.state (touched now item).changed (touched now item).learned
  pub few_changed : length (touched now item).changed ≤ 2 * MAX_DESCRIPTION
  pub few_learned : length (touched now item).learned ≤ 2 * MAX_DESCRIPTION
  -- what is refused, or shows something, leaves state and place as they were
  pub kept : IsTrue (not (says_ok (step now item))) → (step now item).next ≡ now

abbrev pub StepsTouch : Type 0
StepsTouch = (now : Situation) (item : Item) → IsInForm now → IsTrue (is_formed item) → StepTouches now item
