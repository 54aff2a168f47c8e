-- What a line requests, if a payload follows it.
use Rattle.std.proofs.Common.{◌≡◌, ℕ, Bool, true, false, cond, ◌||◌, ◌&&◌, List, [], ◌∷◌, codes, Option, Some, None, Result, Ok, Err, ap, sym, ◌∙◌, refl}
use Rattle.std.specs.Option.{option_map}
use Rattle.std.proofs.lemmas.Slice.Eq.{bytes_eq-Decides}
use Rattle.lis_words.specs.Words.{same_word, is_file_name, is_count, count_of}
use Rattle.lis_model.specs.declared.refusal.Refusal.{Refusal}
use Rattle.lis_model.specs.declared.refusal.Refusal.TheVariants.{LongLine}
use Rattle.lis_model.specs.declared.command.Command.{Command}
use Rattle.lis_model.specs.declared.command.Command.TheVariants.{Add, Write, Stat}
use Rattle.lis_model.specs.Step.{Item, Payload, no_payload}
use Rattle.lis_model.specs.Step.Item.{Do, Bad}
use Rattle.lis_model.specs.Script.{bad_line, two_words_form, tags_form, with_tags, add_form, form_of, item_of, item_of_words, is_long, line_words, size_of_words, payload_size}
use Rattle.lis_line.specs.Forms.{command_with, line_asks, IsUncounted}
use Rattle.lis_line.specs.Reading.{item_with}

-- the command of a line that a payload follows has that payload
named_with : (name : List ℕ) (payload other : Payload) (words : Result (List (List ℕ)) Refusal) (command : Command)
    → with_tags (λ tags. Do (Add name tags) payload) words ≡ Do command other → other ≡ payload
named_with name payload other (Ok words) command is = cc
named_with name payload other (Err refusal) command is = absurd (cc)

add_with : (name size : List ℕ) (words : List (List ℕ)) (payload other : Payload) (command : Command)
    → add_form (name ∷ size ∷ words) payload ≡ Do command other → other ≡ payload
add_with name size words payload other command = by (is_file_name name && is_count size)
  where
    by : (t : Bool) → cond t (with_tags (λ tags. Do (Add name tags) payload) (tags_form words)) bad_line ≡ Do command other → other ≡ payload
    by true is = named_with name payload other (tags_form words) command is
    by false is = absurd (cc)

write_with : (name size : List ℕ) (words : List (List ℕ)) (payload other : Payload) (command : Command)
    → two_words_form is_file_name is_count (λ name size. Do (Write name) payload) (name ∷ size ∷ words) ≡ Do command other → other ≡ payload
write_with name size [] payload other command is = by (is_file_name name && is_count size) is
  where
    by : (t : Bool) → cond t (Do (Write name) payload) bad_line ≡ Do command other → other ≡ payload
    by true is = cc
    by false is = absurd (cc)
write_with name size (word ∷ words) payload other command is = absurd (cc)

form_with : (first second size : List ℕ) (words : List (List ℕ)) (payload other : Payload) (command : Command)
    → (same_word first (codes "add") || same_word first (codes "write")) ≡ true → form_of first (second ∷ size ∷ words) payload ≡ Do command other → other ≡ payload
form_with first second size words payload other command either is = by (same_word first (codes "add")) refl either
  where
    by : (t : Bool) → same_word first (codes "add") ≡ t → (t || same_word first (codes "write")) ≡ true → other ≡ payload
    by true h e =
        let same : first ≡ codes "add" = (bytes_eq-Decides first (codes "add")).0 h in
        add_with second size words payload other command (ap (λ w. form_of w (second ∷ size ∷ words) payload) (sym same) ∙ is)
    by false h e =
        let same : first ≡ codes "write" = (bytes_eq-Decides first (codes "write")).0 e in
        write_with second size words payload other command (ap (λ w. form_of w (second ∷ size ∷ words) payload) (sym same) ∙ is)

words_with : (words : List (List ℕ)) (size : ℕ) (payload other : Payload) (command : Command)
    → size_of_words words ≡ Some size → item_of_words words payload ≡ Some (Do command other) → other ≡ payload
words_with [] size payload other command sized is = absurd (cc)
words_with (first ∷ []) size payload other command sized is = absurd (cc)
words_with (first ∷ second ∷ []) size payload other command sized is = absurd (cc)
words_with (first ∷ second ∷ third ∷ words) size payload other command sized is =
    by (same_word first (codes "add") || same_word first (codes "write")) refl sized (some_same is)
  where
    some_same : {a b : Item} → Some a ≡ Some b → a ≡ b
    some_same h = cc

    by : (t : Bool) → (same_word first (codes "add") || same_word first (codes "write")) ≡ t
        → cond {A = Option ℕ} (t && is_count third) (Some (count_of third)) None ≡ Some size
        → form_of first (second ∷ third ∷ words) payload ≡ Do command other → other ≡ payload
    by true either sized is = form_with first second third words payload other command either is
    by false either sized is = absurd (cc)

line_with : (line : List ℕ) (size : ℕ) (payload other : Payload) (command : Command)
    → payload_size line ≡ Some size → item_of line payload ≡ Some (Do command other) → other ≡ payload
line_with line size payload other command = by (is_long line)
  where
    by : (t : Bool) → cond {A = Option ℕ} t None (size_of_words (line_words line)) ≡ Some size
        → cond {A = Option Item} t (Some (Bad LongLine)) (item_of_words (line_words line) payload) ≡ Some (Do command other) → other ≡ payload
    by true sized is = absurd (cc)
    by false sized is = words_with (line_words line) size payload other command sized is

-- a command has its payload, if that is the only one that it can have
payload_said : (payload : Payload) (command : Command) → ((other : Payload) → command_with payload command ≡ Do command other → other ≡ payload)
    → command_with payload command ≡ Do command payload
payload_said payload (Add name words) only = refl
payload_said payload (Write name) only = refl
payload_said payload command only = ap (λ p. Do command p) (only no_payload refl)

-- if a payload follows a line, it is the payload of the command
pub asks_with : (line : List ℕ) (size : ℕ) (payload : Payload) (asked : Option (Result Command Refusal))
    → payload_size line ≡ Some size → line_asks payload asked ≡ item_of line payload → item_of line payload ≡ option_map (item_with payload) asked
asks_with line size payload None sized is = sym is
asks_with line size payload (Some (Err refusal)) sized is = sym is
asks_with line size payload (Some (Ok command)) sized is = sym is ∙ ap Some (payload_said payload command (λ other said. line_with line size payload other command sized (sym is ∙ ap Some said)))

-- and if none follows, there is none
pub asks_alone : (asked : Option (Result Command Refusal)) → line_asks no_payload asked ≡ option_map (item_with no_payload) asked
asks_alone None = refl
asks_alone (Some (Err refusal)) = refl
asks_alone (Some (Ok Stat)) = refl
asks_alone (Some (Ok command)) = refl

-- ---- a line without a count where one is required
add_uncounted : (words : List (List ℕ)) (payload : Payload) → IsUncounted words → add_form words payload ≡ bad_line
add_uncounted [] payload none = refl
add_uncounted (name ∷ []) payload none = refl
add_uncounted (name ∷ count ∷ words) payload none = by (is_file_name name) (is_count count) none
  where
    by : (named counts : Bool) → counts ≡ false → cond (named && counts) (with_tags (λ tags. Do (Add name tags) payload) (tags_form words)) bad_line ≡ bad_line
    by true true none = absurd (cc)
    by true false none = refl
    by false counts none = refl

write_uncounted : (words : List (List ℕ)) (payload : Payload) → IsUncounted words → two_words_form is_file_name is_count (λ name size. Do (Write name) payload) words ≡ bad_line
write_uncounted [] payload none = refl
write_uncounted (name ∷ []) payload none = refl
write_uncounted (name ∷ count ∷ []) payload none = by (is_file_name name) (is_count count) none
  where
    by : (named counts : Bool) → counts ≡ false → cond (named && counts) (Do (Write name) payload) bad_line ≡ bad_line
    by true true none = absurd (cc)
    by true false none = refl
    by false counts none = refl
write_uncounted (name ∷ count ∷ more ∷ words) payload none = refl

pub uncounted_bad : (first : List ℕ) (words : List (List ℕ)) (payload : Payload) → (same_word first (codes "add") || same_word first (codes "write")) ≡ true → IsUncounted words
    → form_of first words payload ≡ bad_line
uncounted_bad first words payload either none = by (same_word first (codes "add")) refl either
  where
    by : (t : Bool) → same_word first (codes "add") ≡ t → (t || same_word first (codes "write")) ≡ true → form_of first words payload ≡ bad_line
    by true h e =
        let same : first ≡ codes "add" = (bytes_eq-Decides first (codes "add")).0 h in
        ap (λ w. form_of w words payload) same ∙ add_uncounted words payload none
    by false h e =
        let same : first ≡ codes "write" = (bytes_eq-Decides first (codes "write")).0 e in
        ap (λ w. form_of w words payload) same ∙ write_uncounted words payload none
