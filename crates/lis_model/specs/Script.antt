-- How the input is cut into items.
use Rattle.std.specs.Prelude.{ℕ, nat_lt, nat_le, zero, suc, Bool, false, true, ◌&&◌, ◌||◌, if◌then◌else◌, Option, Some, None, Result, Ok, Err, List, [], ◌∷◌, ◌++◌, length, take, drop, filter, codes}
use Rattle.std.specs.Option.{option_to_list}
use Rattle.std.specs.List.{list_any, list_all}
use Rattle.lis_limits.specs.declared.TheConstants.{MAX_ASSIGNED, MAX_LINE, MAX_PAYLOAD}
use Rattle.lis_words.specs.Bytes.{is_feed, is_blank, is_some_bytes, without_return}
use Rattle.lis_words.specs.Words.{same_word, is_property, is_file_name, is_count, count_of}
use Rattle.lis_model.specs.declared.refusal.Refusal.{Refusal}
use Rattle.lis_model.specs.declared.refusal.Refusal.TheVariants.{BadLine, LongLine, CutPayload, PayloadEnd, TooManyAssigned}
use Rattle.lis_model.specs.declared.command.Command.TheVariants.{Mkdir, Rmdir, Axiom, Unaxiom, Create, Add, Write, Cat, Mv, Rename, Rm, Cd, Pwd, Ls, Props, Way, Stat}
use Rattle.lis_model.specs.Step.{Item, Payload, no_payload}
use Rattle.lis_model.specs.Step.Item.{Do, Bad}

-- what is before the first line feed, and what is after it
abbrev pub before_feed : List ℕ → List ℕ
before_feed [] = []
before_feed (b ∷ bytes) = if is_feed b then [] else b ∷ before_feed bytes

abbrev pub after_feed : List ℕ → List ℕ
after_feed [] = []
after_feed (b ∷ bytes) = if is_feed b then bytes else after_feed bytes

-- the pieces between blanks; some may be empty
abbrev pub pieces_on : List ℕ → List ℕ → List (List ℕ)
pieces_on piece [] = piece ∷ []
pieces_on piece (b ∷ bytes) = if is_blank b then piece ∷ pieces_on [] bytes else pieces_on (piece ++ b ∷ []) bytes

-- the longest runs of bytes other than space and tab
abbrev pub words_of : List ℕ → List (List ℕ)
words_of text = filter is_some_bytes (pieces_on [] text)

-- the forms of lines, by what follows the first word
abbrev pub bad_line : Item
bad_line = Bad BadLine

-- one word after the first, which fits, and two that each fit
abbrev pub one_word_form : (List ℕ → Bool) → (List ℕ → Item) → List (List ℕ) → Item
one_word_form fits item [] = bad_line
one_word_form fits item (word ∷ []) = if fits word then item word else bad_line
one_word_form fits item (word ∷ more ∷ words) = bad_line

abbrev pub two_words_form : (List ℕ → Bool) → (List ℕ → Bool) → (List ℕ → List ℕ → Item) → List (List ℕ) → Item
two_words_form fits_left fits_right item [] = bad_line
two_words_form fits_left fits_right item (left ∷ []) = bad_line
two_words_form fits_left fits_right item (left ∷ right ∷ []) = if fits_left left && fits_right right then item left right else bad_line
two_words_form fits_left fits_right item (left ∷ right ∷ more ∷ words) = bad_line

-- any word of the line fits
abbrev pub any_word : List ℕ → Bool
any_word word = true

-- words to give to a file: at most 16 in one line
abbrev pub tags_form : List (List ℕ) → Result (List (List ℕ)) Refusal
tags_form words =
    if list_all is_property words then (if nat_lt MAX_ASSIGNED (length words) then Err TooManyAssigned else Ok words) else Err BadLine

abbrev pub with_tags : (List (List ℕ) → Item) → Result (List (List ℕ)) Refusal → Item
with_tags item (Ok words) = item words
with_tags item (Err refusal) = Bad refusal

-- a file's name, and words
abbrev pub create_form : List (List ℕ) → Item
create_form [] = bad_line
create_form (name ∷ words) =
    if is_file_name name then with_tags (λ tags. Do (Create name tags) no_payload) (tags_form words) else bad_line

-- a file's name, how many bytes it must have, and words
abbrev pub add_form : List (List ℕ) → Payload → Item
add_form [] payload = bad_line
add_form (name ∷ []) payload = bad_line
add_form (name ∷ size ∷ words) payload =
    if is_file_name name && is_count size then with_tags (λ tags. Do (Add name tags) payload) (tags_form words) else bad_line

-- no word after the first
abbrev pub alone_form : Item → List (List ℕ) → Item
alone_form item [] = item
alone_form item (word ∷ words) = bad_line

-- the lines of all commands
abbrev pub form_of : List ℕ → List (List ℕ) → Payload → Item
form_of first words payload =
    if same_word first (codes "mkdir") then one_word_form is_property (λ word. Do (Mkdir word) no_payload) words
    else if same_word first (codes "rmdir") then one_word_form is_property (λ word. Do (Rmdir word) no_payload) words
    else if same_word first (codes "axiom") then two_words_form is_property is_property (λ left right. Do (Axiom left right) no_payload) words
    else if same_word first (codes "unaxiom") then two_words_form is_property is_property (λ left right. Do (Unaxiom left right) no_payload) words
    else if same_word first (codes "create") then create_form words
    else if same_word first (codes "add") then add_form words payload
    else if same_word first (codes "write") then two_words_form is_file_name is_count (λ name size. Do (Write name) payload) words
    else if same_word first (codes "cat") then one_word_form is_file_name (λ name. Do (Cat name) no_payload) words
    else if same_word first (codes "mv") then two_words_form is_file_name any_word (λ name word. Do (Mv name word) no_payload) words
    else if same_word first (codes "rename") then two_words_form is_file_name is_file_name (λ name other. Do (Rename name other) no_payload) words
    else if same_word first (codes "rm") then one_word_form is_file_name (λ name. Do (Rm name) no_payload) words
    else if same_word first (codes "cd") then one_word_form any_word (λ word. Do (Cd word) no_payload) words
    else if same_word first (codes "pwd") then alone_form (Do Pwd no_payload) words
    else if same_word first (codes "ls") then alone_form (Do Ls no_payload) words
    else if same_word first (codes "props") then one_word_form is_file_name (λ name. Do (Props name) no_payload) words
    else if same_word first (codes "way") then one_word_form is_file_name (λ name. Do (Way name) no_payload) words
    else if same_word first (codes "stat") then alone_form (Do Stat no_payload) words
    else bad_line

-- a line without words requests nothing
abbrev pub item_of_words : List (List ℕ) → Payload → Option Item
item_of_words [] payload = None
item_of_words (first ∷ words) payload = Some (form_of first words payload)

-- more bytes than a line may have before its line feed
abbrev pub is_long : List ℕ → Bool
is_long text = nat_lt MAX_LINE (length text)

abbrev pub line_words : List ℕ → List (List ℕ)
line_words text = words_of (without_return text)

-- what a line requests, by what is before its line feed, and the payload after it
abbrev pub item_of : List ℕ → Payload → Option Item
item_of text payload = if is_long text then Some (Bad LongLine) else item_of_words (line_words text) payload

-- How many bytes must follow a line of these words, whatever else is in it: the first is `add` or `write`, and the third a count.
abbrev pub size_of_words : List (List ℕ) → Option ℕ
size_of_words [] = None
size_of_words (first ∷ []) = None
size_of_words (first ∷ second ∷ []) = None
size_of_words (first ∷ second ∷ size ∷ words) =
    if (same_word first (codes "add") || same_word first (codes "write")) && is_count size then Some (count_of size) else None

-- nothing follows a long line
abbrev pub payload_size : List ℕ → Option ℕ
payload_size text = if is_long text then None else size_of_words (line_words text)

-- the most bytes of a payload that are kept: as many as a file of any version may have
abbrev pub payload_limit : ℕ
payload_limit = MAX_PAYLOAD

-- of a larger payload only its size is kept
abbrev pub payload_of : ℕ → List ℕ → Payload
payload_of size bytes = record { size = size; bytes = if nat_le size payload_limit then bytes else [] }

-- the first segment of an input: what it requests, what is left after it, and whether it ended with its own line feed
pub record FirstOf (I : Type 0) : Type 0 where
  pub item : Option I
  pub rest : List ℕ
  pub is_whole : Bool

abbrev pub First : Type 0
First = FirstOf Item

-- After a payload comes the end of the input, or a line feed. Otherwise all is dropped up to the next line feed, and with it.
abbrev pub first_ended : Option Item → List ℕ → First
first_ended item [] = record { item = item; rest = []; is_whole = false }
first_ended item (b ∷ bytes) =
    if is_feed b then record { item = item; rest = bytes; is_whole = true }
    else record { item = Some (Bad PayloadEnd); rest = after_feed bytes; is_whole = list_any is_feed bytes }

-- a line with the bytes after it, the first `size` of which are its payload
abbrev pub first_with : List ℕ → ℕ → List ℕ → First
first_with text size bytes =
    if nat_lt (length bytes) size then record { item = Some (Bad CutPayload); rest = []; is_whole = false }
    else first_ended (item_of text (payload_of size (take size bytes))) (drop size bytes)

abbrev pub first_by : Option ℕ → List ℕ → First
first_by None bytes = record {
  item = item_of (before_feed bytes) no_payload;
  rest = after_feed bytes;
  is_whole = list_any is_feed bytes;
}
first_by (Some size) bytes = first_with (before_feed bytes) size (after_feed bytes)

abbrev pub first_of : List ℕ → First
first_of bytes = first_by (payload_size (before_feed bytes)) bytes

-- The items of an input in sequence, if `first` gives its first segment. There are at most as many as there are bytes, since each takes at
-- least one byte.
abbrev pub items_within : {I : Type 0} → (List ℕ → FirstOf I) → ℕ → List ℕ → List I
items_within first zero bytes = []
items_within first (suc n) [] = []
items_within first (suc n) (b ∷ bytes) =
    option_to_list (first (b ∷ bytes)).item ++ items_within first n (first (b ∷ bytes)).rest

-- the same, up to the first segment that does not end with its own line feed
abbrev pub whole_within : {I : Type 0} → (List ℕ → FirstOf I) → ℕ → List ℕ → List I
whole_within first zero bytes = []
whole_within first (suc n) [] = []
whole_within first (suc n) (b ∷ bytes) =
    if (first (b ∷ bytes)).is_whole then option_to_list (first (b ∷ bytes)).item ++ whole_within first n (first (b ∷ bytes)).rest
    else []

-- how inputs are cut: into all of their items, and into those that are whole
pub record Cut (I : Type 0) : Type 0 where
  pub all : List ℕ → List I
  pub whole : List ℕ → List I

-- All items, if the input has at most `limit` bytes; otherwise those that are whole in the first `limit` bytes.
abbrev pub script_by : {I : Type 0} → Cut I → List ℕ → ℕ → List I
script_by cut bytes limit = if nat_le (length bytes) limit then cut.all bytes else cut.whole (take limit bytes)

-- the items of a session
unfoldable pub all_items : List ℕ → List Item
all_items bytes = items_within first_of (length bytes) bytes

unfoldable pub whole_items : List ℕ → List Item
whole_items bytes = whole_within first_of (length bytes) bytes

abbrev pub session_cut : Cut Item
session_cut = record { all = all_items; whole = whole_items }

abbrev pub script : List ℕ → ℕ → List Item
script bytes limit = script_by session_cut bytes limit
