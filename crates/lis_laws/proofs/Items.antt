-- The words, names and payload of every item of an input are well formed.
use Rattle.std.proofs.Common.{◌≡◌, ◌==◌, ℕ, zero, suc, Bool, true, false, ◌&&◌, cond, Option, Some, None, Ok, Err, List, [], ◌∷◌, ◌++◌, length, take, drop, nat_lt, nat_le, refl, ◌∙◌, codes, arith, eq-eqb}
use Rattle.std.specs.Option.{option_to_list}
use Rattle.std.specs.List.{list_all, list_any}
use Rattle.std.proofs.lemmas.Bool.{and_parts, and_from, ltb-false}
use Rattle.std.proofs.lemmas.List.{length-take}
use Rattle.std.proofs.lemmas.List.Folds.{list_all-append}
use Rattle.lis_words.specs.Words.{same_word, is_property, is_file_name, is_count}
use Rattle.lis_model.specs.declared.refusal.Refusal.TheVariants.{BadLine, LongLine, CutPayload, PayloadEnd, TooManyAssigned}
use Rattle.lis_model.specs.declared.command.Command.TheVariants.{Mkdir, Rmdir, Axiom, Unaxiom, Create, Add, Write, Cat, Mv, Rename, Rm, Cd, Pwd, Ls, Props, Way, Stat}
use Rattle.lis_model.specs.Step.{Item, Payload, no_payload}
use Rattle.lis_model.specs.Step.Item.{Do, Bad}
use Rattle.lis_model.specs.Script.{bad_line, one_word_form, two_words_form, any_word, tags_form, with_tags, create_form, add_form, alone_form, form_of, item_of_words, item_of, line_words, is_long, payload_limit, payload_of, payload_size, before_feed, after_feed, First, first_ended, first_with, first_by, first_of, items_within, all_items, whole_within, whole_items, script}
use Rattle.lis_laws.specs.Steps.{is_payload, is_formed}
use Rattle.lis_words.specs.Bytes.{is_feed}

-- a choice of two well-formed items is one
chosen : (b : Bool) (x y : Item) → is_formed x ≡ true → is_formed y ≡ true → is_formed (cond b x y) ≡ true
chosen true x y h k = h
chosen false x y h k = k

-- an item that comes only if its words are well formed
tested : (b : Bool) (x : Item) → (b ≡ true → is_formed x ≡ true) → is_formed (cond b x bad_line) ≡ true
tested true x h = h refl
tested false x h = refl

-- what is kept of a payload
payload_formed : (size : ℕ) (bytes : List ℕ) → length bytes ≡ size → is_payload (payload_of size bytes) ≡ true
payload_formed size bytes is = by (nat_le size payload_limit)
  where
    by : (b : Bool) → (length (cond b bytes []) == cond b size 0) ≡ true
    by true = eq-eqb (length bytes) size is
    by false = refl

one_formed : (fits : List ℕ → Bool) (item : List ℕ → Item) → ((word : List ℕ) → fits word ≡ true → is_formed (item word) ≡ true)
    → (words : List (List ℕ)) → is_formed (one_word_form fits item words) ≡ true
one_formed fits item formed [] = refl
one_formed fits item formed (word ∷ []) = tested (fits word) (item word) (formed word)
one_formed fits item formed (word ∷ more ∷ words) = refl

two_formed : (fits_left fits_right : List ℕ → Bool) (item : List ℕ → List ℕ → Item)
    → ((left right : List ℕ) → fits_left left ≡ true → fits_right right ≡ true → is_formed (item left right) ≡ true)
    → (words : List (List ℕ)) → is_formed (two_words_form fits_left fits_right item words) ≡ true
two_formed fits_left fits_right item formed [] = refl
two_formed fits_left fits_right item formed (left ∷ []) = refl
two_formed fits_left fits_right item formed (left ∷ right ∷ []) = tested (fits_left left && fits_right right) (item left right) both
  where
    both : (fits_left left && fits_right right) ≡ true → is_formed (item left right) ≡ true
    both e = let parts = and_parts (fits_left left) (fits_right right) e in formed left right parts.0 parts.1
two_formed fits_left fits_right item formed (left ∷ right ∷ more ∷ words) = refl

create_named_formed : (name : List ℕ) (words : List (List ℕ)) → is_file_name name ≡ true → is_formed (with_tags (λ tags. Do (Create name tags) no_payload) (tags_form words)) ≡ true
create_named_formed name words named = by (list_all is_property words) refl (nat_lt 16 (length words))
  where
    by : (b : Bool) → list_all is_property words ≡ b → (many : Bool) → is_formed (with_tags (λ tags. Do (Create name tags) no_payload) (cond b (cond many (Err TooManyAssigned) (Ok words)) (Err BadLine))) ≡ true
    by true e true = refl
    by true e false = and_from _ _ (and_from _ _ named e) refl
    by false e many = refl

create_formed : (words : List (List ℕ)) → is_formed (create_form words) ≡ true
create_formed [] = refl
create_formed (name ∷ words) = tested (is_file_name name) (with_tags (λ tags. Do (Create name tags) no_payload) (tags_form words)) (create_named_formed name words)

add_named_formed : (name : List ℕ) (words : List (List ℕ)) (payload : Payload) → is_payload payload ≡ true → is_file_name name ≡ true → is_formed (with_tags (λ tags. Do (Add name tags) payload) (tags_form words)) ≡ true
add_named_formed name words payload sized named = by (list_all is_property words) refl (nat_lt 16 (length words))
  where
    by : (b : Bool) → list_all is_property words ≡ b → (many : Bool) → is_formed (with_tags (λ tags. Do (Add name tags) payload) (cond b (cond many (Err TooManyAssigned) (Ok words)) (Err BadLine))) ≡ true
    by true e true = refl
    by true e false = and_from _ _ (and_from _ _ named e) sized
    by false e many = refl

add_formed : (words : List (List ℕ)) (payload : Payload) → is_payload payload ≡ true → is_formed (add_form words payload) ≡ true
add_formed [] payload sized = refl
add_formed (name ∷ []) payload sized = refl
add_formed (name ∷ size ∷ words) payload sized =
    tested (is_file_name name && is_count size) (with_tags (λ tags. Do (Add name tags) payload) (tags_form words)) (λ e. add_named_formed name words payload sized (and_parts _ _ e).0)

alone_formed : (item : Item) (words : List (List ℕ)) → is_formed item ≡ true → is_formed (alone_form item words) ≡ true
alone_formed item [] h = h
alone_formed item (word ∷ words) h = refl

alone : (b : Bool) → b ≡ true → (b && true) ≡ true
alone b e = and_from _ _ e refl

-- the lines of all commands
line_formed : (first : List ℕ) (words : List (List ℕ)) (payload : Payload) → is_payload payload ≡ true → is_formed (form_of first words payload) ≡ true
line_formed first words payload sized =
    chosen (same_word first (codes "mkdir")) _ _ (one_formed is_property (λ word. Do (Mkdir word) no_payload) (λ word e. alone _ e) words)
    (chosen (same_word first (codes "rmdir")) _ _ (one_formed is_property (λ word. Do (Rmdir word) no_payload) (λ word e. alone _ e) words)
    (chosen (same_word first (codes "axiom")) _ _ (two_formed is_property is_property (λ left right. Do (Axiom left right) no_payload) (λ left right e f. alone _ (and_from _ _ e f)) words)
    (chosen (same_word first (codes "unaxiom")) _ _ (two_formed is_property is_property (λ left right. Do (Unaxiom left right) no_payload) (λ left right e f. alone _ (and_from _ _ e f)) words)
    (chosen (same_word first (codes "create")) _ _ (create_formed words)
    (chosen (same_word first (codes "add")) _ _ (add_formed words payload sized)
    (chosen (same_word first (codes "write")) _ _ (two_formed is_file_name is_count (λ name size. Do (Write name) payload) (λ name size e f. and_from _ _ e sized) words)
    (chosen (same_word first (codes "cat")) _ _ (one_formed is_file_name (λ name. Do (Cat name) no_payload) (λ name e. alone _ e) words)
    (chosen (same_word first (codes "mv")) _ _ (two_formed is_file_name any_word (λ name word. Do (Mv name word) no_payload) (λ name word e f. alone _ e) words)
    (chosen (same_word first (codes "rename")) _ _ (two_formed is_file_name is_file_name (λ name other. Do (Rename name other) no_payload) (λ name other e f. alone _ (and_from _ _ e f)) words)
    (chosen (same_word first (codes "rm")) _ _ (one_formed is_file_name (λ name. Do (Rm name) no_payload) (λ name e. alone _ e) words)
    (chosen (same_word first (codes "cd")) _ _ (one_formed any_word (λ word. Do (Cd word) no_payload) (λ word e. refl) words)
    (chosen (same_word first (codes "pwd")) _ _ (alone_formed (Do Pwd no_payload) words refl)
    (chosen (same_word first (codes "ls")) _ _ (alone_formed (Do Ls no_payload) words refl)
    (chosen (same_word first (codes "props")) _ _ (one_formed is_file_name (λ name. Do (Props name) no_payload) (λ name e. alone _ e) words)
    (chosen (same_word first (codes "way")) _ _ (one_formed is_file_name (λ name. Do (Way name) no_payload) (λ name e. alone _ e) words)
    (chosen (same_word first (codes "stat")) _ _ (alone_formed (Do Stat no_payload) words refl) refl))))))))))))))))

-- the items of a part of the input, none or one
abbrev AreFormed : Option Item → Type 0
AreFormed item = list_all is_formed (option_to_list item) ≡ true

words_formed : (words : List (List ℕ)) (payload : Payload) → is_payload payload ≡ true → AreFormed (item_of_words words payload)
words_formed [] payload sized = refl
words_formed (first ∷ words) payload sized = and_from _ _ (line_formed first words payload sized) refl

item_formed : (text : List ℕ) (payload : Payload) → is_payload payload ≡ true → AreFormed (item_of text payload)
item_formed text payload sized = by (is_long text) (words_formed (line_words text) payload sized)
  where
    by : (b : Bool) → AreFormed (item_of_words (line_words text) payload) → AreFormed (cond b (Some (Bad LongLine)) (item_of_words (line_words text) payload))
    by true rest = refl
    by false rest = rest

ended_formed : (item : Option Item) (bytes : List ℕ) → AreFormed item → AreFormed (first_ended item bytes).item
ended_formed item [] h = h
ended_formed item (b ∷ bytes) h = by (is_feed b)
  where
    by : (t : Bool) → AreFormed (cond {A = First} t (record { item = item; rest = bytes; is_whole = true }) (record { item = Some (Bad PayloadEnd); rest = after_feed bytes; is_whole = list_any is_feed bytes })).item
    by true = h
    by false = refl

with_formed : (text : List ℕ) (size : ℕ) (bytes : List ℕ) → AreFormed (first_with text size bytes).item
with_formed text size bytes = by (nat_lt (length bytes) size) refl
  where
    taken : nat_lt (length bytes) size ≡ false → length (take size bytes) ≡ size
    taken e = omega (arith, ltb-false _ _ e, length-take size bytes)

    by : (t : Bool) → nat_lt (length bytes) size ≡ t
        → AreFormed (cond {A = First} t (record { item = Some (Bad CutPayload); rest = []; is_whole = false }) (first_ended (item_of text (payload_of size (take size bytes))) (drop size bytes))).item
    by true e = refl
    by false e = ended_formed (item_of text (payload_of size (take size bytes))) (drop size bytes) (item_formed text (payload_of size (take size bytes)) (payload_formed size (take size bytes) (taken e)))

first_formed : (bytes : List ℕ) → AreFormed (first_of bytes).item
first_formed bytes = by (payload_size (before_feed bytes))
  where
    by : (size : Option ℕ) → AreFormed (first_by size bytes).item
    by None = item_formed (before_feed bytes) no_payload refl
    by (Some size) = with_formed (before_feed bytes) size (after_feed bytes)

both_formed : (items more : List Item) → list_all is_formed items ≡ true → list_all is_formed more ≡ true → list_all is_formed (items ++ more) ≡ true
both_formed items more h k = list_all-append is_formed items more ∙ and_from _ _ h k

within_formed : (n : ℕ) (bytes : List ℕ) → list_all is_formed (items_within first_of n bytes) ≡ true
within_formed zero bytes = refl
within_formed (suc n) [] = refl
within_formed (suc n) (b ∷ bytes) =
    both_formed (option_to_list (first_of (b ∷ bytes)).item) (items_within first_of n (first_of (b ∷ bytes)).rest)
    (first_formed (b ∷ bytes)) (within_formed n (first_of (b ∷ bytes)).rest)

whole_within_formed : (n : ℕ) (bytes : List ℕ) → list_all is_formed (whole_within first_of n bytes) ≡ true
whole_within_formed zero bytes = refl
whole_within_formed (suc n) [] = refl
whole_within_formed (suc n) (b ∷ bytes) = by (first_of (b ∷ bytes)).is_whole (whole_within_formed n (first_of (b ∷ bytes)).rest)
  where
    by : (w : Bool) → list_all is_formed (whole_within first_of n (first_of (b ∷ bytes)).rest) ≡ true
        → list_all is_formed (cond w (option_to_list (first_of (b ∷ bytes)).item ++ whole_within first_of n (first_of (b ∷ bytes)).rest) []) ≡ true
    by true rest = both_formed (option_to_list (first_of (b ∷ bytes)).item) (whole_within first_of n (first_of (b ∷ bytes)).rest) (first_formed (b ∷ bytes)) rest
    by false rest = refl

pub all_formed : (bytes : List ℕ) → list_all is_formed (all_items bytes) ≡ true
unfolding all_items
all_formed bytes = within_formed (length bytes) bytes

pub whole_formed : (bytes : List ℕ) → list_all is_formed (whole_items bytes) ≡ true
unfolding whole_items
whole_formed bytes = whole_within_formed (length bytes) bytes

pub items_formed : (bytes : List ℕ) (limit : ℕ) → list_all is_formed (script bytes limit) ≡ true
items_formed bytes limit = by (nat_le (length bytes) limit)
  where
    by : (b : Bool) → list_all is_formed (cond b (all_items bytes) (whole_items (take limit bytes))) ≡ true
    by true = all_formed bytes
    by false = whole_formed (take limit bytes)
