-- What a command does: the new state and place, and the reply. Each command has a row of conditions under which it is refused, in their
-- order. The state that it would give is `made` in the conditions on that state.
use Rattle.std.specs.Prelude.{ℕ, ◌+◌, ◌-◌, ◌==◌, nat_lt, nat_le, Bool, false, not, ◌&&◌, ◌||◌, if◌then◌else◌, is_some, unwrap_or, option_map, Option, Some, None, List, [], ◌∷◌, ◌++◌, length, map, filter, codes}
use Rattle.std.specs.List.{list_any, list_all, flat_map}
use Rattle.lis_limits.specs.declared.TheConstants.{MAX_ASSIGNED, MAX_DESCRIPTION}
use Rattle.lis_words.specs.Words.{same_word, has_word, is_plain_word, is_head, is_valued, is_test, is_built_in}
use Rattle.lis_grammar.specs.Formula.{Formula}
use Rattle.lis_grammar.specs.Printing.{printed}
use Rattle.lis_grammar.specs.Places.{Resolution, resolved, text_words}
use Rattle.lis_grammar.specs.Places.Resolution.{NewPlace, BeyondLimits, Unreadable}
use Rattle.lis_model.specs.declared.limits.Limits.{Limits}
use Rattle.lis_model.specs.declared.refusal.Refusal.{Refusal}
use Rattle.lis_model.specs.declared.refusal.Refusal.TheVariants.{BadFormula, UnknownProperty, LargeFormula, NotAPlace, NameTaken, NoFileHere, AlreadyDeclared, NotDeclared, InUse, NotAssignable, Cycle, AxiomThere, NoAxiom, TooManyAssigned, LargeDescription, LargeFile, NoFileRoom, NoPropertyRoom, NoAxiomRoom, NoSpace, BuiltIn}
use Rattle.lis_model.specs.declared.command.Command.{Command}
use Rattle.lis_model.specs.declared.command.Command.TheVariants.{Mkdir, Rmdir, Axiom, Unaxiom, Create, Add, Write, Cat, Mv, Rename, Rm, Cd, Pwd, Ls, Props, Way, Stat}
use Rattle.lis_model.specs.Sets.{with_words}
use Rattle.lis_model.specs.State.{State, File, empty_state, heads, up, description, known, is_assignable, is_nameable, file_limit, blocks_taken, used_blocks}
use Rattle.lis_model.specs.Changes.{has_axiom, declared_under, undeclared, axiom_added, axiom_removed, new_file, has_name, file_of, file_added, file_removed, file_replaced}
use Rattle.lis_model.specs.Places.{place_words, is_tag}
use Rattle.lis_model.specs.Table.{Entry, table, entry_of}
use Rattle.lis_model.specs.Listing.{extension, increments, locals}
use Rattle.lis_model.specs.Route.{route}
use Rattle.lis_model.specs.Replies.{body_line, number_line, ok_line, refusal_line, listing_lines, content_lines, word_letter, property_letter, place_letter}

-- a state, and the place at which commands run, or the places if there are several
pub record SituationOf (P : Type 0) : Type 0 where
  pub state : State
  pub place : P

pub record OutcomeOf (P : Type 0) : Type 0 where
  pub next : SituationOf P
  pub reply : List ℕ

-- one place
abbrev pub Situation : Type 0
Situation = SituationOf (List Formula)

abbrev pub Outcome : Type 0
Outcome = OutcomeOf (List Formula)

-- the bytes that follow a command's line: how many, and the bytes themselves if there are at most `payload_limit`
pub record Payload : Type 0 where
  pub size : ℕ
  pub bytes : List ℕ

abbrev pub no_payload : Payload
no_payload = record { size = 0; bytes = [] }

-- what one segment of the input requests: a command with its payload, or a refusal
pub data Item : Type 0 where
  Do : Command → Payload → Item
  Bad : Refusal → Item

abbrev pub start_of : Limits → Situation
start_of limits = record { state = empty_state limits; place = [] }

-- a refused command changes nothing
abbrev pub refused : Situation → Refusal → Outcome
refused now refusal = record { next = now; reply = refusal_line refusal }

-- the state changes, and the place stays
abbrev pub changed : Situation → State → Outcome
changed now state = record { next = record { state = state; place = now.place }; reply = ok_line }

-- nothing changes, and something is shown before `ok`
abbrev pub shown : Situation → List ℕ → Outcome
shown now body = record { next = now; reply = body ++ ok_line }

-- the first refusal of a row whose condition holds, and otherwise what the command does
abbrev pub judged : Situation → List (Bool × Refusal) → Outcome → Outcome
judged now [] done = done
judged now (check ∷ checks) done = if check.0 then refused now check.1 else judged now checks done

-- the first refusal of a row whose condition holds
abbrev pub first_refusal : List (Bool × Refusal) → Option Refusal
first_refusal [] = None
first_refusal (check ∷ checks) = if check.0 then Some check.1 else first_refusal checks

-- ---- conditions of rows
-- there would be more than there is room for
abbrev pub exceeds_axioms : State → Bool
exceeds_axioms s = nat_lt s.limits.props (length s.axioms)

abbrev pub exceeds_known : State → Bool
exceeds_known s = nat_lt s.limits.props (length (known s))

abbrev pub exceeds_words : State → Bool
exceeds_words s = list_any (λ (file : File). nat_lt MAX_DESCRIPTION (length (description s file))) s.files

-- the words of a place, and its tags; none if it is no place of words
abbrev pub words_at : List Formula → List (List ℕ)
words_at place = unwrap_or (place_words place) []

abbrev pub tags_at : List Formula → List (List ℕ)
tags_at place = unwrap_or (option_map (filter is_tag) (place_words place)) []

-- the blocks that no file takes
abbrev pub free_blocks : State → ℕ
free_blocks s = s.limits.blocks - used_blocks s

abbrev pub exceeds_file : State → ℕ → Bool
exceeds_file s size = nat_lt (file_limit s.limits) size

-- a file of that name is in the extension of the place
abbrev pub is_here : Situation → List ℕ → Bool
is_here now name = list_any (λ (file : Entry). same_word file.name name) (extension (table now.state) now.place)

abbrev pub here_checks : Situation → List ℕ → List (Bool × Refusal)
here_checks now name = (not (is_here now name), NoFileHere) ∷ []

abbrev pub room_checks : State → List (Bool × Refusal)
room_checks made = (exceeds_words made, LargeDescription) ∷ (exceeds_known made, NoPropertyRoom) ∷ []

-- ---- words
abbrev pub is_plain_place : Option (List (List ℕ)) → Bool
is_plain_place None = false
is_plain_place (Some words) = list_all is_plain_word words

abbrev pub mkdir_checks : Situation → List ℕ → State → List (Bool × Refusal)
mkdir_checks now word made =
    (is_built_in word, BuiltIn)
    ∷ (is_valued word, NotAssignable)
    ∷ (has_word now.state.declared word, AlreadyDeclared)
    ∷ (not (is_plain_place (place_words now.place)), NotAPlace)
    ∷ (not (list_all (has_word now.state.declared) (words_at now.place)), UnknownProperty)
    ∷ (exceeds_axioms made, NoAxiomRoom)
    ∷ (exceeds_known made, NoPropertyRoom)
    ∷ (exceeds_words made, LargeDescription)
    ∷ []

-- declares a word, with an axiom to each word of the place
abbrev pub mkdir : Situation → List ℕ → Outcome
mkdir now word =
    let made = declared_under now.state word (words_at now.place) in judged now (mkdir_checks now word made) (changed now made)

-- a side of an axiom
abbrev pub is_side : State → List ℕ → Bool
is_side s word = has_word (map (λ pair. pair.0) s.axioms ++ map (λ pair. pair.1) s.axioms) word

-- the head of a left side, or a word of some file
abbrev pub is_had : State → List ℕ → Bool
is_had s word = has_word (flat_map (λ pair. heads pair.0) s.axioms ++ flat_map (description s) s.files) word

-- a file has a test by its size alone, and loses it with the declaration
abbrev pub is_in_use : State → List ℕ → Bool
is_in_use s word = is_side s word || (not (is_test word) && is_had s word)

abbrev pub rmdir_checks : State → List ℕ → List (Bool × Refusal)
rmdir_checks s word =
    (is_built_in word, BuiltIn)
    ∷ (is_valued word, NotAssignable)
    ∷ (not (has_word s.declared word), NotDeclared)
    ∷ (is_in_use s word, InUse)
    ∷ []

abbrev pub rmdir : Situation → List ℕ → Outcome
rmdir now word = judged now (rmdir_checks now.state word) (changed now (undeclared now.state word))

-- ---- axioms
abbrev pub axiom_checks : State → List ℕ × List ℕ → State → List (Bool × Refusal)
axiom_checks s pair made =
    (not (is_plain_word pair.1), NotAssignable)
    ∷ (not (has_word s.declared pair.1 && is_nameable s.declared pair.0), UnknownProperty)
    ∷ (has_axiom s.axioms pair, AxiomThere)
    ∷ (has_word (up s.declared s.axioms pair.1) pair.0, Cycle)
    ∷ (exceeds_axioms made, NoAxiomRoom)
    ∷ (exceeds_known made, NoPropertyRoom)
    ∷ (exceeds_words made, LargeDescription)
    ∷ []

-- the left word entails the right one from now on
abbrev pub add_axiom : Situation → List ℕ × List ℕ → Outcome
add_axiom now pair = let made = axiom_added now.state pair in judged now (axiom_checks now.state pair made) (changed now made)

abbrev pub unaxiom_checks : State → List ℕ × List ℕ → List (Bool × Refusal)
unaxiom_checks s pair = (not (has_axiom s.axioms pair), NoAxiom) ∷ []

abbrev pub unaxiom : Situation → List ℕ × List ℕ → Outcome
unaxiom now pair = judged now (unaxiom_checks now.state pair) (changed now (axiom_removed now.state pair))

-- ---- files
abbrev pub is_head_or_test : List ℕ → Bool
is_head_or_test word = is_head word || is_test word

-- the words of a new file: the tags of the place, and those that are named
abbrev pub assigned_at : List Formula → List (List ℕ) → List (List ℕ)
assigned_at place words = with_words (tags_at place) words

-- what a new file is refused for, given the words that are named
abbrev pub create_checks : Situation → List (List ℕ) → File → State → List (Bool × Refusal)
create_checks now words file made =
    (has_name now.state.files file.name, NameTaken)
    ∷ (not (is_some (place_words now.place)), NotAPlace)
    ∷ (list_any is_built_in words, BuiltIn)
    ∷ (list_any is_head_or_test words, NotAssignable)
    ∷ (not (list_all (is_assignable now.state.declared) file.assigned), UnknownProperty)
    ∷ (nat_lt MAX_ASSIGNED (length file.assigned), TooManyAssigned)
    ∷ (nat_le now.state.limits.files (length now.state.files), NoFileRoom)
    ∷ (exceeds_words made, LargeDescription)
    ∷ (exceeds_known made, NoPropertyRoom)
    ∷ []

abbrev pub create_with : Situation → List (List ℕ) → File → Outcome
create_with now words file =
    let made = file_added now.state file in judged now (create_checks now words file made) (changed now made)

-- makes an empty file
abbrev pub create : Situation → List ℕ → List (List ℕ) → Outcome
create now name words = create_with now words (new_file name (assigned_at now.place words) [])

abbrev pub add_checks : Situation → List (List ℕ) → File → State → ℕ → List (Bool × Refusal)
add_checks now words file made size =
    (exceeds_file now.state size, LargeFile)
    ∷ create_checks now words file made
    ++ (nat_lt (free_blocks now.state) (blocks_taken now.state.limits.version size), NoSpace) ∷ []

abbrev pub add_with : Situation → List (List ℕ) → File → ℕ → Outcome
add_with now words file size =
    let made = file_added now.state file in judged now (add_checks now words file made size) (changed now made)

-- makes a file of the payload's bytes
abbrev pub add : Situation → List ℕ → List (List ℕ) → Payload → Outcome
add now name words payload = add_with now words (new_file name (assigned_at now.place words) payload.bytes) payload.size

-- Version 1 may write a file's bytes over its old blocks; later versions keep these until the command is done.
abbrev pub blocks_for : State → File → ℕ
blocks_for s old = if s.limits.version == 1 then free_blocks s + blocks_taken s.limits.version (length old.bytes) else free_blocks s

abbrev pub write_checks : Situation → File → State → ℕ → List (Bool × Refusal)
write_checks now old made size =
    (exceeds_file now.state size, LargeFile)
    ∷ here_checks now old.name ++ room_checks made
    ++ (nat_lt (blocks_for now.state old) (blocks_taken now.state.limits.version size), NoSpace) ∷ []

abbrev pub write_with : Situation → File → File → ℕ → Outcome
write_with now old new size =
    let made = file_replaced now.state old.name new in judged now (write_checks now old made size) (changed now made)

-- the file's bytes become the payload's
abbrev pub write : Situation → List ℕ → Payload → Outcome
write now name payload =
    let old = file_of now.state.files name in write_with now old (new_file old.name old.assigned payload.bytes) payload.size

-- without the words of one place, and with those of another
abbrev pub retagged : List (List ℕ) → List (List ℕ) → List (List ℕ) → List (List ℕ)
retagged assigned here there = with_words (filter (λ word. not (has_word here word)) assigned) there

abbrev pub mv_checks : Situation → List Formula → List (List ℕ) → File → State → List (Bool × Refusal)
mv_checks now place words new made =
    (not (is_some (place_words now.place) && is_some (place_words place)), NotAPlace)
    ∷ (list_any is_built_in words, BuiltIn)
    ∷ (list_any is_head words, NotAssignable)
    ∷ (not (list_all (is_assignable now.state.declared) (tags_at place)), UnknownProperty)
    ∷ (nat_lt MAX_ASSIGNED (length new.assigned), TooManyAssigned)
    ∷ room_checks made

abbrev pub mv_with : Situation → List Formula → List (List ℕ) → File → File → Outcome
mv_with now place words old new =
    let made = file_replaced now.state old.name new in
    judged now (here_checks now old.name ++ mv_checks now place words new made) (changed now made)

abbrev pub mv_to : Situation → File → List ℕ → Resolution → Outcome
mv_to now old text Unreadable = refused now BadFormula
mv_to now old text BeyondLimits = refused now LargeFormula
mv_to now old text (NewPlace place) =
    mv_with now place (text_words text) old (new_file old.name (retagged old.assigned (tags_at now.place) (tags_at place)) old.bytes)

-- the file loses the tags of the place, and gains those of the place that a text resolves to
abbrev pub mv : Situation → List ℕ → List ℕ → Outcome
mv now name text = mv_to now (file_of now.state.files name) text (resolved now.place text)

abbrev pub rename_checks : Situation → List ℕ → File → State → List (Bool × Refusal)
rename_checks now name new made = here_checks now name ++ (has_name now.state.files new.name, NameTaken) ∷ room_checks made

abbrev pub rename_with : Situation → File → File → Outcome
rename_with now old new =
    let made = file_replaced now.state old.name new in judged now (rename_checks now old.name new made) (changed now made)

abbrev pub rename : Situation → List ℕ → List ℕ → Outcome
rename now name other =
    let old = file_of now.state.files name in rename_with now old (new_file other old.assigned old.bytes)

abbrev pub rm : Situation → List ℕ → Outcome
rm now name = judged now (here_checks now name) (changed now (file_removed now.state name))

-- shows something of a file of that name
abbrev pub shown_here : Situation → List ℕ → List ℕ → Outcome
shown_here now name body = judged now (here_checks now name) (shown now body)

abbrev pub cat : Situation → List ℕ → Outcome
cat now name = shown_here now name (content_lines (file_of now.state.files name).bytes)

abbrev pub props : Situation → List ℕ → Outcome
props now name = shown_here now name (flat_map (body_line property_letter) (description now.state (file_of now.state.files name)))

abbrev pub entry_at : State → List ℕ → Entry
entry_at s name = entry_of s.declared s.axioms (file_of s.files name)

abbrev pub way : Situation → List ℕ → Outcome
way now name = shown_here now name (flat_map (body_line word_letter) (route (table now.state) now.place (entry_at now.state name)))

-- ---- places
-- the place becomes another, and the state stays
abbrev pub moved : Situation → List Formula → Outcome
moved now place = record { next = record { state = now.state; place = place }; reply = ok_line }

-- to the place that a text resolves to, if each word of the text is known
abbrev pub cd_to : Situation → List ℕ → Resolution → Outcome
cd_to now text Unreadable = refused now BadFormula
cd_to now text BeyondLimits = refused now LargeFormula
cd_to now text (NewPlace place) =
    if list_all (has_word (known now.state)) (text_words text) then moved now place else refused now UnknownProperty

abbrev pub cd : Situation → List ℕ → Outcome
cd now text = cd_to now text (resolved now.place text)

abbrev pub pwd : Situation → Outcome
pwd now = shown now (body_line place_letter (printed now.place))

abbrev pub ls : Situation → Outcome
ls now = shown now (listing_lines (increments (table now.state) now.place) (locals (table now.state) now.place))

-- how many files, known words, axioms and free blocks there are
abbrev pub count_lines : State → List ℕ
count_lines s =
    number_line (codes "s files") (length s.files)
    ++ number_line (codes "s known") (length (known s))
    ++ number_line (codes "s axioms") (length s.axioms)
    ++ number_line (codes "s free") (free_blocks s)

abbrev pub stat : Situation → Outcome
stat now = shown now (count_lines now.state)

-- what each command does
abbrev pub done : Situation → Command → Payload → Outcome
done now (Mkdir word) payload = mkdir now word
done now (Rmdir word) payload = rmdir now word
done now (Axiom left right) payload = add_axiom now (left, right)
done now (Unaxiom left right) payload = unaxiom now (left, right)
done now (Create name words) payload = create now name words
done now (Add name words) payload = add now name words payload
done now (Write name) payload = write now name payload
done now (Cat name) payload = cat now name
done now (Mv name text) payload = mv now name text
done now (Rename name other) payload = rename now name other
done now (Rm name) payload = rm now name
done now (Cd text) payload = cd now text
done now Pwd payload = pwd now
done now Ls payload = ls now
done now (Props name) payload = props now name
done now (Way name) payload = way now name
done now Stat payload = stat now

unfoldable pub step : Situation → Item → Outcome
step now (Do command payload) = done now command payload
step now (Bad refusal) = refused now refusal

-- all replies to these items, in sequence; `by` says what each of them does
abbrev pub replies_by : {P I : Type 0} → (SituationOf P → I → OutcomeOf P) → SituationOf P → List I → List ℕ
replies_by by now [] = []
replies_by by now (item ∷ items) = (by now item).reply ++ replies_by by (by now item).next items

-- where these items lead
abbrev pub after_by : {P I : Type 0} → (SituationOf P → I → OutcomeOf P) → SituationOf P → List I → SituationOf P
after_by by now [] = now
after_by by now (item ∷ items) = after_by by (by now item).next items

-- the same of a session
abbrev pub replies : Situation → List Item → List ℕ
replies now items = replies_by step now items

abbrev pub situation_after : Situation → List Item → Situation
situation_after now items = after_by step now items
