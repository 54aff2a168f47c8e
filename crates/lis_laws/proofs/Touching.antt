-- Which words a step touches, command by command, and that they are few.
use Rattle.std.proofs.Common.{◌≡◌, ℕ, Bool, true, false, cond, List, [], ◌++◌, refl, sym, subst}
use Rattle.std.specs.List.{list_all, flat_map}
use Rattle.std.proofs.lemmas.Bool.{and_parts, not-false}
use Rattle.lis_words.specs.Words.{has_word, is_property, is_file_name}
use Rattle.lis_grammar.specs.Places.{Resolution, resolved, text_words}
use Rattle.lis_grammar.specs.Places.Resolution.{NewPlace, BeyondLimits, Unreadable}
use Rattle.lis_model.specs.declared.refusal.Refusal.{Refusal}
use Rattle.lis_model.specs.declared.refusal.Refusal.TheVariants.{BadFormula, LargeFormula, UnknownProperty}
use Rattle.lis_model.specs.declared.command.Command.{Command}
use Rattle.lis_model.specs.declared.command.Command.TheVariants.{Mkdir, Rmdir, Axiom, Unaxiom, Create, Add, Write, Cat, Mv, Rename, Rm, Cd, Pwd, Ls, Props, Way, Stat}
use Rattle.lis_grammar.specs.Formula.{Formula}
use Rattle.lis_grammar.specs.Printing.{printed}
use Rattle.lis_model.specs.State.{State, File, WellFormed, description, known}
use Rattle.lis_model.specs.Changes.{declared_under, undeclared, axiom_added, axiom_removed, new_file, file_of, file_added, file_removed, file_replaced}
use Rattle.lis_model.specs.Table.{table}
use Rattle.lis_model.specs.Listing.{increments, locals}
use Rattle.lis_model.specs.Route.{route}
use Rattle.lis_model.specs.Replies.{body_line, content_lines, listing_lines}
use Rattle.lis_model.specs.Step.{Situation, Payload, Outcome, Item, refused, changed, shown, judged, words_at, tags_at, here_checks, mkdir, mkdir_checks, rmdir, rmdir_checks, add_axiom, axiom_checks, unaxiom, unaxiom_checks, assigned_at, create, create_checks, add, add_checks, write, write_checks, retagged, mv_to, mv_checks, rename, rename_checks, rm, shown_here, entry_at, moved, cd_to, count_lines, done, step}
use Rattle.lis_model.specs.Step.Item.{Do, Bad}
use Rattle.lis_laws.specs.Steps.{has_forms, is_payload, is_formed, IsInForm}
use Rattle.lis_laws.specs.Touching.{TouchedWords, no_words, both_kinds, described, touched_by, says_ok, touched_in, touched}
use Rattle.lis_laws.proofs.Named.{file_of_name, file_of_there, here_named}
use Rattle.lis_laws.proofs.Few.{IsFew, touches_none, declares_few, undeclares_few, adds_axiom_few, removes_axiom_few, adds_file_few, removes_file_few, replaces_file_few}
use Rattle.lis_laws.proofs.Steps.{NoneStands, judged_ends, mkdir_fits, rmdir_unused, axiom_fits, create_fits, add_fits, file_here, write_replaces, mv_replaces, rename_replaces}

-- ---- outcomes
record Told (now : Situation) (command : Command) (outcome : Outcome) : Type 0 where
  few : IsFew now.state outcome.next.state (touched_in now command outcome)
  kept : says_ok outcome ≡ false → outcome.next ≡ now

refused_told : (now : Situation) (command : Command) (refusal : Refusal) → Told now command (refused now refusal)
refused_told now command refusal = record { few = touches_none now.state; kept = λ other. refl }

changed_told : (now : Situation) (command : Command) (t : State) → IsFew now.state t (touched_by now.state t command) → Told now command (changed now t)
changed_told now command t few = record { few = few; kept = λ other. absurd cc }

-- a command that touches nothing
still : (s : State) (words : TouchedWords) → words ≡ no_words → (b : Bool) → IsFew s s (cond b words no_words)
still s words idle true = subst (λ (ws : TouchedWords). IsFew s s ws) (sym idle) (touches_none s)
still s words idle false = touches_none s

shown_told : (now : Situation) (command : Command) (body : List ℕ) → touched_by now.state now.state command ≡ no_words → Told now command (shown now body)
shown_told now command body idle = record { few = still now.state (touched_by now.state now.state command) idle (says_ok (shown now body)); kept = λ other. refl }

moved_told : (now : Situation) (command : Command) (place : List Formula) → touched_by now.state now.state command ≡ no_words → Told now command (moved now place)
moved_told now command place idle = record { few = still now.state (touched_by now.state now.state command) idle true; kept = λ other. absurd cc }

judged_told : (now : Situation) (command : Command) (checks : List (Bool × Refusal)) (done : Outcome) → (NoneStands checks → Told now command done) → Told now command (judged now checks done)
judged_told now command checks done = judged_ends (Told now command) now checks done (refused_told now command)

-- ---- words and axioms
mkdir_told : (now : Situation) (word : List ℕ) → WellFormed now.state → is_property word ≡ true → Told now (Mkdir word) (mkdir now word)
mkdir_told now word formed form =
    judged_told now (Mkdir word) (mkdir_checks now word made) (changed now made)
    (λ none. changed_told now (Mkdir word) made (declares_few now.state formed word (words_at now.place) (mkdir_fits now word form none)))
  where
    made : State
    made = declared_under now.state word (words_at now.place)

rmdir_told : (now : Situation) (word : List ℕ) → WellFormed now.state → Told now (Rmdir word) (rmdir now word)
rmdir_told now word formed =
    judged_told now (Rmdir word) (rmdir_checks now.state word) (changed now (undeclared now.state word))
    (λ none. changed_told now (Rmdir word) (undeclared now.state word) (undeclares_few now.state formed word (rmdir_unused now.state word none)))

axiom_told : (now : Situation) (l r : List ℕ) → WellFormed now.state → Told now (Axiom l r) (add_axiom now (l, r))
axiom_told now l r formed =
    judged_told now (Axiom l r) (axiom_checks now.state (l, r) (axiom_added now.state (l, r))) (changed now (axiom_added now.state (l, r)))
    (λ none. changed_told now (Axiom l r) (axiom_added now.state (l, r)) (adds_axiom_few now.state formed l r (axiom_fits now.state (l, r) none)))

unaxiom_told : (now : Situation) (l r : List ℕ) → WellFormed now.state → Told now (Unaxiom l r) (unaxiom now (l, r))
unaxiom_told now l r formed =
    judged_told now (Unaxiom l r) (unaxiom_checks now.state (l, r)) (changed now (axiom_removed now.state (l, r)))
    (λ none. changed_told now (Unaxiom l r) (axiom_removed now.state (l, r)) (removes_axiom_few now.state formed l r (not-false _ none.0)))

-- ---- files
create_told : (now : Situation) (name : List ℕ) (words : List (List ℕ)) → IsInForm now → is_file_name name ≡ true → Told now (Create name words) (create now name words)
create_told now name words before named =
    judged_told now (Create name words) (create_checks now words file (file_added now.state file)) (changed now (file_added now.state file))
    (λ none. changed_told now (Create name words) (file_added now.state file) (adds_file_few now.state before.state file (create_fits now name words before named none) none.0))
  where
    file : File
    file = new_file name (assigned_at now.place words) []

add_told : (now : Situation) (name : List ℕ) (words : List (List ℕ)) (payload : Payload) → IsInForm now → is_file_name name ≡ true → is_payload payload ≡ true
    → Told now (Add name words) (add now name words payload)
add_told now name words payload before named sized =
    judged_told now (Add name words) (add_checks now words file (file_added now.state file) payload.size) (changed now (file_added now.state file)) made
  where
    file : File
    file = new_file name (assigned_at now.place words) payload.bytes

    made : NoneStands (add_checks now words file (file_added now.state file) payload.size) → Told now (Add name words) (changed now (file_added now.state file))
    made none =
        let fits = add_fits now name words payload before named sized none in
        changed_told now (Add name words) (file_added now.state file) (adds_file_few now.state before.state file fits.0 fits.1)

-- the file of a name gets other words, and keeps its name
abbrev IsRenewed : Situation → List ℕ → State → Type 0
IsRenewed now name t = IsFew now.state t (both_kinds (described now.state name ++ described t name))

renewed : (now : Situation) (name : List ℕ) (t : State) → IsFew now.state t (both_kinds (described now.state name ++ described t (file_of now.state.files name).name)) → IsRenewed now name t
renewed now name t few = subst (λ (n : List ℕ). IsFew now.state t (both_kinds (described now.state name ++ described t n))) (file_of_name now.state.files name) few

write_told : (now : Situation) (name : List ℕ) (payload : Payload) → IsInForm now → is_payload payload ≡ true → Told now (Write name) (write now name payload)
write_told now name payload before sized =
    judged_told now (Write name) (write_checks now old (file_replaced now.state old.name new) payload.size) (changed now (file_replaced now.state old.name new))
    (λ none. changed_told now (Write name) (file_replaced now.state old.name new)
    (renewed now name (file_replaced now.state old.name new) (replaces_file_few now.state before.state old new (write_replaces now old payload before sized (file_here now name) none))))
  where
    old : File
    old = file_of now.state.files name

    new : File
    new = new_file old.name old.assigned payload.bytes

mv_told : (now : Situation) (name text : List ℕ) (r : Resolution) → IsInForm now → Told now (Mv name text) (mv_to now (file_of now.state.files name) text r)
mv_told now name text Unreadable before = refused_told now (Mv name text) BadFormula
mv_told now name text BeyondLimits before = refused_told now (Mv name text) LargeFormula
mv_told now name text (NewPlace place) before =
    judged_told now (Mv name text) (here_checks now old.name ++ mv_checks now place (text_words text) new (file_replaced now.state old.name new)) (changed now (file_replaced now.state old.name new))
    (λ none. changed_told now (Mv name text) (file_replaced now.state old.name new)
    (renewed now name (file_replaced now.state old.name new) (replaces_file_few now.state before.state old new (mv_replaces now place (text_words text) old before (file_here now name) none))))
  where
    old : File
    old = file_of now.state.files name

    new : File
    new = new_file old.name (retagged old.assigned (tags_at now.place) (tags_at place)) old.bytes

rename_told : (now : Situation) (name other : List ℕ) → IsInForm now → is_file_name other ≡ true → Told now (Rename name other) (rename now name other)
rename_told now name other before named =
    judged_told now (Rename name other) (rename_checks now old.name new (file_replaced now.state old.name new)) (changed now (file_replaced now.state old.name new))
    (λ none. changed_told now (Rename name other) (file_replaced now.state old.name new)
    (replaces_file_few now.state before.state old new (rename_replaces now old other before named (file_here now name) none)))
  where
    old : File
    old = file_of now.state.files name

    new : File
    new = new_file other old.assigned old.bytes

rm_told : (now : Situation) (name : List ℕ) → WellFormed now.state → Told now (Rm name) (rm now name)
rm_told now name formed = judged_told now (Rm name) (here_checks now name) (changed now (file_removed now.state name)) gone
  where
    gone : NoneStands (here_checks now name) → Told now (Rm name) (changed now (file_removed now.state name))
    gone none =
        changed_told now (Rm name) (file_removed now.state name)
        (subst (λ (n : List ℕ). IsFew now.state (file_removed now.state n) (both_kinds (described now.state name))) (file_of_name now.state.files name)
        (removes_file_few now.state formed (file_of now.state.files name) (file_of_there now.state.files name (here_named now name (not-false _ none.0)))))

-- ---- commands that change nothing
here_told : (now : Situation) (command : Command) (name body : List ℕ) → touched_by now.state now.state command ≡ no_words → Told now command (shown_here now name body)
here_told now command name body idle = judged_told now command (here_checks now name) (shown now body) (λ none. shown_told now command body idle)

cd_told : (now : Situation) (text : List ℕ) (r : Resolution) → Told now (Cd text) (cd_to now text r)
cd_told now text Unreadable = refused_told now (Cd text) BadFormula
cd_told now text BeyondLimits = refused_told now (Cd text) LargeFormula
cd_told now text (NewPlace place) = by (list_all (has_word (known now.state)) (text_words text))
  where
    by : (b : Bool) → Told now (Cd text) (cond b (moved now place) (refused now UnknownProperty))
    by true = moved_told now (Cd text) place refl
    by false = refused_told now (Cd text) UnknownProperty

-- ---- all commands
command_told : (now : Situation) (command : Command) (payload : Payload) → IsInForm now → has_forms command ≡ true → is_payload payload ≡ true → Told now command (done now command payload)
command_told now (Mkdir word) payload before form sized = mkdir_told now word before.state form
command_told now (Rmdir word) payload before form sized = rmdir_told now word before.state
command_told now (Axiom left right) payload before form sized = axiom_told now left right before.state
command_told now (Unaxiom left right) payload before form sized = unaxiom_told now left right before.state
command_told now (Create name words) payload before form sized = create_told now name words before (and_parts _ _ form).0
command_told now (Add name words) payload before form sized = add_told now name words payload before (and_parts _ _ form).0 sized
command_told now (Write name) payload before form sized = write_told now name payload before sized
command_told now (Cat name) payload before form sized = here_told now (Cat name) name (content_lines (file_of now.state.files name).bytes) refl
command_told now (Mv name text) payload before form sized = mv_told now name text (resolved now.place text) before
command_told now (Rename name other) payload before form sized = rename_told now name other before (and_parts (is_file_name name) (is_file_name other) form).1
command_told now (Rm name) payload before form sized = rm_told now name before.state
command_told now (Cd text) payload before form sized = cd_told now text (resolved now.place text)
command_told now Pwd payload before form sized = shown_told now Pwd (body_line 119 (printed now.place)) refl
command_told now Ls payload before form sized = shown_told now Ls (listing_lines (increments (table now.state) now.place) (locals (table now.state) now.place)) refl
command_told now (Props name) payload before form sized = here_told now (Props name) name (flat_map (body_line 112) (description now.state (file_of now.state.files name))) refl
command_told now (Way name) payload before form sized = here_told now (Way name) name (flat_map (body_line 100) (route (table now.state) now.place (entry_at now.state name))) refl
command_told now Stat payload before form sized = shown_told now Stat (count_lines now.state) refl

pub record StepTold (now : Situation) (item : Item) : Type 0 where
  pub few : IsFew now.state (step now item).next.state (touched now item)
  pub kept : says_ok (step now item) ≡ false → (step now item).next ≡ now

pub step_told : (now : Situation) (item : Item) → IsInForm now → is_formed item ≡ true → StepTold now item
unfolding step
step_told now (Do command payload) before form =
    let parts = and_parts (has_forms command) (is_payload payload) form in
    let told = command_told now command payload before parts.0 parts.1 in
    record { few = told.few; kept = told.kept }
step_told now (Bad refusal) before form = record { few = touches_none now.state; kept = λ other. refl }
