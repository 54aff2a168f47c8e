-- What each step keeps: its reply has a byte, the limits stay, and so does the place, except for `cd`. And commands by other definitions.
use Rattle.std.proofs.Common.{◌≡◌, ℕ, ◌<◌, Bool, true, false, not, cond, List, [], ◌∷◌, ◌++◌, length, codes, refl, ap, ◌∙◌, arith, append-nil, length-append}
use Rattle.std.specs.List.{list_all, flat_map}
use Rattle.lis_words.specs.Words.{has_word}
use Rattle.lis_grammar.specs.Printing.{printed}
use Rattle.lis_grammar.specs.Places.{Resolution, resolved, text_words}
use Rattle.lis_grammar.specs.Places.Resolution.{NewPlace, BeyondLimits, Unreadable}
use Rattle.lis_model.specs.declared.refusal.Refusal.{Refusal}
use Rattle.lis_model.specs.declared.refusal.Refusal.TheVariants.{BadFormula, UnknownProperty, LargeFormula, NoFileHere}
use Rattle.lis_model.specs.declared.command.Command.{Command}
use Rattle.lis_model.specs.declared.command.Command.TheVariants.{Mkdir, Rmdir, Axiom, Unaxiom, Create, Add, Write, Cat, Mv, Rename, Rm, Cd, Pwd, Ls, Props, Way, Stat}
use Rattle.lis_model.specs.State.{State, File, known, description}
use Rattle.lis_model.specs.Table.{table}
use Rattle.lis_model.specs.Listing.{increments, locals}
use Rattle.lis_model.specs.Route.{route}
use Rattle.lis_model.specs.Replies.{line, body_line, ok_line, two_digits, number_of, refusal_words, listing_lines, content_lines}
use Rattle.lis_model.specs.Changes.{declared_under, undeclared, axiom_added, axiom_removed, new_file, file_added, file_of, file_removed, file_replaced}
use Rattle.lis_model.specs.Step.{SituationOf, OutcomeOf, Situation, Outcome, Payload, refused, changed, shown, judged, moved, words_at, tags_at, mkdir_checks, mkdir, rmdir_checks, rmdir, axiom_checks, add_axiom, unaxiom_checks, unaxiom, assigned_at, create_checks, add_checks, add, write_checks, write, rename_checks, rename, retagged, mv_checks, mv_to, mv, is_here, here_checks, shown_here, entry_at, count_lines, rm, cd_to, done, step, replies_by, after_by}
use Rattle.lis_model.specs.Step.Item.{Do, Bad}
use Rattle.lis_model.proofs.Runs.{replies-append, after-append}

pub record Regular {P : Type 0} (now : SituationOf P) (outcome : OutcomeOf P) : Type 0 where
  pub some : 0 < length outcome.reply
  pub limits : outcome.next.state.limits ≡ now.state.limits

-- each step keeps that
abbrev pub AreRegular : {P I : Type 0} → (SituationOf P → I → OutcomeOf P) → Type 0
AreRegular {P} {I} by = (now : SituationOf P) (item : I) → Regular now (by now item)

line_some : (text : List ℕ) → 0 < length (line text)
line_some text = omega (arith, length-append text (10 ∷ []))

refused_regular : (now : Situation) (refusal : Refusal) → Regular now (refused now refusal)
refused_regular now refusal = record {
  some = line_some (codes "no " ++ two_digits (number_of refusal) ++ 32 ∷ refusal_words refusal);
  limits = refl;
}

changed_regular : (now : Situation) (state : State) → state.limits ≡ now.state.limits → Regular now (changed now state)
changed_regular now state same = record { some = line_some (codes "ok"); limits = same }

shown_regular : (now : Situation) (body : List ℕ) → Regular now (shown now body)
shown_regular now body = record { some = omega (arith, length-append body ok_line, line_some (codes "ok")); limits = refl }

judged_regular : (now : Situation) (checks : List (Bool × Refusal)) (outcome : Outcome) → Regular now outcome → Regular now (judged now checks outcome)
judged_regular now [] outcome is = is
judged_regular now (check ∷ checks) outcome is = by check.0 (judged_regular now checks outcome is)
  where
    by : (t : Bool) → Regular now (judged now checks outcome) → Regular now (cond t (refused now check.1) (judged now checks outcome))
    by true rest = refused_regular now check.1
    by false rest = rest

cd_regular : (now : Situation) (text : List ℕ) (to : Resolution) → Regular now (cd_to now text to)
cd_regular now text Unreadable = refused_regular now BadFormula
cd_regular now text BeyondLimits = refused_regular now LargeFormula
cd_regular now text (NewPlace place) = by (list_all (has_word (known now.state)) (text_words text))
  where
    by : (t : Bool) → Regular now (cond t (moved now place) (refused now UnknownProperty))
    by true = record { some = line_some (codes "ok"); limits = refl }
    by false = refused_regular now UnknownProperty

shown_here_regular : (now : Situation) (name body : List ℕ) → Regular now (shown_here now name body)
shown_here_regular now name body = judged_regular now (here_checks now name) (shown now body) (shown_regular now body)

mv_regular : (now : Situation) (old : File) (text : List ℕ) (to : Resolution) → Regular now (mv_to now old text to)
mv_regular now old text Unreadable = refused_regular now BadFormula
mv_regular now old text BeyondLimits = refused_regular now LargeFormula
mv_regular now old text (NewPlace place) =
    let new = new_file old.name (retagged old.assigned (tags_at now.place) (tags_at place)) old.bytes in
    let made = file_replaced now.state old.name new in
    judged_regular now (here_checks now old.name ++ mv_checks now place (text_words text) new made) (changed now made) (changed_regular now made refl)

done_regular : (now : Situation) (command : Command) (payload : Payload) → Regular now (done now command payload)
done_regular now (Mkdir word) payload =
    let made = declared_under now.state word (words_at now.place) in
    judged_regular now (mkdir_checks now word made) (changed now made) (changed_regular now made refl)
done_regular now (Rmdir word) payload =
    judged_regular now (rmdir_checks now.state word) (changed now (undeclared now.state word)) (changed_regular now (undeclared now.state word) refl)
done_regular now (Axiom left right) payload =
    let made = axiom_added now.state (left, right) in
    judged_regular now (axiom_checks now.state (left, right) made) (changed now made) (changed_regular now made refl)
done_regular now (Unaxiom left right) payload =
    let made = axiom_removed now.state (left, right) in
    judged_regular now (unaxiom_checks now.state (left, right)) (changed now made) (changed_regular now made refl)
done_regular now (Create name words) payload =
    let file = new_file name (assigned_at now.place words) [] in
    judged_regular now (create_checks now words file (file_added now.state file)) (changed now (file_added now.state file)) (changed_regular now (file_added now.state file) refl)
done_regular now (Add name words) payload =
    let file = new_file name (assigned_at now.place words) payload.bytes in
    judged_regular now (add_checks now words file (file_added now.state file) payload.size) (changed now (file_added now.state file)) (changed_regular now (file_added now.state file) refl)
done_regular now (Write name) payload =
    let old = file_of now.state.files name in
    let made = file_replaced now.state old.name (new_file old.name old.assigned payload.bytes) in
    judged_regular now (write_checks now old made payload.size) (changed now made) (changed_regular now made refl)
done_regular now (Cat name) payload = shown_here_regular now name (content_lines (file_of now.state.files name).bytes)
done_regular now (Mv name text) payload = mv_regular now (file_of now.state.files name) text (resolved now.place text)
done_regular now (Rename name other) payload =
    let old = file_of now.state.files name in
    let new = new_file other old.assigned old.bytes in
    let made = file_replaced now.state old.name new in
    judged_regular now (rename_checks now old.name new made) (changed now made) (changed_regular now made refl)
done_regular now (Rm name) payload =
    judged_regular now ((not (is_here now name), NoFileHere) ∷ []) (changed now (file_removed now.state name)) (changed_regular now (file_removed now.state name) refl)
done_regular now (Cd text) payload = cd_regular now text (resolved now.place text)
done_regular now Pwd payload = shown_regular now (body_line 119 (printed now.place))
done_regular now Ls payload = shown_regular now (listing_lines (increments (table now.state) now.place) (locals (table now.state) now.place))
done_regular now (Props name) payload = shown_here_regular now name (flat_map (body_line 112) (description now.state (file_of now.state.files name)))
done_regular now (Way name) payload = shown_here_regular now name (flat_map (body_line 100) (route (table now.state) now.place (entry_at now.state name)))
done_regular now Stat payload = shown_regular now (count_lines now.state)

pub step_regular : AreRegular step
unfolding step
step_regular now (Do command payload) = done_regular now command payload
step_regular now (Bad refusal) = refused_regular now refusal

module _ {P I : Type 0} (by : SituationOf P → I → OutcomeOf P) where
  pub limits_after : AreRegular by → (start : SituationOf P) (items : List I) → (after_by by start items).state.limits ≡ start.state.limits
  limits_after regular start [] = refl
  limits_after regular start (item ∷ items) = limits_after regular (by start item).next items ∙ (regular start item).limits

  -- one more item
  pub last_reply : (start : SituationOf P) (first : List I) (item : I)
      → replies_by by start (first ++ item ∷ []) ≡ replies_by by start first ++ (by (after_by by start first) item).reply
  last_reply start first item =
      replies-append by start first (item ∷ []) ∙ ap (λ bytes. replies_by by start first ++ bytes) (append-nil (by (after_by by start first) item).reply)

  pub last_situation : (start : SituationOf P) (first : List I) (item : I)
      → after_by by start (first ++ item ∷ []) ≡ (by (after_by by start first) item).next
  last_situation start first item = after-append by start first (item ∷ [])

-- ---- what commands keep
pub judged_stays : (now : Situation) (checks : List (Bool × Refusal)) (outcome : Outcome) → outcome.next.place ≡ now.place → (judged now checks outcome).next.place ≡ now.place
judged_stays now [] outcome same = same
judged_stays now (check ∷ checks) outcome same = by check.0 (judged_stays now checks outcome same)
  where
    by : (t : Bool) → (judged now checks outcome).next.place ≡ now.place → (cond t (refused now check.1) (judged now checks outcome)).next.place ≡ now.place
    by true rest = refl
    by false rest = rest

-- a command that changes the state keeps the place
pub mkdir_stays : (now : Situation) (word : List ℕ) → (mkdir now word).next.place ≡ now.place
mkdir_stays now word =
    let made = declared_under now.state word (words_at now.place) in
    judged_stays now (mkdir_checks now word made) (changed now made) refl

pub add_stays : (now : Situation) (name : List ℕ) (words : List (List ℕ)) (payload : Payload) → (add now name words payload).next.place ≡ now.place
add_stays now name words payload =
    let file = new_file name (assigned_at now.place words) payload.bytes in
    judged_stays now (add_checks now words file (file_added now.state file) payload.size) (changed now (file_added now.state file)) refl

pub rmdir_stays : (now : Situation) (word : List ℕ) → (rmdir now word).next.place ≡ now.place
rmdir_stays now word = judged_stays now (rmdir_checks now.state word) (changed now (undeclared now.state word)) refl

pub axiom_stays : (now : Situation) (pair : List ℕ × List ℕ) → (add_axiom now pair).next.place ≡ now.place
axiom_stays now pair = let made = axiom_added now.state pair in judged_stays now (axiom_checks now.state pair made) (changed now made) refl

pub unaxiom_stays : (now : Situation) (pair : List ℕ × List ℕ) → (unaxiom now pair).next.place ≡ now.place
unaxiom_stays now pair = judged_stays now (unaxiom_checks now.state pair) (changed now (axiom_removed now.state pair)) refl

pub write_stays : (now : Situation) (name : List ℕ) (payload : Payload) → (write now name payload).next.place ≡ now.place
write_stays now name payload =
    let old = file_of now.state.files name in
    let made = file_replaced now.state old.name (new_file old.name old.assigned payload.bytes) in
    judged_stays now (write_checks now old made payload.size) (changed now made) refl

pub rename_stays : (now : Situation) (name other : List ℕ) → (rename now name other).next.place ≡ now.place
rename_stays now name other =
    let old = file_of now.state.files name in
    let new = new_file other old.assigned old.bytes in
    let made = file_replaced now.state old.name new in
    judged_stays now (rename_checks now old.name new made) (changed now made) refl

mv_to_stays : (now : Situation) (old : File) (text : List ℕ) (to : Resolution) → (mv_to now old text to).next.place ≡ now.place
mv_to_stays now old text Unreadable = refl
mv_to_stays now old text BeyondLimits = refl
mv_to_stays now old text (NewPlace place) =
    let new = new_file old.name (retagged old.assigned (tags_at now.place) (tags_at place)) old.bytes in
    let made = file_replaced now.state old.name new in
    judged_stays now (here_checks now old.name ++ mv_checks now place (text_words text) new made) (changed now made) refl

pub mv_stays : (now : Situation) (name text : List ℕ) → (mv now name text).next.place ≡ now.place
mv_stays now name text = mv_to_stays now (file_of now.state.files name) text (resolved now.place text)

pub rm_stays : (now : Situation) (name : List ℕ) → (rm now name).next.place ≡ now.place
rm_stays now name = judged_stays now ((not (is_here now name), NoFileHere) ∷ []) (changed now (file_removed now.state name)) refl

-- ---- commands by other definitions
pub shown_if_here : (now : Situation) (name body : List ℕ) → is_here now name ≡ true → shown_here now name body ≡ shown now body
shown_if_here now name body here = ap (λ t. cond (not t) (refused now NoFileHere) (shown now body)) here

pub refused_nowhere : (now : Situation) (name body : List ℕ) → is_here now name ≡ false → shown_here now name body ≡ refused now NoFileHere
refused_nowhere now name body nowhere = ap (λ t. cond (not t) (refused now NoFileHere) (shown now body)) nowhere
