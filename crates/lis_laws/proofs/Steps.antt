-- A step keeps states well formed and places within their limits.
use Rattle.std.proofs.Common.{◌≡◌, ◌⊎◌, ◌==◌, ◌||◌, ◌/◌, ℕ, ◌+◌, ◌≤◌, nat_lt, nat_le, Bool, true, false, not, ◌&&◌, cond, Option, Some, None, List, [], ◌∷◌, ◌++◌, length, filter, refl, subst, inl, inr, arith}
use Rattle.std.specs.Prelude.{option_map, unwrap_or}
use Rattle.std.specs.List.{list_all, flat_map}
use Rattle.std.proofs.lemmas.Bool.{and_parts, and_from, not-false, not_from_false, false_from_ne_true, both_ways, ltb-false, ltb-true, leb-false, leb-true, le-leb, eqb-true}
use Rattle.lis_graph.specs.Graph.{is_rising}
use Rattle.lis_graph.proofs.Members.{Among, among_filter, any_from_among}
use Rattle.lis_words.specs.Words.{word_cmp, has_word, is_plain_word, is_property, is_file_name}
use Rattle.lis_grammar.specs.Formula.{Formula}
use Rattle.lis_grammar.specs.Places.{Resolution, resolved, text_words}
use Rattle.lis_grammar.proofs.Placed.{resolved_is_place, root_is_place}
use Rattle.lis_grammar.specs.Places.Resolution.{NewPlace, BeyondLimits, Unreadable}
use Rattle.lis_model.specs.declared.limits.Limits.{Limits}
use Rattle.lis_model.specs.declared.refusal.Refusal.{Refusal}
use Rattle.lis_model.specs.declared.refusal.Refusal.TheVariants.{UnknownProperty, NoSpace}
use Rattle.lis_model.specs.declared.command.Command.{Command}
use Rattle.lis_model.specs.declared.command.Command.TheVariants.{Mkdir, Rmdir, Axiom, Unaxiom, Create, Add, Write, Cat, Mv, Rename, Rm, Cd, Pwd, Ls, Props, Way, Stat}
use Rattle.lis_model.specs.Ranges.{are_in_range}
use Rattle.lis_model.specs.Sets.{with_words, set_of}
use Rattle.lis_model.specs.State.{State, File, WellFormed, empty_state, description, known, is_assignable, is_nameable, file_limit, blocks_needed, blocks_taken, used_blocks}
use Rattle.lis_model.specs.Changes.{declared_under, undeclared, axiom_added, axiom_removed, new_file, has_name, file_of, file_added, file_removed, file_replaced}
use Rattle.lis_model.specs.Places.{all_conjuncts, place_words, is_tag}
use Rattle.lis_model.specs.Table.{table}
use Rattle.lis_model.specs.Route.{route}
use Rattle.lis_model.specs.Replies.{body_line, content_lines}
use Rattle.lis_model.specs.Script.{payload_limit}
use Rattle.lis_model.specs.Step.{Situation, Payload, situation_after, start_of, Outcome, Item, refused, changed, shown, judged, exceeds_axioms, exceeds_known, exceeds_words, words_at, tags_at, free_blocks, is_here, here_checks, is_plain_place, mkdir, mkdir_checks, is_in_use, rmdir, rmdir_checks, add_axiom, axiom_checks, unaxiom, unaxiom_checks, assigned_at, create, create_checks, add, add_checks, blocks_for, write, write_checks, retagged, mv_to, mv_checks, rename, rename_checks, rm, shown_here, entry_at, moved, cd_to, done, step}
use Rattle.lis_model.specs.Step.Item.{Do, Bad}
use Rattle.lis_laws.specs.Changes.{WordFits, AxiomFits, FileFits, FileReplaces}
use Rattle.lis_laws.specs.Steps.{has_forms, is_payload, is_formed, IsInForm}
use Rattle.lis_laws.proofs.Members.{word_order, among_with_words, sorted_set_of}
use Rattle.lis_laws.proofs.Chains.{acyclic_decides}
use Rattle.lis_laws.proofs.Counts.{all_among, all_from, rising_from_sorted, rising_filter, rising_insert_key}
use Rattle.lis_laws.proofs.Apart.{declarable_from}
use Rattle.lis_laws.proofs.Named.{file_there, file_of_name, file_of_there, here_named, still_free, gone_free}
use Rattle.lis_laws.proofs.Forms.{declares, undeclares, adds_axiom, removes_axiom, adds_file, removes_file, replaces_file}

-- ---- rows of refusals
-- no refusal of the row applies
abbrev pub NoneStands : List (Bool × Refusal) → Type 0
NoneStands [] = Unit {0}
NoneStands (check ∷ checks) = (check.0 ≡ false) × NoneStands checks

-- how a row ends: refused, or done if no refusal applies
pub judged_ends : (P : Outcome → Type 0) (now : Situation) (checks : List (Bool × Refusal)) (done : Outcome) → ((refusal : Refusal) → P (refused now refusal)) → (NoneStands checks → P done)
    → P (judged now checks done)
judged_ends P now [] done refuse go = go tt
judged_ends P now (check ∷ checks) done refuse go = by check.0 refl (judged_ends P now checks done refuse)
  where
    by : (b : Bool) → check.0 ≡ b → ((NoneStands checks → P done) → P (judged now checks done)) → P (cond b (refused now check.1) (judged now checks done))
    by true e rest = refuse check.1
    by false e rest = rest (λ none. go (e, none))

judged_keeps : (P : Situation → Type 0) (now : Situation) (checks : List (Bool × Refusal)) (done : Outcome) → P now → (NoneStands checks → P done.next) → P (judged now checks done).next
judged_keeps P now checks done before after = judged_ends (λ (outcome : Outcome). P outcome.next) now checks done (λ refusal. before) after

-- none of a row, so none of its parts
none_in_both : (checks more : List (Bool × Refusal)) → NoneStands (checks ++ more) → NoneStands checks × NoneStands more
none_in_both [] more none = (tt, none)
none_in_both (check ∷ checks) more none = let parts = none_in_both checks more none.1 in ((none.0, parts.0), parts.1)

-- ---- room
room_for_axioms : (s : State) → exceeds_axioms s ≡ false → length s.axioms ≤ s.limits.props
room_for_axioms s h = ltb-false _ _ h

room_for : (s : State) → exceeds_known s ≡ false → length (known s) ≤ s.limits.props
room_for s h = ltb-false _ _ h

few_described : (s : State) → exceeds_words s ≡ false → (file : File) → Among s.files file → length (description s file) ≤ 128
few_described s h file m = ltb-false 128 (length (description s file)) (false_from_ne_true _ (λ many. both_ways (exceeds_words s) h (any_from_among (λ (f : File). nat_lt 128 (length (description s f))) s.files file m many)))

room_for_words : (s : State) → exceeds_words s ≡ false → list_all (λ (file : File). nat_le (length (description s file)) 128) s.files ≡ true
room_for_words s h = all_from (λ (file : File). nat_le (length (description s file)) 128) s.files (λ file m. le-leb _ _ (few_described s h file m))

blocks_le : (a b : ℕ) → a ≤ b → blocks_needed a ≤ blocks_needed b
blocks_le a b le = omega arith

pub taken_le : (version a b : ℕ) → a ≤ b → blocks_taken version a ≤ blocks_taken version b
taken_le version a b le = by (version == 1) (nat_le m 16) (nat_le n 16) refl refl
  where
    m : ℕ
    m = blocks_needed a

    n : ℕ
    n = blocks_needed b

    more : m ≤ n
    more = blocks_le a b le

    by : (one x y : Bool) → nat_le m 16 ≡ x → nat_le n 16 ≡ y → m + cond (one || x) 0 ((m + 1023) / 1024) ≤ n + cond (one || y) 0 ((n + 1023) / 1024)
    by true x y e f = omega (arith, more)
    by false true true e f = omega (arith, more)
    by false true false e f = omega (arith, more)
    by false false true e f = absurd (omega (arith, more, leb-true n 16 f, leb-false m 16 e))
    by false false false e f = omega (arith, more)

none_taken : (version : ℕ) → blocks_taken version 0 ≡ 0
none_taken version = by (version == 1)
  where
    by : (one : Bool) → 0 + cond (one || true) 0 0 ≡ 0
    by true = refl
    by false = refl

-- ---- words of places
tags_rising : (place : List Formula) → is_rising word_cmp (tags_at place) ≡ true
tags_rising place = by (all_conjuncts place)
  where
    by : (words : Option (List (List ℕ))) → is_rising word_cmp (unwrap_or (option_map (filter is_tag) (option_map set_of words)) []) ≡ true
    by None = refl
    by (Some words) = rising_filter word_cmp is_tag (set_of words) (rising_from_sorted word_cmp word_order (set_of words) (sorted_set_of words))

words_rising : (words more : List (List ℕ)) → is_rising word_cmp words ≡ true → is_rising word_cmp (with_words words more) ≡ true
words_rising words [] h = h
words_rising words (w ∷ more) h = words_rising (with_words words (w ∷ [])) more (rising_insert_key word_cmp word_order words w h)

plain_words : (words : Option (List (List ℕ))) → is_plain_place words ≡ true → list_all is_plain_word (unwrap_or words []) ≡ true
plain_words None h = refl
plain_words (Some words) h = h

-- ---- declared words
pub mkdir_fits : (now : Situation) (word : List ℕ) → is_property word ≡ true → NoneStands (mkdir_checks now word (declared_under now.state word (words_at now.place)))
    → WordFits now.state word (words_at now.place)
mkdir_fits now word form none = record {
  form = declarable_from word form none.1.0 none.0;
  new = not_from_false _ none.1.1.0;
  over = all_from _ (words_at now.place) (λ q m. and_from _ _ (all_among is_plain_word (words_at now.place) q plain m) (all_among (has_word now.state.declared) (words_at now.place) q there m));
  few_axioms = room_for_axioms made none.1.1.1.1.1.0;
  few_known = room_for made none.1.1.1.1.1.1.0;
  few_words = room_for_words made none.1.1.1.1.1.1.1.0;
}
  where
    made : State
    made = declared_under now.state word (words_at now.place)

    plain : list_all is_plain_word (words_at now.place) ≡ true
    plain = plain_words (place_words now.place) (not-false _ none.1.1.1.0)

    there : list_all (has_word now.state.declared) (words_at now.place) ≡ true
    there = not-false _ none.1.1.1.1.0

mkdir_keeps : (now : Situation) (word : List ℕ) → IsInForm now → is_property word ≡ true → IsInForm (mkdir now word).next
mkdir_keeps now word before form =
    judged_keeps IsInForm now (mkdir_checks now word (declared_under now.state word (words_at now.place))) (changed now (declared_under now.state word (words_at now.place))) before
    (λ none. record { state = declares now.state before.state word (words_at now.place) (mkdir_fits now word form none); place = before.place })

pub rmdir_unused : (s : State) (word : List ℕ) → NoneStands (rmdir_checks s word) → not (is_in_use s word) ≡ true
rmdir_unused s word none = not_from_false _ none.1.1.1.0

rmdir_keeps : (now : Situation) (word : List ℕ) → IsInForm now → IsInForm (rmdir now word).next
rmdir_keeps now word before =
    judged_keeps IsInForm now (rmdir_checks now.state word) (changed now (undeclared now.state word)) before
    (λ none. record { state = undeclares now.state before.state word (rmdir_unused now.state word none); place = before.place })

-- ---- axioms
pub axiom_fits : (s : State) (pair : List ℕ × List ℕ) → NoneStands (axiom_checks s pair (axiom_added s pair)) → AxiomFits s pair
axiom_fits s pair none = record {
  right = and_from _ _ (not-false _ none.0) both.0;
  left = both.1;
  no_circle = not_from_false _ none.1.1.1.0;
  few_axioms = room_for_axioms (axiom_added s pair) none.1.1.1.1.0;
  few_known = room_for (axiom_added s pair) none.1.1.1.1.1.0;
  few_words = room_for_words (axiom_added s pair) none.1.1.1.1.1.1.0;
}
  where
    both : (has_word s.declared pair.1 ≡ true) × (is_nameable s.declared pair.0 ≡ true)
    both = and_parts (has_word s.declared pair.1) (is_nameable s.declared pair.0) (not-false _ none.1.0)

axiom_keeps : (now : Situation) (pair : List ℕ × List ℕ) → IsInForm now → IsInForm (add_axiom now pair).next
axiom_keeps now pair before =
    judged_keeps IsInForm now (axiom_checks now.state pair (axiom_added now.state pair)) (changed now (axiom_added now.state pair)) before
    (λ none. record { state = adds_axiom now.state before.state pair (axiom_fits now.state pair none); place = before.place })

unaxiom_keeps : (now : Situation) (pair : List ℕ × List ℕ) → IsInForm now → IsInForm (unaxiom now pair).next
unaxiom_keeps now pair before =
    judged_keeps IsInForm now (unaxiom_checks now.state pair) (changed now (axiom_removed now.state pair)) before
    (λ none. record { state = removes_axiom now.state before.state pair; place = before.place })

-- ---- new files
-- what a new file needs, if no refusal of its row applies and its bytes are not too many
new_file_fits : (now : Situation) (name : List ℕ) (words : List (List ℕ)) (bytes : List ℕ) → is_file_name name ≡ true
    → length bytes ≤ file_limit now.state.limits → used_blocks now.state + blocks_taken now.state.limits.version (length bytes) ≤ now.state.limits.blocks
    → NoneStands (create_checks now words (new_file name (assigned_at now.place words) bytes) (file_added now.state (new_file name (assigned_at now.place words) bytes)))
    → FileFits now.state (new_file name (assigned_at now.place words) bytes)
new_file_fits now name words bytes named short room none = record {
  name = named;
  assigned_set = words_rising (tags_at now.place) words (tags_rising now.place);
  assigned = not-false _ none.1.1.1.1.0;
  few_assigned = ltb-false _ _ none.1.1.1.1.1.0;
  few_words = few_described (file_added now.state file) none.1.1.1.1.1.1.1.0 file (file_there now.state file none.0);
  short = short;
  few_files = leb-false _ _ none.1.1.1.1.1.1.0;
  few_known = room_for (file_added now.state file) none.1.1.1.1.1.1.1.1.0;
  few_blocks = room;
}
  where
    file : File
    file = new_file name (assigned_at now.place words) bytes

pub create_fits : (now : Situation) (name : List ℕ) (words : List (List ℕ)) → IsInForm now → is_file_name name ≡ true
    → NoneStands (create_checks now words (new_file name (assigned_at now.place words) []) (file_added now.state (new_file name (assigned_at now.place words) [])))
    → FileFits now.state (new_file name (assigned_at now.place words) [])
create_fits now name words before named none =
    new_file_fits now name words [] named (omega arith) (omega (arith, before.state.few_blocks, none_taken now.state.limits.version)) none

create_keeps : (now : Situation) (name : List ℕ) (words : List (List ℕ)) → IsInForm now → is_file_name name ≡ true → IsInForm (create now name words).next
create_keeps now name words before named =
    judged_keeps IsInForm now (create_checks now words file (file_added now.state file)) (changed now (file_added now.state file)) before
    (λ none. record { state = adds_file now.state before.state file (create_fits now name words before named none); place = before.place })
  where
    file : File
    file = new_file name (assigned_at now.place words) []

-- no more bytes of a payload are kept than it has
payload_le : (payload : Payload) → is_payload payload ≡ true → length payload.bytes ≤ payload.size
payload_le payload sized = by (nat_le payload.size payload_limit) (eqb-true _ _ sized)
  where
    by : (b : Bool) → length payload.bytes ≡ cond b payload.size 0 → length payload.bytes ≤ payload.size
    by true e = omega (arith, e)
    by false e = omega (arith, e)

pub add_fits : (now : Situation) (name : List ℕ) (words : List (List ℕ)) (payload : Payload) → IsInForm now → is_file_name name ≡ true → is_payload payload ≡ true
    → NoneStands (add_checks now words (new_file name (assigned_at now.place words) payload.bytes) (file_added now.state (new_file name (assigned_at now.place words) payload.bytes)) payload.size)
    → FileFits now.state (new_file name (assigned_at now.place words) payload.bytes) × (has_name now.state.files name ≡ false)
add_fits now name words payload before named sized none =
    let le = payload_le payload sized in
    let small : payload.size ≤ file_limit now.state.limits = ltb-false _ _ none.0 in
    let taken = taken_le now.state.limits.version (length payload.bytes) payload.size le in
    let parts = none_in_both (create_checks now words file made) ((nat_lt (free_blocks now.state) (blocks_taken now.state.limits.version payload.size), NoSpace) ∷ []) none.1 in
    let space : blocks_taken now.state.limits.version payload.size ≤ free_blocks now.state = ltb-false _ _ parts.1.0 in
    (new_file_fits now name words payload.bytes named (omega (arith, le, small)) (omega (arith, taken, space, before.state.few_blocks)) parts.0, parts.0.0)
  where
    file : File
    file = new_file name (assigned_at now.place words) payload.bytes

    made : State
    made = file_added now.state file

add_keeps : (now : Situation) (name : List ℕ) (words : List (List ℕ)) (payload : Payload) → IsInForm now → is_file_name name ≡ true → is_payload payload ≡ true
    → IsInForm (add now name words payload).next
add_keeps now name words payload before named sized =
    judged_keeps IsInForm now (add_checks now words file (file_added now.state file) payload.size) (changed now (file_added now.state file)) before
    (λ none. record { state = adds_file now.state before.state file (add_fits now name words payload before named sized none).0; place = before.place })
  where
    file : File
    file = new_file name (assigned_at now.place words) payload.bytes

-- ---- files that replace others
-- the old file is there, and the name of the new one is free without it
pub record Replaces (s : State) (old new : File) : Type 0 where
  pub there : Among s.files old
  pub fits : FileReplaces s old new
  pub free : has_name (file_removed s old.name).files new.name ≡ false

replaced_keeps : (now : Situation) (old new : File) → IsInForm now → Replaces now.state old new → IsInForm (record { state = file_replaced now.state old.name new; place = now.place })
replaced_keeps now old new before r = record { state = replaces_file now.state before.state old new r.there r.fits; place = before.place }

-- a file that is here by its own name
pub file_here : (now : Situation) (name : List ℕ) → NoneStands (here_checks now (file_of now.state.files name).name) → Among now.state.files (file_of now.state.files name)
file_here now name none =
    file_of_there now.state.files name (here_named now name (subst (λ (n : List ℕ). is_here now n ≡ true) (file_of_name now.state.files name) (not-false _ none.0)))

-- of a file that is there and is well formed
record OldFits (s : State) (old : File) : Type 0 where
  name : is_file_name old.name ≡ true
  assigned_set : is_rising word_cmp old.assigned ≡ true
  assigned : list_all (is_assignable s.declared) old.assigned ≡ true
  few_assigned : length old.assigned ≤ 16
  short : length old.bytes ≤ file_limit s.limits

old_fits : (s : State) → WellFormed s → (old : File) → Among s.files old → OldFits s old
old_fits s formed old m = record {
  name = all_among (λ (f : File). is_file_name f.name) s.files old formed.files.names m;
  assigned_set = all_among (λ (f : File). is_rising word_cmp f.assigned) s.files old formed.files.assigned_sets m;
  assigned = all_among (λ (f : File). list_all (is_assignable s.declared) f.assigned) s.files old formed.files.assigned m;
  few_assigned = leb-true _ _ (all_among (λ (f : File). nat_le (length f.assigned) 16) s.files old formed.files.few_assigned m);
  short = leb-true _ _ (all_among (λ (f : File). nat_le (length f.bytes) (file_limit s.limits)) s.files old formed.files.short m);
}

few_in_place : (s : State) (old new : File) → exceeds_words (file_replaced s old.name new) ≡ false → has_name (file_removed s old.name).files new.name ≡ false → length (description s new) ≤ 128
few_in_place s old new h free = few_described (file_replaced s old.name new) h new (file_there (file_removed s old.name) new free)

pub write_replaces : (now : Situation) (old : File) (payload : Payload) → IsInForm now → is_payload payload ≡ true → (NoneStands (here_checks now old.name) → Among now.state.files old)
    → NoneStands (write_checks now old (file_replaced now.state old.name (new_file old.name old.assigned payload.bytes)) payload.size)
    → Replaces now.state old (new_file old.name old.assigned payload.bytes)
write_replaces now old payload before sized here none =
    let m = here (none.1.0, tt) in
    let held = old_fits now.state before.state old m in
    let le = payload_le payload sized in
    let small : payload.size ≤ file_limit now.state.limits = ltb-false _ _ none.0 in
    let taken = taken_le now.state.limits.version (length payload.bytes) payload.size le in
    let space : blocks_taken now.state.limits.version payload.size ≤ blocks_for now.state old = ltb-false _ _ none.1.1.1.1.0 in
    record {
      there = m;
      fits = record {
        name = held.name;
        assigned_set = held.assigned_set;
        assigned = held.assigned;
        few_assigned = held.few_assigned;
        few_words = few_in_place now.state old new none.1.1.0 (gone_free now.state old.name);
        short = omega (arith, le, small);
        few_known = room_for (file_replaced now.state old.name new) none.1.1.1.0;
        few_blocks = omega (arith, taken, space, for_le, before.state.few_blocks);
      };
      free = gone_free now.state old.name;
    }
  where
    new : File
    new = new_file old.name old.assigned payload.bytes

    for_le : blocks_for now.state old ≤ free_blocks now.state + blocks_taken now.state.limits.version (length old.bytes)
    for_le = by (now.state.limits.version == 1)
      where
        by : (one : Bool) → cond one (free_blocks now.state + blocks_taken now.state.limits.version (length old.bytes)) (free_blocks now.state) ≤ free_blocks now.state + blocks_taken now.state.limits.version (length old.bytes)
        by true = omega arith
        by false = omega arith

write_keeps : (now : Situation) (name : List ℕ) (payload : Payload) → IsInForm now → is_payload payload ≡ true → IsInForm (write now name payload).next
write_keeps now name payload before sized =
    judged_keeps IsInForm now (write_checks now old (file_replaced now.state old.name new) payload.size) (changed now (file_replaced now.state old.name new)) before
    (λ none. replaced_keeps now old new before (write_replaces now old payload before sized (file_here now name) none))
  where
    old : File
    old = file_of now.state.files name

    new : File
    new = new_file old.name old.assigned payload.bytes

-- ---- mv
pub mv_replaces : (now : Situation) (place : List Formula) (words : List (List ℕ)) (old : File) → IsInForm now → (NoneStands (here_checks now old.name) → Among now.state.files old)
    → NoneStands (here_checks now old.name ++ mv_checks now place words (new_file old.name (retagged old.assigned (tags_at now.place) (tags_at place)) old.bytes)
    (file_replaced now.state old.name (new_file old.name (retagged old.assigned (tags_at now.place) (tags_at place)) old.bytes)))
    → Replaces now.state old (new_file old.name (retagged old.assigned (tags_at now.place) (tags_at place)) old.bytes)
mv_replaces now place words old before here none =
    let m = here (none.0, tt) in
    let held = old_fits now.state before.state old m in
    record {
      there = m;
      fits = record {
        name = held.name;
        assigned_set = words_rising kept (tags_at place) (rising_filter word_cmp _ old.assigned held.assigned_set);
        assigned = all_from (is_assignable now.state.declared) new.assigned (λ w n. at held w (among_with_words kept (tags_at place) w n));
        few_assigned = ltb-false _ _ none.1.1.1.1.1.0;
        few_words = few_in_place now.state old new none.1.1.1.1.1.1.0 (gone_free now.state old.name);
        short = held.short;
        few_known = room_for (file_replaced now.state old.name new) none.1.1.1.1.1.1.1.0;
        few_blocks = omega (arith, before.state.few_blocks);
      };
      free = gone_free now.state old.name;
    }
  where
    kept : List (List ℕ)
    kept = filter (λ word. not (has_word (tags_at now.place) word)) old.assigned

    new : File
    new = new_file old.name (retagged old.assigned (tags_at now.place) (tags_at place)) old.bytes

    at : OldFits now.state old → (w : List ℕ) → Among kept w ⊎ Among (tags_at place) w → is_assignable now.state.declared w ≡ true
    at held w (inl m) = all_among (is_assignable now.state.declared) old.assigned w held.assigned (among_filter (λ word. not (has_word (tags_at now.place) word)) old.assigned w m).0
    at held w (inr m) = all_among (is_assignable now.state.declared) (tags_at place) w (not-false _ none.1.1.1.1.0) m

mv_keeps : (now : Situation) (name text : List ℕ) (r : Resolution) → IsInForm now → IsInForm (mv_to now (file_of now.state.files name) text r).next
mv_keeps now name text Unreadable before = before
mv_keeps now name text BeyondLimits before = before
mv_keeps now name text (NewPlace place) before =
    judged_keeps IsInForm now (here_checks now old.name ++ mv_checks now place (text_words text) new (file_replaced now.state old.name new)) (changed now (file_replaced now.state old.name new)) before
    (λ none. replaced_keeps now old new before (mv_replaces now place (text_words text) old before (file_here now name) none))
  where
    old : File
    old = file_of now.state.files name

    new : File
    new = new_file old.name (retagged old.assigned (tags_at now.place) (tags_at place)) old.bytes

-- ---- rename
pub rename_replaces : (now : Situation) (old : File) (name : List ℕ) → IsInForm now → is_file_name name ≡ true → (NoneStands (here_checks now old.name) → Among now.state.files old)
    → NoneStands (rename_checks now old.name (new_file name old.assigned old.bytes) (file_replaced now.state old.name (new_file name old.assigned old.bytes)))
    → Replaces now.state old (new_file name old.assigned old.bytes)
rename_replaces now old name before named here none =
    let m = here (none.0, tt) in
    let held = old_fits now.state before.state old m in
    let free = still_free now.state old.name name none.1.0 in
    record {
      there = m;
      fits = record {
        name = named;
        assigned_set = held.assigned_set;
        assigned = held.assigned;
        few_assigned = held.few_assigned;
        few_words = few_in_place now.state old new none.1.1.0 free;
        short = held.short;
        few_known = room_for (file_replaced now.state old.name new) none.1.1.1.0;
        few_blocks = omega (arith, before.state.few_blocks);
      };
      free = free;
    }
  where
    new : File
    new = new_file name old.assigned old.bytes

rename_keeps : (now : Situation) (name other : List ℕ) → IsInForm now → is_file_name other ≡ true → IsInForm (rename now name other).next
rename_keeps now name other before named =
    judged_keeps IsInForm now (rename_checks now old.name new (file_replaced now.state old.name new)) (changed now (file_replaced now.state old.name new)) before
    (λ none. replaced_keeps now old new before (rename_replaces now old other before named (file_here now name) none))
  where
    old : File
    old = file_of now.state.files name

    new : File
    new = new_file other old.assigned old.bytes

-- ---- the other commands
rm_keeps : (now : Situation) (name : List ℕ) → IsInForm now → IsInForm (rm now name).next
rm_keeps now name before =
    judged_keeps IsInForm now (here_checks now name) (changed now (file_removed now.state name)) before
    (λ none. record { state = removes_file now.state before.state name; place = before.place })

shown_keeps : (now : Situation) (name body : List ℕ) → IsInForm now → IsInForm (shown_here now name body).next
shown_keeps now name body before = judged_keeps IsInForm now (here_checks now name) (shown now body) before (λ none. before)

cd_keeps : (now : Situation) (text : List ℕ) (r : Resolution) → resolved now.place text ≡ r → IsInForm now → IsInForm (cd_to now text r).next
cd_keeps now text Unreadable e before = before
cd_keeps now text BeyondLimits e before = before
cd_keeps now text (NewPlace place) e before = by (list_all (has_word (known now.state)) (text_words text))
  where
    by : (b : Bool) → IsInForm (cond b (moved now place) (refused now UnknownProperty)).next
    by true = record { state = before.state; place = resolved_is_place now.place text place before.place e }
    by false = before

-- ---- all commands
command_keeps : (now : Situation) (command : Command) (payload : Payload) → IsInForm now → has_forms command ≡ true → is_payload payload ≡ true → IsInForm (done now command payload).next
command_keeps now (Mkdir word) payload before form sized = mkdir_keeps now word before form
command_keeps now (Rmdir word) payload before form sized = rmdir_keeps now word before
command_keeps now (Axiom left right) payload before form sized = axiom_keeps now (left, right) before
command_keeps now (Unaxiom left right) payload before form sized = unaxiom_keeps now (left, right) before
command_keeps now (Create name words) payload before form sized = create_keeps now name words before (and_parts _ _ form).0
command_keeps now (Add name words) payload before form sized = add_keeps now name words payload before (and_parts _ _ form).0 sized
command_keeps now (Write name) payload before form sized = write_keeps now name payload before sized
command_keeps now (Cat name) payload before form sized = shown_keeps now name (content_lines (file_of now.state.files name).bytes) before
command_keeps now (Mv name text) payload before form sized = mv_keeps now name text (resolved now.place text) before
command_keeps now (Rename name other) payload before form sized = rename_keeps now name other before (and_parts (is_file_name name) (is_file_name other) form).1
command_keeps now (Rm name) payload before form sized = rm_keeps now name before
command_keeps now (Cd text) payload before form sized = cd_keeps now text (resolved now.place text) refl before
command_keeps now Pwd payload before form sized = before
command_keeps now Ls payload before form sized = before
command_keeps now (Props name) payload before form sized = shown_keeps now name (flat_map (body_line 112) (description now.state (file_of now.state.files name))) before
command_keeps now (Way name) payload before form sized = shown_keeps now name (flat_map (body_line 100) (route (table now.state) now.place (entry_at now.state name))) before
command_keeps now Stat payload before form sized = before

pub step_keeps : (now : Situation) (item : Item) → IsInForm now → is_formed item ≡ true → IsInForm (step now item).next
unfolding step
step_keeps now (Do command payload) before form = let parts = and_parts (has_forms command) (is_payload payload) form in command_keeps now command payload before parts.0 parts.1
step_keeps now (Bad refusal) before form = before

pub items_keep : (now : Situation) (items : List Item) → IsInForm now → list_all is_formed items ≡ true → IsInForm (situation_after now items)
items_keep now [] before form = before
items_keep now (item ∷ items) before form =
    let parts = and_parts (is_formed item) (list_all is_formed items) form in
    items_keep (step now item).next items (step_keeps now item before parts.0) parts.1

pub empty_formed : (limits : Limits) → are_in_range limits ≡ true → WellFormed (empty_state limits)
empty_formed limits in_range = record {
  limits = in_range;
  declared_set = refl;
  axiom_set = refl;
  file_set = refl;
  declared = refl;
  axioms = record { rights = refl; lefts = refl; acyclic = (acyclic_decides [] []).0 refl };
  files = record { names = refl; assigned_sets = refl; assigned = refl; few_assigned = refl; few_words = refl; short = refl };
  few_files = omega arith;
  few_known = omega arith;
  few_axioms = omega arith;
  few_blocks = omega arith;
}

pub start_formed : (limits : Limits) → are_in_range limits ≡ true → IsInForm (start_of limits)
start_formed limits in_range = record { state = empty_formed limits in_range; place = root_is_place }
