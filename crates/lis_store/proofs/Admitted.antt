-- The row of a new file: by what a store keeps it is the row of the state. Also what holds if it refuses nothing.
use Rattle.std.proofs.Common.{rules}
use Rattle.lis_store.proofs.Common.{◌≡◌, refl, sym, ap, ap₂, ◌∙◌, subst, ℕ, ◌≤◌, nat_lt, nat_le, Bool, true, false, not, cond, is_some, Option, Some, None, List, [], ◌∷◌, ◌++◌, length, Result, Err, arith, ◌⊎◌, inl, inr, list_any, list_all, ltb-false, not-false, ltb-true, leb-true, Meaning, free_count, slot_of, Formula, word_cmp, is_file_name, is_built_in, Limits, Refusal, UnknownProperty, NameTaken, LargeFile, NoSpace, place_words, State, File, is_assignable, file_limit, blocks_taken, derived_words, derived_built_in, description, file_cmp, has_name, new_file, file_added, Situation, Payload, assigned_at, free_blocks, add, exceeds_words, exceeds_known, word_order, rising_from_sorted, Metadata, declared_of, Among, among_insert_key, with_words, leb-false, known, changed, all_among, all_from, among_from_any, any_from_among, same_tests}
use Rattle.lis_model.specs.declared.refusal.Refusal.TheVariants.{NotAPlace, NotAssignable, TooManyAssigned, NoFileRoom, BuiltIn}
use Rattle.lis_model.specs.Step.{is_head_or_test, room_checks as told_room, add_checks, first_refusal}
use Rattle.lis_laws.proofs.Derived.{derived_few}
use Rattle.lis_store.specs.Stored.{Stored, IsSound, StoreHolds}
use Rattle.lis_store.proofs.ToldBy.{ToldBy, told_held}
use Rattle.lis_store.specs.Drafts.{with_own, draft_of, AreOwnWords}
use Rattle.lis_store.specs.Admitting.{described_by, known_with, named_checks, room_checks, add_checks_of, IsAdmitted}
use Rattle.lis_store.specs.Beside.{words_checks, words_beside, known_beside}
use Rattle.lis_store.specs.declared.change_fault.ChangeFault.{ChangeFault}
use Rattle.lis_store.specs.declared.change_fault.ChangeFault.TheVariants.{Refused}
use Rattle.lis_store.specs.Changes.{Holds}
use Rattle.lis_store.proofs.Assigned.{sorted_assigned}
use Rattle.lis_store.proofs.StoreSays.{known_told, name_filed, files_counted, limits_told}
use Rattle.lis_store.proofs.Judged.{refused_then, AllPass, all_pass, same_behind, judged_refused, judged_done, change_refused}
use Rattle.lis_laws.proofs.Growth.{known_adds_file}
use Rattle.lis_laws.proofs.Named.{file_there}
use Rattle.lis_store.proofs.FreeBlocks.{used_told}

-- ---- what words are refused for, when a file is added or replaces another
module _ (k : Stored) (s : State) (sound : IsSound k) (fits : ToldBy k s) where
  abbrev kept : Metadata
  kept = k.metadata

  pub limits_are : kept.limits ≡ s.limits
  limits_are = limits_told kept fits.kept s sound.metadata sound.free fits.tells

  pub declared_are : declared_of kept ≡ s.declared
  declared_are = ap (λ (t : State). t.declared) fits.tells.state

  described_are : (file : File) (own : List (List ℕ)) → AreOwnWords s.declared s.axioms own file → described_by kept (with_own file own) ≡ description s file
  described_are file own are_own = search (rules, declared_are)

  pub free_are : free_count kept.taken ≡ free_blocks s
  free_are = omega (arith, used_told k s sound fits)

  -- some of the files are left, and memory has the words that are known then
  module _ (old : Option ℕ) (files : List File) (left : (f : File) → Among files f → Among s.files f) (known_are : words_beside kept old ≡ known (record s { files = files }))
      (file : File) (own : List (List ℕ)) (are_own : AreOwnWords s.declared s.axioms own file) (new : has_name files file.name ≡ false) where
    abbrev rest : State
    rest = record s { files = files }

    abbrev made : State
    made = file_added rest file

    abbrev large : File → Bool
    large f = nat_lt 128 (length (description s f))

    -- the others have few words, so the new one alone may have too many
    large_told : nat_lt 128 (length (described_by kept (with_own file own))) ≡ exceeds_words made
    large_told = ap (λ ws. nat_lt 128 (length ws)) (described_are file own are_own) ∙ same_tests (large file) (list_any large made.files) to from
      where
        to : large file ≡ true → list_any large made.files ≡ true
        to h = any_from_among large made.files file (file_there rest file new) h

        from : list_any large made.files ≡ true → large file ≡ true
        from h = let found = among_from_any large made.files h in by found.0 (among_insert_key file_cmp files file found.0 found.1) found.2
          where
            by : (f : File) → (file ≡ f) ⊎ Among files f → large f ≡ true → large file ≡ true
            by f (inl same) too = ap large same ∙ too
            by f (inr old) too =
                let few = leb-true (length (description s f)) 128 (all_among (λ (f : File). nat_le (length (description s f)) 128) s.files f fits.tells.formed.files.few_words (left f old)) in
                absurd (omega (arith, few, ltb-true 128 (length (description s f)) too))

    room_told : nat_lt kept.limits.props (length (known_beside kept old (with_own file own))) ≡ exceeds_known made
    room_told =
        ap₂ (λ props ws. nat_lt props (length ws)) (ap (λ (l : Limits). l.props) limits_are)
        (ap₂ with_words known_are (described_are file own are_own) ∙ sym (known_adds_file rest fits.tells.formed.declared_set file new))

    pub words_row : (checks others : List (Bool × Refusal)) → first_refusal checks ≡ first_refusal others
        → first_refusal (words_checks kept old (with_own file own) ++ checks) ≡ first_refusal (told_room made ++ others)
    words_row checks others same = search (rules, large_told, room_told)

-- ---- derived words
pub derived_own : (name bytes : List ℕ) → list_all is_built_in (derived_words name bytes) ≡ true
derived_own name bytes = all_from is_built_in (derived_words name bytes) (derived_built_in name bytes)

pub derived_few_own : (name bytes : List ℕ) → length (derived_words name bytes) ≤ 128
derived_few_own name bytes = omega (arith, derived_few name bytes)

-- ---- the row, part by part
abbrev pub front_checks : Metadata → List Formula → List (List ℕ) → File → ℕ → List (Bool × Refusal)
front_checks k place words file size = (nat_lt (file_limit k.limits) size, LargeFile) ∷ named_checks k place words file

pub room_refused : (k : Metadata) (place : List Formula) (name : List ℕ) (words : List (List ℕ)) (bytes : List ℕ) (size : ℕ) (given : List (List ℕ)) → given ≡ assigned_at place words
    → first_refusal (front_checks k place words (new_file name (assigned_at place words) bytes) size) ≡ None → (refusal : Refusal)
    → first_refusal (room_checks k (draft_of (new_file name given bytes)) size) ≡ Some refusal → first_refusal (add_checks_of k place name words bytes size) ≡ Some refusal
room_refused k place name words bytes size given is named refusal first = search (rules, refused_then)

pub none_there : {X : Type 0} (o : Option X) → is_some o ≡ false → o ≡ None
none_there o e = search (rules)

-- What a store requires of a payload is about the store's value, and what is proved is about its metadata.
pub whole_inside : {old now : Stored} (bytes : List ℕ) (size : ℕ) → old ≡ now → (size ≤ file_limit now.metadata.limits → length bytes ≡ size)
    → size ≤ file_limit old.metadata.limits → length bytes ≡ size
whole_inside bytes size is whole small = whole (subst (λ (k : Stored). size ≤ file_limit k.metadata.limits) is small)

-- ---- a row that refuses nothing
-- A file of a name, with the words of a place and words that were named, is admitted.
module _ (k : Metadata) (place : List Formula) (name : List ℕ) (words : List (List ℕ)) (bytes : List ℕ) (size : ℕ) (form : is_file_name name ≡ true) (whole : size ≤ file_limit k.limits → length bytes ≡ size)
    (none : first_refusal (add_checks_of k place name words bytes size) ≡ None) where
  abbrev let_in : File
  let_in = new_file name (assigned_at place words) bytes

  row : AllPass (add_checks_of k place name words bytes size)
  row = all_pass (add_checks_of k place name words bytes size) none

  small : size ≤ file_limit k.limits
  small = ltb-false (file_limit k.limits) size row.0

  pub admitted : IsAdmitted k (draft_of let_in)
  admitted =
      let own = row.1.1.1.1.1 in
      let room = own.1.1 in
      record {
        name = form;
        new = none_there (slot_of k.catalog name) row.1.0;
        set = rising_from_sorted word_cmp word_order let_in.assigned (sorted_assigned place words);
        assignable = not-false (list_all (is_assignable (declared_of k)) let_in.assigned) own.0;
        few = ltb-false 16 (length let_in.assigned) own.1.0;
        own = derived_own name bytes;
        few_own = derived_few_own name bytes;
        slots = leb-false k.limits.files (length k.catalog.entries) room.0;
        short = ltb-false 128 (length (described_by k (draft_of let_in))) room.1.0;
        room = ltb-false k.limits.props (length (known_with k (draft_of let_in))) room.1.1.0;
        small = omega (arith, whole small, small);
      }

  pub enough_free : blocks_taken k.limits.version (length bytes) ≤ free_count k.taken
  enough_free = search (rules, ltb-false, row, small)

-- ---- the row of the state
module _ (k : Stored) (s : State) (sound : IsSound k) (fits : ToldBy k s) (place : List Formula) (words : List (List ℕ)) where
  abbrev p : Metadata
  p = k.metadata

  abbrev now : Situation
  now = record { state = s; place = place }

  module _ (name bytes : List ℕ) (size : ℕ) where
    abbrev new_one : File
    new_one = new_file name (assigned_at place words) bytes

    -- the checks for which the words do not matter
    abbrev front : Limits → Bool → List (List ℕ) → ℕ → List (Bool × Refusal)
    front limits taken declared files =
        (nat_lt (file_limit limits) size, LargeFile)
        ∷ (taken, NameTaken)
        ∷ (not (is_some (place_words place)), NotAPlace)
        ∷ (list_any is_built_in words, BuiltIn)
        ∷ (list_any is_head_or_test words, NotAssignable)
        ∷ (not (list_all (is_assignable declared) new_one.assigned), UnknownProperty)
        ∷ (nat_lt 16 (length new_one.assigned), TooManyAssigned)
        ∷ (nat_le limits.files files, NoFileRoom)
        ∷ []

    pub same_row : first_refusal (add_checks_of p place name words bytes size) ≡ first_refusal (add_checks now words new_one (file_added s new_one) size)
    same_row =
        let named = name_filed p fits.kept s sound.metadata sound.free fits.tells name in
        let limits = limits_are k s sound fits in
        let full : Bool × Refusal = (nat_lt (free_count p.taken) (blocks_taken p.limits.version size), NoSpace) in
        let full_told : Bool × Refusal = (nat_lt (free_blocks s) (blocks_taken s.limits.version size), NoSpace) in
        let rest = told_room (file_added s new_one) ++ full_told ∷ [] in
        same_behind (front p.limits (is_some (slot_of p.catalog name)) (declared_of p) (length p.catalog.entries)) (words_checks p None (draft_of new_one) ++ full ∷ []) rest
        (λ passes. words_row k s sound fits None s.files (λ f m. m) (known_told p fits.kept s sound.metadata sound.free fits.tells) new_one (derived_words name bytes) refl (named ∙ passes.1.0) (full ∷ []) (full_told ∷ [])
        (ap₂ (λ free (l : Limits). cond (nat_lt free (blocks_taken l.version size)) (Some NoSpace) None) (free_are k s sound fits) limits))
        ∙ (ap₂ (λ l taken. first_refusal (front l taken (declared_of p) (length p.catalog.entries) ++ rest)) limits (sym named)
        ∙ ap₂ (λ declared files. first_refusal (front s.limits (has_name s.files name) declared files ++ rest)) (declared_are k s sound fits) (sym (files_counted p fits.kept s sound.metadata sound.free fits.tells)))

  -- what `add` gives
  pub add_done : (name : List ℕ) (payload : Payload) → first_refusal (add_checks_of p place name words payload.bytes payload.size) ≡ None
      → add now name words payload ≡ changed now (file_added s (new_file name (assigned_at place words) payload.bytes))
  add_done name payload none =
      let file = new_file name (assigned_at place words) payload.bytes in
      judged_done now (add_checks now words file (file_added s file) payload.size) (changed now (file_added s file)) (sym (same_row name payload.bytes payload.size) ∙ none)

-- a call that is refused changes nothing
pub added_refused : {T : Type 0} (old : Stored) (m : Meaning) (place : List Formula) (name : List ℕ) (words : List (List ℕ)) (payload : Payload) (refusal : Refusal) (result : Result T ChangeFault)
    → IsSound old → first_refusal (add_checks_of old.metadata place name words payload.bytes payload.size) ≡ Some refusal → result ≡ Err (Refused refusal)
    → (base s : State) → StoreHolds old m base s → Holds base (record { state = s; place = place }) (add (record { state = s; place = place }) name words payload) old m m result
added_refused old m place name words payload refusal result sound first ends base s holds =
    let now : Situation = record { state = s; place = place } in
    let file = new_file name (assigned_at place words) payload.bytes in
    let added = file_added s file in
    let told = same_row old s sound (told_held old m base s sound holds) place words name payload.bytes payload.size in
    change_refused old m base now (add now name words payload) refusal result holds (judged_refused now (add_checks now words file added payload.size) (changed now added) refusal (sym told ∙ first)) ends
