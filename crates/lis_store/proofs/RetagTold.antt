-- The row of `mv`: by what a store keeps it is the row of the state. Also what holds if it refuses nothing.
use Rattle.lis_store.proofs.Common.{◌≡◌, refl, sym, ap, ap₂, ◌∙◌, ℕ, ◌≤◌, nat_lt, Bool, true, false, not, cond, ◌&&◌, is_some, option_to_list, Some, None, List, [], ◌∷◌, ◌++◌, length, filter, arith, list_any, list_all, flat_map, ltb-false, not-false, IsStrictlySortedBy-filter, slot_of, rec_at, word_of, FileRecord, among_filter, Formula, resolved, text_words, word_cmp, has_word, is_file_name, is_built_in, is_head, Refusal, UnknownProperty, NoFileHere, State, File, is_assignable, place_words, new_file, file_replaced, Situation, refused, retagged, mv, word_order, sorted_set_of, sorted_with_words, rising_from_sorted, file_of_name, Metadata, declared_of, and_from, both_ways, file_of, changed, tags_at, all_among, all_from, words_told}
use Rattle.lis_grammar.specs.Places.Resolution.{NewPlace}
use Rattle.lis_model.specs.declared.refusal.Refusal.TheVariants.{NotAPlace, NotAssignable, TooManyAssigned, BuiltIn}
use Rattle.lis_model.specs.Step.{here_checks, room_checks, mv_checks, mv_to, first_refusal}
use Rattle.lis_laws.proofs.Named.{gone_free}
use Rattle.lis_store.specs.Stored.{Stored, IsSound}
use Rattle.lis_store.proofs.ToldBy.{ToldBy}
use Rattle.lis_store.specs.Judging.{is_among}
use Rattle.lis_store.specs.Instead.{instead_checks}
use Rattle.lis_store.specs.Replacing.{MayReplace}
use Rattle.lis_store.specs.Drafts.{Draft, drafted, own_kept}
use Rattle.lis_store.specs.Retagging.{words_moved, moved_draft, retag_checks}
use Rattle.lis_store.proofs.StoreSays.{size_told}
use Rattle.lis_store.proofs.OwnKept.{own_built_in, own_told}
use Rattle.lis_store.proofs.InsteadMay.{given_assignable, may_stand, sized_small}
use Rattle.lis_store.proofs.InsteadTold.{old_given, here_row, instead_row}
use Rattle.lis_store.proofs.Judged.{same_behind, judged_refused, judged_done, all_pass}
use Rattle.lis_store.proofs.Admitted.{declared_are}
use Rattle.lis_store.proofs.Assigned.{all_with}

-- ---- the words that the file gets
moved_pass : (test : List ℕ → Bool) (given here next : List (List ℕ)) → list_all test given ≡ true → list_all test next ≡ true → list_all test (retagged given here next) ≡ true
moved_pass test given here next old new =
    let left = filter (λ word. not (has_word here word)) given in
    all_with test left next
    ∙ and_from (list_all test left) (list_all test next) (all_from test left (λ w m. all_among test given w old (among_filter (λ word. not (has_word here word)) given w m).0)) new

-- ---- the row of the state
module _ (k : Stored) (s : State) (sound : IsSound k) (fits : ToldBy k s) (place : List Formula) (name : List ℕ) (slot : ℕ) (rec : FileRecord)
    (there : is_among k.metadata place name ≡ true → (slot_of k.metadata.catalog name ≡ Some slot) × (rec_at k.metadata.catalog slot ≡ Some rec)) where
  abbrev now : Situation
  now = record { state = s; place = place }

  abbrev old : File
  old = file_of s.files name

  abbrev kept : Metadata
  kept = k.metadata

  -- the file that the model makes of it
  abbrev pub new_of : List Formula → File
  new_of next = new_file old.name (retagged old.assigned (tags_at place) (tags_at next)) old.bytes

  abbrev moved : List Formula → Draft
  moved next = moved_draft kept slot rec place next name

  -- the checks for which the words that would be known do not matter
  abbrev front : List Formula → List (List ℕ) → List (List ℕ) → List (List ℕ) → List (Bool × Refusal)
  front next words declared given =
      (not (is_some (place_words place) && is_some (place_words next)), NotAPlace)
      ∷ (list_any is_built_in words, BuiltIn)
      ∷ (list_any is_head words, NotAssignable)
      ∷ (not (list_all (is_assignable declared) (tags_at next)), UnknownProperty)
      ∷ (nat_lt 16 (length (retagged given (tags_at place) (tags_at next))), TooManyAssigned)
      ∷ []

  abbrev checks : List Formula → List (List ℕ) → List (Bool × Refusal)
  checks next words = (not (is_among kept place name), NoFileHere) ∷ retag_checks kept place next words slot rec (moved next)

  mv_row : (next : List Formula) (words : List (List ℕ)) → first_refusal (checks next words)
      ≡ first_refusal (here_checks now old.name ++ mv_checks now next words (new_of next) (file_replaced s old.name (new_of next)))
  mv_row next words =
      let made = file_replaced s old.name (new_of next) in
      here_row k s sound fits place name slot rec there (retag_checks kept place next words slot rec (moved next)) (mv_checks now next words (new_of next) made) (λ at.
      let given = words_told kept.dict rec.tags in
      let was = old_given k s sound fits name slot rec at.0 at.1 in
      let ws = words_moved kept rec place next in
      let own = own_kept kept slot in
      same_behind (front next words (declared_of kept) given) (instead_checks kept slot (moved next)) (room_checks made) (λ passes.
      ap (λ n. first_refusal (instead_checks kept slot (drafted name n ws own))) (sym (size_told k s sound fits name slot rec at.0 at.1))
      ∙ instead_row k s sound fits place name slot rec there at (new_file name ws old.bytes) own (own_told k s sound fits name slot rec at.0 at.1 ws) made
      (ap₂ (λ n ws. file_replaced s n (new_file n (retagged ws (tags_at place) (tags_at next)) old.bytes)) (sym (file_of_name s.files name)) (sym was)) (gone_free s name)
      (moved_pass (is_assignable (declared_of kept)) given (tags_at place) (tags_at next)
      (given_assignable k sound slot rec at.1 fits.kept s fits.tells) (not-false (list_all (is_assignable (declared_of kept)) (tags_at next)) passes.1.1.1.0)) [] [] refl)
      ∙ ap₂ (λ declared ws. first_refusal (front next words declared ws ++ room_checks made)) (declared_are k s sound fits) (sym was))

  -- what `mv` gives, if the text leads to a place
  abbrev moved_state : List Formula → State
  moved_state next = file_replaced s old.name (new_of next)

  abbrev told_row : List ℕ → List Formula → List (Bool × Refusal)
  told_row text next = here_checks now old.name ++ mv_checks now next (text_words text) (new_of next) (moved_state next)

  pub mv_refused : (text : List ℕ) (next : List Formula) (refusal : Refusal) → resolved place text ≡ NewPlace next → first_refusal (checks next (text_words text)) ≡ Some refusal
      → mv now name text ≡ refused now refusal
  mv_refused text next refusal leads first =
      ap (mv_to now old text) leads ∙ judged_refused now (told_row text next) (changed now (moved_state next)) refusal (sym (mv_row next (text_words text)) ∙ first)

  -- and the file is here
  row_here : (next : List Formula) (words : List (List ℕ)) → is_among kept place name ≡ true
      → first_refusal (checks next words) ≡ first_refusal (retag_checks kept place next words slot rec (moved next))
  row_here next words here = ap (λ b. cond (not b) (Some NoFileHere) (first_refusal (retag_checks kept place next words slot rec (moved next)))) here

  pub mv_here_refused : (text : List ℕ) (next : List Formula) (refusal : Refusal) → resolved place text ≡ NewPlace next → is_among kept place name ≡ true
      → first_refusal (retag_checks kept place next (text_words text) slot rec (moved next)) ≡ Some refusal → mv now name text ≡ refused now refusal
  mv_here_refused text next refusal leads here first = mv_refused text next refusal leads (row_here next (text_words text) here ∙ first)

  pub mv_here_done : (text : List ℕ) (next : List Formula) → resolved place text ≡ NewPlace next → is_among kept place name ≡ true
      → first_refusal (retag_checks kept place next (text_words text) slot rec (moved next)) ≡ None
      → mv now name text ≡ changed now (file_replaced s name (new_file name (retagged old.assigned (tags_at place) (tags_at next)) old.bytes))
  mv_here_done text next leads here none =
      ap (mv_to now old text) leads
      ∙ (judged_done now (told_row text next) (changed now (moved_state next)) (sym (mv_row next (text_words text)) ∙ (row_here next (text_words text) here ∙ none))
      ∙ ap (λ n. changed now (file_replaced s n (new_file n (retagged old.assigned (tags_at place) (tags_at next)) old.bytes))) (file_of_name s.files name))

-- ---- a file that is not here
pub mv_nowhere : (k : Stored) (s : State) → IsSound k → ToldBy k s → (place next : List Formula) (name text : List ℕ)
    → resolved place text ≡ NewPlace next → is_among k.metadata place name ≡ false
    → mv (record { state = s; place = place }) name text ≡ refused (record { state = s; place = place }) NoFileHere
mv_nowhere k s sound fits place next name text leads none =
    let rec : FileRecord = record { name = []; size = 0; tags = []; blocks = [] } in
    let rest = retag_checks k.metadata place next (text_words text) 0 rec (moved_draft k.metadata 0 rec place next name) in
    mv_refused k s sound fits place name 0 rec (λ here. absurd (both_ways (is_among k.metadata place name) none here)) text next NoFileHere leads
    (ap (λ b. cond (not b) (Some NoFileHere) (first_refusal rest)) none)

-- ---- a row that refuses nothing
module _ (k : Stored) (sound : IsSound k) (slot : ℕ) (rec : FileRecord) (is_rec : rec_at k.metadata.catalog slot ≡ Some rec) (here next : List Formula) where
  abbrev p : Metadata
  p = k.metadata

  pub mv_may : (name : List ℕ) (words : List (List ℕ)) → rec.name ≡ name → is_file_name name ≡ true → length (own_kept p slot) ≤ 128
      → first_refusal (retag_checks p here next words slot rec (moved_draft p slot rec here next name)) ≡ None → MayReplace p slot rec (moved_draft p slot rec here next name)
  mv_may name words named form few_own none =
      let draft = moved_draft p slot rec here next name in
      let row = all_pass (retag_checks p here next words slot rec draft) none in
      may_stand k sound slot rec is_rec draft form (λ differ. absurd (differ (sym named)))
      (rising_from_sorted word_cmp word_order draft.assigned
      (sorted_with_words (filter (λ word. not (has_word (tags_at here) word)) (words_told p.dict rec.tags)) (tags_at next)
      (IsStrictlySortedBy-filter word_cmp (λ word. not (has_word (tags_at here) word)) (words_told p.dict rec.tags) (sorted_set_of (flat_map (λ n. option_to_list (word_of p.dict n)) rec.tags)))))
      (ltb-false 16 (length draft.assigned) row.1.1.1.1.0) (own_built_in p slot) few_own (sized_small k sound slot rec is_rec rec.size (omega arith)) [] row.1.1.1.1.1
