-- A view that is put back unchanged leaves the state.
use Rattle.std.proofs.Common.{◌≡◌, ℕ, ◌+◌, ◌≤◌, ◌==◌, nat_lt, nat_le, Bool, true, false, not, ◌&&◌, ◌||◌, cond, List, [], ◌∷◌, length, filter, Result, Ok, Err, refl, ap, sym, ◌∙◌, inl, arith}
use Rattle.std.specs.declared.cmp.Ordering.TheVariants.{Less, Equal, Greater}
use Rattle.std.specs.Ordering.{ordering_reverse, is_lt, match_ordering}
use Rattle.std.specs.BTreeSet.{insert_key}
use Rattle.std.specs.Cmp.{tied_itself}
use Rattle.std.specs.List.{list_all}
use Rattle.std.proofs.lemmas.Bool.{and_parts, false_from_ne_true, not_from_true, leb-true, le-leb, le-ltb, ltb-true}
use Rattle.lis_graph.specs.Graph.{is_rising}
use Rattle.lis_graph.proofs.Members.{Among, any_from_among, among_from_any, filter_among, map_among}
use Rattle.lis_words.specs.Words.{word_cmp, same_word}
use Rattle.lis_graph.proofs.Filters.{filter_all}
use Rattle.lis_graph.proofs.Sets.{less_from}
use Rattle.lis_grammar.specs.Formula.{Formula}
use Rattle.lis_model.specs.declared.refusal.Refusal.{Refusal}
use Rattle.lis_model.specs.declared.refusal.Refusal.TheVariants.{NoFileHere, LargeDescription, LargeFile, NoPropertyRoom, NoSpace}
use Rattle.lis_model.specs.Changes.{new_file, has_name, file_of, file_replaced}
use Rattle.lis_model.specs.Listing.{extension, holds_all}
use Rattle.lis_model.specs.Replies.{ok_line, refusal_line}
use Rattle.lis_model.proofs.Ranges.{limit_le}
use Rattle.lis_model.specs.Script.{payload_limit, payload_of}
use Rattle.lis_model.specs.State.{State, File, WellFormed, file_cmp, file_limit, blocks_taken, description, known}
use Rattle.lis_model.specs.Step.{Situation, Outcome, refused, changed, judged, free_blocks, blocks_for, exceeds_file, exceeds_known, exceeds_words, is_here, write_checks, write_with, write}
use Rattle.lis_model.specs.Table.{Entry, table, entry_of}
use Rattle.lis_laws.proofs.Counts.{all_among}
use Rattle.lis_laws.proofs.Forms.{file_order}
use Rattle.lis_laws.proofs.Members.{same_word_decides}
use Rattle.lis_laws.proofs.Named.{file_of_name, file_of_there}
use Rattle.lis_store.specs.Retagging.{place_or_refusal}
use Rattle.lis_views.specs.Views.{view_of}
use Rattle.lis_views.specs.Edits.{back_of}
use Rattle.lis_views.proofs.Edits.{unchanged_stays}
use Rattle.lis_session.specs.Parts.{only_shows}
use Rattle.lis_session.specs.Session.{root_of}
use Rattle.lis_parts.specs.Commands.{formula_of, done_of, bytes_of, put_as}
use Rattle.lis_parts.specs.Laws.{lacks_space, space_line, LeavesState, UnchangedViewLeaves}

-- ---- a file that is removed from a list and inserted again
module _ (file : File) (files : List File) (below : list_all (λ other. is_lt (file_cmp file other)) files ≡ true) where
  first_below : (other : File) → Among files other → file_cmp file other ≡ Less
  first_below other there = less_from (file_cmp file other) (all_among (λ other. is_lt (file_cmp file other)) files other below there)

  -- no other file has its name
  first_alone : (name : List ℕ) → file.name ≡ name → (other : File) → Among files other → not (same_word other.name name) ≡ true
  first_alone name is other there = by (same_word other.name name) refl
    where
      by : (b : Bool) → same_word other.name name ≡ b → not b ≡ true
      by true e =
          let same : other.name ≡ file.name = (same_word_decides other.name name).0 e ∙ sym is in
          let level : file_cmp file other ≡ Equal = ap (λ word. word_cmp file.name word) same ∙ tied_itself file_order file in
          let less : file_cmp file other ≡ Less = first_below other there in
          absurd cc
      by false e = refl

put_first : (file : File) (files : List File) → list_all (λ other. is_lt (file_cmp file other)) files ≡ true → insert_key file_cmp files file ≡ file ∷ files
put_first file [] below = refl
put_first file (next ∷ files) below = ap (λ r. match_ordering r (file ∷ next ∷ files) (next ∷ files) (next ∷ insert_key file_cmp files file)) (first_below file (next ∷ files) below next (inl refl))

put_again : (files : List File) (name : List ℕ) → is_rising file_cmp files ≡ true → has_name files name ≡ true
    → insert_key file_cmp (filter (λ (f : File). not (same_word f.name name)) files) (file_of files name) ≡ files
put_again [] name rising has = absurd cc
put_again (file ∷ files) name rising has = by (same_word file.name name) refl has (put_again files name (and_parts _ _ rising).1)
  where
    others : List File
    others = filter (λ (f : File). not (same_word f.name name)) files

    below : list_all (λ other. is_lt (file_cmp file other)) files ≡ true
    below = (and_parts _ _ rising).0

    by : (b : Bool) → same_word file.name name ≡ b → (b || has_name files name) ≡ true
        → (has_name files name ≡ true → insert_key file_cmp others (file_of files name) ≡ files)
        → insert_key file_cmp (cond (not b) (file ∷ others) others) (cond b file (file_of files name)) ≡ file ∷ files
    by true is some more =
        ap (λ (fs : List File). insert_key file_cmp fs file) (filter_all (λ (f : File). not (same_word f.name name)) files (first_alone file files below name ((same_word_decides file.name name).0 is)))
        ∙ put_first file files below
    by false is some more =
        let old : File = file_of files name in
        let above : file_cmp old file ≡ Greater = file_order.antisymm old file ∙ ap ordering_reverse (first_below file files below old (file_of_there files name some)) in
        ap (λ r. match_ordering r (old ∷ file ∷ others) (file ∷ others) (file ∷ insert_key file_cmp others old)) above ∙ ap (λ fs. file ∷ fs) (more some)

-- ---- a file that is written as it is
-- a row of which only the last refusal may hold
row_left : (now : Situation) (done : Outcome) (large nowhere many crowded full : Bool) → large ≡ false → nowhere ≡ false → many ≡ false → crowded ≡ false
    → judged now ((large, LargeFile) ∷ (nowhere, NoFileHere) ∷ (many, LargeDescription) ∷ (crowded, NoPropertyRoom) ∷ (full, NoSpace) ∷ []) done ≡ cond full (refused now NoSpace) done
row_left now done large nowhere many crowded full a b c d = rw (a, b, c, d) refl

space_is : (one : Bool) (free taken : ℕ) → nat_lt (cond one (free + taken) free) taken ≡ (not one && nat_lt free taken)
space_is true free taken = le-ltb (free + taken) taken (omega arith)
space_is false free taken = refl

answers : (now : Situation) (full : Bool) → cond full (refused now NoSpace) (changed now now.state) ≡ only_shows (cond full (refusal_line NoSpace) ok_line) now
answers now true = refl
answers now false = refl

module _ (s : State) (formed : WellFormed s) (name : List ℕ) (has : has_name s.files name ≡ true) where
  abbrev old : File
  old = file_of s.files name

  there : Among s.files old
  there = file_of_there s.files name has

  same_state : file_replaced s old.name old ≡ s
  same_state = ap (λ n. file_replaced s n old) (file_of_name s.files name) ∙ ap (λ files. record s { files = files }) (put_again s.files name formed.file_set has)

  short : length old.bytes ≤ file_limit s.limits
  short = leb-true _ _ (all_among (λ (f : File). nat_le (length f.bytes) (file_limit s.limits)) s.files old formed.files.short there)

  not_large : exceeds_file s (length old.bytes) ≡ false
  not_large = le-ltb (file_limit s.limits) (length old.bytes) short

  here : not (is_here (root_of s) old.name) ≡ false
  here =
      not_from_true _ (any_from_among (λ (e : Entry). same_word e.name old.name) (extension (table s) []) (entry_of s.declared s.axioms old)
      (filter_among (holds_all []) (table s).files (entry_of s.declared s.axioms old) (map_among (entry_of s.declared s.axioms) s.files old there) refl)
      ((same_word_decides old.name old.name).1 refl))

  few_words : exceeds_words s ≡ false
  few_words = false_from_ne_true (exceeds_words s) many
    where
      many : exceeds_words s ≡ true → ⊥
      many is =
          let found = among_from_any (λ (f : File). nat_lt 128 (length (description s f))) s.files is in
          let few = leb-true _ _ (all_among (λ (f : File). nat_le (length (description s f)) 128) s.files found.0 formed.files.few_words found.1) in
          omega (arith, few, ltb-true _ _ found.2)

  few_known : exceeds_known s ≡ false
  few_known = le-ltb s.limits.props (length (known s)) formed.few_known

  write_same : write (root_of s) name (payload_of (length old.bytes) old.bytes) ≡ only_shows (space_line s old) (root_of s)
  write_same =
      ap (λ bytes. write_with (root_of s) old (new_file old.name old.assigned bytes) (length old.bytes))
      (ap (λ b. cond b old.bytes []) (le-leb (length old.bytes) payload_limit (omega (arith, short, limit_le s.limits))))
      ∙ (ap (λ (made : State). judged (root_of s) (write_checks (root_of s) old made (length old.bytes)) (changed (root_of s) made)) same_state
      ∙ (row_left (root_of s) (changed (root_of s) s) _ _ _ _ (nat_lt (blocks_for s old) (blocks_taken s.limits.version (length old.bytes))) not_large here few_words few_known
      ∙ (ap (λ full. cond full (refused (root_of s) NoSpace) (changed (root_of s) s)) (space_is (s.limits.version == 1) (free_blocks s) (blocks_taken s.limits.version (length old.bytes)))
      ∙ answers (root_of s) (lacks_space s old))))

-- ---- a view that is put back
module _ (s : State) (formed : WellFormed s) (name : List ℕ) where
  abbrev now : Situation
  now = root_of s

  abbrev viewed : Result (List Formula) Refusal → Outcome
  viewed formula = done_of now name formula (λ place. only_shows (view_of (bytes_of now name) place) now)

  abbrev answered : Result (List Formula) Refusal → Outcome
  answered formula = done_of now name formula (λ place. only_shows (space_line s (file_of s.files name)) now)

  put_same : (formula : Result (List Formula) Refusal) → done_of now name formula (λ place. put_as now name (back_of (bytes_of now name) place (viewed formula).reply)) ≡ answered formula
  put_same (Err refusal) = refl
  put_same (Ok place) = by (has_name s.files name) refl
    where
      by : (b : Bool) → has_name s.files name ≡ b
          → judged now ((not b, NoFileHere) ∷ []) (put_as now name (back_of (bytes_of now name) place (judged now ((not b, NoFileHere) ∷ []) (only_shows (view_of (bytes_of now name) place) now)).reply))
          ≡ judged now ((not b, NoFileHere) ∷ []) (only_shows (space_line s (file_of s.files name)) now)
      by true has = ap (put_as now name) (unchanged_stays (bytes_of now name) place) ∙ write_same s formed name has
      by false has = refl

  answered_stays : (formula : Result (List Formula) Refusal) → (answered formula).next ≡ now
  answered_stays (Err refusal) = refl
  answered_stays (Ok place) = by (has_name s.files name)
    where
      by : (b : Bool) → (judged now ((not b, NoFileHere) ∷ []) (only_shows (space_line s (file_of s.files name)) now)).next ≡ now
      by true = refl
      by false = refl

  leaves_state : (text : List ℕ) → LeavesState s name text
  leaves_state text =
      let formula = place_or_refusal (formula_of text) in
      let answer = put_same formula in
      record { state = ap (λ (o : Outcome). o.next) answer ∙ answered_stays formula; answer = answer }

pub unchanged_view_leaves : UnchangedViewLeaves
unchanged_view_leaves s formed name text = leaves_state s formed name text
