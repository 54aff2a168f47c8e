-- A line of `mv` gives a file the words that its `add` left out.
use Rattle.std.proofs.Common.{◌≡◌, ◌⊎◌, ℕ, ◌≤◌, nat_lt, nat_le, Bool, true, false, cond, not, ◌&&◌, ◌||◌, is_some, List, [], ◌∷◌, ◌++◌, length, filter, refl, sym, ap, subst, ◌∙◌, inl, inr, arith}
use Rattle.std.specs.BTreeSet.{insert_key}
use Rattle.std.specs.List.{list_any, list_all}
use Rattle.std.proofs.lemmas.Bool.{false_from_ne_true, not_from_true, leb-true, ltb-true}
use Rattle.std.proofs.lemmas.List.{take-append-drop, length-drop}
use Rattle.lis_graph.specs.Graph.{is_rising}
use Rattle.lis_graph.proofs.Filters.{filter_all}
use Rattle.lis_graph.proofs.Members.{Among, among_append, among_right, any_from_among, filter_among, map_among}
use Rattle.lis_words.specs.Words.{word_cmp, same_word, has_word, is_head, is_built_in}
use Rattle.lis_grammar.specs.Formula.{Formula}
use Rattle.lis_grammar.specs.Places.{resolved}
use Rattle.lis_model.specs.declared.command.Command.TheVariants.{Mv}
use Rattle.lis_model.specs.Sets.{with_words}
use Rattle.lis_model.specs.State.{State, File, WellFormed, is_assignable, file_cmp}
use Rattle.lis_model.specs.Changes.{new_file, has_name, file_of, file_replaced}
use Rattle.lis_model.specs.Places.{place_words}
use Rattle.lis_model.specs.Table.{Entry, entry_of, table}
use Rattle.lis_model.specs.Listing.{extension, holds_all}
use Rattle.lis_model.specs.Step.{Situation, Item, no_payload, step, changed, exceeds_known, exceeds_words, is_here, here_checks, tags_at, retagged, mv_checks, mv_with, mv_to, judged}
use Rattle.lis_model.specs.Step.Item.{Do}
use Rattle.lis_laws.proofs.Members.{word_order, same_word_decides}
use Rattle.lis_laws.proofs.Counts.{all_among, all_from}
use Rattle.lis_laws.proofs.Forms.{file_order}
use Rattle.lis_laws.proofs.Sources.{assigned_are}
use Rattle.lis_laws.proofs.Steps.{NoneStands}
use Rattle.lis_replay.specs.Dump.{joined_with, first_words, other_words}
use Rattle.lis_replay.proofs.Rising.{rising_back, insert_behind, insert_all_next}
use Rattle.lis_replay.proofs.Led.{said_ok, not_refused}
use Rattle.lis_replay.proofs.Lower.{barer_itself, IsLower, room_known, room_words}
use Rattle.lis_replay.proofs.Mkdirs.{at_root}
use Rattle.lis_replay.proofs.Lists.{none_any, among_drop}
use Rattle.lis_replay.proofs.Given.{IsGiven, given_words}
use Rattle.lis_replay.proofs.Paths.{IsPath, steps_for, path_leads, path_names, path_has, path_tags}
use Rattle.lis_replay.proofs.Adds.{begun, by_files, IsNext, name_new, files_lower}

-- ---- the last file of a list, by its name
-- no other has it
last_of : (files : List File) (last : File) → has_name files last.name ≡ false → file_of (files ++ last ∷ []) last.name ≡ last
last_of [] last new = rw ((same_word_decides last.name last.name).1 refl) refl
last_of (file ∷ files) last new = by (same_word file.name last.name) new (last_of files last)
  where
    by : (b : Bool) → (b || has_name files last.name) ≡ false → (has_name files last.name ≡ false → file_of (files ++ last ∷ []) last.name ≡ last)
        → cond b file (file_of (files ++ last ∷ []) last.name) ≡ last
    by true other more = absurd cc
    by false other more = more other

without_last : (files : List File) (last : File) → has_name files last.name ≡ false → filter (λ (file : File). not (same_word file.name last.name)) (files ++ last ∷ []) ≡ files
without_last [] last new = rw ((same_word_decides last.name last.name).1 refl) refl
without_last (file ∷ files) last new = by (same_word file.name last.name) new (without_last files last)
  where
    rest : List File
    rest = filter (λ (f : File). not (same_word f.name last.name)) (files ++ last ∷ [])

    by : (b : Bool) → (b || has_name files last.name) ≡ false → (has_name files last.name ≡ false → rest ≡ files) → cond (not b) (file ∷ rest) rest ≡ file ∷ files
    by true other more = absurd cc
    by false other more = ap (λ fs. file ∷ fs) (more other)

-- each file is at the root
at_root_here : (s : State) (file : File) → Among s.files file → is_here (at_root s) file.name ≡ true
at_root_here s file m =
    any_from_among (λ (e : Entry). same_word e.name file.name) (extension (table s) []) (entry_of s.declared s.axioms file)
    (filter_among (holds_all []) (table s).files (entry_of s.declared s.axioms file) (map_among (entry_of s.declared s.axioms) s.files file m) refl)
    ((same_word_decides file.name file.name).1 refl)

abbrev pub mv_item : List ℕ → List (List ℕ) → Item
mv_item name words = Do (Mv name (joined_with 47 words)) no_payload

module _ (t : State) (formed : WellFormed t) (front : List File) (file : File) (next : IsNext t formed front file)
    (word : List ℕ) (words : List (List ℕ)) (others : other_words file ≡ word ∷ words) where
  abbrev now : Situation
  now = at_root (by_files t formed (front ++ begun file ∷ []))

  abbrev made : State
  made = by_files t formed (front ++ file ∷ [])

  abbrev place : List Formula
  place = steps_for (word ∷ words)

  member : Among t.files file
  member = next.there file (inl refl)

  of_file : (w : List ℕ) → Among (word ∷ words) w → Among file.assigned w
  of_file w m = among_drop 8 file.assigned w (subst (λ ws. Among ws w) (sym others) m)

  given : (w : List ℕ) → Among (word ∷ words) w → IsGiven w
  given w m = given_words t formed file member w (of_file w m)

  few : length file.assigned ≤ 16
  few = leb-true _ _ (all_among (λ (f : File). nat_le (length f.assigned) 16) t.files file formed.files.few_assigned member)

  rising : is_rising word_cmp file.assigned ≡ true
  rising = all_among (λ (f : File). is_rising word_cmp f.assigned) t.files file formed.files.assigned_sets member

  both : first_words file ++ word ∷ words ≡ file.assigned
  both = ap (λ ws. first_words file ++ ws) (sym others) ∙ take-append-drop 8 file.assigned

  path : IsPath word words
  path = record {
    given = given;
    few = omega (arith, few, length-drop 8 file.assigned, ap length others);
    rising = rising_back word_cmp word_order (first_words file) (word ∷ words) (ap (is_rising word_cmp) both ∙ rising);
  }

  -- with its other words it has all
  all_words : retagged (first_words file) [] (tags_at place) ≡ file.assigned
  all_words =
      ap (λ ws. retagged (first_words file) [] ws) (path_tags word words path)
      ∙ ap (λ ws. with_words ws (word ∷ words)) (filter_all (λ w. not (has_word [] w)) (first_words file) (λ w m. refl))
      ∙ insert_all_next word_cmp word_order (first_words file) (word ∷ words) (ap (is_rising word_cmp) both ∙ rising)
      ∙ both

  -- and replaces what it was
  replaced : file_replaced now.state file.name file ≡ made
  replaced =
      ap (λ files. by_files t formed (insert_key file_cmp files file)) (without_last front (begun file) (name_new t formed front file next))
      ∙ ap (λ files. by_files t formed files) (insert_behind file_cmp file_order front file next.above)

  lower : IsLower made t
  lower = files_lower t formed front file file next (barer_itself file) (front ++ file ∷ []) (λ f m. by f (among_append front (file ∷ []) f m))
    where
      by : (f : File) → Among front f ⊎ Among (file ∷ []) f → (file ≡ f) ⊎ Among front f
      by f (inl m) = inr m
      by f (inr (inl same)) = inl same
      by f (inr (inr none)) = absurd none

  none_stands : NoneStands (here_checks now file.name ++ mv_checks now place (word ∷ words) file made)
  none_stands = (here, (known_place, (own, (no_heads, (assignable, (not_many, (described, (known, tt))))))))
    where
      here : not (is_here now file.name) ≡ false
      here = not_from_true _ (at_root_here now.state (begun file) (among_right front (begun file ∷ []) (begun file) (inl refl)))

      known_place : not (is_some (place_words []) && is_some (place_words place)) ≡ false
      known_place = rw (path_has word words path) refl

      own : list_any is_built_in (word ∷ words) ≡ false
      own = none_any is_built_in (word ∷ words) (λ w m. (given w m).not_built_in)

      no_heads : list_any is_head (word ∷ words) ≡ false
      no_heads = none_any is_head (word ∷ words) (λ w m. (given w m).no_head)

      assignable : not (list_all (is_assignable t.declared) (tags_at place)) ≡ false
      assignable =
          not_from_true _ (ap (list_all (is_assignable t.declared)) (path_tags word words path)
          ∙ all_from (is_assignable t.declared) (word ∷ words) (λ w m. assigned_are t formed file member w (of_file w m)))

      not_many : nat_lt 16 (length file.assigned) ≡ false
      not_many = false_from_ne_true (nat_lt 16 (length file.assigned)) (λ h. omega (arith, ltb-true _ _ h, few))

      described : exceeds_words made ≡ false
      described = room_words made t formed lower

      known : exceeds_known made ≡ false
      known = room_known made t formed lower formed.declared_set

  pub mv_steps : step now (mv_item file.name (word ∷ words)) ≡ said_ok (at_root made)
  unfolding step
  mv_steps =
      ap (λ (old : File). mv_to now old text (resolved [] text)) (last_of front (begun file) (name_new t formed front file next))
      ∙ ap (λ r. mv_to now (begun file) text r) (path_leads word words path)
      ∙ ap (λ names. mv_with now place names (begun file) (new_file file.name (retagged (first_words file) [] (tags_at place)) file.bytes)) (path_names word words path)
      ∙ ap (λ assigned. mv_with now place (word ∷ words) (begun file) (new_file file.name assigned file.bytes)) all_words
      ∙ ap (λ s. judged now (here_checks now (begun file).name ++ mv_checks now place (word ∷ words) file s) (changed now s)) replaced
      ∙ not_refused now (here_checks now file.name ++ mv_checks now place (word ∷ words) file made) (changed now made) none_stands
    where
      text : List ℕ
      text = joined_with 47 (word ∷ words)
