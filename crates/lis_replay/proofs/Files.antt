-- The lines of all files make them, in their order, if all words are declared.
use Rattle.std.proofs.Common.{◌≡◌, ℕ, List, [], ◌∷◌, ◌++◌, refl, sym, ap, subst, ◌∙◌, append_assoc, append-nil}
use Rattle.std.specs.List.{flat_map}
use Rattle.std.proofs.lemmas.List.{take-append-drop}
use Rattle.lis_model.specs.State.{State, File, WellFormed}
use Rattle.lis_model.specs.Step.{Item}
use Rattle.lis_replay.specs.Dump.{first_words, other_words}
use Rattle.lis_replay.proofs.Led.{LeadsTo, led_nowhere, led_on, led_both}
use Rattle.lis_replay.proofs.Mkdirs.{at_root}
use Rattle.lis_replay.proofs.Adds.{add_item, begun, by_files, IsNext, is_next, add_steps}
use Rattle.lis_replay.proofs.Moves.{mv_item, mv_steps}

abbrev pub mv_items : List ℕ → List (List ℕ) → List Item
mv_items name [] = []
mv_items name (word ∷ words) = mv_item name (word ∷ words) ∷ []

abbrev pub file_items : File → List Item
file_items file = add_item file ∷ mv_items file.name (other_words file)

module _ (t : State) (formed : WellFormed t) where
  -- a file that has all its words already
  whole : (file : File) → other_words file ≡ [] → begun file ≡ file
  whole file none =
      let all : first_words file ≡ file.assigned = sym (append-nil (first_words file)) ∙ ap (λ ws. first_words file ++ ws) (sym none) ∙ take-append-drop 8 file.assigned in
      ap (λ (words : List (List ℕ)). record { name = file.name; bytes = file.bytes; assigned = words }) all

  file_leads : (front : List File) (file : File) → IsNext t formed front file → LeadsTo (at_root (by_files t formed (front))) (file_items file) (at_root (by_files t formed (front ++ file ∷ [])))
  file_leads front file next =
      led_on (at_root (by_files t formed front)) (at_root (by_files t formed (front ++ begun file ∷ []))) (at_root (by_files t formed (front ++ file ∷ []))) (add_item file) (mv_items file.name (other_words file))
      (add_steps t formed front file next) (moves (other_words file) refl)
    where
      moves : (words : List (List ℕ)) → other_words file ≡ words
          → LeadsTo (at_root (by_files t formed (front ++ begun file ∷ []))) (mv_items file.name words) (at_root (by_files t formed (front ++ file ∷ [])))
      moves [] none = subst (λ (f : File). LeadsTo (at_root (by_files t formed (front ++ begun file ∷ []))) [] (at_root (by_files t formed (front ++ f ∷ [])))) (whole file none) (led_nowhere (at_root (by_files t formed (front ++ begun file ∷ []))))
      moves (word ∷ words) others =
          led_on (at_root (by_files t formed (front ++ begun file ∷ []))) (at_root (by_files t formed (front ++ file ∷ []))) (at_root (by_files t formed (front ++ file ∷ []))) (mv_item file.name (word ∷ words)) []
          (mv_steps t formed front file next word words others) (led_nowhere (at_root (by_files t formed (front ++ file ∷ []))))

  pub files_lead : (front rest : List File) → t.files ≡ front ++ rest → LeadsTo (at_root (by_files t formed front)) (flat_map file_items rest) (at_root (by_files t formed t.files))
  files_lead front [] is =
      subst (λ files. LeadsTo (at_root (by_files t formed front)) [] (at_root (by_files t formed files))) (sym (append-nil front) ∙ sym is) (led_nowhere (at_root (by_files t formed front)))
  files_lead front (file ∷ rest) is =
      led_both (at_root (by_files t formed front)) (at_root (by_files t formed (front ++ file ∷ []))) (at_root (by_files t formed t.files)) (file_items file) (flat_map file_items rest)
      (file_leads front file (is_next t formed front file rest is))
      (files_lead (front ++ file ∷ []) rest (is ∙ sym (append_assoc front (file ∷ []) rest)))
