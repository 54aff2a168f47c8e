-- What a change touches: words that gain or lose a file, and words that enter or leave the known ones.
use Rattle.std.specs.Prelude.{◌*◌, ◌≡◌, ℕ, ◌≤◌, not, Bool, if◌then◌else◌, List, [], ◌∷◌, ◌++◌, length, map, filter, IsTrue}
use Rattle.std.specs.List.{list_any, Contains}
use Rattle.lis_limits.specs.declared.TheConstants.{MAX_DESCRIPTION}
use Rattle.lis_words.specs.Words.{has_word, is_test}
use Rattle.lis_model.specs.State.{State, File, WellFormed, heads, up, description, known}
use Rattle.lis_model.specs.Changes.{declared_under, undeclared, axiom_added, axiom_removed, has_name, file_added, file_removed, file_replaced}
use Rattle.lis_model.specs.Step.{Situation, Item, is_in_use, step}
use Rattle.lis_laws.specs.Changes.{WordFits, AxiomFits}
use Rattle.lis_laws.specs.Steps.{is_formed, IsInForm}

-- the names of the files that have a word
abbrev pub holders : State → List ℕ → List (List ℕ)
holders s word = map (λ (file : File). file.name) (filter (λ (file : File). has_word (description s file) word) s.files)

-- every other word has the same files, and is known or not as before
abbrev pub KeepsHolders : State → State → List (List ℕ) → Type 0
KeepsHolders s t words = (w : List ℕ) → IsTrue (not (has_word words w)) → holders t w ≡ holders s w

abbrev pub KeepsKnown : State → State → List (List ℕ) → Type 0
KeepsKnown s t words = (w : List ℕ) → IsTrue (not (has_word words w)) → has_word (known t) w ≡ has_word (known s) w

abbrev pub Touches : State → State → List (List ℕ) → List (List ℕ) → Type 0
Touches s t words learned = KeepsHolders s t words × KeepsKnown s t learned

abbrev pub is_held : State → List ℕ → Bool
is_held s word = list_any (λ (file : File). has_word (description s file) word) s.files

-- these words, if some file has that one; then they are among the words of the file, if that one entails them
abbrev pub where_held : State → List ℕ → List (List ℕ) → List (List ℕ)
where_held s word words = if is_held s word then words else []

-- Each change touches at most the words that are named here.
abbrev pub ChangesTouch : Type 0
ChangesTouch = (s : State) → WellFormed s → record {
  -- a word that is declared touches files only if it is a test that some file meets, and then with all that it entails
  declares : (word : List ℕ) (words : List (List ℕ)) → WordFits s word words → let t = declared_under s word words in
      Touches s t (where_held t word (up t.declared t.axioms word)) (word ∷ []);
  brings : (word : List ℕ) (words : List (List ℕ)) → WordFits s word words → IsTrue (is_held (declared_under s word words) word) → IsTrue (is_test word);
  undeclares : (word : List ℕ) → IsTrue (not (is_in_use s word)) → Touches s (undeclared s word) (word ∷ []) (word ∷ []);
  -- an axiom touches what its right side entails, and only if a file has its left side
  adds_axiom : (l r : List ℕ) → AxiomFits s (l, r) → Touches s (axiom_added s (l, r)) (where_held s l (up s.declared s.axioms r)) (l ∷ heads l);
  removes_axiom : (l r : List ℕ) → let t = axiom_removed s (l, r) in Touches s t (where_held t l (up t.declared t.axioms r)) (l ∷ heads l);
  -- a file touches its words
  adds_file : (file : File) → IsTrue (not (has_name s.files file.name)) → Touches s (file_added s file) (description s file) (description s file);
  removes_file : (file : File) → Contains s.files file → Touches s (file_removed s file.name) (description s file) (description s file);
  replaces_file : (old new : File) → Contains s.files old → IsTrue (not (has_name (file_removed s old.name).files new.name))
      → Touches s (file_replaced s old.name new) (description s old ++ description s new) (description s old ++ description s new);
}

-- so few words are touched that a command has room for them
pub record TouchesFew (s t : State) : Type 0 where
  pub changed : List (List ℕ)
  pub learned : List (List ℕ)
  pub touches : Touches s t changed learned
  pub few_changed : length changed ≤ 2 * MAX_DESCRIPTION
  pub few_learned : length learned ≤ 2 * MAX_DESCRIPTION

abbrev pub StepsTouchFew : Type 0
StepsTouchFew = (now : Situation) (item : Item) → IsInForm now → IsTrue (is_formed item) → TouchesFew now.state (step now item).next.state
