-- Changes of a state.
use Rattle.std.specs.Prelude.{ℕ, Bool, not, ◌&&◌, if◌then◌else◌, List, [], ◌∷◌, filter}
use Rattle.std.specs.BTreeSet.{insert_key}
use Rattle.std.specs.List.{list_any, fold}
use Rattle.lis_words.specs.Words.{same_word}
use Rattle.lis_model.specs.Sets.{with_word}
use Rattle.lis_model.specs.State.{State, File, pair_cmp, file_cmp}

abbrev pub with_axiom : List (List ℕ × List ℕ) → List ℕ × List ℕ → List (List ℕ × List ℕ)
with_axiom axioms pair = insert_key pair_cmp axioms pair

abbrev pub same_pair : List ℕ × List ℕ → List ℕ × List ℕ → Bool
same_pair a b = same_word a.0 b.0 && same_word a.1 b.1

abbrev pub has_axiom : List (List ℕ × List ℕ) → List ℕ × List ℕ → Bool
has_axiom axioms pair = list_any (λ p. same_pair p pair) axioms

-- with a word, and with an axiom from it to each of the others
abbrev pub declared_under : State → List ℕ → List (List ℕ) → State
declared_under s word words = record s {
  declared = with_word s.declared word;
  axioms = fold (λ axioms q. with_axiom axioms (word, q)) s.axioms words;
}

abbrev pub undeclared : State → List ℕ → State
undeclared s word = record s { declared = filter (λ w. not (same_word w word)) s.declared }

abbrev pub axiom_added : State → List ℕ × List ℕ → State
axiom_added s pair = record s { axioms = with_axiom s.axioms pair }

abbrev pub axiom_removed : State → List ℕ × List ℕ → State
axiom_removed s pair = record s { axioms = filter (λ p. not (same_pair p pair)) s.axioms }

abbrev pub new_file : List ℕ → List (List ℕ) → List ℕ → File
new_file name assigned bytes = record { name = name; bytes = bytes; assigned = assigned }

abbrev pub has_name : List File → List ℕ → Bool
has_name files name = list_any (λ (file : File). same_word file.name name) files

-- the file of that name; if there is none, an empty one, which no command looks at
abbrev pub file_of : List File → List ℕ → File
file_of [] name = new_file name [] []
file_of (file ∷ files) name = if same_word file.name name then file else file_of files name

abbrev pub file_added : State → File → State
file_added s file = record s { files = insert_key file_cmp s.files file }

-- all files except that of this name
abbrev pub file_removed : State → List ℕ → State
file_removed s name = record s { files = filter (λ (file : File). not (same_word file.name name)) s.files }

-- with a file instead of that of this name
abbrev pub file_replaced : State → List ℕ → File → State
file_replaced s name file = file_added (file_removed s name) file
