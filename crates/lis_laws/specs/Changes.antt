-- What must hold of a change so that it keeps a state well formed.
use Rattle.std.specs.Prelude.{ℕ, ◌+◌, ◌<◌, ◌≤◌, nat_le, not, ◌&&◌, List, length, IsTrue}
use Rattle.std.specs.List.{list_all, Contains}
use Rattle.lis_limits.specs.declared.TheConstants.{MAX_ASSIGNED, MAX_DESCRIPTION}
use Rattle.lis_words.specs.Words.{word_cmp, has_word, is_plain_word, is_file_name}
use Rattle.lis_graph.specs.Graph.{is_rising}
use Rattle.lis_model.specs.State.{State, File, WellFormed, up, description, known, is_declarable, is_assignable, is_nameable, file_limit, blocks_taken, used_blocks}
use Rattle.lis_model.specs.Changes.{with_axiom, declared_under, undeclared, axiom_added, axiom_removed, file_added, file_removed, file_replaced}
use Rattle.lis_model.specs.Step.{is_in_use}

-- a word to declare under others, which are plain and declared
pub record WordFits (s : State) (word : List ℕ) (words : List (List ℕ)) : Type 0 where
  pub form : IsTrue (is_declarable word)
  pub new : IsTrue (not (has_word s.declared word))
  pub over : IsTrue (list_all (λ q. is_plain_word q && has_word s.declared q) words)
  pub few_axioms : length (declared_under s word words).axioms ≤ s.limits.props
  pub few_known : length (known (declared_under s word words)) ≤ s.limits.props
  pub few_words : IsTrue (list_all (λ (file : File). nat_le (length (description (declared_under s word words) file)) MAX_DESCRIPTION) s.files)

pub record AxiomFits (s : State) (pair : List ℕ × List ℕ) : Type 0 where
  pub right : IsTrue (is_plain_word pair.1 && has_word s.declared pair.1)
  pub left : IsTrue (is_nameable s.declared pair.0)
  pub no_circle : IsTrue (not (has_word (up s.declared s.axioms pair.1) pair.0))
  pub few_axioms : length (with_axiom s.axioms pair) ≤ s.limits.props
  pub few_known : length (known (axiom_added s pair)) ≤ s.limits.props
  pub few_words : IsTrue (list_all (λ (file : File). nat_le (length (description (axiom_added s pair) file)) MAX_DESCRIPTION) s.files)

pub record FileFits (s : State) (file : File) : Type 0 where
  pub name : IsTrue (is_file_name file.name)
  pub assigned_set : IsTrue (is_rising word_cmp file.assigned)
  pub assigned : IsTrue (list_all (is_assignable s.declared) file.assigned)
  pub few_assigned : length file.assigned ≤ MAX_ASSIGNED
  pub few_words : length (description s file) ≤ MAX_DESCRIPTION
  pub short : length file.bytes ≤ file_limit s.limits
  pub few_files : length s.files < s.limits.files
  pub few_known : length (known (file_added s file)) ≤ s.limits.props
  pub few_blocks : used_blocks s + blocks_taken s.limits.version (length file.bytes) ≤ s.limits.blocks

-- a file that replaces another one
pub record FileReplaces (s : State) (old new : File) : Type 0 where
  pub name : IsTrue (is_file_name new.name)
  pub assigned_set : IsTrue (is_rising word_cmp new.assigned)
  pub assigned : IsTrue (list_all (is_assignable s.declared) new.assigned)
  pub few_assigned : length new.assigned ≤ MAX_ASSIGNED
  pub few_words : length (description s new) ≤ MAX_DESCRIPTION
  pub short : length new.bytes ≤ file_limit s.limits
  pub few_known : length (known (file_replaced s old.name new)) ≤ s.limits.props
  pub few_blocks : used_blocks s + blocks_taken s.limits.version (length new.bytes) ≤ s.limits.blocks + blocks_taken s.limits.version (length old.bytes)

-- Each change keeps a state well formed if what it adds is well formed and within the limits. To remove a declared word it must not be in
-- use; removing an axiom or a file needs nothing more.
abbrev pub ChangesKeepForm : Type 0
ChangesKeepForm = (s : State) → WellFormed s → record {
  declares : (word : List ℕ) (words : List (List ℕ)) → WordFits s word words → WellFormed (declared_under s word words);
  undeclares : (word : List ℕ) → IsTrue (not (is_in_use s word)) → WellFormed (undeclared s word);
  adds_axiom : (pair : List ℕ × List ℕ) → AxiomFits s pair → WellFormed (axiom_added s pair);
  removes_axiom : (pair : List ℕ × List ℕ) → WellFormed (axiom_removed s pair);
  adds_file : (file : File) → FileFits s file → WellFormed (file_added s file);
  replaces_file : (old new : File) → Contains s.files old → FileReplaces s old new → WellFormed (file_replaced s old.name new);
  removes_file : (name : List ℕ) → WellFormed (file_removed s name);
}
