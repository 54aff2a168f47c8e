-- What a state has: declared words, axioms and files, and the description of a file.
use Rattle.std.specs.Prelude.{◌-◌, ℕ, ◌+◌, ◌/◌, ◌==◌, ◌≤◌, ◌*◌, min, nat_le, Bool, not, ◌&&◌, ◌||◌, if◌then◌else◌, List, [], ◌∷◌, ◌++◌, length, map, sum, IsTrue}
use Rattle.std.specs.List.{list_all, flat_map}
use Rattle.std.specs.declared.cmp.Ordering.{Ordering}
use Rattle.std.specs.Ordering.{ordering_then}
use Rattle.lis_limits.specs.declared.TheConstants.{BLOCK_LEN, MAX_ASSIGNED, MAX_DESCRIPTION, MAX_FILE, MAX_LARGE_FILE, NUMBERS_PER_INDEX, SLOT_BLOCKS, V3_MAX_FILE}
use Rattle.lis_graph.specs.Graph as graph
use Rattle.lis_graph.specs.Graph.{is_rising}
use Rattle.lis_words.specs.Words.{word_cmp, same_word, has_word, head_bytes, is_plain_word, is_head, is_valued, is_test, is_built_in, is_file_name}
use Rattle.lis_model.specs.declared.limits.Limits.{Limits}
use Rattle.lis_model.specs.Ranges.{are_in_range}
use Rattle.lis_model.specs.Sets.{with_words, set_of}
use Rattle.lis_model.specs.Derived.{derived_words}
use Rattle.lis_model.specs.Tests.{weaker_tests, met_tests}

pub record File : Type 0 where
  pub name : List ℕ
  pub bytes : List ℕ
  -- the words that were assigned to it, a set
  pub assigned : List (List ℕ)

pub record State : Type 0 where
  pub limits : Limits
  -- a set of words
  pub declared : List (List ℕ)
  -- pairs of a left and a right side, in order and without repeats
  pub axioms : List (List ℕ × List ℕ)
  -- in the order of their names
  pub files : List File

abbrev pub empty_state : Limits → State
empty_state limits = record { limits = limits; declared = []; axioms = []; files = [] }

-- the head of a valued word
abbrev pub heads : List ℕ → List (List ℕ)
heads word = if is_valued word then head_bytes word ∷ [] else []

-- a word's own links: to its head, and to the declared tests that are weaker
abbrev pub links : List (List ℕ) → List ℕ → List (List ℕ)
links declared word = heads word ++ weaker_tests declared word

-- Some chain of links leads from p to q; it may be empty. A link goes from a valued word to its head, from a declared test to a weaker one,
-- and from the left side of an axiom to its right side.
abbrev pub Entails : List (List ℕ) → List (List ℕ × List ℕ) → List ℕ → List ℕ → Type 0
Entails declared axioms p q = graph.Entails (links declared) axioms p q

-- no chain of at least one link leads from a word to itself
abbrev pub Acyclic : List (List ℕ) → List (List ℕ × List ℕ) → Type 0
Acyclic declared axioms = graph.Acyclic (links declared) axioms

-- what a word entails, itself included
abbrev pub up : List (List ℕ) → List (List ℕ × List ℕ) → List ℕ → List (List ℕ)
up declared axioms p = graph.up same_word word_cmp (links declared) axioms p

-- the test of `Acyclic`
abbrev pub is_acyclic : List (List ℕ) → List (List ℕ × List ℕ) → Bool
is_acyclic declared axioms = graph.is_acyclic same_word word_cmp (links declared) axioms

-- what any of the words entails
abbrev pub all_up : List (List ℕ) → List (List ℕ × List ℕ) → List (List ℕ) → List (List ℕ)
all_up declared axioms words = set_of (flat_map (up declared axioms) words)

-- a file's own words: those assigned to it, those derived from its name and bytes, and the declared tests that it meets
abbrev pub own_words : List (List ℕ) → File → List (List ℕ)
own_words declared file = file.assigned ++ derived_words file.name file.bytes ++ met_tests declared (length file.bytes)

-- with all that they entail
abbrev pub file_words : List (List ℕ) → List (List ℕ × List ℕ) → File → List (List ℕ)
file_words declared axioms file = all_up declared axioms (own_words declared file)

abbrev pub description : State → File → List (List ℕ)
description s file = file_words s.declared s.axioms file

-- the left sides of axioms, and their heads
abbrev pub left_words : State → List (List ℕ)
left_words s = map (λ pair. pair.0) s.axioms ++ flat_map (λ pair. heads pair.0) s.axioms

-- the declared words, the left sides of axioms and their heads, and all descriptions
abbrev pub known : State → List (List ℕ)
known s = with_words s.declared (left_words s ++ flat_map (description s) s.files)

-- what may be declared, assigned, and named by an axiom or a formula
abbrev pub is_declarable : List ℕ → Bool
is_declarable word = is_plain_word word || is_test word || (is_head word && not (is_built_in word))

abbrev pub is_assignable : List (List ℕ) → List ℕ → Bool
is_assignable declared word =
    (is_plain_word word && has_word declared word) || (is_valued word && has_word declared (head_bytes word))

abbrev pub is_known_head : List (List ℕ) → List ℕ → Bool
is_known_head declared word = is_head word && (has_word declared word || is_built_in word)

abbrev pub is_nameable : List (List ℕ) → List ℕ → Bool
is_nameable declared word =
    ((is_plain_word word || is_test word) && has_word declared word) || is_known_head declared word
    || (is_valued word && is_known_head declared (head_bytes word))

-- axioms are in the order of their left sides, and then of their right sides; files in the order of their names
abbrev pub pair_cmp : List ℕ × List ℕ → List ℕ × List ℕ → Ordering
pair_cmp a b = ordering_then (word_cmp a.0 b.0) (word_cmp a.1 b.1)

abbrev pub file_cmp : File → File → Ordering
file_cmp a b = word_cmp a.name b.name

-- how many bytes a file may have: in version 3 no more than the data blocks have
abbrev pub file_limit : Limits → ℕ
file_limit limits =
    if limits.version == 1 then MAX_FILE
    else if limits.version == 2 then MAX_LARGE_FILE
    else min V3_MAX_FILE (BLOCK_LEN * limits.blocks)

-- how many blocks this many bytes fill
abbrev pub blocks_needed : ℕ → ℕ
blocks_needed bytes = (bytes + (BLOCK_LEN - 1)) / BLOCK_LEN

-- How many blocks number the blocks of a content: none in version 1, and none if the slot of its file has room for their numbers;
-- otherwise one for each 1,024 of them.
abbrev pub index_blocks : ℕ → ℕ → ℕ
index_blocks version blocks =
    if (version == 1) || nat_le blocks SLOT_BLOCKS then 0 else (blocks + (NUMBERS_PER_INDEX - 1)) / NUMBERS_PER_INDEX

-- how many blocks this many bytes take, with those that number them
abbrev pub blocks_taken : ℕ → ℕ → ℕ
blocks_taken version bytes = blocks_needed bytes + index_blocks version (blocks_needed bytes)

-- the blocks that the files take
abbrev pub used_blocks : State → ℕ
used_blocks s = sum (map (λ (file : File). blocks_taken s.limits.version (length file.bytes)) s.files)

-- the axioms are of words that may be their sides, and make no cycle
pub record AxiomsAreFormed (s : State) : Type 0 where
  pub rights : IsTrue (list_all (λ pair. is_plain_word pair.1 && has_word s.declared pair.1) s.axioms)
  pub lefts : IsTrue (list_all (λ pair. is_nameable s.declared pair.0) s.axioms)
  pub acyclic : Acyclic s.declared s.axioms

-- each file's name, words and bytes are within the limits
pub record FilesAreFormed (s : State) : Type 0 where
  pub names : IsTrue (list_all (λ (file : File). is_file_name file.name) s.files)
  pub assigned_sets : IsTrue (list_all (λ (file : File). is_rising word_cmp file.assigned) s.files)
  pub assigned : IsTrue (list_all (λ (file : File). list_all (is_assignable s.declared) file.assigned) s.files)
  pub few_assigned : IsTrue (list_all (λ (file : File). nat_le (length file.assigned) MAX_ASSIGNED) s.files)
  pub few_words : IsTrue (list_all (λ (file : File). nat_le (length (description s file)) MAX_DESCRIPTION) s.files)
  pub short : IsTrue (list_all (λ (file : File). nat_le (length file.bytes) (file_limit s.limits)) s.files)

-- what every command keeps
pub record WellFormed (s : State) : Type 0 where
  pub limits : IsTrue (are_in_range s.limits)
  pub declared_set : IsTrue (is_rising word_cmp s.declared)
  pub axiom_set : IsTrue (is_rising pair_cmp s.axioms)
  pub file_set : IsTrue (is_rising file_cmp s.files)
  pub declared : IsTrue (list_all is_declarable s.declared)
  pub axioms : AxiomsAreFormed s
  pub files : FilesAreFormed s
  pub few_files : length s.files ≤ s.limits.files
  pub few_known : length (known s) ≤ s.limits.props
  pub few_axioms : length s.axioms ≤ s.limits.props
  pub few_blocks : used_blocks s ≤ s.limits.blocks
