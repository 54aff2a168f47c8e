-- How long a dump is: far below the length at which an input is cut.
use Rattle.std.proofs.Common.{◌≡◌, ℕ, ◌*◌, ◌+◌, ◌≤◌, ◌^◌, true, List, [], ◌∷◌, ◌++◌, length, map, sum, codes, decimal, refl, inl, inr, length-append, arith}
use Rattle.std.specs.List.{flat_map}
use Rattle.std.proofs.Math.Nat.{mul-suc}
use Rattle.std.proofs.lemmas.List.{length-drop}
use Rattle.lis_graph.proofs.Members.{Among}
use Rattle.lis_graph.proofs.Sets.{sorted_from_rising, members_le}
use Rattle.lis_words.specs.Words.{word_cmp, is_word}
use Rattle.lis_model.proofs.Ranges.{few_limits}
use Rattle.lis_model.specs.Replies.{line}
use Rattle.lis_model.specs.State.{State, File, WellFormed, is_declarable, description, known, left_words, blocks_needed, blocks_taken, used_blocks}
use Rattle.lis_laws.proofs.Members.{word_order, with_words_old}
use Rattle.lis_laws.proofs.Counts.{all_among}
use Rattle.lis_laws.proofs.Known.{sorted_known}
use Rattle.lis_replay.specs.Dump.{joined_with, words_line, mkdir_line, axiom_line, other_words, first_words, add_lines, mv_lines, file_lines, dump_of}
use Rattle.lis_replay.proofs.Lists.{among_drop}
use Rattle.std.proofs.lemmas.List.Sums.{sum_by-cons}
use Rattle.lis_replay.proofs.Spelled.{AreWords}
use Rattle.lis_replay.proofs.Lines.{declarable_property, axiom_in_form, IsFileInForm, file_in_form, mkdir_words, axiom_words, add_are, mv_are}

-- ---- limits
-- a state has no more of each than these
record IsSmall (s : State) : Type 0 where
  declared : length s.declared ≤ 1048576
  axioms : length s.axioms ≤ 1048576
  files : length s.files ≤ 262144
  blocks : used_blocks s ≤ 16777216

small_state : (s : State) → WellFormed s → IsSmall s
small_state s formed =
    let most = few_limits s.limits formed.limits in
    record {
      declared = omega (arith, declared_le, formed.few_known, most.props);
      axioms = omega (arith, formed.few_axioms, most.props);
      files = omega (arith, formed.few_files, most.files);
      blocks = omega (arith, formed.few_blocks, most.blocks);
    }
  where
    declared_le : length s.declared ≤ length (known s)
    declared_le =
        members_le word_cmp word_order s.declared (known s) (sorted_from_rising word_cmp word_order s.declared formed.declared_set) (sorted_known s formed.declared_set)
        (λ w m. with_words_old s.declared (left_words s ++ flat_map (description s) s.files) w m)

-- ---- texts
all_short : {A : Type 0} (most : ℕ) (text : A → List ℕ) (xs : List A) → ((x : A) → Among xs x → length (text x) ≤ most) → length (flat_map text xs) ≤ most * length xs
all_short most text [] each = omega arith
all_short most text (x ∷ xs) each =
    omega (arith, mul-suc most (length xs), each x (inl refl), all_short most text xs (λ y m. each y (inr m)), length-append (text x) (flat_map text xs))

line_short : (word : List ℕ) (words : List (List ℕ)) → AreWords word words → length (words_line (word ∷ words)) ≤ 1025
line_short word words are = omega (arith, are.short, length-append (joined_with 32 (word ∷ words)) (10 ∷ []))

-- a file's lines are as long as its bytes, and at most 2,051 bytes more
file_short : (file : File) → IsFileInForm file → length (file_lines file) ≤ 2051 + length file.bytes
file_short file formed =
    omega (
      arith,
      add_short,
      mv_short (other_words file) (omega (arith, formed.few, length-drop 8 file.assigned)) (λ w m. formed.words w (among_drop 8 file.assigned w m)),
      length-append (add_lines file) (mv_lines file.name (other_words file)),
    )
  where
    add_short : length (add_lines file) ≤ 1026 + length file.bytes
    add_short =
        omega (
          arith,
          line_short (codes "add") (file.name ∷ decimal (length file.bytes) ∷ first_words file) (add_are file formed),
          length-append (words_line (codes "add" ∷ file.name ∷ decimal (length file.bytes) ∷ first_words file)) (line file.bytes),
          length-append file.bytes (10 ∷ []),
        )

    mv_short : (words : List (List ℕ)) → length words ≤ 8 → ((w : List ℕ) → Among words w → is_word w ≡ true) → length (mv_lines file.name words) ≤ 1025
    mv_short [] few each = omega arith
    mv_short (word ∷ words) few each = line_short (codes "mv") (file.name ∷ joined_with 47 (word ∷ words) ∷ []) (mv_are file formed word words few each)

-- all bytes of the files are in their blocks
files_short : (version : ℕ) (files : List File) → ((file : File) → Among files file → IsFileInForm file)
    → length (flat_map file_lines files) ≤ 2051 * length files + 4096 * sum (map (λ (file : File). blocks_taken version (length file.bytes)) files)
files_short version [] each = omega arith
files_short version (file ∷ files) each =
    omega (
      arith,
      mul-suc 2051 (length files),
      file_short file (each file (inl refl)),
      in_blocks,
      files_short version files (λ f m. each f (inr m)),
      length-append (file_lines file) (flat_map file_lines files),
      sum_by-cons (λ k. k) (blocks_taken version (length file.bytes)) (map (λ (f : File). blocks_taken version (length f.bytes)) files),
    )
  where
    n : ℕ
    n = blocks_needed (length file.bytes)

    in_blocks : length file.bytes ≤ 4096 * blocks_taken version (length file.bytes)
    in_blocks = let filled : length file.bytes ≤ 4096 * n = omega arith in omega (arith, filled)

pub dump_short : (s : State) → WellFormed s → length (dump_of s) ≤ 2 ^ 40
unfolding dump_of
dump_short s formed =
    omega (
      arith,
      small.declared,
      small.axioms,
      small.files,
      small.blocks,
      mkdirs,
      files,
      axioms,
      length-append (flat_map mkdir_line s.declared ++ flat_map file_lines s.files) (flat_map axiom_line s.axioms),
      length-append (flat_map mkdir_line s.declared) (flat_map file_lines s.files),
    )
  where
    small : IsSmall s
    small = small_state s formed

    mkdirs : length (flat_map mkdir_line s.declared) ≤ 1025 * length s.declared
    mkdirs = all_short 1025 mkdir_line s.declared
        (λ w m. line_short (codes "mkdir") (w ∷ []) (mkdir_words w (declarable_property w (all_among is_declarable s.declared w formed.declared m))))

    files : length (flat_map file_lines s.files) ≤ 2051 * length s.files + 4096 * used_blocks s
    files = files_short s.limits.version s.files (λ f m. file_in_form s formed f m)

    axioms : length (flat_map axiom_line s.axioms) ≤ 1025 * length s.axioms
    axioms = all_short 1025 axiom_line s.axioms
        (λ e m. let form = axiom_in_form s formed e m in line_short (codes "axiom") (e.0 ∷ e.1 ∷ []) (axiom_words e form.0 form.1))
