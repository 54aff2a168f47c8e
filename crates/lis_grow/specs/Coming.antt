-- What a session still has to come. No public clause cites this module.
use Rattle.std.specs.Prelude.{ℕ, ◌+◌, ◌-◌, List, [], ◌++◌, codes, ◌*◌}
use Rattle.std.specs.List.{flat_map, range_with_len}
use Rattle.lis_model.specs.Replies.{line}
use Rattle.lis_grow.specs.Grow.{mkdir_line, axiom_line, files_from, rm_lines, last_lines, file_count}
use Rattle.lis_grow.specs.declared.phase.Phase.{Phase}
use Rattle.lis_grow.specs.declared.phase.Phase.TheVariants.{Groups, Axioms, Files, Removals, Nothing}

-- the lines from number i on, of those before `end`
unfoldable pub lines_from : (ℕ → List ℕ) → ℕ → ℕ → List ℕ
lines_from text i end = flat_map text (range_with_len i (end - i))

unfoldable pub removals_from : ℕ → List ℕ
removals_from i = lines_from rm_lines i file_count ++ last_lines

unfoldable pub all_files_from : ℕ → ℕ → List ℕ
all_files_from x i = files_from (file_count - i) i x ++ removals_from 0

unfoldable pub axioms_from : ℕ → ℕ → List ℕ
axioms_from x i = lines_from axiom_line i 16 ++ all_files_from x 0

unfoldable pub year_from : ℕ → List ℕ
year_from x = line (codes "mkdir year:") ++ axioms_from x 1

unfoldable pub groups_from : ℕ → ℕ → List ℕ
groups_from x i = lines_from mkdir_line i 16 ++ year_from x

-- what comes from a phase on, if the generator has the value x
abbrev pub coming : ℕ → Phase → List ℕ
coming x (Groups i) = groups_from x i
coming x (Axioms i) = axioms_from x i
coming x (Files i) = all_files_from x i
coming x (Removals i) = removals_from i
coming x Nothing = []

-- an upper bound on the steps that are left
abbrev pub steps_left : Phase → ℕ
steps_left (Groups i) = (2 * file_count + 99) + (16 - i)
steps_left (Axioms i) = (2 * file_count + 50) + (16 - i)
steps_left (Files i) = (file_count + 20) + (file_count - i)
steps_left (Removals i) = 10 + (file_count - i)
steps_left Nothing = 0
