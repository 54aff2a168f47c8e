-- What comes, by its first bytes.
use Rattle.std.proofs.Common.{◌≡◌, ℕ, ◌+◌, ◌-◌, ◌<◌, ◌≤◌, suc, List, [], ◌++◌, codes, ap, ◌∙◌, refl, arith, append_assoc}
use Rattle.std.specs.List.{flat_map, range_with_len}
use Rattle.lis_model.specs.Replies.{line}
use Rattle.lis_grow.specs.Grow.{drawn, draw_of, mkdir_line, axiom_line, file_lines, files_from, rm_lines, last_lines, grow_bytes}
use Rattle.lis_grow.specs.Coming.{lines_from, removals_from, all_files_from, axioms_from, year_from, groups_from}

lines_next : (text : ℕ → List ℕ) (i end : ℕ) → i < end → lines_from text i end ≡ text i ++ lines_from text (i + 1) end
unfolding lines_from
lines_next text i end below =
    let more : end - i ≡ suc (end - (i + 1)) = omega arith in
    ap (λ n. flat_map text (range_with_len i n)) more

lines_none : (text : ℕ → List ℕ) (i end : ℕ) → end ≤ i → lines_from text i end ≡ []
unfolding lines_from
lines_none text i end above =
    let none : end - i ≡ 0 = omega arith in
    ap (λ n. flat_map text (range_with_len i n)) none

behind_next : (text : ℕ → List ℕ) (i end : ℕ) (behind : List ℕ) → i < end → lines_from text i end ++ behind ≡ text i ++ (lines_from text (i + 1) end ++ behind)
behind_next text i end behind below = ap (λ xs. xs ++ behind) (lines_next text i end below) ∙ append_assoc (text i) (lines_from text (i + 1) end) behind

behind_none : (text : ℕ → List ℕ) (i end : ℕ) (behind : List ℕ) → end ≤ i → lines_from text i end ++ behind ≡ behind
behind_none text i end behind above = ap (λ xs. xs ++ behind) (lines_none text i end above)

pub groups_next : (x i : ℕ) → i < 16 → groups_from x i ≡ mkdir_line i ++ groups_from x (i + 1)
unfolding groups_from
groups_next x i below = behind_next mkdir_line i 16 (year_from x) below

pub groups_done : (x i : ℕ) → 16 ≤ i → groups_from x i ≡ line (codes "mkdir year:") ++ axioms_from x 1
unfolding groups_from year_from
groups_done x i above = behind_none mkdir_line i 16 (year_from x) above

pub axioms_next : (x i : ℕ) → i < 16 → axioms_from x i ≡ axiom_line i ++ axioms_from x (i + 1)
unfolding axioms_from
axioms_next x i below = behind_next axiom_line i 16 (all_files_from x 0) below

pub axioms_done : (x i : ℕ) → 16 ≤ i → axioms_from x i ≡ all_files_from x 0
unfolding axioms_from
axioms_done x i above = behind_none axiom_line i 16 (all_files_from x 0) above

pub files_next : (x i : ℕ) → i < 1000 → all_files_from x i ≡ file_lines i (draw_of (drawn x)) ++ all_files_from (drawn x) (i + 1)
unfolding all_files_from
files_next x i below =
    let more : 1000 - i ≡ suc (1000 - (i + 1)) = omega arith in
    ap (λ n. files_from n i x ++ removals_from 0) more
    ∙ append_assoc (file_lines i (draw_of (drawn x))) (files_from (1000 - (i + 1)) (i + 1) (drawn x)) (removals_from 0)

pub files_done : (x i : ℕ) → 1000 ≤ i → all_files_from x i ≡ removals_from 0
unfolding all_files_from
files_done x i above =
    let none : 1000 - i ≡ 0 = omega arith in
    ap (λ n. files_from n i x ++ removals_from 0) none

pub removals_next : (i : ℕ) → i < 1000 → removals_from i ≡ rm_lines i ++ removals_from (i + 1)
unfolding removals_from
removals_next i below = behind_next rm_lines i 1000 last_lines below

pub removals_done : (i : ℕ) → 1000 ≤ i → removals_from i ≡ last_lines
unfolding removals_from
removals_done i above = behind_none rm_lines i 1000 last_lines above

pub all_coming : (n : ℕ) → groups_from n 0 ≡ grow_bytes n
unfolding grow_bytes groups_from year_from axioms_from all_files_from removals_from lines_from
all_coming n = refl
