-- How long a session is at most.
use Rattle.std.proofs.Common.{◌≡◌, ℕ, zero, suc, ◌+◌, ◌*◌, ◌≤◌, ◌%◌, ◌==◌, Bool, true, false, cond, List, [], ◌∷◌, ◌++◌, length, codes, refl, arith, length-append}
use Rattle.std.specs.List.{flat_map, range_with_len}
use Rattle.std.proofs.lemmas.List.FromFn.{length-range_with_len}
use Rattle.lis_model.specs.Replies.{line}
use Rattle.lis_grow.specs.Grow.{drawn, draw_of, mkdir_line, axiom_line, create_line, add_lines, file_lines, files_from, rm_lines, four_digits, last_lines, grow_bytes}

flat_short : (text : ℕ → List ℕ) (numbers : List ℕ) → ((n : ℕ) → length (text n) ≤ 64) → length (flat_map text numbers) ≤ 64 * length numbers
flat_short text [] few = omega arith
flat_short text (n ∷ numbers) few = omega (arith, length-append (text n) (flat_map text numbers), few n, flat_short text numbers few)

mkdir_short : (i : ℕ) → length (mkdir_line i) ≤ 64
mkdir_short i = let is : length (mkdir_line i) ≡ 10 = refl in omega (arith, is)

axiom_short : (i : ℕ) → length (axiom_line i) ≤ 64
axiom_short i = let is : length (axiom_line i) ≡ 14 = refl in omega (arith, is)

file_short : (i v : ℕ) → length (file_lines i v) ≤ 64
file_short i v = by (i % 10 == 0)
  where
    by : (b : Bool) → length (cond b (add_lines i v) (create_line i v)) ≤ 64
    by true = let is : length (add_lines i v) ≡ 50 = refl in omega (arith, is)
    by false = let is : length (create_line i v) ≡ 31 = refl in omega (arith, is)

rm_short : (i : ℕ) → length (rm_lines i) ≤ 64
rm_short i = by (i % 5 == 3)
  where
    by : (b : Bool) → length (cond b (line (codes "rm f" ++ four_digits i ++ codes ".txt")) []) ≤ 64
    by true = let is : length (line (codes "rm f" ++ four_digits i ++ codes ".txt")) ≡ 13 = refl in omega (arith, is)
    by false = omega arith

files_short : (count i x : ℕ) → length (files_from count i x) ≤ 64 * count
files_short zero i x = omega arith
files_short (suc count) i x =
    omega (arith, length-append (file_lines i (draw_of (drawn x))) (files_from count (i + 1) (drawn x)), file_short i (draw_of (drawn x)), files_short count (i + 1) (drawn x))

pub grow_short : (n : ℕ) → length (grow_bytes n) ≤ 131072
unfolding grow_bytes
grow_short n =
    let groups : List ℕ = flat_map mkdir_line (range_with_len 0 16) in
    let year : List ℕ = line (codes "mkdir year:") in
    let axioms : List ℕ = flat_map axiom_line (range_with_len 1 15) in
    let files : List ℕ = files_from 1000 0 n in
    let removals : List ℕ = flat_map rm_lines (range_with_len 0 1000) in
    let of_year : length year ≡ 12 = refl in
    let of_last : length last_lines ≡ 66 = refl in
    omega (
      arith,
      length-append (groups ++ year ++ axioms ++ files ++ removals) last_lines,
      length-append (groups ++ year ++ axioms ++ files) removals,
      length-append (groups ++ year ++ axioms) files,
      length-append (groups ++ year) axioms,
      length-append groups year,
      of_year,
      of_last,
      flat_short mkdir_line (range_with_len 0 16) mkdir_short,
      length-range_with_len 0 16,
      flat_short axiom_line (range_with_len 1 15) axiom_short,
      length-range_with_len 1 15,
      files_short 1000 0 n,
      flat_short rm_lines (range_with_len 0 1000) rm_short,
      length-range_with_len 0 1000,
    )
