-- In which blocks an area is, and its slots in a block.
use Rattle.std.proofs.Common.{arith, ap, cond, min}
use Rattle.lis_kept.proofs.Common.{rules, ◌≡◌, ◌⊎◌, inl, inr, sym, ℕ, ◌+◌, ◌*◌, ◌-◌, ◌/◌, ◌%◌, ◌<◌, ◌≤◌, ◌==◌, Bool, true, false, List, IsTrue, refl, subst, Limits, are_in_range, bitmap_start, data_start}
use Rattle.std.specs.Prelude.{◌^◌}
use Rattle.std.proofs.Math.Nat.{div-lt_iff_lt-mul, div-add-mod}
use Rattle.lis_model.specs.Ranges.{is_files_limit, is_props_limit}
use Rattle.lis_fields.specs.Layouts.{number_width}
use Rattle.lis_model.specs.Image.{properties_start, axioms_start, files_start, descriptions_start, description_blocks}
use Rattle.lis_model.proofs.Ranges.{early_limits, wide_limits, few_parts, few_limits as limits_are_few, early_descriptions, third_descriptions, few_records, few_descriptions, files_whole, props_whole, props_some, each_files_limit}
use Rattle.lis_kept.specs.Metadata.{Metadata}
use Rattle.lis_kept.specs.Areas.{Area, slots_of, block_of, spelled, held_in, row_count, set_count, row_slots}
use Rattle.lis_kept.specs.Areas.Area.{Properties, Axioms, Files, Rows, Sets, Bitmap}
use Rattle.lis_kept.specs.Inside.{bytes_in, IsBlock}
use Rattle.lis_model.specs.State.{file_limit}

-- ---- limits in range
pub whole_files : (limits : Limits) → IsTrue (are_in_range limits) → limits.files % 64 ≡ 0
whole_files limits range = files_whole limits.files (wide_limits limits range).files

pub few_files : (limits : Limits) → IsTrue (are_in_range limits) → limits.files ≤ 262144
few_files limits range = (limits_are_few limits range).files

pub few_blocks : (limits : Limits) → IsTrue (are_in_range limits) → limits.blocks ≤ 16777216
few_blocks limits range = (limits_are_few limits range).blocks

pub whole_properties : (limits : Limits) → IsTrue (are_in_range limits) → limits.props % 64 ≡ 0
whole_properties limits range = props_whole limits.props (wide_limits limits range).props

pub few_properties : (limits : Limits) → IsTrue (are_in_range limits) → limits.props ≤ 1048576
few_properties limits range = (limits_are_few limits range).props

pub some_properties : (limits : Limits) → IsTrue (are_in_range limits) → 64 ≤ limits.props
some_properties limits range = props_some limits.props (wide_limits limits range).props

-- numbers of words and of blocks fit in their bytes
pub numbers_fit : (limits : Limits) (n : ℕ) → IsTrue (are_in_range limits) → (n < limits.props) ⊎ (n < limits.blocks) → n < 256 ^ number_width limits.version
numbers_fit limits n range below = by (limits.version == 3) refl
  where
    by : (third : Bool) → (limits.version == 3) ≡ third → n < 256 ^ cond third 4 2
    by true third =
        let few = limits_are_few limits range in
        elim below [ inl word ↦ omega (arith, word, few.props) | inr block ↦ omega (arith, block, few.blocks) ]
    by false early =
        let few = few_parts limits range early in
        elim below [ inl word ↦ omega (arith, word, few.props) | inr block ↦ omega (arith, block, few.blocks) ]

-- how large a file may be in version 1
pub first_limit : (limits : Limits) → limits.version ≡ 1 → file_limit limits ≡ 65536
first_limit limits one = ap (λ v. cond (v == 1) 65536 (cond (v == 2) 1048576 (min 67108864 (4096 * limits.blocks)))) one

-- ---- rows, before version 3
-- there are none in version 3, and before it those of whole blocks
pub third_rows : (limits : Limits) → (limits.version == 3) ≡ true → row_count limits ≡ 0
unfolding row_count
third_rows limits third = ap (λ third. cond third 0 (4096 / (limits.files / 8) * description_blocks limits)) third

pub early_rows : (limits : Limits) → (limits.version == 3) ≡ false → row_count limits ≡ 4096 / (limits.files / 8) * description_blocks limits
unfolding row_count
early_rows limits early = ap (λ third. cond third 0 (4096 / (limits.files / 8) * description_blocks limits)) early

-- if there is a row, the version is an earlier one
pub some_are_early : (limits : Limits) (m : ℕ) → m < row_count limits → (limits.version == 3) ≡ false
some_are_early limits m lt = by (limits.version == 3) refl
  where
    by : (third : Bool) → (limits.version == 3) ≡ third → (limits.version == 3) ≡ false
    by true third = absurd (omega (arith, lt, third_rows limits third))
    by false early = early

pub some_rows : (limits : Limits) → IsTrue (are_in_range limits) → (limits.version == 3) ≡ false → 0 < 4096 / (limits.files / 8)
some_rows limits range early =
    each_files_limit (λ files. 0 < 4096 / (files / 8)) limits.files (early_limits limits range early).files (omega arith) (omega arith) (omega arith) (omega arith) (omega arith) (omega arith) (omega arith)

-- they fill a block
pub rows_fill : (limits : Limits) → IsTrue (are_in_range limits) → (limits.version == 3) ≡ false → limits.files / 8 * (4096 / (limits.files / 8)) ≡ 4096
rows_fill limits range early =
    each_files_limit (λ files. files / 8 * (4096 / (files / 8)) ≡ 4096) limits.files (early_limits limits range early).files refl refl refl refl refl refl refl

-- each number below the limit has a row
pub rows_counted : (limits : Limits) → IsTrue (are_in_range limits) → (limits.version == 3) ≡ false → limits.props ≤ row_count limits
rows_counted limits range early = omega (arith, early_rows limits early, subst (λ n. limits.props ≤ 4096 / (limits.files / 8) * n) (sym (early_descriptions limits early)) counted)
  where
    counted : limits.props ≤ 4096 / (limits.files / 8) * ((limits.props * limits.files + 32767) / 32768)
    counted =
        each_files_limit (λ files. limits.props ≤ 4096 / (files / 8) * ((limits.props * files + 32767) / 32768)) limits.files (early_limits limits range early).files
        (omega arith) (omega arith) (omega arith) (omega arith) (omega arith) (omega arith) (omega arith)

row_within : (limits : Limits) (m : ℕ) → IsTrue (are_in_range limits) → m < row_count limits → m / (4096 / (limits.files / 8)) < description_blocks limits
row_within limits m range lt =
    let early = some_are_early limits m lt in
    (div-lt_iff_lt-mul {k = 4096 / (limits.files / 8)} {x = m} {y = description_blocks limits} (some_rows limits range early)).1
    (omega (arith, lt, early_rows limits early))

-- their numbers stay small
pub rows_few : (limits : Limits) (n : ℕ) → IsTrue (are_in_range limits) → (limits.version == 3) ≡ false → n < description_blocks limits
    → 4096 / (limits.files / 8) * n + 4096 / (limits.files / 8) ≤ 2000000
rows_few limits n range early within =
    each_files_limit (λ files. n < (limits.props * files + 32767) / 32768 → 4096 / (files / 8) * n + 4096 / (files / 8) ≤ 2000000)
    limits.files (early_limits limits range early).files
    (λ lt. omega (arith, lt, few)) (λ lt. omega (arith, lt, few)) (λ lt. omega (arith, lt, few)) (λ lt. omega (arith, lt, few))
    (λ lt. omega (arith, lt, few)) (λ lt. omega (arith, lt, few)) (λ lt. omega (arith, lt, few))
    (omega (arith, within, early_descriptions limits early))
  where
    few : limits.props ≤ 8192
    few = (few_parts limits range early).props

-- ---- sets, in version 3
pub third_sets : (limits : Limits) → (limits.version == 3) ≡ true → set_count limits ≡ limits.files
unfolding set_count
third_sets limits third = ap (λ third. cond third limits.files 0) third

pub early_sets : (limits : Limits) → (limits.version == 3) ≡ false → set_count limits ≡ 0
unfolding set_count
early_sets limits early = ap (λ third. cond third limits.files 0) early

-- if there is a set, the version is the third
pub some_are_third : (limits : Limits) (m : ℕ) → m < set_count limits → (limits.version == 3) ≡ true
some_are_third limits m lt = by (limits.version == 3) refl
  where
    by : (third : Bool) → (limits.version == 3) ≡ third → (limits.version == 3) ≡ true
    by true third = third
    by false early = absurd (omega (arith, lt, early_sets limits early))

set_within : (limits : Limits) (m : ℕ) → IsTrue (are_in_range limits) → m < set_count limits → m / 8 < description_blocks limits
set_within limits m range lt =
    let third = some_are_third limits m lt in
    omega (arith, lt, third_sets limits third, third_descriptions limits third, whole_files limits range)

-- ---- areas
-- the block after an area
abbrev pub end_of : Limits → Area → ℕ
end_of limits Properties = axioms_start limits
end_of limits Axioms = files_start limits
end_of limits Files = descriptions_start limits
end_of limits Rows = bitmap_start limits
end_of limits Sets = bitmap_start limits
end_of limits Bitmap = data_start limits

-- a slot's block is in its area
pub in_area : (limits : Limits) → IsTrue (are_in_range limits) → (area : Area) (m : ℕ) → m < (slots_of limits area).count
    → ((slots_of limits area).first ≤ block_of limits area m) × (block_of limits area m < end_of limits area)
in_area limits range area m lt = search (rules, whole_properties, whole_files, row_within, set_within)

-- all areas are before the data blocks and after the records
pub among_slots : (limits : Limits) → IsTrue (are_in_range limits) → (area : Area) (m : ℕ) → m < (slots_of limits area).count
    → (properties_start limits ≤ block_of limits area m) × (block_of limits area m < data_start limits)
among_slots limits range area m lt = search (rules, in_area)

-- few blocks are before the data blocks
pub few_ahead : (limits : Limits) → IsTrue (are_in_range limits) → data_start limits ≤ 101955
few_ahead limits range =
    let few = limits_are_few limits range in
    omega (arith, few.files, few.props, few.blocks, few_records limits range, few_descriptions limits range)

-- which areas an image has: rows before version 3, and sets in it
abbrev pub HasArea : Limits → Area → Type 0
HasArea limits Properties = Unit {0}
HasArea limits Axioms = Unit {0}
HasArea limits Files = Unit {0}
HasArea limits Rows = (limits.version == 3) ≡ false
HasArea limits Sets = (limits.version == 3) ≡ true
HasArea limits Bitmap = Unit {0}

-- no block is in two areas
same_area : (limits : Limits) (n m : ℕ) (a b : Area) → HasArea limits a → m < (slots_of limits b).count
    → (slots_of limits a).first ≤ n → n < end_of limits a → (slots_of limits b).first ≤ n → n < end_of limits b → a ≡ b
same_area limits n m a b has some from to from' to' = search (rules, third_rows, early_sets)

-- a block that spells the slots of its area
pub one_area : (k : Metadata) → IsTrue (are_in_range k.limits) → (area : Area) → HasArea k.limits area → (n : ℕ) (block : List ℕ) → (slots_of k.limits area).first ≤ n → n < end_of k.limits area
    → ((m : ℕ) → m < (slots_of k.limits area).count → block_of k.limits area m ≡ n → bytes_in k.limits area m block ≡ spelled k area m) → IsBlock k n block
one_area k range area has n block from to is = λ other m lt here.
    let inside = in_area k.limits range other m lt in
    let same : area ≡ other = same_area k.limits n m area other has lt from to (subst (λ b. (slots_of k.limits other).first ≤ b) here inside.0) (subst (λ b. b < end_of k.limits other) here inside.1) in
    subst (λ a. (j : ℕ) → j < (slots_of k.limits a).count → block_of k.limits a j ≡ n → bytes_in k.limits a j block ≡ spelled k a j) same is m lt here

-- a slot, by its block
pub held_by : (limits : Limits) (area : Area) (m : ℕ) → m < (slots_of limits area).count → (at : ℕ → List ℕ) → held_in limits area at m ≡ bytes_in limits area m (at (block_of limits area m))
held_by limits area m lt at = search (rules)

-- the number of a slot in a block, by its index there
pub slot_placed : (count first m n p : ℕ) → 0 < p → p ≡ count → first + m / p ≡ n → count * (n - first) + m % p ≡ m
slot_placed count first m n p some is here = search (rules, div-add-mod)
