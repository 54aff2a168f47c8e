-- Numbers in index blocks.
use Rattle.std.proofs.Common.{◌≡◌, ◌⊎◌, inl, inr, ℕ, zero, suc, ◌+◌, ◌-◌, ◌*◌, ◌/◌, ◌%◌, ◌<◌, ◌≤◌, ◌==◌, nat_lt, nat_le, Bool, true, false, cond, if◌then◌else◌, List, [], ◌∷◌, ◌++◌, length, take, drop, get_or, refl, sym, ◌∙◌, ap, ap₂, subst, arith, append_assoc, length-append, length-take, length-take-le, take-append-drop, drop-drop, get_or-take}
use Rattle.std.specs.List.{flat_map, list_all}
use Rattle.std.proofs.Math.Nat.{mul-suc, mul-zero, mul-add}
use Rattle.std.proofs.lemmas.Bool.{and_parts, le-ltb, ltb-true, cond-true, cond-false, ltb-false, leb-true, leb-false, cases_lt}
use Rattle.std.proofs.lemmas.List.{drop_at, drop-take, get_or_append_left, get_or-append_right, get_or_past}
use Rattle.std.proofs.lemmas.List.FromFn.{length-map-range_with_len, get_or-map-range_with_len, fill_by_all}
use Rattle.byteorder.specs.Endian.{little_bytes, little_number}
use Rattle.byteorder.specs.Numbers.{length-bytes_low_first, little_from-take, little_number-reads_back}
use Rattle.lis_model.specs.Sets.{fit}
use Rattle.lis_model.specs.State.{blocks_needed, blocks_taken, index_blocks}
use Rattle.lis_fields.specs.Layouts.{number_width}
use Rattle.lis_fields.proofs.NumberLists.{wide, length_wide, read_wide}
use Rattle.lis_fields.proofs.Widths.{padding_zero, padded_from}
use Rattle.lis_words.specs.Bytes.{padded}
use Rattle.lis_content.specs.Content.{content}
use Rattle.lis_content.specs.Large.{is_large, slot_count, index_bytes, number_at, numbers_in, number_of, numbers_of, index_home, content_blocks, file_content, file_blocks}

pub length-numbers_in : (version count : ℕ) (bytes : List ℕ) → length (numbers_in version count bytes) ≡ count
unfolding numbers_in
length-numbers_in version count bytes = length-map-range_with_len (number_at version bytes) 0 count

pub number-numbers_in : (version count k : ℕ) (bytes : List ℕ) → k < count → get_or (numbers_in version count bytes) k 0 ≡ number_at version bytes k
unfolding numbers_in
number-numbers_in version count k bytes lt = get_or-map-range_with_len (number_at version bytes) 0 count k k 0 lt (omega arith)

pub numbers_from : (version count : ℕ) (bytes ns : List ℕ) → length ns ≡ count → ((k : ℕ) → k < count → get_or ns k 0 ≡ number_at version bytes k) → ns ≡ numbers_in version count bytes
unfolding numbers_in
numbers_from version count bytes ns len each = fill_by_all (number_at version bytes) ns count 0 len each

-- ---- an index block reads as the numbers that it spells
spelled_at : (width : ℕ) (ns rest : List ℕ) (k : ℕ) → fit width ns ≡ true → k < length ns → little_number width (drop (width * k) (wide width ns ++ rest)) ≡ get_or ns k 0
spelled_at width [] rest k fits lt = absurd (omega arith)
spelled_at width (n ∷ ns) rest zero fits lt =
    let first = (and_parts _ _ fits).0 in
    ap (λ i. little_number width (drop i (wide width (n ∷ ns) ++ rest))) (mul-zero width)
    ∙ (ap (little_number width) (append_assoc (little_bytes width n) (wide width ns) rest)
    ∙ little_number-reads_back width n (wide width ns ++ rest) (ltb-true _ _ first))
spelled_at width (n ∷ ns) rest (suc k) fits lt =
    let next : width * suc k ≡ width + width * k = omega (arith, mul-suc width k) in
    let behind : drop width (wide width (n ∷ ns) ++ rest) ≡ wide width ns ++ rest = ap (drop width) (append_assoc (little_bytes width n) (wide width ns) rest) ∙ drop_at (little_bytes width n) (wide width ns ++ rest) width (length-bytes_low_first 0 width n) in
    ap (λ i. little_number width (drop i (wide width (n ∷ ns) ++ rest))) next
    ∙ (ap (little_number width) (sym (drop-drop (width * k) width (wide width (n ∷ ns) ++ rest)) ∙ ap (drop (width * k)) behind)
    ∙ spelled_at width ns rest k (and_parts _ _ fits).1 (omega (arith, lt)))

spelled_reads_back : (version : ℕ) (ns rest : List ℕ) → fit (number_width version) ns ≡ true → numbers_in version (length ns) (wide (number_width version) ns ++ rest) ≡ ns
spelled_reads_back version ns rest fits =
    sym (numbers_from version (length ns) (wide (number_width version) ns ++ rest) ns refl (λ k lt. sym (spelled_at (number_width version) ns rest k fits lt)))

pub number_reads_back : (version : ℕ) (ns : List ℕ) (k : ℕ) → fit (number_width version) ns ≡ true → k < length ns → number_at version (index_bytes version ns) k ≡ get_or ns k 0
number_reads_back version ns k fits lt = spelled_at (number_width version) ns _ k fits lt

pub index_reads_back : (version : ℕ) (ns : List ℕ) → fit (number_width version) ns ≡ true → numbers_in version (length ns) (index_bytes version ns) ≡ ns
index_reads_back version ns fits = spelled_reads_back version ns _ fits

-- what a read of numbers gives
pub numbers_read : (version count : ℕ) (bytes ns : List ℕ) → length ns ≡ count → fit (number_width version) ns ≡ true
    → take (number_width version * count) bytes ≡ flat_map (little_bytes (number_width version)) ns → ns ≡ numbers_in version count bytes
numbers_read version count bytes ns len fits spelled =
    let cut = number_width version * count in
    sym (spelled_reads_back version ns (drop cut bytes) fits)
    ∙ ap₂ (numbers_in version) len (ap (λ xs. xs ++ drop cut bytes) (sym spelled) ∙ take-append-drop cut bytes)

-- ---- the numbers of several index blocks
pub length-numbers_of : (version base : ℕ) (slot : List ℕ) (count : ℕ) (at : ℕ → List ℕ) → length (numbers_of version base slot count at) ≡ count
unfolding numbers_of
length-numbers_of version base slot count at = length-map-range_with_len (number_of version base slot at) 0 count

pub number-numbers_of : (version base : ℕ) (slot : List ℕ) (count k : ℕ) (at : ℕ → List ℕ) → k < count → get_or (numbers_of version base slot count at) k 0 ≡ number_of version base slot at k
unfolding numbers_of
number-numbers_of version base slot count k at lt = get_or-map-range_with_len (number_of version base slot at) 0 count k k 0 lt (omega arith)

pub numbers_of_from : (version base : ℕ) (slot : List ℕ) (count : ℕ) (at : ℕ → List ℕ) (ns : List ℕ) → length ns ≡ count
    → ((k : ℕ) → k < count → get_or ns k 0 ≡ number_of version base slot at k) → ns ≡ numbers_of version base slot count at
unfolding numbers_of
numbers_of_from version base slot count at ns len each = fill_by_all (number_of version base slot at) ns count 0 len each

pub no_numbers : (version base : ℕ) (slot : List ℕ) (at : ℕ → List ℕ) → numbers_of version base slot 0 at ≡ []
unfolding numbers_of
no_numbers version base slot at = refl

-- those of the first blocks, and then those of the next one
pub numbers_of_more : (version base : ℕ) (slot : List ℕ) (j c : ℕ) (at : ℕ → List ℕ) → c ≤ 1024
    → numbers_of version base slot (1024 * j + c) at ≡ numbers_of version base slot (1024 * j) at ++ numbers_in version c (at (index_home base slot j))
numbers_of_more version base slot j c at few = sym (numbers_of_from version base slot (1024 * j + c) at (front ++ next) len each)
  where
    front : List ℕ
    front = numbers_of version base slot (1024 * j) at

    next : List ℕ
    next = numbers_in version c (at (index_home base slot j))

    front_len : length front ≡ 1024 * j
    front_len = length-numbers_of version base slot (1024 * j) at

    len : length (front ++ next) ≡ 1024 * j + c
    len = length-append front next ∙ ap₂ (λ a b. a + b) front_len (length-numbers_in version c (at (index_home base slot j)))

    each : (k : ℕ) → k < 1024 * j + c → get_or (front ++ next) k 0 ≡ number_of version base slot at k
    each k lt = by (cases_lt k (1024 * j))
      where
        by : (k < 1024 * j) ⊎ (1024 * j ≤ k) → get_or (front ++ next) k 0 ≡ number_of version base slot at k
        by (inl before) = get_or_append_left front next 0 k (omega (arith, before, front_len)) ∙ number-numbers_of version base slot (1024 * j) k at before
        by (inr past) =
            let index : j ≡ k / 1024 = omega (arith, lt, past, few) in
            let place : k - 1024 * j ≡ k % 1024 = omega (arith, lt, past, few) in
            get_or-append_right front next (1024 * j) k 0 front_len past
            ∙ (number-numbers_in version c (k - 1024 * j) (at (index_home base slot j)) (omega (arith, lt, past))
            ∙ ap₂ (λ q r. number_at version (at (index_home base slot q)) r) index place)

-- up to 1,024 numbers are in one block
pub numbers_of_one : (version base : ℕ) (slot : List ℕ) (count : ℕ) (at : ℕ → List ℕ) → count ≤ 1024
    → numbers_of version base slot count at ≡ numbers_in version count (at (index_home base slot 0))
numbers_of_one version base slot count at few =
    numbers_from version count (at (index_home base slot 0)) (numbers_of version base slot count at) (length-numbers_of version base slot count at) each
  where
    each : (k : ℕ) → k < count → get_or (numbers_of version base slot count at) k 0 ≡ number_at version (at (index_home base slot 0)) k
    each k lt =
        number-numbers_of version base slot count k at lt
        ∙ ap₂ (λ q r. number_at version (at (index_home base slot q)) r) (let e : k / 1024 ≡ 0 = omega (arith, lt, few) in e) (let e : k % 1024 ≡ k = omega (arith, lt, few) in e)

-- the numbers are the same if their index blocks are
pub numbers_of_same : (version base : ℕ) (slot : List ℕ) (count : ℕ) (at after : ℕ → List ℕ)
    → ((j : ℕ) → 1024 * j < count → after (index_home base slot j) ≡ at (index_home base slot j)) → numbers_of version base slot count after ≡ numbers_of version base slot count at
numbers_of_same version base slot count at after same =
    numbers_of_from version base slot count at (numbers_of version base slot count after) (length-numbers_of version base slot count after) (λ k lt.
    number-numbers_of version base slot count k after lt ∙ ap (λ bytes. number_at version bytes (k % 1024)) (same (k / 1024) (omega (arith, lt))))

-- ---- the two forms of a file
pub large_numbers : (version base : ℕ) (slot : List ℕ) (size : ℕ) (at : ℕ → List ℕ) → is_large size ≡ true → content_blocks version base slot size at ≡ numbers_of version base slot (blocks_needed size) at
large_numbers version base slot size at is = cond-true (is_large size) _ slot is

pub large_blocks : (version base : ℕ) (slot : List ℕ) (size : ℕ) (at : ℕ → List ℕ) → is_large size ≡ true → file_blocks version base slot size at ≡ numbers_of version base slot (blocks_needed size) at ++ slot
large_blocks version base slot size at is = cond-true (is_large size) _ slot is ∙ ap (λ ns. ns ++ slot) (large_numbers version base slot size at is)

pub small_blocks : (version base : ℕ) (slot : List ℕ) (size : ℕ) (at : ℕ → List ℕ) → is_large size ≡ false → file_blocks version base slot size at ≡ slot
small_blocks version base slot size at is = cond-false (is_large size) _ slot is

pub small_numbers : (version base : ℕ) (slot : List ℕ) (size : ℕ) (at : ℕ → List ℕ) → is_large size ≡ false → content_blocks version base slot size at ≡ slot
small_numbers version base slot size at is = cond-false (is_large size) _ slot is

-- at most 65,536 bytes need no index block
pub small_size : (size : ℕ) → size ≤ 65536 → is_large size ≡ false
small_size size few = le-ltb 16 (blocks_needed size) (omega (arith, few))

pub small_content : (version base : ℕ) (slot : List ℕ) (size : ℕ) (at : ℕ → List ℕ) → is_large size ≡ false → file_content version base slot size at ≡ content base slot size at
small_content version base slot size at is = ap (λ ns. content base ns size at) (small_numbers version base slot size at is)

-- a slot has the numbers of the index blocks, if there are any, and otherwise those of the content
pub large_slot : (size : ℕ) → is_large size ≡ true → slot_count size ≡ (blocks_needed size + 1023) / 1024
large_slot size is = cond-true (is_large size) (index_blocks 2 n) n is ∙ cond-false (nat_le n 16) 0 ((n + 1023) / 1024) (more (nat_le n 16) refl)
  where
    n : ℕ
    n = blocks_needed size

    more : (few : Bool) → nat_le n 16 ≡ few → nat_le n 16 ≡ false
    more true few = absurd (omega (arith, ltb-true 16 n is, leb-true n 16 few))
    more false few = few

pub small_slot : (size : ℕ) → is_large size ≡ false → slot_count size ≡ blocks_needed size
small_slot size is = cond-false (is_large size) (index_blocks 2 (blocks_needed size)) (blocks_needed size) is

-- the content has as many blocks as its size takes
pub length-content_blocks : (version base : ℕ) (slot : List ℕ) (size : ℕ) (at : ℕ → List ℕ) → length slot ≡ slot_count size → length (content_blocks version base slot size at) ≡ blocks_needed size
length-content_blocks version base slot size at count = by (is_large size) refl
  where
    by : (t : Bool) → is_large size ≡ t → length (content_blocks version base slot size at) ≡ blocks_needed size
    by true large = ap length (large_numbers version base slot size at large) ∙ length-numbers_of version base slot (blocks_needed size) at
    by false small = ap length (small_numbers version base slot size at small) ∙ (count ∙ small_slot size small)

-- ---- an index block spells the numbers that are read from it, if zeros follow them
-- 1,024 numbers have room
pub index_room : (version count : ℕ) → count ≤ 1024 → number_width version * count ≤ 4096
index_room version count few = by (version == 3)
  where
    by : (three : Bool) → (if three then 4 else 2) * count ≤ 4096
    by true = omega (arith, few)
    by false = omega (arith, few)

small_front : (n : ℕ) (bytes : List ℕ) → ((k : ℕ) → get_or bytes k 0 < 256) → (k : ℕ) → get_or (take n bytes) k 0 < 256
small_front n bytes small k = by (cases_lt k n)
  where
    by : (k < n) ⊎ (n ≤ k) → get_or (take n bytes) k 0 < 256
    by (inl lt) = subst (λ x. x < 256) (sym (get_or-take n bytes k 0 lt)) (small k)
    by (inr past) = subst (λ x. x < 256) (sym (get_or_past (take n bytes) k 0 (omega (arith, past, length-take n bytes)))) (omega arith)

-- a number lies before the end of those that are read
number_before : (width count k : ℕ) (bytes : List ℕ) → k < count → little_number width (drop (width * k) (take (width * count) bytes)) ≡ little_number width (drop (width * k) bytes)
number_before width count k bytes lt =
    let m = count - suc k in
    let all : width * count ≡ width * k + width * suc m = ap (λ c. width * c) (let e : count ≡ k + suc m = omega (arith, lt) in e) ∙ mul-add width k (suc m) in
    ap (λ n. little_number width (drop (width * k) (take n bytes))) all
    ∙ (ap (little_number width) (drop-take (width * k) (width * suc m) bytes)
    ∙ little_from-take 0 width (width * suc m) (drop (width * k) bytes) (omega (arith, mul-suc width m)))

-- the numbers fit, and spell the bytes that they are read from
numbers_both : (version count : ℕ) (bytes : List ℕ) → number_width version * count ≤ length bytes → ((k : ℕ) → get_or bytes k 0 < 256)
    → (fit (number_width version) (numbers_in version count bytes) ≡ true) × (take (number_width version * count) bytes ≡ wide (number_width version) (numbers_in version count bytes))
numbers_both version count bytes long small =
    let width = number_width version in
    let ns = numbers_in version count bytes in
    let len : length ns ≡ count = length-numbers_in version count bytes in
    read_wide width (take (width * count) bytes) ns (length-take-le (width * count) bytes long ∙ ap (λ n. width * n) (sym len)) (small_front (width * count) bytes small)
    (λ k lt. number-numbers_in version count k bytes (omega (arith, lt, len)) ∙ sym (number_before width count k bytes (omega (arith, lt, len))))

pub numbers_fit : (version count : ℕ) (bytes : List ℕ) → number_width version * count ≤ length bytes → ((k : ℕ) → get_or bytes k 0 < 256) → fit (number_width version) (numbers_in version count bytes) ≡ true
numbers_fit version count bytes long small = (numbers_both version count bytes long small).0

pub numbers_spelled : (version count : ℕ) (bytes : List ℕ) → number_width version * count ≤ length bytes → ((k : ℕ) → get_or bytes k 0 < 256)
    → flat_map (little_bytes (number_width version)) (numbers_in version count bytes) ≡ take (number_width version * count) bytes
numbers_spelled version count bytes long small = sym (numbers_both version count bytes long small).1

pub index_spelled : (version count : ℕ) (block : List ℕ) → length block ≡ 4096 → count ≤ 1024 → ((k : ℕ) → get_or block k 0 < 256)
    → list_all (λ b. b == 0) (drop (number_width version * count) block) ≡ true → block ≡ index_bytes version (numbers_in version count block)
index_spelled version count block len few small zeros =
    let cut = number_width version * count in
    let room : cut ≤ 4096 = index_room version count few in
    padded_from 4096 cut block len room zeros ∙ ap (padded 4096) (sym (numbers_spelled version count block (omega (arith, room, len)) small))

pub index_zeros : (version count : ℕ) (block : List ℕ) → block ≡ index_bytes version (numbers_in version count block) → list_all (λ b. b == 0) (drop (number_width version * count) block) ≡ true
index_zeros version count block is =
    let ns = numbers_in version count block in
    padding_zero 4096 (number_width version * count) (wide (number_width version) ns) block is (length_wide (number_width version) ns ∙ ap (λ n. number_width version * n) (length-numbers_in version count block))

-- ---- how many blocks
pub taken_with_index : (size : ℕ) → cond (is_large size) (blocks_needed size + (blocks_needed size + 1023) / 1024) (blocks_needed size) ≡ blocks_taken 2 size
taken_with_index size = by (nat_lt 16 n) (nat_le n 16) refl refl
  where
    n : ℕ
    n = blocks_needed size

    by : (x y : Bool) → nat_lt 16 n ≡ x → nat_le n 16 ≡ y → cond x (n + (n + 1023) / 1024) n ≡ n + cond y 0 ((n + 1023) / 1024)
    by true true e f = absurd (omega (arith, ltb-true 16 n e, leb-true n 16 f))
    by true false e f = refl
    by false true e f = omega arith
    by false false e f = absurd (omega (arith, ltb-false 16 n e, leb-false n 16 f))
