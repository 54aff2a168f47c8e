-- Index blocks that are placed one by one, after the content whose blocks they number.
use Rattle.std.proofs.Common.{◌≡◌, ◌⊎◌, inl, inr, ℕ, zero, suc, ◌+◌, ◌-◌, ◌*◌, ◌/◌, ◌%◌, ◌^◌, ◌<◌, ◌≤◌, min, ◌==◌, nat_lt, Bool, true, false, not, ◌&&◌, if◌then◌else◌, List, [], ◌∷◌, ◌++◌, length, take, drop, get_or, refl, sym, ◌∙◌, ap, ap₂, subst, arith, append_assoc, append-nil, length-append, length-drop, length-take, drop-drop, take-append-drop, get_or-take, get_or-drop, eqb}
use Rattle.std.specs.List.{flat_map}
use Rattle.std.proofs.lemmas.Bool.{and_parts, and_from, cond-true, cond-false, ne_eqb, eq-eqb, eqb-false, cases_lt, ltb-true, lt-ltb}
use Rattle.std.proofs.lemmas.List.{drop_at, drop_all, take_all, length-map, get_or_append_left, get_or-append_right}
use Rattle.std.proofs.lemmas.List.Folds.{list_all-append, list_any-append}
use Rattle.byteorder.specs.Endian.{little_bytes}
use Rattle.lis_ports.specs.Meaning.{Meaning}
use Rattle.lis_ports.specs.Runs.{IsDiskRun}
use Rattle.lis_ports.specs.Calls.{DiskFaultEnds}
use Rattle.lis_ports.proofs.Ending.{ends_then}
use Rattle.lis_ports.proofs.Moments.{run_then}
use Rattle.lis_model.specs.State.{blocks_needed, blocks_taken}
use Rattle.lis_model.specs.Sets.{fit, has_number}
use Rattle.lis_model.specs.Ranges.{most_blocks}
use Rattle.lis_fields.specs.Layouts.{number_width}
use Rattle.lis_journal.specs.Journal.{Held}
use Rattle.lis_journal.specs.Images.{with_kept}
use Rattle.lis_blockmap.specs.Bitmap.{free_count, is_taken}
use Rattle.lis_content.specs.Content.{content, are_free}
use Rattle.lis_content.specs.Large.{is_large, index_bytes, number_at, number_of, numbers_in, numbers_of, index_home}
use Rattle.lis_content.specs.Placing.{Lays, IsLaid, HasFile, IsPlaced, OnePlaced}
use Rattle.lis_content.proofs.Numbers.{are_below, below_from_free, neither}
use Rattle.lis_content.proofs.Taking.{same_others}
use Rattle.lis_content.proofs.Indexes.{number_reads_back, index_reads_back, numbers_of_from, large_numbers, large_blocks, large_slot, taken_with_index}
use Rattle.lis_content.proofs.Laying.{lays_as, lays_more, one_keeps}

-- ---- numbers of the data blocks of an image fit
fit_below : (width m : ℕ) (ns : List ℕ) → m ≤ 256 ^ width → are_below m ns ≡ true → fit width ns ≡ true
fit_below width m [] le below = refl
fit_below width m (n ∷ ns) le below =
    let parts = and_parts (nat_lt n m) (are_below m ns) below in
    and_from _ _ (lt-ltb n (256 ^ width) (omega (arith, ltb-true n m parts.0, le))) (fit_below width m ns le parts.1)

-- a version has fewer data blocks than there are numbers
most_fit : (version : ℕ) → most_blocks version ≤ 256 ^ number_width version
most_fit version = by (version == 3)
  where
    by : (three : Bool) → (if three then 16777216 else 32768) ≤ 256 ^ (if three then 4 else 2)
    by true = omega arith
    by false = omega arith

pub most_numbered : (version : ℕ) → most_blocks version ≤ 16777216
most_numbered version = by (version == 3)
  where
    by : (three : Bool) → (if three then 16777216 else 32768) ≤ 16777216
    by true = omega arith
    by false = omega arith

pub free_fit : (version : ℕ) (taken : List Bool) (ns : List ℕ) → length taken ≤ most_blocks version → are_free taken ns ≡ true → fit (number_width version) ns ≡ true
free_fit version taken ns few free = fit_below (number_width version) (length taken) ns (omega (arith, few, most_fit version)) (below_from_free taken ns free)

-- ---- the numbers that the j-th index block has
abbrev pub part_of : List ℕ → ℕ → List ℕ
part_of numbers j = take 1024 (drop (1024 * j) numbers)

fit_front : (width k : ℕ) (ns : List ℕ) → fit width ns ≡ true → (fit width (take k ns) ≡ true) × (fit width (drop k ns) ≡ true)
fit_front width k ns fits =
    and_parts _ _ (sym (list_all-append (λ n. nat_lt n (256 ^ width)) (take k ns) (drop k ns)) ∙ (ap (fit width) (take-append-drop k ns) ∙ fits))

pub part_fits : (width : ℕ) (numbers : List ℕ) (j : ℕ) → fit width numbers ≡ true → fit width (part_of numbers j) ≡ true
part_fits width numbers j fits = (fit_front width 1024 (drop (1024 * j) numbers) (fit_front width (1024 * j) numbers fits).1).0

length-part : (numbers : List ℕ) (j : ℕ) → length (part_of numbers j) ≡ min 1024 (length numbers - 1024 * j)
length-part numbers j = length-take 1024 (drop (1024 * j) numbers) ∙ ap (min 1024) (length-drop (1024 * j) numbers)

part_at : (numbers : List ℕ) (k : ℕ) → get_or (part_of numbers (k / 1024)) (k % 1024) 0 ≡ get_or numbers k 0
part_at numbers k =
    get_or-take 1024 (drop (1024 * (k / 1024)) numbers) (k % 1024) 0 (omega arith)
    ∙ (get_or-drop (1024 * (k / 1024)) numbers (k % 1024) 0 ∙ ap (λ i. get_or numbers i 0) (let e : 1024 * (k / 1024) + k % 1024 ≡ k = omega arith in e))

-- ---- the content is placed, and so are the index blocks so far
pub record HasIndexes (version base : ℕ) (bytes numbers slot : List ℕ) (at : ℕ → List ℕ) : Type 0 where
  pub content : content base numbers (length bytes) at ≡ bytes
  pub index : (j : ℕ) → j < length slot → at (index_home base slot j) ≡ index_bytes version (part_of numbers j)

pub record Indexing (version base : ℕ) (bytes rest : List ℕ) (start now_taken : List Bool) (before now : Held) (old new : Meaning) (numbers slot : List ℕ) : Type 0 where
  pub lays : Lays base start now_taken before now old new (numbers ++ slot) (HasIndexes version base bytes numbers slot)
  pub run : IsDiskRun old new
  pub faults : new.disk_faults ≡ old.disk_faults
  pub first_fault : DiskFaultEnds old new
  pub left : rest ≡ drop (1024 * length slot) numbers
  pub few : length slot ≤ (length numbers + 1023) / 1024

-- no index block yet
pub indexing_none : (version base : ℕ) (bytes rest : List ℕ) (start now_taken : List Bool) (before now : Held) {old new : Meaning} (numbers : List ℕ)
    → IsLaid base bytes start now_taken before now old new numbers → IsDiskRun old new → new.disk_faults ≡ old.disk_faults → DiskFaultEnds old new → rest ≡ numbers
    → Indexing version base bytes rest start now_taken before now old new numbers []
indexing_none version base bytes rest start now_taken before now {old} {new} numbers laid run faults first_fault is = record {
  lays = subst (λ ns. Lays base start now_taken before now old new ns (HasIndexes version base bytes numbers [])) (sym (append-nil numbers))
      (lays_as base start now_taken before now numbers _ _ (λ at reads. record { content = reads; index = λ j lt. absurd (omega arith) }) laid.lays);
  run = run;
  faults = faults;
  first_fault = first_fault;
  left = is;
  few = omega arith;
}

-- one more
pub indexing_more : (version base : ℕ) (bytes rest behind front : List ℕ) (start now_taken next_taken : List Bool) (before now next : Held) {old mid new : Meaning} (numbers slot : List ℕ) (n : ℕ)
    → Indexing version base bytes rest start now_taken before now old mid numbers slot → 0 < length rest → front ≡ take 1024 rest → behind ≡ drop 1024 rest
    → OnePlaced base (flat_map (little_bytes (number_width version)) front) now_taken next_taken now next mid new n
    → IsDiskRun mid new → new.disk_faults ≡ mid.disk_faults → DiskFaultEnds mid new
    → Indexing version base bytes behind start next_taken before next old new numbers (slot ++ n ∷ [])
indexing_more version base bytes rest behind front start now_taken next_taken before now next {old} {mid} {new} numbers slot n was some is_front is_behind one run faults no_more = record {
  lays = subst (λ ns. Lays base start next_taken before next old new ns (HasIndexes version base bytes numbers (slot ++ n ∷ []))) (append_assoc numbers slot (n ∷ []))
      (lays_more base start now_taken next_taken before now next (numbers ++ slot) n 1 after _ _ was.lays one (one_keeps (base + n) block) (λ at unlike has. has_more at (unlike n (omega arith) (omega arith)) has));
  run = run_then was.run run;
  faults = faults ∙ was.faults;
  first_fault = ends_then was.first_fault was.faults no_more;
  left = is_behind ∙ (ap (drop 1024) was.left ∙ (drop-drop 1024 (1024 * length slot) numbers ∙ ap (λ i. drop i numbers) (let e : 1024 * length slot + 1024 ≡ 1024 * length (slot ++ n ∷ []) = omega (arith, longer) in e)));
  few = omega (arith, longer, ap length was.left, length-drop (1024 * length slot) numbers, some);
}
  where
    block : List ℕ
    block = index_bytes version front

    after : (ℕ → List ℕ) → ℕ → List ℕ
    after at = with_kept (base + n) block at

    longer : length (slot ++ n ∷ []) ≡ length slot + 1
    longer = length-append slot (n ∷ [])

    differs : (ns : List ℕ) (j : ℕ) → j < length ns → has_number ns n ≡ false → get_or ns j 0 ≡ n → ⊥
    differs [] j lt none = absurd (omega arith)
    differs (b ∷ ns) zero lt none = eqb-false b n (neither (eqb b n) (has_number ns n) none).0
    differs (b ∷ ns) (suc j) lt none = differs ns j (omega (arith, lt)) (neither (eqb b n) (has_number ns n) none).1

    has_more : (at : ℕ → List ℕ) → has_number (numbers ++ slot) n ≡ false → HasIndexes version base bytes numbers slot at → HasIndexes version base bytes numbers (slot ++ n ∷ []) (after at)
    has_more at new_number has = record {
      content = ap (take (length bytes)) (same_others at (after at) base n numbers block (λ m. refl) apart.0) ∙ has.content;
      index = λ j lt. by j (cases_lt j (length slot)) lt;
    }
      where
        apart : (has_number numbers n ≡ false) × (has_number slot n ≡ false)
        apart = neither (has_number numbers n) (has_number slot n) (sym (list_any-append (λ m. m == n) numbers slot) ∙ new_number)

        by : (j : ℕ) → (j < length slot) ⊎ (length slot ≤ j) → j < length (slot ++ n ∷ []) → after at (index_home base (slot ++ n ∷ []) j) ≡ index_bytes version (part_of numbers j)
        by j (inl earlier) lt =
            let same : get_or (slot ++ n ∷ []) j 0 ≡ get_or slot j 0 = get_or_append_left slot (n ∷ []) 0 j earlier in
            let differ : base + get_or slot j 0 ≡ base + n → ⊥ = λ e. differs slot j earlier apart.1 (omega (arith, e)) in
            ap (λ m. after at (base + m)) same
            ∙ (cond-false ((base + get_or slot j 0) == (base + n)) block (at (base + get_or slot j 0)) (ne_eqb (base + get_or slot j 0) (base + n) differ) ∙ has.index j earlier)
        by j (inr past) lt =
            let here : length slot ≡ j = omega (arith, past, lt, longer) in
            let same : get_or (slot ++ n ∷ []) j 0 ≡ n = get_or-append_right slot (n ∷ []) (length slot) j 0 refl past ∙ ap (λ i. get_or (n ∷ []) i 0) (let e : j - length slot ≡ 0 = omega (arith, here) in e) in
            ap (λ m. after at (base + m)) same
            ∙ (cond-true ((base + n) == (base + n)) block (at (base + n)) (eq-eqb (base + n) (base + n) refl)
            ∙ ap (index_bytes version) (is_front ∙ ap (take 1024) (was.left ∙ ap (λ i. drop (1024 * i) numbers) here)))

-- ---- all index blocks are placed
pub placed_large : (version base : ℕ) (bytes rest : List ℕ) (start now_taken : List Bool) (before now : Held) {old new : Meaning} (numbers slot : List ℕ)
    → is_large (length bytes) ≡ true → length start ≤ most_blocks version → length numbers ≡ blocks_needed (length bytes) → length rest ≡ 0
    → Indexing version base bytes rest start now_taken before now old new numbers slot → IsPlaced version base bytes start now_taken before now old new slot
placed_large version base bytes rest start now_taken before now numbers slot large few count none was = record {
  blocks = numbers ++ slot;
  lays = lays_as base start now_taken before now (numbers ++ slot) _ (HasFile version base bytes slot (numbers ++ slot)) (λ at has. record {
    reads = ap (λ ns. content base ns size at) (large_numbers version base slot size at large ∙ numbers_are at has) ∙ has.content;
    index = λ is j lt.
        has.index j lt
        ∙ ap (index_bytes version) (sym (index_reads_back version (part_of numbers j) (part_fits width numbers j fits))
        ∙ ap₂ (numbers_in version) (length-part numbers j ∙ ap (λ n. min 1024 (n - 1024 * j)) count) (sym (has.index j lt)));
    all = large_blocks version base slot size at large ∙ ap (λ ns. ns ++ slot) (numbers_are at has);
  }) was.lays;
  count = length-append numbers slot ∙ (ap₂ (λ a b. a + b) count slot_count_is ∙ (sym (cond-true (is_large size) (needed + (needed + 1023) / 1024) needed large) ∙ taken_with_index size));
  slot_len = slot_count_is ∙ sym (large_slot size large);
  slot_is = sym (cond-true (is_large size) (drop needed (numbers ++ slot)) (numbers ++ slot) large ∙ drop_at numbers slot needed count);
}
  where
    size : ℕ
    size = length bytes

    needed : ℕ
    needed = blocks_needed size

    width : ℕ
    width = number_width version

    slot_count_is : length slot ≡ (needed + 1023) / 1024
    slot_count_is = omega (arith, count, was.few, none, ap length was.left, length-drop (1024 * length slot) numbers)

    free : are_free start numbers ≡ true
    free = (and_parts _ _ (sym (list_all-append (λ n. nat_lt n (length start) && not (is_taken start n)) numbers slot) ∙ was.lays.places.were_free)).0

    fits : fit width numbers ≡ true
    fits = free_fit version start numbers few free

    numbers_are : (at : ℕ → List ℕ) → HasIndexes version base bytes numbers slot at → numbers_of version base slot needed at ≡ numbers
    numbers_are at has = sym (numbers_of_from version base slot needed at numbers count each)
      where
        each : (k : ℕ) → k < needed → get_or numbers k 0 ≡ number_of version base slot at k
        each k lt =
            sym (part_at numbers k)
            ∙ (sym (number_reads_back version (part_of numbers (k / 1024)) (k % 1024) (part_fits width numbers (k / 1024) fits) (omega (arith, lt, count, length-part numbers (k / 1024))))
            ∙ ap (λ b. number_at version b (k % 1024)) (sym (has.index (k / 1024) (omega (arith, lt, slot_count_is)))))

-- some content of that many blocks is placed, and index blocks for the first of them
pub record IsIndexing (version base : ℕ) (bytes rest : List ℕ) (start now_taken : List Bool) (before now : Held) (old new : Meaning) (slot : List ℕ) : Type 0 where
  pub numbers : List ℕ
  pub count : length numbers ≡ blocks_needed (length bytes)
  pub indexing : Indexing version base bytes rest start now_taken before now old new numbers slot

-- what is still to be placed fits
pub rest_fits : (version base : ℕ) (bytes rest front : List ℕ) (start now_taken : List Bool) (before now : Held) {old new : Meaning} (slot : List ℕ) → length start ≤ most_blocks version
    → IsIndexing version base bytes rest start now_taken before now old new slot → front ≡ take 1024 rest → fit (number_width version) front ≡ true
rest_fits version base bytes rest front start now_taken before now slot few was is_front =
    let numbers = was.numbers in
    let free = (and_parts _ _ (sym (list_all-append (λ n. nat_lt n (length start) && not (is_taken start n)) numbers slot) ∙ was.indexing.lays.places.were_free)).0 in
    subst (λ ns. fit (number_width version) ns ≡ true) (sym (is_front ∙ ap (take 1024) was.indexing.left)) (part_fits (number_width version) numbers (length slot) (free_fit version start numbers few free))

-- some blocks are left, since not all index blocks are placed
pub some_left : (version base : ℕ) (bytes rest : List ℕ) (start now_taken : List Bool) (before now : Held) {old new : Meaning} (slot : List ℕ) → is_large (length bytes) ≡ true
    → blocks_taken 2 (length bytes) ≤ free_count start → (was : IsIndexing version base bytes rest start now_taken before now old new slot) → 0 < length rest
    → (length slot < (blocks_needed (length bytes) + 1023) / 1024) × (length (was.numbers ++ slot) < blocks_taken 2 (length bytes)) × (0 < free_count now_taken)
some_left version base bytes rest start now_taken before now slot large enough was some =
    let numbers = was.numbers in
    let needed = blocks_needed (length bytes) in
    let all : needed + (needed + 1023) / 1024 ≡ blocks_taken 2 (length bytes) = sym (cond-true (is_large (length bytes)) (needed + (needed + 1023) / 1024) needed large) ∙ taken_with_index (length bytes) in
    let fewer : length slot < (needed + 1023) / 1024 = omega (arith, was.count, some, ap length was.indexing.left, length-drop (1024 * length slot) numbers) in
    (fewer, omega (arith, length-append numbers slot, was.count, fewer, all), omega (arith, was.indexing.lays.places.counted, length-append numbers slot, was.count, fewer, all, enough))

-- and the journal has room for one more
pub room_left : (base : ℕ) (start now_taken : List Bool) (before now : Held) {old new : Meaning} (blocks : List ℕ) {P : (ℕ → List ℕ) → Type 0} (most : ℕ) → most ≤ before.capacity.placed
    → Lays base start now_taken before now old new blocks P → length blocks < most → length now.placed < now.capacity.placed
room_left base start now_taken before now blocks most room was fewer =
    let placed : length now.placed ≡ length blocks = ap (λ (h : Held). length h.placed) was.journal ∙ length-map blocks (λ b. base + b) in
    let capacity : now.capacity.placed ≡ before.capacity.placed = ap (λ (h : Held). h.capacity.placed) was.journal in
    omega (arith, placed, capacity, fewer, room)

-- the first 1,024 numbers, or all of them
pub front_parts : (rest : List ℕ) (k : ℕ) → k ≡ min (length rest) 1024 → (take k rest ≡ take 1024 rest) × (drop k rest ≡ drop 1024 rest)
front_parts rest k is = by (cases_lt (length rest) 1024)
  where
    by : (length rest < 1024) ⊎ (1024 ≤ length rest) → (take k rest ≡ take 1024 rest) × (drop k rest ≡ drop 1024 rest)
    by (inl few) =
        (take_all k rest (omega (arith, is, few)) ∙ sym (take_all 1024 rest (omega (arith, few))), drop_all k rest (omega (arith, is, few)) ∙ sym (drop_all 1024 rest (omega (arith, few))))
    by (inr many) = let same : k ≡ 1024 = omega (arith, is, many) in (ap (λ i. take i rest) same, ap (λ i. drop i rest) same)
