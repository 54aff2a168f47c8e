-- How many blocks a change marks at most, by the version of the image, and that every change fits a record of the journal.
use Rattle.lis_store.proofs.Common.{◌≡◌, ◌⊎◌, inl, inr, refl, sym, ap, ◌∙◌, subst, ℕ, zero, suc, ◌+◌, ◌*◌, ◌/◌, ◌<◌, ◌≤◌, ◌==◌, Bool, true, false, cond, List, [], ◌∷◌, ◌++◌, length, map, count_by, IsTrue, arith, length-append, length-map, sum_by-cons, range_with_len, both_ways, Among, among_left, among_right, among_map, map_among, among_where, range_among, is_taken, Ext, numbers_at, differs, numbers_where, Limits, are_in_range, Metadata, is_marked, marked_count, block_of, Describes, Rows, Sets}
use Rattle.std.proofs.lemmas.List.FromFn.{length-range_with_len}
use Rattle.lis_model.proofs.Ranges.{few_limits, wide_limits, few_parts, files_some, files_whole}
use Rattle.lis_model.specs.Image.{descriptions_start, bitmap_blocks}
use Rattle.lis_kept.specs.Areas.{description_home}
use Rattle.lis_kept.specs.Image.{most_staged}
use Rattle.lis_kept.proofs.Image.{early_staged, third_staged}
use Rattle.lis_kept.proofs.Marking.{marked_within, marked_only, early_home, third_home}
use Rattle.lis_store.specs.Redescribing.{IsTurned}

-- ---- bounds by version
-- the most blocks that show so many numbers of one slot: in version 3 its set shows all of them
pub most_own : Limits → ℕ → ℕ
most_own limits n = cond (limits.version == 3) 1 n

-- the most blocks that show 128 numbers of all slots: in version 3 those of all sets
pub most_all : Limits → ℕ
most_all limits = cond (limits.version == 3) (limits.files / 8) 128

early_own : (limits : Limits) (n : ℕ) → (limits.version == 3) ≡ false → most_own limits n ≡ n
unfolding most_own
early_own limits n early = ap (λ third. cond third 1 n) early

third_own : (limits : Limits) (n : ℕ) → (limits.version == 3) ≡ true → most_own limits n ≡ 1
unfolding most_own
third_own limits n third = ap (λ third. cond third 1 n) third

early_all : (limits : Limits) → (limits.version == 3) ≡ false → most_all limits ≡ 128
unfolding most_all
early_all limits early = ap (λ third. cond third (limits.files / 8) 128) early

third_all : (limits : Limits) → (limits.version == 3) ≡ true → most_all limits ≡ limits.files / 8
unfolding most_all
third_all limits third = ap (λ third. cond third (limits.files / 8) 128) third

-- what holds of each version
by_version : (limits : Limits) (P : Type 0) → ((limits.version == 3) ≡ true → P) → ((limits.version == 3) ≡ false → P) → P
by_version limits P third early = by (limits.version == 3) refl
  where
    by : (b : Bool) → (limits.version == 3) ≡ b → P
    by true is = third is
    by false is = early is

-- ---- changes fit
-- 44 blocks that are held back, and the words, the description and the record of a file that replaces another, with its content and the bitmap
pub own_fits : (limits : Limits) (n : ℕ) → IsTrue (are_in_range limits) → n ≤ 256 → 44 + 16 + bitmap_blocks limits + 257 + most_own limits n ≤ most_staged limits
own_fits limits n range few =
    by_version limits _
    (λ third. omega (arith, third_own limits n third, third_staged limits third, (few_limits limits range).blocks, files_some limits.files (wide_limits limits range).files))
    (λ early. omega (arith, few, early_own limits n early, early_staged limits early, (few_parts limits range early).bitmap))

-- 44 blocks that are held back, the descriptions of all files, and those of 400 slots of words and axioms
pub all_fits : (limits : Limits) → IsTrue (are_in_range limits) → 44 + 400 + most_all limits ≤ most_staged limits
all_fits limits range =
    by_version limits _ (λ third. omega (arith, third_all limits third, third_staged limits third)) (λ early. omega (arith, early_all limits early, early_staged limits early))

-- ---- how many blocks are marked
abbrev taken_from : List Bool → ℕ → List ℕ
taken_from [] i = []
taken_from (true ∷ bits) i = i ∷ taken_from bits (suc i)
taken_from (false ∷ bits) i = taken_from bits (suc i)

taken_count : (bits : List Bool) (i : ℕ) → length (taken_from bits i) ≡ count_by (λ (b : Bool). b) bits
taken_count [] i = omega arith
taken_count (true ∷ bits) i = omega (arith, taken_count bits (suc i), sum_by-cons (λ (b : Bool). cond b 1 0) true bits)
taken_count (false ∷ bits) i = omega (arith, taken_count bits (suc i), sum_by-cons (λ (b : Bool). cond b 1 0) false bits)

taken_among : (bits : List Bool) (i n : ℕ) → is_taken bits n ≡ true → Among (taken_from bits i) (i + n)
taken_among [] i n is = absurd (both_ways false refl is)
taken_among (true ∷ bits) i zero is = inl (omega arith)
taken_among (false ∷ bits) i zero is = absurd (both_ways false refl is)
taken_among (true ∷ bits) i (suc n) is = let next : suc i + n ≡ i + suc n = omega arith in inr (subst (λ m. Among (taken_from bits (suc i)) m) next (taken_among bits (suc i) n is))
taken_among (false ∷ bits) i (suc n) is = let next : suc i + n ≡ i + suc n = omega arith in subst (λ m. Among (taken_from bits (suc i)) m) next (taken_among bits (suc i) n is)

-- marks that were there, or are of these blocks
pub marked_more : (p q : Metadata) (blocks : List ℕ) → ((block : ℕ) → is_marked q block ≡ true → (is_marked p block ≡ true) ⊎ Among blocks block) → marked_count q ≤ marked_count p + length blocks
marked_more p q blocks within =
    let few = marked_within q.marks (taken_from p.marks 0 ++ blocks) (λ block is. by block (within block is)) in
    omega (arith, few, length-append (taken_from p.marks 0) blocks, taken_count p.marks 0)
  where
    by : (block : ℕ) → (is_marked p block ≡ true) ⊎ Among blocks block → Among (taken_from p.marks 0 ++ blocks) block
    by block (inl was) = let same : 0 + block ≡ block = omega arith in among_left (taken_from p.marks 0) blocks block (subst (λ m. Among (taken_from p.marks 0) m) same (taken_among p.marks 0 block was))
    by block (inr new) = among_right (taken_from p.marks 0) blocks block new

-- ---- one slot
-- if at most n numbers of a slot change
pub own_few : (slot : ℕ) (numbers : List ℕ) (p q : Metadata) (old : List ℕ) (n : ℕ) → Describes slot numbers p q → old ≡ numbers_at p.ext slot → length (numbers_where p.ext.props (differs old numbers)) ≤ n
    → marked_count q ≤ marked_count p + most_own p.limits n
own_few slot numbers p q old n describes was few =
    by_version p.limits _
    (λ third. omega (arith, third_own p.limits n third, marked_more p q (block_of p.limits Sets slot ∷ []) (λ block is. one third block (only block is))))
    (λ early. omega (arith, few, early_own p.limits n early, (describes.marks old was).few))
  where
    turned : List ℕ
    turned = numbers_where p.ext.props (differs old numbers)

    only : (block : ℕ) → is_marked q block ≡ true → (is_marked p block ≡ true) ⊎ Among (map (description_home p.limits slot) turned) block
    only block is = marked_only (map (description_home p.limits slot) turned) p.marks block (ap (λ ms. is_taken ms block) (sym (describes.touched old was)) ∙ is)

    one : (p.limits.version == 3) ≡ true → (block : ℕ) → (is_marked p block ≡ true) ⊎ Among (map (description_home p.limits slot) turned) block → (is_marked p block ≡ true) ⊎ Among (block_of p.limits Sets slot ∷ []) block
    one third block (inl before) = inl before
    one third block (inr home) =
        let found = among_map (description_home p.limits slot) turned block home in
        inr (inl (sym (third_home p.limits slot found.0 third) ∙ found.2))

-- ---- all slots
-- if all numbers that some slots gain or lose are among 128
pub all_few : (p q : Metadata) (sets : ℕ → List ℕ) (rows : List ℕ) → IsTrue (are_in_range p.limits) → length rows ≤ 128
    → ((slot n : ℕ) → differs (numbers_at p.ext slot) (sets slot) n ≡ true → (slot < p.limits.files) × Among rows n)
    → ((block : ℕ) → is_marked q block ≡ true → (is_marked p block ≡ true) ⊎ IsTurned p sets block) → marked_count q ≤ marked_count p + most_all p.limits
all_few p q sets rows range few turned within =
    by_version p.limits _
    (λ third. omega (arith, third_all p.limits third, marked_more p q (range_with_len (descriptions_start p.limits) (p.limits.files / 8)) (λ block is. third_block third block (within block is)), length-range_with_len (descriptions_start p.limits) (p.limits.files / 8)))
    (λ early. omega (arith, few, early_all p.limits early, marked_more p q (map (block_of p.limits Rows) rows) (λ block is. early_block early block (within block is)), length-map rows (block_of p.limits Rows)))
  where
    third_block : (p.limits.version == 3) ≡ true → (block : ℕ) → (is_marked p block ≡ true) ⊎ IsTurned p sets block
        → (is_marked p block ≡ true) ⊎ Among (range_with_len (descriptions_start p.limits) (p.limits.files / 8)) block
    third_block third block (inl was) = inl was
    third_block third block (inr of) =
        let below = (turned of.slot of.number of.turned).0 in
        let home : block ≡ descriptions_start p.limits + of.slot / 8 = of.is ∙ third_home p.limits of.slot of.number third in
        inr (range_among (descriptions_start p.limits) (p.limits.files / 8) block (omega (arith, home)) (omega (arith, home, below, files_whole p.limits.files (wide_limits p.limits range).files)))

    early_block : (p.limits.version == 3) ≡ false → (block : ℕ) → (is_marked p block ≡ true) ⊎ IsTurned p sets block
        → (is_marked p block ≡ true) ⊎ Among (map (block_of p.limits Rows) rows) block
    early_block early block (inl was) = inl was
    early_block early block (inr of) =
        inr (subst (λ b. Among (map (block_of p.limits Rows) rows) b) (sym (of.is ∙ early_home p.limits of.slot of.number early))
        (map_among (block_of p.limits Rows) rows of.number (turned of.slot of.number of.turned).1))
