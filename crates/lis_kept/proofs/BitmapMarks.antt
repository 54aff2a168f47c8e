-- The blocks of the bitmap that have the bits of some data blocks, and marks of them.
use Rattle.std.proofs.Common.{arith, nat_le, filter, add-one, drop-cons}
use Rattle.std.proofs.lemmas.Bool.{le-ltb, le-leb, leb-true}
use Rattle.std.proofs.lemmas.List.{map-append}
use Rattle.std.proofs.lemmas.List.Elements.{filter-append}
use Rattle.std.proofs.lemmas.List.Sums.{fold-append}
use Rattle.lis_kept.proofs.Common.{◌≡◌, ◌⊎◌, ℕ, zero, suc, ◌+◌, ◌*◌, ◌<◌, ◌≤◌, nat_lt, Bool, true, false, cond, List, [], ◌∷◌, ◌++◌, length, set, map, refl, sym, ap, ◌∙◌, subst, inl, inr, cases_lt, ltb-true, lt-ltb, sum_by-cons, get_or, drop, ◌-◌, cases_eq, get_or-set_same, get_or-set_other, get_or_past, length-set, list_all, all_among, and_parts, and_from, ap₂, ◌&&◌, Among, among_map, map_among, among_filter, filter_among, Limits, bitmap_start, data_start, marked, length-marked}
use Rattle.lis_bits.proofs.Numbers.{bytes_same}
use Rattle.lis_blockmap.specs.Bitmap.{is_taken, bitmap_bytes}
use Rattle.lis_content.specs.Content.{given}
use Rattle.lis_content.specs.Placing.{homes_of}
use Rattle.lis_graph.proofs.Members.{among_at}
use Rattle.lis_model.specs.Image.{bitmap_blocks, image_blocks}
use Rattle.lis_kept.specs.Metadata.{Metadata}
use Rattle.lis_kept.specs.Areas.{Area, slots_of, block_of, spelled, bitmap_home, is_marked}
use Rattle.lis_kept.specs.Areas.Area.{Properties, Axioms, Files, Rows, Sets, Bitmap}
use Rattle.lis_kept.specs.Sound.{AreSound}
use Rattle.lis_kept.specs.Changes.{Marks, Takes, bitmap_homes}
use Rattle.lis_kept.proofs.Marking.{true_in, marked_only, one_at_most, blocks_marked}

-- a flag that is true is there
within_if_taken : (bits : List Bool) (n : ℕ) → is_taken bits n ≡ true → n < length bits
within_if_taken bits n is = by (cases_lt n (length bits))
  where
    by : (n < length bits) ⊎ (length bits ≤ n) → n < length bits
    by (inl lt) = lt
    by (inr past) = absurd (let e : true ≡ false = sym is ∙ get_or_past bits n false past in cc)

next_at : (ns : List ℕ) (i : ℕ) → i < length ns → drop i ns ≡ get_or ns i 0 ∷ drop (i + 1) ns
next_at ns i lt = drop-cons ns i 0 lt ∙ ap (λ k. get_or ns i 0 ∷ drop k ns) (sym (add-one i))

-- ---- which blocks they are
-- each is one of the bitmap's
pub homes_within : (limits : Limits) (blocks : List ℕ) (n : ℕ) → Among (bitmap_homes limits blocks) n → (bitmap_start limits ≤ n) × (n < bitmap_start limits + bitmap_blocks limits)
homes_within limits blocks n among =
    let found = among_map (bitmap_home limits) (filter (λ b. nat_lt b limits.blocks) blocks) n among in
    let lt = ltb-true found.0 limits.blocks (among_filter (λ b. nat_lt b limits.blocks) blocks found.0 found.1).1 in
    (omega (arith, found.2), omega (arith, found.2, lt))

-- the one with the bit of a data block
pub home_among : (limits : Limits) (blocks : List ℕ) (b : ℕ) → Among blocks b → b < limits.blocks → Among (bitmap_homes limits blocks) (bitmap_home limits b)
home_among limits blocks b among lt =
    map_among (bitmap_home limits) (filter (λ b. nat_lt b limits.blocks) blocks) b
    (filter_among (λ b. nat_lt b limits.blocks) blocks b among (lt-ltb b limits.blocks lt))

-- those of some data blocks, and then those of others
pub homes_both : (limits : Limits) (one two : List ℕ) → bitmap_homes limits (one ++ two) ≡ bitmap_homes limits one ++ bitmap_homes limits two
homes_both limits one two =
    ap (map (bitmap_home limits)) (filter-append (λ b. nat_lt b limits.blocks) one two)
    ∙ map-append (bitmap_home limits) (filter (λ b. nat_lt b limits.blocks) one) (filter (λ b. nat_lt b limits.blocks) two)

pub marked_both : (limits : Limits) (bits : List Bool) (one two : List ℕ)
    → marked (marked bits (bitmap_homes limits one)) (bitmap_homes limits two) ≡ marked bits (bitmap_homes limits (one ++ two))
marked_both limits bits one two =
    sym (ap (marked bits) (homes_both limits one two) ∙ fold-append (λ t n. set t n true) bits (bitmap_homes limits one) (bitmap_homes limits two))

-- ---- how many are marked
abbrev Within : ℕ → ℕ → ℕ → Type 0
Within first m n = (first ≤ n) × (n < first + m)

true_of : (b : Bool) (bits : List Bool) → true_in (b ∷ bits) ≡ cond b 1 0 + true_in bits
true_of b bits = sum_by-cons (λ (b : Bool). cond b 1 0) b bits

no_more : (was now : Bool) → (now ≡ true → was ≡ true) → cond now 1 0 ≤ cond was 1 0
no_more true now still = one_at_most now
no_more false true still = absurd (let e : false ≡ true = still refl in cc)
no_more false false still = omega arith

-- what was true, unless it is in the range
unless : (first m n : ℕ) (was now : Bool) → (Within first m n → ⊥) → (now ≡ true → (was ≡ true) ⊎ Within first m n) → now ≡ true → was ≡ true
unless first m n was now out within is = by (within is)
  where
    by : (was ≡ true) ⊎ Within first m n → was ≡ true
    by (inl still) = still
    by (inr inside) = absurd (out inside)

-- the same of the bits after the first
behind : (first m f k n : ℕ) (was : Bool) → f ≡ first - 1 → f + k ≡ first + m - 1 → (was ≡ true) ⊎ Within first m (suc n) → (was ≡ true) ⊎ Within f k n
behind first m f k n was low end (inl still) = inl still
behind first m f k n was low end (inr inside) = inr (omega (arith, inside.0, low), omega (arith, inside.1, end))

-- bits that become true only within m places become true at most m times
few_more : (first m : ℕ) (bits after : List Bool) → length after ≡ length bits → ((n : ℕ) → is_taken after n ≡ true → (is_taken bits n ≡ true) ⊎ Within first m n) → true_in after ≤ true_in bits + m
few_more first m [] [] len within = omega arith
few_more first m [] (a ∷ after) len within = absurd (omega (arith, len))
few_more first m (b ∷ bits) [] len within = absurd (omega (arith, len))
few_more zero zero (b ∷ bits) (a ∷ after) len within =
    let rest = few_more 0 0 bits after (omega (arith, len)) (λ n is. behind 0 0 0 0 n (is_taken bits n) (omega arith) (omega arith) (within (suc n) is)) in
    omega (arith, true_of b bits, true_of a after, no_more b a (unless 0 0 0 b a (λ r. omega (arith, r.1)) (within 0)), rest)
few_more zero (suc m) (b ∷ bits) (a ∷ after) len within =
    let rest = few_more 0 m bits after (omega (arith, len)) (λ n is. behind 0 (suc m) 0 m n (is_taken bits n) (omega arith) (omega arith) (within (suc n) is)) in
    omega (arith, true_of b bits, true_of a after, one_at_most a, rest)
few_more (suc f) m (b ∷ bits) (a ∷ after) len within =
    let rest = few_more f m bits after (omega (arith, len)) (λ n is. behind (suc f) m f m n (is_taken bits n) (omega arith) (omega arith) (within (suc n) is)) in
    omega (arith, true_of b bits, true_of a after, no_more b a (unless (suc f) m 0 b a (λ r. omega (arith, r.0)) (within 0)), rest)

-- whatever data blocks they are of, no more of them than the bitmap has
pub few_in_bitmap : (limits : Limits) (bits : List Bool) (blocks : List ℕ) → true_in (marked bits (bitmap_homes limits blocks)) ≤ true_in bits + bitmap_blocks limits
few_in_bitmap limits bits blocks =
    few_more (bitmap_start limits) (bitmap_blocks limits) bits (marked bits homes) (length-marked bits homes) (λ n is. by n (marked_only homes bits n is))
  where
    homes : List ℕ
    homes = bitmap_homes limits blocks

    by : (n : ℕ) → (is_taken bits n ≡ true) ⊎ Among homes n → (is_taken bits n ≡ true) ⊎ Within (bitmap_start limits) (bitmap_blocks limits) n
    by n (inl was) = inl was
    by n (inr among) = inr (homes_within limits blocks n among)

-- what is marked stays so
marked_still : (bits : List Bool) (homes : List ℕ) (n : ℕ) → is_taken bits n ≡ true → is_taken (marked bits homes) n ≡ true
marked_still bits [] n is = is
marked_still bits (h ∷ homes) n is = marked_still (set bits h true) homes n (by (cases_eq n h))
  where
    by : (n ≡ h) ⊎ (n ≡ h → ⊥) → is_taken (set bits h true) n ≡ true
    by (inl here) = ap (λ m. is_taken (set bits h true) m) here ∙ get_or-set_same bits h true false (within_if_taken bits h (subst (λ m. is_taken bits m ≡ true) here is))
    by (inr other) = get_or-set_other bits h n true false other ∙ is

-- each of them is marked
marked_among : (bits : List Bool) (homes : List ℕ) (n : ℕ) → n < length bits → Among homes n → is_taken (marked bits homes) n ≡ true
marked_among bits [] n lt none = absurd none
marked_among bits (h ∷ homes) n lt (inl here) = subst (λ m. is_taken (marked (set bits h true) homes) m ≡ true) here (marked_still (set bits h true) homes h (get_or-set_same bits h true false (omega (arith, here, lt))))
marked_among bits (h ∷ homes) n lt (inr more) = marked_among (set bits h true) homes n (omega (arith, lt, length-set bits h true)) more

-- ---- what is spelled there
-- a block of the bitmap without the bits of these data blocks is as before, if all others are taken or free as before
bytes_unless : (limits : Limits) (before after : List Bool) (blocks : List ℕ) (n : ℕ) → length before ≡ limits.blocks → length after ≡ length before
    → ((k : ℕ) → (Among blocks k → ⊥) → is_taken after k ≡ is_taken before k) → (Among (bitmap_homes limits blocks) (bitmap_start limits + n) → ⊥)
    → bitmap_bytes n after ≡ bitmap_bytes n before
unfolding bitmap_bytes
bytes_unless limits before after blocks n len as_long others apart =
    bytes_same 4096 (λ j. is_taken after (32768 * n + j)) (λ j. is_taken before (32768 * n + j)) (λ j lt. by j lt (cases_lt (32768 * n + j) limits.blocks))
  where
    none : (j : ℕ) → j < 8 * 4096 → 32768 * n + j < limits.blocks → Among blocks (32768 * n + j) → ⊥
    none j lt there among =
        let home : bitmap_home limits (32768 * n + j) ≡ bitmap_start limits + n = omega (arith, lt) in
        apart (subst (Among (bitmap_homes limits blocks)) home (home_among limits blocks (32768 * n + j) among there))

    by : (j : ℕ) → j < 8 * 4096 → (32768 * n + j < limits.blocks) ⊎ (limits.blocks ≤ 32768 * n + j) → is_taken after (32768 * n + j) ≡ is_taken before (32768 * n + j)
    by j lt (inl there) = others (32768 * n + j) (none j lt there)
    by j lt (inr past) = get_or_past after (32768 * n + j) false (omega (arith, past, len, as_long)) ∙ sym (get_or_past before (32768 * n + j) false (omega (arith, past, len)))

-- ---- blocks that are freed or taken
pub given_others : (taken : List Bool) (ns : List ℕ) (n : ℕ) → (Among ns n → ⊥) → is_taken (given taken ns) n ≡ is_taken taken n
given_others taken [] n apart = refl
given_others taken (b ∷ ns) n apart = given_others (set taken b false) ns n (λ m. apart (inr m)) ∙ get_or-set_other taken b n false false (λ e. apart (inl (sym e)))

pub marked_others : (taken : List Bool) (ns : List ℕ) (n : ℕ) → (Among ns n → ⊥) → is_taken (marked taken ns) n ≡ is_taken taken n
marked_others taken [] n apart = refl
marked_others taken (b ∷ ns) n apart = marked_others (set taken b true) ns n (λ m. apart (inr m)) ∙ get_or-set_other taken b n true false (λ e. apart (inl (sym e)))

-- other blocks are taken than before, and the blocks of the bitmap with their bits are marked
module _ (p : Metadata) (sound : AreSound p) (blocks : List ℕ) (taken marks : List Bool) (len : length taken ≡ length p.taken)
    (others : (n : ℕ) → (Among blocks n → ⊥) → is_taken taken n ≡ is_taken p.taken n) (are_marks : marks ≡ marked p.marks (bitmap_homes p.limits blocks)) where
  abbrev retaken : Metadata
  retaken = record p { taken = taken; marks = marks }

  homes_below : (n : ℕ) → Among (bitmap_homes p.limits blocks) n → n < length p.marks
  homes_below n among = omega (arith, (homes_within p.limits blocks n among).1, sound.marks)

  spelled_before : (area : Area) (n : ℕ) → n < (slots_of p.limits area).count → (Among (bitmap_homes p.limits blocks) (block_of p.limits area n) → ⊥) → spelled retaken area n ≡ spelled p area n
  spelled_before Properties n lt apart = refl
  spelled_before Axioms n lt apart = refl
  spelled_before Files n lt apart = refl
  spelled_before Rows n lt apart = refl
  spelled_before Sets n lt apart = refl
  spelled_before Bitmap n lt apart =
      bytes_unless p.limits p.taken taken blocks n sound.blocks len others
      (λ among. apart (subst (Among (bitmap_homes p.limits blocks)) (omega arith) among))

  pub bitmap_marked : Marks (bitmap_blocks p.limits) p retaken
  bitmap_marked = record {
    saved = (blocks_marked p retaken (bitmap_homes p.limits blocks) refl are_marks homes_below spelled_before).saved;
    few = omega (arith, few_in_bitmap p.limits p.marks blocks, ap true_in are_marks);
  }

-- some blocks after others: no more is marked than one bitmap
pub takes_both : (p mid q : Metadata) (one two : List ℕ) (ts us : List Bool) → Takes one ts p mid → Takes two us mid q → Marks (bitmap_blocks p.limits) p q
takes_both p mid q one two ts us first second = record {
  saved = λ at saved. second.marks.saved at (first.marks.saved at saved);
  few = omega (arith, few_in_bitmap p.limits p.marks (one ++ two), ap true_in are_marks);
}
  where
    are_marks : q.marks ≡ marked p.marks (bitmap_homes p.limits (one ++ two))
    are_marks =
        ap (λ (k : Metadata). k.marks) second.metadata
        ∙ (ap (λ (k : Metadata). marked k.marks (bitmap_homes k.limits two)) first.metadata ∙ marked_both p.limits p.marks one two)

-- the block of the bitmap with the bit of each of them is marked
pub takes_marked : (p q : Metadata) (blocks : List ℕ) (taken : List Bool) → AreSound p → Takes blocks taken p q → (n : ℕ) → Among blocks n → n < p.limits.blocks
    → is_marked q (bitmap_home p.limits n) ≡ true
takes_marked p q blocks taken sound takes n among lt =
    ap (λ (k : Metadata). is_marked k (bitmap_home p.limits n)) takes.metadata
    ∙ marked_among p.marks (bitmap_homes p.limits blocks) (bitmap_home p.limits n) (omega (arith, lt, sound.marks)) (home_among p.limits blocks n among lt)

-- ---- a loop over data blocks
-- one data block more
pub marks_one : (limits : Limits) (bits : List Bool) (blocks : List ℕ) (i : ℕ) → i < length blocks → get_or blocks i 0 < limits.blocks
    → marked (set bits (bitmap_home limits (get_or blocks i 0)) true) (bitmap_homes limits (drop (i + 1) blocks)) ≡ marked bits (bitmap_homes limits (drop i blocks))
marks_one limits bits blocks i at lt =
    let n = get_or blocks i 0 in
    let rest = filter (λ b. nat_lt b limits.blocks) (drop (i + 1) blocks) in
    sym (ap (λ ns. marked bits (bitmap_homes limits ns)) (next_at blocks i at)
    ∙ ap (λ b. marked bits (map (bitmap_home limits) (cond b (n ∷ rest) rest))) (lt-ltb n limits.blocks lt))

-- one that the image does not have
pub marks_none : (limits : Limits) (bits : List Bool) (blocks : List ℕ) (i : ℕ) → i < length blocks → limits.blocks ≤ get_or blocks i 0
    → marked bits (bitmap_homes limits (drop (i + 1) blocks)) ≡ marked bits (bitmap_homes limits (drop i blocks))
marks_none limits bits blocks i at le =
    let n = get_or blocks i 0 in
    let rest = filter (λ b. nat_lt b limits.blocks) (drop (i + 1) blocks) in
    sym (ap (λ ns. marked bits (bitmap_homes limits ns)) (next_at blocks i at)
    ∙ ap (λ b. marked bits (map (bitmap_home limits) (cond b (n ∷ rest) rest))) (le-ltb n limits.blocks le))

-- marks that are still to be made do not change how many flags there are
pub as_many : (one two : List Bool) (some all : List ℕ) → marked one some ≡ marked two all → length one ≡ length two
as_many one two some all same = sym (length-marked one some) ∙ (ap length same ∙ length-marked two all)

-- ---- homes of data blocks
abbrev pub is_home : Limits → ℕ → Bool
is_home limits h = nat_le (data_start limits) h && nat_lt h (image_blocks limits)

-- the block of the bitmap, by the home
abbrev pub bitmap_home_of : Limits → ℕ → ℕ
bitmap_home_of limits h = bitmap_home limits (h - data_start limits)

pub home_at : (limits : Limits) (homes : List ℕ) (i : ℕ) → i < length homes → list_all (is_home limits) homes ≡ true
    → (data_start limits ≤ get_or homes i 0) × (get_or homes i 0 < image_blocks limits)
home_at limits homes i lt all =
    let h = get_or homes i 0 in
    let both = and_parts (nat_le (data_start limits) h) (nat_lt h (image_blocks limits)) (all_among (is_home limits) homes h all (among_at homes i 0 lt)) in
    (leb-true (data_start limits) h both.0, ltb-true h (image_blocks limits) both.1)

-- one home more
pub marks_home : (f : ℕ → ℕ) (bits : List Bool) (homes : List ℕ) (i : ℕ) → i < length homes
    → marked (set bits (f (get_or homes i 0)) true) (map f (drop (i + 1) homes)) ≡ marked bits (map f (drop i homes))
marks_home f bits homes i at = sym (ap (λ hs. marked bits (map f hs)) (next_at homes i at))

-- the homes of data blocks are homes of the image
pub homes_are : (limits : Limits) (blocks : List ℕ) → list_all (λ n. nat_lt n limits.blocks) blocks ≡ true → list_all (is_home limits) (homes_of (data_start limits) blocks) ≡ true
homes_are limits [] below = refl
homes_are limits (b ∷ blocks) below =
    let parts = and_parts (nat_lt b limits.blocks) (list_all (λ n. nat_lt n limits.blocks) blocks) below in
    let lt = ltb-true b limits.blocks parts.0 in
    let h = data_start limits + b in
    and_from (is_home limits h) (list_all (is_home limits) (homes_of (data_start limits) blocks))
    (and_from (nat_le (data_start limits) h) (nat_lt h (image_blocks limits)) (le-leb (data_start limits) h (omega arith)) (lt-ltb h (image_blocks limits) (omega (arith, lt))))
    (homes_are limits blocks parts.1)

-- by them the same blocks of the bitmap are found
pub homes_by : (limits : Limits) (blocks : List ℕ) → list_all (λ n. nat_lt n limits.blocks) blocks ≡ true
    → map (bitmap_home_of limits) (homes_of (data_start limits) blocks) ≡ bitmap_homes limits blocks
homes_by limits [] below = refl
homes_by limits (b ∷ blocks) below =
    let parts = and_parts (nat_lt b limits.blocks) (list_all (λ n. nat_lt n limits.blocks) blocks) below in
    let rest = filter (λ n. nat_lt n limits.blocks) blocks in
    ap₂ (λ k ns. bitmap_home limits k ∷ ns) (omega arith) (homes_by limits blocks parts.1)
    ∙ sym (ap (λ t. map (bitmap_home limits) (cond t (b ∷ rest) rest)) parts.0)
