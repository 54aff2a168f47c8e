-- The taken blocks and their count, from the row of the free ones.
use Rattle.std.proofs.Common.{◌≡◌, ◌⊎◌, ℕ, ◌+◌, ◌-◌, ◌<◌, ◌≤◌, ◌==◌, Bool, true, false, not, nat_lt, if◌then◌else◌, cond, List, length, get_or, set, replicate, ◌↔◌, Option, Some, None, IsNone, IfSome, IfNone, refl, sym, ap, ◌∙◌, inl, inr, arith, eq-eqb, length-set, get_or-set_same, get_or-set_other}
use Rattle.std.proofs.lemmas.Bool.{cases_eq, cases_lt, ne_eqb, lt-ltb}
use Rattle.std.proofs.lemmas.Bool.Decides.{nat_tests}
use Rattle.std.proofs.lemmas.List.{get_or-replicate, length-replicate, get_or_past, get_or_default, same_lists}
use Rattle.std.proofs.lemmas.List.FromFn.{fill_by_all, length-map-range_with_len, get_or-map-range_with_len}
use Rattle.std.proofs.lemmas.List.Folds.{sum_by-replicate}
use Rattle.std.proofs.lemmas.List.Sums.{sum_by-set, count_by-le-length}
use Rattle.lis_bits.specs.Rows.{Rows, get, with_row, NoneTrue}
use Rattle.lis_bits.proofs.Laws.{get-with_row_same, length-with_row}
use Rattle.lis_blockmap.specs.Bitmap.{free_count, NoneFree}
use Rattle.lis_blockmap.specs.Inside.{taken_of, HasFree, IsSoundMap}

-- ---- counts
pub one_fewer : (taken : List Bool) (n : ℕ) → n < length taken → get_or taken n false ≡ false → free_count (set taken n true) + 1 ≡ free_count taken
one_fewer taken n lt free =
    let sum = sum_by-set (λ v. cond (not v) 1 0) taken n true false lt in
    let one = ap {B = ℕ} (λ v. cond (not v) 1 0) free in
    omega (arith, sum, one)

pub one_more : (taken : List Bool) (n : ℕ) → n < length taken → get_or taken n false ≡ true → free_count (set taken n false) ≡ free_count taken + 1
one_more taken n lt held =
    let sum = sum_by-set (λ v. cond (not v) 1 0) taken n false false lt in
    let none = ap {B = ℕ} (λ v. cond (not v) 1 0) held in
    omega (arith, sum, none)

pub all_free : (n : ℕ) → free_count (replicate n false) ≡ n
all_free n = omega (arith, sum_by-replicate (λ v. cond (not v) 1 0) n false)

none_free : (taken : List Bool) → ((k : ℕ) → k < length taken → get_or taken k false ≡ true) → free_count taken ≡ 0
none_free taken all =
    let same = same_lists taken (replicate (length taken) true) (sym (length-replicate (length taken) true)) (λ k d lt. all_or k d lt ∙ sym (get_or-replicate (length taken) k true d lt)) in
    ap free_count same ∙ omega (arith, sum_by-replicate (λ v. cond (not v) 1 0) (length taken) true)
  where
    all_or : (k : ℕ) (d : Bool) → k < length taken → get_or taken k d ≡ true
    all_or k d lt = get_or_default taken k d false lt ∙ all k lt

-- ---- the taken blocks
module _ (rows : Rows) (blocks : ℕ) where
  pub length-taken_of : length (taken_of rows blocks) ≡ blocks
  unfolding taken_of
  length-taken_of = length-map-range_with_len (λ n. not (get rows 0 n)) 0 blocks

  pub get-taken_of : (n : ℕ) → n < blocks → get_or (taken_of rows blocks) n false ≡ not (get rows 0 n)
  unfolding taken_of
  get-taken_of n lt = get_or-map-range_with_len (λ n. not (get rows 0 n)) 0 blocks n n false lt (omega arith)

  pub past-taken_of : (n : ℕ) → blocks ≤ n → get_or (taken_of rows blocks) n false ≡ false
  past-taken_of n ge = get_or_past (taken_of rows blocks) n false (omega (arith, length-taken_of))

  pub few_free : free_count (taken_of rows blocks) ≤ blocks
  few_free = omega (arith, count_by-le-length not (taken_of rows blocks), length-taken_of)

-- how many data blocks there are, by the value of a map
pub long : (rows : Rows) (blocks : ℕ) (taken : List Bool) → taken_of rows blocks ≡ taken → length taken ≡ blocks
long rows blocks taken is = ap length (sym is) ∙ length-taken_of rows blocks

-- one bit is put
abbrev pub after_put : Rows → ℕ → Bool → Rows
after_put rows n free = with_row rows 0 (λ k. if k == n then free else get rows 0 k)

module _ (rows : Rows) (blocks n : ℕ) (free : Bool) (tall : length rows.rows ≡ 1) (wide : blocks ≤ rows.bits) (lt : n < blocks) where
  bit_after : (k : ℕ) → k < rows.bits → get (after_put rows n free) 0 k ≡ (if k == n then free else get rows 0 k)
  bit_after k in_row = get-with_row_same rows 0 k (λ k. if k == n then free else get rows 0 k) (omega (arith, tall)) in_row

  other_bit : (k : ℕ) → k < rows.bits → (k ≡ n → ⊥) → get (after_put rows n free) 0 k ≡ get rows 0 k
  other_bit k in_row differ = bit_after k in_row ∙ rw (ne_eqb k n differ)

  pub taken_put : taken_of (after_put rows n free) blocks ≡ set (taken_of rows blocks) n (not free)
  unfolding taken_of
  taken_put = sym (fill_by_all (λ k. not (get (after_put rows n free) 0 k)) (set (taken_of rows blocks) n (not free)) blocks false (length-set (taken_of rows blocks) n (not free) ∙ length-taken_of rows blocks) (λ k in_blocks. at k in_blocks (cases_eq k n)))
    where
      at : (k : ℕ) → k < blocks → (k ≡ n) ⊎ (k ≡ n → ⊥) → get_or (set (taken_of rows blocks) n (not free)) k false ≡ not (get (after_put rows n free) 0 k)
      at k in_blocks (inl same) = rw same (get_or-set_same (taken_of rows blocks) n (not free) false (omega (arith, length-taken_of rows blocks)) ∙ ap not (sym (bit_after n (omega arith) ∙ rw (eq-eqb n n refl))))
      at k in_blocks (inr differ) = get_or-set_other (taken_of rows blocks) n k (not free) false differ ∙ (get-taken_of rows blocks k in_blocks ∙ ap not (sym (other_bit k (omega arith) differ)))

  pub sound_put : (count left : ℕ) → IsSoundMap rows blocks count → left ≡ free_count (set (taken_of rows blocks) n (not free)) → IsSoundMap (after_put rows n free) blocks left
  sound_put count left sound same = record {
    tall = length-with_row rows 0 (λ k. if k == n then free else get rows 0 k) ∙ tall;
    wide = wide;
    few = sound.few;
    past = λ k ge in_row. other_bit k in_row (omega arith) ∙ sound.past k ge in_row;
    counted = same ∙ ap free_count (sym taken_put);
  }

-- a block is given or taken
module _ (rows : Rows) (blocks free n : ℕ) (sound : IsSoundMap rows blocks free) where
  pub held_within : get_or (taken_of rows blocks) n false ≡ true → n < blocks
  held_within held = go (cases_lt n blocks)
    where
      go : (n < blocks) ⊎ (blocks ≤ n) → n < blocks
      go (inl lt) = lt
      go (inr ge) = absurd (let e = sym (past-taken_of rows blocks n ge) ∙ held in cc)

  pub given_more : get_or (taken_of rows blocks) n false ≡ true → free_count (set (taken_of rows blocks) n false) ≡ free_count (taken_of rows blocks) + 1
  given_more held = one_more (taken_of rows blocks) n (omega (arith, length-taken_of rows blocks, held_within held)) held

  pub given_sound : get_or (taken_of rows blocks) n false ≡ true → IsSoundMap (after_put rows n true) blocks (free + 1)
  given_sound held = sound_put rows blocks n true sound.tall sound.wide (held_within held) free (free + 1) sound (omega (arith, given_more held, sound.counted))

  module _ (lt : n < blocks) (is_free : get_or (taken_of rows blocks) n false ≡ false) where
    pub marked_fewer : free_count (set (taken_of rows blocks) n true) + 1 ≡ free_count (taken_of rows blocks)
    marked_fewer = one_fewer (taken_of rows blocks) n (omega (arith, length-taken_of rows blocks)) is_free

    pub some_free : 1 ≤ free
    some_free = omega (arith, marked_fewer, sound.counted)

    pub marked_sound : IsSoundMap (after_put rows n false) blocks (free - 1)
    marked_sound = sound_put rows blocks n false sound.tall sound.wide lt free (free - 1) sound (omega (arith, marked_fewer, sound.counted))

-- ---- a row of free blocks
not_below : (n m : ℕ) → m ≤ n → nat_lt n m ≡ false
not_below n m ge = grind (arith, nat_tests)

pub one_more_bit : (rows : Rows) (blocks n : ℕ) → HasFree rows blocks n → n < blocks → HasFree (after_put rows n true) blocks (n + 1)
one_more_bit rows blocks n h lt = record {
  tall = length-with_row rows 0 (λ k. if k == n then true else get rows 0 k) ∙ h.tall;
  wide = h.wide;
  bits = λ k in_row. at k in_row (cases_eq k n);
}
  where
    at : (k : ℕ) → k < rows.bits → (k ≡ n) ⊎ (k ≡ n → ⊥) → get (after_put rows n true) 0 k ≡ nat_lt k (n + 1)
    at k in_row (inl same) = bit_after rows blocks n true h.tall h.wide lt k in_row ∙ (rw (eq-eqb k n same) (sym (lt-ltb k (n + 1) (omega arith))))
    at k in_row (inr differ) = other_bit rows blocks n true h.tall h.wide lt k in_row differ ∙ (h.bits k in_row ∙ grind (arith, nat_tests))

module _ (rows : Rows) (blocks : ℕ) (h : HasFree rows blocks blocks) where
  pub none_taken : taken_of rows blocks ≡ replicate blocks false
  none_taken = same_lists (taken_of rows blocks) (replicate blocks false) (length-taken_of rows blocks ∙ sym (length-replicate blocks false)) same
    where
      same : (k : ℕ) (d : Bool) → k < length (taken_of rows blocks) → get_or (taken_of rows blocks) k d ≡ get_or (replicate blocks false) k d
      same k d in_list =
          let lt : k < blocks = omega (arith, length-taken_of rows blocks) in
          get_or_default (taken_of rows blocks) k d false in_list ∙ (get-taken_of rows blocks k lt ∙ (ap not (h.bits k (omega (arith, h.wide)) ∙ lt-ltb k blocks lt) ∙ sym (get_or-replicate blocks k false d lt)))

  pub sound_at_first : blocks ≤ 16777216 → IsSoundMap rows blocks blocks
  sound_at_first few = record {
    tall = h.tall;
    wide = h.wide;
    few = few;
    past = λ n ge lt. h.bits n lt ∙ not_below n blocks ge;
    counted = sym (ap free_count none_taken ∙ all_free blocks);
  }

-- ---- a search for a free block
module _ (rows : Rows) (blocks free : ℕ) (sound : IsSoundMap rows blocks free) where
  pub none_found : NoneTrue rows 0 0 rows.bits → free_count (taken_of rows blocks) ≡ 0
  none_found none = none_free (taken_of rows blocks) (λ k in_list.
      let lt : k < blocks = omega (arith, length-taken_of rows blocks) in
      get-taken_of rows blocks k lt ∙ ap not (none k (omega arith) (omega (arith, sound.wide))))

  pub found_within : (n : ℕ) → get rows 0 n ≡ true → n < rows.bits → n < blocks
  found_within n free_bit in_row = go (cases_lt n blocks)
    where
      go : (n < blocks) ⊎ (blocks ≤ n) → n < blocks
      go (inl lt) = lt
      go (inr ge) = absurd (let e = sym (sound.past n ge in_row) ∙ free_bit in cc)

  pub found_free : (n : ℕ) → get rows 0 n ≡ true → n < rows.bits → get_or (taken_of rows blocks) n false ≡ false
  found_free n free_bit in_row = get-taken_of rows blocks n (found_within n free_bit in_row) ∙ ap not free_bit

  pub found_some : (n : ℕ) → get rows 0 n ≡ true → n < rows.bits → 1 ≤ free_count (taken_of rows blocks)
  found_some n free_bit in_row =
      let lt = found_within n free_bit in_row in
      omega (arith, marked_fewer rows blocks free n sound lt (found_free n free_bit in_row))

  -- where no bit is true, no block is free
  pub none_free_there : (start end : ℕ) → end ≤ blocks → NoneTrue rows 0 start end → NoneFree (taken_of rows blocks) start end
  none_free_there start end within none k ge lt = get-taken_of rows blocks k (omega (arith, within, lt)) ∙ ap not (none k ge lt)

  pub none_free_on : (start : ℕ) → NoneTrue rows 0 start rows.bits → NoneFree (taken_of rows blocks) start (length (taken_of rows blocks))
  none_free_on start none k ge lt =
      let in_blocks : k < blocks = omega (arith, length-taken_of rows blocks, lt) in
      get-taken_of rows blocks k in_blocks ∙ ap not (none k ge (omega (arith, in_blocks, sound.wide)))

  -- the same of a search that may find none
  module _ (found : Option ℕ) (free_bit : IfSome found (λ n. get rows 0 n ≡ true)) (in_row : IfSome found (λ n. n < rows.bits)) where
    pub is_none : IfNone found (NoneTrue rows 0 0 rows.bits) → IsNone found ↔ (free_count (taken_of rows blocks) ≡ 0)
    is_none none = go found free_bit in_row none
      where
        go : (o : Option ℕ) → IfSome o (λ n. get rows 0 n ≡ true) → IfSome o (λ n. n < rows.bits) → IfNone o (NoneTrue rows 0 0 rows.bits) → IsNone o ↔ (free_count (taken_of rows blocks) ≡ 0)
        go None a b none = (λ _. none_found none, λ _. refl)
        go (Some n) a b none = (λ no. absurd cc, λ zero. absurd (omega (arith, found_some n a b, zero)))

    pub is_within : IfSome found (λ n. n < length (taken_of rows blocks))
    is_within = go found free_bit in_row
      where
        go : (o : Option ℕ) → IfSome o (λ n. get rows 0 n ≡ true) → IfSome o (λ n. n < rows.bits) → IfSome o (λ n. n < length (taken_of rows blocks))
        go None a b = tt
        go (Some n) a b = omega (arith, length-taken_of rows blocks, found_within n a b)

    pub is_free : IfSome found (λ n. get_or (taken_of rows blocks) n false ≡ false)
    is_free = go found free_bit in_row
      where
        go : (o : Option ℕ) → IfSome o (λ n. get rows 0 n ≡ true) → IfSome o (λ n. n < rows.bits) → IfSome o (λ n. get_or (taken_of rows blocks) n false ≡ false)
        go None a b = tt
        go (Some n) a b = found_free n a b

    pub is_wrapped : (from : ℕ) → NoneFree (taken_of rows blocks) from (length (taken_of rows blocks)) → IfSome found (λ n. NoneTrue rows 0 0 n)
        → IfSome found (λ n. n < from → NoneFree (taken_of rows blocks) from (length (taken_of rows blocks)) × NoneFree (taken_of rows blocks) 0 n)
    is_wrapped from behind least = go found free_bit in_row least
      where
        go : (o : Option ℕ) → IfSome o (λ n. get rows 0 n ≡ true) → IfSome o (λ n. n < rows.bits) → IfSome o (λ n. NoneTrue rows 0 0 n)
            → IfSome o (λ n. n < from → NoneFree (taken_of rows blocks) from (length (taken_of rows blocks)) × NoneFree (taken_of rows blocks) 0 n)
        go None a b least = tt
        go (Some n) a b least = λ _. (behind, none_free_there 0 n (omega (arith, found_within n a b)) least)
