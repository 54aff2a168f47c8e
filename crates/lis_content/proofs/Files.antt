-- What crates above need of files with index blocks, and of their placing.
use Rattle.std.proofs.Common.{◌≡◌, ◌⊎◌, ℕ, zero, suc, ◌+◌, ◌/◌, ◌<◌, ◌≤◌, ◌==◌, nat_lt, Bool, true, false, not, ◌&&◌, ◌||◌, cond, List, [], ◌∷◌, ◌++◌, length, take, drop, IsTrue, refl, sym, ◌∙◌, ap, ap₂, subst, inl, inr, arith, length-append, take-append-drop}
use Rattle.std.specs.List.{flat_map}
use Rattle.std.proofs.lemmas.Bool.{and_parts, or_left, or_right, cond-true, cond-false, eq-eqb}
use Rattle.std.proofs.lemmas.List.Folds.{list_all-append, list_any-append}
use Rattle.lis_ports.specs.Meaning.{Meaning}
use Rattle.lis_model.specs.State.{blocks_needed, blocks_taken}
use Rattle.lis_journal.specs.Journal.{Held}
use Rattle.lis_blockmap.specs.Bitmap.{is_taken}
use Rattle.lis_content.specs.Content.{content, are_free, are_within, has_home}
use Rattle.lis_content.specs.Large.{is_large, slot_count, index_bytes, index_count, numbers_in, numbers_of, index_home, content_blocks, file_content, file_blocks, IsIndexed}
use Rattle.lis_content.specs.Placing.{IsPlaced}
use Rattle.lis_content.proofs.Numbers.{below_from_free, within_if_below}
use Rattle.lis_content.proofs.Indexes.{taken_with_index, length-numbers_of, numbers_of_same, large_slot, small_slot, large_numbers, large_blocks, small_numbers, small_blocks}

by_size : (size : ℕ) → (is_large size ≡ true) ⊎ (is_large size ≡ false)
by_size size = by (is_large size)
  where
    by : (b : Bool) → (b ≡ true) ⊎ (b ≡ false)
    by true = inl refl
    by false = inr refl

-- a file has as many blocks as its size takes
pub length-file_blocks : (version base : ℕ) (slot : List ℕ) (size : ℕ) (at : ℕ → List ℕ) → length slot ≡ slot_count size
    → length (file_blocks version base slot size at) ≡ blocks_taken 2 size
length-file_blocks version base slot size at len = counted ∙ taken_with_index size
  where
    needed : ℕ
    needed = blocks_needed size

    more : ℕ
    more = needed + (needed + 1023) / 1024

    counted : length (file_blocks version base slot size at) ≡ cond (is_large size) more needed
    counted = elim (by_size size) as (λ _. length (file_blocks version base slot size at) ≡ cond (is_large size) more needed) [
      | inl large ↦
          ap length (large_blocks version base slot size at large)
          ∙ (length-append (numbers_of version base slot needed at) slot
          ∙ (ap₂ (λ a b. a + b) (length-numbers_of version base slot needed at) (len ∙ large_slot size large)
          ∙ sym (cond-true (is_large size) more needed large)))
      | inr small ↦
          ap length (small_blocks version base slot size at small)
          ∙ (len ∙ (small_slot size small ∙ sym (cond-false (is_large size) more needed small)))
    ]

-- ---- a file when other blocks change
-- what these blocks have is the same
abbrev pub AreSame : ℕ → List ℕ → (ℕ → List ℕ) → (ℕ → List ℕ) → Type 0
AreSame base blocks at after = (n : ℕ) → has_home base blocks n ≡ true → after n ≡ at n

same_part : (base : ℕ) (blocks : List ℕ) (at after : ℕ → List ℕ) → AreSame base blocks at after → flat_map (λ b. after (base + b)) blocks ≡ flat_map (λ b. at (base + b)) blocks
same_part base [] at after same = refl
same_part base (b ∷ blocks) at after same =
    ap (λ xs. xs ++ flat_map (λ k. after (base + k)) blocks) (same (base + b) (ap (λ t. t || has_home base blocks (base + b)) (eq-eqb (base + b) (base + b) refl)))
    ∙ ap (λ xs. at (base + b) ++ xs) (same_part base blocks at after (λ n has. same n (or_right (base + b == n) (has_home base blocks n) has)))

-- if two lists of blocks together are the same, each of them is
same_front : (base : ℕ) (some more : List ℕ) (at after : ℕ → List ℕ) → AreSame base (some ++ more) at after → AreSame base some at after
same_front base some more at after same n has = same n (list_any-append (λ b. base + b == n) some more ∙ or_left (has_home base some n) (has_home base more n) has)

same_back : (base : ℕ) (some more : List ℕ) (at after : ℕ → List ℕ) → AreSame base (some ++ more) at after → AreSame base more at after
same_back base some more at after same n has = same n (list_any-append (λ b. base + b == n) some more ∙ or_right (has_home base some n) (has_home base more n) has)

-- the homes of the index blocks are among those of the slot
pub index_among : (base : ℕ) (slot : List ℕ) (j : ℕ) → j < length slot → has_home base slot (index_home base slot j) ≡ true
index_among base [] j lt = absurd (omega arith)
index_among base (b ∷ slot) zero lt = or_left (base + b == base + b) (has_home base slot (base + b)) (eq-eqb (base + b) (base + b) refl)
index_among base (b ∷ slot) (suc j) lt = or_right (base + b == index_home base slot j) (has_home base slot (index_home base slot j)) (index_among base slot j (omega (arith, lt)))

-- A file is the same if what its blocks have is the same.
pub record SameFile (version base : ℕ) (slot : List ℕ) (size : ℕ) (at after : ℕ → List ℕ) : Type 0 where
  pub numbers : content_blocks version base slot size after ≡ content_blocks version base slot size at
  pub blocks : file_blocks version base slot size after ≡ file_blocks version base slot size at
  pub reads : file_content version base slot size after ≡ file_content version base slot size at
  pub index : IsIndexed version base slot size at → IsIndexed version base slot size after

pub same_file : (version base : ℕ) (slot : List ℕ) (size : ℕ) (at after : ℕ → List ℕ) → length slot ≡ slot_count size → AreSame base (file_blocks version base slot size at) at after → SameFile version base slot size at after
same_file version base slot size at after len same = elim (by_size size) as (λ _. SameFile version base slot size at after) [
  | inl large ↦ if_large large
  | inr small ↦ if_small small
]
  where
    if_small : is_large size ≡ false → SameFile version base slot size at after
    if_small small =
        let at_slot : AreSame base slot at after = subst (λ ns. AreSame base ns at after) (small_blocks version base slot size at small) same in
        record {
          numbers = small_numbers version base slot size after small ∙ sym (small_numbers version base slot size at small);
          blocks = small_blocks version base slot size after small ∙ sym (small_blocks version base slot size at small);
          reads =
              ap (λ ns. content base ns size after) (small_numbers version base slot size after small)
              ∙ (ap (take size) (same_part base slot at after at_slot)
              ∙ ap (λ ns. content base ns size at) (sym (small_numbers version base slot size at small)));
          index = λ was large. absurd (let e : true ≡ false = sym large ∙ small in cc);
        }

    if_large : is_large size ≡ true → SameFile version base slot size at after
    if_large large =
        let needed = blocks_needed size in
        let ns = numbers_of version base slot needed at in
        let all : AreSame base (ns ++ slot) at after = subst (λ bs. AreSame base bs at after) (large_blocks version base slot size at large) same in
        let count : length slot ≡ (needed + 1023) / 1024 = len ∙ large_slot size large in
        let index : (j : ℕ) → j < length slot → after (index_home base slot j) ≡ at (index_home base slot j) =
        λ j lt. same_back base ns slot at after all (index_home base slot j) (index_among base slot j lt) in
        let numbers : numbers_of version base slot needed after ≡ ns = numbers_of_same version base slot needed at after (λ j lt. index j (omega (arith, lt, count))) in
        record {
          numbers = large_numbers version base slot size after large ∙ (numbers ∙ sym (large_numbers version base slot size at large));
          blocks = large_blocks version base slot size after large ∙ (ap (λ bs. bs ++ slot) numbers ∙ sym (large_blocks version base slot size at large));
          reads =
              ap (λ bs. content base bs size after) (large_numbers version base slot size after large ∙ numbers)
              ∙ (ap (take size) (same_part base ns at after (same_front base ns slot at after all))
              ∙ ap (λ bs. content base bs size at) (sym (large_numbers version base slot size at large)));
          index = λ was is j lt. index j lt ∙ (was is j lt ∙ ap (λ bytes. index_bytes version (numbers_in version (index_count size j) bytes)) (sym (index j lt)));
        }

-- ---- what was placed
free_behind : (taken : List Bool) (blocks : List ℕ) (k : ℕ) → are_free taken blocks ≡ true → are_free taken (drop k blocks) ≡ true
free_behind taken blocks k free =
    (and_parts (are_free taken (take k blocks)) (are_free taken (drop k blocks))
    (sym (list_all-append (λ n. nat_lt n (length taken) && not (is_taken taken n)) (take k blocks) (drop k blocks)) ∙ (ap (are_free taken) (take-append-drop k blocks) ∙ free))).1

-- the numbers of the slot were free
pub slot_were_free : (version base : ℕ) (bytes : List ℕ) (taken now_taken : List Bool) (before now : Held) {old new : Meaning} (slot : List ℕ) → IsPlaced version base bytes taken now_taken before now old new slot → IsTrue (are_free taken slot)
slot_were_free version base bytes taken now_taken before now slot placed =
    let free = placed.lays.places.were_free in
    subst (λ ns. are_free taken ns ≡ true) (sym placed.slot_is)
    (by (is_large (length bytes)) _ _ (free_behind taken placed.blocks (blocks_needed (length bytes)) free) free)
  where
    by : (b : Bool) (ns ms : List ℕ) → are_free taken ns ≡ true → are_free taken ms ≡ true → are_free taken (cond b ns ms) ≡ true
    by true ns ms one two = one
    by false ns ms one two = two

-- and are within an image that has all data blocks
pub slot_within : (version base bound : ℕ) (bytes : List ℕ) (taken now_taken : List Bool) (before now : Held) {old new : Meaning} (slot : List ℕ) → base + length taken ≤ bound → IsPlaced version base bytes taken now_taken before now old new slot → IsTrue (are_within base bound slot)
slot_within version base bound bytes taken now_taken before now slot le placed =
    within_if_below base bound (length taken) slot le (below_from_free taken slot (slot_were_free version base bytes taken now_taken before now slot placed))
