-- A block that is read as its part of the bytes of a file.
use Rattle.std.proofs.Common.{◌≡◌, ◌⊎◌, inl, inr, ℕ, ◌+◌, ◌-◌, ◌*◌, ◌<◌, ◌≤◌, min, List, [], ◌∷◌, ◌++◌, length, take, drop, get_or, Bool, true, false, refl, sym, ap, subst, ◌∙◌, arith, length-append, length-drop, length-take, append-nil}
use Rattle.std.specs.List.{flat_map}
use Rattle.std.proofs.Math.ListN.{drop_of_length-le}
use Rattle.std.proofs.Math.Seq.{take-add, take-append-add}
use Rattle.std.proofs.lemmas.Bool.{cases_lt}
use Rattle.std.proofs.lemmas.Grind.{flat_map-append}
use Rattle.std.proofs.lemmas.List.{drop-drop, drop-take, length-take-le, take-append-drop, take-take, take_all, take_at, take_more}
use Rattle.lis_ports.specs.Bytes.{Torn, part, put}
use Rattle.lis_ports.proofs.Parts.{part-put, put_between, torn-put}
use Rattle.lis_model.specs.State.{blocks_needed}
use Rattle.lis_content.specs.Large.{content_blocks, file_blocks, is_large, slot_count}
use Rattle.lis_content.proofs.Indexes.{large_blocks, large_numbers, length-numbers_of, small_blocks, small_numbers, small_slot}
use Rattle.lis_content.proofs.Reading.{IsFilled}

-- a prefix of a prefix is the shorter one
take_shorter : (m n k : ℕ) (xs : List ℕ) → k ≡ min m n → take m (take n xs) ≡ take k xs
take_shorter m n k xs is_k = by (cases_lt m n)
  where
    by : (m < n) ⊎ (n ≤ m) → take m (take n xs) ≡ take k xs
    by (inl lt) = take-take m n xs (omega (arith, lt)) ∙ ap (λ i. take i xs) (let same : m ≡ k = omega (arith, lt, is_k) in same)
    by (inr le) = take_all m (take n xs) (omega (arith, length-take n xs, le)) ∙ ap (λ i. take i xs) (let same : n ≡ k = omega (arith, le, is_k) in same)

both_fronts : (m n : ℕ) (xs : List ℕ) → take m (take n xs) ≡ take n (take m xs)
both_fronts m n xs = take_shorter m n (min m n) xs refl ∙ sym (take_shorter n m (min m n) xs (omega arith))

module _ (at size : ℕ) where
  -- what follows an index of a prefix
  behind_front : (xs : List ℕ) → drop at (take size xs) ≡ take (size - at) (drop at xs)
  behind_front xs = by (cases_lt at size)
    where
      by : (at < size) ⊎ (size ≤ at) → drop at (take size xs) ≡ take (size - at) (drop at xs)
      by (inl lt) = let same : size ≡ at + (size - at) = omega (arith, lt) in ap (λ i. drop at (take i xs)) same ∙ drop-take at (size - at) xs
      by (inr le) =
          let none : size - at ≡ 0 = omega (arith, le) in
          drop_of_length-le (take size xs) {i = at} (omega (arith, length-take size xs, le)) ∙ sym (ap (λ i. take i (drop at xs)) none)

-- what was written into a part of the memory is written into its first `size` bytes
torn_front : (at n size : ℕ) (old new : List ℕ) → at ≤ size → Torn at n old new → Torn at n (take size old) (take size new)
torn_front at n size old new le torn = record {
  len = length-take size new ∙ (ap (λ l. min size l) torn.len ∙ sym (length-take size old));
  before = take-take at size new le ∙ (torn.before ∙ sym (take-take at size old le));
  after = behind_front (at + n) size new ∙ (ap (take (size - (at + n))) torn.after ∙ sym (behind_front (at + n) size old));
}

torn_wider : (at n m : ℕ) (old new : List ℕ) → n ≤ m → Torn at n old new → Torn at m old new
torn_wider at n m old new le torn =
    let rest : at + n + (m - n) ≡ at + m = omega (arith, le) in
    let past = λ (xs : List ℕ). drop-drop (m - n) (at + n) xs ∙ ap (λ i. drop i xs) rest in
    record { len = torn.len; before = torn.before; after = sym (past new) ∙ (ap (drop (m - n)) torn.after ∙ past old) }

-- what a read into a part of the memory leaves, by the first `size` bytes: of a block it takes as much as there is room for
module _ (at count size : ℕ) (old read : List ℕ) (same : length read ≡ length (take (at + count - at) (drop at old))) (is_count : count ≡ min (size - at) 4096) (inside : at < size) (there : size ≤ length old) where
  abbrev now : List ℕ
  now = take at old ++ (read ++ drop (at + count - at) (drop at old))

  whole : length read ≡ count
  whole = same ∙ (length-take-le (at + count - at) (drop at old) (omega (arith, length-drop at old, is_count, inside, there)) ∙ omega arith)

  room : at + length read ≤ length old
  room = omega (arith, whole, is_count, inside, there)

  same_put : now ≡ put old at read
  same_put =
      let width : at + count - at ≡ length read = omega (arith, whole) in
      ap (λ n. take at old ++ (read ++ drop n (drop at old))) width ∙ put_between old at read

  pub torn_between : Torn at 4096 (take size old) (take size now)
  torn_between =
      let torn = subst (λ xs. Torn at count old xs) (sym same_put) (subst (λ n. Torn at n old (put old at read)) whole (torn-put old at read room)) in
      torn_wider at count 4096 (take size old) (take size now) (omega (arith, is_count)) (torn_front at count size old now (omega (arith, inside)) torn)

  pub part_between : (block : List ℕ) → length block ≡ 4096 → read ≡ take (length (take (at + count - at) (drop at old))) block → part at 4096 (take size now) ≡ take (size - at) block
  part_between block len is_read =
      ap (take 4096) (behind_front at size now)
      ∙ (take_shorter 4096 (size - at) count (drop at now) (omega (arith, is_count))
      ∙ (ap (part at count) same_put
      ∙ (subst (λ n. part at n (put old at read) ≡ read) whole (part-put old at read room)
      ∙ (is_read
      ∙ (ap (λ n. take n block) (sym same ∙ whole)
      ∙ (sym (take_shorter (size - at) 4096 count block is_count) ∙ ap (take (size - at)) (take_all 4096 block (omega (arith, len)))))))))

-- ---- the bytes of a file so far
-- one more block is read as its part
pub filled_next : (at : ℕ → List ℕ) (ns : List ℕ) (k size : ℕ) (old new : List ℕ) → IsFilled at ns k size old → k < length ns → length ns ≡ blocks_needed size → length (at (get_or ns k 0)) ≡ 4096
    → Torn (4096 * k) 4096 old new → part (4096 * k) 4096 new ≡ take (size - 4096 * k) (at (get_or ns k 0)) → IsFilled at ns (k + 1) size new
filled_next at ns k size old new was lt count whole torn read = record {
  long = ap length snoc ∙ (length-append done (x ++ []) ∙ omega (arith, was.long, length-append x [], whole));
  front =
      ap (λ i. take i new) (let i : 4096 * (k + 1) ≡ 4096 * k + 4096 = omega arith in i)
      ∙ (take-add (4096 * k) 4096 new
      ∙ (ap (λ xs. xs ++ part (4096 * k) 4096 new) (torn.before ∙ (was.front ∙ take_all size done (omega (arith, was.long, below))))
      ∙ (ap (λ xs. done ++ xs) (read ∙ ap (take (size - 4096 * k)) (sym (append-nil x)))
      ∙ (sym (take-append-add done (x ++ []) (size - 4096 * k))
      ∙ (ap (λ i. take i (done ++ (x ++ []))) (let i : length done + (size - 4096 * k) ≡ size = omega (arith, was.long, below) in i)
      ∙ ap (take size) (sym snoc))))));
}
  where
    x : List ℕ
    x = at (get_or ns k 0)

    done : List ℕ
    done = flat_map at (take k ns)

    below : 4096 * k < size
    below = omega (arith, lt, count)

    snoc : flat_map at (take (k + 1) ns) ≡ done ++ (x ++ [])
    snoc = ap (flat_map at) (take_more ns k 0 lt) ∙ flat_map-append at (take k ns) (get_or ns k 0 ∷ [])

-- what was read is a prefix of all
pub filled_front : (at : ℕ → List ℕ) (ns : List ℕ) (k size : ℕ) (buf : List ℕ) → IsFilled at ns k size buf → take (4096 * k) (take size (flat_map at ns)) ≡ take (4096 * k) buf
filled_front at ns k size buf was =
    let done = flat_map at (take k ns) in
    let rest = flat_map at (drop k ns) in
    let all : flat_map at ns ≡ done ++ rest = ap (flat_map at) (sym (take-append-drop k ns)) ∙ flat_map-append at (take k ns) (drop k ns) in
    both_fronts (4096 * k) size (flat_map at ns)
    ∙ (ap (λ xs. take size (take (4096 * k) xs)) all
    ∙ (ap (λ i. take size (take i (done ++ rest))) (let i : 4096 * k ≡ length done + 0 = omega (arith, was.long) in i)
    ∙ (ap (take size) (take-append-add done rest 0 ∙ append-nil done) ∙ sym was.front)))

-- ---- the blocks of the content among all blocks
pub content_first : (version base : ℕ) (slot : List ℕ) (size : ℕ) (at : ℕ → List ℕ) → length slot ≡ slot_count size
    → take (blocks_needed size) (file_blocks version base slot size at) ≡ content_blocks version base slot size at
content_first version base slot size at count = by (is_large size) refl
  where
    needed : ℕ
    needed = blocks_needed size

    by : (t : Bool) → is_large size ≡ t → take needed (file_blocks version base slot size at) ≡ content_blocks version base slot size at
    by true large =
        ap (take needed) (large_blocks version base slot size at large)
        ∙ (take_at _ slot needed (length-numbers_of version base slot needed at) ∙ sym (large_numbers version base slot size at large))
    by false small =
        let as_many : length slot ≡ needed = count ∙ small_slot size small in
        ap (take needed) (small_blocks version base slot size at small) ∙ (take_all needed slot (omega (arith, as_many)) ∙ sym (small_numbers version base slot size at small))
