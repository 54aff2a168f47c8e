-- Reads of blocks one by one, each into its part of a buffer.
use Rattle.std.proofs.Common.{◌≡◌, ◌⊎◌, ℕ, zero, suc, ◌+◌, ◌-◌, ◌*◌, ◌/◌, ◌<◌, ◌≤◌, min, nat_lt, Bool, true, false, List, [], ◌∷◌, ◌++◌, length, take, drop, get_or, refl, sym, ◌∙◌, ap, inl, inr, arith, length-append}
use Rattle.std.specs.List.{flat_map}
use Rattle.std.proofs.Math.Seq.{take-append-add}
use Rattle.std.proofs.lemmas.Bool.{and_parts, ltb-true, cases_lt}
use Rattle.std.proofs.lemmas.Grind.{flat_map-append}
use Rattle.std.proofs.lemmas.List.{append-nil, take_all, take_at, take_more, drop_all, drop-drop, length-take-le}
use Rattle.lis_ports.specs.Meaning.{Meaning}
use Rattle.lis_ports.specs.Calls.{DiskFaultEnds, OnlyReads}
use Rattle.lis_ports.proofs.Ending.{ends_none}
use Rattle.lis_ports.proofs.OnlyReading.{reads_none}
use Rattle.lis_model.specs.State.{blocks_needed}
use Rattle.lis_journal.specs.Journal.{Held}
use Rattle.lis_journal.specs.Images.{Fits}
use Rattle.lis_journal.specs.Phases.{looked}
use Rattle.lis_content.specs.Content.{are_within}
use Rattle.lis_content.specs.Large.{is_large, slot_count, index_home, content_blocks, HasNumber, MayHaveNumber}
use Rattle.lis_content.proofs.Indexes.{large_slot, small_slot}

-- the parts of a file so far, by what its blocks hold
pub record IsFilled (at : ℕ → List ℕ) (ns : List ℕ) (k size : ℕ) (buf : List ℕ) : Type 0 where
  pub long : length (flat_map at (take k ns)) ≡ 4096 * k
  pub front : take (4096 * k) buf ≡ take size (flat_map at (take k ns))

pub record SoFar (old now : Meaning) (journal : Held) (version base : ℕ) (slot : List ℕ) (size n : ℕ) (index buf : List ℕ) : Type 0 where
  pub reads : OnlyReads old now
  pub faults : now.disk_faults ≡ old.disk_faults
  pub first_fault : DiskFaultEnds old now
  pub fits : (kept : ℕ → List ℕ) → Fits journal old kept → Fits journal now kept
  pub block : length index ≡ 4096
  pub has : (kept : ℕ → List ℕ) → Fits journal old kept → MayHaveNumber base slot size n (looked journal.staged kept) index
  pub filled : (kept : ℕ → List ℕ) → Fits journal old kept → are_within base journal.layout.blocks (content_blocks version base slot size (looked journal.staged kept)) ≡ true
      → IsFilled (λ b. looked journal.staged kept (base + b)) (content_blocks version base slot size (looked journal.staged kept)) n size buf

-- the index block of a number is that of the next one, or the next one is the first of its own
pub may_have_next : (base : ℕ) (slot : List ℕ) (size n : ℕ) (at : ℕ → List ℕ) (index : List ℕ) → HasNumber base slot size n at index → MayHaveNumber base slot size (n + 1) at index
may_have_next base slot size n at index has more large =
    has large ∙ ap (λ q. at (index_home base slot q)) (let e : n / 1024 ≡ (n + 1) / 1024 = omega (arith, more) in e)

-- the home of each of the blocks is one of the image's
pub within_at : (base bound : ℕ) (ns : List ℕ) (k : ℕ) → are_within base bound ns ≡ true → k < length ns → base + get_or ns k 0 < bound
within_at base bound [] k within lt = absurd (omega arith)
within_at base bound (n ∷ ns) zero within lt = ltb-true (base + n) bound (and_parts (nat_lt (base + n) bound) (are_within base bound ns) within).0
within_at base bound (n ∷ ns) (suc k) within lt = within_at base bound ns k (and_parts (nat_lt (base + n) bound) (are_within base bound ns) within).1 (omega (arith, lt))

-- the slot of a file with a block has a number
pub slot_some : (size n : ℕ) → n < blocks_needed size → 0 < slot_count size
slot_some size n lt = by (is_large size) refl
  where
    by : (t : Bool) → is_large size ≡ t → 0 < slot_count size
    by true large = omega (arith, lt, large_slot size large)
    by false small = omega (arith, lt, small_slot size small)

-- the index block of each number is one of the slot's
pub slot_index : (slot : List ℕ) (size n : ℕ) → length slot ≡ slot_count size → is_large size ≡ true → n < blocks_needed size → n / 1024 < length slot
slot_index slot size n count large lt = omega (arith, count, large_slot size large, lt)

-- if the slot of such a file is within the image, the data blocks begin there
pub base_within : (base bound : ℕ) (slot : List ℕ) (size n : ℕ) → length slot ≡ slot_count size → n < blocks_needed size → are_within base bound slot ≡ true → base ≤ bound
base_within base bound slot size n count lt within = omega (arith, within_at base bound slot 0 within (omega (arith, count, slot_some size n lt)))

pub filled_more : (at : ℕ → List ℕ) (ns : List ℕ) (k size a e : ℕ) (buf read : List ℕ) → IsFilled at ns k size buf → k < length ns → length buf ≡ size → length ns ≡ blocks_needed size → a ≡ 4096 * k → e ≡ min size (a + 4096) → length (at (get_or ns k 0)) ≡ 4096 → read ≡ take (e - a) (at (get_or ns k 0)) → IsFilled at ns (k + 1) size (take a buf ++ (read ++ drop (e - a) (drop a buf)))
filled_more at ns k size a e buf read was lt len count is_a is_e whole is_read = record {
  long = ap length snoc ∙ (length-append done (x ++ []) ∙ omega (arith, was.long, length-append x [], whole));
  front =
      ap (λ xs. take (4096 * (k + 1)) (xs ++ (read ++ behind))) front_is
      ∙ (ap (λ i. take i (done ++ (read ++ behind))) (let i : 4096 * (k + 1) ≡ length done + 4096 = omega (arith, was.long) in i)
      ∙ (take-append-add done (read ++ behind) 4096
      ∙ (ap (λ xs. done ++ xs) (tail (cases_lt size (a + 4096)))
      ∙ (sym (take-append-add done (x ++ []) (size - 4096 * k))
      ∙ (ap (λ i. take i (done ++ (x ++ []))) (let i : length done + (size - 4096 * k) ≡ size = omega (arith, was.long, below) in i)
      ∙ ap (take size) (sym snoc))))));
}
  where
    x : List ℕ
    x = at (get_or ns k 0)

    done : List ℕ
    done = flat_map at (take k ns)

    behind : List ℕ
    behind = drop (e - a) (drop a buf)

    below : 4096 * k < size
    below = omega (arith, lt, count)

    snoc : flat_map at (take (k + 1) ns) ≡ done ++ (x ++ [])
    snoc = ap (flat_map at) (take_more ns k 0 lt) ∙ flat_map-append at (take k ns) (get_or ns k 0 ∷ [])

    front_is : take a buf ≡ done
    front_is = ap (λ i. take i buf) is_a ∙ (was.front ∙ take_all size done (omega (arith, was.long, below)))

    tail : (size < a + 4096) ⊎ (a + 4096 ≤ size) → take 4096 (read ++ behind) ≡ take (size - 4096 * k) (x ++ [])
    tail (inr more) =
        let is_x : read ≡ x = is_read ∙ (ap (λ i. take i x) (let i : e - a ≡ 4096 = omega (arith, is_e, more) in i) ∙ take_all 4096 x (omega (arith, whole))) in
        take_at read behind 4096 (ap length is_x ∙ whole)
        ∙ (is_x ∙ (sym (append-nil x) ∙ sym (take_all (size - 4096 * k) (x ++ []) (omega (arith, length-append x [], whole, more, is_a)))))
    tail (inl less) =
        let none : behind ≡ [] = drop-drop (e - a) a buf ∙ drop_all (a + (e - a)) buf (omega (arith, is_e, less, len)) in
        let short : length read ≤ 4096 = omega (arith, ap length is_read, length-take-le (e - a) x (omega (arith, whole, is_e, less)), is_e, less) in
        ap (λ xs. take 4096 (read ++ xs)) none
        ∙ (ap (take 4096) (append-nil read)
        ∙ (take_all 4096 read short
        ∙ (is_read ∙ (ap (λ i. take i x) (let i : e - a ≡ size - 4096 * k = omega (arith, is_e, less, is_a, below) in i) ∙ ap (take (size - 4096 * k)) (sym (append-nil x))))))

pub filled_all : (at : ℕ → List ℕ) (ns : List ℕ) (k size : ℕ) (buf : List ℕ) → IsFilled at ns k size buf → length ns ≤ k → length buf ≡ size → length ns ≡ blocks_needed size → buf ≡ take size (flat_map at ns)
filled_all at ns k size buf was past len count =
    sym (take_all (4096 * k) buf (omega (arith, past, len, count)))
    ∙ (was.front ∙ ap (λ xs. take size (flat_map at xs)) (take_all k ns past))

-- nothing is read yet
pub so_far_none : (m : Meaning) (journal : Held) (version base : ℕ) (slot : List ℕ) (size : ℕ) (index buf : List ℕ) → length index ≡ 4096 → SoFar m m journal version base slot size 0 index buf
so_far_none m journal version base slot size index buf block = record {
  reads = reads_none m;
  faults = refl;
  first_fault = ends_none m;
  fits = λ kept fits. fits;
  block = block;
  has = λ kept fits more. absurd (more refl);
  filled = λ kept fits within. record { long = refl; front = sym (take_all size [] (omega arith)) };
}
