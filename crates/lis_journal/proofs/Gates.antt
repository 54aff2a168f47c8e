-- The gates, one by one and counted.
use Rattle.std.proofs.Common.{◌≡◌, ◌≢◌, ◌⊎◌, inl, inr, ℕ, zero, suc, ◌+◌, ◌-◌, ◌<◌, ◌≤◌, ◌==◌, nat_lt, true, false, List, [], ◌∷◌, length, get_or, slice_index, drop, replicate, refl, sym, ◌∙◌, ap, subst, arith}
use Rattle.std.specs.List.{list_any}
use Rattle.std.proofs.lemmas.Bool.{lt-ltb, le-ltb}
use Rattle.std.proofs.lemmas.List.{get_or-take, get_or-drop}
use Rattle.std.proofs.lemmas.List.Sums.{prefix_len_is, prefix_len_passes, prefix_len_stops, prefix_len-le-length}
use Rattle.lis_ports.specs.Bytes.{part, put, Torn}
use Rattle.lis_ports.proofs.Parts.{Apart, length-part, part-torn, part-put}
use Rattle.lis_journal.specs.Record.{gates, is_open, has_open, open_count}
use Rattle.lis_journal.proofs.Entries.{neither}

index-part : (at n k : ℕ) (xs : List ℕ) → k < n → slice_index (part at n xs) k ≡ slice_index xs (at + k)
index-part at n k xs lt = get_or-take n (drop at xs) k 0 lt ∙ get_or-drop at xs k 0

-- a gate is a byte of the image
gate-byte : (k : ℕ) (image : List ℕ) → k < 64 → slice_index (gates image) k ≡ slice_index (part (4096 + k) 1 image) 0
gate-byte k image lt =
    let here : 4096 + k + 0 ≡ 4096 + k = omega arith in
    index-part 4096 64 k image lt ∙ sym (index-part (4096 + k) 1 0 image (omega arith) ∙ ap (slice_index image) here)

gate-same : (k : ℕ) (from image : List ℕ) → k < 64 → part (4096 + k) 1 image ≡ part (4096 + k) 1 from → is_open k image ≡ is_open k from
gate-same k from image lt same =
    ap (λ gate. gate == 1) (gate-byte k image lt ∙ (ap (λ xs. slice_index xs 0) same ∙ sym (gate-byte k from lt)))

pub gate-torn : (at n : ℕ) (from image : List ℕ) → Torn at n from image → (k : ℕ) → k < 64 → Apart at n (4096 + k) 1 → is_open k image ≡ is_open k from
gate-torn at n from image torn k lt apart = gate-same k from image lt (part-torn at n from image torn (4096 + k) 1 apart)

-- the other gates stay if one is torn
pub other_gate-torn : (j : ℕ) (from image : List ℕ) → Torn (4096 + j) 1 from image → (k : ℕ) → k < 64 → k ≢ j → is_open k image ≡ is_open k from
other_gate-torn j from image torn k lt ne = gate-torn (4096 + j) 1 from image torn k lt (sides (split k j ne))
  where
    split : (k j : ℕ) → k ≢ j → (k + 1 ≤ j) ⊎ (j + 1 ≤ k)
    split k j ne = grind arith

    sides : (k + 1 ≤ j) ⊎ (j + 1 ≤ k) → Apart (4096 + j) 1 (4096 + k) 1
    sides (inl le) = inl (omega (arith, le))
    sides (inr le) = inr (omega (arith, le))

pub gate-put : (k value : ℕ) (image : List ℕ) → k < 64 → 4160 ≤ length image → is_open k (put image (4096 + k) (value ∷ [])) ≡ (value == 1)
gate-put k value image lt long =
    ap (λ gate. gate == 1) (gate-byte k (put image (4096 + k) (value ∷ [])) lt ∙ ap (λ xs. slice_index xs 0) (part-put image (4096 + k) (value ∷ []) (omega (arith, lt, long))))

get_zero : (n k : ℕ) → slice_index (replicate n 0) k ≡ 0
get_zero zero k = refl
get_zero (suc n) zero = refl
get_zero (suc n) (suc k) = get_zero n k

-- the gates 1 to 63 that are closed in one write
pub others-put : (image : List ℕ) → 4160 ≤ length image → (k : ℕ) → 0 < k → k < 64 → is_open k (put image 4097 (replicate 63 0)) ≡ false
others-put image long k some lt =
    let at : 4097 + (k - 1) ≡ 4096 + k = omega (arith, some) in
    ap (λ gate. gate == 1)
    (index-part 4096 64 k new lt
    ∙ (ap (slice_index new) (sym at)
    ∙ (sym (index-part 4097 63 (k - 1) new (omega (arith, some, lt)))
    ∙ (ap (λ xs. slice_index xs (k - 1)) (part-put image 4097 (replicate 63 0) (omega (arith, long))) ∙ get_zero 63 (k - 1)))))
  where
    new : List ℕ
    new = put image 4097 (replicate 63 0)

length-gates : (image : List ℕ) → 4160 ≤ length image → length (gates image) ≡ 64
length-gates image long = length-part 4096 64 image (omega (arith, long))

pub few_open : (image : List ℕ) → 4160 ≤ length image → open_count image ≤ 64
unfolding open_count
few_open image long = omega (arith, prefix_len-le-length (λ gate. gate == 1) (gates image), length-gates image long)

-- what the number of open records is
pub open_count-is : (image : List ℕ) (m : ℕ) → 4160 ≤ length image → m ≤ 64 → ((k : ℕ) → k < m → is_open k image ≡ true) → (m < 64 → is_open m image ≡ false) → open_count image ≡ m
unfolding open_count
open_count-is image m long few before stop =
    let len = length-gates image long in
    prefix_len_is (λ gate. gate == 1) (gates image) m 0 (omega (arith, few, len)) before (λ lt. stop (omega (arith, lt, len)))

pub open_before : (image : List ℕ) (k : ℕ) → k < open_count image → is_open k image ≡ true
unfolding open_count
open_before image k lt = prefix_len_passes (λ gate. gate == 1) (gates image) k 0 lt

pub closed_at : (image : List ℕ) → 4160 ≤ length image → open_count image < 64 → is_open (open_count image) image ≡ false
unfolding open_count
closed_at image long lt = prefix_len_stops (λ gate. gate == 1) (gates image) 0 (omega (arith, lt, length-gates image long))

pub open_count-same : (from image : List ℕ) → 4160 ≤ length from → 4160 ≤ length image → ((k : ℕ) → k < 64 → is_open k image ≡ is_open k from) → open_count image ≡ open_count from
open_count-same from image long longer same =
    let few = few_open from long in
    open_count-is image (open_count from) longer few
    (λ k lt. same k (omega (arith, lt, few)) ∙ open_before from k lt)
    (λ lt. same (open_count from) lt ∙ closed_at from long lt)

pub open_count-gates : (image : List ℕ) (m : ℕ) → 4160 ≤ length image → m ≤ 64 → ((k : ℕ) → k < 64 → is_open k image ≡ nat_lt k m) → open_count image ≡ m
open_count-gates image m long few gates_are =
    open_count-is image m long few
    (λ k lt. gates_are k (omega (arith, lt, few)) ∙ lt-ltb k m lt)
    (λ lt. gates_are m lt ∙ le-ltb m m (omega arith))

pub open_count-shut : (image : List ℕ) → 4160 ≤ length image → is_open 0 image ≡ false → open_count image ≡ 0
open_count-shut image long closed =
    open_count-is image 0 long (omega arith) (λ k lt. absurd (omega arith)) (λ lt. closed)

-- if no record is open, gate 0 is closed
pub shut_first : (image : List ℕ) → 4160 ≤ length image → open_count image ≡ 0 → is_open 0 image ≡ false
shut_first image long none = subst (λ k. is_open k image ≡ false) none (closed_at image long (omega (arith, none)))

none_open : (gates_are : List ℕ) (k : ℕ) → list_any (λ gate. gate == 1) gates_are ≡ false → (get_or gates_are k 0 == 1) ≡ false
none_open [] k none = refl
none_open (gate ∷ rest) zero none = (neither (gate == 1) (list_any (λ gate. gate == 1) rest) none).0
none_open (gate ∷ rest) (suc k) none = none_open rest k (neither (gate == 1) (list_any (λ gate. gate == 1) rest) none).1

-- if no gate is open, each is closed
pub all_closed : (image : List ℕ) → has_open image ≡ false → (k : ℕ) → is_open k image ≡ false
all_closed image none k = none_open (gates image) k none
