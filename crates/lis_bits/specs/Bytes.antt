-- Truth values as bytes.
use Rattle.std.specs.Prelude.{ℕ, zero, suc, ◌+◌, ◌*◌, Bool, if◌then◌else◌, List, map}
use Rattle.std.specs.List.{range_with_len}

-- the first n truth values as a number, the first one in the lowest bit
unfoldable pub bits_number : ℕ → (ℕ → Bool) → ℕ
bits_number zero bit = 0
bits_number (suc n) bit = (if bit 0 then 1 else 0) + 2 * bits_number n (λ i. bit (i + 1))

-- truth values as bytes: the truth value of i is bit i % 8 of byte i / 8
unfoldable pub bits_bytes : ℕ → (ℕ → Bool) → List ℕ
bits_bytes count bit = map (λ k. bits_number 8 (λ i. bit (8 * k + i))) (range_with_len 0 count)
