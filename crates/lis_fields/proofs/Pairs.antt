-- The parts of slots, read back from their spelling.
use Rattle.std.proofs.Common.{◌≡◌, refl, sym, ap₂, ◌∙◌, ℕ, ◌+◌, ◌-◌, ◌^◌, ◌<◌, nat_lt, List, ◌++◌, length, take, drop, IsTrue, Some, arith}
use Rattle.std.proofs.lemmas.Bool.{and_parts, ltb-true}
use Rattle.byteorder.specs.Endian.{little_bytes}
use Rattle.lis_fields.specs.Layouts.{zeros, axiom_bytes, is_axiom}
use Rattle.lis_fields.specs.declared.slots.AxiomSlot.{AxiomSlot}
use Rattle.lis_fields.specs.declared.slots.AxiomSlot.TheVariants.{Free, Pair}
use Rattle.lis_fields.proofs.Widths.{front_is, behind_is, same_number}

-- the two numbers of an axiom slot
abbrev pub left_number : AxiomSlot → ℕ
left_number Free = 0
left_number (Pair left right) = left + 1

abbrev pub right_number : AxiomSlot → ℕ
right_number Free = 0
right_number (Pair left right) = right + 1

pub axiom_spelled : (slot : AxiomSlot) → axiom_bytes slot ≡ little_bytes 4 (left_number slot) ++ little_bytes 4 (right_number slot)
unfolding axiom_bytes zeros
axiom_spelled Free = refl
axiom_spelled (Pair left right) = refl

pub axiom_fits : (slot : AxiomSlot) → IsTrue (is_axiom slot) → (left_number slot < 256 ^ 4) × (right_number slot < 256 ^ 4)
axiom_fits Free range = (omega arith, omega arith)
axiom_fits (Pair left right) range =
    let parts = and_parts (nat_lt left (2 ^ 32 - 1)) (nat_lt right (2 ^ 32 - 1)) range in
    let low = ltb-true left (2 ^ 32 - 1) parts.0 in
    let high = ltb-true right (2 ^ 32 - 1) parts.1 in
    (omega (arith, low), omega (arith, high))

-- the numbers that were read are those of the slot
pub record ReadAxiom (slot : AxiomSlot) (left right : ℕ) : Type 0 where
  pub is_left : left ≡ left_number slot
  pub is_right : right ≡ right_number slot

pub axiom_read : (slot : AxiomSlot) (bytes : List ℕ) (left right : ℕ) → IsTrue (is_axiom slot) → bytes ≡ axiom_bytes slot
    → take 4 bytes ≡ little_bytes 4 left → drop 4 bytes ≡ little_bytes 4 right → left < 256 ^ 4 → right < 256 ^ 4 → ReadAxiom slot left right
axiom_read slot bytes left right range e front behind small fits =
    let s = e ∙ axiom_spelled slot in
    let both = axiom_fits slot range in
    record {
      is_left = same_number 4 left (left_number slot) small both.0 (sym front ∙ front_is 4 bytes (little_bytes 4 (left_number slot)) (little_bytes 4 (right_number slot)) s refl);
      is_right = same_number 4 right (right_number slot) fits both.1 (sym behind ∙ behind_is 4 bytes (little_bytes 4 (left_number slot)) (little_bytes 4 (right_number slot)) s refl);
    }

pub pair_read : (slot : AxiomSlot) (left right : ℕ) → ReadAxiom slot left right → 0 < left → Some (Pair (left - 1) (right - 1)) ≡ Some slot
pair_read Free left right read some = absurd (omega (arith, read.is_left))
pair_read (Pair l r) left right read some =
    let a : left - 1 ≡ l = omega (arith, read.is_left) in
    let b : right - 1 ≡ r = omega (arith, read.is_right) in
    ap₂ (λ x y. Some (Pair x y)) a b

-- one number is zero, and the other is not
pub half_read : (slot : AxiomSlot) (left right : ℕ) → ReadAxiom slot left right → left ≡ 0 → 0 < right → ⊥
half_read Free left right read none some = omega (arith, read.is_right)
half_read (Pair l r) left right read none some = omega (arith, read.is_left)

pub other_half_read : (slot : AxiomSlot) (left right : ℕ) → ReadAxiom slot left right → right ≡ 0 → 0 < left → ⊥
other_half_read Free left right read none some = omega (arith, read.is_left)
other_half_read (Pair l r) left right read none some = omega (arith, read.is_right)

pub length_axiom : (slot : AxiomSlot) → length (axiom_bytes slot) ≡ 8
unfolding axiom_bytes zeros
length_axiom Free = refl
length_axiom (Pair left right) = refl
