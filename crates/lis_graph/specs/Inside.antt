-- Numbers in the order of their names, and where a name comes again. No public clause cites this module.
use Rattle.std.specs.Prelude.{◌≡◌, ℕ, ◌+◌, ◌<◌, ◌≤◌, ◌==◌, if◌then◌else◌, Option, Some, None, is_some, List, length, count_by, slice_index_or}
use Rattle.std.specs.declared.cmp.Ordering.{Ordering}
use Rattle.std.specs.List.Sorted.{IsSortedBy}
use Rattle.std.specs.Ordering.{is_lt, nat_cmp, ordering_then}

-- Items by number, at most `most` of them, and an order of the numbers that have one. `room` is how many numbers the order has memory for.
pub record IsUnsorted {X : Type 0} (most : ℕ) (items : List (Option X)) (order : List ℕ) (room : ℕ) : Type 0 where
  pub limit : length items ≤ most
  -- each number that has an item is once in the order
  pub once : (n : ℕ) → count_by (λ m. m == n) order ≡ (if is_some (slice_index_or items n None) then 1 else 0)
  pub counted : count_by is_some items ≡ length order
  pub has_room : length items ≤ room

-- compares two numbers by their names, and by themselves if they have the same name
abbrev pub named_cmp : {N : Type 0} → (N → N → Ordering) → (ℕ → N) → ℕ → ℕ → Ordering
named_cmp cmp name m n = ordering_then (cmp (name m) (name n)) (nat_cmp m n)

-- the order is sorted so
abbrev pub RisesByName : {N : Type 0} → (N → N → Ordering) → (ℕ → N) → List ℕ → Type 0
RisesByName cmp name order = IsSortedBy (λ m n. is_lt (named_cmp cmp name m n)) order

-- the numbers at this index and at the next one have the same name
abbrev pub IsRepeat : {N : Type 0} → (ℕ → N) → List ℕ → ℕ → Type 0
IsRepeat name order k = name (slice_index_or order (k + 1) 0) ≡ name (slice_index_or order k 0)

-- among the first `count` numbers of the order, the least one that has the same name as the number before it
abbrev pub IsLeastRepeat : {N : Type 0} → (ℕ → N) → List ℕ → ℕ → Option ℕ → Type 0
IsLeastRepeat name order count None = (k : ℕ) → k + 1 < count → IsRepeat name order k → ⊥
IsLeastRepeat name order count (Some n) =
    ((k : ℕ) × (k + 1 < count) × IsRepeat name order k × (slice_index_or order (k + 1) 0 ≡ n))
    × ((k : ℕ) → k + 1 < count → IsRepeat name order k → n ≤ slice_index_or order (k + 1) 0)
