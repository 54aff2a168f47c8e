-- Descriptions that are replaced, slot by slot.
use Rattle.std.specs.Prelude.{◌≡◌, ◌⊎◌, ℕ, ◌+◌, ◌<◌, ◌≤◌, true, List, length, map, sum}
use Rattle.std.specs.List.{range_with_len}
use Rattle.lis_ext.specs.Ext.{set_of as numbers_at}
use Rattle.lis_ext.specs.Numbers.{differs, numbers_where}
use Rattle.lis_kept.specs.Metadata.{Metadata}
use Rattle.lis_kept.specs.Areas.{IsSaved, is_marked, description_home}
use Rattle.lis_kept.specs.Changes.{Describes}

-- One slot has these numbers afterwards: it is described again, or it had them.
abbrev pub SlotHas : ℕ → List ℕ → Metadata → Metadata → Type 0
SlotHas slot numbers p q = Describes slot numbers p q ⊎ ((numbers ≡ numbers_at p.ext slot) × (q ≡ p))

-- which numbers differ at a slot that gets other numbers
abbrev pub turned_at : Metadata → (ℕ → List ℕ) → ℕ → List ℕ
turned_at k sets slot = numbers_where k.ext.props (differs (numbers_at k.ext slot) (sets slot))

-- the block shows whether a slot has a number, which the slot gains or loses
pub record IsTurned (k : Metadata) (sets : ℕ → List ℕ) (block : ℕ) : Type 0 where
  pub slot : ℕ
  pub number : ℕ
  pub below : number < k.ext.props
  pub turned : differs (numbers_at k.ext slot) (sets slot) number ≡ true
  pub is : block ≡ description_home k.limits slot number

-- The slots below the count have these numbers, and the others what they had. The count of edits does not fall.
pub record Redescribes (sets : ℕ → List ℕ) (count : ℕ) (p q : Metadata) : Type 0 where
  pub metadata : q ≡ record p { ext = q.ext; marks = q.marks }
  pub props : q.ext.props ≡ p.ext.props
  pub slots : length q.ext.sets ≡ length p.ext.sets
  pub done : (slot : ℕ) → slot < count → numbers_at q.ext slot ≡ sets slot
  pub others : (slot : ℕ) → count ≤ slot → numbers_at q.ext slot ≡ numbers_at p.ext slot
  pub saved : (at : ℕ → List ℕ) → IsSaved p at → IsSaved q at
  pub within : (block : ℕ) → is_marked q block ≡ true → (is_marked p block ≡ true) ⊎ IsTurned p sets block
  pub edits : q.ext.edits ≤ p.ext.edits + sum (map (λ slot. length (turned_at p sets slot)) (range_with_len 0 count))
  pub no_fewer : p.ext.edits ≤ q.ext.edits
