-- Staged blocks as a contract sees them: a finite map from homes to contents.
use Rattle.std.specs.Prelude.{◌≡◌, ℕ, ◌+◌, ◌^◌, ◌<◌, ◌≤◌, ◌==◌, nat_lt, Bool, false, if◌then◌else◌, List, [], ◌∷◌, length, IsTrue}
use Rattle.std.specs.List.{list_all, list_any}
use Rattle.lis_limits.specs.declared.TheConstants.{BLOCK_LEN}
use Rattle.lis_journal.specs.declared.layout.Layout.{Layout}
use Rattle.lis_journal.specs.Record.{HomeBlock, homes, rises}

-- for an image of this layout, at most `capacity` entries, in the order of their homes
pub record Staging : Type 0 where
  pub layout : Layout
  pub capacity : ℕ
  pub entries : List HomeBlock

-- the entries with this one, instead of that of its home if there is one
abbrev pub with_entry : List HomeBlock → ℕ → List ℕ → List HomeBlock
with_entry [] home bytes = record { home = home; bytes = bytes } ∷ []
with_entry (e ∷ es) home bytes =
    if nat_lt e.home home then e ∷ with_entry es home bytes
    else (if e.home == home then record { home = home; bytes = bytes } ∷ es else record { home = home; bytes = bytes } ∷ e ∷ es)

-- a block is staged
abbrev pub has_entry : List HomeBlock → ℕ → Bool
has_entry es n = list_any (λ e. e.home == n) es

-- each entry has the bytes of a block
abbrev pub are_whole : List HomeBlock → Bool
are_whole es = list_all (λ e. length e.bytes == BLOCK_LEN) es

-- none of `count` blocks from `first` on is staged
abbrev pub HasNone : List HomeBlock → ℕ → ℕ → Type 0
HasNone es first count = (n : ℕ) → first ≤ n → n < first + count → has_entry es n ≡ false

-- The homes rise, are home blocks inside the image, and each content is a block.
pub record IsStaging (s : Staging) : Type 0 where
  pub rise : IsTrue (rises s.layout.blocks (s.layout.records + 1) (homes s.entries))
  pub whole : IsTrue (are_whole s.entries)
  pub few : length s.entries ≤ s.capacity
  pub small : s.capacity ≤ 2 ^ 16
  pub narrow : s.layout.blocks < 2 ^ 32
