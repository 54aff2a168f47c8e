-- What writing the marked blocks into a journal does.
use Rattle.std.specs.Prelude.{◌≡◌, ◌⊎◌, ℕ, ◌+◌, ◌<◌, ◌≤◌, true, List, length}
use Rattle.lis_journal.specs.Journal.{Held, shape_of}
use Rattle.lis_journal.specs.Images.{look}
use Rattle.lis_journal.specs.Phases.{looked}
use Rattle.lis_model.specs.Image.{properties_start, data_start}
use Rattle.lis_kept.specs.Metadata.{Metadata}
use Rattle.lis_kept.specs.Areas.{IsSaved, IsWritten, is_marked, marked_count}

-- Every marked block is staged as memory spells it; blocks before the slots and data blocks look as before.
pub record Stages (k : Metadata) (old new : Held) : Type 0 where
  pub image : shape_of new ≡ shape_of old
  pub records : new.records ≡ old.records
  pub placed : new.placed ≡ old.placed
  pub broken : new.is_broken ≡ old.is_broken
  pub few : length new.staged ≤ length old.staged + marked_count k
  pub some : (n : ℕ) → properties_start k.limits ≤ n → n < data_start k.limits → is_marked k n ≡ true → 0 < length new.staged
  pub written : (kept : ℕ → List ℕ) → IsSaved k (looked old.staged kept) → IsWritten k (looked new.staged kept)
  pub others : (n : ℕ) (was : List ℕ) → (n < properties_start k.limits) ⊎ (data_start k.limits ≤ n) → look new.staged n was ≡ look old.staged n was
