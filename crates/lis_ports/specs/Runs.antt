-- What runs of calls do to a meaning, and how moments add up.
use Rattle.std.specs.Prelude.{◌≡◌, ◌⊎◌, ℕ, ◌≤◌, List, Some}
use Rattle.lis_ports.specs.Meaning.{Meaning}

-- Each moment that new has since a time up to the clock of old is one that old had, or it has P. No moment is lost.
pub record Adds (old new : Meaning) (P : List ℕ → List ℕ → Type 0) : Type 0 where
  pub later : old.clock ≤ new.clock
  pub only : (t : ℕ) (image bytes : List ℕ) → t ≤ old.clock → new.moments t image bytes → old.moments t image bytes ⊎ P image bytes
  pub keeps : (t : ℕ) (image bytes : List ℕ) → t ≤ old.clock → old.moments t image bytes → new.moments t image bytes

-- what no run of disk calls changes
pub record IsDiskRun (old new : Meaning) : Type 0 where
  pub later : old.clock ≤ new.clock
  pub honest : new.is_honest ≡ old.is_honest
  pub len : new.len ≡ old.len
  pub recorded : new.is_recorded ≡ old.is_recorded
  pub shown : new.shown ≡ old.shown
  pub show_faults : new.show_faults ≡ old.show_faults
  pub disk_faults : old.disk_faults ≤ new.disk_faults

-- a run of disk calls in which each moment has an image with Q, and the bytes that were shown before
pub record Leaves (old new : Meaning) (Q : List ℕ → Type 0) : Type 0 where
  pub run : IsDiskRun old new
  pub adds : Adds old new (λ image bytes. Q image × (old.shown ≡ Some bytes))

-- The disk reads as these bytes, and a crash leaves only these.
pub record IsSettled (m : Meaning) (bytes : List ℕ) : Type 0 where
  pub reads : m.bytes ≡ bytes
  pub only : (image : List ℕ) → m.images image → image ≡ bytes

-- The disk reads as a list with Q, and a crash leaves only such lists.
pub record Always (m : Meaning) (Q : List ℕ → Type 0) : Type 0 where
  pub reads : Q m.bytes
  pub leaves : (image : List ℕ) → m.images image → Q image
