-- What was shown since a start, and moments that are described by it.
use Rattle.std.specs.Prelude.{◌≡◌, ℕ, List, ◌++◌, Option, Some, Result, IsTrue}
use Rattle.std.specs.Io.KnownBytes.{append_known}
use Rattle.lis_ports.specs.Meaning.{Meaning}
use Rattle.lis_ports.specs.Runs.{Adds}
use Rattle.lis_ports.specs.Calls.{HasCause, StationFaultEnds, IsShowCall}
use Rattle.lis_ports.specs.Shown.{Shows}

-- the bytes begin with this prefix
pub record Begins (front bytes : List ℕ) : Type 0 where
  pub rest : List ℕ
  pub is : bytes ≡ front ++ rest

-- P of an image and of what was shown since a start, at which `before` had been shown
abbrev pub Since : Option (List ℕ) → (List ℕ → List ℕ → Type 0) → List ℕ → List ℕ → Type 0
Since before P image bytes = (shown : List ℕ) × (append_known before shown ≡ Some bytes) × P image shown

-- A run of calls that show the piece: all of it, or at a fault a prefix of it. The disk stays, and at each moment some prefix was shown.
pub record IsShowRun {T E : Type 0} (old new : Meaning) (piece : List ℕ) (result : Result T E) : Type 0 where
  pub call : IsShowCall old new
  pub cause : HasCause old.show_faults new.show_faults result
  pub ends : StationFaultEnds old new
  pub shown : Shows old.shown new.shown piece result
  pub moments : IsTrue old.is_honest → Adds old new (Since old.shown (λ image front. old.images image × Begins front piece))
