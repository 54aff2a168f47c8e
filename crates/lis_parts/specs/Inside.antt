-- How an edited view is kept, and how it grows. No public clause cites this module.
use Rattle.std.specs.Prelude.{◌≡◌, ℕ, ◌+◌, List, [], ◌++◌, unwrap_or, length, take, Option, Result, Ok, Err}
use Rattle.std.specs.Io.KnownBytes.{Consumes, Keeps, IsAtEnd}
use Rattle.lis_region.specs.Region.{Region, get, HasFrame}
use Rattle.lis_ports.specs.Sources.{IsTake}
use Rattle.lis_parts.specs.Putting.{view_limit}

-- the bytes of the frame
abbrev pub frame_bytes : Region ℕ → ℕ → List ℕ
frame_bytes region frame = unwrap_or (get region frame) []

-- the frame is taken, and has room for one byte more than an edited view may have
pub record IsKept (region : Region ℕ) (frame : ℕ) : Type 0 where
  pub taken : HasFrame region frame
  pub wide : length (frame_bytes region frame) ≡ view_limit + 1

-- A source was called for bytes after the first `len` of a frame, which stay.
pub record TakesBehind {E : Type 0} (left_before left : Option (List ℕ)) (faults_before faults behind : ℕ) (len : ℕ) (old new : List ℕ) (result : Result ℕ E) : Type 0 where
  pub buf : List ℕ
  pub is : new ≡ take len old ++ buf
  pub call : IsTake left_before left faults_before faults behind buf result

-- The next bytes of a source follow those that were there. None came only at its end, and a call that failed took none.
abbrev pub TakesMore : {E : Type 0} → Option (List ℕ) → Option (List ℕ) → List ℕ → List ℕ → Result ℕ E → Type 0
TakesMore left_before left old new (Ok count) =
    (bytes : List ℕ) × Consumes left_before left bytes × (new ≡ old ++ bytes) × (length bytes ≡ count) × (count ≡ 0 → IsAtEnd left)
TakesMore left_before left old new (Err failed) = Keeps left_before left × (new ≡ old)
