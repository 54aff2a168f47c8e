-- What one call of a source does.
use Rattle.std.specs.Prelude.{◌≡◌, ℕ, List, Option, Result}
use Rattle.std.specs.Io.{ReadsAtMost}
use Rattle.std.specs.Io.KnownBytes.{ReadConsumes}
use Rattle.lis_ports.specs.Calls.{HasCause}

-- A call of a source, by the bytes that it has left and its count of faults, how many calls had failed when it began, and the buffer
-- after the call.
pub record IsTake {E : Type 0} (left_before left : Option (List ℕ)) (faults_before faults behind : ℕ) (buf : List ℕ) (result : Result ℕ E) : Type 0 where
  -- The call took at most as many bytes as the buffer has.
  pub bound : ReadsAtMost result buf
  -- The first n bytes of the buffer are the next n of the input. For a buffer that is not empty, 0 means the end. A failed call took none.
  pub bytes : ReadConsumes left_before left result buf
  pub cause : HasCause faults_before faults result
  pub began : behind ≡ faults_before
