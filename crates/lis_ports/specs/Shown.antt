-- What was shown of some bytes.
use Rattle.std.specs.Prelude.{◌≡◌, ℕ, ◌≤◌, List, length, take, Option, Result, MatchResult}
use Rattle.std.specs.Io.KnownBytes.{append_known}

-- A prefix of the bytes was shown.
pub record AppendsFront (before now : Option (List ℕ)) (bytes : List ℕ) : Type 0 where
  pub count : ℕ
  pub within : count ≤ length bytes
  pub front : now ≡ append_known before (take count bytes)

-- All bytes were shown, or at a fault a prefix of them.
abbrev pub Shows : {T E : Type 0} → Option (List ℕ) → Option (List ℕ) → List ℕ → Result T E → Type 0
Shows before now bytes result =
    MatchResult result (λ _. now ≡ append_known before bytes) (λ _. AppendsFront before now bytes)
