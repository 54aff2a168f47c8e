-- Bytes that are kept before they are shown.
use Rattle.std.specs.Prelude.{◌≡◌, ℕ, List, ◌++◌, Result, OnOk, OnErr}
use Rattle.lis_ports.specs.Meaning.{Meaning}
use Rattle.lis_session.specs.declared.end.End.{End}
use Rattle.lis_session.specs.Parts.{Answers}

-- The bytes are appended to those that were kept before. A prefix of all these was shown, and the rest is kept. At a fault all of them were
-- to be shown, and a prefix of them was.
pub record Says (old new : Meaning) (before after bytes : List ℕ) (result : Result (Unit {0}) End) : Type 0 where
  pub shown : List ℕ
  pub answers : Answers old new shown result
  pub kept : OnOk result (before ++ bytes ≡ shown ++ after)
  pub all : OnErr result (before ++ bytes ≡ shown)
