-- What a plain state and a station have become since a start.
use Rattle.std.specs.Prelude.{◌≡◌, List, Err}
use Rattle.std.specs.Io.KnownBytes.{append_known}
use Rattle.lis_ports.specs.Meaning.{Meaning}
use Rattle.lis_ports.specs.Calls.{IsShowCall, StationFaultEnds}
use Rattle.lis_model.specs.Step.{Situation, Item, step, replies, situation_after}
use Rattle.lis_plain.specs.Carries.{Carries, HasPlainCause}
use Rattle.lis_plain.specs.declared.end.PlainEnd.{PlainEnd}

-- These items were run, and their whole replies were shown.
pub record Tried (start : Situation) (entry : Meaning) (first : List Item) (now : Situation) (m : Meaning) : Type 0 where
  pub at : now ≡ situation_after start first
  pub shown : m.shown ≡ append_known entry.shown (replies start first)
  pub call : IsShowCall entry m
  pub show_faults : m.show_faults ≡ entry.show_faults
  pub first_fault : StationFaultEnds entry m

-- These items were run, and then there was a fault in this one.
pub record TriedInto (start : Situation) (entry : Meaning) (first : List Item) (item : Item) (fault : PlainEnd) (now : Situation) (m : Meaning) : Type 0 where
  pub carries : Carries (step (situation_after start first) item) (situation_after start first) now (append_known entry.shown (replies start first)) m.shown (Err fault)
  pub call : IsShowCall entry m
  pub cause : HasPlainCause entry.show_faults m.show_faults (Err fault)
  pub first_fault : StationFaultEnds entry m
