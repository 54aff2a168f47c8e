-- What the dump of a state makes.
use Rattle.std.specs.Prelude.{◌≡◌, ◌^◌, List, [], ◌∷◌}
use Rattle.lis_model.specs.State.{State, WellFormed}
use Rattle.lis_model.specs.Replies.{ok_line}
use Rattle.lis_model.specs.Step.{Situation, Item, step, start_of, situation_after}
use Rattle.lis_model.specs.Script.{script}
use Rattle.lis_replay.specs.Dump.{dump_of}

-- the reply to each of the items is `ok` alone
abbrev pub AnswersOk : Situation → List Item → Type 0
AnswersOk now [] = Unit {0}
AnswersOk now (item ∷ items) = ((step now item).reply ≡ ok_line) × AnswersOk (step now item).next items

-- from the empty state of the same limits the items lead to the state, at the root
pub record Makes (s : State) (items : List Item) : Type 0 where
  pub answers : AnswersOk (start_of s.limits) items
  pub made : situation_after (start_of s.limits) items ≡ record { state = s; place = [] }

-- The dump of a well-formed state makes all of it again, within the limit of an input, which is 2^40 bytes.
abbrev pub DumpsMake : Type 0
DumpsMake = (s : State) → WellFormed s → Makes s (script (dump_of s) (2 ^ 40))
