-- How a session over the items of an input ends, by its end.
use Rattle.std.proofs.Common.{◌≡◌, ℕ, List, Option, Some}
use Rattle.lis_ports.specs.Meaning.{Meaning}
use Rattle.lis_model.specs.State.{State}
use Rattle.lis_model.specs.Step.{SituationOf, OutcomeOf, after_by}
use Rattle.lis_model.specs.Script.{Cut, script_by}
use Rattle.lis_line.specs.declared.carrier.Halt.{Halt}
use Rattle.lis_line.specs.declared.carrier.Halt.TheVariants.{End as AtEnd, Limit as AtLimit, InputFault as AtFault, Stopped}
use Rattle.lis_line.specs.Endings.{HasEnded}
use Rattle.lis_store.specs.Stored.{StoreFits}
use Rattle.lis_session.specs.declared.end.End.{End}
use Rattle.lis_session.specs.Session.{SituatedOf}
use Rattle.lis_session.specs.Item.{FitsAt}
use Rattle.lis_session.specs.Runs.{Serves}
use Rattle.lis_session.specs.Ending.{result_of, Served, InputRead, GoesOn}
use Rattle.lis_session.specs.Served.{SessionKeeps, HasDone, HasStopped, situation_at}
use Rattle.lis_session.proofs.Served.{serves_all, serves_to_limit, serves_whole, serves_stopped, reached}

module _ {P I : Type 0} (by : SituationOf P → I → OutcomeOf P) (cut : Cut I) (limit : ℕ) (left_before left : Option (List ℕ)) (start now : SituatedOf P) (entry m : Meaning) where
  abbrev pub Halted : Halt End → Type 0
  Halted halt =
      HasEnded cut limit left_before left (λ first. HasDone by start entry first now m) (λ first item fault. HasStopped by start entry first item fault now m) halt

  -- whatever the state
  pub served_keeps : (halt : Halt End) → Halted halt → SessionKeeps start entry now m (result_of halt)
  served_keeps AtEnd ended = ended.done.keeps
  served_keeps AtLimit ended = ended.done.keeps
  served_keeps AtFault ended = ended.done.keeps
  served_keeps (Stopped fault) ended = ended.1.done.keeps

  -- if the input was known
  module _ (input : List ℕ) (told : left_before ≡ Some input) where
    pub served_input : (halt : Halt End) → Halted halt → InputRead limit input left halt
    served_input AtEnd ended = let read = ended.read input told in (read.short, read.at_end)
    served_input AtLimit ended = (ended.read input told).long
    served_input halt ended = tt

    module _ (state : State) (fitting : FitsAt (StoreFits start.store entry) entry state) where
      pub serves_so : (halt : Halt End) → Halted halt
          → Serves by (situation_at start state) (script_by cut input limit) entry m (Served by cut (situation_at start state) limit input left entry.shown m halt)
      serves_so AtEnd ended = let read = ended.read input told in serves_all by cut limit input state fitting ended.done read.short read.at_end read.is
      serves_so AtLimit ended = let read = ended.read input told in serves_to_limit by cut limit input state fitting ended.done read.long read.is
      serves_so AtFault ended =
          let read = ended.read input told in
          serves_whole by cut limit input state fitting ended.done read.0.taken read.0.consumed read.0.within read.0.is read.1.0 read.1.1
      serves_so (Stopped fault) ended =
          let front = ended.1.read input told in
          serves_stopped by cut limit input state fitting ended.1.first ended.0 fault ended.1.done front.0 front.1

      pub goes_on_so : (halt : Halt End) → Halted halt → GoesOn (after_by by (situation_at start state) (script_by cut input limit)) now.store now.place m halt
      goes_on_so AtEnd ended = reached by cut limit input state fitting ended.done (ended.read input told).is
      goes_on_so AtLimit ended = reached by cut limit input state fitting ended.done (ended.read input told).is
      goes_on_so halt ended = tt
