-- What a session over an image has become since a start, when it runs the items of an input.
use Rattle.std.specs.Prelude.{List, [], ◌∷◌, ◌++◌, Result, Ok, Err}
use Rattle.lis_ports.specs.Meaning.{Meaning}
use Rattle.lis_model.specs.State.{State}
use Rattle.lis_model.specs.Step.{SituationOf, OutcomeOf, replies_by, after_by}
use Rattle.lis_store.specs.Stored.{IsSound, StoreFits}
use Rattle.lis_session.specs.declared.end.End.{End}
use Rattle.lis_session.specs.Session.{SituatedOf}
use Rattle.lis_session.specs.Item.{FitsAt, Replied, StoreLeft}
use Rattle.lis_session.specs.Parts.{Ends}
use Rattle.lis_session.specs.Runs.{StoppedAt, Serves}

-- a state, at the place of the session
abbrev pub situation_at : {P : Type 0} → SituatedOf P → State → SituationOf P
situation_at session state = record { state = state; place = session.place }

-- what a session and its station keep, whatever was run, and why it stopped
pub record SessionKeeps {P : Type 0} (start : SituatedOf P) (entry : Meaning) (now : SituatedOf P) (m : Meaning) (result : Result (Unit {0}) End) : Type 0 where
  -- only a disk fault breaks the store
  pub left : StoreLeft start.store now.store result
  pub sound : IsSound now.store
  -- causes, the first fault, and what stays of the station
  pub ends : Ends entry m result

module _ {P I : Type 0} (by : SituationOf P → I → OutcomeOf P) where
  -- all these items were run, or there was this fault in the last one
  abbrev pub LastEnded : SituationOf P → List I → Meaning → Meaning → (State → Type 0) → P → Result (Unit {0}) End → Type 0
  LastEnded start items old new fits place (Ok done) = Replied (after_by by start items) old new fits place (replies_by by start items)
  LastEnded start items old new fits place (Err fault) = StoppedAt by start items old.shown new fault

  -- Since the start these items were run, from any state that fitted then; or all but the last one, in which there was a fault.
  pub record HasGone (start : SituatedOf P) (entry : Meaning) (items : List I) (now : SituatedOf P) (m : Meaning) (result : Result (Unit {0}) End) : Type 0 where
    pub keeps : SessionKeeps start entry now m result
    pub serves : (state : State) → FitsAt (StoreFits start.store entry) entry state
        → Serves by (situation_at start state) items entry m (LastEnded (situation_at start state) items entry m (StoreFits now.store m) now.place result)

  -- these were run
  abbrev pub HasDone : SituatedOf P → Meaning → List I → SituatedOf P → Meaning → Type 0
  HasDone start entry first now m = HasGone start entry first now m (Ok tt)

  -- these were run, and in the next one there was this fault
  abbrev pub HasStopped : SituatedOf P → Meaning → List I → I → End → SituatedOf P → Meaning → Type 0
  HasStopped start entry first item fault now m = HasGone start entry (first ++ item ∷ []) now m (Err fault)
