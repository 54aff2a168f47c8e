-- What a loader has become since a start, when it runs the items of an input.
use Rattle.std.specs.Prelude.{◌≡◌, ℕ, ◌+◌, ◌≤◌, List, [], ◌++◌, length, Option, Some, None, Result, Ok, Err}
use Rattle.std.specs.Io.KnownBytes.{append_known}
use Rattle.std.specs.List.{flat_map}
use Rattle.lis_ports.specs.Meaning.{Meaning}
use Rattle.lis_model.specs.declared.refusal.Refusal.{Refusal}
use Rattle.lis_model.specs.Replies.{ok_line, refusal_line}
use Rattle.lis_model.specs.State.{State}
use Rattle.lis_model.specs.Step.{Situation, Item, step, replies_by, after_by}
use Rattle.lis_store.specs.Stored.{StoreFits, StoreHolds}
use Rattle.lis_session.specs.declared.end.End.{End}
use Rattle.lis_session.specs.Item.{FitsAt}
use Rattle.lis_session.specs.Served.{SessionKeeps, situation_at}
use Rattle.lis_session.specs.Session.{out, state_after}
use Rattle.lis_load.specs.declared.loader.Loader.{Loader}
use Rattle.lis_load.specs.Load.{lag, Loads, LoadStopped}

-- the reply to a change that may be refused
abbrev pub answer : Option Refusal → List ℕ
answer None = ok_line
answer (Some refusal) = refusal_line refusal

-- These items were run. The replies to the first `whole` ones were shown, and those to the others wait. The images represent the state
-- after `base` of them, and memory represents the state after all.
pub record Waits (start : Situation) (items : List Item) (before : Option (List ℕ)) (now : Loader) (m : Meaning) : Type 0 where
  pub whole : ℕ
  pub base : ℕ
  pub counted : length items ≡ whole + length now.held.items
  pub few : length now.held.items ≤ lag
  pub behind : whole ≤ base
  pub within : base ≤ length items
  pub shown : m.shown ≡ append_known before (out step start items whole)
  pub answers : replies_by step start items ≡ out step start items whole ++ flat_map answer now.held.items
  pub holds : StoreHolds now.session.store m (state_after step start items base) (after_by step start items).state
  pub at : now.session.place ≡ (after_by step start items).place

-- these items were run, or there was this fault in the last one, or in settling after it
abbrev pub LoadEnded : Situation → List Item → Option (List ℕ) → Loader → Meaning → Result (Unit {0}) End → Type 0
LoadEnded start items before now m (Ok done) = Waits start items before now m
LoadEnded start items before now m (Err fault) = LoadStopped start items before m fault

-- the same since the start, from any state that fitted then
pub record HasLoaded (start : Loader) (entry : Meaning) (items : List Item) (now : Loader) (m : Meaning) (result : Result (Unit {0}) End) : Type 0 where
  pub keeps : SessionKeeps start.session entry now.session m result
  pub serves : (state : State) → FitsAt (StoreFits start.session.store entry) entry state
      → Loads (situation_at start.session state) items entry m (LoadEnded (situation_at start.session state) items entry.shown now m result)

-- All that was done is committed, and no reply waits.
pub record HoldsNothing (now : Loader) : Type 0 where
  pub shown : now.held.items ≡ []
  pub committed : now.session.store.journal.staged ≡ []
