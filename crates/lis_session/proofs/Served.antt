-- How a session over the items of an input ends, stated of its whole script.
use Rattle.std.proofs.Common.{◌≡◌, ℕ, ◌≤◌, ◌<◌, List, [], ◌∷◌, ◌++◌, length, Option, Some, sym, subst, ◌∙◌, append-nil}
use Rattle.std.specs.Io.KnownBytes.{Consumes, IsAtEnd}
use Rattle.lis_ports.specs.Meaning.{Meaning}
use Rattle.lis_ports.proofs.Always.{always_weaken}
use Rattle.lis_model.specs.State.{State}
use Rattle.lis_model.specs.Step.{SituationOf, OutcomeOf, after_by}
use Rattle.lis_model.specs.Script.{Cut, script_by}
use Rattle.lis_store.specs.Stored.{StoreFits}
use Rattle.lis_session.specs.declared.end.End.{End}
use Rattle.lis_session.specs.declared.end.End.TheVariants.{DiskFault, OutputFault}
use Rattle.lis_session.specs.Session.{SituatedOf, SessionMoment}
use Rattle.lis_session.specs.Item.{FitsAt}
use Rattle.lis_session.specs.Runs.{Carried, CarriedAll, CarriedToLimit, CarriedWhole, StoppedAt, Serves}
use Rattle.lis_session.specs.Served.{HasDone, HasStopped, situation_at}
use Rattle.lis_session.proofs.Moments.{adds_since, moment_more}

module _ {P I : Type 0} (by : SituationOf P → I → OutcomeOf P) where
  -- some first items, stated of all
  serves_more : {start : SituationOf P} {first items : List I} {old new : Meaning} {end ended : Type 0} (others : List I) → items ≡ first ++ others → Serves by start first old new end → ended
      → Serves by start items old new ended
  serves_more {start} {first} {old = old} {new} {ended = ended} others all served is = subst (λ xs. Serves by start xs old new ended) (sym all) (record {
    moments = adds_since old.shown (moment_more by start first others) served.moments;
    past = served.past;
    ended = is;
  })

  -- a fault in an item of a longer script
  stopped_more : (start : SituationOf P) (items first others : List I) (before : Option (List ℕ)) (m : Meaning) (fault : End) → items ≡ first ++ others → StoppedAt by start first before m fault
      → StoppedAt by start items before m fault
  stopped_more start items first others before m DiskFault all stop = tt
  stopped_more start items first others before m OutputFault all stop = record {
    bytes = stop.bytes;
    shown = stop.shown;
    moment = always_weaken _ stop.moment (λ image moment.
        subst (λ xs. SessionMoment by start xs image stop.bytes) (sym all) (moment_more by start first others image stop.bytes moment));
  }

  module _ (cut : Cut I) (limit : ℕ) (input : List ℕ) {start now : SituatedOf P} {entry m : Meaning} (state : State) (fitting : FitsAt (StoreFits start.store entry) entry state) where
    module _ {first : List I} (done : HasDone by start entry first now m) where
      carried : {these : List I} → these ≡ first → Carried by (situation_at start state) these entry.shown m
      carried is = let reached = (done.serves state fitting).ended in subst (λ xs. Carried by (situation_at start state) xs entry.shown m) (sym is) (record { shown = reached.shown; stands = reached.fitting.stands })

      serves_items : {ended : Type 0} → (script_by cut input limit) ≡ first → ended → Serves by (situation_at start state) (script_by cut input limit) entry m ended
      serves_items is = serves_more [] (is ∙ sym (append-nil first)) (done.serves state fitting)

      -- at the end of the input
      pub serves_all : {left : Option (List ℕ)} → length input ≤ limit → IsAtEnd left → (script_by cut input limit) ≡ first → Serves by (situation_at start state) (script_by cut input limit) entry m (CarriedAll by cut (situation_at start state) limit input left entry.shown m)
      serves_all short at_end is = serves_items is (record { short = short; at_end = at_end; carried = carried is })

      -- past the limit
      pub serves_to_limit : limit < length input → (script_by cut input limit) ≡ first → Serves by (situation_at start state) (script_by cut input limit) entry m (CarriedToLimit by cut (situation_at start state) limit input entry.shown m)
      serves_to_limit long is = serves_items is (record { long = long; carried = carried is })

      -- at a fault of the input
      pub serves_whole : {left : Option (List ℕ)} (taken : List ℕ) → Consumes (Some input) left taken → length taken ≤ limit → cut.whole taken ≡ first → (others : List I) → (script_by cut input limit) ≡ first ++ others
          → Serves by (situation_at start state) (script_by cut input limit) entry m (CarriedWhole by cut (situation_at start state) limit input left entry.shown m)
      serves_whole taken consumed within is others all =
          serves_more others all (done.serves state fitting) (record { taken = taken; consumed = consumed; within = within; carried = carried is })

      -- if the whole script was run, the store fits the state that it led to, and the session is at its place
      pub reached : (script_by cut input limit) ≡ first → StoreFits now.store m (after_by by (situation_at start state) (script_by cut input limit)).state × (now.place ≡ (after_by by (situation_at start state) (script_by cut input limit)).place)
      reached is =
          let there = (done.serves state fitting).ended in
          subst (λ xs. StoreFits now.store m (after_by by (situation_at start state) xs).state × (now.place ≡ (after_by by (situation_at start state) xs).place)) (sym is) (there.fitting.own, there.at)

    -- at a fault in an item
    pub serves_stopped : (first : List I) (item : I) (fault : End) → HasStopped by start entry first item fault now m → (others : List I) → (script_by cut input limit) ≡ (first ++ item ∷ []) ++ others
        → Serves by (situation_at start state) (script_by cut input limit) entry m (StoppedAt by (situation_at start state) (script_by cut input limit) entry.shown m fault)
    serves_stopped first item fault stopped others all =
        let served = stopped.serves state fitting in
        serves_more others all served (stopped_more (situation_at start state) (script_by cut input limit) (first ++ item ∷ []) others entry.shown m fault all served.ended)
