-- One item run in its room, and the line of the room after it.
use Rattle.std.proofs.Common.{ℕ, Option, Some, None, List, [], Result, Ok, Err, get_or, set, refl, ap}
use Rattle.std.specs.Option.{option_map, IfSome}
use Rattle.lis_ports.specs.Meaning.{Meaning}
use Rattle.lis_grammar.specs.Formula.{Formula}
use Rattle.lis_model.specs.declared.refusal.Refusal.{Refusal}
use Rattle.lis_model.specs.Replies.{refusal_line}
use Rattle.lis_model.specs.State.{State}
use Rattle.lis_model.specs.Step.{SituationOf, Outcome, Item, step}
use Rattle.lis_model.specs.Step.Item.{Bad}
use Rattle.lis_store.specs.Stored.{Stored, StoreFits}
use Rattle.lis_session.specs.declared.end.End.{End}
use Rattle.lis_session.specs.declared.end.End.TheVariants.{DiskFault, OutputFault}
use Rattle.lis_session.specs.Item.{ItemEnded, OneItem, CarriesOut}
use Rattle.lis_session.specs.Parts.{Answers}
use Rattle.lis_session.proofs.Saying.{shows_item, item_front, item_shows}
use Rattle.lis_rooms.specs.Rooms.{Places, at_room, outcome_in, done_in, tag_line, room_step}

-- ---- an item in its room
-- an outcome at the place of a room
item_in : (now : SituationOf Places) (room : ℕ) (outcome : Outcome) {old new : Meaning} {fits : State → Type 0} {place : List Formula} {result : Result (Unit {0}) End}
    → OneItem (at_room now room) outcome old new result fits place → OneItem now (outcome_in now room outcome) old new result fits (set now.place room place)
item_in now room outcome {old} {new} {fits} {place} {result} one = record { moments = one.moments; past = one.past; ended = by result one.ended }
  where
    by : (result : Result (Unit {0}) End) → ItemEnded outcome old new fits place result → ItemEnded (outcome_in now room outcome) old new fits (set now.place room place) result
    by (Ok done) ended = record { shown = ended.shown; fitting = ended.fitting; at = ap (set now.place room) ended.at }
    by (Err DiskFault) ended = tt
    by (Err OutputFault) ended = (ended.0, ended.1, record { shown = ended.2.shown; fitting = ended.2.fitting; at = ap (set now.place room) ended.2.at })

pub carries_in : (fits_before fits : State → Type 0) (old new : Meaning) (result : Result (Unit {0}) End) (place : List Formula) (places : Places) (room : ℕ) (asked : Option Item)
    → IfSome asked (CarriesOut step fits_before (get_or places room []) old new result fits place)
    → IfSome asked (CarriesOut (λ (now : SituationOf Places) item. done_in now (Some room) item) fits_before places old new result fits (set places room place))
carries_in fits_before fits old new result place places room None carries = tt
carries_in fits_before fits old new result place places room (Some item) carries = λ state fitting.
    let now : SituationOf Places = record { state = state; place = places } in
    item_in now room (step (at_room now room) item) (carries state fitting)

-- an item without a room, which is refused
pub refuses : {k : Stored} {old new : Meaning} {result : Result (Unit {0}) End} (places : Places) (refusal : Refusal) → Answers old new (refusal_line refusal) result
    → CarriesOut (λ (now : SituationOf Places) asked. done_in now None asked) (StoreFits k old) places old new result (StoreFits k new) places (Bad refusal)
unfolding step
refuses places refusal answers = λ state fitting. shows_item (done_in (record { state = state; place = places }) None (Bad refusal)) places fitting answers refl

-- ---- the line after it
module _ (fits_before : State → Type 0) (old : Meaning) (places_before places : Places) (room : Option ℕ) where
  -- the item stopped before
  pub stops_untagged : (fits : State → Type 0) (new : Meaning) (end : End) (asked : Option Item)
      → IfSome asked (CarriesOut (λ now item. done_in now room item) fits_before places_before old new (Err end) fits places)
      → IfSome (option_map (λ item. record { room = room; item = item }) asked) (CarriesOut room_step fits_before places_before old new (Err end) fits places)
  stops_untagged fits new end None carries = tt
  stops_untagged fits new end (Some item) carries = λ state fitting. item_front (tag_line room) (carries state fitting) refl

  -- it was run
  pub carries_tagged : (k : Stored) (mid new : Meaning) (result : Result (Unit {0}) End) (asked : Option Item)
      → IfSome asked (CarriesOut (λ now item. done_in now room item) fits_before places_before old mid (Ok tt) (StoreFits k mid) places) → Answers mid new (tag_line room) result
      → IfSome (option_map (λ item. record { room = room; item = item }) asked) (CarriesOut room_step fits_before places_before old new result (StoreFits k new) places)
  carries_tagged k mid new result None carries answers = tt
  carries_tagged k mid new result (Some item) carries answers = λ state fitting. item_shows result (carries state fitting) answers
