-- What a step in a room keeps, and where it leads its own room and the others.
use Rattle.std.proofs.Common.{◌≡◌, ℕ, ◌<◌, true, false, Option, Some, None, List, [], ◌∷◌, length, ◌+◌, lit<, refl, ap, sym, ◌∙◌, arith, length-append}
use Rattle.std.proofs.lemmas.List.{get_or-set_same, get_or-set_other, length-set}
use Rattle.std.proofs.lemmas.Bool.Decides.{Decides-eqb, not_from_Decides}
use Rattle.lis_grammar.specs.Formula.{Formula}
use Rattle.lis_model.specs.Step.{SituationOf, Situation, Item, step}
use Rattle.lis_laws.proofs.Regular.{AreRegular, step_regular}
use Rattle.lis_line.specs.Tagged.{Tagged}
use Rattle.lis_rooms.specs.Rooms.{Places, at_room, tag_line, with_tag, done_in, room_step}
use Rattle.lis_rooms.specs.Sights.{is_of}

-- the line of the room alone has a byte
tag_some : (room : Option ℕ) → 0 < length (tag_line room)
tag_some (Some room) = omega (arith, length-append (64 ∷ (48 + room) ∷ []) (10 ∷ []))
tag_some None = lit< tt

step_some : (now : SituationOf Places) (tagged : Tagged) → 0 < length (room_step now tagged).reply
step_some now tagged = omega (arith, tag_some tagged.room, length-append (done_in now tagged.room tagged.item).reply (tag_line tagged.room))

step_limits : (now : SituationOf Places) (room : Option ℕ) (item : Item) → (done_in now room item).next.state.limits ≡ now.state.limits
step_limits now (Some room) item = (step_regular (at_room now room) item).limits
step_limits now None item = refl

pub room_step_regular : AreRegular room_step
room_step_regular now tagged = record { some = step_some now tagged; limits = step_limits now tagged.room tagged.item }

-- ---- rooms
own_of : (room : ℕ) (of : Option ℕ) → is_of room of ≡ true → of ≡ Some room
own_of room None is = absurd (cc)
own_of room (Some other) is = ap Some ((Decides-eqb other room).0 is)

-- the number of rooms stays
rooms_of_step : (now : SituationOf Places) (of : Option ℕ) (item : Item) → length (done_in now of item).next.place ≡ length now.place
rooms_of_step now None item = refl
rooms_of_step now (Some room) item = length-set now.place room (step (at_room now room) item).next.place

pub rooms_stay : (now : SituationOf Places) (tagged : Tagged) → length (room_step now tagged).next.place ≡ length now.place
rooms_stay now tagged = rooms_of_step now tagged.room tagged.item

-- the room's own item is run at its place
pub own_step : (now : SituationOf Places) (tagged : Tagged) (room : ℕ) → is_of room tagged.room ≡ true
    → room_step now tagged ≡ with_tag (Some room) (done_in now (Some room) tagged.item)
own_step now tagged room is = ap (λ of. with_tag of (done_in now of tagged.item)) (own_of room tagged.room is)

pub own_leads : (now : SituationOf Places) (tagged : Tagged) (room : ℕ) → is_of room tagged.room ≡ true → room < length now.place
    → at_room (room_step now tagged).next room ≡ (step (at_room now room) tagged.item).next
own_leads now tagged room is there =
    let after : Situation = (step (at_room now room) tagged.item).next in
    ap (λ o. at_room o.next room) (own_step now tagged room is)
    ∙ ap (λ (place : List Formula). record { state = after.state; place = place }) (get_or-set_same now.place room after.place [] there)

-- an item that is not the room's leaves the room's place
place_of_step : (now : SituationOf Places) (of : Option ℕ) (item : Item) (room : ℕ) → is_of room of ≡ false
    → (at_room (done_in now of item).next room).place ≡ (at_room now room).place
place_of_step now None item room other = refl
place_of_step now (Some r) item room other =
    get_or-set_other now.place r room (step (at_room now r) item).next.place [] (λ e. not_from_Decides (is_of room (Some r)) (Decides-eqb r room) other (sym e))

pub other_leads : (now : SituationOf Places) (tagged : Tagged) (room : ℕ) → is_of room tagged.room ≡ false
    → at_room (room_step now tagged).next room ≡ record { state = (room_step now tagged).next.state; place = (at_room now room).place }
other_leads now tagged room other =
    ap (λ (place : List Formula). record { state = (room_step now tagged).next.state; place = place }) (place_of_step now tagged.room tagged.item room other)
