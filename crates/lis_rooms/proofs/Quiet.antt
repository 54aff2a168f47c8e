-- What changes nothing is not seen.
use Rattle.std.proofs.Common.{◌≡◌, ℕ, ◌<◌, Bool, true, false, cond, List, [], ◌∷◌, ◌++◌, length, map, filter, refl, ap, sym, ◌∙◌, append_assoc}
use Rattle.lis_model.specs.State.{State}
use Rattle.lis_model.specs.Step.{SituationOf, after_by}
use Rattle.lis_line.specs.Tagged.{Tagged}
use Rattle.lis_rooms.specs.Rooms.{Places, room_step}
use Rattle.lis_rooms.specs.Sights.{Sight, is_of, change, sight, seen}
use Rattle.lis_rooms.specs.Sights.Sight.{Own, Changed}
use Rattle.lis_rooms.specs.Laws.{HearsTheSame, OthersAreQuiet}
use Rattle.lis_rooms.proofs.States.{same_state_decides}
use Rattle.lis_rooms.proofs.Follows.{hears_the_same}

seen-append : (now : SituationOf Places) (first others : List Tagged) (room : ℕ)
    → seen now (first ++ others) room ≡ seen now first room ++ seen (after_by room_step now first) others room
seen-append now [] others room = refl
seen-append now (tagged ∷ first) others room =
    let next : SituationOf Places = (room_step now tagged).next in
    ap (λ sights. sight now tagged room ++ sights) (seen-append next first others room)
    ∙ sym (append_assoc (sight now tagged room) (seen next first room) (seen (after_by room_step next first) others room))

-- an item that is not the room's and leaves the state
quiet_sight : (now : SituationOf Places) (tagged : Tagged) (room : ℕ) → is_of room tagged.room ≡ false → (room_step now tagged).next.state ≡ now.state
    → sight now tagged room ≡ []
quiet_sight now tagged room other stays =
    let after : State = (room_step now tagged).next.state in
    ap (λ is. cond is (Own tagged.item ∷ []) (change now.state after)) other
    ∙ ap (λ same. cond same [] (Changed after ∷ [])) ((same_state_decides now.state after).1 (sym stays))

pub quiet_unseen : (now : SituationOf Places) (first others : List Tagged) (tagged : Tagged) (room : ℕ) → room < length now.place
    → is_of room tagged.room ≡ false → (room_step (after_by room_step now first) tagged).next ≡ after_by room_step now first
    → HearsTheSame now (first ++ tagged ∷ others) (first ++ others) room
quiet_unseen now first others tagged room there other stays =
    let mid : SituationOf Places = after_by room_step now first in
    let none = quiet_sight mid tagged room other (ap (λ (s : SituationOf Places). s.state) stays) in
    hears_the_same now (first ++ tagged ∷ others) (first ++ others) room there
    (seen-append now first (tagged ∷ others) room
    ∙ ap (λ sights. seen now first room ++ (sights ++ seen (room_step mid tagged).next others room)) none
    ∙ ap (λ s. seen now first room ++ seen s others room) stays
    ∙ sym (seen-append now first others room))

-- ---- a room among others that change no state
abbrev own_items : ℕ → List Tagged → List Tagged
own_items room items = filter (λ tagged. is_of room tagged.room) items

abbrev own_sights : ℕ → List Tagged → List Sight
own_sights room items = map (λ (tagged : Tagged). Own tagged.item) (own_items room items)

-- alone it sees its own items
alone : (now : SituationOf Places) (items : List Tagged) (room : ℕ) → seen now (own_items room items) room ≡ own_sights room items
alone now [] room = refl
alone now (tagged ∷ items) room = by (is_of room tagged.room) refl (λ next. alone next items room)
  where
    by : (is : Bool) → is_of room tagged.room ≡ is → ((next : SituationOf Places) → seen next (own_items room items) room ≡ own_sights room items)
        → seen now (cond is (tagged ∷ own_items room items) (own_items room items)) room
        ≡ map (λ (t : Tagged). Own t.item) (cond is (tagged ∷ own_items room items) (own_items room items))
    by true is rest =
        let next : SituationOf Places = (room_step now tagged).next in
        ap (λ b. cond b (Own tagged.item ∷ []) (change now.state next.state) ++ seen next (own_items room items) room) is
        ∙ ap (λ sights. Own tagged.item ∷ sights) (rest next)
    by false other rest = rest now

beside : (now : SituationOf Places) (items : List Tagged) (room : ℕ) → OthersAreQuiet now items room → seen now items room ≡ own_sights room items
beside now [] room quiet = refl
beside now (tagged ∷ items) room quiet = by (is_of room tagged.room) refl (beside (room_step now tagged).next items room quiet.1)
  where
    by : (is : Bool) → is_of room tagged.room ≡ is → seen (room_step now tagged).next items room ≡ own_sights room items
        → sight now tagged room ++ seen (room_step now tagged).next items room
        ≡ map (λ (t : Tagged). Own t.item) (cond is (tagged ∷ own_items room items) (own_items room items))
    by true is rest =
        ap (λ b. cond b (Own tagged.item ∷ []) (change now.state (room_step now tagged).next.state) ++ seen (room_step now tagged).next items room) is
        ∙ ap (λ sights. Own tagged.item ∷ sights) rest
    by false other rest =
        ap (λ sights. sights ++ seen (room_step now tagged).next items room) (quiet_sight now tagged room other (quiet.0 other)) ∙ rest

pub quiet_absent : (now : SituationOf Places) (items : List Tagged) (room : ℕ) → room < length now.place → OthersAreQuiet now items room
    → HearsTheSame now items (own_items room items) room
quiet_absent now items room there quiet =
    hears_the_same now items (own_items room items) room there (beside now items room quiet ∙ sym (alone now items room))
