-- What a room hears, and the situation that it reaches, follow from what it sees.
use Rattle.std.proofs.Common.{◌≡◌, ℕ, ◌<◌, Bool, true, false, cond, Some, List, [], ◌∷◌, ◌++◌, length, refl, ap, sym, subst, ◌∙◌}
use Rattle.lis_model.specs.State.{State}
use Rattle.lis_model.specs.Step.{SituationOf, Situation, step, after_by}
use Rattle.lis_line.specs.Tagged.{Tagged}
use Rattle.lis_rooms.specs.Rooms.{Places, at_room, tag_line, room_step}
use Rattle.lis_rooms.specs.Sights.{Sight, same_state, is_of, seen, heard}
use Rattle.lis_rooms.specs.Sights.Sight.{Own, Changed}
use Rattle.lis_rooms.specs.Laws.{HearsTheSame}
use Rattle.lis_rooms.proofs.States.{same_state_decides}
use Rattle.lis_rooms.proofs.Steps.{rooms_stay, own_step, own_leads, other_leads}

-- where sights lead
abbrev reached_by : Situation → List Sight → Situation
reached_by now [] = now
reached_by now (Own item ∷ sights) = reached_by (step now item).next sights
reached_by now (Changed state ∷ sights) = reached_by (record { state = state; place = now.place }) sights

-- what a room hears of them
abbrev heard_by : ℕ → Situation → List Sight → List (List ℕ)
heard_by room now [] = []
heard_by room now (Own item ∷ sights) = ((step now item).reply ++ tag_line (Some room)) ∷ heard_by room (step now item).next sights
heard_by room now (Changed state ∷ sights) = heard_by room (record { state = state; place = now.place }) sights

record Follows (now : SituationOf Places) (items : List Tagged) (room : ℕ) : Type 0 where
  replies : heard now items room ≡ heard_by room (at_room now room) (seen now items room)
  situation : at_room (after_by room_step now items) room ≡ reached_by (at_room now room) (seen now items room)

module _ (now : SituationOf Places) (tagged : Tagged) (items : List Tagged) (room : ℕ) where
  abbrev next : SituationOf Places
  next = (room_step now tagged).next

  -- this is heard of the first item, and this is seen of it
  record FollowsOn (said : List (List ℕ)) (sights : List Sight) : Type 0 where
    replies : said ++ heard next items room ≡ heard_by room (at_room now room) (sights ++ seen next items room)
    situation : at_room (after_by room_step next items) room ≡ reached_by (at_room now room) (sights ++ seen next items room)

  own_follows : is_of room tagged.room ≡ true → room < length now.place → Follows next items room
      → FollowsOn ((room_step now tagged).reply ∷ []) (Own tagged.item ∷ [])
  own_follows is there rest =
      let to : at_room next room ≡ (step (at_room now room) tagged.item).next = own_leads now tagged room is there in
      let said : (room_step now tagged).reply ≡ (step (at_room now room) tagged.item).reply ++ tag_line (Some room) = ap (λ o. o.reply) (own_step now tagged room is) in
      record {
        replies = ap (λ reply. reply ∷ heard next items room) said
            ∙ ap (λ replies. ((step (at_room now room) tagged.item).reply ++ tag_line (Some room)) ∷ replies)
            (rest.replies ∙ ap (λ s. heard_by room s (seen next items room)) to);
        situation = rest.situation ∙ ap (λ s. reached_by s (seen next items room)) to;
      }

  -- the state after an item that is not the room's is seen, or is the one before it
  other_follows : is_of room tagged.room ≡ false → Follows next items room → (same : Bool) → same_state now.state next.state ≡ same
      → FollowsOn [] (cond same [] (Changed next.state ∷ []))
  other_follows other rest true same =
      let stays : next.state ≡ now.state = sym ((same_state_decides now.state next.state).0 same) in
      let to : at_room next room ≡ at_room now room =
      other_leads now tagged room other ∙ ap (λ (state : State). record { state = state; place = (at_room now room).place }) stays in
      record {
        replies = rest.replies ∙ ap (λ s. heard_by room s (seen next items room)) to;
        situation = rest.situation ∙ ap (λ s. reached_by s (seen next items room)) to;
      }
  other_follows other rest false same =
      let to = other_leads now tagged room other in
      record {
        replies = rest.replies ∙ ap (λ s. heard_by room s (seen next items room)) to;
        situation = rest.situation ∙ ap (λ s. reached_by s (seen next items room)) to;
      }

  follows_more : room < length now.place → Follows next items room → (is : Bool) → is_of room tagged.room ≡ is
      → FollowsOn (cond is ((room_step now tagged).reply ∷ []) []) (cond is (Own tagged.item ∷ []) (cond (same_state now.state next.state) [] (Changed next.state ∷ [])))
  follows_more there rest true is = own_follows is there rest
  follows_more there rest false other = other_follows other rest (same_state now.state next.state) refl

follows : (now : SituationOf Places) (items : List Tagged) (room : ℕ) → room < length now.place → Follows now items room
follows now [] room there = record { replies = refl; situation = refl }
follows now (tagged ∷ items) room there =
    let still : room < length (room_step now tagged).next.place = subst (λ n. room < n) (sym (rooms_stay now tagged)) there in
    let more = follows_more now tagged items room there (follows (room_step now tagged).next items room still) (is_of room tagged.room) refl in
    record { replies = more.replies; situation = more.situation }

pub hears_the_same : (now : SituationOf Places) (items others : List Tagged) (room : ℕ) → room < length now.place
    → seen now items room ≡ seen now others room → HearsTheSame now items others room
hears_the_same now items others room there alike =
    let one = follows now items room there in
    let other = follows now others room there in
    record {
      replies = one.replies ∙ ap (heard_by room (at_room now room)) alike ∙ sym other.replies;
      situation = one.situation ∙ ap (reached_by (at_room now room)) alike ∙ sym other.situation;
    }
