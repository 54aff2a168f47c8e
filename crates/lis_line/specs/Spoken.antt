-- What the code of an input of rooms reads.
use Rattle.std.specs.Prelude.{◌<◌, Option, Some, None, MatchOption, ⊤}
use Rattle.std.specs.Option.{option_map}
use Rattle.lis_model.specs.Step.{Payload}
use Rattle.lis_model.specs.Step.Item.{Bad}
use Rattle.lis_line.specs.declared.reader.Item.{Item as Said}
use Rattle.lis_line.specs.declared.reader.Item.TheVariants.{Command as SaidCommand, Bad as SaidBad, End as SaidEnd, Limit as SaidLimit}
use Rattle.lis_line.specs.declared.reader.Next.{Next}
use Rattle.lis_line.specs.declared.tagged.Tagged.{Tagged as SaidTagged}
use Rattle.lis_line.specs.declared.tagged.Spoken.{Spoken}
use Rattle.lis_line.specs.declared.tagged.Spoken.TheVariants.{Inside, Outside}
use Rattle.lis_line.specs.Reading.{item_with, asked_by, says_by, next_map}
use Rattle.lis_line.specs.Tagged.{Tagged}

-- what a line requests, with the payload that was taken
abbrev pub tagged_with : Payload → Spoken → Tagged
tagged_with payload (Inside room request) = record { room = Some room.number; item = item_with payload request }
tagged_with payload (Outside refusal) = record { room = None; item = Bad refusal }

-- what an item requests, in its room, with the payload after it; the end and the limit request nothing
abbrev pub tagged_by : SaidTagged → Payload → Option Tagged
tagged_by tagged payload = option_map (λ item. record { room = tagged.room; item = item }) (asked_by tagged.item payload)

-- the same, with the end and the limit
abbrev pub says_tagged : Payload → SaidTagged → Next Tagged
says_tagged payload tagged = next_map (λ item. record { room = tagged.room; item = item }) (says_by payload tagged.item)

-- what may be in no room: no command
abbrev pub IsNoCommand : Said → Type 0
IsNoCommand (SaidCommand command) = ⊥
IsNoCommand (SaidBad refusal) = ⊤
IsNoCommand SaidEnd = ⊤
IsNoCommand SaidLimit = ⊤

-- what may be in a room: neither the end nor the limit
abbrev pub IsAsked : Said → Type 0
IsAsked (SaidCommand command) = ⊤
IsAsked (SaidBad refusal) = ⊤
IsAsked SaidEnd = ⊥
IsAsked SaidLimit = ⊥

-- what a reader of rooms may give; there are eight rooms
abbrev pub IsTagged : SaidTagged → Type 0
IsTagged tagged = MatchOption tagged.room (IsNoCommand tagged.item) (λ room. (room < 8) × IsAsked tagged.item)
