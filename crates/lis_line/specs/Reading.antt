-- What a reader says of its input, by how the input is cut into items.
use Rattle.std.specs.Prelude.{◌≡◌, ◌⊎◌, ℕ, ◌+◌, ◌<◌, Bool, true, false, List, [], ◌∷◌, ◌++◌, length, Option, Some, None, Result, Ok, Err, ⊤}
use Rattle.std.specs.Option.{option_map, option_to_list}
use Rattle.std.specs.Io.KnownBytes.{Consumes, IsAtEnd}
use Rattle.lis_model.specs.Step.{Item, Payload}
use Rattle.lis_model.specs.Step.Item.{Do, Bad}
use Rattle.lis_model.specs.Script.{Cut}
use Rattle.lis_line.specs.Stock.{Stocked, stream_of}
use Rattle.lis_model.specs.declared.command.Command.{Command}
use Rattle.lis_model.specs.declared.refusal.Refusal.{Refusal}
use Rattle.lis_line.specs.declared.input.Segment.{Segment}
use Rattle.lis_line.specs.declared.input.Segment.TheVariants.{Whole as WholeSegment, Last as LastSegment, PastLimit as SegmentPast}
use Rattle.lis_line.specs.declared.taken.Taken.{Taken}
use Rattle.lis_line.specs.declared.taken.Taken.TheVariants.{Whole, Last, NoMore, PastLimit}
use Rattle.lis_line.specs.declared.reader.Next.{Next}
use Rattle.lis_line.specs.declared.reader.Next.TheVariants.{Item as NextItem, End, Limit}
use Rattle.lis_line.specs.declared.reader.Item.{Item as Said}
use Rattle.lis_line.specs.declared.reader.Item.TheVariants.{Command as SaidCommand, Bad as SaidBad, End as SaidEnd, Limit as SaidLimit}

-- A reader: what was taken and may still be given (the last byte is past the limit), whether the last item was given, and whether it has
-- ended.
pub record Reading : Type 0 where
  pub stock : Stocked
  pub is_closed : Bool
  pub is_ended : Bool

abbrev pub fresh : ℕ → Reading
fresh limit = record { stock = record { ahead = []; rest = limit + 1 }; is_closed = false; is_ended = false }

-- The bytes are these items, and each is whole, whatever follows. There are no items if the bytes request nothing.
pub record IsWhole {I : Type 0} (cut : Cut I) (bytes : List ℕ) (items : List I) : Type 0 where
  pub all : (more : List ℕ) → cut.all (bytes ++ more) ≡ items ++ cut.all more
  pub whole : (more : List ℕ) → cut.whole (bytes ++ more) ≡ items ++ cut.whole more

-- the bytes are the last item, which does not have its own line feed
pub record IsLast {I : Type 0} (cut : Cut I) (bytes : List ℕ) (item : I) : Type 0 where
  pub all : cut.all bytes ≡ item ∷ []
  pub whole : cut.whole bytes ≡ []

-- these bytes were given, in this order
pub record Gave (old new : Stocked) (left_before left : Option (List ℕ)) (bytes : List ℕ) : Type 0 where
  pub took : Consumes (stream_of old left_before) (stream_of new left) bytes
  pub rest : length bytes + new.rest ≡ old.rest

-- items that are whole
pub record GaveWhole {I : Type 0} (cut : Cut I) (old new : Stocked) (left_before left : Option (List ℕ)) (items : List I) : Type 0 where
  pub bytes : List ℕ
  pub gave : Gave old new left_before left bytes
  pub some : 0 < length bytes
  pub within : 0 < new.rest
  pub is : IsWhole cut bytes items

-- the last item, at the end of the input
pub record GaveLast {I : Type 0} (cut : Cut I) (old new : Stocked) (left_before left : Option (List ℕ)) (item : I) : Type 0 where
  pub bytes : List ℕ
  pub gave : Gave old new left_before left bytes
  pub some : 0 < length bytes
  pub within : 0 < new.rest
  pub is : IsLast cut bytes item
  pub nothing_ahead : new.ahead ≡ []
  pub at_end : IsAtEnd left

-- the end of the input: no item was left
pub record GaveEnd {I : Type 0} (cut : Cut I) (old new : Stocked) (left_before left : Option (List ℕ)) : Type 0 where
  pub bytes : List ℕ
  pub gave : Gave old new left_before left bytes
  pub within : 0 < new.rest
  pub none_left : cut.all bytes ≡ []
  pub nothing_ahead : new.ahead ≡ []
  pub at_end : IsAtEnd left

-- the byte past the limit: no item was left that is whole within the limit
pub record Overran {I : Type 0} (cut : Cut I) (old new : Stocked) (left_before left : Option (List ℕ)) : Type 0 where
  pub bytes : List ℕ
  pub byte : ℕ
  pub gave : Gave old new left_before left (bytes ++ byte ∷ [])
  pub spent : new.rest ≡ 0
  pub none_whole : cut.whole bytes ≡ []

-- a fault: no item was left that is whole in the bytes taken
pub record GaveRest {I : Type 0} (cut : Cut I) (old new : Stocked) (left_before left : Option (List ℕ)) : Type 0 where
  pub bytes : List ℕ
  pub gave : Gave old new left_before left bytes
  pub within : 0 < new.rest
  pub none_whole : cut.whole bytes ≡ []
  pub nothing_ahead : new.ahead ≡ []

-- what is taken as one segment from a stock, if `asks` gives what it requests
abbrev pub GivesSegment : {I R E : Type 0} → Cut I → (R → I) → Stocked → Stocked → Option (List ℕ) → Option (List ℕ) → Result (Segment R) E → Type 0
GivesSegment cut asks old new left_before left (Ok (WholeSegment asked)) = GaveWhole cut old new left_before left (option_to_list (option_map asks asked))
GivesSegment cut asks old new left_before left (Ok (LastSegment (Some asked))) = GaveLast cut old new left_before left (asks asked)
GivesSegment cut asks old new left_before left (Ok (LastSegment None)) = GaveEnd cut old new left_before left
GivesSegment cut asks old new left_before left (Ok SegmentPast) = Overran cut old new left_before left
GivesSegment cut asks old new left_before left (Err failed) = GaveRest cut old new left_before left

-- the next segment that is taken and requests something
abbrev pub GivesAsked : {I R E : Type 0} → Cut I → (R → I) → Stocked → Stocked → Option (List ℕ) → Option (List ℕ) → Result (Taken R) E → Type 0
GivesAsked cut asks old new left_before left (Ok (Whole asked)) = GaveWhole cut old new left_before left (asks asked ∷ [])
GivesAsked cut asks old new left_before left (Ok (Last asked)) = GaveLast cut old new left_before left (asks asked)
GivesAsked cut asks old new left_before left (Ok NoMore) = GaveEnd cut old new left_before left
GivesAsked cut asks old new left_before left (Ok PastLimit) = Overran cut old new left_before left
GivesAsked cut asks old new left_before left (Err failed) = GaveRest cut old new left_before left

-- an item, and whether it was the last
abbrev pub GaveItem : {I : Type 0} → Cut I → Reading → Reading → Option (List ℕ) → Option (List ℕ) → I → Type 0
GaveItem cut old new left_before left item =
    (new.is_ended ≡ false)
    × ((GaveWhole cut old.stock new.stock left_before left (item ∷ []) × (new.is_closed ≡ false))
    ⊎ (GaveLast cut old.stock new.stock left_before left item × (new.is_closed ≡ true)))

-- what a reader says while the last item was not given
abbrev pub Gives : {I E : Type 0} → Cut I → Reading → Reading → Option (List ℕ) → Option (List ℕ) → Result (Next I) E → Type 0
Gives cut old new left_before left (Ok (NextItem item)) = GaveItem cut old new left_before left item
Gives cut old new left_before left (Ok End) = GaveEnd cut old.stock new.stock left_before left × (new.is_ended ≡ true)
Gives cut old new left_before left (Ok Limit) = Overran cut old.stock new.stock left_before left × (new.is_ended ≡ true)
Gives cut old new left_before left (Err failed) = GaveRest cut old.stock new.stock left_before left × (new.is_ended ≡ true)

-- and after it was given: the end, without a source call
pub record Closes {I E : Type 0} (old new : Reading) (left_before left : Option (List ℕ)) (answer : Result (Next I) E) : Type 0 where
  pub ends : answer ≡ Ok End
  pub ended : new.is_ended ≡ true
  pub untouched : left ≡ left_before

pub record Says {I E : Type 0} (cut : Cut I) (old new : Reading) (left_before left : Option (List ℕ)) (answer : Result (Next I) E) : Type 0 where
  pub gives : old.is_closed ≡ false → Gives cut old new left_before left answer
  pub closes : old.is_closed ≡ true → Closes old new left_before left answer

-- what a result says, if `says` gives what its value says
abbrev pub told : {X I E : Type 0} → (X → Next I) → Result X E → Result (Next I) E
told says (Ok said) = Ok (says said)
told says (Err failed) = Err failed

abbrev pub next_map : {R I : Type 0} → (R → I) → Next R → Next I
next_map asks (NextItem asked) = NextItem (asks asked)
next_map asks End = End
next_map asks Limit = Limit

-- an item was returned, or the limit: neither the end nor a fault
abbrev pub GoesOn : {I E : Type 0} → Result (Next I) E → Type 0
GoesOn (Ok (NextItem item)) = ⊤
GoesOn (Ok End) = ⊥
GoesOn (Ok Limit) = ⊤
GoesOn (Err failed) = ⊥

-- some item is complete in these bytes, whatever follows
pub record LiesWhole {I : Type 0} (cut : Cut I) (bytes : List ℕ) : Type 0 where
  pub front : List ℕ
  pub rest : List ℕ
  pub is : bytes ≡ front ++ rest
  pub item : I
  pub whole : IsWhole cut front (item ∷ [])

-- ---- the items of a session

-- what a line requests, with the payload that was taken
abbrev pub item_with : Payload → Result Command Refusal → Item
item_with payload (Ok command) = Do command payload
item_with payload (Err refusal) = Bad refusal

-- what an item of the code requests, with the payload after it; the end and the limit request nothing
abbrev pub asked_by : Said → Payload → Option Item
asked_by (SaidCommand command) payload = Some (Do command payload)
asked_by (SaidBad refusal) payload = Some (Bad refusal)
asked_by SaidEnd payload = None
asked_by SaidLimit payload = None

-- the same, with the end and the limit
abbrev pub says_by : Payload → Said → Next Item
says_by payload (SaidCommand command) = NextItem (Do command payload)
says_by payload (SaidBad refusal) = NextItem (Bad refusal)
says_by payload SaidEnd = End
says_by payload SaidLimit = Limit
