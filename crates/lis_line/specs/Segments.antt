-- The input taken segment by segment: a line, and the payload after it.
use Rattle.std.specs.Prelude.{◌≡◌, ℕ, ◌+◌, ◌<◌, ◌≤◌, Bool, false, true, List, [], ◌∷◌, ◌++◌, length, Option, Some, Result, Ok, Err}
use Rattle.std.specs.Option.{option_map}
use Rattle.std.specs.List.{list_any}
use Rattle.std.specs.Io.KnownBytes.{Keeps, IsAtEnd}
use Rattle.lis_model.specs.declared.refusal.Refusal.TheVariants.{PayloadEnd}
use Rattle.lis_model.specs.Step.{Payload}
use Rattle.lis_model.specs.Step.Item.{Bad}
use Rattle.lis_model.specs.Script.{after_feed, First, FirstOf, payload_of}
use Rattle.lis_line.specs.Stock.{Stocked}
use Rattle.lis_line.specs.Reading.{Gave}
use Rattle.lis_line.specs.declared.payload.Filled.{Filled}
use Rattle.lis_line.specs.declared.payload.Filled.TheVariants.{All, Cut, Spent}
use Rattle.lis_line.specs.declared.input.Segment.{Segment}
use Rattle.lis_line.specs.declared.input.Segment.TheVariants.{Whole, Last, PastLimit}
use Rattle.lis_words.specs.Bytes.{is_feed}

-- a payload with these bytes after its own
abbrev pub with_bytes : Payload → List ℕ → Payload
with_bytes payload bytes = payload_of (payload.size + length bytes) (payload.bytes ++ bytes)

-- A run of at most this many bytes was given, and is appended to the payload; or the end came, or a fault.
abbrev pub TakesRun : {E : Type 0} → Stocked → Stocked → Option (List ℕ) → Option (List ℕ) → ℕ → Payload → Payload → Result Bool E → Type 0
TakesRun old new left_before left most before now (Ok true) =
    (run : List ℕ) × Gave old new left_before left run × (0 < length run) × (length run ≤ most) × (now ≡ with_bytes before run)
TakesRun old new left_before left most before now (Ok false) =
    (old.ahead ≡ []) × (new.ahead ≡ []) × Keeps left_before left × IsAtEnd left × (new.rest ≡ old.rest)
TakesRun old new left_before left most before now (Err failed) =
    (old.ahead ≡ []) × (new.ahead ≡ []) × Keeps left_before left × (new.rest ≡ old.rest)

-- This many bytes were taken for a payload; or fewer, if the input ended, or the byte past the limit came, or a fault.
abbrev pub Fills : {E : Type 0} → Stocked → Stocked → Option (List ℕ) → Option (List ℕ) → ℕ → Payload → Result Filled E → Type 0
Fills old new left_before left size payload (Ok All) =
    (bytes : List ℕ) × Gave old new left_before left bytes × (length bytes ≡ size) × (0 < new.rest) × (payload ≡ payload_of size bytes)
Fills old new left_before left size payload (Ok Cut) =
    (bytes : List ℕ) × Gave old new left_before left bytes × (length bytes < size) × (0 < new.rest) × (new.ahead ≡ []) × IsAtEnd left
Fills old new left_before left size payload (Ok Spent) =
    (bytes : List ℕ) × (byte : ℕ) × Gave old new left_before left (bytes ++ byte ∷ []) × (length bytes < size) × (new.rest ≡ 0)
Fills old new left_before left size payload (Err failed) =
    (bytes : List ℕ) × Gave old new left_before left bytes × (length bytes < size) × (0 < new.rest) × (new.ahead ≡ [])

-- these bytes are a segment that is whole, whatever follows, if `first` gives the first segment of bytes
pub record WholeSegment {I : Type 0} (first : List ℕ → FirstOf I) (old new : Stocked) (left_before left : Option (List ℕ)) (item : Option I) : Type 0 where
  pub bytes : List ℕ
  pub gave : Gave old new left_before left bytes
  pub within : 0 < new.rest
  pub is : (more : List ℕ) → first (bytes ++ more) ≡ record { item = item; rest = more; is_whole = true }

-- the last segment, at the end of the input
pub record LastSegment {I : Type 0} (first : List ℕ → FirstOf I) (old new : Stocked) (left_before left : Option (List ℕ)) (item : Option I) : Type 0 where
  pub bytes : List ℕ
  pub gave : Gave old new left_before left bytes
  pub within : 0 < new.rest
  pub is : first bytes ≡ record { item = item; rest = []; is_whole = false }
  pub nothing_ahead : new.ahead ≡ []
  pub at_end : IsAtEnd left

-- the byte past the limit, before a segment was whole
pub record SegmentPast {I : Type 0} (first : List ℕ → FirstOf I) (old new : Stocked) (left_before left : Option (List ℕ)) : Type 0 where
  pub bytes : List ℕ
  pub byte : ℕ
  pub gave : Gave old new left_before left (bytes ++ byte ∷ [])
  pub spent : new.rest ≡ 0
  pub not_whole : (first bytes).is_whole ≡ false

-- a fault, before a segment was whole
pub record SegmentFailed {I : Type 0} (first : List ℕ → FirstOf I) (old new : Stocked) (left_before left : Option (List ℕ)) : Type 0 where
  pub bytes : List ℕ
  pub gave : Gave old new left_before left bytes
  pub within : 0 < new.rest
  pub not_whole : (first bytes).is_whole ≡ false
  pub nothing_ahead : new.ahead ≡ []

-- what was taken as a segment, if `asks` gives what a line requests
abbrev pub TookSegment : {I R : Type 0} → (List ℕ → FirstOf I) → (R → I) → Stocked → Stocked → Option (List ℕ) → Option (List ℕ) → Segment R → Type 0
TookSegment first asks old new left_before left (Whole asked) = WholeSegment first old new left_before left (option_map asks asked)
TookSegment first asks old new left_before left (Last asked) = LastSegment first old new left_before left (option_map asks asked)
TookSegment first asks old new left_before left PastLimit = SegmentPast first old new left_before left

abbrev pub TakesSegment : {I R E : Type 0} → (List ℕ → FirstOf I) → (R → I) → Stocked → Stocked → Option (List ℕ) → Option (List ℕ) → Result (Segment R) E → Type 0
TakesSegment first asks old new left_before left (Ok segment) = TookSegment first asks old new left_before left segment
TakesSegment first asks old new left_before left (Err failed) = SegmentFailed first old new left_before left

-- after a byte that does not end a payload, everything up to the next line feed is dropped, and the line feed too
abbrev pub first_dropped : List ℕ → First
first_dropped bytes = record { item = Some (Bad PayloadEnd); rest = after_feed bytes; is_whole = list_any is_feed bytes }
