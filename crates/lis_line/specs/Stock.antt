-- Bytes that were taken from a source and not given on yet.
use Rattle.std.specs.Prelude.{◌≡◌, ℕ, ◌+◌, ◌<◌, Bool, true, false, List, [], ◌∷◌, ◌++◌, length, take, Option, Some, None, Result, Ok, Err}
use Rattle.std.specs.Io.KnownBytes.{prepend_known, Consumes, Keeps, IsAtEnd}
use Rattle.std.specs.List.{list_any}
use Rattle.lis_limits.specs.declared.TheConstants.{MAX_LINE}
use Rattle.lis_line.specs.declared.stock.LineEnd.{LineEnd}
use Rattle.lis_line.specs.declared.stock.LineEnd.TheVariants.{Feed, Last, Spent}
use Rattle.lis_words.specs.Bytes.{is_feed}

pub record Stocked : Type 0 where
  -- taken and not given
  pub ahead : List ℕ
  -- how many bytes may still be given; the last of them is past the limit
  pub rest : ℕ

-- all that is still to come
abbrev pub stream_of : Stocked → Option (List ℕ) → Option (List ℕ)
stream_of stock left = prepend_known stock.ahead left

-- a byte, the end, or a fault; at the end and at a fault nothing is ahead
abbrev pub GivesByte : {E : Type 0} → Stocked → Stocked → Option (List ℕ) → Option (List ℕ) → Result (Option ℕ) E → Type 0
GivesByte old new left_before left (Ok (Some b)) =
    Consumes (stream_of old left_before) (stream_of new left) (b ∷ []) × (new.rest + 1 ≡ old.rest)
GivesByte old new left_before left (Ok None) =
    (old.ahead ≡ []) × (new.ahead ≡ []) × Keeps left_before left × IsAtEnd left × (new.rest ≡ old.rest)
GivesByte old new left_before left (Err failed) =
    (old.ahead ≡ []) × (new.ahead ≡ []) × Keeps left_before left × (new.rest ≡ old.rest)

-- taking from a source when nothing is ahead: what came is ahead, and nothing came only at the end
abbrev pub Refills : {T E : Type 0} → Stocked → Stocked → Option (List ℕ) → Option (List ℕ) → Result T E → Type 0
Refills old new left_before left (Ok done) =
    Consumes left_before left new.ahead × (length new.ahead ≡ 0 → IsAtEnd left) × (new.rest ≡ old.rest)
Refills old new left_before left (Err failed) = (new.ahead ≡ []) × Keeps left_before left × (new.rest ≡ old.rest)

-- bytes are ahead, with none of them given; or the end, or a fault
abbrev pub Meets : {E : Type 0} → Stocked → Stocked → Option (List ℕ) → Option (List ℕ) → Result Bool E → Type 0
Meets old new left_before left (Ok true) =
    Consumes (stream_of old left_before) (stream_of new left) [] × (0 < length new.ahead) × (new.rest ≡ old.rest)
Meets old new left_before left (Ok false) =
    (old.ahead ≡ []) × (new.ahead ≡ []) × Keeps left_before left × IsAtEnd left × (new.rest ≡ old.rest)
Meets old new left_before left (Err failed) =
    (old.ahead ≡ []) × (new.ahead ≡ []) × Keeps left_before left × (new.rest ≡ old.rest)

-- These bytes were taken: a text with no line feed, and what ended it. Of the text the first 1,025 bytes are kept.
pub record LineTaken (old new : Stocked) (left_before left : Option (List ℕ)) (line text bytes : List ℕ) : Type 0 where
  pub one_line : list_any is_feed text ≡ false
  pub took : Consumes (stream_of old left_before) (stream_of new left) bytes
  pub rest : length bytes + new.rest ≡ old.rest
  pub kept : line ≡ take (MAX_LINE + 1) text

-- a line ends at its line feed, at the end of the input, at the byte past the limit, or at a fault
abbrev pub ReadsLine : {E : Type 0} → Stocked → Stocked → Option (List ℕ) → Option (List ℕ) → List ℕ → Result LineEnd E → Type 0
ReadsLine old new left_before left line (Ok Feed) =
    (text : List ℕ) × LineTaken old new left_before left line text (text ++ 10 ∷ []) × (0 < new.rest)
ReadsLine old new left_before left line (Ok Last) =
    (text : List ℕ) × LineTaken old new left_before left line text text × (0 < new.rest) × (new.ahead ≡ []) × IsAtEnd left
ReadsLine old new left_before left line (Ok Spent) =
    (text : List ℕ) × (byte : ℕ) × LineTaken old new left_before left line text (text ++ byte ∷ []) × (new.rest ≡ 0)
ReadsLine old new left_before left line (Err failed) =
    (text : List ℕ) × LineTaken old new left_before left line text text × (0 < new.rest) × (new.ahead ≡ [])
