-- How the loop over an input ends: what was taken of the input, and what was done.
use Rattle.std.specs.Prelude.{◌≡◌, ℕ, ◌≤◌, ◌<◌, List, [], ◌∷◌, ◌++◌, length, Option, Some}
use Rattle.std.specs.Io.KnownBytes.{Consumes, IsAtEnd}
use Rattle.lis_ports.specs.Calls.{Rose}
use Rattle.lis_model.specs.Script.{Cut, script_by}
use Rattle.lis_line.specs.declared.carrier.Halt.{Halt}
use Rattle.lis_line.specs.declared.carrier.Halt.TheVariants.{End, Limit, InputFault, Stopped}

-- the input has ended, and these are all of its items
pub record AllTaken {I : Type 0} (cut : Cut I) (limit : ℕ) (input : List ℕ) (left : Option (List ℕ)) (first : List I) : Type 0 where
  pub short : length input ≤ limit
  pub at_end : IsAtEnd left
  pub is : script_by cut input limit ≡ first

-- the byte past the limit was taken, and these are the items that are whole within it
pub record LimitTaken {I : Type 0} (cut : Cut I) (limit : ℕ) (input : List ℕ) (first : List I) : Type 0 where
  pub long : limit < length input
  pub is : script_by cut input limit ≡ first

-- a source call failed, and these are the items that are whole in the bytes taken
pub record WholeTaken {I : Type 0} (cut : Cut I) (limit : ℕ) (input : List ℕ) (left : Option (List ℕ)) (first : List I) : Type 0 where
  pub taken : List ℕ
  pub consumed : Consumes (Some input) left taken
  pub within : length taken ≤ limit
  pub is : cut.whole taken ≡ first

-- a prefix of these items
abbrev pub IsFront : {I : Type 0} → List I → List I → Type 0
IsFront {I} all first = (others : List I) × (all ≡ first ++ others)

-- These items were run, and if the input is known, they are those that `are` says.
pub record Went {I : Type 0} (left_before : Option (List ℕ)) (carried : List I → Type 0) (are : List ℕ → List I → Type 0) : Type 0 where
  pub first : List I
  pub done : carried first
  pub read : (input : List ℕ) → left_before ≡ Some input → are input first

-- how it ended: at the end of the input, past its limit, at a fault of the source, or in an item
abbrev pub HasEnded : {I F : Type 0} → Cut I → ℕ → Option (List ℕ) → Option (List ℕ) → (List I → Type 0) → (List I → I → F → Type 0) → Halt F → Type 0
HasEnded cut limit before left done stopped End = Went before done (λ input first. AllTaken cut limit input left first)
HasEnded cut limit before left done stopped Limit = Went before done (λ input first. LimitTaken cut limit input first)
HasEnded cut limit before left done stopped InputFault =
    Went before done (λ input first. WholeTaken cut limit input left first × IsFront (script_by cut input limit) first)
HasEnded {I} cut limit before left done stopped (Stopped fault) =
    (item : I) × Went before (λ first. stopped first item fault) (λ input first. IsFront (script_by cut input limit) (first ++ item ∷ []))

-- The same for a carrier that may hold things back: it is settled at every end except its own fault. It may fail in an item, or in settling
-- after one.
abbrev pub HoldEnded : {I F : Type 0} → Cut I → ℕ → Option (List ℕ) → Option (List ℕ) → Type 0 → (List I → Type 0) → (List I → F → Type 0) → Halt F → Type 0
HoldEnded cut limit before left settled done stopped End = settled × Went before done (λ input first. AllTaken cut limit input left first)
HoldEnded cut limit before left settled done stopped Limit = settled × Went before done (λ input first. LimitTaken cut limit input first)
HoldEnded cut limit before left settled done stopped InputFault =
    settled × Went before done (λ input first. WholeTaken cut limit input left first × IsFront (script_by cut input limit) first)
HoldEnded cut limit before left settled done stopped (Stopped fault) =
    Went before (λ first. stopped first fault) (λ input first. IsFront (script_by cut input limit) first)

-- it ends at a fault of the source only if the count rose, and otherwise the count stays
abbrev pub HasHaltCause : {F : Type 0} → ℕ → ℕ → Halt F → Type 0
HasHaltCause before now End = now ≡ before
HasHaltCause before now Limit = now ≡ before
HasHaltCause before now InputFault = Rose before now
HasHaltCause before now (Stopped fault) = now ≡ before
