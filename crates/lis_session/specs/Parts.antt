-- How the parts of running an item end.
use Rattle.std.specs.Prelude.{◌≡◌, ℕ, Bool, true, false, if◌then◌else◌, List, Result, Ok, Err, IfErr}
use Rattle.std.specs.List.{list_all}
use Rattle.lis_ports.specs.Meaning.{Meaning}
use Rattle.lis_ports.specs.Since.{IsShowRun}
use Rattle.lis_ports.specs.Calls.{StationFaultEnds}
use Rattle.lis_words.specs.Words.{has_word}
use Rattle.lis_grammar.specs.Formula.{Formula}
use Rattle.lis_grammar.specs.Places.{Resolution, text_words}
use Rattle.lis_grammar.specs.Places.Resolution.{NewPlace, BeyondLimits, Unreadable}
use Rattle.lis_model.specs.declared.command.Command.{Command}
use Rattle.lis_model.specs.declared.command.Command.TheVariants.{Mkdir, Rmdir, Axiom, Unaxiom, Create, Add, Write, Mv, Rename, Rm}
use Rattle.lis_model.specs.declared.refusal.Refusal.{Refusal}
use Rattle.lis_model.specs.declared.refusal.Refusal.TheVariants.{BadFormula, UnknownProperty, LargeFormula}
use Rattle.lis_model.specs.Replies.{body_line, ok_line, refusal_line, word_letter, file_letter}
use Rattle.lis_model.specs.State.{State}
use Rattle.lis_model.specs.Step.{SituationOf, OutcomeOf, Situation, Outcome}
use Rattle.lis_incr.specs.declared.listing.Line.{Line}
use Rattle.lis_incr.specs.declared.listing.Line.TheVariants.{Prop, File}
use Rattle.lis_store.specs.Changes.{Changes, Holds}
use Rattle.lis_store.specs.Stored.{Stored, StoreFits, StoreHolds}
use Rattle.lis_store.specs.declared.change_fault.ChangeFault.{ChangeFault}
use Rattle.lis_store.specs.declared.change_fault.ChangeFault.TheVariants.{Refused, Disk as DiskChange}
use Rattle.lis_session.specs.declared.end.End.{End}
use Rattle.lis_session.specs.declared.end.End.TheVariants.{DiskFault, OutputFault}
use Rattle.lis_session.specs.Item.{HasEndCause, IsSameStation}

-- nothing changes, and these bytes are shown
abbrev pub only_shows : {P : Type 0} → List ℕ → SituationOf P → OutcomeOf P
only_shows bytes now = record { next = now; reply = bytes }

-- what an end says of any station
pub record Ends (old new : Meaning) (result : Result (Unit {0}) End) : Type 0 where
  pub cause : HasEndCause old new result
  pub first_fault : StationFaultEnds old new
  pub same : IsSameStation old new

-- All of the bytes were shown; or a prefix of them, and that is an output fault.
pub record Answers (old new : Meaning) (bytes : List ℕ) (result : Result (Unit {0}) End) : Type 0 where
  pub run : IsShowRun old new bytes result
  pub fault : IfErr result (λ end. end ≡ OutputFault)

-- the reply if nothing is shown but `ok` or a refusal
abbrev pub answer_of : Result (Unit {0}) Refusal → List ℕ
answer_of (Ok done) = ok_line
answer_of (Err refusal) = refusal_line refusal

-- The reply to a change of the store. After a disk fault nothing is shown.
abbrev pub Concludes : {D : Type 0} → (D → Meaning) → D → D → Result (Unit {0}) ChangeFault → Result (Unit {0}) End → Type 0
Concludes meaning old new (Ok done) result = Answers (meaning old) (meaning new) ok_line result
Concludes meaning old new (Err (Refused refusal)) result = Answers (meaning old) (meaning new) (refusal_line refusal) result
Concludes meaning old new (Err DiskChange) result = (new ≡ old) × (result ≡ Err DiskFault)

-- a line of a listing, as it is shown
abbrev pub shown_line : Line → List ℕ
shown_line (Prop word) = body_line word_letter word
shown_line (File name) = body_line file_letter name

-- the place to which a text leads, by the known words, or why it is refused
abbrev pub led_to : List (List ℕ) → List ℕ → Resolution → Result (List Formula) Refusal
led_to known text Unreadable = Err BadFormula
led_to known text BeyondLimits = Err LargeFormula
led_to known text (NewPlace place) = if list_all (has_word known) (text_words text) then Ok place else Err UnknownProperty

-- The store is changed as a command requests at a place, whichever state fits it.
abbrev pub Makes : (Situation → Outcome) → List Formula → Stored → Stored → Meaning → Meaning → Result (Unit {0}) ChangeFault → Type 0
Makes outcome place old new before after changed =
    (state : State) → StoreFits old before state
    → Changes (record { state = state; place = place }) (outcome (record { state = state; place = place })) new before after changed

-- The same for a change that is held back, whichever states are the base and the present one.
abbrev pub MakesHeld : (Situation → Outcome) → List Formula → Stored → Stored → Meaning → Meaning → Result (Unit {0}) ChangeFault → Type 0
MakesHeld outcome place old new before after changed =
    (base state : State) → StoreHolds old before base state
    → Holds base (record { state = state; place = place }) (outcome (record { state = state; place = place })) new before after changed

-- Whether the store did its part: a refusal is a reply, and no fault.
abbrev pub kept_up : Result (Unit {0}) ChangeFault → Result (Unit {0}) End
kept_up (Ok done) = Ok tt
kept_up (Err (Refused refusal)) = Ok tt
kept_up (Err DiskChange) = Err DiskFault

-- whether a command requests a change of the store
abbrev pub is_change : Command → Bool
is_change (Mkdir word) = true
is_change (Rmdir word) = true
is_change (Axiom left right) = true
is_change (Unaxiom left right) = true
is_change (Create name words) = true
is_change (Add name words) = true
is_change (Write name) = true
is_change (Mv name text) = true
is_change (Rename name other) = true
is_change (Rm name) = true
is_change command = false
