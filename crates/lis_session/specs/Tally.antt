-- What running an item without showing its reply does to an image, and what is kept of the reply.
use Rattle.std.specs.Prelude.{◌≡◌, ℕ, ◌+◌, ◌==◌, Bool, true, false, List, [], ◌∷◌, length, Result, Ok, Err, IfOk}
use Rattle.lis_model.specs.Replies.{refusal_letter}
use Rattle.lis_ports.specs.Meaning.{Meaning}
use Rattle.lis_ports.specs.declared.disk.Failed.{Failed}
use Rattle.lis_grammar.specs.Formula.{Formula}
use Rattle.lis_model.specs.declared.command.Command.{Command}
use Rattle.lis_model.specs.declared.command.Command.TheVariants.{Ls}
use Rattle.lis_model.specs.Listing.{increments, locals}
use Rattle.lis_model.specs.State.{State}
use Rattle.lis_model.specs.Table.{table}
use Rattle.lis_model.specs.Step.{OutcomeOf, Situation, Item, Outcome, step}
use Rattle.lis_model.specs.Step.Item.{Do, Bad}
use Rattle.lis_store.specs.declared.change_fault.ChangeFault.{ChangeFault}
use Rattle.lis_store.specs.declared.change_fault.ChangeFault.TheVariants.{Refused, Disk}
use Rattle.lis_session.specs.declared.end.End.{End}
use Rattle.lis_session.specs.declared.end.End.TheVariants.{DiskFault}
use Rattle.lis_session.specs.declared.tally.Tally.{Tally}
use Rattle.lis_session.specs.Item.{FitsAt, OneItem}

-- A reply is a refusal if it begins with `n`: every other one is `ok`, or begins with a line of another letter.
abbrev pub is_refusal : List ℕ → Bool
is_refusal [] = false
is_refusal (letter ∷ bytes) = letter == refusal_letter

-- how many lines of words and of files the listing of the place has
abbrev pub listed_lines : Situation → ℕ
listed_lines now = length (increments (table now.state) now.place) + length (locals (table now.state) now.place)

-- the same if the command is `ls`; every other command lists nothing
abbrev pub lines_listed : Situation → Command → ℕ
lines_listed now Ls = listed_lines now
lines_listed now command = 0

abbrev pub listed : Situation → Item → ℕ
listed now (Do command payload) = lines_listed now command
listed now (Bad refusal) = 0

-- the same step, with nothing shown
abbrev pub quiet : {P : Type 0} → OutcomeOf P → OutcomeOf P
quiet outcome = record { next = outcome.next; reply = [] }

-- what shows nothing can have only a disk fault
abbrev pub quietly : Result Tally Failed → Result (Unit {0}) End
quietly (Ok tally) = Ok tt
quietly (Err failed) = Err DiskFault

-- One item with this outcome, whose reply lists this many lines: its step is made with nothing shown, and the tally is that of its reply.
pub record Tallied (before : Situation) (outcome : Outcome) (lines : ℕ) (old new : Meaning) (result : Result Tally Failed) (fits : State → Type 0) (place : List Formula) : Type 0 where
  pub made : OneItem before (quiet outcome) old new (quietly result) fits place
  pub tally : IfOk result (λ tally. tally ≡ record { refused = is_refusal outcome.reply; listed = lines })

-- A command with this outcome is tallied at a place, whichever state fits; the values in memory fit it as `fits_before` and `fits` say.
abbrev pub Tallies : (Situation → Outcome) → (Situation → ℕ) → (State → Type 0) → List Formula → Meaning → Meaning → Result Tally Failed → (State → Type 0) → List Formula → Type 0
Tallies outcome lines fits_before place_before old new result fits place =
    (state : State) → FitsAt fits_before old state
    → Tallied (record { state = state; place = place_before }) (outcome (record { state = state; place = place_before })) (lines (record { state = state; place = place_before })) old new result fits place

-- the same for an item
abbrev pub TalliesItem : (State → Type 0) → List Formula → Meaning → Meaning → Result Tally Failed → (State → Type 0) → List Formula → Item → Type 0
TalliesItem fits_before place_before old new result fits place item =
    Tallies (λ now. step now item) (λ now. listed now item) fits_before place_before old new result fits place

-- the tally of the reply to a change of the store
abbrev pub Concluded : Result (Unit {0}) ChangeFault → Result Tally Failed → Type 0
Concluded (Ok done) result = result ≡ Ok (record { refused = false; listed = 0 })
Concluded (Err (Refused refusal)) result = result ≡ Ok (record { refused = true; listed = 0 })
Concluded (Err Disk) result = result ≡ Err (record {})
