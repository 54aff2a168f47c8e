-- What running one item does to a plain state and to what was shown.
use Rattle.std.specs.Prelude.{◌≡◌, ℕ, Bool, List, [], ◌∷◌, Option, Some, None, Result, Ok, Err}
use Rattle.std.specs.Io.KnownBytes.{append_known}
use Rattle.lis_ports.specs.Calls.{Rose}
use Rattle.lis_ports.specs.Shown.{AppendsFront}
use Rattle.lis_model.specs.State.{State}
use Rattle.lis_model.specs.Step.{Situation, Outcome, first_refusal, exceeds_axioms, exceeds_known, exceeds_words}
use Rattle.lis_model.specs.declared.refusal.Refusal.{Refusal}
use Rattle.lis_model.specs.declared.refusal.Refusal.TheVariants.{LargeDescription, NoPropertyRoom, NoAxiomRoom}
use Rattle.lis_model.specs.Replies.{ok_line, refusal_line}
use Rattle.lis_plain.specs.declared.end.PlainEnd.{PlainEnd}
use Rattle.lis_plain.specs.declared.end.PlainEnd.TheVariants.{OutputFault, NoMemory}

-- At Ok the whole reply was shown. At a show fault a prefix of it was shown, and the step was made all the same. If memory ran out, nothing
-- happened.
abbrev pub Carries : Outcome → Situation → Situation → Option (List ℕ) → Option (List ℕ) → Result (Unit {0}) PlainEnd → Type 0
Carries outcome old new before now (Ok done) = (new ≡ outcome.next) × (now ≡ append_known before outcome.reply)
Carries outcome old new before now (Err OutputFault) = (new ≡ outcome.next) × AppendsFront before now outcome.reply
Carries outcome old new before now (Err NoMemory) = (new ≡ old) × (now ≡ before)

-- the result is an output fault only if the count of show faults rose
abbrev pub HasPlainCause : ℕ → ℕ → Result (Unit {0}) PlainEnd → Type 0
HasPlainCause before now (Ok done) = now ≡ before
HasPlainCause before now (Err OutputFault) = Rose before now
HasPlainCause before now (Err NoMemory) = now ≡ before

-- the reply to a command that shows only `ok` or its refusal
abbrev pub answer_line : Result (Unit {0}) Refusal → List ℕ
answer_line (Ok done) = ok_line
answer_line (Err refusal) = refusal_line refusal

-- such a command, before its reply is shown
abbrev pub IsAnswered : {E : Type 0} → Outcome → Situation → Situation → Result (Result (Unit {0}) Refusal) E → Type 0
IsAnswered outcome old new (Ok answer) = (new ≡ outcome.next) × (outcome.reply ≡ answer_line answer)
IsAnswered outcome old new (Err error) = new ≡ old

-- a row, as the code judges it
abbrev pub Says : List (Bool × Refusal) → Result (Unit {0}) Refusal → Type 0
Says checks (Ok done) = first_refusal checks ≡ None
Says checks (Err refusal) = first_refusal checks ≡ Some refusal

abbrev pub Judges : {E : Type 0} → List (Bool × Refusal) → Result (Result (Unit {0}) Refusal) E → Type 0
Judges checks (Ok answer) = Says checks answer
Judges checks (Err error) = Unit {0}

-- the rest of the row of a command on words and axioms: whether there is room in the state that it would make
abbrev pub word_room_checks : State → List (Bool × Refusal)
word_room_checks made = (exceeds_axioms made, NoAxiomRoom) ∷ (exceeds_known made, NoPropertyRoom) ∷ (exceeds_words made, LargeDescription) ∷ []
