-- Words that are one step of the model.
use Rattle.std.proofs.Common.{◌≡◌, ℕ, List, [], ◌∷◌, ◌++◌, Option, Result, Ok, Err, IsTrue, refl, ◌∙◌, inl, inr}
use Rattle.lis_ports.specs.Meaning.{Meaning}
use Rattle.lis_ports.specs.Runs.{Adds}
use Rattle.lis_ports.specs.Since.{Begins, Since}
use Rattle.lis_reply.proofs.Showing.{append_known-nil}
use Rattle.lis_line.specs.declared.carrier.Halt.{Halt}
use Rattle.lis_line.specs.declared.carrier.Halt.TheVariants.{End as AtEnd, Limit, InputFault, Stopped}
use Rattle.lis_grammar.specs.Formula.{Formula}
use Rattle.lis_model.specs.State.{State}
use Rattle.lis_model.specs.Step.{Outcome}
use Rattle.lis_session.specs.declared.end.End.{End}
use Rattle.lis_session.specs.declared.end.End.TheVariants.{DiskFault, OutputFault}
use Rattle.lis_session.specs.Ending.{InputRead, result_of}
use Rattle.lis_session.specs.Item.{InItem, OneItem, ItemEnded}
use Rattle.lis_session.specs.Parts.{only_shows}
use Rattle.lis_session.specs.Runs.{Goes}
use Rattle.lis_session.specs.Session.{root_of}
use Rattle.lis_session.proofs.Moments.{adds_since}
use Rattle.lis_shell.specs.declared.status.Status.TheVariants.{Ended}
use Rattle.lis_shell.specs.Image.{ByResult, halted, NotBegun}
use Rattle.lis_parts.specs.Commands.{put}
use Rattle.lis_parts.specs.Putting.{view_limit, put_by}
use Rattle.lis_shell.specs.Steps.{StepEnded, NothingDone, is_unbegun, ToldStepEnded}
use Rattle.lis_shell.proofs.Opened.{by_halted}

-- it was run as an item at the root
pub step_goes : {old new : Meaning} {fits : State → Type 0} {place : List Formula} (state : State) (outcome : Outcome) (result : Result (Unit {0}) End)
    → OneItem (root_of state) outcome old new result fits place → Goes (InItem state outcome) state.limits old new (ByResult (StepEnded outcome old.shown new) (halted result))
step_goes {old} {new} {fits} {place} state outcome result one = record {
  moments = one.moments;
  past = one.past;
  ended = by_halted (StepEnded outcome old.shown new) result (by result one.ended);
}
  where
    by : (result : Result (Unit {0}) End) → ItemEnded outcome old new fits place result → StepEnded outcome old.shown new result
    by (Ok u) ended = record { shown = ended.shown; stands = ended.fitting.stands }
    by (Err DiskFault) ended = tt
    by (Err OutputFault) ended = (ended.0, ended.1, record { shown = ended.2.shown; stands = ended.2.fitting.stands })

begins_none : (shown : List ℕ) → Begins shown [] → shown ≡ []
begins_none [] front = refl
begins_none (b ∷ shown) front = absurd (let no : [] ≡ b ∷ (shown ++ front.rest) = front.is in cc)

-- nothing was shown, or nothing changed and a prefix of nothing was shown
still_nothing : (state : State) (image shown : List ℕ) → InItem state (only_shows [] (root_of state)) image shown → NotBegun state image shown
still_nothing state image shown (inl quiet) = quiet
still_nothing state image shown (inr front) = (begins_none shown front.0, front.1)

-- Nothing was done: as if an item had shown nothing.
nothing_goes : {old new : Meaning} {fits : State → Type 0} {place : List Formula} (state : State) (outcome : Outcome) (end : Type 0)
    → (NothingDone state old.shown new → end) → OneItem (root_of state) (only_shows [] (root_of state)) old new (Ok tt) fits place → Goes (InItem state outcome) state.limits old new end
nothing_goes {old} state outcome end by one = record {
  moments = adds_since old.shown (λ image shown at. inl (still_nothing state image shown at)) one.moments;
  past = one.past;
  ended = by (one.ended.shown ∙ append_known-nil old.shown, one.ended.fitting.stands);
}

-- an edited view was read and put back, as an item at the root
pub put_goes : {old new : Meaning} {fits : State → Type 0} {place : List Formula} (state : State) (name text bytes : List ℕ) (left : Option (List ℕ)) (halt : Halt End) → InputRead view_limit bytes left halt
    → OneItem (root_of state) (put_by halt (root_of state) name text bytes) old new (result_of halt) fits place
    → Goes (InItem state (put (root_of state) name text bytes)) state.limits old new (ToldStepEnded view_limit state (put (root_of state) name text bytes) bytes left old.shown new halt)
put_goes state name text bytes left AtEnd read one = record {
  moments = one.moments;
  past = one.past;
  ended = (read.0, read.1, record { shown = one.ended.shown; stands = one.ended.fitting.stands });
}
put_goes state name text bytes left Limit read one = nothing_goes state (put (root_of state) name text bytes) _ (λ nothing. (read, nothing)) one
put_goes state name text bytes left InputFault read one = nothing_goes state (put (root_of state) name text bytes) _ (λ nothing. nothing) one
put_goes state name text bytes left (Stopped DiskFault) read one = record { moments = one.moments; past = one.past; ended = tt }
put_goes state name text bytes left (Stopped OutputFault) read one = record {
  moments = one.moments;
  past = one.past;
  ended = (one.ended.0, one.ended.1, record { shown = one.ended.2.shown; stands = one.ended.2.fitting.stands });
}

-- if it was not read to its end, nothing was done at any moment
pub put_undone : {old new : Meaning} {fits : State → Type 0} {place : List Formula} (state : State) (name text bytes : List ℕ) (halt : Halt End) → IsTrue (is_unbegun (Ended halt))
    → OneItem (root_of state) (put_by halt (root_of state) name text bytes) old new (result_of halt) fits place → Adds old new (Since old.shown (NotBegun state))
put_undone state name text bytes AtEnd is one = absurd (cc)
put_undone {old} state name text bytes Limit is one = adds_since old.shown (still_nothing state) one.moments
put_undone {old} state name text bytes InputFault is one = adds_since old.shown (still_nothing state) one.moments
put_undone state name text bytes (Stopped fault) is one = absurd (cc)
