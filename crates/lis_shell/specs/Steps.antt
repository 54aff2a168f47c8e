-- Words that are one step of the model, for any step.
use Rattle.std.specs.Prelude.{◌≡◌, ℕ, ◌≤◌, ◌<◌, List, [], length, Bool, true, false, Option, Some, Result, Ok, Err, refl}
use Rattle.std.proofs.Common.{inl}
use Rattle.std.specs.Io.KnownBytes.{append_known, IsAtEnd}
use Rattle.lis_ports.specs.Meaning.{Meaning}
use Rattle.lis_ports.specs.Runs.{Always}
use Rattle.lis_ports.specs.Since.{Begins}
use Rattle.lis_line.specs.Taking.{TakesFew}
use Rattle.lis_line.specs.declared.carrier.Halt.{Halt}
use Rattle.lis_line.specs.declared.carrier.Halt.TheVariants.{End as AtEnd, Limit, InputFault, Stopped}
use Rattle.lis_model.specs.State.{State}
use Rattle.lis_model.specs.Step.{Outcome}
use Rattle.lis_replay.specs.Dump.{dump_of}
use Rattle.lis_store.specs.Stands.{Stands}
use Rattle.lis_session.specs.declared.end.End.{End}
use Rattle.lis_session.specs.declared.end.End.TheVariants.{DiskFault, OutputFault}
use Rattle.lis_session.specs.Ending.{InputRead}
use Rattle.lis_session.specs.Item.{InItem}
use Rattle.lis_session.specs.Parts.{only_shows}
use Rattle.lis_session.specs.Session.{root_of}
use Rattle.lis_parts.specs.Commands.{view, put}
use Rattle.lis_parts.specs.Putting.{view_limit, is_untaken}
use Rattle.lis_shell.specs.declared.status.Status.{Status}
use Rattle.lis_shell.specs.declared.status.Status.TheVariants.{Ended}
use Rattle.lis_shell.specs.Image.{Work, ByResult, IsUnread, is_opening}

-- the step was made, and these bytes were shown
pub record StepShown (outcome : Outcome) (before : Option (List ℕ)) (new : Meaning) (bytes : List ℕ) : Type 0 where
  pub shown : new.shown ≡ append_known before bytes
  pub stands : Always new (λ image. Stands image outcome.next.state)

-- How it ended: its whole reply was shown; or, at a show fault, a prefix of it; or there was a disk fault, after which only the moments say
-- what is on the disk.
abbrev pub StepEnded : Outcome → Option (List ℕ) → Meaning → Result (Unit {0}) End → Type 0
StepEnded outcome before new (Ok done) = StepShown outcome before new outcome.reply
StepEnded outcome before new (Err DiskFault) = Unit {0}
StepEnded outcome before new (Err OutputFault) = (shown : List ℕ) × Begins shown outcome.reply × StepShown outcome before new shown

-- the work that is a step from the state, takes no input and changes nothing
abbrev pub stepping : (State → Outcome) → Work
stepping outcome = record {
  takes_input = false;
  only_reads = true;
  undone = is_opening;
  may_end = IsUnread;
  input = λ bytes left halt. Unit {0};
  moment = λ state bytes. InItem state (outcome state);
  ended = λ state bytes left before new. ByResult (StepEnded (outcome state) before new);
}

-- before it was made
abbrev pub step_none : (state : State) (outcome : Outcome) (image : List ℕ) → Stands image state → InItem state outcome image []
step_none state outcome image stands = inl (refl, stands)

-- nothing was shown, and the image represents the state as before
abbrev pub NothingDone : State → Option (List ℕ) → Meaning → Type 0
NothingDone state before new = (new.shown ≡ before) × Always new (λ image. Stands image state)

-- How a step ended that an input determines. The input was read to its end, and the step was made; or it is too long, or a source call
-- failed, and nothing was done; or a station call failed.
abbrev pub ToldStepEnded : ℕ → State → Outcome → List ℕ → Option (List ℕ) → Option (List ℕ) → Meaning → Halt End → Type 0
ToldStepEnded limit state outcome bytes left before new AtEnd = (length bytes ≤ limit) × IsAtEnd left × StepShown outcome before new outcome.reply
ToldStepEnded limit state outcome bytes left before new Limit = (limit < length bytes) × NothingDone state before new
ToldStepEnded limit state outcome bytes left before new InputFault = NothingDone state before new
ToldStepEnded limit state outcome bytes left before new (Stopped fault) = StepEnded outcome before new (Err fault)

-- the statuses before an input was read to its end
abbrev pub is_unbegun : Status → Bool
is_unbegun (Ended halt) = is_untaken halt
is_unbegun status = is_opening status

-- The work that is a step from the state, determined by an input of at most this many bytes. Of a longer input at most one byte more is
-- taken. Nothing is done before the input was read to its end.
abbrev pub told_stepping : ℕ → (State → List ℕ → Outcome) → Work
told_stepping limit outcome = record {
  takes_input = true;
  only_reads = false;
  undone = is_unbegun;
  may_end = λ halt. Unit {0};
  input = λ bytes left halt. InputRead limit bytes left halt × TakesFew limit (Some bytes) left;
  moment = λ state bytes. InItem state (outcome state bytes);
  ended = λ state bytes. ToldStepEnded limit state (outcome state bytes) bytes;
}

-- `view`: the lines of a file of which a formula holds are shown, and nothing changes
abbrev pub viewing : List ℕ → List ℕ → Work
viewing name text = stepping (λ state. view (root_of state) name text)

-- `put`: an edited view of a file, which is the input, determines its new bytes
abbrev pub putting : List ℕ → List ℕ → Work
putting name text = told_stepping view_limit (λ state bytes. put (root_of state) name text bytes)

-- `dump`: the session that makes the state again is shown, and nothing changes
abbrev pub dumping : Work
dumping = stepping (λ state. only_shows (dump_of state) (root_of state))
