-- What is kept if an image was opened and the work after it ended.
use Rattle.std.proofs.Common.{◌≡◌, ◌⊎◌, ℕ, List, [], Option, Some, Result, Ok, Err, IsTrue, false, refl, sym, subst, inr, ◌∙◌}
use Rattle.lis_ports.specs.Meaning.{Meaning}
use Rattle.lis_ports.specs.Runs.{Adds, Leaves}
use Rattle.lis_ports.specs.Since.{Since}
use Rattle.lis_ports.proofs.Moments.{adds_then, adds_weaken}
use Rattle.lis_journal.specs.Images.{KeepsPast}
use Rattle.lis_journal.specs.Record.{has_open}
use Rattle.lis_line.specs.declared.carrier.Halt.{Halt}
use Rattle.lis_line.specs.declared.carrier.Halt.TheVariants.{End as AtEnd, Limit, InputFault, Stopped}
use Rattle.lis_model.specs.Image.{image_blocks}
use Rattle.lis_model.specs.State.{State}
use Rattle.lis_store.specs.Stands.{Stands}
use Rattle.lis_store.specs.Stored.{Stored, IsSound, StoreFits}
use Rattle.lis_store.proofs.OneState.{one_state}
use Rattle.lis_open.specs.declared.mounting.OpenFault.TheVariants.{DiskFault, NoMemory}
use Rattle.lis_open.specs.Opens.{IsLongEnough, OpenEnded, Recovers, WasLeft, Unwritten, OpenUnwritten}
use Rattle.lis_open.proofs.Needs.{has_super}
use Rattle.lis_session.specs.declared.end.End.{End}
use Rattle.lis_session.specs.declared.end.End.TheVariants.{DiskFault as DiskFailed, OutputFault}
use Rattle.lis_line.specs.Endings.{HasHaltCause}
use Rattle.lis_session.specs.Item.{HasEndCause}
use Rattle.lis_session.specs.Ending.{result_of}
use Rattle.lis_session.specs.Runs.{Goes, OpensInto}
use Rattle.lis_session.specs.Session.{OpenedMoment}
use Rattle.lis_session.specs.Showing.{DiskStays}
use Rattle.lis_session.proofs.DiskKept.{stays_none}
use Rattle.lis_session.proofs.Fitting.{store_fits_at}
use Rattle.lis_session.proofs.Whole.{opening_moments, moments_behind, opens_into}
use Rattle.lis_shell.specs.declared.status.Status.{Status}
use Rattle.lis_shell.specs.declared.status.Status.TheVariants.{Opening, Ended}
use Rattle.lis_shell.specs.Causes.{Counts, counts, HasStatusCause, NoFault}
use Rattle.lis_shell.specs.Image.{Work, Told, halted, ByResult, EntryWith, WorkEnded, Completes, ComesToEnd, writes_nothing, NotBegun, OnlyOpened, NothingWritten, ImageKeeps}
use Rattle.lis_shell.proofs.Going.{counts_stay}
use Rattle.lis_shell.proofs.Refused.{IsOpening, not_begun, opening_stays}

-- the law of a work before anything was shown
abbrev pub IsQuiet : Work → Type 0
IsQuiet work = (state : State) (bytes image : List ℕ) → Stands image state → work.moment state bytes image []

-- what is stated of the work on a store
abbrev Does : Work → Stored → Meaning → Meaning → Option (List ℕ) → Option (List ℕ) → Halt End → Type 0
Does work store mid new left left_after halt =
    (state : State) (bytes : List ℕ) → StoreFits store mid state → Told work.takes_input left bytes
    → Goes (work.moment state bytes) state.limits mid new (work.ended state bytes left_after mid.shown new halt)

-- of a work whose end says that nothing was done
abbrev Undoes : Work → Stored → Meaning → Meaning → Option (List ℕ) → Halt End → Type 0
Undoes work store mid new left halt =
    IsTrue (work.undone (Ended halt)) → (state : State) (bytes : List ℕ) → StoreFits store mid state → Told work.takes_input left bytes → Adds mid new (Since mid.shown (NotBegun state))

-- of a work that writes nothing
abbrev Reads : Work → Meaning → Meaning → Halt End → Type 0
Reads work mid new halt = IsTrue (writes_nothing work (Ended halt)) → IsTrue mid.is_honest → DiskStays mid new

-- an image that represents a state was opened, and the work came to an end
pub work_done : {T : Type 0} {old mid new : Meaning} {unmoved untouched unmoved_by : Type 0} {left left_after : Option (List ℕ)} (work : Work) (opened : T) → IsOpening old mid unmoved (Ok opened)
    → (IsTrue old.is_honest → IsLongEnough old × ((s : State) × Stands old.bytes s)) → (halt : Halt End) → work.may_end halt
    → ((bytes : List ℕ) → left ≡ Some bytes → work.input bytes left_after halt)
    → ((state : State) (bytes : List ℕ) → EntryWith old (Told work.takes_input left bytes) state → OpensInto (work.moment state bytes) old new (work.ended state bytes left_after old.shown new halt))
    → ((state : State) (bytes : List ℕ) → EntryWith old (Told work.takes_input left bytes) state → KeepsPast (image_blocks state.limits) old new)
    → ((state : State) (bytes : List ℕ) → EntryWith old (Told work.takes_input left bytes) state → IsTrue (work.undone (Ended halt)) → Adds old new (OpenedMoment old (NotBegun state)))
    → (IsTrue (writes_nothing work (Ended halt)) → IsTrue old.is_honest → Recovers old new)
    → (IsTrue (writes_nothing work (Ended halt)) → IsTrue old.is_honest → has_open old.bytes ≡ false → NothingWritten old new (Ended halt))
    → ImageKeeps work untouched unmoved_by left left_after old new (Ended halt)
work_done work opened opening judged halt only input runs past undone left unwritten = record {
  only = only;
  runs = runs;
  undone = undone;
  opened = left;
  unwritten = unwritten;
  past = λ state bytes entry settled. past state bytes entry;
  judged = judged;
  spot = λ spot is. absurd (cc);
  idle = λ fault is. absurd (cc);
  input = input;
  measured = record { small = λ less. absurd (cc (opening.small less).0); numbers = λ len need is. absurd (cc); same = λ len need is. absurd (cc) };
  barred = λ honest none. let at = (judged honest).1 in absurd (none at.0 at.1);
}

-- what is past an image that was opened
pub opened_past : {T : Type 0} {old mid : Meaning} {unmoved : Type 0} (opened : T) → IsOpening old mid unmoved (Ok opened) → (state : State) → IsTrue old.is_honest → Stands old.bytes state
    → KeepsPast (image_blocks state.limits) old mid
opened_past {old = old} opened opening state honest stands = opening.past state.limits honest (has_super old.bytes state stands) (λ is. absurd (cc))

-- what was recovered stays
still_recovered : (old mid new : Meaning) → Recovers old mid → DiskStays mid new → Recovers old new
still_recovered old mid new at stays =
    (at.0, at.1, record { reads = stays.same.bytes ∙ at.2.reads; only = λ image there. at.2.only image (stays.same.images.only image there) })

-- neither the opening nor the work after it wrote anything
written_behind : {old mid new : Meaning} {store : Stored} (status : Status) → OpenUnwritten old mid (Ok store) → DiskStays mid new → NothingWritten old new status
written_behind {old} {mid} status opening stays =
    let left : Unwritten old mid = opening.left (λ is. absurd (cc)) in
    record {
      left = λ worked. record { bytes = stays.same.bytes ∙ left.bytes; images = λ image there. left.images image (stays.same.images.only image there) };
      moments = adds_then (opening_stays opening) (adds_weaken (λ image bytes. WasLeft old image) stays.moments (λ image bytes there. left.images image there));
    }

module _ {old mid : Meaning} {unmoved : Type 0} (work : Work) (quiet : IsQuiet work) (store : Stored) (opening : IsOpening old mid unmoved (Ok store))
    (ended : IsTrue old.is_honest → OpenEnded old mid (Ok store))
    (recovers : IsTrue old.is_honest → Recovers old mid)
    (moments : (state : State) → IsTrue old.is_honest → Stands old.bytes state → Leaves old mid (λ image. old.images image ⊎ Stands image state))
    (unwritten : IsTrue old.is_honest → has_open old.bytes ≡ false → OpenUnwritten old mid (Ok store)) where
  -- the store fits the state that the image represented
  fits : (state : State) → IsTrue old.is_honest → Stands old.bytes state → StoreFits store mid state
  fits state honest stands = let at = ended honest in subst (StoreFits store mid) (one_state old.bytes at.1.0 state at.1.1 stands) at.1.2

  pub word_ended : {new : Meaning} {untouched unmoved_by : Type 0} {left left_after : Option (List ℕ)} (halt : Halt End) → work.may_end halt
      → ((bytes : List ℕ) → left ≡ Some bytes → work.input bytes left_after halt) → Does work store mid new left left_after halt → Undoes work store mid new left halt → Reads work mid new halt
      → ImageKeeps work untouched unmoved_by left left_after old new (Ended halt)
  word_ended {new} {left_after = left_after} halt only input did undid read =
      work_done work store opening (λ honest. let at = ended honest in (at.0, (at.1.0, at.1.1))) halt only input
      (λ state bytes entry. opens_into (work.moment state bytes) (λ before. work.ended state bytes left_after before new halt) opening.run.shown
      (opening_moments (work.moment state bytes) (quiet state bytes) (moments state entry.honest entry.stands)) (did state bytes (fits state entry.honest entry.stands) entry.told))
      (λ state bytes entry n le. (did state bytes (fits state entry.honest entry.stands) entry.told).past n le ∙ opened_past store opening state entry.honest entry.stands n le)
      (λ state bytes entry is. moments_behind (NotBegun state) opening.run.shown (not_begun state (moments state entry.honest entry.stands)) (undid is state bytes (fits state entry.honest entry.stands) entry.told))
      (λ nothing honest. still_recovered old mid new (recovers honest) (read nothing (opening.run.honest ∙ honest)))
      (λ nothing honest shut. written_behind (Ended halt) (unwritten honest shut) (read nothing (opening.run.honest ∙ honest)))

  -- memory ran out after the opening, and nothing was done
  pub word_crowded : {new : Meaning} {untouched unmoved_by : Type 0} {left left_after : Option (List ℕ)} → new ≡ mid → left_after ≡ left → untouched → IsSound store
      → ImageKeeps work untouched unmoved_by left left_after old new (Opening NoMemory)
  word_crowded {new} {untouched} {unmoved_by} {left} {left_after} same kept still sound = subst (λ m. ImageKeeps work untouched unmoved_by left left_after old m (Opening NoMemory)) (sym same) (record {
    only = tt;
    runs = λ state bytes entry. record {
      moments = opening_moments (work.moment state bytes) (quiet state bytes) (moments state entry.honest entry.stands);
      ended = (opening.run.shown, subst (λ known. Told work.takes_input known bytes) (sym kept) entry.told, stands_then state (fits state entry.honest entry.stands));
    };
    undone = λ state bytes entry is. not_begun state (moments state entry.honest entry.stands);
    past = λ state bytes entry settled. opened_past store opening state entry.honest entry.stands;
    opened = λ nothing honest. inr (recovers honest);
    unwritten = λ nothing honest shut. written_behind (Opening NoMemory) (unwritten honest shut) (stays_none mid);
    judged = λ honest.
        let at = ended honest in
        (at.0, (at.1.0.limits, has_super old.bytes at.1.0 at.1.1), λ state stands. stands_then state (fits state honest stands));
    spot = λ spot is. absurd (cc);
    idle = λ fault is. (still, opening.run.shown);
    input = λ bytes told. tt;
    measured = record { small = λ less. absurd (cc (opening.small less).0); numbers = λ len need is. absurd (cc); same = λ len need is. absurd (cc) };
    barred = λ honest none. let at = ended honest in absurd (none at.1.0 at.1.1);
  })
    where
      stands_then : (state : State) → StoreFits store mid state → Stands mid.bytes state
      stands_then state own = (store_fits_at sound own).stands.reads

-- the cause of an end of a work that takes no input
pub halted_cause : (old new : Meaning) (input : ℕ) (result : Result (Unit {0}) End) → HasEndCause old new result → HasStatusCause (counts old input) (counts new input) (Ended (halted result))
halted_cause old new input (Ok done) cause = counts_stay old new input input cause.0 refl cause.1
halted_cause old new input (Err DiskFailed) cause = (cause.0, refl, cause.1)
halted_cause old new input (Err OutputFault) cause = (cause.1, cause.0, refl)

-- the same for a session of the items of an input
pub session_cause : (old new : Meaning) (before after : ℕ) (halt : Halt End) → HasEndCause old new (result_of halt) → HasHaltCause before after halt
    → HasStatusCause (counts old before) (counts new after) (Ended halt)
session_cause old new before after AtEnd cause input = counts_stay old new before after cause.0 input cause.1
session_cause old new before after Limit cause input = counts_stay old new before after cause.0 input cause.1
session_cause old new before after InputFault cause input = (input, cause.0, cause.1)
session_cause old new before after (Stopped DiskFailed) cause input = (cause.0, input, cause.1)
session_cause old new before after (Stopped OutputFault) cause input = (cause.1, cause.0, input)

pub by_halted : (P : Result (Unit {0}) End → Type 0) (result : Result (Unit {0}) End) → P result → ByResult P (halted result)
by_halted P (Ok done) is = is
by_halted P (Err end) is = is

-- If no call failed, a work comes to its end, or to the limit of its input, or memory ran out at the opening.
pub comes_to_end : (work : Work) (state : State) (bytes : List ℕ) (left before : Option (List ℕ)) (new : Meaning) (faults faults_after : Counts) (status : Status)
    → WorkEnded work state bytes left before new status → HasStatusCause faults faults_after status → NoFault faults faults_after
    → ComesToEnd work state bytes left before new status
comes_to_end work state bytes left before new faults faults_after (Ended AtEnd) ended cause none = ended
comes_to_end work state bytes left before new faults faults_after (Ended Limit) ended cause none = ended
comes_to_end work state bytes left before new faults faults_after (Ended InputFault) ended cause none = absurd (none.input cause.0)
comes_to_end work state bytes left before new faults faults_after (Ended (Stopped DiskFailed)) ended cause none = absurd (none.disk cause.0)
comes_to_end work state bytes left before new faults faults_after (Ended (Stopped OutputFault)) ended cause none = absurd (none.show cause.0)
comes_to_end work state bytes left before new faults faults_after (Opening NoMemory) ended cause none = ended
comes_to_end work state bytes left before new faults faults_after (Opening DiskFault) ended cause none = absurd (none.disk cause.0)
comes_to_end work state bytes left before new faults faults_after status ended cause none = absurd ended

-- the same if no input is too long
pub completes : (work : Work) (state : State) (bytes : List ℕ) (left before : Option (List ℕ)) (new : Meaning) (done : Type 0) (status : Status)
    → (work.ended state bytes left before new AtEnd → done) → (work.ended state bytes left before new Limit → ⊥)
    → ComesToEnd work state bytes left before new status → Completes (Told work.takes_input left bytes) done state before new status
completes work state bytes left before new done (Ended AtEnd) by no_limit ended = by ended
completes work state bytes left before new done (Ended Limit) by no_limit ended = absurd (no_limit ended)
completes work state bytes left before new done (Opening NoMemory) by no_limit ended = ended
completes work state bytes left before new done status by no_limit ended = absurd ended
