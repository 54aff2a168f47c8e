-- What is kept if opening refused the image.
use Rattle.std.proofs.Common.{◌≡◌, ◌⊎◌, ℕ, ◌<◌, List, length, Option, Result, Err, IsTrue, false, refl, ap, ap₂, inl, arith}
use Rattle.lis_ports.specs.Meaning.{Meaning}
use Rattle.lis_ports.specs.Runs.{IsDiskRun, Leaves, Adds}
use Rattle.lis_ports.proofs.Moments.{adds_weaken}
use Rattle.lis_journal.specs.Images.{KeepsPast}
use Rattle.lis_journal.specs.Record.{has_open}
use Rattle.lis_journal.specs.Recovery.{IsSettledPast}
use Rattle.lis_model.specs.declared.limits.Limits.{Limits}
use Rattle.lis_model.specs.declared.spot.Spot.{Spot}
use Rattle.lis_model.specs.Image.{image_blocks}
use Rattle.lis_model.specs.State.{State}
use Rattle.lis_store.specs.Stands.{Stands}
use Rattle.lis_store.specs.Stored.{Stored}
use Rattle.lis_open.specs.declared.mounting.OpenFault.{OpenFault}
use Rattle.lis_open.specs.declared.mounting.OpenFault.TheVariants.{TooShort, Damaged, DiskFault, NoMemory}
use Rattle.lis_open.specs.Opens.{HasOpenCause, HasSuper, IsNeeded, OpenEnded, FaultLeft, OpenLeft, InOpening, WasLeft, OpenUnwritten}
use Rattle.lis_open.specs.Checks.{FailsFirst}
use Rattle.lis_open.proofs.Needs.{needs_no_more, has_super}
use Rattle.lis_session.specs.Session.{OpenedMoment}
use Rattle.lis_session.proofs.Whole.{opening_moments}
use Rattle.lis_shell.specs.declared.status.Status.TheVariants.{Opening}
use Rattle.lis_shell.specs.Causes.{counts, HasStatusCause, IsDiskFault}
use Rattle.lis_shell.specs.Image.{Work, Told, Refused, writes_nothing, NotBegun, OnlyOpened, NothingWritten, ImageKeeps}

-- What opening an image guarantees for each result, and an upgrade of an image. `unmoved` says that the disk is as it was.
pub record IsOpening {T : Type 0} (old new : Meaning) (unmoved : Type 0) (result : Result T OpenFault) : Type 0 where
  pub reads_len : IsTrue old.is_honest → length old.bytes ≡ old.len
  pub run : IsDiskRun old new
  pub spot : (spot : Spot) → result ≡ Err (Damaged spot) → IsTrue old.is_honest → FailsFirst old.bytes spot
  pub numbers : (len need : ℕ) → result ≡ Err (TooShort len need) → (len ≡ old.len) × (len < need)
  pub small : old.len < 4096 → (result ≡ Err (TooShort old.len 4096)) × unmoved
  pub moments : IsTrue old.is_honest → ((state : State) → Stands old.bytes state → ⊥) → Leaves old new (InOpening old)
  pub past : (limits : Limits) → IsTrue old.is_honest → HasSuper limits old.bytes
      → (result ≡ Err DiskFault → IsSettledPast (image_blocks limits) old) → KeepsPast (image_blocks limits) old new

-- an image that represents a state is not too short
not_short : (m : Meaning) (state : State) (len need : ℕ) → length m.bytes ≡ m.len → Stands m.bytes state → len ≡ m.len → len < need → IsNeeded m.bytes need → ⊥
not_short m state len need reads stands is less needed = omega (arith, reads, is, less, needs_no_more m.bytes state need stands needed)

one_fault : {T : Type 0} (a b : OpenFault) → ◌≡◌ {A = Result T OpenFault} (Err a) (Err b) → a ≡ b
one_fault a b is = cc

one_opening : (a b : OpenFault) → Opening a ≡ Opening b → a ≡ b
one_opening a b is = cc

left_short : (old new : Meaning) (fault : OpenFault) (len need : ℕ) → fault ≡ TooShort len need → OpenLeft old new (Err fault) → OpenLeft old new (Err (TooShort len need))
left_short old new fault len need is left = rw is at left

disk_fault : {T : Type 0} (fault : OpenFault) → ◌≡◌ {A = Result T OpenFault} (Err fault) (Err DiskFault) → IsDiskFault (Opening fault)
disk_fault DiskFault is = refl
disk_fault fault is = absurd (cc)

-- ---- what opening leaves, by its moments
-- at each of them no work was begun
pub not_begun : {old new : Meaning} (state : State) → Leaves old new (λ image. old.images image ⊎ Stands image state) → Adds old new (OpenedMoment old (NotBegun state))
not_begun state moments = opening_moments (NotBegun state) (λ image stood. (refl, stood)) moments

-- and if no gate is open, each of them is one that a crash could have left before
pub opening_stays : {old new : Meaning} {result : Result Stored OpenFault} → OpenUnwritten old new result → Adds old new (λ image bytes. WasLeft old image)
opening_stays {old} opening = adds_weaken (λ image bytes. WasLeft old image) opening.moments.adds (λ image bytes had. inl had.0)

pub refused_unwritten : {old new : Meaning} (fault : OpenFault) → OpenUnwritten old new (Err fault) → NothingWritten old new (Opening fault)
refused_unwritten fault opening = record { left = λ worked. opening.left (λ is. worked (ap Opening (one_fault fault DiskFault is))); moments = opening_stays opening }

-- what is left of a refused image
refused_opened : (old new : Meaning) (fault : OpenFault) → FaultLeft old new fault → OnlyOpened old new (Opening fault)
refused_opened old new NoMemory left = inl left
refused_opened old new (TooShort len need) left = left
refused_opened old new (Damaged spot) left = left
refused_opened old new DiskFault left = left

module _ {T : Type 0} {old new : Meaning} {unmoved : Type 0} (fault : OpenFault) (opening : IsOpening {T = T} old new unmoved (Err fault))
    (ended : IsTrue old.is_honest → OpenEnded old new (Err fault)) (left : IsTrue old.is_honest → OpenLeft old new (Err fault)) where
  -- An image that represents a state is refused only if memory runs out or the disk fails.
  refused : (told : Type 0) → told → (state : State) → IsTrue old.is_honest → Stands old.bytes state → (fault_is : OpenFault) → fault_is ≡ fault → OpenEnded old new (Err fault_is) → Refused told state old.shown new fault_is
  refused told is_told state honest stands (TooShort len need) is at = absurd (not_short old state len need (opening.reads_len honest) stands at.0 at.1 at.2)
  refused told is_told state honest stands (Damaged spot) is at = absurd (at.1 state stands)
  refused told is_told state honest stands DiskFault is at = (opening.run.shown, is_told)
  refused told is_told state honest stands NoMemory is at = (opening.run.shown, is_told, at.2 state stands)

  pub word_refused : {untouched : Type 0} {input : Option (List ℕ)} (work : Work)
      → ((state : State) (bytes : List ℕ) → IsTrue old.is_honest → Stands old.bytes state → Adds old new (OpenedMoment old (work.moment state bytes)))
      → ((state : State) → IsTrue (work.undone (Opening fault)) → IsTrue old.is_honest → Stands old.bytes state → Adds old new (OpenedMoment old (NotBegun state)))
      → (IsTrue (writes_nothing work (Opening fault)) → IsTrue old.is_honest → has_open old.bytes ≡ false → NothingWritten old new (Opening fault))
      → untouched → ImageKeeps work untouched unmoved input input old new (Opening fault)
  word_refused {untouched} {input} work moments undone unwritten still = record {
    only = tt;
    runs = λ state bytes entry. record {
      moments = moments state bytes entry.honest entry.stands;
      ended = refused (Told work.takes_input input bytes) entry.told state entry.honest entry.stands fault refl (ended entry.honest);
    };
    undone = λ state bytes entry is. undone state is entry.honest entry.stands;
    opened = λ nothing honest. refused_opened old new fault (left honest);
    unwritten = unwritten;
    past = λ state bytes entry settled. opening.past state.limits entry.honest (has_super old.bytes state entry.stands) (λ is. settled (disk_fault fault is));
    judged = ended;
    spot = λ spot is. opening.spot spot (ap Err (one_opening fault (Damaged spot) is));
    idle = λ said is. (still, opening.run.shown);
    input = λ bytes told. tt;
    measured = record {
      small = λ less. let at = opening.small less in (ap Opening (one_fault fault (TooShort old.len 4096) at.0), (still, at.1));
      numbers = λ len need is. opening.numbers len need (ap Err (one_opening fault (TooShort len need) is));
      same = λ len need is honest. left_short old new fault len need (one_opening fault (TooShort len need) is) (left honest);
    };
    barred = λ honest none. record {
      fault = fault;
      is = refl;
      left = left honest;
      moments = opening.moments honest none;
      past = λ limits super settled. opening.past limits honest super (λ is. settled (disk_fault fault is));
    };
  }

-- ---- counts of faults
pub same_counts : {old new : Meaning} (input : ℕ) → new.disk_faults ≡ old.disk_faults → IsDiskRun old new → counts new input ≡ counts old input
same_counts input disk run = ap₂ (λ (faults show : ℕ). record { disk = faults; input = input; show = show }) disk run.show_faults

pub refused_cause : {old new : Meaning} (T : Type 0) (fault : OpenFault) (input : ℕ) → HasOpenCause {T = T} old.disk_faults new.disk_faults (Err fault) → IsDiskRun old new
    → HasStatusCause (counts old input) (counts new input) (Opening fault)
refused_cause T DiskFault input cause run = (cause, refl, run.show_faults)
refused_cause T (TooShort len need) input cause run = same_counts input cause run
refused_cause T (Damaged spot) input cause run = same_counts input cause run
refused_cause T NoMemory input cause run = same_counts input cause run
