-- A session in progress: item by item, and where it stops.
use Rattle.std.proofs.Common.{◌≡◌, List, [], ◌∷◌, ◌++◌, Option, Some, None, Result, Ok, Err, MatchResult, IfOk, false, ap, sym, subst, ◌∙◌, refl, inr, arith}
use Rattle.std.specs.Io.KnownBytes.{append_known}
use Rattle.std.specs.Option.{IfSome}
use Rattle.lis_ports.specs.Meaning.{Meaning}
use Rattle.lis_ports.specs.Calls.{Rose}
use Rattle.lis_ports.proofs.Moments.{adds_none}
use Rattle.lis_ports.proofs.Always.{always_weaken}
use Rattle.lis_ports.proofs.Ending.{station_ends_then}
use Rattle.lis_reply.proofs.Showing.{append_known-append, append_known-nil}
use Rattle.lis_journal.specs.Images.{KeepsPast}
use Rattle.lis_model.specs.declared.limits.Limits.{Limits}
use Rattle.lis_model.specs.Image.{image_blocks}
use Rattle.lis_model.specs.State.{State}
use Rattle.lis_model.specs.Step.{SituationOf, OutcomeOf, replies_by, after_by}
use Rattle.lis_store.specs.Stored.{IsUsable, StoreFits, IsSound}
use Rattle.lis_session.specs.declared.end.End.{End}
use Rattle.lis_session.specs.declared.end.End.TheVariants.{DiskFault, OutputFault}
use Rattle.lis_session.specs.Session.{SituatedOf}
use Rattle.lis_session.specs.Item.{Replied, OneItem, CarriesOut, HasEndCause}
use Rattle.lis_session.specs.Parts.{Ends}
use Rattle.lis_session.specs.Served.{SessionKeeps, LastEnded, HasGone, HasDone, HasStopped, situation_at}
use Rattle.lis_session.proofs.Fitting.{same_then}
use Rattle.lis_laws.proofs.Regular.{AreRegular, limits_after, last_reply, last_situation}
use Rattle.lis_session.proofs.Moments.{moment_in, session_on}
use Rattle.lis_kept.proofs.Image.{same_blocks}

-- ---- whatever is run
cause_then : (a b c : Meaning) (result : Result (Unit {0}) End) → HasEndCause a b (Ok tt) → HasEndCause b c result → HasEndCause a c result
cause_then a b c (Ok u) first second = (second.0 ∙ first.0, second.1 ∙ first.1)
cause_then a b c (Err DiskFault) first second = (subst (λ n. Rose n c.disk_faults) first.0 second.0, second.1 ∙ first.1)
cause_then a b c (Err OutputFault) first second = (second.0 ∙ first.0, subst (λ n. Rose n c.show_faults) first.1 second.1)

pub ends_then : {a b c : Meaning} {result : Result (Unit {0}) End} → Ends a b (Ok tt) → Ends b c result → Ends a c result
ends_then {a} {b} {c} {result} first second = record {
  cause = cause_then a b c result first.cause second.cause;
  first_fault = station_ends_then a b c first.cause.0 first.cause.1 first.first_fault second.first_fault;
  same = same_then first.same second.same;
}

pub keeps_then : {P : Type 0} {start now next : SituatedOf P} {entry mid m : Meaning} {result : Result (Unit {0}) End} → SessionKeeps start entry now mid (Ok tt) → SessionKeeps now mid next m result → SessionKeeps start entry next m result
keeps_then first second = record {
  left = record { limits = second.left.limits ∙ first.left.limits; image = second.left.image ∙ first.left.image; unbroken = second.left.unbroken };
  sound = second.sound;
  ends = ends_then first.ends second.ends;
}

-- it can run the next item
pub is_usable_after : {P : Type 0} {now next : SituatedOf P} {mid m : Meaning} (result : Result (Unit {0}) End) → SessionKeeps now mid next m result → IsUsable now.store mid → IfOk result (λ _. IsUsable next.store m)
is_usable_after (Ok u) keeps usable = record { unbroken = keeps.left.unbroken (λ e. cc e); long = omega (arith, same_blocks keeps.left.image, keeps.ends.same.len, usable.long) }
is_usable_after (Err fault) keeps usable = tt

-- ---- item by item
module _ {P I : Type 0} (by : SituationOf P → I → OutcomeOf P) where
  pub past_then : AreRegular by → (start : SituationOf P) (first : List I) (old mid new : Meaning) → KeepsPast (image_blocks start.state.limits) old mid
      → KeepsPast (image_blocks (after_by by start first).state.limits) mid new → KeepsPast (image_blocks start.state.limits) old new
  past_then regular start first old mid new before after =
      let same = subst (λ (limits : Limits). KeepsPast (image_blocks limits) mid new) (limits_after by regular start first) after in
      λ n le. same n le ∙ before n le

  last_ended : (start : SituationOf P) (first : List I) (item : I) {old mid new : Meaning} {fits fits_after : State → Type 0} {place place_after : P} (result : Result (Unit {0}) End)
      → Replied (after_by by start first) old mid fits place (replies_by by start first) → OneItem (after_by by start first) (by (after_by by start first) item) mid new result fits_after place_after
      → LastEnded by start (first ++ item ∷ []) old new fits_after place_after result
  last_ended start first item {old} {new = new} {fits_after = fits_after} {place_after = place_after} (Ok u) before one =
      let said = replies_by by start first in
      let reply = (by (after_by by start first) item).reply in
      subst (λ xs. Replied (after_by by start (first ++ item ∷ [])) old new fits_after place_after xs) (sym (last_reply by start first item))
      (subst (λ (s : SituationOf P). Replied s old new fits_after place_after (said ++ reply)) (sym (last_situation by start first item)) (record {
        shown = one.ended.shown ∙ ap (λ known. append_known known reply) before.shown ∙ append_known-append old.shown said reply;
        fitting = one.ended.fitting;
        at = one.ended.at;
      }))
  last_ended start first item (Err DiskFault) before one = tt
  last_ended start first item {old} (Err OutputFault) before one =
      let said = replies_by by start first in
      let front = one.ended in
      record {
        bytes = said ++ front.0;
        shown = front.2.shown ∙ ap (λ known. append_known known front.0) before.shown ∙ append_known-append old.shown said front.0;
        moment = always_weaken _ front.2.fitting.stands (λ image stands. moment_in by start first item image front.0 (inr (front.1, stands)));
      }

  pub has_done_none : (start : SituatedOf P) (m : Meaning) → start.store.is_broken ≡ false → IsSound start.store → HasDone by start m [] start m
  has_done_none start m unbroken sound = record {
    keeps = record {
      left = record { limits = refl; image = refl; unbroken = λ _. unbroken };
      sound = sound;
      ends = record { cause = (refl, refl); first_fault = omega arith; same = record { honest = refl; len = refl; recorded = refl } };
    };
    serves = λ state fitting. record {
      moments = adds_none m _;
      past = λ n le. refl;
      ended = record { shown = sym (append_known-nil m.shown); fitting = fitting; at = refl };
    };
  }

  module _ (regular : AreRegular by) {start now : SituatedOf P} {entry mid m : Meaning} {first : List I} (next : SituatedOf P) (done : HasDone by start entry first now mid) where
    -- one more item, however it ended
    goes_on : (item : I) (result : Result (Unit {0}) End) → SessionKeeps now mid next m result
        → CarriesOut by (StoreFits now.store mid) now.place mid m result (StoreFits next.store m) next.place item → HasGone by start entry (first ++ item ∷ []) next m result
    goes_on item result keeps carries = record {
      keeps = keeps_then done.keeps keeps;
      serves = λ state fitting.
          let from = situation_at start state in
          let so_far = done.serves state fitting in
          let last = after_by by from first in
          let one = subst (λ p. OneItem (record { state = last.state; place = p }) (by (record { state = last.state; place = p }) item) mid m result (StoreFits next.store m) next.place) so_far.ended.at
          (carries last.state so_far.ended.fitting) in
          record {
            moments = session_on by from first item so_far.moments so_far.ended.shown one.moments;
            past = past_then regular from first entry mid m so_far.past one.past;
            ended = last_ended from first item result so_far.ended one;
          };
    }

    -- an item that was requested
    pub has_carried : (asked : Option I) (result : Result (Unit {0}) End) → SessionKeeps now mid next m result
        → IfSome asked (CarriesOut by (StoreFits now.store mid) now.place mid m result (StoreFits next.store m) next.place)
        → IfSome asked (λ item. MatchResult result (λ _. HasDone by start entry (first ++ item ∷ []) next m) (λ fault. HasStopped by start entry first item fault next m))
    has_carried None result keeps carries = tt
    has_carried (Some item) (Ok u) keeps carries = goes_on item (Ok u) keeps carries
    has_carried (Some item) (Err fault) keeps carries = goes_on item (Err fault) keeps carries
