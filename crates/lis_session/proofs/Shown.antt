-- Texts that are shown one after another.
use Rattle.std.proofs.Common.{◌≡◌, ℕ, List, [], ◌++◌, Result, Ok, Err, refl, subst, ◌∙◌, arith}
use Rattle.lis_ports.specs.Meaning.{Meaning}
use Rattle.lis_model.specs.State.{State}
use Rattle.lis_store.specs.Stored.{Stored, StoreFits}
use Rattle.lis_session.specs.declared.end.End.{End}
use Rattle.lis_session.specs.declared.end.End.TheVariants.{DiskFault, OutputFault}
use Rattle.lis_session.specs.Session.{root_of}
use Rattle.lis_session.specs.Item.{FitsAt, OneItem, HasEndCause}
use Rattle.lis_session.specs.Parts.{only_shows, Ends, Answers}
use Rattle.lis_session.proofs.DiskKept.{stays_none, stays_then, shows_stay}
use Rattle.lis_session.proofs.Going.{ends_then}
use Rattle.lis_session.proofs.Saying.{item_none, item_front, item_then, shows_item}
use Rattle.lis_session.specs.Showing.{Shows}

-- ---- ends
ends_none : (m : Meaning) → Ends m m (Ok tt)
ends_none m = record { cause = (refl, refl); first_fault = omega arith; same = record { honest = refl; len = refl; recorded = refl } }

pub answers_end : {old new : Meaning} {bytes : List ℕ} (result : Result (Unit {0}) End) → Answers old new bytes result → Ends old new result
answers_end {old} {new} {bytes} result answers = record { cause = by result answers; first_fault = answers.run.ends; same = let call = answers.run.call in record { honest = call.honest; len = call.len; recorded = call.recorded } }
  where
    by : (result : Result (Unit {0}) End) → Answers old new bytes result → HasEndCause old new result
    by (Ok u) answers = (answers.run.call.disk_faults, answers.run.cause.stays)
    by (Err DiskFault) answers = absurd (let no : ◌≡◌ {A = End} DiskFault OutputFault = answers.fault in cc)
    by (Err OutputFault) answers = (answers.run.call.disk_faults, answers.run.cause.rose)

-- ---- one text
abbrev pub both : (State → List ℕ) → (State → List ℕ) → State → List ℕ
both first more state = first state ++ more state

module _ {k : Stored} where
  -- bytes that are shown without a disk read
  pub as_shown : {old new : Meaning} {bytes : List ℕ} {result : Result (Unit {0}) End} → Answers old new bytes result → Shows k (λ state. bytes) old new result
  as_shown {bytes = bytes} {result = result} answers = record {
    shows = λ state fitting. shows_item (only_shows bytes (root_of state)) [] fitting answers refl;
    ends = answers_end result answers;
    disk = shows_stay answers.run;
  }

  -- another text, the same for the states that fit
  pub shown_same : {text : State → List ℕ} {old new : Meaning} {result : Result (Unit {0}) End} (other : State → List ℕ) → ((state : State) → FitsAt (StoreFits k old) old state → text state ≡ other state)
      → Shows k text old new result → Shows k other old new result
  shown_same {old = old} {new = new} {result = result} other same shows = record {
    shows = λ state fitting. subst (λ bytes. OneItem (root_of state) (only_shows bytes (root_of state)) old new result (StoreFits k new) []) (same state fitting) (shows.shows state fitting);
    ends = shows.ends;
    disk = shows.disk;
  }

  pub shown_none : (m : Meaning) → Shows k (λ state. []) m m (Ok tt)
  shown_none m = record { shows = λ state fitting. item_none (root_of state) fitting; ends = ends_none m; disk = λ honest. stays_none m }

  -- ---- two texts
  module _ {a b : Meaning} (first more : State → List ℕ) where
    pub shown_then : {c : Meaning} (u : Unit {0}) (result : Result (Unit {0}) End) → Shows k first a b (Ok u) → Shows k more b c result → Shows k (both first more) a c result
    shown_then u result one two = record {
      shows = λ state fitting.
          let shown = one.shows state fitting in
          let then_shown = two.shows state shown.ended.fitting in
          item_then result shown then_shown.past then_shown;
      ends = ends_then one.ends two.ends;
      disk = λ honest. stays_then two.ends.same.recorded (one.disk honest) (two.disk (one.ends.same.honest ∙ honest));
    }

    -- the first of them was not shown whole
    pub shown_front : (end : End) → Shows k first a b (Err end) → Shows k (both first more) a b (Err end)
    shown_front end one = record { shows = λ state fitting. item_front (more state) (one.shows state fitting) refl; ends = one.ends; disk = one.disk }
