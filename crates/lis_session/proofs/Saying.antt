-- Items in parts: a change or a read of the disk, with nothing shown, and pieces of the reply, one after another.
use Rattle.std.proofs.Common.{◌≡◌, ◌⊎◌, ℕ, List, [], ◌++◌, Result, Ok, Err, ap, sym, subst, ◌∙◌, refl, inl, inr}
use Rattle.std.specs.Io.KnownBytes.{append_known}
use Rattle.std.specs.Result.{IsErrAnd}
use Rattle.lis_ports.specs.Meaning.{Meaning}
use Rattle.lis_ports.specs.Runs.{Leaves}
use Rattle.lis_ports.specs.Calls.{IsUnchanged}
use Rattle.lis_ports.specs.Since.{Begins}
use Rattle.lis_ports.proofs.Moments.{adds_none, adds_then, adds_weaken}
use Rattle.lis_reply.proofs.Showing.{append_known-append, append_known-nil, begins_behind, begins_more}
use Rattle.lis_journal.specs.Record.{block}
use Rattle.lis_journal.specs.Images.{KeepsPast}
use Rattle.lis_model.specs.Image.{image_blocks}
use Rattle.lis_model.specs.State.{State}
use Rattle.lis_model.specs.Step.{SituationOf, OutcomeOf}
use Rattle.lis_store.specs.Stands.{Stands}
use Rattle.lis_store.specs.Stored.{Stored, StoreFits}
use Rattle.lis_session.specs.declared.end.End.{End}
use Rattle.lis_session.specs.declared.end.End.TheVariants.{DiskFault, OutputFault}
use Rattle.lis_session.specs.Session.{root_of}
use Rattle.lis_session.specs.Item.{InItem, FitsAt, Replied, ItemEnded, OneItem}
use Rattle.lis_session.specs.Parts.{only_shows, Answers}
use Rattle.lis_session.proofs.Fitting.{store_shown}
use Rattle.lis_session.proofs.Moments.{begins_nothing, front_begins, adds_since, adds_later}

-- a piece is shown as an item that changes nothing, at any place
abbrev pub Shows : State → List ℕ → Meaning → Meaning → Result (Unit {0}) End → (State → Type 0) → Type 0
Shows state piece old new result fits = OneItem (root_of state) (only_shows piece (root_of state)) old new result fits []

-- the blocks past an image stay if nothing is written
pub unchanged_past : {old new : Meaning} → IsUnchanged old new → (blocks : ℕ) → KeepsPast blocks old new
unchanged_past same blocks = λ n le. ap (λ xs. block n xs) same.bytes

-- a longer reply
in_more : {P : Type 0} (before : State) (next : SituationOf P) (said more image shown : List ℕ) → InItem before (record { next = next; reply = said }) image shown → InItem before (record { next = next; reply = said ++ more }) image shown
in_more before next said more image shown (inl quiet) = inl quiet
in_more before next said more image shown (inr front) = inr (begins_more shown said more front.0, front.1)

replied_then : {P : Type 0} {next : SituationOf P} {old mid new : Meaning} {fits fits_new : State → Type 0} {place : P} (said : List ℕ) {more : List ℕ} → Replied next old mid fits place said
    → Replied (root_of next.state) mid new fits_new [] more → Replied next old new fits_new place (said ++ more)
replied_then {old = old} said {more} first second = record {
  shown = second.shown ∙ ap (λ known. append_known known more) first.shown ∙ append_known-append old.shown said more;
  fitting = second.fitting;
  at = first.at;
}

module _ {P : Type 0} {before next : SituationOf P} where
  -- ---- nothing is shown
  module _ {old new : Meaning} (leaves : Leaves old new (λ image. Stands image before.state ⊎ Stands image next.state)) (past : KeepsPast (image_blocks before.state.limits) old new) where
    -- there was a disk fault
    pub quiet_broke : (reply : List ℕ) (fits : State → Type 0) (place : P) → OneItem before (record { next = next; reply = reply }) old new (Err DiskFault) fits place
    quiet_broke reply fits place = record {
      moments = adds_weaken _ leaves.adds (λ image bytes had. ([], append_known-nil old.shown ∙ had.1, by image had.0));
      past = past;
      ended = tt;
    }
      where
        by : (image : List ℕ) → Stands image before.state ⊎ Stands image next.state → InItem before.state (record { next = next; reply = reply }) image []
        by image (inl stays) = inl (refl, stays)
        by image (inr made) = inr (begins_nothing reply, made)

    -- all was done
    pub quiet_done : {fits : State → Type 0} {place : P} → FitsAt fits new next.state → place ≡ next.place → OneItem before (record { next = next; reply = [] }) old new (Ok tt) fits place
    quiet_done {fits} {place} fitting at = record {
      moments = (quiet_broke [] fits place).moments;
      past = past;
      ended = record { shown = leaves.run.shown ∙ sym (append_known-nil old.shown); fitting = fitting; at = at };
    }

  -- ---- pieces of a reply
  -- the first piece was not shown whole, and `?` passes the fault on
  pub item_front : {old new : Meaning} {fits : State → Type 0} {place : P} {said : List ℕ} {end : End} {result : Result (Unit {0}) End} (more : List ℕ)
      → OneItem before (record { next = next; reply = said }) old new (Err end) fits place → IsErrAnd result (λ e. e ≡ end) → OneItem before (record { next = next; reply = said ++ more }) old new result fits place
  item_front {result = Ok u} more first same = absurd same
  item_front {old} {new} {fits} {place} {said} {end} {result = Err e} more first same =
      rw same (record { moments = adds_since old.shown (in_more before.state next said more) first.moments; past = first.past; ended = by end first.ended })
    where
      by : (end : End) → ItemEnded (record { next = next; reply = said }) old new fits place (Err end) → ItemEnded (record { next = next; reply = said ++ more }) old new fits place (Err end)
      by DiskFault ended = tt
      by OutputFault ended = (ended.0, begins_more ended.0 said more ended.1, ended.2)

  -- it was, and then there is another one
  pub item_then : {old mid new : Meaning} {fits fits_new : State → Type 0} {place : P} {said piece : List ℕ} (result : Result (Unit {0}) End) → OneItem before (record { next = next; reply = said }) old mid (Ok tt) fits place
      → KeepsPast (image_blocks before.state.limits) mid new → Shows next.state piece mid new result fits_new → OneItem before (record { next = next; reply = said ++ piece }) old new result fits_new place
  item_then {old} {mid} {new} {fits} {fits_new} {place} {said} {piece} result first past second = record {
    moments = adds_then (adds_since old.shown (in_more before.state next said piece) first.moments) (adds_later old.shown said first.ended.shown by second.moments);
    past = λ n le. past n le ∙ first.past n le;
    ended = ends result second.ended;
  }
    where
      by : (image shown : List ℕ) → InItem next.state (only_shows piece (root_of next.state)) image shown → InItem before.state (record { next = next; reply = said ++ piece }) image (said ++ shown)
      by image shown (inl quiet) = inr (begins_behind shown said piece (subst (λ xs. Begins xs piece) (sym quiet.0) (begins_nothing piece)), quiet.1)
      by image shown (inr front) = inr (begins_behind shown said piece front.0, front.1)

      ends : (result : Result (Unit {0}) End) → ItemEnded (only_shows piece (root_of next.state)) mid new fits_new [] result → ItemEnded (record { next = next; reply = said ++ piece }) old new fits_new place result
      ends (Ok u) ended = replied_then said first.ended ended
      ends (Err DiskFault) ended = tt
      ends (Err OutputFault) ended = (said ++ ended.0, begins_behind ended.0 said piece ended.1, replied_then said first.ended ended.2)

-- nothing was done yet
pub item_none : {P : Type 0} {m : Meaning} {fits : State → Type 0} (now : SituationOf P) → FitsAt fits m now.state → OneItem now (only_shows [] now) m m (Ok tt) fits now.place
item_none {m = m} now fitting = record { moments = adds_none m _; past = λ n le. refl; ended = record { shown = sym (append_known-nil m.shown); fitting = fitting; at = refl } }

-- a whole reply is shown, and the state stays
pub shows_item : {P : Type 0} {k : Stored} {old new : Meaning} {now : SituationOf P} {reply : List ℕ} {result : Result (Unit {0}) End} (outcome : OutcomeOf P) (place : P)
    → FitsAt (StoreFits k old) old now.state → Answers old new reply result → outcome ≡ record { next = record { state = now.state; place = place }; reply = reply }
    → OneItem now outcome old new result (StoreFits k new) place
shows_item {P} {k} {old} {new} {now} {reply} {result} outcome place fitting answers is = subst (λ (o : OutcomeOf P). OneItem now o old new result (StoreFits k new) place) (sym is) (record {
  moments = adds_since old.shown (λ image shown front. inr (front.1, fitting.stands.leaves image front.0)) (answers.run.moments fitting.honest);
  past = unchanged_past (answers.run.call.same fitting.honest) (image_blocks now.state.limits);
  ended = by result answers;
})
  where
    shows : OutcomeOf P
    shows = record { next = record { state = now.state; place = place }; reply = reply }

    by : (result : Result (Unit {0}) End) → Answers old new reply result → ItemEnded shows old new (StoreFits k new) place result
    by (Ok u) answers = record { shown = answers.run.shown; fitting = store_shown fitting answers.run.call; at = refl }
    by (Err DiskFault) answers = absurd (let no : ◌≡◌ {A = End} DiskFault OutputFault = answers.fault in cc)
    by (Err OutputFault) answers =
        let front = front_begins old.shown new.shown reply answers.run.shown in
        (front.0, front.1, record { shown = front.2; fitting = store_shown fitting answers.run.call; at = refl })

-- and so are bytes alone
pub shows_bytes : {k : Stored} {old new : Meaning} {state : State} {piece : List ℕ} {result : Result (Unit {0}) End} → FitsAt (StoreFits k old) old state → Answers old new piece result → Shows state piece old new result (StoreFits k new)
shows_bytes {state = state} {piece} fitting answers = shows_item (only_shows piece (root_of state)) [] fitting answers refl

-- one more piece is shown
pub item_shows : {P : Type 0} {k : Stored} {before next : SituationOf P} {old mid new : Meaning} {place : P} {said piece : List ℕ} (result : Result (Unit {0}) End)
    → OneItem before (record { next = next; reply = said }) old mid (Ok tt) (StoreFits k mid) place → Answers mid new piece result
    → OneItem before (record { next = next; reply = said ++ piece }) old new result (StoreFits k new) place
item_shows {before = before} result first answers =
    item_then result first (unchanged_past (answers.run.call.same first.ended.fitting.honest) (image_blocks before.state.limits)) (shows_bytes first.ended.fitting answers)
