-- Items that are run with nothing shown: in progress, and their sum.
use Rattle.std.proofs.Common.{◌≡◌, ℕ, ◌+◌, ◌≤◌, Bool, cond, true, false, List, [], ◌∷◌, ◌++◌, length, Option, Some, None, Result, Ok, Err, refl, ap, sym, subst, ◌∙◌, arith, inl, inr, length-append}
use Rattle.std.specs.Option.{IfSome}
use Rattle.lis_ports.specs.Meaning.{Meaning}
use Rattle.lis_ports.specs.Runs.{IsDiskRun, Leaves}
use Rattle.lis_ports.specs.Calls.{UsesDisk}
use Rattle.lis_ports.specs.declared.disk.Failed.{Failed}
use Rattle.lis_ports.proofs.Ending.{uses_none, uses_then, uses_as, fails_as}
use Rattle.lis_ports.proofs.Moments.{leaves_none, leaves_weaken, leaves_then}
use Rattle.lis_grammar.specs.Formula.{Formula}
use Rattle.lis_model.specs.Step.{Situation, Item, step, situation_after}
use Rattle.lis_model.specs.State.{State}
use Rattle.lis_model.specs.Script.{all_items, script, session_cut}
use Rattle.lis_line.specs.Endings.{AllTaken, LimitTaken, IsFront, Went}
use Rattle.lis_line.proofs.Given.{script_short}
use Rattle.lis_store.specs.Stands.{Stands}
use Rattle.lis_store.specs.Stored.{Stored, IsSound, StoreFits}
use Rattle.lis_session.specs.declared.tally.Tally.{Tally}
use Rattle.lis_session.specs.Item.{FitsAt}
use Rattle.lis_session.specs.Served.{situation_at}
use Rattle.lis_session.specs.Session.{Situated}
use Rattle.lis_session.specs.Tally.{is_refusal, listed, Tallied, TalliesItem}
use Rattle.lis_laws.proofs.Regular.{step_regular, last_situation}
use Rattle.lis_session.proofs.Moments.{state_front, state_whole}
use Rattle.lis_session.proofs.Going.{past_then}
use Rattle.lis_session.proofs.Tallying.{tallied_leaves}
use Rattle.lis_grow.specs.declared.summary.Sum.{Sum}
use Rattle.lis_grow.specs.Session.{refusals, listings, StandsAmong, Summed}
use Rattle.lis_grow.specs.Summing.{Sums, SumsInto}
use Rattle.lis_journal.specs.Journal.{shape_of}

-- ---- one more item
abbrev refusal_count : Situation → Item → ℕ
refusal_count now item = cond (is_refusal (step now item).reply) 1 0

refusals_more : (start : Situation) (first : List Item) (item : Item) → refusals start (first ++ item ∷ []) ≡ refusals start first + refusal_count (situation_after start first) item
refusals_more start [] item = omega arith
refusals_more start (x ∷ first) item = omega (arith, refusals_more (step start x).next first item)

listings_more : (start : Situation) (first : List Item) (item : Item) → listings start (first ++ item ∷ []) ≡ listings start first + listed (situation_after start first) item
listings_more start [] item = omega arith
listings_more start (x ∷ first) item = omega (arith, listings_more (step start x).next first item)

-- ---- images
stands_all : (start : Situation) (items : List Item) (image : List ℕ) → Stands image (situation_after start items).state → StandsAmong start items image
stands_all start items image stands = record {
  count = length items;
  within = omega arith;
  stands = subst (λ s. Stands image s) (sym (state_whole step start items)) stands;
}

stands_more : (start : Situation) (first others : List Item) (image : List ℕ) → StandsAmong start first image → StandsAmong start (first ++ others) image
stands_more start first others image m = record {
  count = m.count;
  within = omega (arith, m.within, length-append first others);
  stands = subst (λ s. Stands image s) (sym (state_front step start first others m.count m.within)) m.stands;
}

-- ---- from one state
-- what is added to a sum
pub record AddsTo (tally : Tally) (old new : Sum) : Type 0 where
  pub replies : new.replies ≡ old.replies + 1
  pub refused : new.refused ≡ old.refused + cond tally.refused 1 0
  pub listed : new.listed ≡ old.listed + tally.listed

module _ (start : Situation) (first : List Item) (item : Item) (old mid new : Meaning) (fits fits_after : State → Type 0) (place : List Formula) where
  abbrev last : Situation
  last = situation_after start first

  abbrev Next : Result Tally Failed → Type 0
  Next result = Tallied last (step last item) (listed last item) mid new result fits_after place

  more_moments : (result : Result Tally Failed) → Leaves old mid (StandsAmong start first) → IsDiskRun mid new → Next result → Leaves old new (StandsAmong start (first ++ item ∷ []))
  more_moments result before run one =
      leaves_then (leaves_weaken _ before (stands_more start first (item ∷ [])))
      (leaves_weaken _ (tallied_leaves run one) (λ image stands.
      elim stands as (λ _. StandsAmong start (first ++ item ∷ []) image) [
        | inl same ↦ stands_more start first (item ∷ []) image (stands_all start first image same)
        | inr next ↦ stands_all start (first ++ item ∷ []) image (subst (λ (s : Situation). Stands image s.state) (sym (last_situation step start first item)) next)
      ]))

  module _ (sum : Sum) (done : Summed start first old mid (Ok sum) fits) where
    summed_into : (failed : Failed) → IsDiskRun mid new → Next (Err failed) → Summed start (first ++ item ∷ []) old new (Err failed) fits_after
    summed_into failed run one = record {
      moments = more_moments (Err failed) done.moments run one;
      past = past_then step step_regular start first old mid new done.past one.made.past;
      ended = tt;
    }

    summed_more : (tally : Tally) (after : Sum) → IsDiskRun mid new → Next (Ok tally) → AddsTo tally sum after → Summed start (first ++ item ∷ []) old new (Ok after) fits_after
    summed_more tally after run one adds = record {
      moments = more_moments (Ok tally) done.moments run one;
      past = past_then step step_regular start first old mid new done.past one.made.past;
      ended = record {
        fitting = subst (λ (s : Situation). FitsAt fits_after new s.state) (sym (last_situation step start first item)) one.made.ended.fitting;
        replies = omega (arith, adds.replies, done.ended.replies, length-append first (item ∷ []));
        refused = adds.refused ∙ (ap (λ n. n + cond tally.refused 1 0) done.ended.refused ∙ (ap (λ (tally : Tally). refusals start first + cond tally.refused 1 0) one.tally ∙ sym (refusals_more start first item)));
        listed = adds.listed ∙ (ap (λ n. n + tally.listed) done.ended.listed ∙ (ap (λ (tally : Tally). listings start first + tally.listed) one.tally ∙ sym (listings_more start first item)));
      };
    }

-- ---- from any state that fitted at the start
pub sums_none : (start : Situated) (m : Meaning) (sum : Sum) → start.store.is_broken ≡ false → IsSound start.store → sum ≡ record { replies = 0; refused = 0; listed = 0 } → Sums start m [] start sum m
sums_none start m sum unbroken sound none = record {
  limits = refl;
  image = refl;
  unbroken = unbroken;
  sound = sound;
  disk = uses_none m sum;
  at = λ state fitting. refl;
  summed = λ state fitting. record {
    moments = leaves_none m _;
    past = λ n le. refl;
    ended = record {
      fitting = fitting;
      replies = ap (λ (s : Sum). s.replies) none;
      refused = ap (λ (s : Sum). s.refused) none;
      listed = ap (λ (s : Sum). s.listed) none;
    };
  };
}

-- what a call of the session keeps, and what it does to the disk
pub record Called {T : Type 0} (now next : Situated) (mid m : Meaning) (result : Result T Failed) : Type 0 where
  pub limits : next.store.metadata.limits ≡ now.store.metadata.limits
  pub image : shape_of next.store.journal ≡ shape_of now.store.journal
  pub sound : IsSound next.store
  pub disk : UsesDisk mid m result

module _ {start now next : Situated} {entry mid m : Meaning} {first : List Item} {sum : Sum} {Same : Type 0} (done : Sums start entry first now sum mid) (same : Same) where
  -- the item at the place to which the first ones led
  next_here : (item : Item) (result : Result Tally Failed) (state : State) → FitsAt (StoreFits start.store entry) entry state
      → TalliesItem (StoreFits now.store mid) now.place mid m result (StoreFits next.store m) next.place item
      → Next (situation_at start state) first item entry mid m (StoreFits now.store mid) (StoreFits next.store m) next.place result
  next_here item result state fitting tallies =
      let last : Situation = situation_after (situation_at start state) first in
      subst (λ p. Tallied (record { state = last.state; place = p }) (step (record { state = last.state; place = p }) item) (listed (record { state = last.state; place = p }) item) mid m result (StoreFits next.store m) next.place)
      (done.at state fitting) (tallies last.state (done.summed state fitting).ended.fitting)

  -- it was run
  pub sums_more : (asked : Option Item) (tally : Tally) (after : Sum) → Called {T = Tally} now next mid m (Ok tally) → next.store.is_broken ≡ false
      → IfSome asked (TalliesItem (StoreFits now.store mid) now.place mid m (Ok tally) (StoreFits next.store m) next.place) → AddsTo tally sum after
      → IfSome asked (λ item. Sums start entry (first ++ item ∷ []) next after m × Same)
  sums_more None tally after called unbroken tallies adds = tt
  sums_more (Some item) tally after called unbroken tallies adds = (
    record {
      limits = called.limits ∙ done.limits;
      image = called.image ∙ done.image;
      unbroken = unbroken;
      sound = called.sound;
      disk = uses_as after (uses_then done.disk called.disk);
      at = λ state fitting.
          (next_here item (Ok tally) state fitting tallies).made.ended.at ∙ ap (λ (s : Situation). s.place) (sym (last_situation step (situation_at start state) first item));
      summed = λ state fitting.
          summed_more (situation_at start state) first item entry mid m (StoreFits now.store mid) (StoreFits next.store m) next.place sum (done.summed state fitting) tally after called.disk.run
          (next_here item (Ok tally) state fitting tallies) adds;
    },
    same,
  )

  -- a disk call failed in it
  pub sums_into : (asked : Option Item) (failed : Failed) → Called {T = Tally} now next mid m (Err failed)
      → IfSome asked (TalliesItem (StoreFits now.store mid) now.place mid m (Err failed) (StoreFits next.store m) next.place)
      → IfSome asked (λ item. SumsInto start entry first item next m × Same)
  sums_into None failed called tallies = tt
  sums_into (Some item) failed called tallies = (
    record {
      limits = called.limits ∙ done.limits;
      image = called.image ∙ done.image;
      unbroken = tt;
      sound = called.sound;
      disk = fails_as failed (uses_then done.disk called.disk);
      at = λ state fitting. tt;
      summed = λ state fitting.
          summed_into (situation_at start state) first item entry mid m (StoreFits now.store mid) (StoreFits next.store m) next.place sum (done.summed state fitting) failed called.disk.run
          (next_here item (Err failed) state fitting tallies);
    },
    same,
  )

pub one_at_most : (t : Bool) → cond t 1 0 ≤ 1
one_at_most true = omega arith
one_at_most false = omega arith

-- ---- how it ends
-- the input is short, so its items are all that are whole within its limit
pub never_past : {limit : ℕ} {told : List ℕ} {carried : List Item → Type 0} → length told ≤ limit → Went (Some told) carried (λ known first. LimitTaken session_cut limit known first) → ⊥
never_past {told = told} short went = omega (arith, short, (went.read told refl).long)

pub summed_all : {start now : Situated} {entry m : Meaning} {sum : Sum} {left : Option (List ℕ)} {Same : Type 0} {limit : ℕ} {told : List ℕ} {kept : Stored} (input : List ℕ) (state : State) → told ≡ input → length input ≤ limit
    → Went (Some told) (λ first. Sums start entry first now sum m × Same) (λ known first. AllTaken session_cut limit known left first)
    → now.store ≡ kept → FitsAt (StoreFits start.store entry) entry state → Summed (situation_at start state) (all_items input) entry m (Ok sum) (StoreFits kept m)
summed_all {start = start} {now = now} {entry = entry} {m = m} {sum = sum} {limit = limit} input state is short went same fitting =
    subst (λ (k : Stored). Summed (situation_at start state) (all_items input) entry m (Ok sum) (StoreFits k m)) same
    (subst (λ items. Summed (situation_at start state) items entry m (Ok sum) (StoreFits now.store m)) (sym (went.read input (ap Some is)).is ∙ script_short session_cut input limit short)
    (went.done.0.summed state fitting))

pub summed_front : {start now : Situated} {entry m : Meaning} {Same : Type 0} {limit : ℕ} {told : List ℕ} {kept : Stored} (input : List ℕ) (item : Item) (failed : Failed) (state : State) → told ≡ input → length input ≤ limit
    → Went (Some told) (λ first. SumsInto start entry first item now m × Same) (λ known first. IsFront (script known limit) (first ++ item ∷ []))
    → now.store ≡ kept → FitsAt (StoreFits start.store entry) entry state → Summed (situation_at start state) (all_items input) entry m (Err failed) (StoreFits kept m)
summed_front {start = start} {entry = entry} {m = m} {limit = limit} input item failed state is short went same fitting =
    let first : List Item = went.first ++ item ∷ [] in
    let front = went.read input (ap Some is) in
    let summed = went.done.0.summed state fitting in
    let all : all_items input ≡ first ++ front.0 = sym (script_short session_cut input limit short) ∙ front.1 in
    record {
      moments = leaves_weaken _ summed.moments (λ image stands.
          subst (λ items. StandsAmong (situation_at start state) items image) (sym all) (stands_more (situation_at start state) first front.0 image stands));
      past = summed.past;
      ended = tt;
    }
