-- What a loader does next, stated since a start: a commit, and showing what waited for it.
use Rattle.std.proofs.Common.{◌≡◌, ◌⊎◌, ℕ, ◌+◌, ◌≤◌, List, [], ◌∷◌, ◌++◌, length, take, Option, Some, None, Result, Ok, Err, IfOk, MatchResult, is_err, true, false, refl, ap, sym, subst, ◌∙◌, inl, inr, arith, append-nil}
use Rattle.std.specs.Io.KnownBytes.{append_known}
use Rattle.std.specs.List.{flat_map}
use Rattle.std.specs.Option.{IfSome}
use Rattle.lis_ports.specs.Meaning.{Meaning}
use Rattle.lis_ports.specs.Runs.{Adds, Leaves}
use Rattle.lis_ports.specs.Since.{Since}
use Rattle.lis_ports.proofs.Always.{always_weaken}
use Rattle.lis_ports.proofs.Moments.{adds_then, adds_weaken}
use Rattle.lis_reply.proofs.Showing.{append_known-append}
use Rattle.lis_journal.specs.Images.{KeepsPast}
use Rattle.lis_laws.proofs.Regular.{step_regular, limits_after}
use Rattle.lis_model.specs.declared.limits.Limits.{Limits}
use Rattle.lis_model.specs.Image.{image_blocks}
use Rattle.lis_model.specs.State.{State}
use Rattle.lis_model.specs.Step.{Situation, Item, step, replies_by, after_by}
use Rattle.lis_store.specs.Changes.{Commits, CommitLeft}
use Rattle.lis_store.specs.declared.change_fault.ChangeFault.{ChangeFault}
use Rattle.lis_store.specs.declared.change_fault.ChangeFault.TheVariants.{Refused, Disk}
use Rattle.lis_store.specs.Stands.{Stands}
use Rattle.lis_store.specs.Stored.{IsSound, StoreFits, StoreHolds}
use Rattle.lis_session.specs.declared.end.End.{End}
use Rattle.lis_session.specs.declared.end.End.TheVariants.{DiskFault, OutputFault}
use Rattle.lis_session.specs.Item.{FitsAt}
use Rattle.lis_session.specs.Parts.{Answers, kept_up}
use Rattle.lis_session.specs.Served.{SessionKeeps, situation_at}
use Rattle.lis_session.specs.Session.{out, state_after}
use Rattle.lis_session.proofs.Fitting.{store_shown, store_fits_at}
use Rattle.lis_session.proofs.Going.{keeps_then}
use Rattle.lis_session.proofs.Moments.{adds_since, adds_later, front_begins, state_whole}
use Rattle.lis_session.proofs.Shown.{answers_end}
use Rattle.lis_session.proofs.Saying.{unchanged_past}
use Rattle.lis_load.specs.declared.loader.Loader.{Loader}
use Rattle.lis_load.specs.Load.{lag, LoadMoment}
use Rattle.lis_load.specs.Loading.{answer, Waits, LoadEnded, HasLoaded}
use Rattle.lis_store.proofs.Holding.{fits_held}
use Rattle.lis_load.proofs.Moments.{out_whole, load_at, load_between, load_more, load_stopped_more}

-- What is done next: its moments, stated since the start, that the blocks past the image stay, and how it ended.
pub record Next (start : Situation) (items : List Item) (before : Option (List ℕ)) (old new : Meaning) (end : Type 0) : Type 0 where
  pub moments : Adds old new (Since before (LoadMoment start items))
  pub past : KeepsPast (image_blocks start.state.limits) old new
  pub ended : end

pub next_then : {start : Situation} {items : List Item} {before : Option (List ℕ)} {a b c : Meaning} {middle end : Type 0} → Next start items before a b middle → Next start items before b c end → Next start items before a c end
next_then first second = record { moments = adds_then first.moments second.moments; past = λ n le. second.past n le ∙ first.past n le; ended = second.ended }

-- after what was done
pub loaded_then : {start now next : Loader} {entry mid m : Meaning} {first items : List Item} {result : Result (Unit {0}) End}
    → ((from : Situation) (image shown : List ℕ) → LoadMoment from first image shown → LoadMoment from items image shown)
    → HasLoaded start entry first now mid (Ok tt) → SessionKeeps now.session mid next.session m result
    → ((from : Situation) → Waits from first entry.shown now mid → Next from items entry.shown mid m (LoadEnded from items entry.shown next m result))
    → HasLoaded start entry items next m result
loaded_then {start} {entry = entry} more done keeps one = record {
  keeps = keeps_then done.keeps keeps;
  serves = λ state fitting.
      let so_far = done.serves state fitting in
      let from = situation_at start.session state in
      let then_one = one from so_far.ended in
      record {
        moments = adds_then (adds_since entry.shown (more from) so_far.moments) then_one.moments;
        past = λ n le. then_one.past n le ∙ so_far.past n le;
        ended = then_one.ended;
      };
}

-- the same, by whether there was a fault
pub matched : {start now : Loader} {entry m : Meaning} {items : List Item} (result : Result (Unit {0}) End)
    → MatchResult result (λ _. HasLoaded start entry items now m (Ok tt)) (λ fault. HasLoaded start entry items now m (Err fault)) → HasLoaded start entry items now m result
matched (Ok u) loaded = loaded
matched (Err fault) loaded = loaded

pub matches : {start now : Loader} {entry m : Meaning} {items : List Item} (result : Result (Unit {0}) End) → HasLoaded start entry items now m result
    → MatchResult result (λ _. HasLoaded start entry items now m (Ok tt)) (λ fault. HasLoaded start entry items now m (Err fault))
matches (Ok u) loaded = loaded
matches (Err fault) loaded = loaded

-- a fault before an item that was requested
pub stopped_before : {start now : Loader} {entry m : Meaning} {first : List Item} {fault : End} (asked : Option Item) → HasLoaded start entry first now m (Err fault)
    → IfSome asked (λ item. HasLoaded start entry (first ++ item ∷ []) now m (Err fault))
stopped_before None stopped = tt
stopped_before {start} {entry = entry} {m} {first} {fault} (Some item) stopped = record {
  keeps = stopped.keeps;
  serves = λ state fitting.
      let so_far = stopped.serves state fitting in
      let from = situation_at start.session state in
      record {
        moments = adds_since entry.shown (load_more from first (item ∷ [])) so_far.moments;
        past = so_far.past;
        ended = load_stopped_more from first (item ∷ []) entry.shown m fault so_far.ended;
      };
}

-- Nothing is shown: moments of the disk alone.
pub quiet_next : (start : Situation) (items : List Item) (before : Option (List ℕ)) (whole : ℕ) {old new : Meaning} {Q : List ℕ → Type 0} → old.shown ≡ append_known before (out step start items whole)
    → ((image : List ℕ) → Q image → LoadMoment start items image (out step start items whole)) → Leaves old new Q → Adds old new (Since before (LoadMoment start items))
quiet_next start items before whole shown moment leaves =
    adds_weaken _ leaves.adds (λ image bytes had. (out step start items whole, sym shown ∙ had.1, moment image had.0))

-- the limits are those of the start
pub past_start : (start : Situation) (items : List Item) (count : ℕ) (old new : Meaning) → KeepsPast (image_blocks (state_after step start items count).limits) old new → KeepsPast (image_blocks start.state.limits) old new
past_start start items count old new past = subst (λ (limits : Limits). KeepsPast (image_blocks limits) old new) (limits_after step step_regular start (take count items)) past

-- All replies were shown, and the store fits.
pub all_shown : (start : Situation) (items : List Item) (before : Option (List ℕ)) (now : Loader) (m : Meaning) → now.held.items ≡ [] → m.shown ≡ append_known before (replies_by step start items) → IsSound now.session.store
    → StoreFits now.session.store m (after_by step start items).state → now.session.place ≡ (after_by step start items).place → Waits start items before now m
all_shown start items before now m none shown sound fits at =
    let all = sym (out_whole start items) in
    let last = (after_by step start items).state in
    record {
      whole = length items;
      base = length items;
      counted = omega (arith, ap length none);
      few = omega (arith, ap length none);
      behind = omega arith;
      within = omega arith;
      shown = shown ∙ ap (append_known before) all;
      answers = all ∙ sym (append-nil (out step start items (length items))) ∙ ap (λ held. out step start items (length items) ++ flat_map answer held) (sym none);
      holds = subst (λ s. StoreHolds now.session.store m s last) (sym (state_whole step start items)) (fits_held now.session.store m last sound fits);
      at = at;
    }

pub shown_all : {start : Situation} {items : List Item} {before : Option (List ℕ)} {now : Loader} {m : Meaning} → Waits start items before now m → now.held.items ≡ [] → m.shown ≡ append_known before (replies_by step start items)
shown_all {start} {items} {before} waits none =
    let front = out step start items waits.whole in
    waits.shown ∙ ap (append_known before) (sym (waits.answers ∙ ap (λ held. front ++ flat_map answer held) none ∙ append-nil front))

module _ {start : Situation} {items : List Item} {before : Option (List ℕ)} {now : Loader} {mid : Meaning} (waits : Waits start items before now mid) where
  abbrev said : List ℕ
  said = out step start items waits.whole

  abbrev last : State
  last = (after_by step start items).state

  -- ---- a commit
  commit_moment : (image : List ℕ) → Stands image (state_after step start items waits.base) ⊎ Stands image last → LoadMoment start items image said
  commit_moment image (inl base) =
      load_at start items waits.whole waits.base image waits.behind (omega (arith, waits.counted, waits.few, waits.within)) waits.within base
  commit_moment image (inr all) =
      load_at start items waits.whole (length items) image (omega (arith, waits.behind, waits.within)) (omega (arith, waits.counted, waits.few)) (omega arith)
      (subst (λ s. Stands image s) (sym (state_whole step start items)) all)

  pub committed : (next : Loader) (m : Meaning) {result : Result (Unit {0}) ChangeFault} (end : Type 0) → Commits (state_after step start items waits.base) last next.session.store mid m result → end → Next start items before mid m end
  committed next m end commits is = record {
    moments = quiet_next start items before waits.whole waits.shown commit_moment commits.moments;
    past = past_start start items waits.base mid m commits.past;
    ended = is;
  }

  -- ---- showing what waited
  few : length items ≤ waits.whole + lag
  few = omega (arith, waits.counted, waits.few)

  module _ (next : Loader) (old new : Meaning) (sound : IsSound next.session.store) (at : next.session.place ≡ (after_by step start items).place) (fitting : FitsAt (StoreFits next.session.store old) old last)
      (shown : old.shown ≡ append_known before said) where
    then_shown : (known : Option (List ℕ)) (front : List ℕ) → known ≡ append_known old.shown front → known ≡ append_known before (said ++ front)
    then_shown known front is = is ∙ ap (λ known. append_known known front) shown ∙ append_known-append before said front

    answers_ended : (result : Result (Unit {0}) End) → Answers old new (flat_map answer now.held.items) result → IfOk result (λ _. next.held.items ≡ []) → LoadEnded start items before next new result
    answers_ended (Ok u) answers none =
        all_shown start items before next new none (then_shown new.shown (flat_map answer now.held.items) answers.run.shown ∙ ap (append_known before) (sym waits.answers)) sound (store_shown fitting answers.run.call).own at
    answers_ended (Err DiskFault) answers none = tt
    answers_ended (Err OutputFault) answers none =
        let front = front_begins old.shown new.shown (flat_map answer now.held.items) answers.run.shown in
        record {
          bytes = said ++ front.0;
          shown = then_shown new.shown front.0 front.2;
          moment = always_weaken _ (store_shown fitting answers.run.call).stands (λ image stands. load_between start items waits.whole image front.0 (flat_map answer now.held.items) few stands waits.answers front.1);
        }

    pub answered : (result : Result (Unit {0}) End) → Answers old new (flat_map answer now.held.items) result → IfOk result (λ _. next.held.items ≡ []) → Next start items before old new (LoadEnded start items before next new result)
    answered result answers none = record {
      moments = adds_later before said shown (λ image front had. load_between start items waits.whole image front (flat_map answer now.held.items) few (fitting.stands.leaves image had.0) waits.answers had.1) (answers.run.moments fitting.honest);
      past = unchanged_past (answers.run.call.same fitting.honest) (image_blocks start.state.limits);
      ended = answers_ended result answers none;
    }

-- ---- settling
-- whatever is held back is committed so
abbrev CommitsAll : Loader → Loader → Meaning → Meaning → Result (Unit {0}) ChangeFault → Type 0
CommitsAll now next old new result = (base state : State) → StoreHolds now.session.store old base state → Commits base state next.session.store old new result

module _ {start now next : Loader} {entry mid m : Meaning} {first : List Item} (done : HasLoaded start entry first now mid (Ok tt)) (stays : next.session.place ≡ now.session.place) where
  -- the commit failed
  pub commit_broke : (result : Result (Unit {0}) ChangeFault) → is_err result ≡ true → CommitLeft next.session.store result → SessionKeeps now.session mid next.session m (kept_up result) → CommitsAll now next mid m result
      → HasLoaded start entry first next m (Err DiskFault)
  commit_broke (Ok u) is left keeps commits = absurd (cc is)
  commit_broke (Err (Refused refusal)) is left keeps commits = absurd (cc left)
  commit_broke (Err Disk) is left keeps commits = loaded_then (λ from image shown moment. moment) done keeps (λ from waits. committed waits next m (Unit {0}) (commits _ _ waits.holds) tt)

  -- it succeeded, and what waited is shown
  pub settled : (result : Result (Unit {0}) ChangeFault) (new : Meaning) (ended : Result (Unit {0}) End) → is_err result ≡ false → SessionKeeps now.session mid next.session m (kept_up result) → CommitsAll now next mid m result
      → Answers m new (flat_map answer now.held.items) ended → IfOk ended (λ _. next.held.items ≡ []) → HasLoaded start entry first next new ended
  settled (Err refused) new ended is keeps commits answers none = absurd (cc is)
  settled (Ok u) new ended is keeps commits answers none =
      let shown_keeps : SessionKeeps next.session m next.session new ended = record {
        left = record { limits = refl; image = refl; unbroken = λ _. keeps.left.unbroken (λ e. cc e) };
        sound = keeps.sound;
        ends = answers_end ended answers;
      } in
      loaded_then (λ from image shown moment. moment) done (keeps_then keeps shown_keeps) (λ from waits.
      let one = commits _ _ waits.holds in
      next_then (committed waits next m (Unit {0}) one tt)
      (answered waits next m new keeps.sound (stays ∙ waits.at) (store_fits_at keeps.sound one.ended) (one.moments.run.shown ∙ waits.shown) ended answers none))
