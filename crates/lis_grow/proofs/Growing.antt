-- The session: its moments, and how it ends.
use Rattle.std.proofs.Common.{◌≡◌, ℕ, List, [], length, Result, Ok, Err, refl, ap, sym, subst, ◌∙◌, arith}
use Rattle.std.specs.Io.KnownBytes.{append_known}
use Rattle.lis_ports.specs.Meaning.{Meaning}
use Rattle.lis_ports.specs.Runs.{Adds, Leaves}
use Rattle.lis_ports.specs.Since.{Begins, Since}
use Rattle.lis_ports.specs.declared.disk.Failed.{Failed}
use Rattle.lis_ports.proofs.Moments.{adds_then, adds_weaken}
use Rattle.lis_ports.proofs.Always.{always_unchanged}
use Rattle.lis_reply.proofs.Showing.{append_known-nil}
use Rattle.lis_journal.specs.Record.{block}
use Rattle.lis_model.specs.State.{State}
use Rattle.lis_model.specs.Step.{Situation, Item, step, situation_after, free_blocks}
use Rattle.lis_store.specs.declared.counting.Counts.{Counts}
use Rattle.lis_store.specs.Stands.{Stands}
use Rattle.lis_session.specs.declared.end.End.{End}
use Rattle.lis_session.specs.declared.end.End.TheVariants.{DiskFault, OutputFault}
use Rattle.lis_session.specs.Parts.{Answers}
use Rattle.lis_session.proofs.Moments.{begins_nothing, front_begins, state_whole, take_none}
use Rattle.lis_grow.specs.declared.summary.Sum.{Sum}
use Rattle.lis_grow.specs.Summary.{summary_text}
use Rattle.lis_grow.specs.Session.{refusals, listings, summary, StandsAmong, Summed, GrowMoment, GrowEnded, Grows}

-- the text is the summary of the items
pub summary_is : (start : Situation) (items : List Item) (sum : Sum) (c : Counts) → sum.replies ≡ length items → sum.refused ≡ refusals start items → sum.listed ≡ listings start items
    → c.files ≡ length (situation_after start items).state.files → c.axioms ≡ length (situation_after start items).state.axioms → c.free ≡ free_blocks (situation_after start items).state
    → summary_text sum.replies sum.refused c.files c.axioms c.free sum.listed ≡ summary start items
summary_is start items sum c replies refused lines files axioms free =
    let last : State = (situation_after start items).state in
    ap (λ n. summary_text n sum.refused c.files c.axioms c.free sum.listed) replies
    ∙ (ap (λ n. summary_text (length items) n c.files c.axioms c.free sum.listed) refused
    ∙ (ap (λ n. summary_text (length items) (refusals start items) n c.axioms c.free sum.listed) files
    ∙ (ap (λ n. summary_text (length items) (refusals start items) (length last.files) n c.free sum.listed) axioms
    ∙ (ap (λ n. summary_text (length items) (refusals start items) (length last.files) (length last.axioms) n sum.listed) free
    ∙ ap (λ n. summary_text (length items) (refusals start items) (length last.files) (length last.axioms) (free_blocks last) n) lines))))

quiet_moment : (start : Situation) (items : List Item) (image : List ℕ) → StandsAmong start items image → GrowMoment start items image []
quiet_moment start items image m = record {
  count = m.count;
  within = m.within;
  stands = m.stands;
  front = begins_nothing _;
  quiet = λ less. refl;
}

-- the moments before anything was shown
quiet_moments : {old mid : Meaning} (start : Situation) (items : List Item) → Leaves old mid (StandsAmong start items) → Adds old mid (Since old.shown (GrowMoment start items))
quiet_moments {old} {mid} start items left =
    adds_weaken _ left.adds (λ image bytes had. ([], append_known-nil old.shown ∙ had.1, quiet_moment start items image had.0))

last_moment : (start : Situation) (items : List Item) (image shown : List ℕ) → Stands image (situation_after start items).state → Begins shown (summary start items) → GrowMoment start items image shown
last_moment start items image shown stands begins = record {
  count = length items;
  within = omega arith;
  stands = subst (λ s. Stands image s) (sym (state_whole step start items)) stands;
  front = begins;
  quiet = λ less. absurd (omega (arith, less));
}

-- before anything was run
pub grow_none : (start : Situation) (items : List Item) (image : List ℕ) → Stands image start.state → GrowMoment start items image []
grow_none start items image stands = record {
  count = 0;
  within = omega arith;
  stands = subst (λ xs. Stands image (situation_after start xs).state) (sym (take_none items)) stands;
  front = begins_nothing _;
  quiet = λ less. refl;
}

-- a disk fault
pub grows_broke : {old mid : Meaning} {fits : State → Type 0} (start : Situation) (items : List Item) (failed : Failed) → Summed start items old mid (Err failed) fits
    → Grows start items old mid (GrowEnded start items old.shown mid (Err DiskFault))
grows_broke {old} {mid} start items failed summed = record {
  moments = quiet_moments start items summed.moments;
  past = summed.past;
  ended = summed.moments.run.shown;
}

-- all items were run, and the summary was shown, or a prefix of it
module _ {old mid : Meaning} {fits : State → Type 0} (start : Situation) (items : List Item) (sum : Sum) (summed : Summed start items old mid (Ok sum) fits) where
  ended_all : (new : Meaning) (result : Result (Unit {0}) End) → Answers mid new (summary start items) result → GrowEnded start items old.shown new result
  ended_all new (Ok u) answers = record {
    shown = answers.run.shown ∙ ap (λ known. append_known known (summary start items)) summed.moments.run.shown;
    stands = always_unchanged summed.ended.fitting.stands (answers.run.call.same summed.ended.fitting.honest);
  }
  ended_all new (Err OutputFault) answers =
      let front = front_begins mid.shown new.shown (summary start items) answers.run.shown in (
        front.0,
        front.1,
        record {
          shown = front.2 ∙ ap (λ known. append_known known front.0) summed.moments.run.shown;
          stands = always_unchanged summed.ended.fitting.stands (answers.run.call.same summed.ended.fitting.honest);
        },
      )
  ended_all new (Err DiskFault) answers = absurd (let no : ◌≡◌ {A = End} DiskFault OutputFault = answers.fault in cc)

  pub grows_shown : (new : Meaning) (result : Result (Unit {0}) End) (text : List ℕ) → text ≡ summary start items → Answers mid new text result
      → Grows start items old new (GrowEnded start items old.shown new result)
  grows_shown new result text is said =
      let answers = subst (λ bytes. Answers mid new bytes result) is said in
      let fitting = summed.ended.fitting in
      record {
        moments = adds_then (quiet_moments start items summed.moments) (adds_weaken _ (answers.run.moments fitting.honest) (λ image bytes since. (
          since.0,
          ap (λ known. append_known known since.0) (sym summed.moments.run.shown) ∙ since.1,
          last_moment start items image since.0 (fitting.stands.leaves image since.2.0) since.2.1,
        )));
        past = λ n le. ap (λ xs. block n xs) (answers.run.call.same fitting.honest).bytes ∙ summed.past n le;
        ended = ended_all new result answers;
      }
