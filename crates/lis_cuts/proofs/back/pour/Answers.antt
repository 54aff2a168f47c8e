use Rattle.std.proofs.Common.{◌≡◌, ◌+◌, true, false, not, ◌∷◌, ◌++◌, ap, subst, ◌∙◌, arith, rules, tests}
use Rattle.std.proofs.lemmas.Bool.{OnTrue_from}
use Rattle.lis_words.specs.Words.{same_word}
use Rattle.lis_model.specs.Step.{Payload}
use Rattle.lis_line.specs.Segments.{with_bytes}
use Rattle.lis_views.specs.Lines.{lines_of}
use Rattle.lis_views.specs.Views.{numeral, mark_of, pieces, runs_of}
use Rattle.lis_cuts.specs.Returns.{feed_unless}
use Rattle.lis_cuts.proofs.Pouring.{feed_len, pours_none, pours_kept, pours_run, differs_here, ends_whole, view_some, none_left}
use Rattle.lis_cuts.proofs.back.pour.Goals as goal

pub loop-line-init : goal.loop-line-init
loop-line-init c = record {
  pours = pours_none (runs_of (pieces c.args.old.now c.args.place.now)) (lines_of c.args.lines.now).texts c.args.is_open _ c.clear.ensures c.requires.edited
      (view_some c.args.old.now c.args.place.now);
  few = omega (arith, ap (λ (p : Payload). p.size) c.clear.ensures);
  low = omega arith;
  one = omega arith;
}

pub loop-line-preserved-in-Some-kept_text : goal.loop-line-preserved-in-Some-kept_text
loop-line-preserved-in-Some-kept_text c =
    let inv = c.loop-line.invariant in
    let text = c.in-Some-kept_text.text.now in
    let kept = c.in-Some-kept_text.ensures.kept in
    record {
      pours = pours_kept (runs_of (pieces c.args.old.now c.args.place.now)) (lines_of c.args.lines.now).texts c.args.is_open c.loop-line.number
          (runs_of (pieces c.loop-line.hidden.now c.args.place.now)) (lines_of c.loop-line.rest.now).texts c.loop-line.new inv.pours
          c.in-Some.line.now text (lines_of c.in-Some.more.now).texts _ c.in-Some.ensures.texts kept.0 kept.1
          (c.append.ensures ∙ ap (λ t. with_bytes c.loop-line.new (text ++ feed_unless t)) c.ends_open-is_last.ensures);
      few = omega (arith, inv.few, ap (λ (p : Payload). p.size) c.append.ensures, feed_len text c.ends_open-is_last.result, c.in-Some-kept_text.ensures.shorter, c.in-Some.ensures.shorter.0);
      low = inv.low;
      one = inv.one;
    }

pub loop-line-preserved : goal.loop-line-preserved
loop-line-preserved c =
    let inv = c.loop-line.invariant in
    let line = c.in-Some.line.now in
    let part = c.without_feed.result.now in
    let run = (lines_of c.in-Some-next_run.run'.bytes.now).texts in
    let there : c.as_slice.result.now ≡ mark_of c.loop-line.number run =
    c.as_slice.ensures.value ∙ c.mark.ensures ∙ ap (λ k. 64 ∷ numeral c.loop-line.number ++ 32 ∷ numeral k) c.in-Some-next_run.ensures.count in
    let given : same_word line c.as_slice.result.now ≡ true = search (rules, tests) in
    record {
      pours = pours_run (runs_of (pieces c.args.old.now c.args.place.now)) (lines_of c.args.lines.now).texts c.args.is_open c.loop-line.number
          (runs_of (pieces c.loop-line.hidden.now c.args.place.now)) (lines_of c.loop-line.rest.now).texts c.loop-line.new inv.pours
          line part (lines_of c.in-Some.more.now).texts run (runs_of (pieces c.in-Some-next_run.run'.rest.now c.args.place.now)) _
          c.in-Some.ensures.texts c.in_default-kept_text.ensures.kept c.in-Some-next_run.ensures.runs
          (subst (λ mark. same_word line mark ≡ true) there given) c.without_feed.ensures.joined
          (c.append-in_default-kept_text.ensures ∙ ap (λ t. with_bytes c.loop-line.new (part ++ feed_unless t)) c.ends_open-is_last.ensures);
      few = omega (
        arith,
        inv.few,
        ap (λ (p : Payload). p.size) c.append-in_default-kept_text.ensures,
        feed_len part c.ends_open-is_last.result,
        c.without_feed.ensures.within,
        c.in-Some-next_run.ensures.within,
        c.in-Some.ensures.shorter.1,
      );
      low = omega (arith, inv.low, c.in-Some-next_run.ensures.shorter);
      one = omega arith;
    }

pub returns-then-ne-clause-same : goal.returns-then-ne-clause-same
returns-then-ne-clause-same c =
    let line = c.in-Some.line.now in
    let run = (lines_of c.in-Some-next_run.run'.bytes.now).texts in
    let there : c.as_slice.result.now ≡ mark_of c.loop-line.number run =
    c.as_slice.ensures.value ∙ c.mark.ensures ∙ ap (λ k. 64 ∷ numeral c.loop-line.number ++ 32 ∷ numeral k) c.in-Some-next_run.ensures.count in
    let other : same_word line c.as_slice.result.now ≡ false = search (rules, tests) in
    differs_here (runs_of (pieces c.args.old.now c.args.place.now)) (lines_of c.args.lines.now).texts c.args.is_open c.loop-line.number
    (runs_of (pieces c.loop-line.hidden.now c.args.place.now)) (lines_of c.loop-line.rest.now).texts c.loop-line.new c.loop-line.invariant.pours
    line (lines_of c.in-Some.more.now).texts run (runs_of (pieces c.in-Some-next_run.run'.rest.now c.args.place.now))
    c.in-Some.ensures.texts c.in_default-kept_text.ensures.kept c.in-Some-next_run.ensures.runs (subst (λ mark. same_word line mark ≡ false) there other)

pub returns-clause-whole : goal.returns-clause-whole
returns-clause-whole c =
    OnTrue_from c.is_none.result _ (λ e.
    ends_whole (runs_of (pieces c.args.old.now c.args.place.now)) (lines_of c.args.lines.now).texts c.args.is_open c.loop-line.number
    (runs_of (pieces c.loop-line.hidden.now c.args.place.now)) (lines_of c.loop-line.rest.now).texts c.loop-line.new c.loop-line.invariant.pours
    c.requires.edited c.in_default.ensures.texts (none_left _ _ _ c.next_run-2.ensures.runs (c.is_none.ensures ∙ ap not e)))
