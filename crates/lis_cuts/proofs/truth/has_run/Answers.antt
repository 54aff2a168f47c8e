use Rattle.std.proofs.Common.{◌≡◌, ◌<◌, [], length, ap, sym, ◌∙◌, arith}
use Rattle.std.proofs.lemmas.Grind.{common_steps}
use Rattle.std.proofs.lemmas.List.{nil_from_length}
use Rattle.lis_views.specs.Truth.{short_runs}
use Rattle.lis_cuts.specs.Words.{has_value}
use Rattle.lis_cuts.proofs.LineWords.{some_run, long_run, this_run}
use Rattle.lis_cuts.proofs.truth.has_run.Goals as goal

pub returns-then-is_empty : goal.returns-then-is_empty
returns-then-is_empty c =
    let none : c.args.value.now ≡ [] = nil_from_length c.args.value.now (grind (arith, common_steps)) in
    c.has_some_run.ensures ∙ sym (some_run c.args.text.now) ∙ ap (has_value (short_runs c.args.text.now)) (sym none)

pub returns-then-value-gt-MAX_RUN : goal.returns-then-value-gt-MAX_RUN
returns-then-value-gt-MAX_RUN c = sym (long_run c.args.text.now c.args.value.now (omega arith))

pub returns : goal.returns
returns c =
    let some : 0 < length c.args.value.now = grind (arith, common_steps) in
    c.has_this_run.ensures ∙ sym (this_run c.args.text.now c.args.value.now some (omega arith))
