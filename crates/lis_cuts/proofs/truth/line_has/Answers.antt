use Rattle.std.proofs.Common.{codes, sym, ap, ◌∙◌}
use Rattle.lis_words.specs.Words.{has_word}
use Rattle.lis_views.specs.Truth.{line_words}
use Rattle.lis_cuts.proofs.LineWords.{behind_head, line_word, run_word, no_word}
use Rattle.lis_cuts.proofs.truth.line_has.Goals as goal

pub returns-in-Some : goal.returns-in-Some
returns-in-Some c =
    let cut = c.in-Some.ensures.cases in
    c.has_kind.ensures ∙ sym (line_word c.args.text.now c.in-Some.kind.now)
    ∙ ap (has_word (line_words c.args.text.now)) (sym (behind_head (codes "line:") c.args.word.now c.in-Some.kind.now cut.0 cut.1))

pub returns-in-Some-strip_prefix : goal.returns-in-Some-strip_prefix
returns-in-Some-strip_prefix c =
    let cut = c.in-Some-strip_prefix.ensures.cases in
    c.has_run.ensures ∙ sym (run_word c.args.text.now c.in-Some-strip_prefix.value.now)
    ∙ ap (has_word (line_words c.args.text.now)) (sym (behind_head (codes "word:") c.args.word.now c.in-Some-strip_prefix.value.now cut.0 cut.1))

pub returns : goal.returns
returns c = sym (no_word c.args.text.now c.args.word.now c.in_default.ensures.cases c.in_default-strip_prefix.ensures.cases)
