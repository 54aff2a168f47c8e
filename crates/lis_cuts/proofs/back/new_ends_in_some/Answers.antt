use Rattle.std.proofs.Common.{[], ◌∷◌, not, codes, ap, sym, ◌∙◌}
use Rattle.lis_views.specs.Lines.{lines_of}
use Rattle.lis_views.specs.Views.{pieces, runs_of}
use Rattle.lis_views.specs.Edits.{view_marks}
use Rattle.lis_cuts.proofs.Ending.{new_ends, ends_at_kept, ends_at_mark, some_bytes}
use Rattle.lis_cuts.proofs.Pouring.{view_some}
use Rattle.lis_cuts.proofs.back.new_ends_in_some.Goals as goal

pub returns-in-Some-kept_text : goal.returns-in-Some-kept_text
returns-in-Some-kept_text c =
    let old = c.args.old.now in
    let place = c.args.place.now in
    let last = c.in-Some.last.now in
    let kept = c.in-Some-kept_text.ensures.kept in
    ap not c.is_empty.ensures ∙ some_bytes c.in-Some-kept_text.text.now ∙ sym (ends_at_kept (view_marks old place) last c.in-Some-kept_text.text.now kept.0 kept.1)
    ∙ sym (new_ends (runs_of (pieces old place)) (lines_of c.args.lines.now).texts (lines_of c.in-Some.field-0-0.now).texts last (view_some old place) c.in-Some.ensures.texts)

pub returns-in-None : goal.returns-in-None
returns-in-None c =
    let old = c.args.old.now in
    let place = c.args.place.now in
    let last = c.in-Some.last.now in
    sym (ends_at_mark (view_marks old place) last (codes "?" ∷ []) c.in_default-kept_text.ensures.kept c.in-None.ensures)
    ∙ sym (new_ends (runs_of (pieces old place)) (lines_of c.args.lines.now).texts (lines_of c.in-Some.field-0-0.now).texts last (view_some old place) c.in-Some.ensures.texts)

pub returns-in-Some-run_at : goal.returns-in-Some-run_at
returns-in-Some-run_at c =
    let old = c.args.old.now in
    let place = c.args.place.now in
    let last = c.in-Some.last.now in
    c.ends_in_some.ensures
    ∙ sym (ends_at_mark (view_marks old place) last (lines_of c.in-Some-run_at.run'.now).texts c.in_default-kept_text.ensures.kept c.in-Some-run_at.ensures)
    ∙ sym (new_ends (runs_of (pieces old place)) (lines_of c.args.lines.now).texts (lines_of c.in-Some.field-0-0.now).texts last (view_some old place) c.in-Some.ensures.texts)
