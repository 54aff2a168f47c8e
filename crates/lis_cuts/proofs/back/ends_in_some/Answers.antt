use Rattle.std.proofs.Common.{not, ap, sym, ◌∙◌}
use Rattle.lis_views.specs.Lines.{lines_of}
use Rattle.lis_cuts.proofs.Ending.{ends_by_last, some_bytes}
use Rattle.lis_cuts.proofs.back.ends_in_some.Goals as goal

pub returns-in-Some : goal.returns-in-Some
returns-in-Some c =
    ap not c.is_empty.ensures ∙ some_bytes c.in-Some.last.now
    ∙ sym (ends_by_last (lines_of c.args.bytes.now).texts (lines_of c.in-Some.field-0-0.now).texts c.in-Some.last.now c.in-Some.ensures.texts)
