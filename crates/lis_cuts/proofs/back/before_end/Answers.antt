use Rattle.std.proofs.Common.{◌≡◌, true, false, rules}
use Rattle.lis_views.specs.Lines.{lines_of}
use Rattle.lis_views.specs.Edits.{is_end}
use Rattle.lis_cuts.proofs.Ending.{cut_at_end, uncut_at_end}
use Rattle.lis_cuts.proofs.back.before_end.Goals as goal

pub returns-then-is_end-clause-texts : goal.returns-then-is_end-clause-texts
returns-then-is_end-clause-texts c =
    let end : is_end c.in-Some.last.now ≡ true = search rules in
    (cut_at_end (lines_of c.args.input.now).texts (lines_of c.in-Some.front.now).texts c.in-Some.last.now c.in-Some.ensures.texts end).0

pub returns-then-is_end-clause-end : goal.returns-then-is_end-clause-end
returns-then-is_end-clause-end c =
    let end : is_end c.in-Some.last.now ≡ true = search rules in
    (cut_at_end (lines_of c.args.input.now).texts (lines_of c.in-Some.front.now).texts c.in-Some.last.now c.in-Some.ensures.texts end).1

pub returns-clause-texts : goal.returns-clause-texts
returns-clause-texts c =
    let other : is_end c.in-Some.last.now ≡ false = search rules in
    (uncut_at_end (lines_of c.args.input.now).texts (lines_of c.in-Some.front.now).texts c.in-Some.last.now c.in-Some.ensures.texts other).0

pub returns-clause-end : goal.returns-clause-end
returns-clause-end c =
    let other : is_end c.in-Some.last.now ≡ false = search rules in
    (uncut_at_end (lines_of c.args.input.now).texts (lines_of c.in-Some.front.now).texts c.in-Some.last.now c.in-Some.ensures.texts other).1
