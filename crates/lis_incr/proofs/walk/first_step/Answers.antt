use Rattle.std.proofs.Common.{sym, ap, subst, ◌∙◌}
use Rattle.lis_eval.specs.View.{table_of}
use Rattle.lis_ext.specs.Ext as ext
use Rattle.lis_incr.specs.Marked.{is_top}
use Rattle.lis_incr.specs.Walking.{IsFirstBy}
use Rattle.lis_incr.proofs.Own.{splits_own}
use Rattle.lis_incr.proofs.Firsts.{first_of}
use Rattle.lis_incr.proofs.walk.first_step.Goals as goal

pub returns-clause-first : goal.returns-clause-first
returns-clause-first g c = λ f here placed.
    let v = g.V.View.seen c.args.view.now in
    let found = c.args.scratch.now.files in
    let e = c.ext.result.now in
    let tells = c.ext.ensures.told in
    let test = splits_own v found e tells f here in
    let set = c.numbers.ensures.numbers ∙ ap (ext.set_of e) (sym placed) in
    first_of v c.requires.kept found e tells f here c.first_by.result
    (subst (λ ns. IsFirstBy v (is_top (table_of v) test) ns c.first_by.result) set (c.first_by.ensures test (c.mark_own.ensures.marked f here placed)))
