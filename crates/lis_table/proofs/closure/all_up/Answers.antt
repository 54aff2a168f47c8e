use Rattle.std.proofs.Common.{ap, sym, subst, ◌∙◌}
use Rattle.std.specs.List.{find}
use Rattle.lis_table.specs.Links.{is_open}
use Rattle.lis_table.proofs.Closing.{Closing, begun, closed, step_keeps, step_shrinks}
use Rattle.lis_table.proofs.closure.all_up.Goals as goal

pub loop-pair-init : goal.loop-pair-init
loop-pair-init c =
    subst (λ ws. Closing c.args.declared.now c.args.axioms.now c.args.words.now ws) (sym c.in_ok-all.ensures)
    (begun c.args.declared.now c.args.axioms.now c.args.words.now)

pub loop-pair-smaller : goal.loop-pair-smaller
loop-pair-smaller c =
    step_shrinks c.args.declared.now c.args.axioms.now c.args.words.now c.loop-pair.all.items c.deref.result.now c.insert_linked.new.words.items c.in-Some.pair.now
    (c.pair.inside.left, c.pair.inside.right) c.deref.ensures.value c.in-Some.ensures c.pair.view_is c.in_ok-insert_linked.ensures

pub loop-pair-preserved : goal.loop-pair-preserved
loop-pair-preserved c =
    step_keeps c.args.declared.now c.args.axioms.now c.args.words.now c.loop-pair.all.items c.deref.result.now c.insert_linked.new.words.items c.in-Some.pair.now
    (c.pair.inside.left, c.pair.inside.right) c.deref.ensures.value c.in-Some.ensures c.pair.view_is c.in_ok-insert_linked.ensures c.loop-pair.invariant

pub returns : goal.returns
returns c =
    closed c.args.declared.now c.args.axioms.now c.args.words.now c.loop-pair.all.items c.loop-pair.invariant
    (ap (λ ws. find (is_open ws) c.args.axioms.now) (sym c.deref.ensures.value) ∙ c.in_default.ensures)
