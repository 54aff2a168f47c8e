use Rattle.std.proofs.Common.{arith}
use Rattle.std.proofs.lemmas.List.{take_all}
use Rattle.lis_kept.proofs.Common.{sym, ap, ◌∙◌, length, map, take, marked, length-marked}
use Rattle.lis_kept.specs.Areas.{description_home}
use Rattle.lis_kept.proofs.InArea.{few_ahead}
use Rattle.lis_kept.proofs.Marking.{marked_next, marked_home}
use Rattle.lis_kept.proofs.changes.mark_described.Goals as goal

pub overflow_add-first : goal.overflow_add-first
overflow_add-first c =
    let home = marked_home c.args.limits.now c.args.slot c.args.ext.now.marks c.loop-k.k c.in-Some.number c.requires.range c.requires.slot c.requires.below (sym c.changed.ensures ∙ c.in-Some.is) in
    omega (arith, home, c.description_place.ensures, c.descriptions_start-first.ensures, few_ahead c.args.limits.now c.requires.range)

pub put-requires : goal.put-requires
put-requires c =
    let home = marked_home c.args.limits.now c.args.slot c.args.ext.now.marks c.loop-k.k c.in-Some.number c.requires.range c.requires.slot c.requires.below (sym c.changed.ensures ∙ c.in-Some.is) in
    omega (arith, home, c.description_place.ensures, c.descriptions_start-first.ensures, c.requires.long, ap length c.loop-k.invariant, length-marked c.args.marks.now (map (description_home c.args.limits.now c.args.slot) (take c.loop-k.k c.args.ext.now.marks)))

pub loop-k-preserved : goal.loop-k-preserved
loop-k-preserved c =
    grind (arith, c.description_place.ensures, c.descriptions_start-first.ensures, marked_next (description_home c.args.limits.now c.args.slot) c.args.marks.now c.args.ext.now.marks c.loop-k.k c.in-Some.number (sym c.changed.ensures ∙ c.in-Some.is))

pub returns : goal.returns
returns c =
    c.loop-k.invariant
    ∙ ap (λ ns. marked c.args.marks.now (map (description_home c.args.limits.now c.args.slot) ns))
    (take_all c.loop-k.k c.args.ext.now.marks (omega (arith, c.requires.few, c.loop-k-test.false, c.loop-k.auto.k-end)))
