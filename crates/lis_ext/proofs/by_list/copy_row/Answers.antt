use Rattle.std.proofs.Common.{ap, ◌∙◌, arith}
use Rattle.lis_ext.specs.Numbers.{has_number}
use Rattle.lis_ext.specs.Inside.{has_in}
use Rattle.lis_ext.proofs.ByList.{sets_none, sets_more, sets_all}
use Rattle.lis_ext.proofs.by_list.copy_row.Goals as goal

pub loop-file-init : goal.loop-file-init
loop-file-init c = sets_none c.args.to.now c.args.row (has_in c.args.lists.now c.args.prop)

pub loop-file-preserved : goal.loop-file-preserved
loop-file-preserved c =
    let l = c.loop-file in
    rw c.put.ensures (sets_more c.args.to.now l.to c.args.row l.file (has_in c.args.lists.now c.args.prop) l.invariant (omega (arith, c.requires.bits)) c.is_among.result c.requires.row (c.is_among.ensures ∙ ap (λ numbers. has_number numbers c.args.prop) c.numbers.ensures.numbers))

pub returns : goal.returns
returns c = sets_all c.args.to.now c.loop-file.to c.args.row c.loop-file.file (has_in c.args.lists.now c.args.prop) c.loop-file.invariant (omega (arith, c.requires.bits))
