use Rattle.lis_open.proofs.Common.{rules, ◌∙◌, sym, arith, length-take-le}
use Rattle.lis_open.proofs.BlocksRead.{few_blocks}
use Rattle.lis_open.proofs.Lefts.{row_read, row_within, row_narrow}
use Rattle.lis_open.proofs.checks.read_row.Goals as goal
use Rattle.lis_kept.proofs.Image.{same_homes, same_blocks}

pub read_slot-requires-clause-home : goal.read_slot-requires-clause-home
read_slot-requires-clause-home g c = omega (arith, c.descriptions_start.ensures, same_homes c.requires.readable.image)

pub read_slot-requires-clause-within : goal.read_slot-requires-clause-within
read_slot-requires-clause-within g c =
    row_within c.args.limits.now c.args.p _ c.descriptions_start.result _ c.requires.readable.range c.requires.p
    (length-take-le _ _ (omega (arith, row_narrow c.args.limits.now c.args.p c.requires.readable.range c.requires.p))) c.descriptions_start.ensures (same_blocks c.requires.readable.image)

pub read_slot-requires-clause-few : goal.read_slot-requires-clause-few
read_slot-requires-clause-few g c = few_blocks c.args.limits.now _ c.requires.readable.range (same_blocks c.requires.readable.image)

pub slice_bounds-row-end : goal.slice_bounds-row-end
slice_bounds-row-end g c = omega (arith, row_narrow c.args.limits.now c.args.p c.requires.readable.range c.requires.p)

pub slice_bounds-row-end-2 : goal.slice_bounds-row-end-2
slice_bounds-row-end-2 g c = sym (length-take-le _ _ (omega (arith, row_narrow c.args.limits.now c.args.p c.requires.readable.range c.requires.p)))

pub is_row-requires-clause-width : goal.is_row-requires-clause-width
is_row-requires-clause-width g c = c.in_ok-read_slot.ensures.len ∙ length-take-le _ _ (omega (arith, row_narrow c.args.limits.now c.args.p c.requires.readable.range c.requires.p))

pub returns-clause-read : goal.returns-clause-read
returns-clause-read g c = λ kept fits recalls.
    row_read c.args.limits.now kept c.args.ext.now c.args.p c.descriptions_start.result _ c.read_slot.new.buf c.is_row.result c.descriptions_start.ensures
    (length-take-le _ _ (omega (arith, row_narrow c.args.limits.now c.args.p c.requires.readable.range c.requires.p))) (c.in_ok-read_slot.ensures.read kept fits recalls) c.is_row.ensures

pub returns-in_err-read_slot : goal.returns-in_err-read_slot
returns-in_err-read_slot g c = search rules
