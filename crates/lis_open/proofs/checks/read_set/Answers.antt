use Rattle.lis_open.proofs.Common.{rules, arith}
use Rattle.lis_kept.proofs.Image.{same_homes, same_blocks}
use Rattle.lis_kept.proofs.InArea.{third_sets, some_are_third}
use Rattle.lis_open.proofs.BlocksRead.{few_blocks}
use Rattle.lis_open.proofs.Lefts.{set_read, set_within}
use Rattle.lis_open.proofs.checks.read_set.Goals as goal

pub read_slot-requires-clause-home : goal.read_slot-requires-clause-home
read_slot-requires-clause-home g c = omega (arith, c.descriptions_start.ensures, same_homes c.requires.readable.image)

pub read_slot-requires-clause-within : goal.read_slot-requires-clause-within
read_slot-requires-clause-within g c =
    set_within c.args.limits.now c.args.i c.descriptions_start.result _ c.requires.readable.range c.requires.i c.descriptions_start.ensures (same_blocks c.requires.readable.image)

pub read_slot-requires-clause-few : goal.read_slot-requires-clause-few
read_slot-requires-clause-few g c = few_blocks c.args.limits.now _ c.requires.readable.range (same_blocks c.requires.readable.image)

pub is_set-requires : goal.is_set-requires
is_set-requires g c =
    let limits = c.args.limits.now in
    omega (arith, c.requires.i, c.requires.files, third_sets limits (some_are_third limits c.args.i c.requires.i))

pub returns-clause-read : goal.returns-clause-read
returns-clause-read g c = λ kept fits recalls.
    set_read c.args.limits.now kept c.args.ext.now c.args.i c.descriptions_start.result c.read_slot.new.buf c.is_set.result c.descriptions_start.ensures (c.in_ok-read_slot.ensures.read kept fits recalls)
    c.is_set.ensures

pub returns-in_err-read_slot : goal.returns-in_err-read_slot
returns-in_err-read_slot g c = search rules
