use Rattle.lis_open.proofs.Common.{arith, prop_bytes, is_prop, property_slots}
use Rattle.lis_kept.proofs.InArea.{whole_properties}
use Rattle.lis_open.proofs.BlocksRead.{few_blocks, read_as}
use Rattle.lis_open.proofs.words.read_property.Goals as goal
use Rattle.lis_kept.proofs.Image.{same_homes, same_blocks}

pub read_slot-requires-clause-home : goal.read_slot-requires-clause-home
read_slot-requires-clause-home g c = omega (arith, same_homes c.requires.readable.image)

pub read_slot-requires-clause-within : goal.read_slot-requires-clause-within
read_slot-requires-clause-within g c = omega (arith, whole_properties c.args.limits.now c.requires.readable.range, c.requires.number, same_blocks c.requires.readable.image)

pub read_slot-requires-clause-few : goal.read_slot-requires-clause-few
read_slot-requires-clause-few g c = few_blocks c.args.limits.now _ c.requires.readable.range (same_blocks c.requires.readable.image)

pub returns-clause-read : goal.returns-clause-read
returns-clause-read g c = λ kept fits recalls.
    let limits = c.args.limits.now in
    let starts = c.properties_start.ensures in
    let read = c.in_ok-read_slot.ensures.read kept fits recalls limits.props in
    read_as prop_bytes is_prop (property_slots limits) kept c.args.number c.read_prop.result c.read_slot.new.buf c.requires.number (rw starts at read) c.read_prop.ensures.spelled c.read_prop.ensures.same
