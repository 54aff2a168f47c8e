use Rattle.lis_open.proofs.Common.{axiom_bytes, is_axiom, axiom_slots}
use Rattle.lis_open.proofs.BlocksRead.{few_blocks, read_as}
use Rattle.lis_open.proofs.axioms.read_axiom_slot.Goals as goal
use Rattle.std.proofs.Common.{arith}
use Rattle.lis_kept.proofs.Image.{same_homes, same_blocks}

pub read_slot-requires-clause-home : goal.read_slot-requires-clause-home
read_slot-requires-clause-home g c = omega (arith, c.axioms_start.ensures, same_homes c.requires.readable.image)

pub read_slot-requires-clause-few : goal.read_slot-requires-clause-few
read_slot-requires-clause-few g c = few_blocks c.args.limits.now _ c.requires.readable.range (same_blocks c.requires.readable.image)

pub returns-clause-read : goal.returns-clause-read
returns-clause-read g c = λ kept fits recalls.
    let limits = c.args.limits.now in
    let starts = c.axioms_start.ensures in
    let read = c.in_ok-read_slot.ensures.read kept fits recalls (axiom_slots limits).count in
    read_as axiom_bytes is_axiom (axiom_slots limits) kept c.args.k c.read_axiom.result c.read_slot.new.buf c.requires.k (rw starts at read) c.read_axiom.ensures.spelled c.read_axiom.ensures.same
