use Rattle.std.proofs.Common.{◌%◌}
use Rattle.std.proofs.lemmas.Grind.{common_steps}
use Rattle.lis_open.proofs.Common.{◌≡◌, ℕ, ◌+◌, ◌*◌, ◌/◌, ◌<◌, ◌≤◌, length, arith}
use Rattle.lis_open.proofs.blocks.LastBlock.read_slot.Goals as goal

-- a slot is within its block
slot_within : (w k : ℕ) → 0 < w → 4096 % w ≡ 0 → w * (k % (4096 / w)) + w ≤ 4096
slot_within w k wide divides = grind (arith, common_steps)

pub overflow_mul-at : goal.overflow_mul-at
overflow_mul-at g c = omega (arith, slot_within (length c.args.buf.now) c.args.k c.requires.width c.requires.divides)

pub overflow_add-at : goal.overflow_add-at
overflow_add-at g c = omega (arith, slot_within (length c.args.buf.now) c.args.k c.requires.width c.requires.divides)

pub slice_bounds-copy_from_slice-end : goal.slice_bounds-copy_from_slice-end
slice_bounds-copy_from_slice-end g c = omega (arith, slot_within (length c.args.buf.now) c.args.k c.requires.width c.requires.divides)
