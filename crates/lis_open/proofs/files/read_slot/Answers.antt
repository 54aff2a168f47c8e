use Rattle.lis_open.proofs.Common.{arith, file_bytes, is_file, file_slots}
use Rattle.lis_kept.proofs.InArea.{whole_files}
use Rattle.lis_open.proofs.BlocksRead.{few_blocks, read_as}
use Rattle.lis_open.proofs.files.read_slot.Goals as goal
use Rattle.lis_kept.proofs.Image.{same_homes, same_blocks}

pub read_slot-requires-clause-home : goal.read_slot-requires-clause-home
read_slot-requires-clause-home g c = omega (arith, c.files_start.ensures, same_homes c.requires.readable.image)

pub read_slot-requires-clause-within : goal.read_slot-requires-clause-within
read_slot-requires-clause-within g c = omega (arith, whole_files c.args.limits.now c.requires.readable.range, c.files_start.ensures, c.requires.slot, same_blocks c.requires.readable.image)

pub read_slot-requires-clause-few : goal.read_slot-requires-clause-few
read_slot-requires-clause-few g c = few_blocks c.args.limits.now _ c.requires.readable.range (same_blocks c.requires.readable.image)

pub returns-clause-read : goal.returns-clause-read
returns-clause-read g c = λ kept fits recalls.
    let limits = c.args.limits.now in
    let starts = c.files_start.ensures in
    let read = c.in_ok-read_slot.ensures.read kept fits recalls limits.files in
    read_as (file_bytes limits.version) (is_file limits) (file_slots limits) kept c.args.slot c.read_file.result c.read_slot.new.buf c.requires.slot (rw starts at read) c.read_file.ensures.spelled c.read_file.ensures.same
