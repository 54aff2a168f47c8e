use Rattle.lis_blockmap.proofs.Taken.{none_taken, sound_at_first}
use Rattle.lis_blockmap.proofs.block_map.BlockMap.new.Goals as goal

pub invariant_of-result : goal.invariant_of-result
invariant_of-result c = sound_at_first c.in_ok-free_row.field-0 c.args.blocks c.in_ok-free_row.ensures c.requires.few

pub returns : goal.returns
returns c = none_taken c.in_ok-free_row.field-0 c.args.blocks c.in_ok-free_row.ensures
