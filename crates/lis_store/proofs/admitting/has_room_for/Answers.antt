use Rattle.lis_store.proofs.Common.{arith, common_steps}
use Rattle.lis_store.proofs.admitting.has_room_for.Goals as goal

pub returns-then-file_count-limits : goal.returns-then-file_count-limits
returns-then-file_count-limits c = grind (arith, common_steps)

pub returns-then-measure : goal.returns-then-measure
returns-then-measure c = grind (arith, common_steps)

pub returns-then-measure-limits : goal.returns-then-measure-limits
returns-then-measure-limits c = grind (arith, common_steps)

pub returns-then-blocks_taken-from : goal.returns-then-blocks_taken-from
returns-then-blocks_taken-from c = grind (arith, common_steps)

pub returns : goal.returns
returns c = grind (arith, common_steps)
