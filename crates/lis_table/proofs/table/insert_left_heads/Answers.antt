use Rattle.std.proofs.Common.{rules}
use Rattle.lis_table.proofs.table.insert_left_heads.Goals as goal

pub returns-in_err-insert_head : goal.returns-in_err-insert_head
returns-in_err-insert_head c = search rules
