use Rattle.std.proofs.Common.{rules}
use Rattle.lis_table.proofs.table.all_ups.Goals as goal

pub returns-in_err-above : goal.returns-in_err-above
returns-in_err-above c = search rules

pub returns-in_err-push : goal.returns-in_err-push
returns-in_err-push c = search rules
