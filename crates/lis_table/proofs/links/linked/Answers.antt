use Rattle.std.proofs.Common.{rules}
use Rattle.lis_table.proofs.links.linked.Goals as goal

pub returns-in_err-insert_linked : goal.returns-in_err-insert_linked
returns-in_err-insert_linked c = search rules
