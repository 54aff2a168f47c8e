use Rattle.std.proofs.Common.{rules}
use Rattle.lis_table.proofs.tags.words_of.Goals as goal

pub returns-in_err-insert_node : goal.returns-in_err-insert_node
returns-in_err-insert_node c = search rules
