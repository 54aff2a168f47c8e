use Rattle.std.proofs.Common.{rules}
use Rattle.lis_table.proofs.links.insert_weaker_than.Goals as goal

pub returns-in_err-insert_word : goal.returns-in_err-insert_word
returns-in_err-insert_word c = search rules
