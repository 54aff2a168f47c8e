use Rattle.std.proofs.Common.{rules}
use Rattle.lis_table.proofs.table.insert_descriptions.Goals as goal

pub returns-in_err-insert_words : goal.returns-in_err-insert_words
returns-in_err-insert_words c = search rules
