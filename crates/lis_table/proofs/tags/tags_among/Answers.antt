use Rattle.std.proofs.Common.{rules}
use Rattle.lis_table.proofs.tags.tags_among.Goals as goal

pub returns-in_err-push : goal.returns-in_err-push
returns-in_err-push c = search rules
