use Rattle.std.proofs.Common.{rules}
use Rattle.lis_table.proofs.listing.push_increments.Goals as goal

pub returns-in_err-push_line : goal.returns-in_err-push_line
returns-in_err-push_line c = search rules
