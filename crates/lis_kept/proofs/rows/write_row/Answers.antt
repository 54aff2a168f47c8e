use Rattle.lis_kept.proofs.Common.{rules}
use Rattle.lis_bits.proofs.Numbers.{bytes_same}
use Rattle.lis_kept.proofs.Formed.{none_past}
use Rattle.lis_kept.proofs.Spelled.{row_bytes_none}
use Rattle.lis_kept.proofs.rows.write_row.Goals as goal

pub returns-then-number-props : goal.returns-then-number-props
returns-then-number-props c = search (rules, bytes_same)

pub returns : goal.returns
returns c = search (rules, row_bytes_none, none_past)
