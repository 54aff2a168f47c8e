use Rattle.std.proofs.Common.{arith}
use Rattle.lis_line.proofs.Whole.{no_line, line_within, first_line, behind_feed}
use Rattle.lis_line.proofs.ahead.first_line.Goals as goal

pub returns-then-count-bytes : goal.returns-then-count-bytes
returns-then-count-bytes c = no_line c.args.bytes.now c.line_len-count.result c.line_len-count.ensures c.if-count-bytes.true

pub split_at-requires : goal.split_at-requires
split_at-requires c = line_within c.args.bytes.now c.line_len-count.result c.line_len-count.ensures

pub returns : goal.returns
returns c =
    let bytes = c.args.bytes.now in
    let count = c.line_len-count.result in
    let within = line_within bytes count c.line_len-count.ensures in
    let split = first_line bytes count c.line_len-count.ensures (omega (arith, within, c.if-count-bytes.false)) in
    rw (behind_feed c.split_at.result.1.now, c.split_at.ensures.front, c.split_at.ensures.back) split
