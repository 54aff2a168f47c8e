use Rattle.lis_open.proofs.Common.{rules, inr, ◌*◌, arith}
use Rattle.lis_open.proofs.Opening.{short_opened, no_super_opened, super_read, none_read}
use Rattle.lis_open.proofs.mounting.read_limits.Goals as goal

pub returns-in_default-clause-ended : goal.returns-in_default-clause-ended
returns-in_default-clause-ended g c = λ honest.
    let old = g.D.Disk.meaning c.args.disk.now in
    no_super_opened old (g.D.Disk.meaning c.read_at.new.self) (omega (arith, c.len-len.ensures, c.if-len.false))
    (none_read old.bytes c.read_at.new.buf c.read_super.result c.in_default.is (c.in_ok-read_at.ensures.read honest) c.read_super.ensures.same) (c.read_at.ensures.same honest)

pub returns-then-len-need-clause-ended : goal.returns-then-len-need-clause-ended
returns-then-len-need-clause-ended g c = λ honest.
    let old = g.D.Disk.meaning c.args.disk.now in
    let need = c.from.result * 4096 in
    let super = super_read old.bytes c.read_at.new.buf c.in-Some.limits (c.in_ok-read_at.ensures.read honest) c.in-Some.ensures.spelled in
    short_opened old (g.D.Disk.meaning c.read_at.new.self) c.len-len.result need c.len-len.ensures (omega (arith, c.if-len-need.true)) (inr (c.in-Some.limits, super, omega (arith, c.from.ensures, c.image_blocks.ensures))) (c.read_at.ensures.same honest)

pub returns-clause-ended : goal.returns-clause-ended
returns-clause-ended g c = λ honest.
    let old = g.D.Disk.meaning c.args.disk.now in
    super_read old.bytes c.read_at.new.buf c.in-Some.limits (c.in_ok-read_at.ensures.read honest) c.in-Some.ensures.spelled

pub image_blocks-requires : goal.image_blocks-requires
image_blocks-requires g c = c.in-Some.ensures.spelled.0

pub returns-clause-range : goal.returns-clause-range
returns-clause-range g c = c.in-Some.ensures.spelled.0

pub returns-in_err-read_at : goal.returns-in_err-read_at
returns-in_err-read_at g c = search rules
