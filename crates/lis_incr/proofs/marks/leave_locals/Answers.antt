use Rattle.std.proofs.Common.{◌<◌, arith}
use Rattle.lis_bits.specs.Rows.{get}
use Rattle.lis_bits.proofs.Laws.{row_sets}
use Rattle.lis_incr.specs.Marked.{found_files}
use Rattle.lis_incr.proofs.Marked.{locals_none, locals_more, left_all}
use Rattle.lis_incr.proofs.marks.leave_locals.Goals as goal

pub loop-slot-init : goal.loop-slot-init
loop-slot-init g c =
    let v = g.V.View.seen c.args.view.now in
    let found = c.args.found.now in
    locals_none v (found_files v found) c.requires.kept found c.args.locals.now c.copy_row.new.to (row_sets c.args.locals.now c.copy_row.new.to 1 v.limits.files 0 (get found 0) c.requires.locals (omega arith) c.copy_row.ensures)

pub loop-slot-preserved : goal.loop-slot-preserved
loop-slot-preserved g c =
    let v = g.V.View.seen c.args.view.now in
    let found = c.args.found.now in
    let files = found_files v found in
    let l = c.loop-slot in
    let low : l.slot < v.limits.files = omega (arith, c.loop-slot-test.true, c.requires.files) in
    let own = c.take_covered.ensures in
    locals_more v files c.requires.kept found l.locals c.take_covered.new.locals l.slot l.invariant low own.shape own.others (λ f here placed. own.own files f c.requires.candidates here placed)

pub returns : goal.returns
returns g c =
    let v = g.V.View.seen c.args.view.now in
    let found = c.args.found.now in
    left_all v (found_files v found) c.requires.kept found c.loop-slot.locals c.loop-slot.slot (omega (arith, c.loop-slot-test.false, c.loop-slot.auto.slot-end, c.requires.files)) c.loop-slot.invariant
