use Rattle.std.proofs.Common.{◌+◌, length, get_or, take, arith}
use Rattle.lis_ext.specs.Numbers.{has_number}
use Rattle.lis_ext.proofs.Touched.{more_of, same_before, counts_up}
use Rattle.lis_ext.proofs.tables.count_all.Goals as goal

pub overflow_add-counts : goal.overflow_add-counts
overflow_add-counts c =
    let l = c.loop-number in
    let numbers = c.args.numbers.now in
    let k = l.number-index in
    let q = get_or numbers k 0 in
    let lt = c.loop-number-test.true in
    let q_in = c.requires.in_counts k 0 lt in
    let more = more_of numbers k c.requires.rise lt in
    let same = same_before (has_number (take k numbers)) (has_number (take (k + 1) numbers)) q (length c.args.counts.now) q_in more c.args.counts.now l.counts l.invariant in
    let fit = c.requires.fit q q_in in
    omega arith

pub loop-number-preserved : goal.loop-number-preserved
loop-number-preserved c =
    let l = c.loop-number in
    let numbers = c.args.numbers.now in
    let k = l.number-index in
    let q = get_or numbers k 0 in
    let lt = c.loop-number-test.true in
    let q_in = c.requires.in_counts k 0 lt in
    let more = more_of numbers k c.requires.rise lt in
    counts_up (has_number (take k numbers)) (has_number (take (k + 1) numbers)) q (length c.args.counts.now) q_in more c.args.counts.now l.counts l.invariant (omega (arith, l.auto.counts))
