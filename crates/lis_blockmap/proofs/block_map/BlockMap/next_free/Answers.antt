use Rattle.std.proofs.Common.{arith}
use Rattle.lis_blockmap.proofs.Taken.{length-taken_of, found_within, found_free, found_some, none_free_there, none_free_on, is_none, is_within, is_free, is_wrapped}
use Rattle.lis_blockmap.proofs.block_map.BlockMap.next_free.Goals as goal

pub returns-in-Some-clause-none : goal.returns-in-Some-clause-none
returns-in-Some-clause-none c =
    let m = c.self.inside in
    let found = c.in-Some.ensures in
    let some = found_some m.rows m.blocks m.free c.self.invariant c.in-Some.n found.true_bit found.in_row in
    rw (← c.self.view_is) (λ no. absurd cc, λ none. absurd (omega (arith, some, none)))

pub returns-in-Some-clause-within : goal.returns-in-Some-clause-within
returns-in-Some-clause-within c =
    let m = c.self.inside in
    let found = c.in-Some.ensures in
    rw (← c.self.view_is) (omega (arith, length-taken_of m.rows m.blocks, found_within m.rows m.blocks m.free c.self.invariant c.in-Some.n found.true_bit found.in_row))

pub returns-in-Some-clause-free : goal.returns-in-Some-clause-free
returns-in-Some-clause-free c =
    let m = c.self.inside in
    let found = c.in-Some.ensures in
    rw (← c.self.view_is) (found_free m.rows m.blocks m.free c.self.invariant c.in-Some.n found.true_bit found.in_row)

pub returns-in-Some-clause-next : goal.returns-in-Some-clause-next
returns-in-Some-clause-next c =
    let m = c.self.inside in
    let found = c.in-Some.ensures in
    let lt = found_within m.rows m.blocks m.free c.self.invariant c.in-Some.n found.true_bit found.in_row in
    rw (← c.self.view_is) (λ _. none_free_there m.rows m.blocks m.free c.self.invariant c.args.from c.in-Some.n (omega (arith, lt)) found.least)

pub returns-in-None-clause-none : goal.returns-in-None-clause-none
returns-in-None-clause-none c =
    let m = c.self.inside in
    let found = c.next-in-None.ensures in
    rw (← c.self.view_is) (is_none m.rows m.blocks m.free c.self.invariant c.next-in-None.result found.true_bit found.in_row found.none)

pub returns-in-None-clause-within : goal.returns-in-None-clause-within
returns-in-None-clause-within c =
    let m = c.self.inside in
    let found = c.next-in-None.ensures in
    rw (← c.self.view_is) (is_within m.rows m.blocks m.free c.self.invariant c.next-in-None.result found.true_bit found.in_row)

pub returns-in-None-clause-free : goal.returns-in-None-clause-free
returns-in-None-clause-free c =
    let m = c.self.inside in
    let found = c.next-in-None.ensures in
    rw (← c.self.view_is) (is_free m.rows m.blocks m.free c.self.invariant c.next-in-None.result found.true_bit found.in_row)

pub returns-in-None-clause-wraps : goal.returns-in-None-clause-wraps
returns-in-None-clause-wraps c =
    let m = c.self.inside in
    let found = c.next-in-None.ensures in
    rw (← c.self.view_is) (is_wrapped m.rows m.blocks m.free c.self.invariant c.next-in-None.result found.true_bit found.in_row c.args.from (none_free_on m.rows m.blocks m.free c.self.invariant c.args.from c.in-None.ensures.none) found.least)
