use Rattle.std.proofs.Common.{◌+◌, ◌*◌, [], false, get_or, unwrap_or, ap, arith}
use Rattle.lis_bits.specs.Inside.{words_of, rows_of}
use Rattle.lis_bits.proofs.View.{in_rows, run_in, runs_apart, get-rows_of}
use Rattle.lis_bits.proofs.Joined.{seen_written, rows_joined}
use Rattle.lis_bits.proofs.rows.Rows.join.Goals as goal

pub join-requires-clause-to_in : goal.join-requires-clause-to_in
join-requires-clause-to_in g c =
    let inside = c.self.inside in
    let there = in_rows (words_of inside.region inside.frame) inside.rows inside.width c.args.to (rw (← c.self.view_is) at c.requires.to) in
    omega (arith, run_in inside.rows inside.width c.args.to there, c.items_mut.ensures.width, c.self.invariant.wide)

pub join-requires-clause-from_in : goal.join-requires-clause-from_in
join-requires-clause-from_in g c =
    let inside = c.self.inside in
    let there = in_rows (words_of inside.region inside.frame) inside.rows inside.width c.args.from (rw (← c.self.view_is) at c.requires.from) in
    omega (arith, run_in inside.rows inside.width c.args.from there, c.items_mut.ensures.width, c.self.invariant.wide)

pub join-requires-clause-apart : goal.join-requires-clause-apart
join-requires-clause-apart g c = runs_apart c.self.inside.width c.args.to c.args.from

pub returns : goal.returns
returns g c = λ join bitwise.
    let inside = c.self.inside in
    let words = words_of inside.region inside.frame in
    let to_in = in_rows words inside.rows inside.width c.args.to (rw (← c.self.view_is) at c.requires.to) in
    let from_in = in_rows words inside.rows inside.width c.args.from (rw (← c.self.view_is) at c.requires.from) in
    let old = c.items_mut.result.now in
    let new = c.join.new.words in
    let some = c.items_mut.ensures.value in
    let was = ap (λ o. unwrap_or o []) some in
    let rows = rows_joined old new inside.rows inside.width c.args.to _ join (λ i. get_or old (c.args.from * inside.width + i) 0) (λ b. get_or (get_or (rows_of old inside.rows inside.width) c.args.from []) b false)
    to_in c.join.ensures.fit (λ i. c.join.ensures.fit (c.args.from * inside.width + i)) c.join.ensures.joined.joined c.join.ensures.joined.others bitwise (λ b lt. get-rows_of old inside.rows inside.width c.args.from b from_in lt) in
    rw (← c.self.view_is) (seen_written inside.region inside.frame inside.rows inside.width c.args.to inside.edits _ _ old new some c.items_mut.ensures.width c.join.auto.words (rw was rows) (omega arith) c.saturating_add-self-inside.ensures)
