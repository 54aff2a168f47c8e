use Rattle.std.proofs.Common.{◌≡◌, [], length, get_or, unwrap_or, ap, arith}
use Rattle.lis_bits.specs.Rows.{get}
use Rattle.lis_bits.specs.Inside.{words_of}
use Rattle.lis_bits.proofs.View.{in_rows, run_in}
use Rattle.lis_bits.proofs.Joined.{seen_written, rows_joined}
use Rattle.lis_bits.proofs.rows.Rows.join_with.Goals as goal

pub join_with-requires-clause-to_in : goal.join_with-requires-clause-to_in
join_with-requires-clause-to_in g c =
    let inside = c.self.inside in
    let there = in_rows (words_of inside.region inside.frame) inside.rows inside.width c.args.to (rw (← c.self.view_is) at c.requires.to) in
    let bits = rw (← c.self.view_is) at c.requires.bits in
    omega (arith, run_in inside.rows inside.width c.args.to there, c.items_mut.ensures.width, c.self.invariant.wide)

pub returns : goal.returns
returns g c = λ join bitwise.
    let inside = c.self.inside in
    let words = words_of inside.region inside.frame in
    let to_in = in_rows words inside.rows inside.width c.args.to (rw (← c.self.view_is) at c.requires.to) in
    let bits = rw (← c.self.view_is) at c.requires.bits in
    let old = c.items_mut.result.now in
    let new = c.join_with.new.words in
    let others = c.words-others.result.now in
    let wide : length others ≡ inside.width = omega arith in
    let some = c.items_mut.ensures.value in
    let was = ap (λ o. unwrap_or o []) some in
    let joined = rw wide at c.join_with.ensures.joined in
    let rows = rows_joined old new inside.rows inside.width c.args.to _ join (λ i. get_or others i 0) (get c.args.other.now c.args.from)
    to_in c.join_with.ensures.fit c.words-others.ensures.fit joined.joined joined.around bitwise (λ b lt. c.words-others.ensures.words b (omega arith)) in
    rw (← c.self.view_is) (seen_written inside.region inside.frame inside.rows inside.width c.args.to inside.edits _ _ old new some c.items_mut.ensures.width c.join_with.auto.words (rw was rows) (omega arith) c.saturating_add-self-inside.ensures)
