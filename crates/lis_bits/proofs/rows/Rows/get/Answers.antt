use Rattle.std.proofs.Common.{◌*◌, ◌<◌, [], ap, sym, unwrap_or, arith}
use Rattle.std.proofs.lemmas.Nat.Bits.{shr_and_one}
use Rattle.lis_bits.specs.Inside.{words_of}
use Rattle.lis_bits.proofs.View.{get-rows_of, in_rows, place_in}
use Rattle.lis_bits.proofs.rows.Rows.get.Goals as goal

pub offset_bounds-words-row : goal.offset_bounds-words-row
offset_bounds-words-row c =
    let inside = c.self.inside in
    let there = in_rows (words_of inside.region inside.frame) inside.rows inside.width c.args.row (rw (← c.self.view_is) at c.requires.row) in
    let in_row : c.args.bit < 64 * inside.width = rw (← c.self.view_is) at c.requires.bit in
    let small = c.self.invariant.small in
    omega (arith, place_in inside.rows inside.width c.args.row c.args.bit there in_row)

pub bounds-words-row : goal.bounds-words-row
bounds-words-row c =
    let inside = c.self.inside in
    let there = in_rows (words_of inside.region inside.frame) inside.rows inside.width c.args.row (rw (← c.self.view_is) at c.requires.row) in
    let in_row : c.args.bit < 64 * inside.width = rw (← c.self.view_is) at c.requires.bit in
    omega (arith, place_in inside.rows inside.width c.args.row c.args.bit there in_row, c.items-words.ensures.width, c.self.invariant.wide)

pub returns : goal.returns
returns c =
    let inside = c.self.inside in
    let same = ap (λ o. unwrap_or o []) c.items-words.ensures.value in
    let there = in_rows (words_of inside.region inside.frame) inside.rows inside.width c.args.row (rw (← c.self.view_is) at c.requires.row) in
    let in_row : c.args.bit < 64 * inside.width = rw (← c.self.view_is) at c.requires.bit in
    rw (shr_and_one, ← c.self.view_is) (rw same (sym (get-rows_of c.items-words.result.now inside.rows inside.width c.args.row c.args.bit there in_row)))
