use Rattle.std.proofs.Common.{◌<◌, ◌*◌, ◌+◌, ◌/◌, [], unwrap_or, length, ap, arith, length-set}
use Rattle.lis_bits.specs.Inside.{words_of}
use Rattle.lis_bits.proofs.View.{in_rows, place_in}
use Rattle.lis_bits.proofs.Joined.{seen_written, rows_put}
use Rattle.lis_bits.proofs.rows.Rows.put.Goals as goal

pub offset_bounds-items_mut-place : goal.offset_bounds-items_mut-place
offset_bounds-items_mut-place c =
    let inside = c.self.inside in
    let lt = in_rows (words_of inside.region inside.frame) inside.rows inside.width c.args.row (rw (← c.self.view_is) at c.requires.row) in
    let in_row : c.args.bit < 64 * inside.width = rw (← c.self.view_is) at c.requires.bit in
    omega (arith, place_in inside.rows inside.width c.args.row c.args.bit lt in_row, c.self.invariant.small)

pub bounds-items_mut-place : goal.bounds-items_mut-place
bounds-items_mut-place c =
    let inside = c.self.inside in
    let lt = in_rows (words_of inside.region inside.frame) inside.rows inside.width c.args.row (rw (← c.self.view_is) at c.requires.row) in
    let in_row : c.args.bit < 64 * inside.width = rw (← c.self.view_is) at c.requires.bit in
    omega (arith, place_in inside.rows inside.width c.args.row c.args.bit lt in_row, c.items_mut.ensures.width, c.self.invariant.wide)

pub returns : goal.returns
returns c =
    let inside = c.self.inside in
    let words = words_of inside.region inside.frame in
    let lt = in_rows words inside.rows inside.width c.args.row (rw (← c.self.view_is) at c.requires.row) in
    let in_row : c.args.bit < 64 * inside.width = rw (← c.self.view_is) at c.requires.bit in
    let old = c.items_mut.result.now in
    let place = c.args.row * inside.width + c.args.bit / 64 in
    let there : place < length old = omega (arith, place_in inside.rows inside.width c.args.row c.args.bit lt in_row, c.items_mut.ensures.width, c.self.invariant.wide) in
    let some = c.items_mut.ensures.value in
    let was = ap (λ o. unwrap_or o []) some in
    let rows = rows_put old inside.rows inside.width c.args.row c.args.bit c.with_bit.result c.args.value lt in_row there c.with_bit.ensures in
    rw (← c.self.view_is) (seen_written inside.region inside.frame inside.rows inside.width c.args.row inside.edits _ _ old _ some c.items_mut.ensures.width (length-set old place c.with_bit.result) (rw was rows) (omega arith) c.saturating_add-self-inside.ensures)
