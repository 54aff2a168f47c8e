use Rattle.std.proofs.Common.{◌<◌, [], unwrap_or, ap, arith}
use Rattle.lis_bits.specs.Inside.{words_of}
use Rattle.lis_bits.proofs.View.{in_rows, run_in, get-row_part, row_part}
use Rattle.lis_bits.proofs.rows.Rows.words.Goals as goal

-- the row has its words
there : (c : goal.After-items-words) → c.args.row < c.self.inside.rows
there c = in_rows (words_of c.self.inside.region c.self.inside.frame) c.self.inside.rows c.self.inside.width c.args.row (rw (← c.self.view_is) at c.requires)

pub offset_bounds-words-start : goal.offset_bounds-words-start
offset_bounds-words-start c = omega (arith, run_in c.self.inside.rows c.self.inside.width c.args.row (there c), c.self.invariant.small)

pub slice_bounds-result-end : goal.slice_bounds-result-end
slice_bounds-result-end c = omega (arith, run_in c.self.inside.rows c.self.inside.width c.args.row (there c), c.items-words.ensures.width, c.self.invariant.wide)

pub returns-clause-words : goal.returns-clause-words
returns-clause-words c =
    let inside = c.self.inside in
    let words = words_of inside.region inside.frame in
    let lt = in_rows words inside.rows inside.width c.args.row (rw (← c.self.view_is) at c.requires) in
    let same = ap (λ o. unwrap_or o []) c.items-words.ensures.value in
    rw (← c.self.view_is) (rw (← same) (get-row_part words inside.rows inside.width c.args.row lt))

pub returns-clause-row : goal.returns-clause-row
returns-clause-row c =
    let inside = c.self.inside in
    let words = words_of inside.region inside.frame in
    let lt = in_rows words inside.rows inside.width c.args.row (rw (← c.self.view_is) at c.requires) in
    let same = ap (λ o. unwrap_or o []) c.items-words.ensures.value in
    rw (← c.self.view_is) (rw (← same) (row_part words inside.rows inside.width c.args.row lt))
