use Rattle.lis_open.proofs.Common.{refl, ◌∙◌, sym, ap, ◌||◌, Some, arith, get, is_left_of, is_left_head_of, Rows}
use Rattle.lis_open.proofs.Lefts.{left_marked, both_marked}
use Rattle.lis_open.proofs.AxiomsRead.{head_below}
use Rattle.lis_open.proofs.checks.mark_left.Goals as goal

pub put-requires-2-clause-bit : goal.put-requires-2-clause-bit
put-requires-2-clause-bit c =
    let d = c.args.words.now.dict in
    let below = head_below d c.requires.words.dict c.in-Pair.left (Some c.in-Some.head) d.props c.in-Some.ensures refl in
    let wide = ap (λ (r : Rows). r.bits) c.put.ensures in
    omega (arith, below, c.requires.shape.wide, wide)

pub returns-in_default-head_number-clause-bits : goal.returns-in_default-head_number-clause-bits
returns-in_default-head_number-clause-bits c = λ n below.
    let d = c.args.words.now.dict in
    left_marked d c.requires.words.dict c.in-Pair.left n c.args.row.now c.put.new.self d.props c.requires.shape c.put.ensures (sym c.head_number.ensures ∙ c.in_default-head_number.is) below
    ∙ ap (λ slot. get c.args.row.now 0 n || (is_left_of n slot || is_left_head_of d n slot)) (sym c.in-Pair.is)

pub returns-clause-bits : goal.returns-clause-bits
returns-clause-bits c = λ n below.
    let d = c.args.words.now.dict in
    both_marked d c.requires.words.dict c.in-Pair.left n c.args.row.now c.put.new.self c.put-2.new.self d.props c.in-Some.head c.requires.shape c.put.ensures
    (sym c.in-Some.ensures) c.put-2.ensures below
    ∙ ap (λ slot. get c.args.row.now 0 n || (is_left_of n slot || is_left_head_of d n slot)) (sym c.in-Pair.is)
