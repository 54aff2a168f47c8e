use Rattle.lis_open.proofs.Common.{◌||◌, ◌∙◌, ap, arith, take_all, list_any, is_left_of, is_left_head_of}
use Rattle.lis_open.proofs.Lefts.{shaped, no_bit_set}
use Rattle.lis_open.proofs.checks.mark_lefts.Goals as goal

pub loop-slot-init : goal.loop-slot-init
loop-slot-init c =
    let props = c.args.words.now.dict.props in
    record {
      shape = shaped c.args.row.now 1 props 0 _ c.fill.new.self c.requires.shape c.fill.ensures;
      bits = λ n below. no_bit_set c.args.row.now c.fill.new.self props n c.requires.shape c.fill.ensures below;
    }

pub returns-clause-bits : goal.returns-clause-bits
returns-clause-bits c = λ n below.
    let items = c.args.axioms.now.slots.items in
    c.loop-slot.invariant.bits n below
    ∙ ap (list_any (λ slot. is_left_of n slot || is_left_head_of c.args.words.now.dict n slot)) (take_all c.loop-slot.slot-index items (omega arith))
