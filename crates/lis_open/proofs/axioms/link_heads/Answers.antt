use Rattle.lis_open.proofs.Common.{arith}
use Rattle.lis_open.proofs.AxiomsRead.{head_below, head_apart, heads_few, none_to, linked_more, linked_none}
use Rattle.lis_open.proofs.axioms.link_heads.Goals as goal

pub loop-number-init : goal.loop-number-init
loop-number-init c = linked_none c.args.words.now c.args.taxonomy.now c.args.limits.now.props c.requires.words.props c.requires.none

pub link_head-requires-clause-head : goal.link_head-requires-clause-head
link_head-requires-clause-head c =
    head_below c.args.words.now.dict c.requires.words.are.dict c.loop-number.number c.head_number.result c.loop-number.taxonomy.props c.head_number.ensures c.loop-number.invariant.props

pub link_head-requires-clause-apart : goal.link_head-requires-clause-apart
link_head-requires-clause-apart c = head_apart c.args.words.now.dict c.requires.words.are.dict c.loop-number.number c.head_number.result c.head_number.ensures

pub link_head-requires-clause-to : goal.link_head-requires-clause-to
link_head-requires-clause-to c =
    none_to c.args.words.now c.requires.words.are.dict c.loop-number.number c.loop-number.taxonomy c.loop-number.invariant c.head_number.result c.head_number.ensures

pub link_head-requires-clause-room : goal.link_head-requires-clause-room
link_head-requires-clause-room c =
    let few = heads_few c.args.words.now c.requires.words.are.dict c.loop-number.number c.loop-number.taxonomy c.loop-number.invariant in
    omega (arith, few, c.requires.words.counted, c.requires.words.props, c.loop-number.invariant.props, c.loop-number-test.true)

pub loop-number-preserved : goal.loop-number-preserved
loop-number-preserved c =
    linked_more c.args.words.now c.requires.words.are.dict c.loop-number.number c.loop-number.taxonomy c.loop-number.invariant c.link_head.new.taxonomy (rw c.head_number.ensures at c.link_head.ensures)
