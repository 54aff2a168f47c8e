use Rattle.lis_open.proofs.Common.{◌≡◌, ◌∙◌, sym, arith, few_properties}
use Rattle.lis_open.proofs.AxiomsRead.{below_none, below_few, below_one_more, all_linked}
use Rattle.lis_open.proofs.axioms.link_tests.Goals as goal

pub loop-number-init : goal.loop-number-init
loop-number-init c = below_none c.args.words.now c.requires.words.are.dict c.args.limits.now.props c.args.taxonomy.now c.requires.heads

pub link_next-requires-clause-few : goal.link_next-requires-clause-few
link_next-requires-clause-few c = omega (arith, few_properties c.args.limits.now c.requires.range, c.requires.heads.props, c.loop-number.invariant.props)

pub link_next-requires-clause-room : goal.link_next-requires-clause-room
link_next-requires-clause-room c =
    let few =
    below_few c.args.words.now c.requires.words.are.dict c.args.limits.now.props c.loop-number.number c.args.taxonomy.now c.loop-number.taxonomy c.requires.heads c.loop-number.invariant in
    omega (arith, few, c.requires.words.counted, c.requires.words.props, c.requires.heads.props, c.loop-number.invariant.props, c.loop-number-test.true)

pub loop-number-preserved : goal.loop-number-preserved
loop-number-preserved c =
    below_one_more c.args.words.now c.loop-number.number c.args.taxonomy.now c.loop-number.taxonomy c.link_next.new.taxonomy c.loop-number.invariant c.link_next.ensures.linked c.link_next.ensures.ordered

pub returns : goal.returns
returns c =
    let end : c.loop-number.number ≡ c.args.limits.now.props = omega (arith, c.loop-number.auto.number-end, c.loop-number-test.false) in
    all_linked c.args.words.now c.requires.words.are.dict c.loop-number.number c.args.taxonomy.now c.loop-number.taxonomy (c.requires.words.props ∙ sym end) c.loop-number.invariant
