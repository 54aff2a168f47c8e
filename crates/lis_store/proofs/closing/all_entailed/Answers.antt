use Rattle.lis_store.proofs.Common.{◌∙◌, length, ap, arith, few_properties}
use Rattle.lis_store.proofs.Closed.{found_closure}
use Rattle.lis_store.proofs.closing.all_entailed.Goals as goal

pub numbers_found-requires : goal.numbers_found-requires
numbers_found-requires c =
    let k = c.args.metadata.now in
    let found = c.find_gained.ensures in
    let same = ap length (found_closure k c.args.numbers.now c.find_gained.new.search found) in
    (omega arith, (k.limits.props, record { few = few_properties k.limits c.requires.sound.range; below = found.below }, omega (arith, same, c.requires.few)))

pub returns : goal.returns
returns c =
    let k = c.args.metadata.now in
    let found = c.find_gained.ensures in
    c.numbers_found.ensures k.limits.props (record { few = few_properties k.limits c.requires.sound.range; below = found.below })
    ∙ found_closure k c.args.numbers.now c.find_gained.new.search found
