use Rattle.lis_store.proofs.Common.{◌∙◌, ◌++◌, arith, all_up, met_tests, declared_of, axioms_of}
use Rattle.lis_store.proofs.Found.{named_numbers, named_count}
use Rattle.lis_store.proofs.adding.numbers_entailed.Goals as goal

pub numbers_found-requires : goal.numbers_found-requires
numbers_found-requires c =
    let k = c.args.metadata.now in
    let words = c.args.assigned.now ++ c.args.derived.now ++ met_tests (declared_of k) c.args.size in
    let count = named_count k c.requires.sound (all_up (declared_of k) (axioms_of k) words) c.find_description.new.search c.find_description.ensures.named in
    (omega arith, (k.limits.props, c.find_description.ensures.below, omega (arith, count, c.requires.few)))

pub returns : goal.returns
returns c =
    let k = c.args.metadata.now in
    let words = c.args.assigned.now ++ c.args.derived.now ++ met_tests (declared_of k) c.args.size in
    c.numbers_found.ensures k.limits.props c.find_description.ensures.below
    ∙ named_numbers k c.requires.sound (all_up (declared_of k) (axioms_of k) words) c.find_description.new.search c.find_description.ensures.named
