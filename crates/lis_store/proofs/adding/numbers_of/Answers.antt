use Rattle.lis_store.proofs.Common.{◌∙◌, ℕ, List, subst, arith}
use Rattle.lis_store.specs.Finding.{FindsWords}
use Rattle.lis_store.proofs.Found.{named_are_below, named_numbers, named_count}
use Rattle.lis_store.proofs.adding.numbers_of.Goals as goal

pub numbers_found-requires : goal.numbers_found-requires
numbers_found-requires c =
    let k = c.args.metadata.now in
    let words = c.args.words.now in
    let found = c.find_words.new.search in
    let finds = subst (λ (old : List ℕ). FindsWords k words old found) c.clear.ensures c.find_words.ensures in
    (omega arith, (k.limits.props, named_are_below k c.requires.sound words found finds, omega (arith, named_count k c.requires.sound words found finds, c.requires.few)))

pub returns : goal.returns
returns c =
    let k = c.args.metadata.now in
    let words = c.args.words.now in
    let found = c.find_words.new.search in
    let finds = subst (λ (old : List ℕ). FindsWords k words old found) c.clear.ensures c.find_words.ensures in
    c.numbers_found.ensures k.limits.props (named_are_below k c.requires.sound words found finds) ∙ named_numbers k c.requires.sound words found finds
