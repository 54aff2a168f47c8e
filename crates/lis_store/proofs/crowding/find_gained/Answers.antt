use Rattle.lis_store.proofs.Closed.{all_within, gained_found}
use Rattle.lis_store.proofs.crowding.find_gained.Goals as goal

pub find_all-requires : goal.find_all-requires
find_all-requires c = all_within c.args.metadata.now c.requires.sound c.taxonomy.result.now c.taxonomy.ensures c.args.numbers.now c.requires.named

pub returns : goal.returns
returns c =
    let found = c.find_all.ensures in
    gained_found c.args.metadata.now c.requires.sound c.taxonomy.result.now c.taxonomy.ensures c.args.numbers.now c.find_all.new.search c.requires.named found.found found.below found.count
