use Rattle.lis_store.proofs.Found.{searched_numbers, starts_within, finds_all}
use Rattle.lis_store.proofs.finding.find_description.Goals as goal

pub close-requires : goal.close-requires
close-requires c =
    let k = c.args.metadata.now in
    let assigned = c.args.assigned.now in
    let own = c.args.own.now in
    let size = c.args.size in
    starts_within k c.requires assigned own size c.taxonomy.result.now c.taxonomy.ensures c.find_met.new.search
    (searched_numbers k c.requires assigned own size c.clear.new.self c.find_with_heads.new.search c.find_with_heads-2.new.search c.find_met.new.search
    c.clear.ensures c.find_with_heads.ensures c.find_with_heads-2.ensures c.find_met.ensures)

pub returns : goal.returns
returns c =
    let k = c.args.metadata.now in
    let assigned = c.args.assigned.now in
    let own = c.args.own.now in
    let size = c.args.size in
    finds_all k c.requires assigned own size c.taxonomy.result.now c.taxonomy.ensures c.find_met.new.search
    (searched_numbers k c.requires assigned own size c.clear.new.self c.find_with_heads.new.search c.find_with_heads-2.new.search c.find_met.new.search
    c.clear.ensures c.find_with_heads.ensures c.find_with_heads-2.ensures c.find_met.ensures)
    c.close.new.search c.close.ensures.found c.close.ensures.below c.close.ensures.count
