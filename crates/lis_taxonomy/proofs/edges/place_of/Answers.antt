use Rattle.std.proofs.Common.{rules}
use Rattle.std.proofs.lemmas.List.Sorted.{IsPartitionPoint-from_clause}
use Rattle.lis_taxonomy.proofs.Places.{is_before, parted, is_place}
use Rattle.lis_taxonomy.proofs.edges.place_of.Goals as goal

pub returns : goal.returns
returns c =
    let a = c.args in
    let point = IsPartitionPoint-from_clause (is_before a.p a.q) _ _ c.partition_point.ensures.partitioned (parted a.edges.now c.requires.order.0 c.requires.order.1 a.p a.q c.requires.q) (λ x r f k. search rules) in
    is_place a.edges.now c.requires.order.0 c.requires.order.1 a.p a.q c.requires.q c.partition_point.result c.partition_point.ensures.bound point
