use Rattle.std.proofs.Common.{refl}
use Rattle.lis_taxonomy.proofs.Marks.{sound_empty}
use Rattle.lis_taxonomy.proofs.search.Search.new.Goals as goal

pub invariant_of-result : goal.invariant_of-result
invariant_of-result c = rw (c.in_ok-with_capacity.ensures.items, c.in_ok-new.ensures) (sound_empty _ _ refl c.in_ok-with_capacity.ensures.exact)
