use Rattle.std.proofs.Common.{refl}
use Rattle.lis_taxonomy.proofs.Seen.{sound_new}
use Rattle.lis_taxonomy.proofs.taxonomy.Taxonomy.new.Goals as goal

pub invariant_of-result : goal.invariant_of-result
invariant_of-result c = rw (c.in_ok-with_capacity.ensures.items, c.in_ok-new.ensures) (sound_new c.args.props _ _ refl c.requires c.in_ok-with_capacity.ensures.exact)
