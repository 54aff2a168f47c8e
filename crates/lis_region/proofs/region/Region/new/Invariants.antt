use Rattle.lis_region.specs.Inside.{IsMade}
use Rattle.lis_region.proofs.region.Region.new.Given as goal

abbrev pub invariant-loop-number : goal.invariant-loop-number
invariant-loop-number g l = IsMade l.slots.items l.order.items l.number l.width
