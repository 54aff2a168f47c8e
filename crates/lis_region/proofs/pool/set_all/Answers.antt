use Rattle.std.proofs.Common.{◌≡◌, length, ◌∙◌, arith}
use Rattle.lis_region.proofs.Slots.{all_same}
use Rattle.lis_region.proofs.pool.set_all.Goals as goal

pub returns : goal.returns
returns g c =
    let len : length c.loop-item.items ≡ length c.args.items.now = omega arith in
    all_same c.args.fill c.loop-item.items (λ k lt. c.loop-item.invariant k (omega arith)) ∙ rw len
