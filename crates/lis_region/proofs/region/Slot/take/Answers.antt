use Rattle.std.proofs.Common.{◌≡◌, length, vec_len, Some, ap, sym, ◌∙◌, arith}
use Rattle.lis_region.proofs.Slots.{all_same}
use Rattle.lis_region.proofs.Frames.{refill_same}
use Rattle.lis_region.proofs.region.Slot.take.Goals as goal

pub returns-clause-items : goal.returns-clause-items
returns-clause-items g c =
    let items = c.args.self.now.items in
    let all = all_same c.args.fill c.loop-item.item-items (λ k lt. c.loop-item.invariant k (omega arith)) in
    let len : length c.loop-item.item-items ≡ vec_len items = omega (arith, items.ok.0) in
    ap Some (refill_same items.len items.items c.loop-item.item-items (sym items.ok.0) len ∙ all ∙ rw len)
