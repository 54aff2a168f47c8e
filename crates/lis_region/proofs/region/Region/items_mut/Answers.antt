use Rattle.std.proofs.Common.{refl, ap, ◌∙◌}
use Rattle.std.specs.Vec.{with_items}
use Rattle.lis_region.proofs.Slots.{sound_written, frames_lent, items_at, width_in}
use Rattle.lis_region.proofs.region.Region.items_mut.Goals as goal

pub invariant_of-self-lent : goal.invariant_of-self-lent
invariant_of-self-lent g c = λ w.
    let has = rw (← c.self.view_is, ← c.frame.view_is) at c.requires in
    let slot = c.index_mut-slot.result.now in
    sound_written c.self.inside.slots.items c.self.inside.order.items c.self.inside.free c.self.inside.width c.frame.inside.number slot (record { is_taken = slot.is_taken; items = with_items slot.items w }) c.index_mut-slot.ensures.value refl has refl c.self.invariant

pub returns : goal.returns
returns g c =
    let slots = c.self.inside.slots.items in
    let n = c.frame.inside.number in
    let slot = c.index_mut-slot.result.now in
    let has = rw (← c.self.view_is, ← c.frame.view_is) at c.requires in
    let at = c.index_mut-slot.ensures.value in
    let wide = width_in slots n slot at has c.self.invariant.widths in (
      (refl, λ w. rw (← c.self.view_is, ← c.frame.view_is) (ap (λ fs. record { width = c.self.inside.width; fill = c.self.inside.fill; frames = fs }) (frames_lent slots n c.self.inside.width slot w has at wide))),
      record { writes_back = tt; value = rw (← c.self.view_is, ← c.frame.view_is) (rw c.as_mut_slice.ensures.value (items_at slots n slot has at)); width = rw (← c.self.view_is) (c.as_mut_slice.ensures.len ∙ wide) },
    )
