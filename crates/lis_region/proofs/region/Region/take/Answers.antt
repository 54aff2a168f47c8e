use Rattle.std.proofs.Common.{◌≡◌, ◌+◌, ◌-◌, arith, ap, ◌∙◌}
use Rattle.std.proofs.lemmas.List.{map-set}
use Rattle.lis_region.specs.Inside.{slot_items}
use Rattle.lis_region.proofs.Slots.{sound_taken, last_free, width_at}
use Rattle.lis_region.proofs.region.Region.take.Goals as goal

pub invariant_of-self : goal.invariant_of-self
invariant_of-self g c =
    let inside = c.self.inside in
    let free = inside.free - 1 in
    let one : free + 1 ≡ inside.free = omega arith in
    let last = last_free inside.slots.items inside.order.items inside.free inside.width c.index-number.result.now c.index-number.ensures (omega arith) c.self.invariant in
    sound_taken inside.slots.items inside.order.items free inside.width c.index-number.result.now c.index_mut-slot.result.now c.take.new.self c.index_mut-slot.ensures.value c.take.ensures.width _ last.0 last.1 c.take.ensures.items (rw one c.self.invariant)

pub returns-clause-taken : goal.returns-clause-taken
returns-clause-taken g c =
    let inside = c.self.inside in
    let slots = inside.slots.items in
    let n = c.index-number.result.now in
    let last = last_free slots inside.order.items inside.free inside.width n c.index-number.ensures (omega arith) c.self.invariant in
    let wide = width_at slots n c.index_mut-slot.result.now c.index_mut-slot.ensures.value last.1 c.self.invariant.widths in
    rw (← c.self.view_is) (ap (λ fs. record { width = inside.width; fill = inside.fill; frames = fs }) (map-set slot_items slots n c.take.new.self ∙ rw (c.take.ensures.items, wide)))

pub returns-clause-fewer : goal.returns-clause-fewer
returns-clause-fewer g c =
    let inside = c.self.inside in
    let free = inside.free - 1 in
    let one : free + 1 ≡ inside.free = omega arith in
    let old = c.self.invariant in
    let last = last_free inside.slots.items inside.order.items inside.free inside.width c.index-number.result.now c.index-number.ensures (omega arith) old in
    let new = sound_taken inside.slots.items inside.order.items free inside.width c.index-number.result.now c.index_mut-slot.result.now c.take.new.self c.index_mut-slot.ensures.value c.take.ensures.width _ last.0 last.1 c.take.ensures.items (rw one old) in
    rw (← c.self.view_is) (omega (arith, old.free_first.counted, new.free_first.counted))
