use Rattle.std.proofs.Common.{refl, ap, false, arith}
use Rattle.std.proofs.lemmas.List.{map-set}
use Rattle.lis_region.specs.Inside.{slot_items}
use Rattle.lis_region.proofs.Slots.{sound_given}
use Rattle.lis_region.proofs.region.Region.give.Goals as goal

pub invariant_of-self : goal.invariant_of-self
invariant_of-self g c =
    let has = rw (← c.self.view_is, ← c.frame.view_is) at c.requires in
    sound_given c.self.inside.slots.items c.self.inside.order.items c.self.inside.free c.self.inside.width c.frame.inside.number c.index_mut.result.now (record { is_taken = false; items = c.index_mut.result.now.items }) c.index_mut.ensures.value refl has refl c.self.invariant

pub returns-clause-given : goal.returns-clause-given
returns-clause-given g c =
    let frames = map-set slot_items c.self.inside.slots.items c.frame.inside.number (record { is_taken = false; items = c.index_mut.result.now.items }) in
    rw (← c.self.view_is, ← c.frame.view_is) (ap (λ fs. record { width = c.self.inside.width; fill = c.self.inside.fill; frames = fs }) frames)

pub returns-clause-more : goal.returns-clause-more
returns-clause-more g c =
    let has = rw (← c.self.view_is, ← c.frame.view_is) at c.requires in
    let old = c.self.invariant in
    let new = sound_given c.self.inside.slots.items c.self.inside.order.items c.self.inside.free c.self.inside.width c.frame.inside.number c.index_mut.result.now (record { is_taken = false; items = c.index_mut.result.now.items }) c.index_mut.ensures.value refl has refl old in
    rw (← c.self.view_is) (omega (arith, old.free_first.counted, new.free_first.counted))
