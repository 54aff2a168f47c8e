use Rattle.std.proofs.Common.{is_none, length, sym, ap, ◌∙◌}
use Rattle.std.specs.List.{position}
use Rattle.lis_catalog.specs.Catalog.{Catalog, rec_at}
use Rattle.lis_catalog.proofs.Taken.{taken_first}
use Rattle.lis_catalog.proofs.Held.{full, free_at}
use Rattle.lis_catalog.proofs.catalog.Catalog.free_slot.Goals as goal

pub returns-in_err-slot-clause-none : goal.returns-in_err-slot-clause-none
returns-in_err-slot-clause-none c =
    let i = c.self.inside in
    let all = full i.files _ i.records.items i.order.items c.self.invariant.held (sym (c.in_err-slot.ensures ∙ ap (position is_none) c.deref.ensures.value)) in
    rw c.from_residual.ensures (ap (λ (s : Catalog). length s.entries) (sym c.self.view_is) ∙ (all ∙ ap (λ (s : Catalog). s.files) c.self.view_is))

pub invariant_of-self : goal.invariant_of-self
invariant_of-self c =
    let i = c.self.inside in
    let first = c.in_ok-slot.ensures ∙ ap (position is_none) c.deref.ensures.value in
    record { held = c.self.invariant.held; taken = taken_first i.records.items c.in_ok-slot.field-0 (sym first) }

pub returns-clause-free : goal.returns-clause-free
returns-clause-free c =
    let i = c.self.inside in
    let first = c.in_ok-slot.ensures ∙ ap (position is_none) c.deref.ensures.value in
    ap (λ s. rec_at s c.in_ok-slot.field-0) (sym c.self.view_is) ∙ (free_at i.files _ i.records.items i.order.items c.self.invariant.held c.in_ok-slot.field-0 (sym first)).1
