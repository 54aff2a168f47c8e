use Rattle.std.proofs.Common.{◌≡◌, Some, None, get_or, slice_get, length, refl, sym, ap, ◌∙◌}
use Rattle.std.proofs.lemmas.Bool.{ltb-true}
use Rattle.std.proofs.lemmas.Option.{slice_get_read}
use Rattle.lis_catalog.specs.Catalog.{Catalog}
use Rattle.lis_catalog.specs.Inside.{Records}
use Rattle.lis_catalog.proofs.Held.{recorded, entry_there}
use Rattle.lis_catalog.proofs.catalog.Catalog.entry.Goals as goal

pub returns-in_err-record_at : goal.returns-in_err-record_at
returns-in_err-record_at c =
    let i = c.self.inside in
    let slot = c.in_ok-slot.field-0.now in
    let read = c.in_ok-slot.ensures.lookup in
    let at = slice_get_read c.deref.result.now (length c.deref.result.now) c.args.k slot refl (ltb-true c.args.k (length c.deref.result.now) (sym read.0)) read.1 in
    let none : get_or i.records.items slot None ≡ None = ap (λ (rs : Records). get_or rs slot None) (sym c.deref-2.ensures.value) ∙ c.in_err-record_at.ensures in
    absurd (recorded i.files _ i.records.items i.order.items c.self.invariant.held c.args.k slot (rw c.deref.ensures.value at at) none)

pub returns : goal.returns
returns c =
    let i = c.self.inside in
    let slot = c.in_ok-slot.field-0.now in
    let read = c.in_ok-slot.ensures.lookup in
    let at = slice_get_read c.deref.result.now (length c.deref.result.now) c.args.k slot refl (ltb-true c.args.k (length c.deref.result.now) (sym read.0)) read.1 in
    let there : get_or i.records.items slot None ≡ Some c.in_ok-record_at.field-0.now = ap (λ (rs : Records). get_or rs slot None) (sym c.deref-2.ensures.value) ∙ c.in_ok-record_at.ensures in
    sym (ap (λ (s : Catalog). slice_get s.entries c.args.k) c.self.view_is)
    ∙ entry_there i.files _ i.records.items i.order.items c.self.invariant.held c.args.k slot (rw c.deref.ensures.value at at) c.in_ok-record_at.field-0.now there
