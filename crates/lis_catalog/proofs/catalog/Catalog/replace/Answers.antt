use Rattle.std.proofs.Common.{◌≡◌, sym, ◌∙◌, ap, eq-eqb, refl}
use Rattle.lis_fields.specs.Records.{FileRecord}
use Rattle.lis_catalog.specs.Catalog.{slot_of}
use Rattle.lis_catalog.proofs.Laws.{slot_of-without_slot, rec_at-without_slot, slot_is_below, filtered_none, filtered_one}
use Rattle.lis_catalog.proofs.catalog.Catalog.replace.Goals as goal
use Rattle.lis_catalog.proofs.catalog.Catalog.replace.Goals.{in-Some+else-holder-slot, in_default}

pub place-requires-clause-below : goal.place-requires-clause-below
place-requires-clause-below c =
    rw c.remove.ensures.gone (slot_is_below c.args.self.now c.args.slot c.holder.ensures.kept c.requires)

pub place-requires-clause-free : goal.place-requires-clause-free
place-requires-clause-free c =
    rw c.remove.ensures.gone (rec_at-without_slot c.args.self.now c.args.slot c.args.slot ∙ rw (eq-eqb c.args.slot c.args.slot refl) refl)

pub place-requires-clause-new : goal.place-requires-clause-new
place-requires-clause-new c =
    let now = slot_of c.args.self.now c.args.rec.name in
    let same : now ≡ c.holder.result = sym (c.holder.ensures.slot ∙ ap (λ (r : FileRecord). slot_of c.args.self.now r.name) c.rec.view_is) in
    rw c.remove.ensures.gone (slot_of-without_slot c.args.self.now c.args.slot c.args.rec.name c.holder.ensures.kept
    ∙ elim c.match-holder.branch [
      | in-Some+else-holder-slot w ↦ filtered_one c.args.slot w.in-Some.holder now (same ∙ w.in-Some.is) w.if-holder-slot.false
      | in_default w ↦ filtered_none c.args.slot now (same ∙ w.in_default.is)
    ])
