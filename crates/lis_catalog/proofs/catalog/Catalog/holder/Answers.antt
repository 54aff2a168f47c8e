use Rattle.std.proofs.Common.{◌<◌, length, sym, ap, ◌∙◌, refl, slice_get, arith}
use Rattle.std.proofs.lemmas.Option.{slice_get_read}
use Rattle.lis_catalog.proofs.Held.{named_at, none_named, seen_order, seen_length}
use Rattle.lis_catalog.proofs.catalog.Catalog.holder.Goals as goal

pub returns-in-Ok-clause-slot : goal.returns-in-Ok-clause-slot
returns-in-Ok-clause-slot c =
    let i = c.self.inside in
    let seen = c.args.self.now in
    let k = c.in-Ok.place in
    let low : k < length i.order.items = omega (arith, c.in-Ok.ensures.bound, seen_length i.files i.records.items i.order.items seen c.self.view_is) in
    sym (named_at seen c.args.name.now k c.in-Ok.ensures.bound c.in-Ok.ensures.place
    ∙ (ap (λ ns. slice_get ns k) (seen_order i.files i.records.items i.order.items seen c.self.view_is)
    ∙ slice_get_read i.order.items (length i.order.items) k c.index.result.now refl low c.index.ensures))

pub returns-in-Err-clause-slot : goal.returns-in-Err-clause-slot
returns-in-Err-clause-slot c = sym (none_named c.args.self.now c.args.name.now c.in-Err.field-0 c.in-Err.ensures.kept c.in-Err.ensures.place)
