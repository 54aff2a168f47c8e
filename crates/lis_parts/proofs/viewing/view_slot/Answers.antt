use Rattle.std.proofs.Common.{List, ℕ, ap, ◌∙◌}
use Rattle.lis_views.specs.Views.{view_of}
use Rattle.lis_parts.proofs.Loaded.{loaded_broke, loaded_then}
use Rattle.lis_parts.proofs.Viewed.{file_view}
use Rattle.lis_parts.proofs.viewing.view_slot.Goals as goal

pub returns-in-Err-clause-shows : goal.returns-in-Err-clause-shows
returns-in-Err-clause-shows g c = λ name is_slot.
    let e = c.in-Err.ensures in
    loaded_broke (λ state. file_view state name c.args.place.now) c.in-Err.field-0
    (record { disk = e.disk; fits = e.fits })

pub returns-clause-shows : goal.returns-clause-shows
returns-clause-shows g c = λ name is_slot.
    let e = c.in_default.ensures in
    let place = c.args.place.now in
    loaded_then (λ state. file_view state name place) c.in_default.field-0
    (record { disk = e.disk; fits = e.fits })
    (λ state fitting. ap (λ (bytes : List ℕ). view_of bytes place) (c.bytes.ensures.bytes ∙ e.loads state name fitting.own is_slot)) c.show_view.ensures
