use Rattle.std.proofs.Common.{List, ℕ, Option, sym, ap, ◌∙◌, slice_get, option_to_list}
use Rattle.std.specs.List.{flat_map}
use Rattle.lis_model.specs.State.{State}
use Rattle.lis_dump.specs.Showing.{entry_axioms}
use Rattle.lis_dump.proofs.Paging.{paged_none, paged_same}
use Rattle.lis_dump.proofs.axioms.show_axioms_at.Goals as goal

pub returns-in_default : goal.returns-in_default
returns-in_default g c =
    let k = c.args.store.now.metadata in
    let none = ap (λ (o : Option (List ℕ × ℕ)). flat_map (entry_axioms k) (option_to_list o)) (sym c.word_at.ensures ∙ c.in_default.is) in
    paged_same (λ (state : State). flat_map (entry_axioms k) (option_to_list (slice_get k.dict.entries c.args.k))) (λ state fitting. sym none)
    (paged_none (g.T.Disk.meaning c.args.station.now) c.args.page.now.items)
