use Rattle.std.proofs.Common.{[], ap, ◌∙◌}
use Rattle.std.specs.List.{list_all, fold}
use Rattle.lis_table.specs.Truth.{with_value}
use Rattle.lis_table.proofs.Stacks.{truth_of}
use Rattle.lis_table.proofs.truth.holds_all.Goals as goal

pub returns : goal.returns
returns g c =
    let entry = g.D.Described.entry c.args.described.now in
    c.are_all_true.ensures
    ∙ ap (list_all (λ v. v)) (c.values_of-values.ensures ∙ ap (fold (with_value entry) []) c.nodes.ensures.nodes)
    ∙ truth_of c.args.place.now entry
