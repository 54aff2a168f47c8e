use Rattle.std.proofs.Common.{ap, sym, ◌∙◌}
use Rattle.std.specs.List.{list_all}
use Rattle.lis_table.proofs.Stacks.{all_turned}
use Rattle.lis_table.proofs.truth.Values.are_all_true.Goals as goal

pub returns : goal.returns
returns c =
    c.are_all_true.ensures ∙ ap (list_all (λ v. v)) c.as_slice.ensures.value ∙ sym (all_turned c.self.inside.held.items)
    ∙ ap (list_all (λ v. v)) c.self.view_is
