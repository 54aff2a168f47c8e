use Rattle.std.proofs.Common.{is_none, sym, ap, ◌∙◌}
use Rattle.std.specs.List.{position}
use Rattle.std.proofs.lemmas.List.{take_rest}
use Rattle.lis_dict.proofs.Taken.{found_from, none_from}
use Rattle.lis_dict.proofs.dict.first_free_from.Goals as goal

pub returns-in_err-found : goal.returns-in_err-found
returns-in_err-found c =
    let held = c.args.holders.now in
    let from = c.args.from in
    c.from_residual.ensures ∙ sym (none_from held from c.requires (ap (position is_none) (sym (take_rest held from)) ∙ sym c.in_err-found.ensures))

pub returns : goal.returns
returns c =
    let held = c.args.holders.now in
    let from = c.args.from in
    sym (found_from held from c.requires c.in_ok-found.found (ap (position is_none) (sym (take_rest held from)) ∙ sym c.in_ok-found.ensures))
