use Rattle.std.proofs.Common.{◌≡◌, true, ◌&&◌, ap, sym, ◌∙◌, rules}
use Rattle.lis_views.specs.Lines.{lines_of}
use Rattle.lis_cuts.specs.Returns.{are_none}
use Rattle.lis_cuts.proofs.Cut.{none_texts}
use Rattle.lis_cuts.proofs.back.ends_open.Goals as goal

pub returns-then-is_open : goal.returns-then-is_open
returns-then-is_open c =
    let open_there : c.args.is_open ≡ true = search rules in
    c.is_empty.ensures ∙ none_texts c.args.rest.now ∙ sym (ap (λ t. t && are_none (lines_of c.args.rest.now).texts) open_there)
