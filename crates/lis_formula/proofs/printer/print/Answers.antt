use Rattle.std.proofs.Common.{◌≤◌, [], ap, sym, subst, ◌∙◌, fold}
use Rattle.lis_formula.specs.Pieces.{stacked_text}
use Rattle.lis_formula.specs.Printer.{all_bytes, with_text}
use Rattle.lis_formula.proofs.Prints.{steps_printed, bytes_fit, slashes_fit, place_printed, root_printed, some_steps}
use Rattle.lis_formula.proofs.printer.print.Goals as goal

pub returns-then-is_empty : goal.returns-then-is_empty
returns-then-is_empty c = c.slash.ensures ∙ root_printed c.args.place.now (sym c.is_empty.ensures ∙ c.if-is_empty.true)

pub put_all-pieces-requires-clause-bytes : goal.put_all-pieces-requires-clause-bytes
put_all-pieces-requires-clause-bytes c =
    subst (λ nodes. all_bytes nodes ≤ 1024) (sym c.nodes.ensures.nodes) (bytes_fit c.args.place.now c.nodes.ensures.place)

pub join_all-requires : goal.join_all-requires
join_all-requires c =
    slashes_fit c.put_all-pieces.result c.args.place.now
    (c.put_all-pieces.ensures ∙ (ap (λ nodes. fold with_text [] nodes) c.nodes.ensures.nodes ∙ steps_printed c.args.place.now)) c.nodes.ensures.place

pub returns : goal.returns
returns c =
    let texts = c.put_all-pieces.ensures ∙ (ap (λ nodes. fold with_text [] nodes) c.nodes.ensures.nodes ∙ steps_printed c.args.place.now) in
    let some = some_steps c.args.place.now (sym c.is_empty.ensures ∙ c.if-is_empty.false) in
    c.into_text.ensures ∙ (ap stacked_text c.join_all.ensures ∙ place_printed c.put_all-pieces.result c.args.place.now some texts)
