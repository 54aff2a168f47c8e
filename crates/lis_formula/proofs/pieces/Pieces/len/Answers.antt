use Rattle.std.proofs.Common.{◌∙◌}
use Rattle.lis_formula.proofs.Cuts.{stack_from, stack_count}
use Rattle.lis_formula.proofs.pieces.Pieces.len.Goals as goal

pub returns : goal.returns
returns c =
    let text = c.self.inside.text.items in
    let starts = c.self.inside.starts.items in
    c.len.ensures.value ∙ stack_count text starts c.args.self.now (stack_from text starts c.args.self.now c.self.invariant c.self.view_is)
