use Rattle.std.proofs.Common.{◌<◌, length, arith, rules}
use Rattle.lis_formula.proofs.Cuts.{stack_from, stack_count}
use Rattle.lis_formula.proofs.pieces.Pieces.push.Goals as goal

pub push-requires : goal.push-requires
push-requires c =
    let text = c.self.inside.text.items in
    let starts = c.self.inside.starts.items in
    let count = stack_count text starts c.args.self.now (stack_from text starts c.args.self.now c.self.invariant c.self.view_is) in
    let room : length starts < 64 = omega (arith, count) in
    (search rules, room)
