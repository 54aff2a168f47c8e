use Rattle.std.proofs.Common.{◌≡◌, get_or, sym, ap, ◌∙◌}
use Rattle.lis_dict.specs.Dict.{Dict, number_of}
use Rattle.lis_dict.proofs.Laws.{number_absent}
use Rattle.lis_dict.proofs.Holders.{number_there}
use Rattle.lis_dict.proofs.dict.Dict.id_of.Goals as goal

pub returns-in-Ok : goal.returns-in-Ok
returns-in-Ok c =
    let i = c.self.inside in
    let k = c.in-Ok.place in
    let n = c.index.result.now in
    let at : n ≡ get_or i.order.items k n = c.index.ensures in
    let number = number_there i.props _ i.holders.items i.order.items c.self.invariant.sound c.args.word.now n k (rw (← c.self.view_is) at c.in-Ok.ensures.bound) (rw (← c.self.view_is) at c.in-Ok.ensures.found) at in
    sym number ∙ ap (λ (t : Dict). number_of t c.args.word.now) c.self.view_is

pub returns-in-Err : goal.returns-in-Err
returns-in-Err c = sym (number_absent c.args.self.now c.args.word.now c.in-Err.field-0 c.in-Err.ensures.absent)
