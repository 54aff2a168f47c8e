use Rattle.lis_incr.proofs.Own.{lacked}
use Rattle.lis_incr.proofs.marks.is_lacked.Goals as goal

pub returns : goal.returns
returns g c = λ w there same.
    lacked (g.V.View.seen c.args.view.now) c.args.found.now c.ext.ensures.kept c.requires.found c.ext.result.now c.ext.ensures.told w there c.args.number same c.all_have.result c.all_have.ensures
