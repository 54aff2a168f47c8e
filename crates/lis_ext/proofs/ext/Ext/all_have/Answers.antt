use Rattle.std.proofs.Common.{arith}
use Rattle.lis_ext.proofs.ext.Ext.all_have.Goals as goal

pub returns : goal.returns
returns c =
    let long = c.self.invariant.long in
    rw (← c.self.view_is) (λ yes i lt set. c.all_have.ensures.0 yes i (omega (arith, long)) set, λ each. c.all_have.ensures.1 (λ i lt set. each i (omega (arith, long)) set))
