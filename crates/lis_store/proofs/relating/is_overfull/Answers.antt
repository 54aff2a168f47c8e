use Rattle.lis_store.proofs.Common.{ap, arith, Ext, named_below}
use Rattle.lis_store.proofs.relating.is_overfull.Goals as goal

pub has-requires-clause-prop : goal.has-requires-clause-prop
has-requires-clause-prop c =
    let sound = c.requires.sound in
    omega (arith, named_below c.args.metadata.now sound c.args.left c.requires.left, sound.rows, ap (λ (e : Ext). e.props) c.ext.ensures)
