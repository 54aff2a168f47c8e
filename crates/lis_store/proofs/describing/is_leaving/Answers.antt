use Rattle.lis_store.proofs.Common.{arith, named_below, few_properties}
use Rattle.lis_store.proofs.describing.is_leaving.Goals as goal

pub has-requires : goal.has-requires
has-requires c =
    let k = c.args.metadata.now in
    omega (arith, named_below k c.requires.sound c.args.number c.requires.named, few_properties k.limits c.requires.sound.range)
