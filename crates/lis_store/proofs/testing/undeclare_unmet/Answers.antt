use Rattle.lis_store.proofs.Without.{may_then}
use Rattle.lis_store.proofs.testing.undeclare_unmet.Goals as goal

pub undeclare-requires : goal.undeclare-requires
undeclare-requires c = may_then c.args.metadata.now c.describe_all_without.new.metadata c.args.number c.requires.form.sound c.describe_all_without.ensures.redescribes c.requires.may
