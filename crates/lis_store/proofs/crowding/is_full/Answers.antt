use Rattle.lis_store.proofs.Common.{◌∙◌, ap, length, nat_lt}
use Rattle.lis_store.proofs.Closed.{found_wider}
use Rattle.lis_store.proofs.crowding.is_full.Goals as goal

pub returns : goal.returns
returns c = λ numbers are. ap (nat_lt c.args.most) (c.wider_count.ensures ∙ ap length (found_wider c.args.metadata.now numbers c.args.gained.now are c.requires.sound c.args.slot))
