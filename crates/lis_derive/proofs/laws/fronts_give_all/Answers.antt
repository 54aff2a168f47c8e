use Rattle.lis_derive.proofs.FrontLemmas.{fronts_give_all}
use Rattle.lis_derive.proofs.laws.fronts_give_all.Goals as goal

pub returns : goal.returns
returns c = fronts_give_all
