use Rattle.lis_model.specs.State.{own_words}
use Rattle.lis_laws.proofs.Closures.{with_one_axiom}
use Rattle.lis_laws.proofs.descriptions_add.Goals as goal

pub returns : goal.returns
returns c declared axioms l r file = with_one_axiom declared axioms (l, r) (own_words declared file)
