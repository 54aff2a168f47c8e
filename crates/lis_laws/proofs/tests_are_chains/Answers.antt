use Rattle.lis_laws.proofs.Chains.{up_decides, acyclic_decides}
use Rattle.lis_laws.proofs.tests_are_chains.Goals as goal

pub returns : goal.returns
returns c declared axioms = record { up = up_decides declared axioms; acyclic = acyclic_decides declared axioms }
