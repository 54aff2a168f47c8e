use Rattle.lis_laws.proofs.Chains as chains
use Rattle.lis_laws.proofs.no_ties.Goals as goal

pub returns : goal.returns
returns c s formed p q = chains.no_ties s.declared s.axioms formed.axioms.acyclic p q
