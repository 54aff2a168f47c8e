use Rattle.lis_laws.proofs.Axioms.{entails_with_axiom, acyclic_with_axiom, up_with_axiom}
use Rattle.lis_laws.proofs.axioms_add.Goals as goal

pub returns : goal.returns
returns c declared axioms l r = record {
  entails = entails_with_axiom declared axioms (l, r);
  acyclic = acyclic_with_axiom declared axioms (l, r);
  up = up_with_axiom declared axioms (l, r);
}
