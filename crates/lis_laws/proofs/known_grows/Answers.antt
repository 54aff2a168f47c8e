use Rattle.std.proofs.lemmas.Bool.{not-true}
use Rattle.lis_laws.proofs.Growth.{known_declares, known_adds_file, known_adds_axiom}
use Rattle.lis_laws.proofs.known_grows.Goals as goal

pub returns : goal.returns
returns c s formed = record {
  declares = λ word words form over. known_declares s formed word words (record { form = form; over = over });
  adds_file = λ file new. known_adds_file s formed.declared_set file (not-true _ new);
  adds_axiom = known_adds_axiom s formed;
}
