use Rattle.std.proofs.lemmas.Bool.{not-true}
use Rattle.lis_graph.proofs.Members.{among_from_contains}
use Rattle.lis_laws.proofs.Touched.{declares_touches, brought_is_test, undeclares_touches, adds_axiom_touches, removes_axiom_touches, adds_file_touches, removes_file_touches, replaces_file_touches}
use Rattle.lis_laws.proofs.changes_touch.Goals as goal

pub returns : goal.returns
returns c s formed = record {
  declares = λ word words fits. declares_touches s formed word words (record { form = fits.form; over = fits.over });
  brings = λ word words fits. brought_is_test s formed word words (record { form = fits.form; over = fits.over }) fits.new;
  undeclares = undeclares_touches s formed;
  adds_axiom = λ l r fits. adds_axiom_touches s formed l r fits.right;
  removes_axiom = removes_axiom_touches s formed;
  adds_file = λ file new. adds_file_touches s formed.declared_set file (not-true _ new);
  removes_file = λ file m. removes_file_touches s formed file (among_from_contains s.files file m);
  replaces_file = λ old new m free. replaces_file_touches s formed old new (among_from_contains s.files old m) (not-true _ free);
}
