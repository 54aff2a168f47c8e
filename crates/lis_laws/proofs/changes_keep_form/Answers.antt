use Rattle.lis_graph.proofs.Members.{among_from_contains}
use Rattle.lis_laws.proofs.Forms as forms
use Rattle.lis_laws.proofs.changes_keep_form.Goals as goal

pub returns : goal.returns
returns c s formed = record {
  declares = forms.declares s formed;
  undeclares = forms.undeclares s formed;
  adds_axiom = forms.adds_axiom s formed;
  removes_axiom = forms.removes_axiom s formed;
  adds_file = forms.adds_file s formed;
  replaces_file = λ old new there. forms.replaces_file s formed old new (among_from_contains s.files old there);
  removes_file = forms.removes_file s formed;
}
