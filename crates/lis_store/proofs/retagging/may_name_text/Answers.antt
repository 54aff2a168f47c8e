use Rattle.lis_store.proofs.Common.{ℕ, ◌≡◌, None, List, refl, subst}
use Rattle.lis_formula.proofs.TextWords.{path_named, none_named}
use Rattle.lis_store.specs.Changes.{Judges}
use Rattle.lis_store.specs.Retagging.{text_checks}
use Rattle.lis_model.specs.Step.{first_refusal}
use Rattle.lis_store.proofs.retagging.may_name_text.Goals as goal

pub returns-in-Ok : goal.returns-in-Ok
returns-in-Ok c place new leads =
    subst (λ (ws : List (List ℕ)). Judges (text_checks ws) c.may_name_nodes.result)
    (path_named c.args.text.now c.in-Ok.path.rooted c.in-Ok.path.place c.nodes.result.now c.in-Ok.ensures.computes c.nodes.ensures.nodes) c.may_name_nodes.ensures

pub returns-in-Err : goal.returns-in-Err
returns-in-Err c place new leads =
    subst (λ (ws : List (List ℕ)). first_refusal (text_checks ws) ≡ None) (none_named place new c.args.text.now c.in-Err.field-0 c.in-Err.ensures.computes leads) refl
