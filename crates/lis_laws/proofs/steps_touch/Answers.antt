use Rattle.std.proofs.lemmas.Bool.{not-true}
use Rattle.lis_laws.proofs.Touching.{step_told}
use Rattle.lis_laws.proofs.steps_touch.Goals as goal

pub returns : goal.returns
returns c now item before form =
    let told = step_told now item before form in
    record {
      touches = told.few.touches;
      few_changed = told.few.few_changed;
      few_learned = told.few.few_learned;
      kept = λ other. told.kept (not-true _ other);
    }
