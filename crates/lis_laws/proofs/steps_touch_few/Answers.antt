use Rattle.lis_laws.specs.Touching.{touched}
use Rattle.lis_laws.proofs.Touching.{step_told}
use Rattle.lis_laws.proofs.steps_touch_few.Goals as goal

pub returns : goal.returns
returns c now item before form =
    let few = (step_told now item before form).few in
    record { changed = (touched now item).changed; learned = (touched now item).learned; touches = few.touches; few_changed = few.few_changed; few_learned = few.few_learned }
