use Rattle.std.proofs.Common.{ap, sym, subst, ◌∙◌}
use Rattle.lis_grammar.specs.Places.Resolution.{NewPlace}
use Rattle.lis_formula.specs.Answers.{IsResolution}
use Rattle.lis_formula.proofs.Resolutions.{one_step_up, path_followed, fault_answered, broken_there}
use Rattle.lis_formula.proofs.resolution.resolve.Goals as goal

pub returns-then-is_step_up-clause-place : goal.returns-then-is_step_up-clause-place
returns-then-is_step_up-clause-place c =
    one_step_up c.args.place.now c.args.text.now (sym c.is_step_up.ensures ∙ c.if-is_step_up.true) ∙ ap NewPlace (sym c.without_last.ensures)

pub returns-in-Ok-clause-place : goal.returns-in-Ok-clause-place
returns-in-Ok-clause-place c =
    let same = path_followed c.args.place.now c.args.text.now c.in-Ok.path (sym c.is_step_up.ensures ∙ c.if-is_step_up.false) c.in-Ok.ensures.answers c.in-Ok.ensures.computes in
    subst (λ resolution. IsResolution resolution c.follow.result) (sym same) c.follow.ensures

pub returns-in-Err-clause-place : goal.returns-in-Err-clause-place
returns-in-Err-clause-place c =
    fault_answered c.args.place.now c.args.text.now c.in-Err.fault (sym c.is_step_up.ensures ∙ c.if-is_step_up.false) c.in-Err.ensures.answers c.in-Err.ensures.computes

pub returns-in-Err-clause-broken : goal.returns-in-Err-clause-broken
returns-in-Err-clause-broken c = λ k is. broken_there c.args.text.now c.in-Err.fault c.in-Err.ensures.computes k (cc)
