use Rattle.std.proofs.Common.{refl, sym, ◌∙◌}
use Rattle.lis_formula.proofs.Readings.{over_place, no_place_kept, whole_kept}
use Rattle.lis_formula.proofs.read.whole.Goals as goal

pub returns-then-kept : goal.returns-then-kept
returns-then-kept c = over_place c.args.kept.now c.if-kept.true

pub returns-in-Some : goal.returns-in-Some
returns-in-Some c =
    (refl, c.in-Some.ensures.place, whole_kept c.args.kept.now c.in-Some.place c.if-kept.false (sym c.as_slice.ensures.value ∙ c.in-Some.ensures.nodes))

pub returns-in-None : goal.returns-in-None
returns-in-None c =
    no_place_kept c.args.kept.now (λ steps place same. c.in-None.ensures.nodes steps place (c.as_slice.ensures.value ∙ same))
