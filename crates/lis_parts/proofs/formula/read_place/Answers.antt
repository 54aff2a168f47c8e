use Rattle.std.proofs.Common.{ap, sym}
use Rattle.lis_parts.proofs.Formulas.{whole_place}
use Rattle.lis_store.specs.Retagging.{place_or_refusal}
use Rattle.lis_parts.proofs.formula.read_place.Goals as goal

pub returns-in-Ok : goal.returns-in-Ok
returns-in-Ok c =
    let path = c.in-Ok.field-0 in
    let answers = c.in-Ok.ensures.answers in
    sym (ap place_or_refusal (whole_place c.args.text.now path.rooted path.place answers.0 c.in-Ok.ensures.computes answers.2))
