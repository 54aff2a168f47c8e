use Rattle.std.proofs.Common.{subst, arith}
use Rattle.lis_dict.proofs.Places.{IsGap}
use Rattle.lis_dict.proofs.Signs.{untested_before, untested_behind}
use Rattle.lis_dict.proofs.dict.Dict.tests.Goals as goal

pub returns-clause-before : goal.returns-clause-before
returns-clause-before c = λ k e lt at.
    let es = c.args.self.now.entries in
    let place = c.place_from-start.result in
    untested_before es k e at place (subst (λ key. IsGap es key place) c.as_slice.ensures c.place_from-start.ensures.place) lt

pub returns-clause-behind : goal.returns-clause-behind
returns-clause-behind c = λ k e le at.
    let es = c.args.self.now.entries in
    let place = c.place_from-end.result in
    untested_behind es k e at place (subst (λ key. IsGap es key place) c.as_slice-2.ensures c.place_from-end.ensures.place) (omega (arith, c.max.ensures, le))
