use Rattle.std.proofs.Common.{◌≡◌, ℕ, Some, List, sym, ◌∙◌, arith}
use Rattle.std.specs.List.{slice_get}
use Rattle.lis_incr.proofs.Routes.{steps_next}
use Rattle.lis_incr.proofs.route.Steps.next.Goals as goal

pub returns : goal.returns
returns g c =
    let inside = c.self.inside in
    let s = inside.scratch.now in
    let v = g.V.View.seen inside.view.now in
    let w : List ℕ × ℕ = (c.in-Some.word, c.in-Some.field-0-1) in
    let at : slice_get v.words c.index-place.result.now ≡ Some w = sym c.word_at.ensures ∙ c.in-Some.is in
    rw (← c.self.view_is) (steps_next v s.route.items s.steps inside.step c.index-place.result.now w (omega arith) c.self.invariant.within c.index-place.ensures at)
