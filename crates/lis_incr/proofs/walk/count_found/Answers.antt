use Rattle.std.proofs.Common.{◌+◌, sym, ap, ◌∙◌, arith}
use Rattle.lis_bits.specs.Rows.{get}
use Rattle.lis_eval.specs.View.{Placed}
use Rattle.lis_eval.proofs.Slots.{file_given}
use Rattle.lis_incr.proofs.Routes.{one_counted, none_counted}
use Rattle.lis_incr.proofs.walk.count_found.Goals as goal
use Rattle.lis_incr.proofs.walk.count_found.Goals.{then-get, else-get}

pub get-requires-clause-bit : goal.get-requires-clause-bit
get-requires-clause-bit g c =
    let v = g.V.View.seen c.args.view.now in
    let f = file_given v c.requires.kept c.loop-k.k c.in-Some.field-0-0 c.in-Some.slot (sym c.in-Some.is ∙ c.file_at.ensures) in
    omega (arith, c.requires.found.wide, c.requires.kept.slots f.0 f.1.there, f.1.placed)

pub loop-k-preserved : goal.loop-k-preserved
loop-k-preserved g c =
    let v = g.V.View.seen c.args.view.now in
    let found = c.args.found.now in
    let f = file_given v c.requires.kept c.loop-k.k c.in-Some.field-0-0 c.in-Some.slot (sym c.in-Some.is ∙ c.file_at.ensures) in
    let slot = ap (get found 0) f.1.placed ∙ sym c.get.ensures in
    let was = c.loop-k.invariant.count in
    let few = c.loop-k.invariant.few in
    elim c.if-get.branch [
      | then-get w ↦ let more = one_counted (λ (p : Placed). get found 0 p.slot) v.files c.loop-k.k f.0 f.1.at (slot ∙ w.if-get.true) in rw w.count-is (record { count = ap (λ n. n + 1) was ∙ more; few = omega arith })
      | else-get w ↦ let more = none_counted (λ (p : Placed). get found 0 p.slot) v.files c.loop-k.k f.0 f.1.at (slot ∙ w.if-get.false) in rw w.count-is (record { count = was ∙ more; few = omega arith })
    ]
