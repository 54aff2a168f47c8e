use Rattle.std.proofs.Common.{◌≡◌, ◌+◌, suc, Some, drop, ap, ◌∙◌, sym, arith}
use Rattle.lis_derive.proofs.Stops.{behind_none, behind_at}
use Rattle.lis_derive.proofs.suffix.behind_stop.Goals as goal

pub returns-in-None : goal.returns-in-None
returns-in-None c = behind_none c.args.bytes.now (λ k lt. c.in-None.ensures k (omega arith) lt)

pub returns-in-Some : goal.returns-in-Some
returns-in-Some c =
    let found = c.in-Some.ensures in
    let at = behind_at c.args.bytes.now c.in-Some.stop found.0.high found.1 (λ j above below. found.0.after j (omega (arith, above)) below) in
    let next : suc c.in-Some.stop ≡ c.in-Some.stop + 1 = omega arith in
    at ∙ ap (λ n. Some (drop n c.args.bytes.now)) next ∙ ap Some (sym c.split_at.ensures.back)
