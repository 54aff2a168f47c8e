use Rattle.std.proofs.Common.{ℕ, ◌≤◌, ◌≡◌, min, List, length, take, ap, ◌∙◌, arith}
use Rattle.std.proofs.lemmas.List.{length-take}
use Rattle.lis_line.specs.Segments.{with_bytes}
use Rattle.lis_line.proofs.Payloads.{run_given}
use Rattle.lis_line.proofs.payload.take_run.Goals as goal

pub returns-clause-takes : goal.returns-clause-takes
returns-clause-takes g c =
    let met = rw c.if-not-branch.false at c.in_ok-meet.ensures.meets in
    let count : ℕ = c.min-count.result in
    let ahead : List ℕ = c.meet.new.self.ahead in
    let is : count ≡ min (length ahead) c.args.most = c.min-count.ensures ∙ ap (λ xs. min (length xs) c.args.most) c.ahead-ahead.ensures.ahead in
    let within : count ≤ length ahead = omega (arith, is) in (
      take count ahead,
      run_given _ c.meet.new.self _ _ (g.S.Source.left c.meet.new.source) count met.0 met.2 within c.skip.ensures.ahead c.skip.ensures.rest,
      omega (arith, length-take count ahead, is, met.1, c.requires.any),
      omega (arith, length-take count ahead, is),
      c.append.ensures ∙ ap (λ xs. with_bytes c.args.payload.now (take count xs)) c.ahead-ahead.ensures.ahead,
    )
