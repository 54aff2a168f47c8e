use Rattle.std.proofs.Common.{unwrap_or, ap, ◌∙◌, arith}
use Rattle.lis_model.specs.Step.{no_payload}
use Rattle.lis_line.proofs.Segments.{last_asks, last_cut}
use Rattle.lis_line.proofs.segment.asked_last.Goals as goal

pub returns : goal.returns
returns c =
    let size = c.unwrap_or.ensures ∙ ap (λ size. unwrap_or size 0) c.asked-parsed.ensures.size in
    last_asks c.args.line.now c.asked-parsed.result.request c.requires (omega (arith, size, c.if-unwrap_or-gt0.false)) (c.asked-parsed.ensures.asks no_payload)

pub returns-then-unwrap_or-gt0 : goal.returns-then-unwrap_or-gt0
returns-then-unwrap_or-gt0 c =
    let size = c.unwrap_or.ensures ∙ ap (λ size. unwrap_or size 0) c.asked-parsed.ensures.size in
    last_cut c.args.line.now c.requires (omega (arith, size, c.if-unwrap_or-gt0.true))
