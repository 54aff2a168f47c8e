use Rattle.std.proofs.Common.{sym, ◌∙◌}
use Rattle.lis_model.specs.Step.{no_payload}
use Rattle.lis_line.proofs.Segments.{behind_alone, behind_with}
use Rattle.lis_line.proofs.Sized.{asks_with}
use Rattle.lis_line.proofs.segment.take_behind.Goals as goal

pub returns-in-None-clause-takes : goal.returns-in-None-clause-takes
returns-in-None-clause-takes g c =
    behind_alone c.args.stock.now _ c.args.line.now c.args.payload.now c.asked-parsed.result.request c.requires.one_line (sym c.asked-parsed.ensures.size ∙ c.in-None.is) c.requires.some c.requires.empty (c.asked-parsed.ensures.asks no_payload)

pub returns-in-Some-clause-takes : goal.returns-in-Some-clause-takes
returns-in-Some-clause-takes g c =
    let line = c.args.line.now in
    let sized = sym c.asked-parsed.ensures.size ∙ c.in-Some.is in
    behind_with _ _ _ _ line c.in-Some.size c.take_payload.new.payload c.take_payload.result c.requires.one_line sized
    (c.take_payload.ensures.takes line (λ told. sym (asks_with line c.in-Some.size told c.asked-parsed.result.request sized (c.asked-parsed.ensures.asks told))))
