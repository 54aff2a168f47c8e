use Rattle.std.specs.Option.{option_map}
use Rattle.lis_model.specs.Script.{first_with, first_ended}
use Rattle.lis_line.specs.Reading.{item_with}
use Rattle.lis_line.proofs.Segments.{segment_behind, payload_ended}
use Rattle.lis_line.proofs.segment.take_payload.Goals as goal

pub returns-in-All-clause-takes : goal.returns-in-All-clause-takes
returns-in-All-clause-takes g c = λ line asks.
    let payload = c.fill.new.payload in
    let filled = rw c.in-All.is at c.in_ok-fill.ensures.fills in
    segment_behind (first_with line c.args.size) (first_ended (option_map (item_with payload) c.args.request)) (item_with payload) _ c.fill.new.stock _ _ (g.S.Source.left c.fill.new.source) _ filled.0
    c.take_end.result filled.1
    (λ more. payload_ended line filled.0 more c.args.size payload (option_map (item_with payload) c.args.request) filled.2 filled.4 (asks payload))
    (c.take_end.ensures.takes payload)
