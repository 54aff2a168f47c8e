use Rattle.std.proofs.Common.{[], ◌∷◌, sym, ◌∙◌, arith, refl}
use Rattle.std.specs.Option.{option_map}
use Rattle.lis_model.specs.Script.{first_ended}
use Rattle.lis_line.specs.Reading.{item_with}
use Rattle.lis_line.specs.Segments.{first_dropped}
use Rattle.lis_line.proofs.Bytes.{gave_none, gave_stopped}
use Rattle.lis_line.proofs.Segments.{ended_whole, ended_last, segment_behind}
use Rattle.lis_line.proofs.segment.take_end.Goals as goal

pub returns-in_default-clause-takes : goal.returns-in_default-clause-takes
returns-in_default-clause-takes g c = λ payload.
    let given = rw c.in_default.is at c.in_ok-byte.ensures.gives in
    let gave = gave_stopped c.args.stock.now c.args.stock.now _ _ _ _ [] (gave_none c.args.stock.now (g.S.Source.left c.args.source.now)) given.0 given.1 given.2 given.4 in
    ended_last _ _ _ _ (option_map (item_with payload) c.args.request) gave (omega arith) given.1 given.3

pub returns-then-rest-eq0-clause-takes : goal.returns-then-rest-eq0-clause-takes
returns-then-rest-eq0-clause-takes g c = λ payload.
    let given = rw c.in-Some.is at c.in_ok-byte.ensures.gives in
    record { bytes = []; byte = c.in-Some.byte; gave = record { took = given.0; rest = omega arith }; spent = omega arith; not_whole = refl }

pub returns-then-is_feed-clause-takes : goal.returns-then-is_feed-clause-takes
returns-then-is_feed-clause-takes g c = λ payload.
    let given = rw c.in-Some.is at c.in_ok-byte.ensures.gives in
    ended_whole _ _ _ _ c.in-Some.byte (option_map (item_with payload) c.args.request) (record { took = given.0; rest = omega arith }) (omega arith)
    (sym c.is_feed.ensures ∙ c.if-is_feed.true)

pub returns-clause-takes : goal.returns-clause-takes
returns-clause-takes g c = λ payload.
    let given = rw c.in-Some.is at c.in_ok-byte.ensures.gives in
    segment_behind (first_ended (option_map (item_with payload) c.args.request)) first_dropped (item_with payload) _ c.next_byte.new.self _ _ (g.S.Source.left c.next_byte.new.source) _ (c.in-Some.byte ∷ [])
    c.drop_line.result (record { took = given.0; rest = omega arith }) (λ more. rw (sym c.is_feed.ensures ∙ c.if-is_feed.false) refl) (c.drop_line.ensures.takes payload)
