use Rattle.std.proofs.Common.{is_some, ap, ◌∙◌}
use Rattle.std.specs.List.{flat_map}
use Rattle.lis_incr.specs.Left.{words_left}
use Rattle.lis_model.specs.Replies.{body_line}
use Rattle.lis_model.specs.Route.{route}
use Rattle.lis_model.specs.Table.{table}
use Rattle.lis_model.specs.Step.{Situation, entry_at}
use Rattle.lis_store.specs.Seen.{seen_of}
use Rattle.lis_session.proofs.Blocks.{shows_nowhere, shows_here}
use Rattle.lis_session.proofs.Described.{way_here, way_is}
use Rattle.lis_session.proofs.Saying.{shows_bytes}
use Rattle.lis_session.proofs.route.way.Goals as goal

pub returns-then-not-make_route-clause-carries : goal.returns-then-not-make_route-clause-carries
returns-then-not-make_route-clause-carries g c = λ state fitting.
    let now : Situation = record { state = state; place = c.args.place.now } in
    let body = flat_map (body_line 100) (route (table state) c.args.place.now (entry_at state c.args.name.now)) in
    shows_nowhere now c.args.name.now body c.requires.sound fitting (way_here now c.args.name.now c.requires.sound fitting.own ∙ ap is_some (c.make_route.ensures.none c.if-not-make_route.true)) c.answer_refusal.ensures

pub returns-clause-carries : goal.returns-clause-carries
returns-clause-carries g c = λ state fitting.
    let now : Situation = record { state = state; place = c.args.place.now } in
    let body = flat_map (body_line 100) (route (table state) c.args.place.now (entry_at state c.args.name.now)) in
    let is = c.make_route.ensures.way c.if-not-make_route.false in
    let words = way_is now c.args.name.now c.requires.sound fitting.own (words_left (seen_of c.args.store.now.metadata) c.make_route.new.scratch 0) is in
    shows_here now c.args.name.now body c.requires.sound fitting (way_here now c.args.name.now c.requires.sound fitting.own ∙ ap is_some is.here) (shows_bytes fitting (rw words at c.answer_route.ensures))
