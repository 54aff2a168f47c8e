use Rattle.std.proofs.Common.{is_some, sym, ap, ◌∙◌, arith}
use Rattle.std.specs.List.{flat_map}
use Rattle.lis_model.specs.Changes.{file_of}
use Rattle.lis_model.specs.Replies.{body_line}
use Rattle.lis_model.specs.State.{description}
use Rattle.lis_model.specs.Step.{Situation}
use Rattle.lis_store.proofs.FilesHere.{slot_in}
use Rattle.lis_session.proofs.Blocks.{shows_nowhere, shows_here}
use Rattle.lis_session.proofs.Described.{had_described}
use Rattle.lis_session.proofs.Saying.{shows_bytes}
use Rattle.lis_session.proofs.description.props.Goals as goal

pub answer_description-requires-clause-slot : goal.answer_description-requires-clause-slot
answer_description-requires-clause-slot g c =
    let sound = c.requires.sound in
    omega (arith, slot_in c.args.store.now.metadata sound.metadata c.args.name.now c.in-Some.slot (rw c.in-Some.is at c.slot_here.ensures.slot), sound.metadata.files)

pub returns-in_default-clause-carries : goal.returns-in_default-clause-carries
returns-in_default-clause-carries g c = λ state fitting.
    let now : Situation = record { state = state; place = c.args.place.now } in
    let body = flat_map (body_line 112) (description state (file_of state.files c.args.name.now)) in
    shows_nowhere now c.args.name.now body c.requires.sound fitting (sym c.slot_here.ensures.here ∙ ap is_some c.in_default.is) c.answer_refusal.ensures

pub returns-clause-carries : goal.returns-clause-carries
returns-clause-carries g c = λ state fitting.
    let now : Situation = record { state = state; place = c.args.place.now } in
    let body = flat_map (body_line 112) (description state (file_of state.files c.args.name.now)) in
    let words = had_described now c.args.name.now c.requires.sound fitting.own c.in-Some.slot (rw c.in-Some.is at c.slot_here.ensures.slot) in
    shows_here now c.args.name.now body c.requires.sound fitting (sym c.slot_here.ensures.here ∙ ap is_some c.in-Some.is) (shows_bytes fitting (rw words at c.answer_description.ensures))
