use Rattle.std.proofs.Common.{is_some, sym, ap, ◌∙◌}
use Rattle.lis_model.specs.Changes.{file_of}
use Rattle.lis_model.specs.Replies.{content_lines}
use Rattle.lis_model.specs.Step.{Situation}
use Rattle.lis_session.proofs.Blocks.{shows_nowhere, shows_here}
use Rattle.lis_session.proofs.content.cat.Goals as goal

pub show_file-requires-clause-slot : goal.show_file-requires-clause-slot
show_file-requires-clause-slot g c = (c.args.name.now, rw c.in-Some.is at c.slot_here.ensures.slot)

pub returns-in_default-clause-carries : goal.returns-in_default-clause-carries
returns-in_default-clause-carries g c = λ state fitting.
    let now : Situation = record { state = state; place = c.args.place.now } in
    shows_nowhere now c.args.name.now (content_lines (file_of state.files c.args.name.now).bytes) c.requires.sound fitting (sym c.slot_here.ensures.here ∙ ap is_some c.in_default.is) c.answer_refusal.ensures

pub returns-clause-carries : goal.returns-clause-carries
returns-clause-carries g c = λ state fitting.
    let now : Situation = record { state = state; place = c.args.place.now } in
    shows_here now c.args.name.now (content_lines (file_of state.files c.args.name.now).bytes) c.requires.sound fitting (sym c.slot_here.ensures.here ∙ ap is_some c.in-Some.is)
    (c.show_file.ensures.shows c.args.name.now (rw c.in-Some.is at c.slot_here.ensures.slot) state fitting)
