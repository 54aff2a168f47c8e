use Rattle.std.proofs.Common.{sym}
use Rattle.lis_model.specs.Step.{no_payload}
use Rattle.lis_model.specs.Script.{first_of}
use Rattle.lis_line.proofs.Rooms.{behind_one_line}
use Rattle.lis_line.proofs.Saying.{outside_asks, inside_asks}
use Rattle.lis_line.proofs.tagged.spoken_last.Goals as goal

pub asked_last-requires : goal.asked_last-requires
asked_last-requires c = rw c.behind_tag.ensures.text (behind_one_line c.args.line.now c.requires)

pub returns-in-None : goal.returns-in-None
returns-in-None c = outside_asks c.args.line.now _ c.requires (sym (rw c.in-None.is at c.spoken_in.ensures)) (c.refused.ensures no_payload)

pub returns-in-Some : goal.returns-in-Some
returns-in-Some c =
    inside_asks c.args.line.now c.behind_tag.result.now c.in-Some.room.number _ c.requires (sym (rw c.in-Some.is at c.spoken_in.ensures)) c.behind_tag.ensures.text
    (c.inside.ensures no_payload (first_of c.behind_tag.result.now) c.asked_last.ensures)
