use Rattle.std.proofs.Common.{◌∷◌, ◌++◌, Ok, Err, sym}
use Rattle.std.proofs.lemmas.Result.{err_from_is_err_and}
use Rattle.lis_ports.specs.declared.disk.Failed.{Failed}
use Rattle.lis_model.specs.Script.{first_of}
use Rattle.lis_line.proofs.Rooms.{behind_one_line}
use Rattle.lis_line.proofs.Saying.{outside_taken, inside_taken, inside_failed}
use Rattle.lis_line.proofs.tagged.take_spoken.Goals as goal

pub take_behind-requires-clause-one_line : goal.take_behind-requires-clause-one_line
take_behind-requires-clause-one_line g c = rw c.behind_tag.ensures.text (behind_one_line c.args.line.now c.requires.one_line)

pub returns-in-None-clause-takes : goal.returns-in-None-clause-takes
returns-in-None-clause-takes g c =
    outside_taken c.args.stock.now _ c.args.line.now _ c.requires.one_line (sym (rw c.in-None.is at c.spoken_in.ensures)) c.requires.some (c.refused.ensures c.args.payload.now)

pub returns-in_ok-segment-in-Some-clause-takes : goal.returns-in_ok-segment-in-Some-clause-takes
returns-in_ok-segment-in-Some-clause-takes g c =
    let behind = c.behind_tag.result.now in
    let payload = c.take_behind.new.payload in
    inside_taken {E = Failed} _ _ _ _ c.args.line.now behind c.in-Some.room.number payload (Ok c.in_room.result) c.requires.one_line (sym (rw c.in-Some.is at c.spoken_in.ensures)) c.behind_tag.ensures.text
    (c.in_room.ensures payload (λ more. first_of (behind ++ 10 ∷ more)) _ _ _ _ c.in_ok-segment-in-Some.ensures.takes)

pub returns-in_err-segment-in-Some-clause-takes : goal.returns-in_err-segment-in-Some-clause-takes
returns-in_err-segment-in-Some-clause-takes g c =
    let behind = c.behind_tag.result.now in
    let p = err_from_is_err_and c.from_residual.result c.from_residual.ensures.1 in
    rw p.1 (inside_taken _ _ _ _ c.args.line.now behind c.in-Some.room.number c.take_behind.new.payload (Err c.in_err-segment-in-Some.field-0.0) c.requires.one_line
    (sym (rw c.in-Some.is at c.spoken_in.ensures)) c.behind_tag.ensures.text
    (inside_failed (λ more. first_of (behind ++ 10 ∷ more)) c.in-Some.room.number c.in_err-segment-in-Some.ensures.takes))
