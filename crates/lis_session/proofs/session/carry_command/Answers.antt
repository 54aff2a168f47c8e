use Rattle.std.proofs.Common.{rules, refl}
use Rattle.lis_model.specs.Step.{Situation, cd, pwd}
use Rattle.lis_session.proofs.Settled.{settled_applied}
use Rattle.lis_session.proofs.Staying.{done_stays}
use Rattle.lis_session.proofs.Answering.{words_known, change_item}
use Rattle.lis_session.proofs.Saying.{shows_item}
use Rattle.lis_session.proofs.Written.{makes_written}
use Rattle.lis_session.proofs.session.carry_command.Goals as goal

pub returns-in-Cd-clause-carries : goal.returns-in-Cd-clause-carries
returns-in-Cd-clause-carries g c =
    rw c.in-Cd.is (λ state fitting.
    let now : Situation = record { state = state; place = c.args.place.now } in
    shows_item (cd now c.in-Cd.text) c.go.new.place fitting c.answer_result.ensures (c.go.ensures state (words_known state c.requires.sound fitting.own)))

pub returns-in-Pwd-clause-carries : goal.returns-in-Pwd-clause-carries
returns-in-Pwd-clause-carries g c =
    rw c.in-Pwd.is (λ state fitting.
    let now : Situation = record { state = state; place = c.args.place.now } in
    shows_item (pwd now) c.args.place.now fitting c.answer_place.ensures refl)

pub returns-in-Stat-clause-carries : goal.returns-in-Stat-clause-carries
returns-in-Stat-clause-carries g c = rw c.in-Stat.is (c.stat.ensures.carries c.args.place.now)

pub returns-in-Mkdir-clause-carries : goal.returns-in-Mkdir-clause-carries
returns-in-Mkdir-clause-carries g c = λ state fitting.
    let now : Situation = record { state = state; place = c.args.place.now } in
    change_item (done_stays now c.args.command.now c.args.payload.now (search rules)) c.apply-changed.ensures.keeps.sound g.T.Disk.meaning c.apply-changed.new.disk c.conclude.new.station c.apply-changed.result
    (makes_written c.write_of.result c.write_of.ensures.written c.apply-changed.ensures.changes state fitting.own) c.conclude.ensures

pub apply-changed-requires-clause-whole : goal.apply-changed-requires-clause-whole
apply-changed-requires-clause-whole g c = c.write_of.ensures.whole c.args.store.now.metadata.limits

pub returns-in-Mkdir-clause-settled : goal.returns-in-Mkdir-clause-settled
returns-in-Mkdir-clause-settled g c = settled_applied c.args.store.now c.apply-changed.new.self c.apply-changed.result c.apply-changed.ensures.keeps.left c.apply-changed.ensures.settled
