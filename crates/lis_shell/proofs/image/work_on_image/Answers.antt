use Rattle.std.proofs.Common.{refl, ap}
use Rattle.lis_session.proofs.Whole.{opening_moments}
use Rattle.lis_shell.proofs.Refused.{not_begun, refused_unwritten, word_refused}
use Rattle.lis_shell.proofs.Opened.{word_ended, word_crowded}
use Rattle.lis_shell.proofs.image.work_on_image.Goals as goal

pub returns-in-Ok-carry_on-clause-keeps : goal.returns-in-Ok-carry_on-clause-keeps
returns-in-Ok-carry_on-clause-keeps g c = word_ended (g.W.ImageWork.says c.args.work.now) (g.met.W.ImageWork.quiet c.args.work.now) c.in-Ok.store (record {
  reads_len = g.met.T.Disk.reads_len c.args.station.now;
  run = c.in-Ok.ensures.run;
  spot = c.in-Ok.ensures.spot;
  numbers = c.in-Ok.ensures.numbers;
  small = c.in-Ok.ensures.small;
  moments = λ honest none. c.in-Ok.ensures.any_moment honest;
  past = c.in-Ok.ensures.past;
}) c.in-Ok.ensures.ended c.in-Ok.ensures.left c.in-Ok.ensures.same_state c.in-Ok.ensures.unwritten c.in-Ok-carry_on.halt c.in-Ok-carry_on.ensures.only c.in-Ok-carry_on.ensures.input c.in-Ok-carry_on.ensures.goes
    c.in-Ok-carry_on.ensures.undone c.in-Ok-carry_on.ensures.disk

pub returns-in-Err-carry_on-clause-keeps : goal.returns-in-Err-carry_on-clause-keeps
returns-in-Err-carry_on-clause-keeps g c =
    let still = c.in-Err-carry_on.ensures.refused in
    word_crowded (g.W.ImageWork.says c.args.work.now) (g.met.W.ImageWork.quiet c.args.work.now) c.in-Ok.store (record {
      reads_len = g.met.T.Disk.reads_len c.args.station.now;
      run = c.in-Ok.ensures.run;
      spot = c.in-Ok.ensures.spot;
      numbers = c.in-Ok.ensures.numbers;
      small = c.in-Ok.ensures.small;
      moments = λ honest none. c.in-Ok.ensures.any_moment honest;
      past = c.in-Ok.ensures.past;
    }) c.in-Ok.ensures.ended c.in-Ok.ensures.left c.in-Ok.ensures.same_state c.in-Ok.ensures.unwritten (ap g.T.Disk.meaning still.1) (ap g.S.Source.left still.0) still.0 c.in-Ok.ensures.sound

pub returns-in-Err-clause-keeps : goal.returns-in-Err-clause-keeps
returns-in-Err-clause-keeps g c =
    let work = g.W.ImageWork.says c.args.work.now in
    word_refused c.in-Err.fault (record {
      reads_len = g.met.T.Disk.reads_len c.args.station.now;
      run = c.in-Err.ensures.run;
      spot = c.in-Err.ensures.spot;
      numbers = c.in-Err.ensures.numbers;
      small = c.in-Err.ensures.small;
      moments = λ honest none. c.in-Err.ensures.any_moment honest;
      past = c.in-Err.ensures.past;
    }) c.in-Err.ensures.ended c.in-Err.ensures.left work
    (λ state bytes honest stands. opening_moments (work.moment state bytes) (g.met.W.ImageWork.quiet c.args.work.now state bytes) (c.in-Err.ensures.same_state state honest stands))
    (λ state is honest stands. not_begun state (c.in-Err.ensures.same_state state honest stands)) (λ nothing honest shut. refused_unwritten c.in-Err.fault (c.in-Err.ensures.unwritten honest shut)) refl
