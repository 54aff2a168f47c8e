use Rattle.std.proofs.Common.{arith}
use Rattle.lis_journal.proofs.Saving.{plan_of}
use Rattle.lis_journal.proofs.Recovering.{others_close, checkpoint_closes}
use Rattle.lis_journal.proofs.mount.close_gates.Goals as goal

pub returns-then-count-eq0-clause-closes : goal.returns-then-count-eq0-clause-closes
returns-then-count-eq0-clause-closes g c = λ loaded.
    others_close loaded c.close_others.result (omega (arith, c.if-count-eq0.true)) c.close_others.ensures.disk.run c.close_others.ensures.spreads c.close_others.ensures.settled

pub returns-clause-closes : goal.returns-clause-closes
returns-clause-closes g c = λ loaded.
    let within = (plan_of c.args.latest.now c.requires.blocks c.checkpoint.ensures.staging).within in
    checkpoint_closes loaded c.checkpoint.result (omega (arith, c.if-count-eq0.false)) within c.checkpoint.ensures.any_moment c.checkpoint.ensures.kept c.checkpoint.ensures.around c.checkpoint.ensures.settled
