use Rattle.std.proofs.Common.{ap, arith}
use Rattle.lis_journal.specs.declared.layout.Layout.{Layout}
use Rattle.lis_journal.proofs.Loading.{through_on, through_bad}
use Rattle.lis_journal.proofs.mount.load_records.Goals as goal

pub returns-in-None-clause-form : goal.returns-in-None-clause-form
returns-in-None-clause-form g c = λ honest.
    through_bad _ c.loop-k.latest c.loop-k.first c.loop-k._k c.args.count c.loop-k.invariant c.loop-k-test.true honest
    (λ still. rw c.in-None.is at (c.in_ok-behind.ensures.form still))

pub loop-k-preserved : goal.loop-k-preserved
loop-k-preserved g c =
    let room = rw c.in-Some.is at c.in_ok-behind.ensures.room in
    through_on _ c.loop-k.latest c.read_record.new.latest c.loop-k.first c.in-Some.behind c.loop-k._k c.loop-k.invariant c.read_record.ensures.disk.run c.in_ok-behind.ensures.disk.cause.stays c.read_record.ensures.disk.first_fault c.read_record.ensures.quiet c.read_record.ensures.layout c.read_record.ensures.capacity room.0 (omega (arith, room.1, ap (λ (l : Layout). l.records) c.loop-k.invariant.layout_is))
    (λ still. rw c.in-Some.is at (c.in_ok-behind.ensures.form still))
