use Rattle.std.proofs.Common.{◌+◌, ◌<◌, [], length, ap, inr, arith}
use Rattle.lis_journal.specs.declared.layout.Layout.{Layout}
use Rattle.lis_journal.specs.Record.{HomeBlock}
use Rattle.lis_journal.specs.Staging.{Staging}
use Rattle.lis_journal.proofs.Entries.{length-with_entry}
use Rattle.lis_journal.proofs.Absorbing.{absorbed_more, absorbed_all}
use Rattle.lis_journal.proofs.Writing.{home_above, home_within}
use Rattle.lis_journal.proofs.records.absorb.Goals as goal

nothing : HomeBlock
nothing = record { home = 0; bytes = [] }

pub put-requires-clause-home : goal.put-requires-clause-home
put-requires-clause-home c =
    let s = c.args.stage.now in
    omega (arith, c.home.ensures nothing, ap (λ (l : Layout). l.records) c.loop-k.invariant.layout, ap (λ (l : Layout). l.records) c.requires.same, home_above s.layout.blocks (s.layout.records + 1) s.entries c.loop-k.k nothing c.len-k-end.ensures.staging.rise (omega (arith, c.loop-k-test.true, c.len-k-end.ensures.len)))

pub put-requires-clause-within : goal.put-requires-clause-within
put-requires-clause-within c =
    let s = c.args.stage.now in
    omega (arith, c.home.ensures nothing, ap (λ (l : Layout). l.blocks) c.loop-k.invariant.layout, ap (λ (l : Layout). l.blocks) c.requires.same, home_within s.layout.blocks (s.layout.records + 1) s.entries c.loop-k.k nothing c.len-k-end.ensures.staging.rise (omega (arith, c.loop-k-test.true, c.len-k-end.ensures.len)))

pub put-requires-clause-room : goal.put-requires-clause-room
put-requires-clause-room c = inr (omega (arith, c.loop-k.invariant.few, c.loop-k.invariant.capacity, c.loop-k-test.true, c.len-k-end.ensures.len, c.requires.room))

pub loop-k-preserved : goal.loop-k-preserved
loop-k-preserved c =
    let lt : c.loop-k.k < length c.args.stage.now.entries = omega (arith, c.loop-k-test.true, c.len-k-end.ensures.len) in
    absorbed_more _ c.loop-k.latest c.put.new.self c.args.stage.now.entries c.loop-k.k c.home.result _ nothing lt (c.home.ensures nothing) (c.bytes.ensures.bytes nothing) c.loop-k.invariant
    (ap (λ (s : Staging). s.layout) c.put.ensures.put)
    (ap (λ (s : Staging). s.capacity) c.put.ensures.put)
    (omega (arith, ap (λ (s : Staging). length s.entries) c.put.ensures.put, length-with_entry c.loop-k.latest.entries c.home.result c.bytes.result.now))
    c.put.ensures.looks

pub returns-clause-absorbs : goal.returns-clause-absorbs
returns-clause-absorbs c =
    absorbed_all _ _ c.args.stage.now.entries c.loop-k.k (omega (arith, c.loop-k-test.false, c.len-k-end.ensures.len)) c.loop-k.invariant
