use Rattle.std.proofs.Common.{◌<◌, length, sym, ◌∙◌, [], arith}
use Rattle.lis_ports.proofs.Moments.{run_then}
use Rattle.lis_ports.proofs.Ending.{ends_call, ends_then}
use Rattle.lis_journal.specs.Record.{HomeBlock}
use Rattle.lis_journal.specs.Phases.{at_target}
use Rattle.lis_journal.proofs.Writing.{length-target, target-bytes, spread_on, write_on, all_written}
use Rattle.lis_journal.proofs.commit.write_blocks.Goals as goal

pub returns-in_err-write_at-clause-spreads : goal.returns-in_err-write_at-clause-spreads
returns-in_err-write_at-clause-spreads g c =
    let nothing : HomeBlock = record { home = 0; bytes = [] } in
    let ps = at_target c.args.target c.args.stage.now.entries in
    let lt : c.loop-k.k < length ps = omega (arith, c.loop-k-test.true, c.len-k-end.ensures.len, length-target c.args.target c.args.stage.now.entries) in
    spread_on ps c.loop-k.k nothing _ _ lt (c.address.ensures.address nothing) c.bytes.ensures.whole c.loop-k.invariant.spreads c.loop-k.invariant.run c.write_at.ensures.call.run c.write_at.ensures.call.time c.write_at.ensures.torn

pub loop-k-preserved : goal.loop-k-preserved
loop-k-preserved g c =
    let nothing : HomeBlock = record { home = 0; bytes = [] } in
    let es = c.args.stage.now.entries in
    let k = c.loop-k.k in
    let inv = c.loop-k.invariant in
    let ps = at_target c.args.target es in
    let less : k < length es = omega (arith, c.loop-k-test.true, c.len-k-end.ensures.len) in
    let lt : k < length ps = omega (arith, less, length-target c.args.target es) in
    record {
      run = run_then inv.run c.write_at.ensures.call.run;
      faults = c.in_ok-write_at.ensures.call.cause.stays ∙ inv.faults;
      first_fault = ends_then inv.first_fault inv.faults (ends_call c.write_at.ensures.call);
      spreads = spread_on ps k nothing _ _ lt (c.address.ensures.address nothing) c.bytes.ensures.whole inv.spreads inv.run c.write_at.ensures.call.run c.write_at.ensures.call.time c.write_at.ensures.torn;
      written = write_on ps k nothing _ _ lt (c.address.ensures.address nothing) (c.bytes.ensures.bytes nothing ∙ sym (target-bytes c.args.target es k nothing less)) inv.run inv.written c.in_ok-write_at.ensures.written;
    }

pub returns-clause-written : goal.returns-clause-written
returns-clause-written g c = λ honest.
    all_written (at_target c.args.target c.args.stage.now.entries) c.loop-k.k _ _ (omega (arith, c.loop-k-test.false, c.len-k-end.ensures.len, length-target c.args.target c.args.stage.now.entries)) (c.loop-k.invariant.written honest)
