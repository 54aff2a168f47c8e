use Rattle.lis_open.proofs.Common.{◌≡◌, ℕ, ◌*◌, ◌<◌, ◌≤◌, ◌∙◌, replicate, length, arith, length-replicate, ends_then}
use Rattle.lis_ports.proofs.Moments.{run_then}
use Rattle.lis_ports.proofs.Ending.{ends_call}
use Rattle.lis_open.proofs.Wiping.{zeros_are, clearing_spreads, clearing_torn, clearing_zeros}
use Rattle.lis_open.proofs.clearing.clear_blocks.Goals as goal

pub returns-in_err-write_at-clause-spreads : goal.returns-in_err-write_at-clause-spreads
returns-in_err-write_at-clause-spreads g c =
    let k = c.loop-n.n in
    let is_at : c.from.result * 4096 ≡ 4096 * k = omega (arith, c.from.ensures) in
    clearing_spreads c.args.first c.args.end k (c.from.result * 4096) (length {A = ℕ} (replicate 4096 0)) (omega arith) (omega arith) is_at (length-replicate {A = ℕ} 4096 0) c.loop-n.invariant
    c.write_at.ensures.call.run c.write_at.ensures.call.time c.write_at.ensures.torn

pub loop-n-preserved : goal.loop-n-preserved
loop-n-preserved g c =
    let k = c.loop-n.n in
    let inv = c.loop-n.invariant in
    let low : c.args.first ≤ k = omega arith in
    let high : k < c.args.end = omega arith in
    let is_at : c.from.result * 4096 ≡ 4096 * k = omega (arith, c.from.ensures) in
    record {
      run = run_then inv.run c.write_at.ensures.call.run;
      faults = c.in_ok-write_at.ensures.call.cause.stays ∙ inv.faults;
      first_fault = ends_then inv.first_fault inv.faults (ends_call c.write_at.ensures.call);
      spreads = clearing_spreads c.args.first c.args.end k (c.from.result * 4096) (length {A = ℕ} (replicate 4096 0)) low high is_at (length-replicate {A = ℕ} 4096 0) inv
          c.write_at.ensures.call.run c.write_at.ensures.call.time c.write_at.ensures.torn;
      torn = clearing_torn c.args.first c.args.end k (c.from.result * 4096) (replicate 4096 0) low high is_at (zeros_are 4096) inv c.write_at.ensures.torn;
      cleared = clearing_zeros c.args.first c.args.end k (c.from.result * 4096) (replicate 4096 0) low high is_at (zeros_are 4096) inv
          (g.met.D.Disk.reads_len c.args.disk.now) c.requires.long c.in_ok-write_at.ensures.written;
    }
