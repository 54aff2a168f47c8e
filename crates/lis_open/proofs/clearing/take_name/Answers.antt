use Rattle.lis_open.proofs.Common.{◌∙◌, arith, on_ok_weaker}
use Rattle.lis_open.proofs.Wiping.{nameless_zero}
use Rattle.lis_open.proofs.clearing.take_name.Goals as goal

pub returns-then-branch-eq-FIRST_BYTE-clause-nameless :
    goal.returns-then-branch-eq-FIRST_BYTE-clause-nameless
returns-then-branch-eq-FIRST_BYTE-clause-nameless g c = on_ok_weaker c.write_first.result (λ settled. λ honest.
    let still = c.read_first.ensures.disk.run.honest ∙ honest in
    nameless_zero _ (omega (arith, g.met.D.Disk.reads_len c.read_first.new.disk still, c.read_first.ensures.disk.run.len, c.requires)) (settled still))
    c.write_first.ensures.settled
