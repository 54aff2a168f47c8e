use Rattle.std.proofs.Common.{sym, ap, ◌∙◌, arith}
use Rattle.lis_transducers.specs.Joined.{joined}
use Rattle.lis_csource.proofs.JoinedLemmas.{joined_past}
use Rattle.lis_csource.proofs.joined.past_joints.Goals as goal

pub loop-rest-preserved : goal.loop-rest-preserved
loop-rest-preserved c =
    let len = c.joint_len-len.result in
    let past = joined_past c.loop-rest.rest.now len c.joint_len-len.ensures.value c.if-len-eq0.false in
    record {
      same = ap joined c.split_at.ensures.back ∙ sym past ∙ c.loop-rest.invariant.same;
      within = omega arith;
    }
