use Rattle.lis_csource.proofs.JoinedLemmas.{joined_head, joined_end}
use Rattle.lis_csource.proofs.joined.next_byte.Goals as goal

pub returns-in-empty-clause-joined : goal.returns-in-empty-clause-joined
returns-in-empty-clause-joined c =
    joined_end c.args.bytes.now c.past_joints-rest.result.now c.past_joints-rest.ensures.same c.in-empty.len_below

pub returns-in-len1-up-clause-joined : goal.returns-in-len1-up-clause-joined
returns-in-len1-up-clause-joined c =
    joined_head c.args.bytes.now c.past_joints-rest.result.now c.past_joints-rest.ensures.same c.past_joints-rest.ensures.none c.in-len1-up.len_at_least
