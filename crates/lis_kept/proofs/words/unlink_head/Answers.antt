use Rattle.lis_kept.proofs.Common.{rules}
use Rattle.lis_kept.proofs.HeadEdges.{not_absent}
use Rattle.lis_kept.proofs.words.unlink_head.Goals as goal

pub unreachable-requires : goal.unreachable-requires
unreachable-requires c = search (rules, not_absent)
