use Rattle.lis_parts.proofs.Unchanged.{unchanged_view_leaves}
use Rattle.lis_parts.proofs.unchanged_view_leaves.Goals as goal

pub returns : goal.returns
returns c = unchanged_view_leaves
