use Rattle.std.proofs.Common.{rules}
use Rattle.lis_journal.proofs.Frames.{has_frame_at}
use Rattle.lis_journal.proofs.stage.Stage.bytes.Goals as goal

pub items-requires : goal.items-requires
items-requires c = has_frame_at c.self.inside.pool c.self.inside.staged.items c.args.k c.index.result.now c.self.invariant.staging.whole (search rules) c.index.ensures
