use Rattle.std.proofs.Common.{arith}
use Rattle.lis_kept.proofs.Common.{filter_le}
use Rattle.lis_blockmap.specs.Bitmap.{is_taken}
use Rattle.lis_kept.proofs.metadata.Metadata.taken_blocks.Goals as goal

pub returns-clause-few : goal.returns-clause-few
returns-clause-few c =
    omega (arith, filter_le (is_taken c.self.inside.map) c.as_slice.result.now, c.count_taken.ensures, c.as_slice.ensures.fits)
