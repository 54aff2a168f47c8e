use Rattle.std.proofs.Common.{◌*◌}
use Rattle.lis_ports.proofs.Parts.{put_between}
use Rattle.lis_journal.proofs.header.put_word.Goals as goal

pub returns : goal.returns
returns c =
    rw (c.split_at_mut-behind.ensures.front, c.copy_from_slice.ensures.after, c.to_le_bytes.ensures, c.split_at_mut-range.ensures.back, c.split_at_mut-behind.ensures.back) (put_between c.args.header.now (4 * c.args.k) _)
