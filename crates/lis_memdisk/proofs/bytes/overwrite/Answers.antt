use Rattle.lis_ports.proofs.Parts.{put_between}
use Rattle.lis_memdisk.proofs.bytes.overwrite.Goals as goal

pub returns : goal.returns
returns c =
    rw (c.split_at_mut-behind.ensures.front, c.copy_from_slice.ensures.after, c.split_at_mut-range.ensures.back, c.split_at_mut-behind.ensures.back) (put_between c.args.all.now c.args.place c.args.bytes.now)
