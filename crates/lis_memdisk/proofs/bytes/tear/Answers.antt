use Rattle.lis_memdisk.proofs.Picks.{put_picked}
use Rattle.lis_memdisk.proofs.bytes.tear.Goals as goal

pub returns : goal.returns
returns c =
    rw (c.split_at_mut-behind.ensures.front, c.split_at_mut-range.ensures.back, c.split_at_mut-behind.ensures.back, c.pick_bytes.ensures, c.split_at_mut-range.ensures.front, c.split_at_mut-behind.ensures.back)
    (put_picked c.args.pick c.args.place c.args.bytes.now c.args.all.now c.requires)
