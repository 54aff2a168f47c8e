use Rattle.std.proofs.Common.{[]}
use Rattle.lis_shell.specs.Grows.{growing}
use Rattle.lis_shell.proofs.Opened.{completes}
use Rattle.lis_shell.proofs.laws.grow_complete.Goals as goal

pub returns : goal.returns
returns g c n state input input_after image image_after status said entry none =
    completes (growing n) state [] (g.S.Source.left input_after) (g.T.Disk.meaning image).shown (g.T.Disk.meaning image_after) _ status
    (λ all. all) (λ over. over) (said state [] entry none)
