use Rattle.lis_session.proofs.Whole.{complete, no_limit}
use Rattle.lis_shell.specs.Runs.{running}
use Rattle.lis_shell.proofs.Opened.{completes}
use Rattle.lis_shell.proofs.laws.run_complete.Goals as goal

pub returns : goal.returns
returns g c state bytes input input_after image image_after status said entry short none =
    completes running state bytes (g.S.Source.left input_after) (g.T.Disk.meaning image).shown (g.T.Disk.meaning image_after) _ status
    (λ all. complete all) (λ over. no_limit short over) (said state bytes entry none)
