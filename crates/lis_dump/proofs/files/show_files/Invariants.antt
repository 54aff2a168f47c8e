use Rattle.lis_model.specs.State.{State}
use Rattle.lis_replay.specs.Dump.{file_lines}
use Rattle.lis_dump.proofs.Paging.{PagedTo}
use Rattle.lis_dump.proofs.files.show_files.Given as goal

abbrev pub invariant-loop-k : goal.invariant-loop-k
invariant-loop-k g l = PagedTo l.store file_lines (λ (state : State). state.files) l.fn.page.items l.page.items (g.T.Disk.meaning l.fn.station) (g.T.Disk.meaning l.station) l.k
