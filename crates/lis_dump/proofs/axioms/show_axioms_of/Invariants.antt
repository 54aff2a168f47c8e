use Rattle.lis_kept.specs.Telling.{axioms_of}
use Rattle.lis_dump.specs.Showing.{axiom_lines}
use Rattle.lis_dump.proofs.InOrder.{lines_behind, count_behind}
use Rattle.lis_dump.proofs.Paging.{PagedSoFar}
use Rattle.lis_dump.proofs.axioms.show_axioms_of.Given as goal

-- those up to the last one came on pages
abbrev pub invariant-loop-right : goal.invariant-loop-right
invariant-loop-right g l =
    PagedSoFar l.store (λ state. axiom_lines (axioms_of l.store.metadata) l.left) (λ state. lines_behind (axioms_of l.store.metadata) l.left l.last)
    l.fn.page.items l.page.items (g.T.Disk.meaning l.fn.station) (g.T.Disk.meaning l.station)

abbrev pub decreases-loop-right : goal.decreases-loop-right
decreases-loop-right g l = count_behind (axioms_of l.store.metadata) l.left l.last
