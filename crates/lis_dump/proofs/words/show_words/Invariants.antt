use Rattle.lis_dump.specs.Showing.{declaring_line}
use Rattle.lis_dump.proofs.Paging.{PagedTo}
use Rattle.lis_dump.proofs.words.show_words.Given as goal

abbrev pub invariant-loop-k : goal.invariant-loop-k
invariant-loop-k g l = PagedTo l.store (declaring_line l.store.metadata) (λ state. l.store.metadata.dict.entries) l.fn.page.items l.page.items (g.T.Disk.meaning l.fn.station) (g.T.Disk.meaning l.station) l.k
