use Rattle.lis_dump.proofs.Paging.{paged_none, page_shown}
use Rattle.lis_dump.proofs.page.make_room.Goals as goal

pub returns-then-len-le-PAGE_LEN-clause-pages : goal.returns-then-len-le-PAGE_LEN-clause-pages
returns-then-len-le-PAGE_LEN-clause-pages g c = λ k. paged_none (g.T.Disk.meaning c.args.station.now) c.args.page.now.items

pub returns-clause-pages : goal.returns-clause-pages
returns-clause-pages g c = λ k. page_shown c.show_page.ensures.answers c.show_page.ensures.empty
