use Rattle.lis_taxonomy.proofs.search.Search.run.Goals as goal

pub returns : goal.returns
returns c = rw (c.meet.ensures, c.clear.ensures) at c.close.ensures.found
