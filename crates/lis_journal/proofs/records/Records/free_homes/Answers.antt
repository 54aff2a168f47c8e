use Rattle.std.proofs.Common.{sym, subst}
use Rattle.lis_journal.specs.Images.{FitsAt}
use Rattle.lis_journal.specs.Inside.{Log}
use Rattle.lis_journal.proofs.Saving.{on_both}
use Rattle.lis_journal.proofs.Holding.{fits_placed}
use Rattle.lis_journal.proofs.records.Records.free_homes.Goals as goal

pub returns-clause-kept : goal.returns-clause-kept
returns-clause-kept g c = on_both c.clear.result (λ stays done. λ placed kept fits.
    subst (λ (log : Log). FitsAt log.layout log.records placed (g.D.Disk.meaning c.clear.new.disk) kept) (sym done) (fits_placed placed (stays placed kept fits)))
    c.clear.ensures.kept c.clear.ensures.done
