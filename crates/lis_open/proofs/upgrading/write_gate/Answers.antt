use Rattle.lis_journal.proofs.Spreading.{spreads_write_sync}
use Rattle.lis_open.proofs.upgrading.write_gate.Goals as goal

pub returns-clause-spreads : goal.returns-clause-spreads
returns-clause-spreads g c = λ honest.
    spreads_write_sync 24 1 c.sync.result c.write_at.ensures.call.run c.write_at.ensures.call.time c.write_at.ensures.torn c.sync.ensures.call.run c.sync.ensures.call.time c.sync.ensures.synced
    c.sync.ensures.unsynced honest
