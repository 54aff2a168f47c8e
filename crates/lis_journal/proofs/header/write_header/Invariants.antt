use Rattle.std.proofs.Common.{length, take, ◌*◌}
use Rattle.lis_journal.specs.Record.{homes, header_blocks}
use Rattle.lis_journal.proofs.Headers.{Begun}
use Rattle.lis_journal.proofs.header.write_header.Given as goal

abbrev pub invariant-loop-k : goal.invariant-loop-k
invariant-loop-k l = Begun (4096 * header_blocks (length l.stage.entries)) l.header l.count (homes (take l.k l.stage.entries)) l.k
