use Rattle.std.proofs.Common.{◌≡◌, ◌+◌, ◌-◌}
use Rattle.lis_journal.specs.Record.{rises, words}
use Rattle.lis_journal.proofs.header.rise.Given as goal

abbrev pub invariant-loop-k : goal.invariant-loop-k
invariant-loop-k l =
    rises l.layout.blocks (l.layout.records + 1) (words 1 l.count l.header) ≡ rises l.layout.blocks l.last (words l.k (l.count + 1 - l.k) l.header)
