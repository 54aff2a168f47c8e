use Rattle.std.proofs.Common.{◌≡◌, ◌*◌, ◌+◌, length, ◌∙◌, ap, subst, arith}
use Rattle.lis_journal.specs.Record.{header_blocks, record_len}
use Rattle.lis_journal.specs.Spreads.{Spreads, Touched}
use Rattle.lis_journal.specs.Phases.{renumbered}
use Rattle.lis_journal.proofs.Spreading.{spreads_torn, spreads_then, spreads_weaken, torn_trans}
use Rattle.lis_journal.proofs.Areas.{torn_within, touched_record}
use Rattle.lis_journal.proofs.commit.write_record.Goals as goal

pub overflow_add-contents : goal.overflow_add-contents
overflow_add-contents g c = omega (arith, c.header_blocks.ensures, c.len.ensures.len, c.requires.room, c.requires.blocks, c.len.ensures.staging.narrow)

pub returns-in_err-write_at-clause-spreads : goal.returns-in_err-write_at-clause-spreads
returns-in_err-write_at-clause-spreads g c = λ honest.
    let b = c.args.first in
    let es = c.args.stage.now.entries in
    spreads_torn _ (c.from.result * 4096) (length c.args.header.now) c.write_at.ensures.call.run c.write_at.ensures.call.time (c.write_at.ensures.torn honest)
    (torn_within (c.from.result * 4096) (length c.args.header.now) (4096 * b) (4096 * record_len (length es)) (omega (arith, c.from.ensures)) (omega (arith, c.from.ensures, c.requires.header)))

pub returns-clause-spreads : goal.returns-clause-spreads
returns-clause-spreads g c = λ honest.
    let b = c.args.first in
    let es = c.args.stage.now.entries in
    let at : b + c.header_blocks.result ≡ b + header_blocks (length es) = ap (λ n. b + n) (c.header_blocks.ensures ∙ ap header_blocks c.len.ensures.len) in
    let contents = subst (λ m. Spreads (g.D.Disk.meaning c.write_at.new.self) (g.D.Disk.meaning c.write_synced.new.disk) (Touched (renumbered m es))) at (c.write_synced.ensures.spreads (c.write_at.ensures.call.run.honest ∙ honest)) in
    spreads_then _ (torn_trans (4096 * b) (4096 * record_len (length es)))
    (spreads_torn _ (c.from.result * 4096) (length c.args.header.now) c.write_at.ensures.call.run c.write_at.ensures.call.time (c.write_at.ensures.torn honest)
    (torn_within (c.from.result * 4096) (length c.args.header.now) (4096 * b) (4096 * record_len (length es)) (omega (arith, c.from.ensures)) (omega (arith, c.from.ensures, c.requires.header))))
    (spreads_weaken _ contents (touched_record b es))
