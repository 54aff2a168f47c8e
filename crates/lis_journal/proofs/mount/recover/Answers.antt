-- The answers of a recovery: what was read of the gates and of the records, and what follows.
use Rattle.std.proofs.Common.{Ok, None, sym, ◌∙◌, subst, arith}
use Rattle.lis_ports.specs.declared.disk.Failed.{Failed}
use Rattle.lis_journal.specs.declared.layout.Layout.{Layout}
use Rattle.lis_journal.specs.Phases.{IsLoaded}
use Rattle.lis_journal.specs.Recovery.{Recovers}
use Rattle.lis_journal.proofs.Recovering.{after_sync, reading_on, gates_read, gates_counted, quiet_recovers, bad_found, bad_recovers, failed_recovers, loaded_from, close_failed, close_done}
use Rattle.lis_journal.proofs.mount.recover.Goals as goal

pub returns-then-not-is_any_open-clause-recovers :
    goal.returns-then-not-is_any_open-clause-recovers
returns-then-not-is_any_open-clause-recovers g c = λ honest.
    let synced = after_sync honest c.sync.ensures.call.run c.sync.ensures.call.time (c.in_ok-sync.ensures.synced honest) in
    let gated = gates_read synced c.in_ok-gates.ensures.gates c.is_any_open.ensures c.if-not-is_any_open.true in
    let len = g.met.D.Disk.reads_len c.args.disk.now honest in
    quiet_recovers c.args.latest.now.layout c.requires.blocks (omega (arith, c.requires.long, len))
    (reading_on synced c.read_gates.ensures.disk.run (c.read_gates.ensures.quiet synced.honest)) gated.opened

pub returns-in_err-bad-clause-recovers : goal.returns-in_err-bad-clause-recovers
returns-in_err-bad-clause-recovers g c = λ honest.
    let synced = after_sync honest c.sync.ensures.call.run c.sync.ensures.call.time (c.in_ok-sync.ensures.synced honest) in
    let gates = reading_on synced c.read_gates.ensures.disk.run (c.read_gates.ensures.quiet synced.honest) in
    failed_recovers c.args.latest.now.layout c.from_residual-in_err-bad.result c.from_residual-in_err-bad.ensures.0
    (reading_on gates c.load_records.ensures.disk.run (c.load_records.ensures.quiet gates.honest))

pub returns-in-Some-clause-recovers : goal.returns-in-Some-clause-recovers
returns-in-Some-clause-recovers g c = λ honest.
    let synced = after_sync honest c.sync.ensures.call.run c.sync.ensures.call.time (c.in_ok-sync.ensures.synced honest) in
    let gated = gates_read synced c.in_ok-gates.ensures.gates c.is_any_open.ensures c.if-not-is_any_open.false in
    let gates = reading_on synced c.read_gates.ensures.disk.run (c.read_gates.ensures.quiet synced.honest) in
    bad_recovers c.args.latest.now.layout c.in-Some.bad
    (reading_on gates c.load_records.ensures.disk.run (c.load_records.ensures.quiet gates.honest)) gated.opened
    (bad_found c.args.latest.now.layout c.count_open-count.result _ _ (gates_counted gated c.count_open-count.ensures.count) gates.reads c.in-Some.is (c.in_ok-bad.ensures.form gates.honest))

pub returns-in_err-close_gates-clause-recovers : goal.returns-in_err-close_gates-clause-recovers
returns-in_err-close_gates-clause-recovers g c = λ honest.
    let old = g.D.Disk.meaning c.args.disk.now in
    let loaded_disk = g.D.Disk.meaning c.load_records.new.disk in
    let synced = after_sync honest c.sync.ensures.call.run c.sync.ensures.call.time (c.in_ok-sync.ensures.synced honest) in
    let gated = gates_read synced c.in_ok-gates.ensures.gates c.is_any_open.ensures c.if-not-is_any_open.false in
    let gates = reading_on synced c.read_gates.ensures.disk.run (c.read_gates.ensures.quiet synced.honest) in
    let reading = reading_on gates c.load_records.ensures.disk.run (c.load_records.ensures.quiet gates.honest) in
    let len = g.met.D.Disk.reads_len c.args.disk.now honest in
    let loaded = loaded_from _ reading c.requires.blocks (omega (arith, c.requires.long, len)) gated.opened (gates_counted gated c.count_open-count.ensures.count) gates.reads
    (sym c.in_default.is ∙ c.in_ok-bad.ensures.form gates.honest) (c.in_ok-bad.ensures.loaded gates.honest c.in_default.is) in
    let here = subst (λ (b : Layout). IsLoaded b c.count_open-count.result c.load_records.new.latest.entries loaded_disk) (sym c.load_records.ensures.layout) loaded in
    subst (λ (b : Layout). Recovers b old (g.D.Disk.meaning c.close_gates.new.disk) c.from_residual-in_err-close_gates.result) c.load_records.ensures.layout
    (close_failed here c.from_residual-in_err-close_gates.result c.from_residual-in_err-close_gates.ensures.0 reading (c.close_gates.ensures.closes here))

pub returns-clause-recovers : goal.returns-clause-recovers
returns-clause-recovers g c = λ honest.
    let old = g.D.Disk.meaning c.args.disk.now in
    let loaded_disk = g.D.Disk.meaning c.load_records.new.disk in
    let synced = after_sync honest c.sync.ensures.call.run c.sync.ensures.call.time (c.in_ok-sync.ensures.synced honest) in
    let gated = gates_read synced c.in_ok-gates.ensures.gates c.is_any_open.ensures c.if-not-is_any_open.false in
    let gates = reading_on synced c.read_gates.ensures.disk.run (c.read_gates.ensures.quiet synced.honest) in
    let reading = reading_on gates c.load_records.ensures.disk.run (c.load_records.ensures.quiet gates.honest) in
    let len = g.met.D.Disk.reads_len c.args.disk.now honest in
    let loaded = loaded_from _ reading c.requires.blocks (omega (arith, c.requires.long, len)) gated.opened (gates_counted gated c.count_open-count.ensures.count) gates.reads
    (sym c.in_default.is ∙ c.in_ok-bad.ensures.form gates.honest) (c.in_ok-bad.ensures.loaded gates.honest c.in_default.is) in
    let here = subst (λ (b : Layout). IsLoaded b c.count_open-count.result c.load_records.new.latest.entries loaded_disk) (sym c.load_records.ensures.layout) loaded in
    subst (λ (b : Layout). Recovers {E = Failed} b old (g.D.Disk.meaning c.close_gates.new.disk) (Ok None)) c.load_records.ensures.layout
    (close_done here reading (c.in_ok-close_gates.ensures.closes here))
