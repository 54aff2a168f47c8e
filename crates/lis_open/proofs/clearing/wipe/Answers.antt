use Rattle.lis_open.proofs.Common.{◌*◌, ◌≤◌, ◌∙◌, length, subst, sym, on_ok_weaker, image_blocks, always_settled}
use Rattle.lis_ports.proofs.Always.{settled_synced}
use Rattle.lis_journal.proofs.Spreading.{spreads_then, spreads_sync}
use Rattle.lis_open.specs.Makes.{IsWiped, IsWiping}
use Rattle.lis_open.proofs.Wiping.{wiped, wiping_refl, wiping_trans, rest_spreads, gate_spreads, homes_spreads}
use Rattle.lis_open.proofs.clearing.wipe.Goals as goal

pub returns-in_err-write_rest-clause-spreads : goal.returns-in_err-write_rest-clause-spreads
returns-in_err-write_rest-clause-spreads g c = λ honest. rest_spreads c.args.limits.now (c.write_rest.ensures.spreads honest)

pub returns-in_err-clear_blocks-clause-spreads : goal.returns-in_err-clear_blocks-clause-spreads
returns-in_err-clear_blocks-clause-spreads g c = λ honest.
    gate_spreads c.args.limits.now (c.write_rest.ensures.spreads honest) (c.clear_blocks.ensures.spreads (c.write_rest.ensures.disk.run.honest ∙ honest))

pub returns-in_err-clear_blocks-2-clause-spreads :
    goal.returns-in_err-clear_blocks-2-clause-spreads
returns-in_err-clear_blocks-2-clause-spreads g c = λ honest.
    let limits = c.args.limits.now in
    let honest1 = c.write_rest.ensures.disk.run.honest ∙ honest in
    homes_spreads limits c.properties_start.result c.data_start.result c.properties_start.ensures c.data_start.ensures.start (c.write_rest.ensures.spreads honest) (c.clear_blocks.ensures.spreads honest1)
    (c.clear_blocks-2.ensures.spreads (c.clear_blocks.ensures.disk.run.honest ∙ honest1))

pub returns-clause-spreads : goal.returns-clause-spreads
returns-clause-spreads g c = λ honest.
    let limits = c.args.limits.now in
    let honest1 = c.write_rest.ensures.disk.run.honest ∙ honest in
    let honest2 = c.clear_blocks.ensures.disk.run.honest ∙ honest1 in
    spreads_then (IsWiping limits) (wiping_trans limits)
    (homes_spreads limits c.properties_start.result c.data_start.result c.properties_start.ensures c.data_start.ensures.start (c.write_rest.ensures.spreads honest) (c.clear_blocks.ensures.spreads honest1)
    (c.clear_blocks-2.ensures.spreads honest2))
    (spreads_sync (IsWiping limits) c.sync.result c.sync.ensures.call.run c.sync.ensures.call.time c.sync.ensures.synced c.sync.ensures.unsynced (wiping_refl limits) (c.clear_blocks-2.ensures.disk.run.honest ∙ honest2))

pub returns-clause-wiped : goal.returns-clause-wiped
returns-clause-wiped g c = on_ok_weaker c.sync.result (λ synced. λ honest.
    let limits = c.args.limits.now in
    let honest1 = c.write_rest.ensures.disk.run.honest ∙ honest in
    let honest2 = c.clear_blocks.ensures.disk.run.honest ∙ honest1 in
    let honest3 = c.clear_blocks-2.ensures.disk.run.honest ∙ honest2 in
    let long : 4096 * image_blocks limits ≤ length (g.D.Disk.meaning c.args.disk.now).bytes =
    subst (λ n. 4096 * image_blocks limits ≤ n) (sym (g.met.D.Disk.reads_len c.args.disk.now honest)) c.requires.long in
    always_settled (IsWiped limits) (g.D.Disk.meaning c.clear_blocks-2.new.disk).bytes (settled_synced (synced honest3))
    (wiped limits c.properties_start.result c.data_start.result (g.D.Disk.meaning c.args.disk.now).bytes (g.D.Disk.meaning c.write_rest.new.disk).bytes (g.D.Disk.meaning c.clear_blocks.new.disk).bytes (g.D.Disk.meaning c.clear_blocks-2.new.disk).bytes
    c.properties_start.ensures c.data_start.ensures.start long (c.in_ok-write_rest.ensures.written honest) (c.in_ok-clear_blocks.ensures.torn honest1) (c.in_ok-clear_blocks.ensures.cleared honest1)
    (c.in_ok-clear_blocks-2.ensures.torn honest2) (c.in_ok-clear_blocks-2.ensures.cleared honest2)))
    c.sync.ensures.synced
