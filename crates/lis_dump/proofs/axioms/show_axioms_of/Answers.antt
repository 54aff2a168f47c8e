use Rattle.std.proofs.Common.{Some}
use Rattle.std.specs.Option.{option_copied}
use Rattle.std.proofs.lemmas.Result.{err_from_is_err_and}
use Rattle.lis_kept.specs.Telling.{axioms_of}
use Rattle.lis_replay.specs.Dump.{axiom_line}
use Rattle.lis_dump.proofs.InOrder.{lines_behind, all_behind, no_more, one_more, fewer_left}
use Rattle.lis_dump.proofs.Paging.{so_far_none, so_far_more, so_far_broke, so_far_all}
use Rattle.lis_dump.proofs.axioms.show_axioms_of.Goals as goal

pub loop-right-init : goal.loop-right-init
loop-right-init g c = so_far_none (g.T.Disk.meaning c.args.station.now) c.args.page.now.items (λ state. all_behind c.args.store.now.metadata c.args.left.now)

pub returns-in_err-push_line : goal.returns-in_err-push_line
returns-in_err-push_line g c =
    let k = c.args.store.now.metadata in
    let left = c.args.left.now in
    let right = c.in-Some.right in
    let p = err_from_is_err_and c.from_residual.result c.from_residual.ensures.1 in
    rw (p.1, p.2)
    (so_far_broke (λ state. axiom_line (left, right)) (λ state. lines_behind (axioms_of k) left (Some right)) c.loop-right.invariant
    (λ state. one_more k left c.loop-right.last (option_copied c.as_ref.result) c.axiom_behind.result c.as_ref.ensures.value c.axiom_behind.ensures right c.in-Some.is)
    c.in_err-push_line.field-0.0 (rw c.axiom_line.ensures at (c.in_err-push_line.ensures c.args.store.now)))

pub loop-right-smaller : goal.loop-right-smaller
loop-right-smaller g c =
    fewer_left c.args.store.now.metadata c.args.left.now c.loop-right.last (option_copied c.as_ref.result) c.axiom_behind.result c.as_ref.ensures.value c.axiom_behind.ensures c.in-Some.right c.in-Some.is

pub loop-right-preserved : goal.loop-right-preserved
loop-right-preserved g c =
    let k = c.args.store.now.metadata in
    let left = c.args.left.now in
    let right = c.in-Some.right in
    so_far_more (λ state. axiom_line (left, right)) (λ state. lines_behind (axioms_of k) left (Some right)) c.loop-right.invariant
    (λ state. one_more k left c.loop-right.last (option_copied c.as_ref.result) c.axiom_behind.result c.as_ref.ensures.value c.axiom_behind.ensures right c.in-Some.is)
    c.in_ok-push_line.field-0 (rw c.axiom_line.ensures at (c.in_ok-push_line.ensures c.args.store.now))

pub returns : goal.returns
returns g c =
    so_far_all c.loop-right.invariant
    (λ state fitting. no_more c.args.store.now.metadata c.args.left.now c.loop-right.last (option_copied c.as_ref.result) c.axiom_behind.result c.as_ref.ensures.value c.axiom_behind.ensures c.in_default.is)
