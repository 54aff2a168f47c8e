use Rattle.std.proofs.Common.{ap, arith}
use Rattle.std.specs.List.{flat_map}
use Rattle.std.proofs.lemmas.Result.{err_from_is_err_and}
use Rattle.lis_model.specs.declared.limits.Limits.{Limits}
use Rattle.lis_model.specs.State.{State}
use Rattle.lis_replay.specs.Dump.{axiom_line}
use Rattle.lis_dump.specs.Showing.{entry_axioms}
use Rattle.lis_dump.proofs.InOrder.{axioms_told}
use Rattle.lis_dump.proofs.Paging.{paged_same, to_none, to_more, to_broke, to_all}
use Rattle.lis_dump.proofs.WordsTold.{few_words}
use Rattle.lis_dump.proofs.axioms.show_axioms.Goals as goal

pub loop-k-init : goal.loop-k-init
loop-k-init g c =
    let k = c.args.store.now.metadata in
    to_none (entry_axioms k) (λ state. k.dict.entries) (g.T.Disk.meaning c.args.station.now) c.args.page.now.items

pub loop-k-preserved : goal.loop-k-preserved
loop-k-preserved g c =
    let k = c.args.store.now.metadata in
    to_more (entry_axioms k) (λ state. k.dict.entries) c.loop-k.k c.loop-k.invariant c.in_ok-show_axioms_at.field-0 c.in_ok-show_axioms_at.ensures

pub returns-in_err-show_axioms_at : goal.returns-in_err-show_axioms_at
returns-in_err-show_axioms_at g c =
    let k = c.args.store.now.metadata in
    let p = err_from_is_err_and c.from_residual.result c.from_residual.ensures.1 in
    rw (p.1, p.2)
    (paged_same (λ (state : State). flat_map axiom_line state.axioms) (axioms_told c.requires)
    (to_broke (entry_axioms k) (λ state. k.dict.entries) c.loop-k.k c.loop-k.invariant c.in_err-show_axioms_at.field-0.0 c.in_err-show_axioms_at.ensures))

pub returns : goal.returns
returns g c =
    let k = c.args.store.now.metadata in
    let few = few_words c.args.store.now c.requires in
    paged_same (λ (state : State). flat_map axiom_line state.axioms) (axioms_told c.requires)
    (to_all (entry_axioms k) (λ state. k.dict.entries) c.loop-k.k c.loop-k.invariant (λ state fitting. omega (arith, few, ap (λ (l : Limits). l.props) c.limits-k-end.ensures.value)))
