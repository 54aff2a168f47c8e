use Rattle.std.proofs.Common.{ap, arith}
use Rattle.std.specs.List.{flat_map}
use Rattle.std.proofs.lemmas.Result.{err_from_is_err_and}
use Rattle.lis_model.specs.declared.limits.Limits.{Limits}
use Rattle.lis_model.specs.State.{State}
use Rattle.lis_replay.specs.Dump.{mkdir_line}
use Rattle.lis_dump.specs.Showing.{declaring_line}
use Rattle.lis_dump.proofs.Paging.{paged_same, to_none, to_more, to_broke, to_all}
use Rattle.lis_dump.proofs.WordsTold.{few_words, words_told}
use Rattle.lis_dump.proofs.words.show_words.Goals as goal

pub loop-k-init : goal.loop-k-init
loop-k-init g c =
    let k = c.args.store.now.metadata in
    to_none (declaring_line k) (λ state. k.dict.entries) (g.T.Disk.meaning c.args.station.now) c.args.page.now.items

pub loop-k-preserved : goal.loop-k-preserved
loop-k-preserved g c =
    let k = c.args.store.now.metadata in
    to_more (declaring_line k) (λ state. k.dict.entries) c.loop-k.k c.loop-k.invariant c.in_ok-show_word.field-0 c.in_ok-show_word.ensures

pub returns-in_err-show_word : goal.returns-in_err-show_word
returns-in_err-show_word g c =
    let k = c.args.store.now.metadata in
    let p = err_from_is_err_and c.from_residual.result c.from_residual.ensures.1 in
    rw (p.1, p.2)
    (paged_same (λ (state : State). flat_map mkdir_line state.declared) words_told
    (to_broke (declaring_line k) (λ state. k.dict.entries) c.loop-k.k c.loop-k.invariant c.in_err-show_word.field-0.0 c.in_err-show_word.ensures))

pub returns : goal.returns
returns g c =
    let k = c.args.store.now.metadata in
    let few = few_words c.args.store.now c.requires in
    paged_same (λ (state : State). flat_map mkdir_line state.declared) words_told
    (to_all (declaring_line k) (λ state. k.dict.entries) c.loop-k.k c.loop-k.invariant (λ state fitting. omega (arith, few, ap (λ (l : Limits). l.props) c.limits-k-end.ensures.value)))
