use Rattle.std.proofs.Common.{refl, ◌≡◌, ℕ, true, Some, List, sym, ◌∙◌, arith}
use Rattle.std.specs.List.{slice_get}
use Rattle.std.proofs.lemmas.List.{take_all}
use Rattle.lis_eval.specs.View.{table_of}
use Rattle.lis_eval.proofs.Members.{contains_at, all_taken}
use Rattle.lis_incr.specs.Marked.{is_top}
use Rattle.lis_incr.proofs.Marked.{marked_none, marked_more, marked_all}
use Rattle.lis_incr.proofs.increments.mark_increments.Goals as goal

pub loop-k-init : goal.loop-k-init
loop-k-init g c =
    let v = g.V.View.seen c.args.view.now in
    rw c.fill.ensures (record {
      shape = (marked_none v (λ _. true) c.args.increments.now c.requires.increments).shape;
      marked = λ test are. marked_none v (is_top (table_of v) test) c.args.increments.now c.requires.increments;
    })

pub returns-in-None-clause-marked : goal.returns-in-None-clause-marked
returns-in-None-clause-marked g c = λ test are.
    let v = g.V.View.seen c.args.view.now in
    let all = all_taken v.words c.loop-k.k (sym c.word_at.ensures ∙ c.in-None.is) in
    marked_all v (is_top (table_of v) test) c.loop-k.k c.loop-k.increments all (c.loop-k.invariant.marked test are)

pub mark_increment-requires-clause-number : goal.mark_increment-requires-clause-number
mark_increment-requires-clause-number g c =
    let v = g.V.View.seen c.args.view.now in
    let w : List ℕ × ℕ = (c.in-Some.field-0-0, c.in-Some.number) in
    let at : slice_get v.words c.loop-k.k ≡ Some w = sym c.word_at.ensures ∙ c.in-Some.is in
    let there = contains_at v.words c.loop-k.k w at in
    omega (arith, c.requires.kept.numbers w there)

pub loop-k-preserved : goal.loop-k-preserved
loop-k-preserved g c =
    let v = g.V.View.seen c.args.view.now in
    let w : List ℕ × ℕ = (c.in-Some.field-0-0, c.in-Some.number) in
    let at : slice_get v.words c.loop-k.k ≡ Some w = sym c.word_at.ensures ∙ c.in-Some.is in
    let there = contains_at v.words c.loop-k.k w at in
    record {
      shape = c.mark_increment.ensures.shape;
      marked = λ test are. marked_more v (is_top (table_of v) test) c.loop-k.k c.loop-k.increments c.mark_increment.new.increments w (c.loop-k.invariant.marked test are) at
          (c.mark_increment.ensures.marked test w are there refl);
    }

pub returns-clause-marked : goal.returns-clause-marked
returns-clause-marked g c = λ test are.
    let v = g.V.View.seen c.args.view.now in
    let all = take_all c.loop-k.k v.words (omega (arith, c.requires.kept.few_words)) in
    marked_all v (is_top (table_of v) test) c.loop-k.k c.loop-k.increments all (c.loop-k.invariant.marked test are)
