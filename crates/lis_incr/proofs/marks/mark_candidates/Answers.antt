use Rattle.std.proofs.Common.{refl, ◌≡◌, ℕ, Some, List, sym, ◌∙◌, arith}
use Rattle.std.specs.List.{slice_get}
use Rattle.std.proofs.lemmas.List.{take_all}
use Rattle.lis_bits.proofs.Laws.{shaped}
use Rattle.lis_model.specs.Listing.{is_candidate}
use Rattle.lis_eval.proofs.Members.{contains_at, all_taken}
use Rattle.lis_incr.specs.Marked.{splits_by}
use Rattle.lis_incr.proofs.Marked.{marked_none, marked_more, marked_all, numbered_bits}
use Rattle.lis_incr.proofs.marks.mark_candidates.Goals as goal

pub loop-k-init : goal.loop-k-init
loop-k-init g c =
    let v = g.V.View.seen c.args.view.now in
    let old = c.args.candidates.now in
    rw c.fill.ensures (record {
      shape = shaped old 1 v.limits.props 0 _ c.requires.candidates;
      marked = λ files split. marked_none v (is_candidate files) old c.requires.candidates;
    })

pub returns-in-None-clause-marked : goal.returns-in-None-clause-marked
returns-in-None-clause-marked g c = λ files split.
    let v = g.V.View.seen c.args.view.now in
    let all = all_taken v.words c.loop-k.k (sym c.word_at.ensures ∙ c.in-None.is) in
    marked_all v (is_candidate files) c.loop-k.k c.loop-k.candidates all (c.loop-k.invariant.marked files split)

pub mark_number-requires-clause-number : goal.mark_number-requires-clause-number
mark_number-requires-clause-number g c =
    let v = g.V.View.seen c.args.view.now in
    let w : List ℕ × ℕ = (c.in-Some.field-0-0, c.in-Some.number) in
    let at : slice_get v.words c.loop-k.k ≡ Some w = sym c.word_at.ensures ∙ c.in-Some.is in
    let there = contains_at v.words c.loop-k.k w at in
    omega (arith, c.requires.kept.numbers w there, c.requires.room)

pub mark_number-requires-clause-candidates : goal.mark_number-requires-clause-candidates
mark_number-requires-clause-candidates g c = rw c.requires.room c.loop-k.invariant.shape

pub loop-k-preserved : goal.loop-k-preserved
loop-k-preserved g c =
    let v = g.V.View.seen c.args.view.now in
    let w : List ℕ × ℕ = (c.in-Some.field-0-0, c.in-Some.number) in
    let at : slice_get v.words c.loop-k.k ≡ Some w = sym c.word_at.ensures ∙ c.in-Some.is in
    let there = contains_at v.words c.loop-k.k w at in
    let sets = rw c.requires.room at c.mark_number.ensures in
    record {
      shape = sets.shape;
      marked = λ files split. marked_more v (is_candidate files) c.loop-k.k c.loop-k.candidates c.mark_number.new.candidates w (c.loop-k.invariant.marked files split) at
          (numbered_bits c.loop-k.candidates c.mark_number.new.candidates v.limits.props w.1 w.1 refl (splits_by c.args.counts.now c.args.many) (is_candidate files w.0) (split.told w there) sets);
    }

pub returns-clause-marked : goal.returns-clause-marked
returns-clause-marked g c = λ files split.
    let v = g.V.View.seen c.args.view.now in
    let all = take_all c.loop-k.k v.words (omega (arith, c.requires.kept.few_words)) in
    marked_all v (is_candidate files) c.loop-k.k c.loop-k.candidates all (c.loop-k.invariant.marked files split)
