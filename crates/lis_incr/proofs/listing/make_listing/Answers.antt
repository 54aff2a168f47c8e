use Rattle.std.proofs.Common.{List, ℕ, sym, subst, ◌∙◌}
use Rattle.std.proofs.lemmas.List.{with_items_is}
use Rattle.lis_model.specs.Listing.{is_candidate}
use Rattle.lis_incr.specs.Marked.{found_files, SplitBy}
use Rattle.lis_incr.proofs.Shown.{lines_are}
use Rattle.lis_incr.proofs.listing.make_listing.Goals as goal

pub leave_locals-requires-clause-candidates : goal.leave_locals-requires-clause-candidates
leave_locals-requires-clause-candidates g c =
    let v = g.V.View.seen c.args.view.now in
    let files = found_files v c.evaluate.new.scratch.files in
    let written = with_items_is c.evaluate.new.scratch.counts c.count_words-many.new.counts (c.count_words-many.auto.counts ∙ c.deref_mut.ensures.len) in
    let split = subst (λ (xs : List ℕ). SplitBy v files xs c.count_words-many.result) (sym (c.deref.ensures.value ∙ written)) c.count_words-many.ensures in
    c.mark_candidates.ensures.marked files split

pub returns-clause-lines : goal.returns-clause-lines
returns-clause-lines g c =
    let v = g.V.View.seen c.args.view.now in
    let found = c.evaluate.new.scratch.files in
    let files = found_files v found in
    let written = with_items_is c.evaluate.new.scratch.counts c.count_words-many.new.counts (c.count_words-many.auto.counts ∙ c.deref_mut.ensures.len) in
    let split = subst (λ (xs : List ℕ). SplitBy v files xs c.count_words-many.result) (sym (c.deref.ensures.value ∙ written)) c.count_words-many.ensures in
    lines_are v c.evaluate.ensures.kept found c.args.place.now c.evaluate.ensures.found c.mark_increments.new.increments c.leave_locals.new.locals
    (c.mark_increments.ensures.marked (is_candidate files) (c.mark_candidates.ensures.marked files split)) c.leave_locals.ensures
