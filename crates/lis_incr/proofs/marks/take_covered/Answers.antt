use Rattle.std.proofs.Common.{◌≡◌, ◌==◌, if◌then◌else◌, true, false, refl, sym, ap, ◌∙◌, arith, eq-eqb}
use Rattle.std.specs.List.{list_any}
use Rattle.std.proofs.lemmas.Bool.{ne_eqb}
use Rattle.lis_bits.specs.Rows.{get}
use Rattle.lis_bits.proofs.Laws.{new_row}
use Rattle.lis_ext.specs.Ext as ext
use Rattle.lis_incr.specs.Marked.{is_covered}
use Rattle.lis_incr.proofs.Marked.{covered_is, kept_whole, taken}
use Rattle.lis_incr.proofs.marks.take_covered.Goals as goal

pub returns-then-not-get-clause-own : goal.returns-then-not-get-clause-own
returns-then-not-get-clause-own g c = λ files f are here placed. rw (sym c.get.ensures ∙ c.if-not-get.true) refl

pub has_marked-requires-clause-in_range : goal.has_marked-requires-clause-in_range
has_marked-requires-clause-in_range g c = rw (c.requires.candidates.wide, ← c.ext.ensures.told.props) c.numbers.ensures.in_range

pub returns-then-has_marked-clause-others : goal.returns-then-has_marked-clause-others
returns-then-has_marked-clause-others g c = λ k lt differ.
    let v = g.V.View.seen c.args.view.now in
    let slot = c.args.slot in
    let old = c.args.locals.now in
    rw c.put.ensures (new_row old 1 v.limits.files 0 k (λ i. if i == slot then false else get old 0 i) c.requires.locals (omega arith) lt ∙ rw (ne_eqb k slot differ) refl)

pub returns-then-has_marked-clause-own : goal.returns-then-has_marked-clause-own
returns-then-has_marked-clause-own g c = λ files f are here placed.
    let v = g.V.View.seen c.args.view.now in
    let e = c.ext.result.now in
    let slot = c.args.slot in
    let marks = c.args.candidates.now in
    let old = c.args.locals.now in
    let covered : is_covered files v.words f.entry ≡ true = sym (covered_is v c.requires.kept files marks are e c.ext.ensures.told c.numbers.ensures.kept f here)
    ∙ (ap (λ s. list_any (get marks 0) (ext.set_of e s)) placed ∙ (ap (list_any (get marks 0)) (sym c.numbers.ensures.numbers) ∙ (sym c.has_marked.ensures ∙ c.if-has_marked.true))) in
    rw (c.put.ensures, covered) (new_row old 1 v.limits.files 0 slot (λ k. if k == slot then false else get old 0 k) c.requires.locals (omega arith) c.requires.slot ∙ rw (eq-eqb slot slot refl) (taken (get old 0 slot)))

pub returns-else-has_marked-clause-own : goal.returns-else-has_marked-clause-own
returns-else-has_marked-clause-own g c = λ files f are here placed.
    let v = g.V.View.seen c.args.view.now in
    let e = c.ext.result.now in
    let marks = c.args.candidates.now in
    let covered : is_covered files v.words f.entry ≡ false = sym (covered_is v c.requires.kept files marks are e c.ext.ensures.told c.numbers.ensures.kept f here)
    ∙ (ap (λ s. list_any (get marks 0) (ext.set_of e s)) placed ∙ (ap (list_any (get marks 0)) (sym c.numbers.ensures.numbers) ∙ (sym c.has_marked.ensures ∙ c.if-has_marked.false))) in
    rw covered (kept_whole (get c.args.locals.now 0 c.args.slot))
