use Rattle.std.proofs.Common.{◌≡◌, ℕ, Some, List, sym, ap, ◌∙◌, arith}
use Rattle.std.specs.List.{slice_get}
use Rattle.lis_bits.specs.Rows.{get}
use Rattle.lis_eval.proofs.Members.{contains_at, past_end}
use Rattle.lis_incr.proofs.Shown.{shown_next, shown_later, shown_end}
use Rattle.lis_incr.proofs.listing.next_word.Goals as goal

pub returns-in-None : goal.returns-in-None
returns-in-None g c =
    let v = g.V.View.seen c.args.view.now in
    c.loop-k.invariant ∙ shown_end (λ (w : List ℕ × ℕ). get c.args.marks.now 0 w.1) (λ (w : List ℕ × ℕ). w.0) v.words c.loop-k.k (past_end v.words c.loop-k.k (sym c.word_at.ensures ∙ c.in-None.is))

pub get-requires-clause-bit : goal.get-requires-clause-bit
get-requires-clause-bit g c =
    let v = g.V.View.seen c.args.view.now in
    let x : List ℕ × ℕ = (c.in-Some.word, c.in-Some.number) in
    let at : slice_get v.words c.loop-k.k ≡ Some x = sym c.word_at.ensures ∙ c.in-Some.is in
    omega (arith, c.requires.marks.wide, c.requires.kept.numbers x (contains_at v.words c.loop-k.k x at))

pub returns-then-get : goal.returns-then-get
returns-then-get g c =
    let v = g.V.View.seen c.args.view.now in
    let x : List ℕ × ℕ = (c.in-Some.word, c.in-Some.number) in
    let at : slice_get v.words c.loop-k.k ≡ Some x = sym c.word_at.ensures ∙ c.in-Some.is in
    let marked = (sym c.get.ensures ∙ c.if-get.true) in
    (c.loop-k.invariant ∙ (shown_next (λ (w : List ℕ × ℕ). get c.args.marks.now 0 w.1) (λ (w : List ℕ × ℕ). w.0) v.words c.loop-k.k x at marked), omega arith)

pub loop-k-preserved : goal.loop-k-preserved
loop-k-preserved g c =
    let v = g.V.View.seen c.args.view.now in
    let x : List ℕ × ℕ = (c.in-Some.word, c.in-Some.number) in
    let at : slice_get v.words c.loop-k.k ≡ Some x = sym c.word_at.ensures ∙ c.in-Some.is in
    let marked = (sym c.get.ensures ∙ c.if-get.false) in
    c.loop-k.invariant ∙ shown_later (λ (w : List ℕ × ℕ). get c.args.marks.now 0 w.1) (λ (w : List ℕ × ℕ). w.0) v.words c.loop-k.k x at marked

pub returns : goal.returns
returns g c =
    let v = g.V.View.seen c.args.view.now in
    c.loop-k.invariant ∙ shown_end (λ (w : List ℕ × ℕ). get c.args.marks.now 0 w.1) (λ (w : List ℕ × ℕ). w.0) v.words c.loop-k.k (omega (arith, c.requires.kept.few_words))
