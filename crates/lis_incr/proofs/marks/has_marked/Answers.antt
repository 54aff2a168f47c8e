use Rattle.std.proofs.Common.{◌||◌, get_or, sym, ap, ◌∙◌, arith}
use Rattle.std.specs.List.{list_any}
use Rattle.std.proofs.lemmas.List.{take_all, get_or_default}
use Rattle.std.proofs.lemmas.List.Folds.{list_any_more}
use Rattle.lis_graph.proofs.Members.{among_from_contains, any_from_among}
use Rattle.lis_bits.specs.Rows.{get}
use Rattle.lis_incr.proofs.marks.has_marked.Goals as goal

pub returns-then-get : goal.returns-then-get
returns-then-get c =
    let numbers = c.args.numbers.now in
    let k = c.loop-number.number-index in
    let lt = c.loop-number-test.true in
    sym (any_from_among (get c.args.marks.now 0) numbers (get_or numbers k 0) (among_from_contains numbers (get_or numbers k 0) (k, lt, get_or_default numbers k (get_or numbers k 0) 0 lt)) ((sym c.get.ensures ∙ c.if-get.true)))

pub loop-number-preserved : goal.loop-number-preserved
loop-number-preserved c =
    let numbers = c.args.numbers.now in
    let marks = c.args.marks.now in
    let k = c.loop-number.number-index in
    let lt = c.loop-number-test.true in
    list_any_more (get marks 0) numbers k 0 lt ∙ (ap (λ b. b || get marks 0 (get_or numbers k 0)) c.loop-number.invariant ∙ ((sym c.get.ensures ∙ c.if-get.false)))

pub returns : goal.returns
returns c =
    let numbers = c.args.numbers.now in
    let all = take_all c.loop-number.number-index numbers (omega arith) in
    sym (ap (list_any (get c.args.marks.now 0)) (sym all) ∙ c.loop-number.invariant)
