use Rattle.std.proofs.Common.{◌≡◌, ◌+◌, ◌*◌, ◌-◌, length, get_or, take, drop, sym, ap, ◌∙◌, arith}
use Rattle.std.proofs.lemmas.Grind.{get_or_default_zero}
use Rattle.lis_limits.specs.declared.TheConstants.{MAX_DESCRIPTION}
use Rattle.lis_ext.proofs.Stride.{length-lists_of, list-lists_of, length-part}
use Rattle.lis_ext.proofs.lists.Lists.numbers.Goals as goal

pub index-requires : goal.index-requires
index-requires c =
    let e = c.self.inside in
    let low = rw (← c.self.view_is, length-lists_of e.numbers.items e.lengths.items) at c.requires in
    omega arith

pub returns-then-many-eq0-clause-numbers : goal.returns-then-many-eq0-clause-numbers
returns-then-many-eq0-clause-numbers c =
    let e = c.self.inside in
    let list = c.args.list in
    let low = rw (← c.self.view_is, length-lists_of e.numbers.items e.lengths.items) at c.requires in
    let many : c.index.result.now ≡ get_or e.lengths.items list 0 = c.index.ensures ∙ get_or_default_zero e.lengths.items list c.index.result.now low in
    let none : get_or e.lengths.items list 0 ≡ 0 = omega (arith, many) in
    rw (← c.self.view_is) (sym (list-lists_of e.numbers.items e.lengths.items list low ∙ ap (λ n. take n (drop (list * MAX_DESCRIPTION) e.numbers.items)) none))

pub slice_bounds-result-end-2 : goal.slice_bounds-result-end-2
slice_bounds-result-end-2 c =
    let e = c.self.inside in
    let list = c.args.list in
    let low = rw (← c.self.view_is, length-lists_of e.numbers.items e.lengths.items) at c.requires in
    let many : c.index.result.now ≡ get_or e.lengths.items list 0 = c.index.ensures ∙ get_or_default_zero e.lengths.items list c.index.result.now low in
    let few = c.self.invariant.few_numbers list low in
    let within = c.self.invariant.within list low (omega (arith, many)) in
    let room = c.self.invariant.room in
    let few_lists = c.self.invariant.few_lists in
    let len = ap length c.deref.ensures.value in
    omega arith

pub returns-clause-numbers : goal.returns-clause-numbers
returns-clause-numbers c =
    let e = c.self.inside in
    let list = c.args.list in
    let low = rw (← c.self.view_is, length-lists_of e.numbers.items e.lengths.items) at c.requires in
    let many : c.index.result.now ≡ get_or e.lengths.items list 0 = c.index.ensures ∙ get_or_default_zero e.lengths.items list c.index.result.now low in
    let part : list * MAX_DESCRIPTION + c.index.result.now - list * MAX_DESCRIPTION ≡ get_or e.lengths.items list 0 = omega arith in
    rw (← c.self.view_is, part, c.deref.ensures.value) (sym (list-lists_of e.numbers.items e.lengths.items list low))

pub returns-clause-few : goal.returns-clause-few
returns-clause-few c =
    let e = c.self.inside in
    let list = c.args.list in
    let low = rw (← c.self.view_is, length-lists_of e.numbers.items e.lengths.items) at c.requires in
    let many : c.index.result.now ≡ get_or e.lengths.items list 0 = c.index.ensures ∙ get_or_default_zero e.lengths.items list c.index.result.now low in
    let part : list * MAX_DESCRIPTION + c.index.result.now - list * MAX_DESCRIPTION ≡ get_or e.lengths.items list 0 = omega arith in
    let few = c.self.invariant.few_numbers list low in
    rw (part, c.deref.ensures.value) (omega (arith, length-part e.numbers.items (list * MAX_DESCRIPTION) (get_or e.lengths.items list 0) (c.self.invariant.within list low (omega (arith, many)))))
