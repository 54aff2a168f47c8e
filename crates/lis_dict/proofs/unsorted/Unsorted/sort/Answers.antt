use Rattle.std.proofs.Common.{is_some, refl, sym, ap}
use Rattle.lis_limits.specs.declared.TheConstants.{V3_MAX_PROPS}
use Rattle.lis_graph.proofs.Repeats.{holds}
use Rattle.lis_dict.proofs.Sorting.{first_again, told, sound}
use Rattle.lis_dict.proofs.unsorted.Unsorted.sort.Goals as goal

pub first_again-requires : goal.first_again-requires
first_again-requires c =
    let order = c.put_in_order.new.order.items in
    let held = rw c.deref.ensures.value at c.put_in_order.ensures.held in
    rw (c.deref-2.ensures.value, c.deref-3.ensures.value) (λ k lt. ap is_some (holds V3_MAX_PROPS c.self.inside.holders.items order _ held k lt).1)

pub of_parts-requires : goal.of_parts-requires
of_parts-requires c =
    let held = rw c.deref.ensures.value at c.put_in_order.ensures.held in
    let ordered = rw c.deref.ensures.value at c.put_in_order.ensures.ordered in
    let none = rw (c.deref-2.ensures.value, c.deref-3.ensures.value) at c.in-None.ensures.first in
    let forms = rw (c.deref-2.ensures.value, c.deref-3.ensures.value) at c.in-None.ensures.forms in
    sound c.self.inside.holders.items c.put_in_order.new.order.items _ held ordered none forms

pub returns-in-Some-clause-again : goal.returns-in-Some-clause-again
returns-in-Some-clause-again c =
    let held = rw c.deref.ensures.value at c.put_in_order.ensures.held in
    let ordered = rw c.deref.ensures.value at c.put_in_order.ensures.ordered in
    let least = rw (c.deref-2.ensures.value, c.deref-3.ensures.value) at c.in-Some.ensures.first in
    rw (← c.self.view_is) (first_again c.self.inside.holders.items c.put_in_order.new.order.items _ held ordered c.in-Some.number least)

pub returns-in-None-clause-sorted : goal.returns-in-None-clause-sorted
returns-in-None-clause-sorted c =
    let held = rw c.deref.ensures.value at c.put_in_order.ensures.held in
    let ordered = rw c.deref.ensures.value at c.put_in_order.ensures.ordered in
    let none = rw (c.deref-2.ensures.value, c.deref-3.ensures.value) at c.in-None.ensures.first in
    let forms = rw (c.deref-2.ensures.value, c.deref-3.ensures.value) at c.in-None.ensures.forms in
    rw (c.of_parts.ensures, ← c.self.view_is) (refl, λ n. sym (told c.self.inside.holders.items c.put_in_order.new.order.items _ held ordered none forms n))
