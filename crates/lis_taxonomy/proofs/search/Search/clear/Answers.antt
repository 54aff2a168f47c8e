use Rattle.std.proofs.Common.{◌<◌, ◌≤◌, length, vec_capacity, subst, sym, arith}
use Rattle.std.proofs.lemmas.List.{get_or_default}
use Rattle.lis_taxonomy.proofs.Marks.{place_in_range, sound_cleared}
use Rattle.lis_taxonomy.proofs.search.Search.clear.Goals as goal

pub unmark-requires : goal.unmark-requires
unmark-requires c = rw c.deref.ensures.value (λ k d lt. subst (λ x. x < length c.self.inside.marks) (sym (get_or_default c.self.inside.numbers.items k d 0 lt)) (place_in_range c.self.inside.numbers.items c.self.inside.marks _ c.self.invariant k lt))

pub invariant_of-self : goal.invariant_of-self
invariant_of-self c =
    let m = c.self.inside in
    let wide : vec_capacity m.numbers ≤ vec_capacity c.clear.new.self = omega (arith, c.clear.ensures.capacity) in
    let cleared = rw c.deref.ensures.value at c.unmark.ensures.cleared in
    rw c.clear.ensures.items (sound_cleared m.numbers.items m.marks _ c.self.invariant c.unmark.new.marks _ wide c.unmark.ensures.len c.unmark.ensures.others cleared)
