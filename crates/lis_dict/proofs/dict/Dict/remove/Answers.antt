use Rattle.std.proofs.Common.{sym, ap, ◌∙◌, arith}
use Rattle.lis_dict.specs.Dict.{Dict, number_of}
use Rattle.lis_dict.proofs.Laws.{number_absent, without_new}
use Rattle.lis_dict.proofs.Taken.{taken_cut}
use Rattle.lis_dict.proofs.Holders.{in_holders, number_there, cut_sound, cut_same}
use Rattle.lis_dict.proofs.dict.Dict.remove.Goals as goal

pub returns-in_default-clause-number : goal.returns-in_default-clause-number
returns-in_default-clause-number c = sym (number_absent c.args.self.now c.args.word.now c.in_default.field-0 c.in_default.ensures.absent)

pub returns-in_default-clause-gone : goal.returns-in_default-clause-gone
returns-in_default-clause-gone c = without_new c.args.self.now c.args.word.now c.in_default.field-0 c.in_default.ensures.absent

pub index_mut-requires : goal.index_mut-requires
index_mut-requires c =
    let i = c.self.inside in
    omega (arith, in_holders i.props _ i.holders.items i.order.items c.self.invariant.sound c.args.word.now c.remove-number.result c.in-Ok.place (rw (← c.self.view_is) at c.in-Ok.ensures.bound) (rw (← c.self.view_is) at c.in-Ok.ensures.found) c.remove-number.ensures.value)

pub invariant_of-self : goal.invariant_of-self
invariant_of-self c =
    let i = c.self.inside in
    rw (c.remove-number.ensures.items) (record {
      sound = cut_sound i.props _ i.holders.items i.order.items c.self.invariant.sound c.args.word.now c.remove-number.result c.in-Ok.place (rw (← c.self.view_is) at c.in-Ok.ensures.bound) (rw (← c.self.view_is) at c.in-Ok.ensures.found) c.remove-number.ensures.value
          _ (omega (arith, c.remove-number.ensures.capacity, c.self.invariant.sound.has_room));
      taken = taken_cut i.holders.items i.free_from c.min-self-inside.result c.remove-number.result c.self.invariant.taken (omega (arith, c.min-self-inside.ensures)) (omega (arith, c.min-self-inside.ensures));
    })

pub returns-clause-number : goal.returns-clause-number
returns-clause-number c =
    let i = c.self.inside in
    sym (number_there i.props _ i.holders.items i.order.items c.self.invariant.sound c.args.word.now c.remove-number.result c.in-Ok.place (rw (← c.self.view_is) at c.in-Ok.ensures.bound) (rw (← c.self.view_is) at c.in-Ok.ensures.found) c.remove-number.ensures.value)
    ∙ ap (λ (t : Dict). number_of t c.args.word.now) c.self.view_is

pub returns-clause-gone : goal.returns-clause-gone
returns-clause-gone c =
    let i = c.self.inside in
    rw (c.remove-number.ensures.items, ← c.self.view_is)
    (cut_same i.props _ i.holders.items i.order.items c.self.invariant.sound c.args.word.now c.remove-number.result c.in-Ok.place (rw (← c.self.view_is) at c.in-Ok.ensures.bound) (rw (← c.self.view_is) at c.in-Ok.ensures.found) c.remove-number.ensures.value)
