use Rattle.std.proofs.Common.{arith}
use Rattle.lis_kept.proofs.Common.{◌∙◌, ◌||◌, sym, ap, list_any, both_ways}
use Rattle.lis_kept.specs.Passes.{beside}
use Rattle.lis_kept.specs.Telling.{is_left_of, is_left_head_of, is_used}
use Rattle.lis_kept.proofs.Formed.{named_in}
use Rattle.lis_kept.proofs.Used.{any_or, used_on_left}
use Rattle.lis_kept.specs.contracts.metadata.Metadata.{the_view}
use Rattle.lis_kept.proofs.metadata.Metadata.is_used_beside.Goals.{then-get, else-get}
use Rattle.lis_kept.proofs.metadata.Metadata.is_used_beside.Goals as goal

pub get-requires : goal.get-requires
get-requires c = omega (arith, named_in c.args.self.now (the_view c.self.inside) c.self.view_is c.self.invariant.sound c.args.number c.requires, c.self.invariant.sound.bits)

pub is_had_beside-requires : goal.is_had_beside-requires
is_had_beside-requires c = omega (arith, named_in c.args.self.now (the_view c.self.inside) c.self.view_is c.self.invariant.sound c.args.number c.requires, c.self.invariant.sound.rows)

pub is_named_left-requires : goal.is_named_left-requires
is_named_left-requires c = c.self.invariant.sound.dict

pub returns-else-is_had_beside : goal.returns-else-is_had_beside
returns-else-is_had_beside c =
    let k = the_view c.self.inside in
    let n = c.args.number in
    let named = c.is_named_left.ensures ∙ (ap (list_any (λ slot. is_left_of n slot || is_left_head_of k.dict n slot)) c.as_slice.ensures.value ∙ any_or (is_left_of n) (is_left_head_of k.dict n) k.axioms) in
    let seen = ap (λ k. is_used (beside c.args.slot k) n) c.self.view_is in
    elim c.if-get.branch [
      | then-get w ↦ absurd (both_ways c.if-get.value c.if-is_had_beside.false (w.value-is ∙ w.if-get.true))
      | else-get w ↦
          let flag = sym c.get.ensures ∙ w.if-get.false in
          named ∙ (used_on_left (beside c.args.slot k) n flag (sym w.is_had_beside.ensures ∙ (sym w.value-is ∙ c.if-is_had_beside.false)) ∙ seen)
    ]
