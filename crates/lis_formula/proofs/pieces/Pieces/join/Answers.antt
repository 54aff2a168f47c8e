use Rattle.std.proofs.Common.{◌≡◌, ◌≤◌, ◌+◌, length, reverse, arith, ap, sym, subst, ◌∙◌}
use Rattle.lis_formula.specs.Pieces.{stacked_text, cut_at, with_joint}
use Rattle.lis_formula.proofs.Cuts.{IsStack, stack_from, stack_join, stack_count, kept_cut, kept_stack, joint_bytes, joint_count, joint_fewer}
use Rattle.lis_formula.proofs.pieces.Pieces.join.Goals as goal

fewer : (c : goal.After-insert) → IsStack c.insert.new.self.items c.pop.new.self.items (with_joint c.args.byte c.args.self.now)
fewer c =
    let text = c.self.inside.text.items in
    let starts = c.self.inside.starts.items in
    let stack = stack_from text starts c.args.self.now c.self.invariant c.self.view_is in
    let joins = stack_join text starts c.pop.new.self.items c.in-Some.start c.args.self.now stack (omega arith) c.in-Some.ensures.items in
    joins.after c.args.byte c.insert.new.self.items c.insert.ensures.items

seen : (c : goal.After-insert) → cut_at (reverse c.pop.new.self.items) c.insert.new.self.items ≡ with_joint c.args.byte c.args.self.now
seen c = kept_stack c.insert.new.self.items c.pop.new.self.items (with_joint c.args.byte c.args.self.now) (fewer c)

pub invariant_of-self : goal.invariant_of-self
invariant_of-self c = kept_cut c.insert.new.self.items c.pop.new.self.items (with_joint c.args.byte c.args.self.now) (fewer c)

pub returns-then-len-lt2-clause-fewer : goal.returns-then-len-lt2-clause-fewer
returns-then-len-lt2-clause-fewer c =
    let text = c.self.inside.text.items in
    let starts = c.self.inside.starts.items in
    let count = stack_count text starts c.args.self.now (stack_from text starts c.args.self.now c.self.invariant c.self.view_is) in
    λ two. absurd (omega (arith, count))

pub returns-in-Some-clause-bytes : goal.returns-in-Some-clause-bytes
returns-in-Some-clause-bytes c =
    let same = ap (λ stack. length (stacked_text stack)) (seen c) in
    let bytes = joint_bytes c.args.byte c.args.self.now in
    subst (λ n. n ≤ length (stacked_text c.args.self.now) + 1) (sym same) bytes

pub returns-in-Some-clause-count : goal.returns-in-Some-clause-count
returns-in-Some-clause-count c = subst (λ n. n ≤ length c.args.self.now) (sym (ap length (seen c))) (joint_count c.args.byte c.args.self.now)

pub returns-in-Some-clause-fewer : goal.returns-in-Some-clause-fewer
returns-in-Some-clause-fewer c = λ two. ap (λ stack. length stack + 1) (seen c) ∙ joint_fewer c.args.byte c.args.self.now two
