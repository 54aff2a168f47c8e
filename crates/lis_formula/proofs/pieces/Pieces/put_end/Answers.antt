use Rattle.std.proofs.Common.{◌≡◌, ◌<◌, ◌≤◌, ◌+◌, ◌++◌, length, reverse, ap, sym, subst, ◌∙◌}
use Rattle.std.specs.Prelude.{OnOk}
use Rattle.lis_formula.specs.Pieces.{stacked_text, cut_at, with_end}
use Rattle.lis_formula.proofs.Cuts.{IsStack, stack_from, stack_end, kept_cut, kept_stack, end_bytes, end_count}
use Rattle.lis_formula.proofs.Readings.{some_bytes}
use Rattle.lis_formula.proofs.pieces.Pieces.put_end.Goals as goal

longer : (c : goal.After-unwrap) → IsStack c.try_extend_from_slice.new.self.items c.self.inside.starts.items (with_end c.args.bytes.now c.args.self.now)
longer c =
    let text = c.self.inside.text.items in
    let starts = c.self.inside.starts.items in
    let stack = stack_from text starts c.args.self.now c.self.invariant c.self.view_is in
    let some : 0 < length starts = some_bytes starts (sym c.is_empty.ensures ∙ c.if-not-is_empty.true) in
    let more : c.try_extend_from_slice.new.self.items ≡ text ++ c.args.bytes.now =
    subst (λ r. OnOk r (c.try_extend_from_slice.new.self.items ≡ text ++ c.args.bytes.now)) c.unwrap.ensures c.try_extend_from_slice.ensures.ok in
    stack_end text starts c.try_extend_from_slice.new.self.items c.args.bytes.now c.args.self.now stack some more

seen : (c : goal.After-unwrap) → cut_at (reverse c.self.inside.starts.items) c.try_extend_from_slice.new.self.items ≡ with_end c.args.bytes.now c.args.self.now
seen c = kept_stack c.try_extend_from_slice.new.self.items c.self.inside.starts.items (with_end c.args.bytes.now c.args.self.now) (longer c)

pub invariant_of-self : goal.invariant_of-self
invariant_of-self c =
    kept_cut c.try_extend_from_slice.new.self.items c.self.inside.starts.items (with_end c.args.bytes.now c.args.self.now) (longer c)

pub returns-then-not-is_empty-clause-bytes : goal.returns-then-not-is_empty-clause-bytes
returns-then-not-is_empty-clause-bytes c =
    let same = ap (λ stack. length (stacked_text stack)) (seen c) in
    let bytes = end_bytes c.args.bytes.now c.args.self.now in
    subst (λ n. n ≤ length (stacked_text c.args.self.now) + length c.args.bytes.now) (sym same) bytes

pub returns-then-not-is_empty-clause-count : goal.returns-then-not-is_empty-clause-count
returns-then-not-is_empty-clause-count c = ap length (seen c) ∙ end_count c.args.bytes.now c.args.self.now
