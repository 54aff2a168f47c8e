use Rattle.std.proofs.Common.{arith}
use Rattle.lis_kept.proofs.Common.{◌∙◌, ◌+◌, ◌<◌, sym, subst, length, take, get_or}
use Rattle.std.proofs.lemmas.List.{take_all}
use Rattle.lis_kept.specs.Metadata.{Metadata}
use Rattle.lis_kept.specs.Passes.{ForgetsDue}
use Rattle.lis_kept.specs.Sound.{AreSound}
use Rattle.lis_kept.proofs.Forgotten.{may_still, due_before, due_more, due_past}
use Rattle.lis_kept.proofs.metadata.Metadata.forget_due.Goals.{then-is_due, else-is_due}
use Rattle.lis_kept.proofs.metadata.Metadata.forget_due.Goals as goal

pub forget-requires : goal.forget-requires
forget-requires c = λ there.
    let p = c.args.self.now in
    let q = c.loop-number.self in
    let number = get_or c.args.numbers.now c.loop-number.number-index 0 in
    let due = sym c.is_due.ensures ∙ c.if-is_due.true in
    may_still _ _ p q c.loop-number.invariant.forgets c.args.slot c.args.valued number due (c.requires number (due_before _ _ p q c.loop-number.invariant.forgets c.args.slot c.args.valued number due))

pub loop-number-preserved : goal.loop-number-preserved
loop-number-preserved c =
    let p = c.args.self.now in
    let q = c.loop-number.self in
    let numbers = c.args.numbers.now in
    let i = c.loop-number.number-index in
    let P : Metadata → Type 0 = λ k. ForgetsDue c.args.slot c.args.valued (take (i + 1) numbers) p k in
    let lt : i < length numbers = omega (arith, c.loop-number-test.true, c.loop-number.auto.number-index-end) in
    elim c.if-is_due.branch [
      | then-is_due w ↦
          record {
            forgets = subst P (sym w.self-is) (due_more c.args.slot c.args.valued numbers i p q lt c.loop-number.invariant.forgets w.forget.new.self (sym c.is_due.ensures ∙ w.if-is_due.true) w.forget.ensures.forgets);
            sound = subst AreSound (sym w.self-is) w.forget.ensures.sound;
          }
      | else-is_due w ↦
          record {
            forgets = subst P (sym w.self-is) (due_past c.args.slot c.args.valued numbers i p q lt c.loop-number.invariant.forgets (sym c.is_due.ensures ∙ w.if-is_due.false));
            sound = subst AreSound (sym w.self-is) c.loop-number.invariant.sound;
          }
    ]

pub returns-clause-forgets : goal.returns-clause-forgets
returns-clause-forgets c =
    subst (λ ns. ForgetsDue c.args.slot c.args.valued ns c.args.self.now c.loop-number.self)
    (take_all c.loop-number.number-index c.args.numbers.now (omega (arith, c.loop-number-test.false, c.loop-number.auto.number-index-end))) c.loop-number.invariant.forgets
