use Rattle.lis_store.proofs.Common.{◌≡◌, ◌∙◌, ℕ, ◌<◌, false, Some, is_some, sym, ap, subst, inl, inr, arith, cases_lt, Limits}
use Rattle.lis_store.specs.Testing.{is_crowded, has_crowded}
use Rattle.lis_store.proofs.Crowded.{never_crowded, full_at, full_nowhere}
use Rattle.lis_store.proofs.crowding.has_crowded.Goals as goal

pub returns-in_default : goal.returns-in_default
returns-in_default c = sym (never_crowded c.args.metadata.now c.args.word.now c.args.numbers.now (ap is_some (sym c.test_of.ensures ∙ c.in_default.is)))

pub returns-then-is_crowded : goal.returns-then-is_crowded
returns-then-is_crowded c =
    let k = c.args.metadata.now in
    let test = sym c.test_of.ensures ∙ c.in-Some.is in
    let below : c.loop-slot.slot < k.limits.files = omega (arith, c.loop-slot-test.true, ap (λ (l : Limits). l.files) c.limits.ensures.value) in
    sym (ap (λ t. has_crowded k t c.args.numbers.now) test ∙ full_at (is_crowded k (Some c.in-Some.test) c.args.numbers.now) k.limits.files c.loop-slot.slot below (sym (c.is_crowded.ensures c.args.numbers.now c.find_gained.ensures) ∙ c.if-is_crowded.true))

pub loop-slot-preserved : goal.loop-slot-preserved
loop-slot-preserved c = λ i lt.
    let k = c.args.metadata.now in
    let n = c.loop-slot.slot in
    let here = sym (c.is_crowded.ensures c.args.numbers.now c.find_gained.ensures) ∙ c.if-is_crowded.false in
    elim (cases_lt i n) [
      | inl less ↦ c.loop-slot.invariant i less
      | inr more ↦
          let P : ℕ → Type 0 = λ m. is_crowded k (Some c.in-Some.test) c.args.numbers.now m ≡ false in
          let same : n ≡ i = omega (arith, lt, more) in
          subst P same here
    ]

pub returns : goal.returns
returns c =
    let k = c.args.metadata.now in
    let test = sym c.test_of.ensures ∙ c.in-Some.is in
    sym (ap (λ t. has_crowded k t c.args.numbers.now) test
    ∙ full_nowhere (is_crowded k (Some c.in-Some.test) c.args.numbers.now) k.limits.files (λ i lt. c.loop-slot.invariant i (omega (arith, lt, c.loop-slot.auto.slot-end, c.loop-slot-test.false, ap (λ (l : Limits). l.files) c.limits.ensures.value))))
