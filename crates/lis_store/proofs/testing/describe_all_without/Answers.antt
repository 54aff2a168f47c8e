use Rattle.lis_store.proofs.Common.{◌≡◌, ℕ, ◌<◌, List, length, ap, subst, arith, Limits}
use Rattle.lis_store.specs.Redescribing.{SlotHas, Redescribes}
use Rattle.lis_store.specs.Testing.{without_number}
use Rattle.lis_store.proofs.Rebuilt.{redescribed_more}
use Rattle.lis_store.proofs.Without.{without_same}
use Rattle.lis_store.proofs.testing.describe_all_without.Goals as goal

pub loop-slot-preserved : goal.loop-slot-preserved
loop-slot-preserved c =
    let n = c.loop-slot.slot in
    let p = c.args.metadata.now in
    let q = c.loop-slot.metadata in
    let inside : n < length p.ext.sets = omega (arith, c.loop-slot-test.true, c.limits.ensures.sound.files, ap (λ (l : Limits). l.files) c.limits.ensures.value) in
    let Q : List ℕ → Type 0 = λ ns. SlotHas n ns q c.describe_without.new.metadata in (
      redescribed_more (without_number p c.args.number) n p q c.loop-slot.invariant.0 c.describe_without.new.metadata inside
          (subst Q (without_same c.args.number n p q c.loop-slot.invariant.0) c.describe_without.ensures.gives),
      c.describe_without.ensures.sound,
    )

pub returns-clause-redescribes : goal.returns-clause-redescribes
returns-clause-redescribes c =
    let p = c.args.metadata.now in
    let all : c.loop-slot.slot ≡ p.limits.files = omega (arith, c.loop-slot.auto.slot-end, c.loop-slot-test.false, ap (λ (l : Limits). l.files) c.limits.ensures.value) in
    subst (λ (n : ℕ). Redescribes (without_number p c.args.number) n p c.loop-slot.metadata) all c.loop-slot.invariant.0
