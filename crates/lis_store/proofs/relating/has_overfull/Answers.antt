use Rattle.lis_store.proofs.Common.{◌≡◌, ◌∙◌, ◌∷◌, [], ℕ, true, false, is_some, refl, and_from, word_of, sym, ap, subst, inl, inr, arith, cases_lt, word_from_number, Limits}
use Rattle.lis_store.specs.Relating.{is_overfull}
use Rattle.lis_store.proofs.Crowded.{full_at, full_nowhere}
use Rattle.lis_store.proofs.Related.{overfull_here, overfull_unnumbered}
use Rattle.lis_store.proofs.relating.has_overfull.Goals as goal

pub returns-in_default : goal.returns-in_default
returns-in_default c = sym (overfull_unnumbered c.args.metadata.now c.args.left.now c.args.right.now (sym c.number_of.ensures ∙ c.in_default.is))

pub is_overfull-requires-clause-left : goal.is_overfull-requires-clause-left
is_overfull-requires-clause-left c =
    ap is_some (word_from_number c.args.metadata.now.dict c.requires.sound.dict c.args.left.now c.in-Some.from (sym c.number_of.ensures ∙ c.in-Some.is))

pub find_gained-requires-clause-named : goal.find_gained-requires-clause-named
find_gained-requires-clause-named c =
    and_from (is_some (word_of c.args.metadata.now.dict c.args.number)) true (ap is_some (word_from_number c.args.metadata.now.dict c.requires.sound.dict c.args.right.now c.args.number c.requires.number)) refl

pub returns-then-is_overfull : goal.returns-then-is_overfull
returns-then-is_overfull c =
    let k = c.args.metadata.now in
    let slot = c.loop-slot.slot in
    let told = overfull_here k c.args.left.now c.args.right.now c.in-Some.from c.args.number (sym c.number_of.ensures ∙ c.in-Some.is)
    (word_from_number k.dict c.requires.sound.dict c.args.right.now c.args.number c.requires.number) slot in
    sym (full_at (is_overfull k c.args.left.now c.args.right.now) k.limits.files slot (omega (arith, c.loop-slot-test.true, ap (λ (l : Limits). l.files) c.limits.ensures.value))
    (told ∙ (sym (c.is_overfull.ensures (c.args.number ∷ []) c.find_gained.ensures) ∙ c.if-is_overfull.true)))

pub loop-slot-preserved : goal.loop-slot-preserved
loop-slot-preserved c = λ i lt.
    let k = c.args.metadata.now in
    let n = c.loop-slot.slot in
    let told = overfull_here k c.args.left.now c.args.right.now c.in-Some.from c.args.number (sym c.number_of.ensures ∙ c.in-Some.is)
    (word_from_number k.dict c.requires.sound.dict c.args.right.now c.args.number c.requires.number) n in
    elim (cases_lt i n) [
      | inl less ↦ c.loop-slot.invariant i less
      | inr more ↦
          let P : ℕ → Type 0 = λ m. is_overfull k c.args.left.now c.args.right.now m ≡ false in
          let same : n ≡ i = omega (arith, lt, more) in
          subst P same (told ∙ (sym (c.is_overfull.ensures (c.args.number ∷ []) c.find_gained.ensures) ∙ c.if-is_overfull.false))
    ]

pub returns : goal.returns
returns c =
    sym (full_nowhere (is_overfull c.args.metadata.now c.args.left.now c.args.right.now) c.args.metadata.now.limits.files (λ slot lt.
    c.loop-slot.invariant slot (omega (arith, lt, c.loop-slot.auto.slot-end, c.loop-slot-test.false, ap (λ (l : Limits). l.files) c.limits.ensures.value))))
