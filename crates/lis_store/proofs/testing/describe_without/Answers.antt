use Rattle.lis_store.proofs.Common.{◌≡◌, ◌∙◌, ℕ, false, List, filter, is_some, length, refl, sym, ap, subst, inl, inr, arith, list_all, IsStrictlyIncreasing, word_of, Ext, has, Describes, named_below}
use Rattle.lis_ext.specs.Ext.{set_of}
use Rattle.lis_store.proofs.Without.{is_other, without_none, without_rising, without_named}
use Rattle.lis_store.proofs.testing.describe_without.Goals as goal

pub has-requires-clause-prop : goal.has-requires-clause-prop
has-requires-clause-prop c =
    let sound = c.requires.sound in
    omega (arith, named_below c.args.metadata.now sound c.args.number c.requires.number, sound.rows, ap (λ (e : Ext). e.props) c.ext.ensures)

pub returns-then-not-has-clause-gives : goal.returns-then-not-has-clause-gives
returns-then-not-has-clause-gives c =
    let p = c.args.metadata.now in
    let none : has p.ext c.args.number c.args.slot ≡ false =
    ap (λ (x : Ext). has x c.args.number c.args.slot) (sym c.ext.ensures)
    ∙ (sym c.has.ensures ∙ c.if-not-has.true) in
    inr (without_none c.args.number (set_of p.ext c.args.slot) none, refl)

pub numbers-old-requires : goal.numbers-old-requires
numbers-old-requires c = omega (arith, c.requires.slot, c.requires.sound.files, ap (λ (e : Ext). length e.sets) c.ext-2.ensures)

pub describe-requires-clause-rising : goal.describe-requires-clause-rising
describe-requires-clause-rising c =
    let P : List ℕ → Type 0 = λ ns. IsStrictlyIncreasing ns in
    subst P (sym (c.as_slice.ensures.value ∙ c.numbers_without-new.ensures)) (without_rising c.args.number c.numbers-old.result.now c.numbers-old.ensures.rise)

pub describe-requires-clause-named : goal.describe-requires-clause-named
describe-requires-clause-named c =
    let p = c.args.metadata.now in
    let are = c.numbers-old.ensures.numbers ∙ ap (λ (e : Ext). set_of e c.args.slot) c.ext-2.ensures in
    ap (list_all (λ n. is_some (word_of p.dict n))) (c.as_slice.ensures.value ∙ (c.numbers_without-new.ensures ∙ ap (filter (is_other c.args.number)) are))
    ∙ without_named p c.args.number (set_of p.ext c.args.slot) c.requires.had

pub returns-clause-gives : goal.returns-clause-gives
returns-clause-gives c =
    let p = c.args.metadata.now in
    let are = c.numbers-old.ensures.numbers ∙ ap (λ (e : Ext). set_of e c.args.slot) c.ext-2.ensures in
    let new = c.as_slice.ensures.value ∙ (c.numbers_without-new.ensures ∙ ap (filter (is_other c.args.number)) are) in
    let P : List ℕ → Type 0 = λ ns. Describes c.args.slot ns p c.describe.new.self in
    inl (subst P new c.describe.ensures.describes)
