use Rattle.lis_store.proofs.Common.{◌∙◌, ℕ, List, if◌then◌else◌, inl, inr, is_some, length, refl, sym, ap, subst, arith, list_all, IsStrictlyIncreasing, word_of, Ext, sorted_where, Describes, IsStrictlyIncreasing-from_sorted, number_from_among, all_from}
use Rattle.lis_ext.specs.Ext.{set_of}
use Rattle.lis_store.specs.Closing.{is_gained, closure, base_at}
use Rattle.lis_store.proofs.Closed.{closure_words}
use Rattle.lis_store.proofs.Rebuilt.{base_words}
use Rattle.lis_store.proofs.closing.rebuild_slot.Goals as goal

pub returns-then-not-is_concerned-clause-gives : goal.returns-then-not-is_concerned-clause-gives
returns-then-not-is_concerned-clause-gives c =
    let p = c.args.metadata.now in
    let slot = c.args.slot in
    inr (ap (λ b. if b then closure p (base_at p c.args.how slot) else set_of p.ext slot) (sym c.is_concerned.ensures ∙ c.if-not-is_concerned.true), refl)

pub numbers-old-requires : goal.numbers-old-requires
numbers-old-requires c = omega (arith, c.requires.slot, c.requires.sound.files, ap (λ (e : Ext). length e.sets) c.ext.ensures)

pub base_at-base-requires-clause-are : goal.base_at-base-requires-clause-are
base_at-base-requires-clause-are c =
    c.numbers-old.ensures.numbers ∙ ap (λ (e : Ext). set_of e c.args.slot) c.ext.ensures

pub base_at-base-requires-clause-numbers : goal.base_at-base-requires-clause-numbers
base_at-base-requires-clause-numbers c =
    let p = c.args.metadata.now in
    let slot = c.args.slot in
    let are = c.numbers-old.ensures.numbers ∙ ap (λ (e : Ext). set_of e slot) c.ext.ensures in
    ap (list_all (λ n. is_some (word_of p.dict n))) are
    ∙ all_from (λ n. is_some (word_of p.dict n)) (set_of p.ext slot) (λ n m. c.requires.named n (number_from_among (set_of p.ext slot) n m))

pub all_entailed-new-requires-clause-named : goal.all_entailed-new-requires-clause-named
all_entailed-new-requires-clause-named c =
    let p = c.args.metadata.now in
    let slot = c.args.slot in
    let named = all_from (λ n. is_some (word_of p.dict n)) (set_of p.ext slot) (λ n m. c.requires.named n (number_from_among (set_of p.ext slot) n m)) in
    ap (list_all (λ n. is_some (word_of p.dict n))) (c.as_slice.ensures.value ∙ c.base_at-base.ensures) ∙ base_words p c.args.how slot c.requires.words named

pub all_entailed-new-requires-clause-few : goal.all_entailed-new-requires-clause-few
all_entailed-new-requires-clause-few c =
    let p = c.args.metadata.now in
    omega (
      arith,
      ap (λ ns. length (closure p ns)) (c.as_slice.ensures.value ∙ c.base_at-base.ensures),
      c.requires.few (sym c.is_concerned.ensures ∙ c.if-not-is_concerned.false),
    )

pub describe-requires-clause-rising : goal.describe-requires-clause-rising
describe-requires-clause-rising c =
    let p = c.args.metadata.now in
    let base = c.as_slice.result.now in
    subst (λ ns. IsStrictlyIncreasing ns) (sym (c.as_slice-2.ensures.value ∙ c.all_entailed-new.ensures))
    (IsStrictlyIncreasing-from_sorted (closure p base) (sorted_where p.limits.props (is_gained p base)))

pub describe-requires-clause-named : goal.describe-requires-clause-named
describe-requires-clause-named c =
    let p = c.args.metadata.now in
    ap (list_all (λ n. is_some (word_of p.dict n))) (c.as_slice-2.ensures.value ∙ c.all_entailed-new.ensures) ∙ closure_words p c.as_slice.result.now

pub returns-clause-gives : goal.returns-clause-gives
returns-clause-gives c =
    let p = c.args.metadata.now in
    let slot = c.args.slot in
    let new = c.as_slice-2.ensures.value ∙ (c.all_entailed-new.ensures ∙ ap (closure p) (c.as_slice.ensures.value ∙ c.base_at-base.ensures)) in
    let whole = ap (λ b. if b then closure p (base_at p c.args.how slot) else set_of p.ext slot) (sym c.is_concerned.ensures ∙ c.if-not-is_concerned.false) in
    let P : List ℕ → Type 0 = λ ns. Describes slot ns p c.describe.new.self in
    inl (subst P (new ∙ sym whole) c.describe.ensures.describes)
