use Rattle.lis_store.proofs.Common.{◌≡◌, ℕ, List, ◌∙◌, sym, subst, same_Some, FileRecord, MayForget, emptied}
use Rattle.lis_kept.specs.Changes.{Drops}
use Rattle.lis_kept.specs.Forgetting.{ForgetsWithout}
use Rattle.lis_store.proofs.Vacated.{below_dropped, free_dropped, may_forget_dropped, vacates}
use Rattle.lis_store.proofs.removing.unfile.Goals as goal

pub forget_without-requires-clause-slot : goal.forget_without-requires-clause-slot
forget_without-requires-clause-slot c =
    below_dropped c.args.metadata.now c.args.slot c.drop_record.result c.requires.form c.drop_record.ensures.drops.there c.drop_record.new.self c.drop_record.ensures.drops

pub forget_without-requires-clause-empty : goal.forget_without-requires-clause-empty
forget_without-requires-clause-empty c =
    free_dropped c.args.metadata.now c.args.slot c.drop_record.result c.requires.form c.drop_record.ensures.drops.there c.drop_record.new.self c.drop_record.ensures.drops

pub forget_without-requires-clause-may : goal.forget_without-requires-clause-may
forget_without-requires-clause-may c =
    let here = c.as_slice.ensures.value ∙ c.numbers_at-numbers.ensures.numbers in
    subst (λ ns. MayForget ns (emptied c.drop_record.new.self c.args.slot)) (sym here)
    (may_forget_dropped c.args.metadata.now c.args.slot c.drop_record.result c.requires.form c.drop_record.ensures.drops.there c.drop_record.new.self c.drop_record.ensures.drops c.drop_record.ensures.sound)

pub returns-clause-vacated : goal.returns-clause-vacated
returns-clause-vacated c = λ rec is.
    let here = c.as_slice.ensures.value ∙ c.numbers_at-numbers.ensures.numbers in
    let F : List ℕ → Type 0 = λ ns. ForgetsWithout c.args.slot ns c.drop_record.new.self c.forget_without.new.self in
    let D : FileRecord → Type 0 = λ r. Drops c.args.slot r c.args.metadata.now c.drop_record.new.self in
    let same : c.drop_record.result ≡ rec = same_Some c.drop_record.result rec (sym c.drop_record.ensures.drops.there ∙ is) in
    vacates c.args.metadata.now c.args.slot rec c.requires.form is c.drop_record.new.self (subst D same c.drop_record.ensures.drops) c.forget_without.new.self
    c.numbers_at-numbers.ensures.rising (subst F here c.forget_without.ensures.forgets) c.forget_without.ensures.sound

pub returns-clause-numbers : goal.returns-clause-numbers
returns-clause-numbers c = c.numbers_at-numbers.ensures.numbers
