use Rattle.lis_store.proofs.Common.{◌≡◌, refl, sym, subst, Option, Some, None, IsSome, IsSomeAnd, rec_at, FileRecord, Metadata, words_told}
use Rattle.lis_store.proofs.store.Store.tags.Goals as goal

some_and : {X : Type 0} (P : X → Type 0) (o : Option X) → IsSome o → ((x : X) → o ≡ Some x → P x) → IsSomeAnd o P
some_and P None some all = absurd cc
some_and P (Some x) some all = all x refl

pub returns : goal.returns
returns c =
    let there : Metadata → Type 0 = λ k. IsSome (rec_at k.catalog c.args.slot) in
    let told : Metadata → FileRecord → Type 0 = λ k rec. c.assigned_in.result.items ≡ words_told k.dict rec.tags in
    subst (λ (k : Metadata). IsSomeAnd (rec_at k.catalog c.args.slot) (told k)) c.metadata.ensures.value
    (some_and (told c.metadata.result.now) (rec_at c.metadata.result.now.catalog c.args.slot) (subst there (sym c.metadata.ensures.value) c.requires) c.assigned_in.ensures.words)
