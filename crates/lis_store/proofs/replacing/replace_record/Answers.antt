use Rattle.lis_store.proofs.Common.{◌∙◌, length, sym, subst, ℕ, List}
use Rattle.lis_store.specs.ReplacingIn.{MayPut, record_in, RefilesIn}
use Rattle.lis_store.specs.Drafts.{drafted}
use Rattle.lis_store.proofs.replacing.replace_record.Goals as goal

pub replace_draft-requires-clause-may : goal.replace_draft-requires-clause-may
replace_draft-requires-clause-may c =
    let M : List (List ℕ) → List (List ℕ) → Type 0 = λ given own. MayPut c.args.metadata.now c.args.slot (drafted c.args.name.now (length c.args.payload.now) given own) in
    subst (λ given. M given c.as_slice-2.result.now) (sym c.as_slice.ensures.value)
    (subst (M c.args.words.now.assigned.items) (sym (c.as_slice-2.ensures.words ∙ c.requires.derived)) c.requires.may)

pub returns : goal.returns
returns c =
    let R : List (List ℕ) → List (List ℕ) → Type 0 = λ given own.
    RefilesIn (record_in c.args.metadata.now c.args.slot) (drafted c.args.name.now (length c.args.payload.now) given own) c.args.blocks.items c.args.metadata.now c.replace_draft.new.metadata in
    record {
      refiles =
          subst (R c.args.words.now.assigned.items) (c.as_slice-2.ensures.words ∙ c.requires.derived)
          (subst (λ given. R given c.as_slice-2.result.now) c.as_slice.ensures.value c.replace_draft.ensures.refiles);
    }
