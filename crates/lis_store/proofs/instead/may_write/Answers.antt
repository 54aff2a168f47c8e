use Rattle.lis_store.proofs.Common.{◌≡◌, ◌∙◌, ℕ, List, [], ◌∷◌, Some, None, cond, nat_lt, true, ap, subst, arith, lt-ltb, Limits, NoSpace, blocks_taken, new_file, common_steps}
use Rattle.lis_store.specs.Drafts.{draft_of}
use Rattle.lis_store.specs.Instead.{given_before, free_instead, instead_checks}
use Rattle.lis_store.proofs.Judged.{refused_then}
use Rattle.lis_model.specs.Step.{first_refusal}
use Rattle.lis_store.proofs.instead.may_write.Goals as goal

pub returns-then-blocks_taken-free_instead-clause-row : goal.returns-then-blocks_taken-free_instead-clause-row
returns-then-blocks_taken-free_instead-clause-row c = λ rec there.
    let k = c.args.metadata.now in
    let P : List (List ℕ) → Type 0 = λ ws. first_refusal (instead_checks k c.args.slot (draft_of (new_file c.args.name.now ws c.args.payload.now))) ≡ None in
    let none = subst P (c.as_slice.ensures.value ∙ c.assigned_in-assigned.ensures.words rec there) c.in_ok-derived.ensures.row in
    let version = ap (λ (l : Limits). blocks_taken l.version c.args.size) c.limits.ensures.value in
    let large : nat_lt (free_instead k rec) (blocks_taken k.limits.version c.args.size) ≡ true = lt-ltb (free_instead k rec) (blocks_taken k.limits.version c.args.size)
    (omega (arith, c.if-blocks_taken-free_instead.true, c.blocks_taken.ensures, c.free_instead.ensures rec there, version)) in
    refused_then (instead_checks k c.args.slot (draft_of (given_before k rec c.args.name.now c.args.payload.now))) ((nat_lt (free_instead k rec) (blocks_taken k.limits.version c.args.size), NoSpace) ∷ []) none
    ∙ ap (λ b. cond b (Some NoSpace) None) large

pub returns-clause-row : goal.returns-clause-row
returns-clause-row c = grind (arith, common_steps)
