-- How a row of refusals ends.
use Rattle.std.proofs.Common.{◌≡◌, Bool, true, false, cond, Some, None, List, [], ◌∷◌, refl, ap, sym, ◌∙◌}
use Rattle.std.proofs.lemmas.Option.{none-some, same_Some}
use Rattle.lis_model.specs.declared.refusal.Refusal.{Refusal}
use Rattle.lis_model.specs.Replies.{ok_line, refusal_line}
use Rattle.lis_model.specs.Step.{Situation, Outcome, judged, refused, first_refusal}

-- an outcome that is a refusal changes nothing
pub as_refused : (now : Situation) (outcome : Outcome) (refusal : Refusal) → outcome ≡ refused now refusal → (now ≡ outcome.next) × (outcome.reply ≡ refusal_line refusal)
as_refused now outcome refusal is = (sym (ap (λ (o : Outcome). o.next) is), ap (λ (o : Outcome). o.reply) is)

-- an outcome that changes what is kept
pub as_done : (made after : Situation) (outcome : Outcome) → outcome ≡ record { next = after; reply = ok_line } → made ≡ after
    → (made ≡ outcome.next) × (outcome.reply ≡ ok_line)
as_done made after outcome is same = (same ∙ sym (ap (λ (o : Outcome). o.next) is), ap (λ (o : Outcome). o.reply) is)

-- ---- rows as they are judged
pub row_some : (checks : List (Bool × Refusal)) (now : Situation) (done : Outcome) (refusal : Refusal) → first_refusal checks ≡ Some refusal
    → judged now checks done ≡ refused now refusal
row_some [] now done refusal is = absurd (none-some refusal is)
row_some (check ∷ checks) now done refusal is = by check.0 is (row_some checks now done refusal)
  where
    by : (b : Bool) → cond b (Some check.1) (first_refusal checks) ≡ Some refusal → (first_refusal checks ≡ Some refusal → judged now checks done ≡ refused now refusal)
        → cond b (refused now check.1) (judged now checks done) ≡ refused now refusal
    by true is more = ap (refused now) (same_Some check.1 refusal is)
    by false is more = more is

pub row_none : (checks : List (Bool × Refusal)) (now : Situation) (done : Outcome) → first_refusal checks ≡ None → judged now checks done ≡ done
row_none [] now done is = refl
row_none (check ∷ checks) now done is = by check.0 is (row_none checks now done)
  where
    by : (b : Bool) → cond b (Some check.1) (first_refusal checks) ≡ None → (first_refusal checks ≡ None → judged now checks done ≡ done)
        → cond b (refused now check.1) (judged now checks done) ≡ done
    by true is more = absurd (cc)
    by false is more = more is
