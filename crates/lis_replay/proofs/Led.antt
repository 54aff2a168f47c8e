-- Items in sequence, each with the reply `ok` alone, and where they lead.
use Rattle.std.proofs.Common.{◌≡◌, Bool, List, [], ◌∷◌, ◌++◌, refl, ap, subst, sym, ◌∙◌}
use Rattle.lis_model.specs.declared.refusal.Refusal.{Refusal}
use Rattle.lis_model.specs.Replies.{ok_line}
use Rattle.lis_model.specs.Step.{Situation, Outcome, Item, step, judged, situation_after}
use Rattle.lis_replay.specs.Law.{AnswersOk}
use Rattle.lis_laws.proofs.Steps.{NoneStands}

pub record LeadsTo (now : Situation) (items : List Item) (end : Situation) : Type 0 where
  pub answers : AnswersOk now items
  pub ends : situation_after now items ≡ end

-- a command that is not refused, and shows nothing
abbrev pub said_ok : Situation → Outcome
said_ok next = record { next = next; reply = ok_line }

pub led_nowhere : (now : Situation) → LeadsTo now [] now
led_nowhere now = record { answers = tt; ends = refl }

pub led_on : (now next end : Situation) (item : Item) (items : List Item) → step now item ≡ said_ok next → LeadsTo next items end → LeadsTo now (item ∷ items) end
led_on now next end item items stepped rest = record {
  answers = (ap (λ (o : Outcome). o.reply) stepped, subst (λ (n : Situation). AnswersOk n items) (sym to) rest.answers);
  ends = ap (λ (n : Situation). situation_after n items) to ∙ rest.ends;
}
  where
    to : (step now item).next ≡ next
    to = ap (λ (o : Outcome). o.next) stepped

pub led_both : (now middle end : Situation) (items more : List Item) → LeadsTo now items middle → LeadsTo middle more end → LeadsTo now (items ++ more) end
led_both now middle end [] more first rest = subst (λ (n : Situation). LeadsTo n more end) (sym first.ends) rest
led_both now middle end (item ∷ items) more first rest =
    let later = led_both (step now item).next middle end items more (record { answers = first.answers.1; ends = first.ends }) rest in
    record { answers = (first.answers.0, later.answers); ends = later.ends }

-- if no refusal of a row applies, the command is done
pub not_refused : (now : Situation) (checks : List (Bool × Refusal)) (done : Outcome) → NoneStands checks → judged now checks done ≡ done
not_refused now [] done none = refl
not_refused now (check ∷ checks) done none = rw none.0 (not_refused now checks done none.1)
