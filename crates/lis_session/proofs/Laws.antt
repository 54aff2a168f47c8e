-- `cd` in other words.
use Rattle.std.proofs.Common.{◌≡◌, ℕ, Bool, true, false, cond, Result, Ok, Err, List, refl, ap, sym, ◌∙◌}
use Rattle.std.specs.List.{list_all}
use Rattle.lis_words.specs.Words.{has_word}
use Rattle.lis_grammar.specs.Formula.{Formula}
use Rattle.lis_grammar.specs.Places.{Resolution, resolved, text_words}
use Rattle.lis_grammar.specs.Places.Resolution.{NewPlace, BeyondLimits, Unreadable}
use Rattle.lis_model.specs.declared.refusal.Refusal.{Refusal}
use Rattle.lis_model.specs.declared.refusal.Refusal.TheVariants.{UnknownProperty}
use Rattle.lis_model.specs.State.{known}
use Rattle.lis_model.specs.Step.{Situation, Outcome, refused, moved, cd_to, cd}
use Rattle.lis_session.specs.Parts.{led_to}

-- where a text leads, as the code judges it
abbrev pub arrived : Situation → Result (List Formula) Refusal → Outcome
arrived now (Ok place) = moved now place
arrived now (Err refusal) = refused now refusal

cd_led : (now : Situation) (text : List ℕ) → cd now text ≡ arrived now (led_to (known now.state) text (resolved now.place text))
cd_led now text = by (resolved now.place text)
  where
    judge : (t : Bool) (place : List Formula) → cond t (moved now place) (refused now UnknownProperty) ≡ arrived now (cond t (Ok place) (Err UnknownProperty))
    judge true place = refl
    judge false place = refl

    by : (to : Resolution) → cd_to now text to ≡ arrived now (led_to (known now.state) text to)
    by Unreadable = refl
    by BeyondLimits = refl
    by (NewPlace place) = judge (list_all (has_word (known now.state)) (text_words text)) place

-- where a text leads, by the known words
pub cd_arrives : (now : Situation) (text : List ℕ) (words : List (List ℕ)) (judged : Result (List Formula) Refusal) → known now.state ≡ words → judged ≡ led_to words text (resolved now.place text)
    → cd now text ≡ arrived now judged
cd_arrives now text words judged told is = cd_led now text ∙ ap (λ ws. arrived now (led_to ws text (resolved now.place text))) told ∙ ap (arrived now) (sym is)
