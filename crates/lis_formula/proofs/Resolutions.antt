-- What a text makes of a place, by what the text reads as.
use Rattle.std.proofs.Common.{◌≡◌, ℕ, ◌≤◌, Bool, true, false, inl, inr, Option, Some, None, List, ◌++◌, length, ap, sym, subst, ◌∙◌, codes, nat_lt, MatchOption}
use Rattle.std.specs.Prelude.{Result, Ok, Err, IfSome}
use Rattle.std.specs.Option.{ok_or}
use Rattle.std.proofs.lemmas.Bool.{cond-true, cond-false, le-ltb}
use Rattle.lis_words.specs.Words.{same_word}
use Rattle.lis_grammar.specs.Formula.{Formula}
use Rattle.lis_grammar.specs.Machine.{text_steps, broken_at}
use Rattle.lis_grammar.specs.Places.{IsPlace, is_place, without_last, within_limits, steps_from, resolved_path, resolved}
use Rattle.lis_grammar.specs.Places.Resolution.{NewPlace, BeyondLimits}
use Rattle.lis_grammar.proofs.Placed.{test_from_place, no_place}
use Rattle.lis_place.specs.declared.place.Path.{Path}
use Rattle.lis_formula.specs.declared.fault.FormulaFault.{FormulaFault}
use Rattle.lis_formula.specs.declared.fault.FormulaFault.TheVariants.{TooLarge, Syntax}
use Rattle.lis_formula.specs.Answers.{ReadsTo, Computes, IsResolution}
use Rattle.lis_formula.proofs.TextWords.{long_beyond, large_beyond}

within : (steps : List Formula) → IsPlace steps → within_limits steps ≡ NewPlace steps
within steps p = cond-true (is_place steps) _ _ (test_from_place steps p)

beyond : (steps : List Formula) → (IsPlace steps → ⊥) → within_limits steps ≡ BeyondLimits
beyond steps p = cond-false (is_place steps) _ _ (no_place steps p)

pub from_root : (place steps : List Formula) (rooted : Bool) → rooted ≡ true → IsPlace steps → within_limits (steps_from place rooted steps) ≡ NewPlace steps
from_root place steps rooted e p = ap within_limits (cond-true rooted steps (place ++ steps) e) ∙ within steps p

pub from_here : (place steps : List Formula) (rooted : Bool) (found : Option (List Formula)) (result : Result (List Formula) FormulaFault)
    → rooted ≡ false → MatchOption found (IsPlace (place ++ steps) → ⊥) (λ new. new ≡ place ++ steps) → IfSome found (λ new. IsPlace new) → result ≡ ok_or found TooLarge
    → IsResolution (within_limits (steps_from place rooted steps)) result
from_here place steps rooted None result e h p r = rw r (ap within_limits (cond-false rooted steps (place ++ steps) e) ∙ beyond (place ++ steps) h)
from_here place steps rooted (Some new) result e h p r =
    rw r (ap within_limits (cond-false rooted steps (place ++ steps) e ∙ sym h) ∙ within new p)

pub one_step_up : (place : List Formula) (text : List ℕ) → same_word text (codes "..") ≡ true → resolved place text ≡ NewPlace (without_last place)
unfolding resolved
one_step_up place text h = cond-true (same_word text (codes "..")) _ _ h

read_text : (place : List Formula) (text : List ℕ) → same_word text (codes "..") ≡ false → length text ≤ 1024 → resolved place text ≡ resolved_path place (text_steps text)
unfolding resolved
read_text place text h short = cond-false (same_word text (codes "..")) _ _ h ∙ cond-false (nat_lt 1024 (length text)) _ _ (le-ltb 1024 (length text) short)

pub path_followed : (place : List Formula) (text : List ℕ) (path : Path) → same_word text (codes "..") ≡ false
    → ReadsTo text (Ok path) → Computes text (Ok path) → resolved place text ≡ within_limits (steps_from place path.rooted path.place)
path_followed place text path h a e =
    read_text place text h a.0 ∙ (ap (resolved_path place) e ∙ cond-true (is_place path.place) _ _ (test_from_place path.place a.2))

pub fault_answered : (place : List Formula) (text : List ℕ) (fault : FormulaFault) → same_word text (codes "..") ≡ false
    → ReadsTo text (Err fault) → Computes text (Err fault) → IsResolution (resolved place text) (Err fault)
fault_answered place text TooLarge h a e = elim e [
  | inl long ↦ long_beyond place text h long
  | inr found ↦ large_beyond place text found.0 h found.1 found.2
]
fault_answered place text (Syntax k) h a e =
    read_text place text h a.0 ∙ ap (resolved_path place) e.0

-- a text that is no formula breaks where its result says
pub broken_there : (text : List ℕ) (fault : FormulaFault) → Computes text (Err fault) → (k : ℕ) → fault ≡ Syntax k → k ≡ broken_at text
broken_there text TooLarge e k is = absurd (cc)
broken_there text (Syntax j) e k is = subst (λ n. n ≡ broken_at text) (same is) e.1
  where
    same : Syntax j ≡ Syntax k → j ≡ k
    same h = cc
