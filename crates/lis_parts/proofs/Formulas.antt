-- The formula as which a text reads.
use Rattle.std.proofs.Common.{◌≡◌, ℕ, ◌≤◌, nat_lt, Bool, true, false, Some, List, [], length, refl, ap, ◌∙◌}
use Rattle.std.proofs.lemmas.Bool.{cond-true, cond-false, le-ltb}
use Rattle.lis_grammar.specs.Formula.{Formula}
use Rattle.lis_grammar.specs.Machine.{text_steps}
use Rattle.lis_grammar.specs.Places.{IsPlace, is_place, within_limits, steps_from, resolved_path}
use Rattle.lis_grammar.specs.Places.Resolution.{NewPlace, BeyondLimits}
use Rattle.lis_grammar.proofs.Placed.{test_from_place}
use Rattle.lis_parts.specs.Commands.{formula_of}

-- a leading slash has no effect
from_root : (rooted : Bool) (place : List Formula) → steps_from [] rooted place ≡ place
from_root true place = refl
from_root false place = refl

pub whole_place : (text : List ℕ) (rooted : Bool) (place : List Formula) → length text ≤ 1024 → text_steps text ≡ Some (rooted, place) → IsPlace place → formula_of text ≡ NewPlace place
whole_place text rooted place short is fits =
    let test = test_from_place place fits in
    cond-false (nat_lt 1024 (length text)) _ _ (le-ltb 1024 (length text) short)
    ∙ (ap (resolved_path []) is
    ∙ (cond-true (is_place place) (within_limits (steps_from [] rooted place)) BeyondLimits test
    ∙ (ap within_limits (from_root rooted place) ∙ cond-true (is_place place) (NewPlace place) BeyondLimits test)))
