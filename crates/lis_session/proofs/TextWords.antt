-- The words of a formula text that leads to a place, and whether they are known.
use Rattle.std.proofs.Common.{◌≡◌, ℕ, Bool, if◌then◌else◌, List, Ok, Err, ap, sym, ◌∙◌}
use Rattle.std.specs.List.{list_all}
use Rattle.lis_words.specs.Words.{has_word}
use Rattle.lis_grammar.specs.Formula.{Formula}
use Rattle.lis_grammar.specs.Places.{Resolution, text_words}
use Rattle.lis_grammar.specs.Places.Resolution.{NewPlace}
use Rattle.lis_model.specs.declared.refusal.Refusal.TheVariants.{UnknownProperty}
use Rattle.lis_session.specs.Parts.{led_to}

-- where a text leads, by whether its words are known
pub led_by_words : (known : List (List ℕ)) (text : List ℕ) (to : Resolution) (next : List Formula) (all : Bool) → to ≡ NewPlace next → all ≡ list_all (has_word known) (text_words text)
    → (if all then Ok next else Err UnknownProperty) ≡ led_to known text to
led_by_words known text to next all is told =
    ap (λ b. if b then Ok next else Err UnknownProperty) told ∙ ap (led_to known text) (sym is)
