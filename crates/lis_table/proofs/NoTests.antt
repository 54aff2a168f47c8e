-- A word that is no test has no weaker tests.
use Rattle.std.proofs.Common.{◌≡◌, ℕ, Bool, true, false, cond, Option, Some, None, List, [], ◌∷◌, filter, refl, ap, ◌∙◌}
use Rattle.lis_words.specs.declared.test.Test.{Test}
use Rattle.lis_words.specs.Words.{has_word, test_of}
use Rattle.lis_model.specs.Tests.{are_weaker, weaker_tests}

none_among : (words : List (List ℕ)) → filter (λ q. are_weaker (test_of q) None) words ≡ []
none_among [] = refl
none_among (q ∷ words) = by (test_of q) (none_among words)
  where
    by : (t : Option Test) → filter (λ w. are_weaker (test_of w) None) words ≡ []
        → cond (are_weaker t None) (q ∷ filter (λ w. are_weaker (test_of w) None) words) (filter (λ w. are_weaker (test_of w) None) words) ≡ []
    by None more = more
    by (Some t) more = more

pub no_weaker_tests : (declared : List (List ℕ)) (word : List ℕ) → test_of word ≡ None → weaker_tests declared word ≡ []
no_weaker_tests declared word none =
    ap (λ t. cond (has_word declared word) (filter (λ q. are_weaker (test_of q) t) declared) []) none ∙ by (has_word declared word)
  where
    by : (b : Bool) → cond b (filter (λ q. are_weaker (test_of q) None) declared) [] ≡ []
    by true = none_among declared
    by false = refl
