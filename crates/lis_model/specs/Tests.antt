-- Tests among the declared words: which is weaker than which, and which hold of a size.
use Rattle.std.specs.Prelude.{ℕ, nat_lt, nat_le, Bool, false, not, ◌&&◌, if◌then◌else◌, Option, Some, None, List, [], filter}
use Rattle.lis_words.specs.declared.test.Test.{Test}
use Rattle.lis_words.specs.Words.{has_word, test_of}
use Rattle.lis_grammar.specs.Formula.{Formula}
use Rattle.lis_grammar.specs.Formula.Formula.{Has, SizeAtLeast, SizeBelow}

-- the first is weaker than the second: size>=M than size>=N if M is below N, and size<M than size<N if M is above N
abbrev pub is_weaker : Test → Test → Bool
is_weaker q p = if q.at_least then p.at_least && nat_lt q.bytes p.bytes else not p.at_least && nat_lt p.bytes q.bytes

abbrev pub are_weaker : Option Test → Option Test → Bool
are_weaker (Some q) (Some p) = is_weaker q p
are_weaker (Some q) None = false
are_weaker None p = false

-- the declared tests that are weaker than a declared test
abbrev pub weaker_tests : List (List ℕ) → List ℕ → List (List ℕ)
weaker_tests declared word = if has_word declared word then filter (λ q. are_weaker (test_of q) (test_of word)) declared else []

-- a test holds of this many bytes
abbrev pub is_met : Option Test → ℕ → Bool
is_met None size = false
is_met (Some test) size = if test.at_least then nat_le test.bytes size else nat_lt size test.bytes

-- the declared tests that hold of this many bytes
abbrev pub met_tests : List (List ℕ) → ℕ → List (List ℕ)
met_tests declared size = filter (λ word. is_met (test_of word) size) declared

abbrev pub step_by : Option Test → List ℕ → Formula
step_by None word = Has word
step_by (Some test) word = if test.at_least then SizeAtLeast test.bytes else SizeBelow test.bytes

-- the step of a place for a word: of a test the test with its number, and of every other word that word
abbrev pub step_of : List ℕ → Formula
step_of word = step_by (test_of word) word
