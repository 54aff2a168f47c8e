-- The words that files are given: plain and valued ones, none of them built in.
use Rattle.std.proofs.Common.{◌≡◌, ℕ, true, false, ◌||◌, List}
use Rattle.std.proofs.lemmas.Bool.{or_left, or_right, and_from, not_from_false, false_from_ne_true, both_ways}
use Rattle.lis_graph.proofs.Members.{Among}
use Rattle.lis_words.specs.Words.{head_bytes, is_plain_word, is_head, is_valued, is_word, is_test, is_built_in}
use Rattle.lis_words.proofs.Tests.{plain_not_test, valued_not_test}
use Rattle.lis_model.specs.State.{State, File, WellFormed, is_declarable}
use Rattle.lis_model.specs.Places.{is_tag}
use Rattle.lis_laws.proofs.Counts.{all_among}
use Rattle.lis_laws.proofs.Apart.{plain_not_head, bare_head_not_valued, head_built_in, built_in_not_plain, declarable_not_built_in}
use Rattle.lis_laws.proofs.Sources.{Assignable, assignable_cases, assigned_are}
use Rattle.lis_laws.proofs.Sources.Assignable.{Plain, Valued}

pub record IsGiven (word : List ℕ) : Type 0 where
  pub form : is_word word ≡ true
  pub no_head : is_head word ≡ false
  pub no_test : is_test word ≡ false
  pub not_built_in : is_built_in word ≡ false

pub given_tag : (word : List ℕ) → IsGiven word → is_tag word ≡ true
given_tag word given = and_from _ _ (not_from_false _ given.no_head) (not_from_false _ given.not_built_in)

pub given_from : (t : State) → WellFormed t → (word : List ℕ) → Assignable t.declared word → IsGiven word
given_from t formed word (Plain plain there) = record {
  form = or_left _ _ (or_left _ _ plain);
  no_head = plain_not_head word plain;
  no_test = plain_not_test word plain;
  not_built_in = false_from_ne_true (is_built_in word) (λ built_in. both_ways (is_plain_word word) (built_in_not_plain word built_in) plain);
}
given_from t formed word (Valued valued there) = record {
  form = or_right (is_plain_word word || is_head word) _ valued;
  no_head = false_from_ne_true (is_head word) (λ head. both_ways (is_valued word) (bare_head_not_valued word head) valued);
  no_test = valued_not_test word valued;
  not_built_in = false_from_ne_true (is_built_in word) own;
}
  where
    own : is_built_in word ≡ true → ⊥
    own built_in =
        both_ways (is_built_in (head_bytes word)) (declarable_not_built_in (head_bytes word) (all_among is_declarable t.declared (head_bytes word) formed.declared there))
        (head_built_in word valued built_in)

pub given_words : (t : State) → WellFormed t → (file : File) → Among t.files file → (word : List ℕ) → Among file.assigned word → IsGiven word
given_words t formed file m word given = given_from t formed word (assignable_cases t.declared word (assigned_are t formed file m word given))
