-- No word is two of these: a plain word, a head, a valued word, a test.
use Rattle.std.proofs.Common.{◌≡◌, ◌⊎◌, ℕ, ◌<◌, true, false, not, ◌&&◌, ◌||◌, List, length, refl, subst, inl, inr, arith, eqb-true}
use Rattle.std.specs.List.{list_all, list_any}
use Rattle.std.proofs.lemmas.Bool.{and_parts, and_from, or_cases, or_left, or_right, not-true, not_from_false, both_ways, false_from_ne_true, ltb-true}
use Rattle.lis_graph.proofs.Members.{among_from_any}
use Rattle.lis_words.specs.Words.{has_word, head_bytes, value, has_stem, is_plain_byte, is_plain_word, is_head, is_valued, is_test, is_property, is_word, is_built_in, built_in_heads}
use Rattle.lis_words.proofs.Head.{stem_of_valued}
use Rattle.lis_words.proofs.Tests.{test_no_colon, valued_not_test}
use Rattle.lis_model.specs.State.{is_declarable}
use Rattle.lis_laws.proofs.Members.{among_from_has_word}
use Rattle.lis_laws.proofs.Counts.{all_among}
use Rattle.lis_words.specs.Bytes.{is_colon}

plain_bytes : (word : List ℕ) → is_plain_word word ≡ true → list_all is_plain_byte word ≡ true
plain_bytes word plain = (and_parts _ _ plain).1

head_stem : (word : List ℕ) → is_head word ≡ true → has_stem word ≡ true
head_stem word head = (and_parts _ _ head).0

stem_colon : (word : List ℕ) → has_stem word ≡ true → list_any is_colon word ≡ true
stem_colon word stem = (and_parts _ _ (and_parts _ _ stem).0).1

head_ends : (word : List ℕ) → is_head word ≡ true → length (value word) ≡ 0
head_ends word head = eqb-true _ _ (and_parts _ _ head).1

valued_goes_on : (word : List ℕ) → is_valued word ≡ true → 0 < length (value word)
valued_goes_on word valued = ltb-true _ _ (and_parts _ _ (and_parts _ _ valued).0).1

no_plain_colon : (b : ℕ) → is_plain_byte b ≡ true → is_colon b ≡ true → ⊥
no_plain_colon b plain colon =
    let at_colon : is_plain_byte 58 ≡ true = subst (λ n. is_plain_byte n ≡ true) (eqb-true b 58 colon) plain in
    both_ways (is_plain_byte 58) refl at_colon

plain_no_colon : (word : List ℕ) → is_plain_word word ≡ true → list_any is_colon word ≡ false
plain_no_colon word plain = false_from_ne_true (list_any is_colon word) found
  where
    found : list_any is_colon word ≡ true → ⊥
    found has =
        let colon = among_from_any is_colon word has in
        no_plain_colon colon.0 (all_among is_plain_byte word colon.0 (plain_bytes word plain) colon.1) colon.2

pub plain_not_valued : (word : List ℕ) → is_plain_word word ≡ true → is_valued word ≡ false
plain_not_valued word plain = false_from_ne_true (is_valued word) (λ valued. both_ways (list_any is_colon word) (plain_no_colon word plain) (stem_of_valued word valued).colon)

pub plain_not_head : (word : List ℕ) → is_plain_word word ≡ true → is_head word ≡ false
plain_not_head word plain = false_from_ne_true (is_head word) found
  where
    found : is_head word ≡ true → ⊥
    found head = both_ways (list_any is_colon word) (plain_no_colon word plain) (stem_colon word (head_stem word head))

pub bare_head_not_valued : (word : List ℕ) → is_head word ≡ true → is_valued word ≡ false
bare_head_not_valued word head = false_from_ne_true (is_valued word) found
  where
    found : is_valued word ≡ true → ⊥
    found valued = omega (arith, head_ends word head, valued_goes_on word valued)

pub test_not_valued : (word : List ℕ) → is_test word ≡ true → is_valued word ≡ false
test_not_valued word test = false_from_ne_true (is_valued word) (λ valued. both_ways (is_test word) (valued_not_test word valued) test)

-- what has a colon, as all built-in words have
built_in_colon : (word : List ℕ) → is_built_in word ≡ true → list_any is_colon word ≡ true
built_in_colon word h = by (or_cases _ _ h)
  where
    by : (has_word built_in_heads word ≡ true) ⊎ ((is_valued word && has_word built_in_heads (head_bytes word)) ≡ true) → list_any is_colon word ≡ true
    by (inl itself) = all_among (list_any is_colon) built_in_heads word refl (among_from_has_word built_in_heads word itself)
    by (inr both) = (stem_of_valued word (and_parts (is_valued word) (has_word built_in_heads (head_bytes word)) both).0).colon

-- the head of a built-in word is built in
pub head_built_in : (word : List ℕ) → is_valued word ≡ true → is_built_in word ≡ true → is_built_in (head_bytes word) ≡ true
head_built_in word valued h = or_left _ _ (by (or_cases _ _ h))
  where
    by : (has_word built_in_heads word ≡ true) ⊎ ((is_valued word && has_word built_in_heads (head_bytes word)) ≡ true) → has_word built_in_heads (head_bytes word) ≡ true
    by (inl itself) =
        let none = all_among (λ w. not (is_valued w)) built_in_heads word refl (among_from_has_word built_in_heads word itself) in
        absurd (both_ways (is_valued word) (not-true _ none) valued)
    by (inr both) = (and_parts (is_valued word) (has_word built_in_heads (head_bytes word)) both).1

pub built_in_not_plain : (word : List ℕ) → is_built_in word ≡ true → is_plain_word word ≡ false
built_in_not_plain word h = false_from_ne_true (is_plain_word word) (λ plain. both_ways (list_any is_colon word) (plain_no_colon word plain) (built_in_colon word h))

pub built_in_not_test : (word : List ℕ) → is_built_in word ≡ true → is_test word ≡ false
built_in_not_test word h = false_from_ne_true (is_test word) (λ test. both_ways (list_any is_colon word) (test_no_colon word test) (built_in_colon word h))

-- ---- words that can be declared
pub data Declarable (word : List ℕ) : Type 0 where
  Plain : is_plain_word word ≡ true → Declarable word
  Test : is_test word ≡ true → Declarable word
  Head : is_head word ≡ true → is_built_in word ≡ false → Declarable word

pub declarable_cases : (word : List ℕ) → is_declarable word ≡ true → Declarable word
declarable_cases word h = by (or_cases _ _ h)
  where
    front : (is_plain_word word ≡ true) ⊎ (is_test word ≡ true) → Declarable word
    front (inl plain) = Plain plain
    front (inr test) = Test test

    by : ((is_plain_word word || is_test word) ≡ true) ⊎ ((is_head word && not (is_built_in word)) ≡ true) → Declarable word
    by (inl either) = front (or_cases (is_plain_word word) (is_test word) either)
    by (inr both) = let parts = and_parts (is_head word) (not (is_built_in word)) both in Head parts.0 (not-true _ parts.1)

pub declarable_not_valued : (word : List ℕ) → is_declarable word ≡ true → is_valued word ≡ false
declarable_not_valued word form = by (declarable_cases word form)
  where
    by : Declarable word → is_valued word ≡ false
    by (Plain plain) = plain_not_valued word plain
    by (Test test) = test_not_valued word test
    by (Head head own) = bare_head_not_valued word head

pub declarable_not_built_in : (word : List ℕ) → is_declarable word ≡ true → is_built_in word ≡ false
declarable_not_built_in word form = by (declarable_cases word form)
  where
    by : Declarable word → is_built_in word ≡ false
    by (Plain plain) = false_from_ne_true (is_built_in word) (λ built_in. both_ways (is_plain_word word) (built_in_not_plain word built_in) plain)
    by (Test test) = false_from_ne_true (is_built_in word) (λ built_in. both_ways (is_test word) (built_in_not_test word built_in) test)
    by (Head head own) = own

-- a word that is neither built in nor valued can be declared
pub declarable_from : (word : List ℕ) → is_property word ≡ true → is_valued word ≡ false → is_built_in word ≡ false → is_declarable word ≡ true
declarable_from word form not_valued own = by (or_cases _ _ form)
  where
    shorter : (is_plain_word word ≡ true) ⊎ (is_head word ≡ true) → is_declarable word ≡ true
    shorter (inl plain) = or_left _ _ (or_left _ _ plain)
    shorter (inr head) = or_right (is_plain_word word || is_test word) _ (and_from _ _ head (not_from_false _ own))

    words : ((is_plain_word word || is_head word) ≡ true) ⊎ (is_valued word ≡ true) → is_declarable word ≡ true
    words (inl either) = shorter (or_cases (is_plain_word word) (is_head word) either)
    words (inr valued) = absurd (both_ways (is_valued word) not_valued valued)

    by : (is_word word ≡ true) ⊎ (is_test word ≡ true) → is_declarable word ≡ true
    by (inl is) = words (or_cases (is_plain_word word || is_head word) (is_valued word) is)
    by (inr test) = or_left _ _ (or_right (is_plain_word word) _ test)
