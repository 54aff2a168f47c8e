-- A test is none of the other words: its sign is in no plain word, and it has no colon.
use Rattle.std.proofs.Common.{◌≡◌, ◌⊎◌, ℕ, ◌≤◌, Bool, true, false, cond, Option, Some, None, is_some, List, [], ◌∷◌, ◌++◌, ◌&&◌, ◌||◌, nat_lt, nat_le, length, take, drop, codes, refl, ap, sym, ◌∙◌, inl, inr, arith, length-append}
use Rattle.std.specs.Char.{is_ascii_digit}
use Rattle.std.specs.Cmp.Lexicographic.{same_text}
use Rattle.std.specs.List.{list_any, list_all}
use Rattle.std.proofs.lemmas.Bool.{and_parts, or_left, or_right, or_cases, leb-true, ne_eqb, both_ways}
use Rattle.std.proofs.Math.Bool.{and-false}
use Rattle.std.proofs.lemmas.List.{take-append-drop}
use Rattle.lis_words.specs.Words.{is_plain_word, is_head, is_valued, is_word, has_stem, same_word, is_count, is_number, count_of, number_behind, test_by, is_test, is_property}
use Rattle.lis_words.specs.Bytes.{is_colon}

-- the word is the sign and a number
record IsSigned (sign word : List ℕ) : Type 0 where
  rest : List ℕ
  spelled : word ≡ sign ++ rest
  number : is_number rest ≡ true

signed : (sign word : List ℕ) (n : ℕ) → number_behind sign word ≡ Some n → IsSigned sign word
signed sign word n h = by (same_word (take (length sign) word) sign && is_number (drop (length sign) word)) refl h
  where
    by : (t : Bool) → (same_word (take (length sign) word) sign && is_number (drop (length sign) word)) ≡ t
        → cond t (Some (count_of (drop (length sign) word))) None ≡ Some n → IsSigned sign word
    by true e h =
        let both = and_parts _ _ e in
        record {
          rest = drop (length sign) word;
          spelled = sym (take-append-drop (length sign) word) ∙ ap (λ xs. xs ++ drop (length sign) word) (same_text (take (length sign) word) sign (sym both.0));
          number = both.1;
        }
    by false e h = absurd cc

signs : (word : List ℕ) → is_test word ≡ true → IsSigned (codes "size>=") word ⊎ IsSigned (codes "size<") word
signs word h = by (number_behind (codes "size>=") word) (number_behind (codes "size<") word) refl refl h
  where
    by : (a b : Option ℕ) → number_behind (codes "size>=") word ≡ a → number_behind (codes "size<") word ≡ b → is_some (test_by a b) ≡ true
        → IsSigned (codes "size>=") word ⊎ IsSigned (codes "size<") word
    by (Some n) b e f h = inl (signed (codes "size>=") word n e)
    by None (Some n) e f h = inr (signed (codes "size<") word n f)
    by None None e f h = absurd cc

digit_no_colon : (b : ℕ) → is_ascii_digit b ≡ true → is_colon b ≡ false
digit_no_colon b h =
    ne_eqb b 58 (λ same. omega (arith, leb-true b 57 (and_parts (nat_le 48 b) (nat_le b 57) h).1, same))

digits_no_colon : (digits : List ℕ) → list_all is_ascii_digit digits ≡ true → list_any is_colon digits ≡ false
digits_no_colon [] h = refl
digits_no_colon (b ∷ digits) h =
    let both = and_parts _ _ h in
    rw (digit_no_colon b both.0) (digits_no_colon digits both.1)

number_digits : (rest : List ℕ) → is_number rest ≡ true → list_all is_ascii_digit rest ≡ true
number_digits rest h = (and_parts _ _ (and_parts _ _ h).0).1

pub test_no_colon : (word : List ℕ) → is_test word ≡ true → list_any is_colon word ≡ false
test_no_colon word h = by (signs word h)
  where
    by : IsSigned (codes "size>=") word ⊎ IsSigned (codes "size<") word → list_any is_colon word ≡ false
    by (inl s) = ap (list_any is_colon) s.spelled ∙ digits_no_colon s.rest (number_digits s.rest s.number)
    by (inr s) = ap (list_any is_colon) s.spelled ∙ digits_no_colon s.rest (number_digits s.rest s.number)

pub test_not_plain : (word : List ℕ) → is_test word ≡ true → is_plain_word word ≡ false
test_not_plain word h = by (signs word h)
  where
    by : IsSigned (codes "size>=") word ⊎ IsSigned (codes "size<") word → is_plain_word word ≡ false
    by (inl s) = ap is_plain_word s.spelled ∙ and-false _
    by (inr s) = ap is_plain_word s.spelled ∙ and-false _

no_test : (word : List ℕ) → (is_test word ≡ true → ⊥) → is_test word ≡ false
no_test word none = by (is_test word) refl
  where
    by : (t : Bool) → is_test word ≡ t → t ≡ false
    by true e = absurd (none e)
    by false e = refl

pub plain_not_test : (word : List ℕ) → is_plain_word word ≡ true → is_test word ≡ false
plain_not_test word plain = no_test word (λ h. both_ways (is_plain_word word) (test_not_plain word h) plain)

stem_not_test : (word : List ℕ) → has_stem word ≡ true → is_test word ≡ false
stem_not_test word stem =
    no_test word (λ h. both_ways (list_any is_colon word) (test_no_colon word h) (and_parts _ _ (and_parts _ _ stem).0).1)

pub head_not_test : (word : List ℕ) → is_head word ≡ true → is_test word ≡ false
head_not_test word head = stem_not_test word (and_parts _ _ head).0

pub valued_not_test : (word : List ℕ) → is_valued word ≡ true → is_test word ≡ false
valued_not_test word valued = stem_not_test word (and_parts _ _ (and_parts _ _ valued).0).0

-- ---- how long a word is
count_short : (digits : List ℕ) → is_count digits ≡ true → length digits ≤ 12
count_short digits h =
    let front : (nat_lt 0 (length digits) && nat_le (length digits) 12) ≡ true = (and_parts _ _ h).0 in
    leb-true (length digits) 12 (and_parts _ _ front).1

number_short : (digits : List ℕ) → is_number digits ≡ true → length digits ≤ 12
number_short digits h = count_short digits (and_parts _ _ h).0

test_short : (word : List ℕ) → is_test word ≡ true → length word ≤ 60
test_short word h = by (signs word h)
  where
    by : IsSigned (codes "size>=") word ⊎ IsSigned (codes "size<") word → length word ≤ 60
    by (inl s) = omega (arith, ap length s.spelled, length-append (codes "size>=") s.rest, number_short s.rest s.number)
    by (inr s) = omega (arith, ap length s.spelled, length-append (codes "size<") s.rest, number_short s.rest s.number)

word_short : (word : List ℕ) → is_word word ≡ true → length word ≤ 60
word_short word h = by (or_cases _ _ h)
  where
    stem_60 : has_stem word ≡ true → length word ≤ 60
    stem_60 stem = leb-true _ _ (and_parts _ _ (and_parts _ _ stem).0).0

    front : (is_plain_word word ≡ true) ⊎ (is_head word ≡ true) → length word ≤ 60
    front (inl plain) = leb-true _ _ (and_parts _ _ (and_parts _ _ (and_parts _ _ plain).0).0).1
    front (inr head) = stem_60 (and_parts _ _ head).0

    by : ((is_plain_word word || is_head word) ≡ true) ⊎ (is_valued word ≡ true) → length word ≤ 60
    by (inl both) = front (or_cases _ _ both)
    by (inr valued) = stem_60 (and_parts _ _ (and_parts _ _ valued).0).0

pub property_short : (word : List ℕ) → is_property word ≡ true → length word ≤ 60
property_short word h = by (or_cases (is_word word) (is_test word) h)
  where
    by : (is_word word ≡ true) ⊎ (is_test word ≡ true) → length word ≤ 60
    by (inl is) = word_short word is
    by (inr test) = test_short word test

pub word_is_property : (word : List ℕ) → is_word word ≡ true → is_property word ≡ true
word_is_property word h = or_left _ _ h

pub valued_is_property : (word : List ℕ) → is_valued word ≡ true → is_property word ≡ true
valued_is_property word h = or_left _ _ (or_right _ _ h)
