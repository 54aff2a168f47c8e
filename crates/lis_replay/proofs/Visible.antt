-- The bytes of words, names, counts and paths are above the blank, so they are no blanks and end no line.
use Rattle.std.proofs.Common.{◌≡◌, ◌⊎◌, ℕ, ◌<◌, ◌≤◌, ◌^◌, ◌==◌, nat_lt, nat_le, Bool, true, false, cond, ◌&&◌, ◌||◌, is_some, Option, Some, None, List, [], ◌∷◌, ◌++◌, length, take, drop, codes, decimal, refl, sym, ap, ◌∙◌, inl, inr, length-append, arith}
use Rattle.std.specs.Char.{is_ascii_digit}
use Rattle.std.specs.Cmp.Lexicographic.{same_text}
use Rattle.std.specs.List.{list_any, list_all}
use Rattle.std.proofs.lemmas.Bool.{and_parts, and_from, or_cases, leb-true, ltb-true, eqb-true}
use Rattle.std.proofs.lemmas.Bool.Decides.{nat_tests}
use Rattle.std.proofs.lemmas.Fmt.{digits_decimal, decimal_nonempty}
use Rattle.std.proofs.lemmas.List.{take-append-drop}
use Rattle.std.proofs.lemmas.List.Folds.{list_all-append}
use Rattle.lis_graph.proofs.Members.{Among}
use Rattle.lis_grammar.proofs.Operands.{split_at_colon}
use Rattle.lis_words.specs.Words.{is_plain_byte, is_plain_word, stem, value, has_stem, is_head, is_valued, is_word, is_test, is_property, is_file_name, same_word, is_number, number_behind, test_by, count_of}
use Rattle.lis_grammar.proofs.Printed.{numerals}
use Rattle.lis_laws.proofs.Counts.{all_weaker}
use Rattle.lis_replay.specs.Dump.{joined_with}
use Rattle.lis_replay.proofs.Joined.{behind, joined_all}
use Rattle.lis_words.specs.Bytes.{is_colon}

abbrev pub is_visible : ℕ → Bool
is_visible b = nat_lt 32 b

-- at least one byte, and none that is a blank or ends a line
pub record IsVisible (text : List ℕ) : Type 0 where
  pub some : 0 < length text
  pub bytes : list_all is_visible text ≡ true

-- ---- bytes
plain_visible : (b : ℕ) → is_plain_byte b ≡ true → is_visible b ≡ true
plain_visible b h = grind (arith, nat_tests)

digit_visible : (b : ℕ) → is_ascii_digit b ≡ true → is_visible b ≡ true
digit_visible b h = grind (arith, nat_tests)

plain_bytes : (text : List ℕ) → list_all is_plain_byte text ≡ true → list_all is_visible text ≡ true
plain_bytes text h = all_weaker is_plain_byte is_visible text (λ b m e. plain_visible b e) h

digit_bytes : (text : List ℕ) → list_all is_ascii_digit text ≡ true → list_all is_visible text ≡ true
digit_bytes text h = all_weaker is_ascii_digit is_visible text (λ b m e. digit_visible b e) h

-- ---- words with a colon
plain_word_visible : (word : List ℕ) → is_plain_word word ≡ true → IsVisible word
plain_word_visible word h =
    let parts = and_parts _ _ h in
    let sizes = and_parts _ _ (and_parts _ _ parts.0).0 in
    record { some = ltb-true 0 (length word) sizes.0; bytes = plain_bytes word parts.1 }

stem_visible : (word : List ℕ) → has_stem word ≡ true → list_all is_visible (value word) ≡ true → IsVisible word
stem_visible word h rest =
    let parts = and_parts (nat_le (length word) 60 && list_any is_colon word) (is_plain_word (stem word)) h in
    let colon = (and_parts (nat_le (length word) 60) (list_any is_colon word) parts.0).1 in
    let front : IsVisible (stem word) = plain_word_visible (stem word) parts.1 in
    let sides : word ≡ stem word ++ 58 ∷ value word = split_at_colon word colon in
    record {
      some = omega (arith, ap length sides, front.some, length-append (stem word) (58 ∷ value word));
      bytes = ap (list_all is_visible) sides ∙ list_all-append is_visible (stem word) (58 ∷ value word) ∙ and_from _ _ front.bytes (and_from (is_visible 58) _ refl rest);
    }

none_visible : (text : List ℕ) → (length text == 0) ≡ true → list_all is_visible text ≡ true
none_visible [] h = refl
none_visible (b ∷ text) h = absurd (omega (arith, eqb-true (length (b ∷ text)) 0 h))

pub word_visible : (word : List ℕ) → is_word word ≡ true → IsVisible word
word_visible word h = by (or_cases _ _ h)
  where
    front : (is_plain_word word ≡ true) ⊎ (is_head word ≡ true) → IsVisible word
    front (inl plain) = plain_word_visible word plain
    front (inr head) = let parts = and_parts _ _ head in stem_visible word parts.0 (none_visible (value word) parts.1)

    by : ((is_plain_word word || is_head word) ≡ true) ⊎ (is_valued word ≡ true) → IsVisible word
    by (inl either) = front (or_cases (is_plain_word word) (is_head word) either)
    by (inr valued) =
        let parts = and_parts _ _ valued in
        stem_visible word (and_parts _ _ parts.0).0 (plain_bytes (value word) parts.1)

-- ---- tests
behind_sign : (sign word : List ℕ) (n : ℕ) → 0 < length sign → list_all is_visible sign ≡ true → number_behind sign word ≡ Some n → IsVisible word
behind_sign sign word n some visible h = by (same_word (take (length sign) word) sign && is_number (drop (length sign) word)) refl h
  where
    by : (t : Bool) → (same_word (take (length sign) word) sign && is_number (drop (length sign) word)) ≡ t
        → cond t (Some (count_of (drop (length sign) word))) None ≡ Some n → IsVisible word
    by true e h =
        let both = and_parts _ _ e in
        let digits : list_all is_ascii_digit (drop (length sign) word) ≡ true = (and_parts _ _ (and_parts _ _ both.1).0).1 in
        let whole : word ≡ sign ++ drop (length sign) word =
        sym (take-append-drop (length sign) word) ∙ ap (λ xs. xs ++ drop (length sign) word) (same_text (take (length sign) word) sign (sym both.0)) in
        record {
          some = omega (arith, some, ap length whole, length-append sign (drop (length sign) word));
          bytes = ap (list_all is_visible) whole ∙ list_all-append is_visible sign (drop (length sign) word) ∙ and_from _ _ visible (digit_bytes (drop (length sign) word) digits);
        }
    by false e h = absurd cc

test_visible : (word : List ℕ) → is_test word ≡ true → IsVisible word
test_visible word h = by (number_behind (codes "size>=") word) (number_behind (codes "size<") word) refl refl h
  where
    by : (a b : Option ℕ) → number_behind (codes "size>=") word ≡ a → number_behind (codes "size<") word ≡ b → is_some (test_by a b) ≡ true → IsVisible word
    by (Some n) b e f h = behind_sign (codes "size>=") word n (omega arith) refl e
    by None (Some n) e f h = behind_sign (codes "size<") word n (omega arith) refl f
    by None None e f h = absurd cc

pub property_visible : (word : List ℕ) → is_property word ≡ true → IsVisible word
property_visible word h = by (or_cases (is_word word) (is_test word) h)
  where
    by : (is_word word ≡ true) ⊎ (is_test word ≡ true) → IsVisible word
    by (inl is) = word_visible word is
    by (inr test) = test_visible word test

-- ---- names, counts and paths
pub name_visible : (name : List ℕ) → is_file_name name ≡ true → IsVisible name
name_visible name h =
    let parts = and_parts _ _ h in
    let sizes = and_parts _ _ (and_parts _ _ parts.0).0 in
    record { some = ltb-true 0 (length name) sizes.0; bytes = plain_bytes name parts.1 }

pub name_short : (name : List ℕ) → is_file_name name ≡ true → length name ≤ 60
name_short name h =
    let parts = and_parts _ _ h in
    leb-true _ _ (and_parts _ _ (and_parts _ _ parts.0).0).1

pub decimal_visible : (n : ℕ) → n < 10 ^ 12 → IsVisible (decimal n)
decimal_visible n small = record { some = decimal_nonempty n (omega arith); bytes = digit_bytes (decimal n) (digits_decimal numerals n (omega arith)) }

pub path_visible : (word : List ℕ) (words : List (List ℕ)) → ((w : List ℕ) → Among (word ∷ words) w → is_word w ≡ true) → IsVisible (joined_with 47 (word ∷ words))
path_visible word words each = record {
  some = omega (arith, (word_visible word (each word (inl refl))).some, length-append word (behind 47 words));
  bytes = joined_all is_visible 47 (word ∷ words) refl (λ w m. (word_visible w (each w m)).bytes);
}
