-- The marks of runs are well formed, and different numbers make different marks.
use Rattle.std.proofs.Common.{◌≡◌, ℕ, ◌+◌, ◌-◌, ◌<◌, ◌≤◌, Bool, true, false, List, [], ◌∷◌, ◌++◌, length, get_or, map, refl, sym, ap, ◌∙◌, arith, le-leb, ne_eqb}
use Rattle.std.specs.List.{list_all}
use Rattle.std.specs.Char.{is_ascii_digit}
use Rattle.std.specs.Int.Digits.{digits_of, AllBelowBase}
use Rattle.std.proofs.lemmas.Bool.{and_parts, and_from, not_from_false, false_from_ne_true}
use Rattle.std.proofs.lemmas.Int.Digits.{all_below_base_digits_of, first_digits_of, same_from_digits_of}
use Rattle.std.proofs.lemmas.List.Folds.{list_all-append}
use Rattle.std.proofs.lemmas.Slice.Eq.{bytes_eq-Decides}
use Rattle.lis_words.specs.Words.{same_word}
use Rattle.lis_transducers.specs.Bytes.{is_no_feed, front, past, but_first}
use Rattle.lis_views.specs.Lines.{has_no_feed}
use Rattle.lis_views.specs.Views.{numeral, mark_of}
use Rattle.lis_views.specs.Edits.{is_numeral, is_no_space, is_mark}

-- ---- numerals: what holds of every digit holds of all their bytes
glyphs : (test : ℕ → Bool) → ((b : ℕ) → 48 ≤ b → b < 58 → test b ≡ true) → (digits : List ℕ) → AllBelowBase 10 digits → list_all test (map (λ digit. 48 + digit) digits) ≡ true
glyphs test holds [] h = refl
glyphs test holds (digit ∷ digits) h = and_from _ _ (holds (48 + digit) (omega arith) (omega (arith, h.0))) (glyphs test holds digits h.1)

numeral_all : (test : ℕ → Bool) → ((b : ℕ) → 48 ≤ b → b < 58 → test b ≡ true) → (n : ℕ) → list_all test (numeral n) ≡ true
numeral_all test holds n = glyphs test holds (digits_of 10 n) (all_below_base_digits_of 10 n (omega arith))

numeral_digits : (n : ℕ) → list_all is_ascii_digit (numeral n) ≡ true
numeral_digits = numeral_all is_ascii_digit (λ b low high. and_from _ _ (le-leb 48 b low) (le-leb b 57 (omega arith)))

numeral_no_space : (n : ℕ) → list_all is_no_space (numeral n) ≡ true
numeral_no_space = numeral_all is_no_space (λ b low high. not_from_false _ (ne_eqb b 32 (omega arith)))

numeral_no_feed : (n : ℕ) → list_all is_no_feed (numeral n) ≡ true
numeral_no_feed = numeral_all is_no_feed (λ b low high. not_from_false _ (ne_eqb b 10 (omega arith)))

numeral_formed : (n : ℕ) → 0 < n → is_numeral (numeral n) ≡ true
numeral_formed n some = by (digits_of 10 n) (first_digits_of 10 n (omega arith) some) (numeral_digits n)
  where
    by : (digits : List ℕ) → 0 < get_or digits 0 0 → list_all is_ascii_digit (map (λ digit. 48 + digit) digits) ≡ true → is_numeral (map (λ digit. 48 + digit) digits) ≡ true
    by [] first h = absurd (omega arith)
    by (digit ∷ digits) first h = and_from _ _ h (not_from_false _ (ne_eqb (48 + digit) 48 (omega arith)))

-- ---- a text that is cut at its first byte of a kind
pub front_whole : (test : ℕ → Bool) (bytes : List ℕ) (b : ℕ) (more : List ℕ) → list_all test bytes ≡ true → test b ≡ false → front test (bytes ++ b ∷ more) ≡ bytes
front_whole test [] b more h stop = rw stop
front_whole test (c ∷ bytes) b more h stop = let parts = and_parts (test c) (list_all test bytes) h in let one = parts.0 in rw one (ap (λ rest. c ∷ rest) (front_whole test bytes b more parts.1 stop))

pub past_whole : (test : ℕ → Bool) (bytes : List ℕ) (b : ℕ) (more : List ℕ) → list_all test bytes ≡ true → test b ≡ false → past test (bytes ++ b ∷ more) ≡ b ∷ more
past_whole test [] b more h stop = rw stop
past_whole test (c ∷ bytes) b more h stop = let parts = and_parts (test c) (list_all test bytes) h in let one = parts.0 in rw one (past_whole test bytes b more parts.1 stop)

-- ---- marks
mark_front : (n : ℕ) (run : List (List ℕ)) → front is_no_space (but_first (mark_of n run)) ≡ numeral n
mark_front n run = front_whole is_no_space (numeral n) 32 (numeral (length run)) (numeral_no_space n) refl

mark_past : (n : ℕ) (run : List (List ℕ)) → past is_no_space (but_first (mark_of n run)) ≡ 32 ∷ numeral (length run)
mark_past n run = past_whole is_no_space (numeral n) 32 (numeral (length run)) (numeral_no_space n) refl

pub mark_formed : (n : ℕ) (run : List (List ℕ)) → 0 < n → 0 < length run → is_mark (mark_of n run) ≡ true
mark_formed n run one some =
    and_from (is_numeral (front is_no_space (but_first (mark_of n run)))) _
    (ap is_numeral (mark_front n run) ∙ numeral_formed n one)
    (ap (λ rest. is_numeral (but_first rest)) (mark_past n run) ∙ numeral_formed (length run) some)

pub mark_no_feed : (n : ℕ) (run : List (List ℕ)) → has_no_feed (mark_of n run) ≡ true
mark_no_feed n run =
    list_all-append is_no_feed (numeral n) (32 ∷ numeral (length run))
    ∙ and_from _ _ (numeral_no_feed n) (numeral_no_feed (length run))

digits_back : (digits : List ℕ) → map (λ b. b - 48) (map (λ digit. 48 + digit) digits) ≡ digits
digits_back [] = refl
digits_back (digit ∷ digits) = let first : 48 + digit - 48 ≡ digit = omega arith in ap (λ d. d ∷ map (λ b. b - 48) (map (λ digit. 48 + digit) digits)) first ∙ ap (λ ds. digit ∷ ds) (digits_back digits)

numeral_number : (m n : ℕ) → numeral m ≡ numeral n → m ≡ n
numeral_number m n e =
    same_from_digits_of 10 m n (omega arith) (sym (digits_back (digits_of 10 m)) ∙ ap (λ bytes. map (λ b. b - 48) bytes) e ∙ digits_back (digits_of 10 n))

mark_number : (m n : ℕ) (run other : List (List ℕ)) → mark_of m run ≡ mark_of n other → m ≡ n
mark_number m n run other e = numeral_number m n (sym (mark_front m run) ∙ ap (λ mark. front is_no_space (but_first mark)) e ∙ mark_front n other)

pub marks_apart : (m n : ℕ) (run other : List (List ℕ)) → m < n → same_word (mark_of m run) (mark_of n other) ≡ false
marks_apart m n run other below =
    false_from_ne_true _ (λ e. let same : m ≡ n = mark_number m n run other ((bytes_eq-Decides (mark_of m run) (mark_of n other)).0 e) in omega arith)
