-- Numerals as they are printed, and texts cut at their first blank.
use Rattle.std.proofs.Common.{◌≡◌, ℕ, ◌+◌, ◌<◌, ◌≤◌, ◌/◌, ◌%◌, ◌^◌, Bool, true, false, ◌&&◌, List, [], ◌∷◌, ◌++◌, take, drop, map, Some, None, decimal, refl, sym, ap, ◌∙◌, arith}
use Rattle.std.specs.List.{list_all}
use Rattle.std.specs.Int.Digits.{digits_of}
use Rattle.std.proofs.lemmas.Bool.{and_parts, and_right}
use Rattle.std.proofs.lemmas.Fmt.{decimal_by_steps}
use Rattle.std.proofs.lemmas.Int.Digits.{digits_of_step}
use Rattle.std.proofs.lemmas.List.{map-append}
use Rattle.memchr.specs.Find.{IsFirstByte, is_byte}
use Rattle.lis_transducers.specs.Bytes.{front, past, but_first}
use Rattle.lis_views.specs.Views.{numeral}
use Rattle.lis_views.specs.Edits.{is_no_space, is_numeral, are_numerals}
use Rattle.lis_views.proofs.Marks.{front_whole, past_whole}
use Rattle.lis_cuts.proofs.Places.{none_there, before_first_place, cut_at_first}

numeral_step : (n : ℕ) → 0 < n → numeral n ≡ numeral (n / 10) ++ (48 + n % 10) ∷ []
numeral_step n some =
    ap (map (λ digit. 48 + digit)) (digits_of_step 10 n (omega arith) some) ∙ map-append (λ digit. 48 + digit) (digits_of 10 (n / 10)) (n % 10 ∷ [])

one_digit : (n : ℕ) → n < 10 → 0 < n → (48 + n) ∷ [] ≡ numeral n
one_digit n small some =
    let tens : n / 10 ≡ 0 = omega arith in
    let ones : n % 10 ≡ n = omega arith in
    sym (numeral_step n some ∙ ap (λ m. numeral m ++ (48 + n % 10) ∷ []) tens ∙ ap (λ d. (48 + d) ∷ []) ones)

one_more : (n : ℕ) (digits : List ℕ) → 10 ≤ n → (0 < n / 10 → digits ≡ numeral (n / 10)) → 0 < n → digits ++ (48 + n % 10) ∷ [] ≡ numeral n
one_more n digits large is some = ap (λ ds. ds ++ (48 + n % 10) ∷ []) (is (omega arith)) ∙ sym (numeral_step n some)

-- a number above 0 is printed as its numeral
pub printed_numeral : (n : ℕ) → n < 2 ^ 64 → 0 < n → decimal n ≡ numeral n
printed_numeral n fits = decimal_by_steps (λ m digits. 0 < m → digits ≡ numeral m) one_digit one_more n fits

past_none : (test : ℕ → Bool) (bytes : List ℕ) → list_all test bytes ≡ true → past test bytes ≡ []
past_none test [] h = refl
past_none test (b ∷ bytes) h = let parts = and_parts (test b) (list_all test bytes) h in let one = parts.0 in rw one (past_none test bytes parts.1)

-- ---- two numerals with a blank between them
pub no_blank : (text : List ℕ) → IsFirstByte (is_byte 32) text None → are_numerals text ≡ false
no_blank text none = and_right (is_numeral (front is_no_space text)) _ (ap is_numeral (ap but_first (past_none is_no_space text (none_there 32 text none))))

pub blank_at : (text : List ℕ) (k : ℕ) → IsFirstByte (is_byte 32) text (Some k) → are_numerals text ≡ (is_numeral (take k text) && is_numeral (drop (k + 1) text))
blank_at text k found =
    let whole = cut_at_first 32 text k found in
    let before = before_first_place 32 text k found in
    ap are_numerals whole
    ∙ ap (λ number. is_numeral number && is_numeral (but_first (past is_no_space (take k text ++ 32 ∷ drop (k + 1) text)))) (front_whole is_no_space (take k text) 32 (drop (k + 1) text) before refl)
    ∙ ap (λ rest. is_numeral (take k text) && is_numeral (but_first rest)) (past_whole is_no_space (take k text) 32 (drop (k + 1) text) before refl)
