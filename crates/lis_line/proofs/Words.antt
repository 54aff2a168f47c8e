-- The words of a text, one after another.
use Rattle.std.proofs.Common.{◌≡◌, ◌==◌, ℕ, ◌+◌, ◌-◌, ◌≤◌, ◌<◌, Bool, true, false, not, cond, List, [], ◌∷◌, ◌++◌, length, take, drop, filter, get_or, suc, ap, sym, ◌∙◌, refl, inl, inr, arith, length-take, append_assoc, append-nil}
use Rattle.std.specs.List.{prefix_len}
use Rattle.std.proofs.lemmas.Grind.{common_steps}
use Rattle.std.proofs.lemmas.List.Sums.{prefix_len-le-length}
use Rattle.std.proofs.lemmas.Bool.{cond-true, cond-false, cases_lt}
use Rattle.lis_line.specs.Tagged.{after_blanks}
use Rattle.lis_line.proofs.Bytes.{differs, same}
use Rattle.lis_model.specs.Script.{pieces_on, words_of}
use Rattle.lis_words.specs.Bytes.{is_blank, is_some_bytes, without_return}

one_more : (n : ℕ) → 1 + n ≡ suc n
one_more n = omega arith

abbrev pub blanks : List ℕ → ℕ
blanks text = prefix_len is_blank text

abbrev pub word_len : List ℕ → ℕ
word_len text = prefix_len (λ b. not (is_blank b)) text

pub blanks_dropped : (text : List ℕ) → drop (blanks text) text ≡ after_blanks text
blanks_dropped [] = refl
blanks_dropped (b ∷ text) = by (is_blank b) (blanks_dropped text)
  where
    by : (t : Bool) → drop (blanks text) text ≡ after_blanks text → drop (cond t (1 + blanks text) 0) (b ∷ text) ≡ cond t (after_blanks text) (b ∷ text)
    by true more = rw (one_more (blanks text)) more
    by false more = refl

-- blanks at the start make no word
words_past_blanks : (text : List ℕ) → words_of text ≡ words_of (after_blanks text)
words_past_blanks [] = refl
words_past_blanks (b ∷ text) = grind (arith, common_steps, words_past_blanks text)

no_blank_left : (text : List ℕ) → blanks (after_blanks text) ≡ 0
no_blank_left [] = refl
no_blank_left (b ∷ text) = grind (arith, common_steps, no_blank_left text)

-- a word that began, and the bytes after it
pieces_front : (piece text : List ℕ) → is_some_bytes piece ≡ true
    → filter is_some_bytes (pieces_on piece text) ≡ (piece ++ take (word_len text) text) ∷ words_of (drop (word_len text) text)
pieces_front piece [] some = rw (append-nil piece, some) refl
pieces_front piece (b ∷ text) some = by (is_blank b) refl (pieces_front (piece ++ b ∷ []) text (grown piece b))
  where
    grown : (piece : List ℕ) (b : ℕ) → is_some_bytes (piece ++ b ∷ []) ≡ true
    grown [] b = refl
    grown (c ∷ piece) b = refl

    by : (t : Bool) → is_blank b ≡ t
        → filter is_some_bytes (pieces_on (piece ++ b ∷ []) text) ≡ ((piece ++ b ∷ []) ++ take (word_len text) text) ∷ words_of (drop (word_len text) text)
        → filter is_some_bytes (cond t (piece ∷ pieces_on [] text) (pieces_on (piece ++ b ∷ []) text))
        ≡ (piece ++ take (cond (not t) (1 + word_len text) 0) (b ∷ text)) ∷ words_of (drop (cond (not t) (1 + word_len text) 0) (b ∷ text))
    by true e more = rw (append-nil piece, some, e) refl
    by false e more =
        rw (one_more (word_len text)) (more ∙ ap (λ word. word ∷ words_of (drop (word_len text) text)) (append_assoc piece (b ∷ []) (take (word_len text) text)))

-- a text that begins with no blank
pub words_first : (text : List ℕ) → 0 < length text → blanks text ≡ 0
    → words_of text ≡ take (word_len text) text ∷ words_of (drop (word_len text) text)
words_first [] some none = absurd (omega arith)
words_first (b ∷ text) some none = by (is_blank b) refl none (pieces_front (b ∷ []) text refl)
  where
    by : (t : Bool) → is_blank b ≡ t → cond t (1 + blanks text) 0 ≡ 0
        → filter is_some_bytes (pieces_on (b ∷ []) text) ≡ (b ∷ take (word_len text) text) ∷ words_of (drop (word_len text) text)
        → filter is_some_bytes (cond t ([] ∷ pieces_on [] text) (pieces_on (b ∷ []) text))
        ≡ take (cond (not t) (1 + word_len text) 0) (b ∷ text) ∷ words_of (drop (cond (not t) (1 + word_len text) 0) (b ∷ text))
    by true e none more = absurd (omega arith)
    by false e none more = rw (one_more (word_len text)) more

pub no_words : (text : List ℕ) → length (after_blanks text) ≡ 0 → words_of text ≡ []
no_words text none = words_past_blanks text ∙ empty (after_blanks text) none
  where
    empty : (rest : List ℕ) → length rest ≡ 0 → words_of rest ≡ []
    empty [] e = refl
    empty (b ∷ rest) e = absurd (omega arith)

pub one_word : (text rest : List ℕ) (n : ℕ) → rest ≡ after_blanks text → 0 < length rest → n ≡ word_len rest
    → words_of text ≡ take n rest ∷ words_of (drop n rest)
one_word text rest n is some at =
    words_past_blanks text ∙ ap words_of (sym is)
    ∙ words_first rest some (ap blanks is ∙ no_blank_left text)
    ∙ ap (λ k. take k rest ∷ words_of (drop k rest)) (sym at)

-- a first word is no longer than the text after the blanks
pub word_fits : (text word : List ℕ) (words : List (List ℕ)) → words_of text ≡ word ∷ words → length word ≤ length (after_blanks text)
word_fits text word words is = elim (cases_lt 0 (length (after_blanks text))) as (λ _. length word ≤ length (after_blanks text)) [
  | inl some ↦
      let first = one_word text (after_blanks text) (word_len (after_blanks text)) refl some refl in
      let same : word ≡ take (word_len (after_blanks text)) (after_blanks text) = cc in
      omega (arith, ap length same, length-take (word_len (after_blanks text)) (after_blanks text))
  | inr none ↦
      let empty = no_words text (omega (arith, none)) in
      let no : [] ≡ word ∷ words = sym empty ∙ is in
      absurd (cc)
]

pub blanks_within : (text : List ℕ) (n : ℕ) → n ≡ blanks text → n ≤ length text
blanks_within text n at = rw at (prefix_len-le-length is_blank text)

pub word_within : (text : List ℕ) (n : ℕ) → n ≡ word_len text → n ≤ length text
word_within text n at = rw at (prefix_len-le-length (λ b. not (is_blank b)) text)

-- the last byte of a line, a carriage return or another
shorter : (n : ℕ) → suc (suc n) - 1 ≡ suc (suc n - 1)
shorter n = omega arith

pub return_dropped : (line : List ℕ) → 0 < length line → get_or (drop (length line - 1) line) 0 0 ≡ 13
    → take (length line - 1) line ≡ without_return line
return_dropped [] some is = absurd (omega arith)
return_dropped (b ∷ []) some is = sym (cond-true (b == 13) [] (b ∷ []) (same b 13 is))
return_dropped (b ∷ c ∷ line) some is =
    let is' = rw (shorter (length line)) at is in
    rw (shorter (length line)) (ap (λ xs. b ∷ xs) (return_dropped (c ∷ line) (omega arith) is'))

pub no_return : (line : List ℕ) → (get_or (drop (length line - 1) line) 0 0 ≡ 13 → ⊥) → line ≡ without_return line
no_return [] other = refl
no_return (b ∷ []) other = sym (cond-false (b == 13) [] (b ∷ []) (differs b 13 other))
no_return (b ∷ c ∷ line) other =
    let other' = rw (shorter (length line)) at other in
    ap (λ xs. b ∷ xs) (no_return (c ∷ line) other')

pub some_word : (text rest : List ℕ) (n : ℕ) → rest ≡ after_blanks text → 0 < length rest → n ≡ word_len rest → 0 < n
some_word text rest n is some at = rw at (first rest some (ap blanks is ∙ no_blank_left text))
  where
    first : (rest : List ℕ) → 0 < length rest → blanks rest ≡ 0 → 0 < word_len rest
    first [] some none = absurd (omega arith)
    first (b ∷ rest) some none = by (is_blank b) none
      where
        by : (t : Bool) → cond t (1 + blanks rest) 0 ≡ 0 → 0 < cond (not t) (1 + word_len rest) 0
        by true none = absurd (omega arith)
        by false none = omega arith
