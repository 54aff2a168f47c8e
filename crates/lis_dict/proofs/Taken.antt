-- Where all numbers below one have words, a search for a free number starts from that one.
use Rattle.std.proofs.Common.{◌≡◌, ◌⊎◌, ℕ, zero, suc, ◌+◌, ◌<◌, ◌≤◌, Bool, true, false, cond, nat_lt, is_some, is_none, Option, Some, None, List, [], ◌∷◌, length, drop, get_or, set, refl, sym, ap, subst, ◌∙◌, inl, inr, arith, length-drop, get_or-set_same, get_or-set_other}
use Rattle.std.specs.List.{position, position_or_len}
use Rattle.std.proofs.lemmas.Bool.{cases_eq, ltb-true, ltb-false, lt-ltb, le-ltb}
use Rattle.std.proofs.lemmas.List.Quantifiers.{position-Some}
use Rattle.lis_dict.specs.Inside.{Holders, AreTaken}

pub within : (holders : Holders) (from : ℕ) → AreTaken holders from → from ≤ length holders
within holders zero taken = omega arith
within [] (suc from) taken = let none = taken 0 (omega arith) in absurd cc
within (h ∷ hs) (suc from) taken = omega (arith, within hs from (λ n lt. taken (suc n) (omega (arith, lt))))

skips : (holders : Holders) (from : ℕ) → AreTaken holders from → position_or_len is_none holders ≡ from + position_or_len is_none (drop from holders)
skips holders zero taken = omega arith
skips [] (suc from) taken = let none = taken 0 (omega arith) in absurd cc
skips (None ∷ hs) (suc from) taken = let none = taken 0 (omega arith) in absurd cc
skips (Some word ∷ hs) (suc from) taken = omega (arith, skips hs from (λ n lt. taken (suc n) (omega (arith, lt))))

module _ (holders : Holders) (from : ℕ) (taken : AreTaken holders from) where
  abbrev rest : ℕ
  rest = position_or_len is_none (drop from holders)

  pub found_from : (found : ℕ) → position is_none (drop from holders) ≡ Some found → position is_none holders ≡ Some (from + found)
  found_from found is = by (nat_lt rest (length (drop from holders))) refl is
    where
      by : (b : Bool) → nat_lt rest (length (drop from holders)) ≡ b → cond b (Some rest) None ≡ Some found → position is_none holders ≡ Some (from + found)
      by true lt some =
          let here : rest ≡ found = cc in
          let low : position_or_len is_none holders < length holders = omega (arith, skips holders from taken, ltb-true rest (length (drop from holders)) lt, length-drop from holders) in
          rw (lt-ltb (position_or_len is_none holders) (length holders) low) (ap Some (skips holders from taken ∙ ap (λ n. from + n) here))
      by false ge none = absurd cc

  pub none_from : position is_none (drop from holders) ≡ None → position is_none holders ≡ None
  none_from is = by (nat_lt rest (length (drop from holders))) refl is
    where
      by : (b : Bool) → nat_lt rest (length (drop from holders)) ≡ b → cond b (Some rest) None ≡ None → position is_none holders ≡ None
      by true lt some = absurd cc
      by false ge none =
          let high : length holders ≤ position_or_len is_none holders = omega (arith, skips holders from taken, ltb-false rest (length (drop from holders)) ge, length-drop from holders, within holders from taken) in
          rw (le-ltb (position_or_len is_none holders) (length holders) high) refl

-- a number with a word
held : (h : Option (List ℕ)) → is_none h ≡ false → is_some h ≡ true
held None is = absurd cc
held (Some word) is = refl

pub taken_first : (holders : Holders) (number : ℕ) → position is_none holders ≡ Some number → AreTaken holders number
taken_first holders number is n lt = held (get_or holders n None) ((position-Some is_none holders number None is).2 n lt)

pub taken_put : (holders : Holders) (from number : ℕ) (word : List ℕ) → AreTaken holders from → number < length holders → AreTaken (set holders number (Some word)) from
taken_put holders from number word taken below n lt = by (cases_eq number n)
  where
    by : (number ≡ n) ⊎ (number ≡ n → ⊥) → is_some (get_or (set holders number (Some word)) n None) ≡ true
    by (inl same) = subst (λ m. is_some (get_or (set holders number (Some word)) m None) ≡ true) same (ap is_some (get_or-set_same holders number (Some word) None below))
    by (inr differ) = ap is_some (get_or-set_other holders number n (Some word) None (λ same. differ (sym same))) ∙ taken n lt

pub taken_cut : (holders : Holders) (from less number : ℕ) → AreTaken holders from → less ≤ from → less ≤ number → AreTaken (set holders number None) less
taken_cut holders from less number taken low other n lt = ap is_some (get_or-set_other holders number n None None (λ same. absurd (omega (arith, same, lt, other)))) ∙ taken n (omega (arith, lt, low))
