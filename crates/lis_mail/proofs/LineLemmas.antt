-- Lines and fields, cut at an index that a search gave.
use Rattle.std.proofs.Common.{◌≡◌, ◌≢◌, ℕ, suc, zero, ◌+◌, ◌<◌, Bool, true, false, not, cond, ◌||◌, eqb, List, [], ◌∷◌, length, take, drop, get_or, map, Some, None, refl, sym, ap, subst, ◌∙◌, arith}
use Rattle.std.proofs.lemmas.Bool.{eqb-true, eq-eqb}
use Rattle.std.specs.List.{slice_split, take_while, position_or_len, before_first, after_first, list_any}
use Rattle.std.proofs.lemmas.List.Sums.{position_or_len_is, take_while-cons}
use Rattle.std.proofs.lemmas.List.Splits.{slice_split_first}
use Rattle.std.proofs.Math.ListN.{drop_of_length-le}
use Rattle.memchr.specs.Find.{IsFirstByte, Passes}
use Rattle.lis_transducers.specs.Lines.{header}
use Rattle.lis_words.specs.Bytes.{is_feed, is_some_bytes, without_return}

-- a line that ends with CR, without it
pub return_dropped : (line : List ℕ) (end : ℕ) → length line ≡ end + 1 → get_or line end 0 ≡ 13 → take end line ≡ without_return line
return_dropped [] end long last = absurd (omega (arith, long))
return_dropped (b ∷ []) zero long last = sym (ap (λ t. cond t [] (b ∷ [])) (eq-eqb b 13 last))
return_dropped (b ∷ []) (suc end) long last = absurd (omega (arith, long))
return_dropped (b ∷ c ∷ line) zero long last = absurd (omega (arith, long))
return_dropped (b ∷ c ∷ line) (suc end) long last = ap (λ xs. b ∷ xs) (return_dropped (c ∷ line) end (omega (arith, long)) last)

other_byte : (b c : ℕ) → (b ≢ c) → eqb b c ≡ false
other_byte b c apart = by (eqb b c) refl
  where
    by : (t : Bool) → eqb b c ≡ t → t ≡ false
    by true e = absurd (apart (eqb-true b c e))
    by false e = refl

-- a line that does not end with CR
pub return_kept : (line : List ℕ) (end : ℕ) → length line ≡ end + 1 → (get_or line end 0 ≢ 13) → line ≡ without_return line
return_kept [] end long last = refl
return_kept (b ∷ []) zero long last = sym (ap (λ t. cond t [] (b ∷ [])) (other_byte b 13 last))
return_kept (b ∷ []) (suc end) long last = absurd (omega (arith, long))
return_kept (b ∷ c ∷ line) zero long last = absurd (omega (arith, long))
return_kept (b ∷ c ∷ line) (suc end) long last = ap (λ xs. b ∷ xs) (return_kept (c ∷ line) end (omega (arith, long)) last)

module _ (test : ℕ → Bool) where
  no_pass : (hay : List ℕ) (k : ℕ) → (Passes test hay k → ⊥) → test (get_or hay k 0) ≡ false
  no_pass hay k fails = by (test (get_or hay k 0)) refl
    where
      by : (t : Bool) → test (get_or hay k 0) ≡ t → t ≡ false
      by true e = absurd (fails e)
      by false e = refl

  -- the index at which a search found the byte
  pub first_place : (hay : List ℕ) (k : ℕ) → IsFirstByte test hay (Some k) → position_or_len test hay ≡ k
  first_place hay k found =
      position_or_len_is test hay k 0 (omega (arith, found.0.high)) (λ j below. no_pass hay j (found.0.before j (omega arith) below)) (λ _. found.1)

  pub no_place : (hay : List ℕ) → IsFirstByte test hay None → position_or_len test hay ≡ length hay
  no_place hay none =
      position_or_len_is test hay (length hay) 0 (omega arith) (λ j below. no_pass hay j (none j (omega arith) below)) (λ below. absurd (omega arith))

  -- a list in which nothing passes is one part
  pub split_whole : (xs : List ℕ) → position_or_len test xs ≡ length xs → slice_split test xs ≡ xs ∷ []
  split_whole [] e = refl
  split_whole (x ∷ xs) e = by (test x) refl e (λ more. split_whole xs more)
    where
      by : (t : Bool) → test x ≡ t → cond (not t) (1 + position_or_len test xs) 0 ≡ suc (length xs)
          → (position_or_len test xs ≡ length xs → slice_split test xs ≡ xs ∷ []) → slice_split test (x ∷ xs) ≡ (x ∷ xs) ∷ []
      by true is e more = absurd (omega (arith, e))
      by false is e more = rw (is, more (omega (arith, e))) refl

-- the header, by its first line
pub header_cut : (bytes part rest : List ℕ) → slice_split is_feed bytes ≡ part ∷ slice_split is_feed rest
    → header bytes ≡ cond (is_some_bytes (without_return part)) (without_return part ∷ header rest) []
header_cut bytes part rest e =
    ap (λ parts. take_while is_some_bytes (map without_return parts)) e ∙ take_while-cons is_some_bytes (without_return part) (map without_return (slice_split is_feed rest))

-- the same, if no line feed is left
pub header_whole : (bytes : List ℕ) → IsFirstByte is_feed bytes None
    → header bytes ≡ cond (is_some_bytes (without_return bytes)) (without_return bytes ∷ []) []
header_whole bytes none =
    ap (λ parts. take_while is_some_bytes (map without_return parts)) (split_whole is_feed bytes (no_place is_feed bytes none))
    ∙ take_while-cons is_some_bytes (without_return bytes) []

pub header_at : (bytes : List ℕ) (k : ℕ) → IsFirstByte is_feed bytes (Some k)
    → header bytes ≡ cond (is_some_bytes (without_return (take k bytes))) (without_return (take k bytes) ∷ header (drop (k + 1) bytes)) []
header_at bytes k found =
    let place : position_or_len is_feed bytes ≡ k = first_place is_feed bytes k found in
    header_cut bytes (take k bytes) (drop (k + 1) bytes)
    (subst (λ n. slice_split is_feed bytes ≡ take n bytes ∷ slice_split is_feed (drop (n + 1) bytes)) place
    (slice_split_first is_feed bytes 0 (omega (arith, place, found.0.high))))

-- whether a list has an element that passes, by the first index of one
module _ (test : ℕ → Bool) where
  any_from_place : (xs : List ℕ) → position_or_len test xs < length xs → list_any test xs ≡ true
  any_from_place [] below = absurd (omega arith)
  any_from_place (x ∷ xs) below = by (test x) below (any_from_place xs)
    where
      by : (t : Bool) → cond (not t) (1 + position_or_len test xs) 0 < suc (length xs)
          → (position_or_len test xs < length xs → list_any test xs ≡ true) → (t || list_any test xs) ≡ true
      by true below more = refl
      by false below more = more (omega arith)

  none_from_place : (xs : List ℕ) → position_or_len test xs ≡ length xs → list_any test xs ≡ false
  none_from_place [] e = refl
  none_from_place (x ∷ xs) e = by (test x) e (none_from_place xs)
    where
      by : (t : Bool) → cond (not t) (1 + position_or_len test xs) 0 ≡ suc (length xs)
          → (position_or_len test xs ≡ length xs → list_any test xs ≡ false) → (t || list_any test xs) ≡ false
      by true e more = absurd (omega (arith, e))
      by false e more = more (omega (arith, e))

  pub found_any : (hay : List ℕ) (k : ℕ) → IsFirstByte test hay (Some k) → list_any test hay ≡ true
  found_any hay k found = any_from_place hay (omega (arith, first_place test hay k found, found.0.high))

  pub found_none : (hay : List ℕ) → IsFirstByte test hay None → list_any test hay ≡ false
  found_none hay none = none_from_place hay (no_place test hay none)

  pub found_before : (hay : List ℕ) (k : ℕ) → IsFirstByte test hay (Some k) → before_first test hay ≡ take k hay
  found_before hay k found = ap (λ n. take n hay) (first_place test hay k found)

  pub found_after : (hay : List ℕ) (k : ℕ) → IsFirstByte test hay (Some k) → after_first test hay ≡ drop (k + 1) hay
  found_after hay k found = ap (λ n. drop (n + 1) hay) (first_place test hay k found)

  pub nothing_after : (hay : List ℕ) → IsFirstByte test hay None → after_first test hay ≡ []
  nothing_after hay none = drop_of_length-le hay (omega (arith, no_place test hay none))
