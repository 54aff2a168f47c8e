-- The head of a valued word is a head.
use Rattle.std.proofs.Common.{◌≡◌, ℕ, ◌+◌, ◌≤◌, Bool, true, false, cond, List, [], ◌∷◌, ◌++◌, ◌||◌, length, refl, ap, arith}
use Rattle.std.specs.List.{list_any}
use Rattle.std.proofs.lemmas.List.Folds.{list_any-append}
use Rattle.std.proofs.lemmas.Bool.{or_right, or_left, and_from, and_parts, leb-true, le-leb}
use Rattle.std.proofs.Common.{length-append, ◌==◌, ◌∙◌}
use Rattle.lis_words.specs.Words.{stem, value, is_head, is_valued, is_word, is_property, is_plain_word, head_bytes}
use Rattle.lis_words.specs.Bytes.{is_colon}

pub stem_joined : (bytes : List ℕ) → stem (head_bytes bytes) ≡ stem bytes
stem_joined [] = refl
stem_joined (b ∷ bytes) = by (is_colon b) refl (stem_joined bytes)
  where
    by : (t : Bool) → is_colon b ≡ t → stem (head_bytes bytes) ≡ stem bytes
        → stem (cond t [] (b ∷ stem bytes) ++ 58 ∷ []) ≡ cond t [] (b ∷ stem bytes)
    by true e more = refl
    by false e more = rw e (ap (λ xs. b ∷ xs) more)

pub value_joined : (bytes : List ℕ) → value (head_bytes bytes) ≡ []
value_joined [] = refl
value_joined (b ∷ bytes) = by (is_colon b) refl (value_joined bytes)
  where
    by : (t : Bool) → is_colon b ≡ t → value (head_bytes bytes) ≡ []
        → value (cond t [] (b ∷ stem bytes) ++ 58 ∷ []) ≡ []
    by true e more = refl
    by false e more = rw e more

pub stem_shorter : (bytes : List ℕ) → list_any is_colon bytes ≡ true → length (stem bytes) + 1 ≤ length bytes
stem_shorter [] h = absurd (cc)
stem_shorter (b ∷ bytes) h = by (is_colon b) refl h (stem_shorter bytes)
  where
    by : (t : Bool) → is_colon b ≡ t → (t || list_any is_colon bytes) ≡ true
        → (list_any is_colon bytes ≡ true → length (stem bytes) + 1 ≤ length bytes)
        → length (cond t [] (b ∷ stem bytes)) + 1 ≤ length (b ∷ bytes)
    by true e h more = omega arith
    by false e h more = omega (arith, more h)

-- the parts of a valued word's test
pub record HasStem (bytes : List ℕ) : Type 0 where
  pub short : length bytes ≤ 60
  pub colon : list_any is_colon bytes ≡ true
  pub plain : is_plain_word (stem bytes) ≡ true

pub stem_of_valued : (bytes : List ℕ) → is_valued bytes ≡ true → HasStem bytes
stem_of_valued bytes h =
    let has = (and_parts _ _ (and_parts _ _ h).0).0 in
    let both = and_parts _ _ has in
    let front = and_parts _ _ both.0 in
    record { short = leb-true _ _ front.0; colon = front.1; plain = both.1 }

pub stem_short : (bytes : List ℕ) → is_valued bytes ≡ true → length (stem bytes) + 1 ≤ 60
stem_short bytes h =
    let has = stem_of_valued bytes h in
    omega (arith, stem_shorter bytes has.colon, has.short)

head_is_head : (bytes : List ℕ) → is_valued bytes ≡ true → is_head (head_bytes bytes) ≡ true
head_is_head bytes h =
    let has = stem_of_valued bytes h in
    let short : length (head_bytes bytes) ≤ 60 = omega (arith, stem_short bytes h, length-append (stem bytes) (58 ∷ [])) in
    let colon : list_any is_colon (head_bytes bytes) ≡ true = list_any-append is_colon (stem bytes) (58 ∷ []) ∙ or_right _ true refl in
    let plain : is_plain_word (stem (head_bytes bytes)) ≡ true = ap (λ xs. is_plain_word xs) (stem_joined bytes) ∙ has.plain in
    let none : (length (value (head_bytes bytes)) == 0) ≡ true = ap (λ (xs : List ℕ). length xs == 0) (value_joined bytes) in
    and_from _ _ (and_from _ _ (and_from _ _ (le-leb _ _ short) colon) plain) none

pub head_is_word : (bytes : List ℕ) → is_valued bytes ≡ true → is_word (head_bytes bytes) ≡ true
head_is_word bytes h = or_left _ _ (or_right _ _ (head_is_head bytes h))

pub head_is_property : (bytes : List ℕ) → is_valued bytes ≡ true → is_property (head_bytes bytes) ≡ true
head_is_property bytes h = or_left _ _ (head_is_word bytes h)
