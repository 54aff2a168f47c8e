-- What follows the header's end is no part of the header.
use Rattle.std.proofs.Common.{◌≡◌, ◌&&◌, ◌⊎◌, inl, inr, ℕ, zero, suc, ◌+◌, ◌-◌, ◌<◌, ◌≤◌, ◌==◌, Bool, true, false, cond, ◌||◌, List, [], ◌∷◌, ◌++◌, length, take, drop, get_or, map, filter, refl, sym, ap, ap₂, ◌∙◌, arith, append_assoc, append-nil, eqb-true}
use Rattle.std.proofs.Math.Seq.{drop-cons}
use Rattle.std.proofs.lemmas.Bool.{cases_lt, false≢true, and_parts, or_cases}
use Rattle.std.proofs.lemmas.List.{get_or_past, map-append, take-append-drop}
use Rattle.std.proofs.lemmas.List.Folds.{list_any-append, list_any_at}
use Rattle.std.proofs.lemmas.List.FromFn.{get_or-range_with_len, length-range_with_len}
use Rattle.std.proofs.lemmas.List.Splits.{length-slice_split, slice_split-cons_no, slice_split-cons_yes}
use Rattle.std.proofs.lemmas.List.Sums.{take_while-cons}
use Rattle.std.specs.List.{flat_map, list_any, onto_first, range_with_len, slice_split, take_while}
use Rattle.lis_words.specs.Bytes.{is_feed, is_some_bytes, without_return}
use Rattle.lis_words.specs.Words.{is_word}
use Rattle.lis_transducers.specs.Lines.{fields, header}
use Rattle.lis_transducers.specs.Mail.{field_words, mail_words}
use Rattle.lis_mail.specs.Header.{WordsAreOfHeader, begins_line, ends_empty, has_end_from}

-- ---- lists cut at a byte
onto_joint : (x : ℕ) (ps qs : List (List ℕ)) → 0 < length ps → onto_first x (ps ++ qs) ≡ onto_first x ps ++ qs
onto_joint x [] qs some = absurd (omega arith)
onto_joint x (p ∷ ps) qs some = refl

-- the parts are those before the byte, and those after it
split_joint : (test : ℕ → Bool) (xs : List ℕ) (y : ℕ) (ys : List ℕ) → test y ≡ true → slice_split test (xs ++ y ∷ ys) ≡ slice_split test xs ++ slice_split test ys
split_joint test [] y ys is = slice_split-cons_yes test y ys is
split_joint test (x ∷ xs) y ys is = by (test x) refl (split_joint test xs y ys is)
  where
    by : (t : Bool) → test x ≡ t → slice_split test (xs ++ y ∷ ys) ≡ slice_split test xs ++ slice_split test ys
        → slice_split test (x ∷ (xs ++ y ∷ ys)) ≡ slice_split test (x ∷ xs) ++ slice_split test ys
    by true passes more =
        slice_split-cons_yes test x (xs ++ y ∷ ys) passes
        ∙ (ap (λ ps. [] ∷ ps) more ∙ sym (ap (λ ps. ps ++ slice_split test ys) (slice_split-cons_yes test x xs passes)))
    by false fails more =
        slice_split-cons_no test x (xs ++ y ∷ ys) fails
        ∙ (ap (onto_first x) more
        ∙ (onto_joint x (slice_split test xs) (slice_split test ys) (omega (arith, length-slice_split test xs))
        ∙ sym (ap (λ ps. ps ++ slice_split test ys) (slice_split-cons_no test x xs fails))))

-- what follows an element that fails does not count
stopped : (test : List ℕ → Bool) (xs : List (List ℕ)) (y : List ℕ) (ys : List (List ℕ)) → test y ≡ false → take_while test (xs ++ y ∷ ys) ≡ take_while test xs
stopped test [] y ys fails = take_while-cons test y ys ∙ ap (λ t. cond t (y ∷ take_while test ys) []) fails
stopped test (x ∷ xs) y ys fails =
    take_while-cons test x (xs ++ y ∷ ys)
    ∙ (ap (λ more. cond (test x) (x ∷ more) []) (stopped test xs y ys fails) ∙ sym (take_while-cons test x xs))

-- ---- an empty line
-- a line that is empty, also if bytes follow its line feed
record IsEmptyLine (line : List ℕ) : Type 0 where
  alone : (behind : List ℕ) → slice_split is_feed (line ++ 10 ∷ behind) ≡ line ∷ slice_split is_feed behind
  empty : is_some_bytes (without_return line) ≡ false

nothing : IsEmptyLine []
nothing = record { alone = λ behind. refl; empty = refl }

a_return : IsEmptyLine (13 ∷ [])
a_return = record { alone = λ behind. refl; empty = refl }

-- an empty line ends the header at once, or after the lines before it
ends_first : (line behind : List ℕ) → IsEmptyLine line → header (line ++ 10 ∷ behind) ≡ []
ends_first line behind is =
    ap (λ ps. take_while is_some_bytes (map without_return ps)) (is.alone behind)
    ∙ stopped is_some_bytes [] (without_return line) (map without_return (slice_split is_feed behind)) is.empty

ends_behind : (before line behind : List ℕ) → IsEmptyLine line → header (before ++ 10 ∷ (line ++ 10 ∷ behind)) ≡ header before
ends_behind before line behind is =
    let parts = slice_split is_feed before in
    let more = slice_split is_feed behind in
    ap (λ ps. take_while is_some_bytes (map without_return ps)) (split_joint is_feed before 10 (line ++ 10 ∷ behind) refl ∙ ap (λ ps. parts ++ ps) (is.alone behind))
    ∙ (ap (take_while is_some_bytes) (map-append without_return parts (line ∷ more))
    ∙ stopped is_some_bytes (map without_return parts) (without_return line) (map without_return more) is.empty)

-- ---- a prefix with an empty line
-- its header is the same whatever follows
abbrev HasHeader : List ℕ → Type 0
HasHeader front = (lines : List (List ℕ)) × ((rest : List ℕ) → header (front ++ rest) ≡ lines)

join_more : (line behind rest : List ℕ) → (line ++ 10 ∷ behind) ++ rest ≡ line ++ 10 ∷ (behind ++ rest)
join_more line behind rest = append_assoc line (10 ∷ behind) rest

below_feed : (xs : List ℕ) (k : ℕ) → is_feed (get_or xs k 0) ≡ true → (k < length xs) × (get_or xs k 0 ≡ 10)
below_feed xs k is = by (cases_lt k (length xs))
  where
    by : (k < length xs) ⊎ (length xs ≤ k) → (k < length xs) × (get_or xs k 0 ≡ 10)
    by (inl lt) = (lt, eqb-true (get_or xs k 0) 10 is)
    by (inr past) = absurd (omega (arith, eqb-true (get_or xs k 0) 10 is, get_or_past xs k 0 past))

-- an empty line that begins at this index
module _ (front : List ℕ) (j : ℕ) (line behind : List ℕ) (is : IsEmptyLine line) (there : drop j front ≡ line ++ 10 ∷ behind) where
  at_front : j ≡ 0 → HasHeader front
  at_front e = (
    [],
    λ rest.
        ap (λ xs. header (xs ++ rest)) (ap (λ n. drop n front) (sym e) ∙ there) ∙ (ap header (join_more line behind rest) ∙ ends_first line (behind ++ rest) is),
  )

  behind_feed : (i : ℕ) → j ≡ suc i → is_feed (get_or front i 0) ≡ true → HasHeader front
  behind_feed i e feed =
      let at = below_feed front i feed in
      let cut : front ≡ take i front ++ 10 ∷ (line ++ 10 ∷ behind) =
      sym (take-append-drop i front)
      ∙ ap (λ xs. take i front ++ xs) (drop-cons front i 0 at.0 ∙ (ap (λ b. b ∷ drop (suc i) front) at.1 ∙ ap (λ xs. 10 ∷ xs) (ap (λ n. drop n front) (sym e) ∙ there))) in (
        header (take i front),
        λ rest.
            ap (λ xs. header (xs ++ rest)) cut
            ∙ (ap header (append_assoc (take i front) (10 ∷ (line ++ 10 ∷ behind)) rest ∙ ap (λ xs. take i front ++ 10 ∷ xs) (join_more line behind rest))
            ∙ ends_behind (take i front) line (behind ++ rest) is),
      )

  at_line : begins_line front j ≡ true → HasHeader front
  at_line begins = by (or_cases (j == 0) (is_feed (get_or front (j - 1) 0)) begins) (cases_lt 0 j)
    where
      by : ((j == 0) ≡ true) ⊎ (is_feed (get_or front (j - 1) 0) ≡ true) → (0 < j) ⊎ (j ≤ 0) → HasHeader front
      by (inl first) side = at_front (eqb-true j 0 first)
      by (inr feed) (inl some) = behind_feed (j - 1) (omega (arith, some)) feed
      by (inr feed) (inr none) = at_front (omega (arith, none))

module _ (front : List ℕ) (k : ℕ) (feed : is_feed (get_or front k 0) ≡ true) where
  at_feed : drop k front ≡ 10 ∷ drop (suc k) front
  at_feed = drop-cons front k 0 (below_feed front k feed).0 ∙ ap (λ b. b ∷ drop (suc k) front) (below_feed front k feed).1

  -- a CR before it
  at_return : (get_or front (k - 1) 0 == 13) ≡ true → drop (k - 1) front ≡ 13 ∷ 10 ∷ drop (suc k) front
  at_return is = by (cases_lt 0 k)
    where
      cr : get_or front (k - 1) 0 ≡ 13
      cr = eqb-true (get_or front (k - 1) 0) 13 is

      by : (0 < k) ⊎ (k ≤ 0) → drop (k - 1) front ≡ 13 ∷ 10 ∷ drop (suc k) front
      by (inl some) =
          let same : suc (k - 1) ≡ k = omega (arith, some) in
          drop-cons front (k - 1) 0 (omega (arith, some, (below_feed front k feed).0))
          ∙ (ap (λ b. b ∷ drop (suc (k - 1)) front) cr ∙ ap (λ xs. 13 ∷ xs) (ap (λ n. drop n front) same ∙ at_feed))
      by (inr none) =
          let same : k - 1 ≡ k = omega (arith, none) in
          absurd (omega (arith, sym (ap (λ n. get_or front n 0) same) ∙ cr, (below_feed front k feed).1))

  ended : (begins_line front k || ((get_or front (k - 1) 0 == 13) && begins_line front (k - 1))) ≡ true → HasHeader front
  ended is = by (or_cases _ _ is)
    where
      by : (begins_line front k ≡ true) ⊎ (((get_or front (k - 1) 0 == 13) && begins_line front (k - 1)) ≡ true) → HasHeader front
      by (inl begins) = at_line front k [] (drop (suc k) front) nothing at_feed begins
      by (inr returns) =
          let both = and_parts _ _ returns in
          at_line front (k - 1) (13 ∷ []) (drop (suc k) front) a_return (at_return both.0) both.1

-- ---- indexes in sequence
places_more : (a n : ℕ) → range_with_len a (suc n) ≡ range_with_len a n ++ (a + n) ∷ []
places_more a zero = ap (λ k. k ∷ []) (let e : a ≡ a + 0 = omega arith in e)
places_more a (suc n) =
    let e : a + 1 + n ≡ a + suc n = omega arith in
    ap (λ ks. a ∷ ks) (places_more (a + 1) n ∙ ap (λ k. range_with_len (a + 1) n ++ k ∷ []) e)

module _ (test : ℕ → Bool) (seen at : ℕ) (le : seen ≤ at) where
  -- none up to this index passes
  pub none_more : list_any test (range_with_len seen (at - seen)) ≡ false → test at ≡ false → list_any test (range_with_len seen (at + 1 - seen)) ≡ false
  none_more none here =
      let count : at + 1 - seen ≡ suc (at - seen) = omega (arith, le) in
      let place : seen + (at - seen) ≡ at = omega (arith, le) in
      ap (λ n. list_any test (range_with_len seen n)) count
      ∙ (ap (list_any test) (places_more seen (at - seen) ∙ ap (λ k. range_with_len seen (at - seen) ++ k ∷ []) place)
      ∙ (list_any-append test (range_with_len seen (at - seen)) (at ∷ [])
      ∙ ap₂ (λ x y. x || (y || false)) none here))

  -- one does
  pub one_found : (end : ℕ) → at < end → test at ≡ true → list_any test (range_with_len seen (end - seen)) ≡ true
  one_found end lt here =
      let place : seen + (at - seen) ≡ at = omega (arith, le) in
      let below : at - seen < end - seen = omega (arith, le, lt) in
      list_any_at test (range_with_len seen (end - seen)) (at - seen) 0 (omega (arith, below, length-range_with_len seen (end - seen)))
      (ap test (get_or-range_with_len seen (end - seen) (at - seen) 0 below ∙ place) ∙ here)

-- one of the indexes passes
some_place : (test : ℕ → Bool) (ks : List ℕ) → list_any test ks ≡ true → (k : ℕ) × (test k ≡ true)
some_place test [] none = absurd (false≢true none)
some_place test (k ∷ ks) is = by (some_place test ks) (or_cases (test k) (list_any test ks) is)
  where
    by : (list_any test ks ≡ true → (j : ℕ) × (test j ≡ true)) → (test k ≡ true) ⊎ (list_any test ks ≡ true) → (j : ℕ) × (test j ≡ true)
    by more (inl here) = (k, here)
    by more (inr there) = more there

has_header : (front : List ℕ) (seen : ℕ) → has_end_from front seen ≡ true → HasHeader front
unfolding has_end_from
has_header front seen is =
    let found = some_place (ends_empty front) (range_with_len seen (length front - seen)) is in
    let both = and_parts _ _ found.1 in
    ended front found.0 both.0 both.1

-- a mail's words are those of a prefix that has the header's end
pub front_gives : (front rest : List ℕ) (seen : ℕ) → has_end_from front seen ≡ true → mail_words (front ++ rest) ≡ mail_words front
unfolding mail_words
front_gives front rest seen is =
    let has = has_header front seen is in
    ap (λ lines. filter is_word (flat_map field_words (fields lines)))
    (has.1 rest ∙ (sym (has.1 []) ∙ ap header (append-nil front)))

pub words_are_of_header : WordsAreOfHeader
words_are_of_header = λ front rest is. front_gives front rest 0 is
