-- The order of tests: of two tests on one side of a third, one is weaker, and two words of the same test are one.
use Rattle.std.proofs.Common.{arith, codes, nat_le}
use Rattle.std.specs.Prelude.{◌^◌}
use Rattle.lis_kept.proofs.Common.{◌≡◌, ◌⊎◌, inl, inr, refl, sym, ap, ap₂, ◌∙◌, ℕ, ◌+◌, ◌-◌, ◌<◌, ◌≤◌, ◌++◌, ◌&&◌, ◌||◌, nat_lt, ◌==◌, Bool, true, false, cond, not, Option, Some, None, is_some, List, [], ◌∷◌, length, take, drop, get_or, same_Some, and_parts, or_cases, eqb-true, lt-ltb, ltb-true, not-true, are_weaker, same_word, cases_lt}
use Rattle.std.specs.Char.{is_ascii_digit}
use Rattle.std.specs.Cmp.Lexicographic.{same_text}
use Rattle.std.specs.List.{list_all}
use Rattle.std.proofs.lemmas.Bool.{leb-true}
use Rattle.std.proofs.lemmas.List.{take-append-drop}
use Rattle.std.proofs.lemmas.Str.Parse.{digits_value_short}
use Rattle.std.proofs.lemmas.Fmt.{decimal-digits_value}
use Rattle.std.specs.Fmt.{decimal}
use Rattle.lis_grammar.proofs.Printed.{numerals}
use Rattle.lis_words.specs.declared.test.Test.{Test}
use Rattle.lis_words.specs.Words.{is_count, is_number, begins_with_zero, count_of, number_behind, test_of, test_by}
use Rattle.lis_model.specs.Tests.{is_weaker}

-- ---- two tests
-- tests of which one is weaker are of one kind
same_kind : (q p : Test) → is_weaker q p ≡ true → q.at_least ≡ p.at_least
same_kind q p h = by q.at_least p.at_least refl refl h
  where
    by : (a b : Bool) → q.at_least ≡ a → p.at_least ≡ b → cond a (b && nat_lt q.bytes p.bytes) (not b && nat_lt p.bytes q.bytes) ≡ true → q.at_least ≡ p.at_least
    by true true e f h = e ∙ sym f
    by true false e f h = absurd cc
    by false true e f h = absurd cc
    by false false e f h = e ∙ sym f

-- the test of a kind and a number
abbrev made : Bool → ℕ → Option Test
made kind n = Some (record { at_least = kind; bytes = n })

-- one of them is weaker, or they are one
abbrev Ordered : Option Test → Option Test → Type 0
Ordered a b = (a ≡ b) ⊎ ((are_weaker a b ≡ true) ⊎ (are_weaker b a ≡ true))

weaker_by : (q p : Test) (kind : Bool) → q.at_least ≡ kind → p.at_least ≡ kind → is_weaker q p ≡ cond kind (nat_lt q.bytes p.bytes) (nat_lt p.bytes q.bytes)
weaker_by q p true e f = ap₂ (λ a b. cond a (b && nat_lt q.bytes p.bytes) (not b && nat_lt p.bytes q.bytes)) e f
weaker_by q p false e f = ap₂ (λ a b. cond a (b && nat_lt q.bytes p.bytes) (not b && nat_lt p.bytes q.bytes)) e f

ordered_kind : (a b : Test) (kind : Bool) → a.at_least ≡ kind → b.at_least ≡ kind → Ordered (Some a) (Some b)
ordered_kind a b kind e f = by (cases_lt a.bytes b.bytes) (cases_lt b.bytes a.bytes) kind refl
  where
    same : a.bytes ≡ b.bytes → ◌≡◌ {A = Option Test} (Some a) (Some b)
    same is = ap₂ made (e ∙ sym f) is

    by : (a.bytes < b.bytes) ⊎ (b.bytes ≤ a.bytes) → (b.bytes < a.bytes) ⊎ (a.bytes ≤ b.bytes) → (k : Bool) → kind ≡ k → Ordered (Some a) (Some b)
    by (inl lt) other true is = inr (inl (weaker_by a b true (e ∙ is) (f ∙ is) ∙ lt-ltb a.bytes b.bytes lt))
    by (inl lt) other false is = inr (inr (weaker_by b a false (f ∙ is) (e ∙ is) ∙ lt-ltb a.bytes b.bytes lt))
    by (inr le) (inl lt) true is = inr (inr (weaker_by b a true (f ∙ is) (e ∙ is) ∙ lt-ltb b.bytes a.bytes lt))
    by (inr le) (inl lt) false is = inr (inl (weaker_by a b false (e ∙ is) (f ∙ is) ∙ lt-ltb b.bytes a.bytes lt))
    by (inr le) (inr ge) k is = inl (same (omega (arith, le, ge)))

-- two tests that are weaker than a third
pub ordered_weaker : (a b c : Option Test) → are_weaker a c ≡ true → are_weaker b c ≡ true → Ordered a b
ordered_weaker None b c h g = absurd cc
ordered_weaker (Some a) None c h g = absurd cc
ordered_weaker (Some a) (Some b) None h g = absurd cc
ordered_weaker (Some a) (Some b) (Some c) h g = ordered_kind a b c.at_least (same_kind a c h) (same_kind b c g)

-- and two that are stronger
pub ordered_stronger : (a b c : Option Test) → are_weaker c a ≡ true → are_weaker c b ≡ true → Ordered a b
ordered_stronger a b None h g = absurd cc
ordered_stronger None b (Some c) h g = absurd cc
ordered_stronger (Some a) None (Some c) h g = absurd cc
ordered_stronger (Some a) (Some b) (Some c) h g = ordered_kind a b c.at_least (sym (same_kind c a h)) (sym (same_kind c b g))

-- ---- how far tests are apart
abbrev bytes_of : Option Test → ℕ
bytes_of None = 0
bytes_of (Some t) = t.bytes

abbrev pub apart_by : Option Test → Option Test → ℕ
apart_by a b = (bytes_of a - bytes_of b) + (bytes_of b - bytes_of a)

-- both are nearer to one between them
pub nearer_between : (r m p : Option Test) → are_weaker r m ≡ true → are_weaker m p ≡ true → (apart_by p m < apart_by p r) × (apart_by m r < apart_by p r)
nearer_between None m p h g = absurd cc
nearer_between (Some r) None p h g = absurd cc
nearer_between (Some r) (Some m) None h g = absurd cc
nearer_between (Some r) (Some m) (Some p) h g = by p.at_least refl
  where
    by : (kind : Bool) → p.at_least ≡ kind → (apart_by (Some p) (Some m) < apart_by (Some p) (Some r)) × (apart_by (Some m) (Some r) < apart_by (Some p) (Some r))
    by true is =
        let mid = same_kind m p g ∙ is in
        let lower = ltb-true r.bytes m.bytes (sym (weaker_by r m true (same_kind r m h ∙ mid) mid) ∙ h) in
        let upper = ltb-true m.bytes p.bytes (sym (weaker_by m p true mid is) ∙ g) in
        (omega (arith, lower, upper), omega (arith, lower, upper))
    by false is =
        let mid = same_kind m p g ∙ is in
        let lower = ltb-true m.bytes r.bytes (sym (weaker_by r m false (same_kind r m h ∙ mid) mid) ∙ h) in
        let upper = ltb-true p.bytes m.bytes (sym (weaker_by m p false mid is) ∙ g) in
        (omega (arith, lower, upper), omega (arith, lower, upper))

-- ---- a test has one word
-- the digits of a number are those that its count is written with
number_spelled : (ds : List ℕ) → is_number ds ≡ true → decimal (count_of ds) ≡ ds
number_spelled ds h =
    let both = and_parts (is_count ds) (not (begins_with_zero ds) || (length ds == 1)) h in
    let count = and_parts (nat_lt 0 (length ds) && nat_le (length ds) 12) (list_all is_ascii_digit ds) both.0 in
    let long = and_parts (nat_lt 0 (length ds)) (nat_le (length ds) 12) count.0 in
    let few : length ds ≤ 12 = leb-true (length ds) 12 long.1 in
    let small : count_of ds < 10 ^ 12 = digits_value_short numerals ds 12 count.1 few in
    decimal-digits_value numerals ds count.1 (ltb-true 0 (length ds) long.0) (λ zero. bare ds zero both.1) (omega (arith, small))
  where
    bare : (xs : List ℕ) → get_or xs 0 0 ≡ 48 → (not (begins_with_zero xs) || (length xs == 1)) ≡ true → length xs ≡ 1
    bare [] zero is = absurd cc
    bare (x ∷ xs) zero is = by (or_cases (not (x == 48)) (length (x ∷ xs) == 1) is)
      where
        by : (not (x == 48) ≡ true) ⊎ ((length (x ∷ xs) == 1) ≡ true) → length (x ∷ xs) ≡ 1
        by (inl differ) = absurd (let same : (x == 48) ≡ true = ap (λ n. n == 48) zero in let no = not-true (x == 48) differ in cc)
        by (inr one) = eqb-true (length (x ∷ xs)) 1 one

-- what a number after a sign says of the word
behind : (sign word : List ℕ) (n : ℕ) → number_behind sign word ≡ Some n → word ≡ sign ++ decimal n
behind sign word n h = by (same_word (take (length sign) word) sign && is_number (drop (length sign) word)) refl h
  where
    by : (t : Bool) → (same_word (take (length sign) word) sign && is_number (drop (length sign) word)) ≡ t
        → cond t (Some (count_of (drop (length sign) word))) None ≡ Some n → word ≡ sign ++ decimal n
    by true e h =
        let both = and_parts (same_word (take (length sign) word) sign) (is_number (drop (length sign) word)) e in
        let spelled = sym (take-append-drop (length sign) word) ∙ ap (λ xs. xs ++ drop (length sign) word) (same_text (take (length sign) word) sign (sym both.0)) in
        spelled ∙ ap (λ xs. sign ++ xs) (sym (number_spelled (drop (length sign) word) both.1) ∙ ap decimal (same_Some (count_of (drop (length sign) word)) n h))
    by false e h = absurd cc

-- the word of a test
abbrev spelling : Test → List ℕ
spelling t = cond t.at_least (codes "size>=") (codes "size<") ++ decimal t.bytes

spelled : (word : List ℕ) (t : Test) → test_of word ≡ Some t → word ≡ spelling t
spelled word t h = by (number_behind (codes "size>=") word) (number_behind (codes "size<") word) refl refl h
  where
    by : (a b : Option ℕ) → number_behind (codes "size>=") word ≡ a → number_behind (codes "size<") word ≡ b → test_by a b ≡ Some t → word ≡ spelling t
    by (Some n) b e f h = behind (codes "size>=") word n e ∙ ap spelling (same_Some (record { at_least = true; bytes = n }) t h)
    by None (Some n) e f h = behind (codes "size<") word n f ∙ ap spelling (same_Some (record { at_least = false; bytes = n }) t h)
    by None None e f h = absurd cc

pub one_word_a_test : (w v : List ℕ) → is_some (test_of w) ≡ true → test_of w ≡ test_of v → w ≡ v
one_word_a_test w v some same = by (test_of w) refl some
  where
    by : (o : Option Test) → test_of w ≡ o → is_some o ≡ true → w ≡ v
    by None e some = absurd cc
    by (Some t) e some = spelled w t e ∙ sym (spelled v t (sym same ∙ e))
