-- Numbers that pass a test.
use Rattle.std.proofs.Common.{◌≡◌, ◌⊎◌, ℕ, zero, suc, ◌+◌, ◌-◌, ◌<◌, ◌≤◌, Bool, true, false, ◌||◌, nat_eq, List, [], ◌∷◌, length, get_or, take, filter, Decides, refl, sym, ap, subst, ◌∙◌, inl, inr, arith, Option, Some, None, IfSome, IfNone, IsTrue, Result, Ok, Err, MatchResult, eq-eqb, length-take, get_or-take}
use Rattle.std.proofs.lemmas.List.{take_more, get_or_default}
use Rattle.std.proofs.lemmas.List.Folds.{list_any-append}
use Rattle.std.specs.List.{range_with_len, slice_get}
use Rattle.std.specs.List.Sorted.{IsStrictlySortedBy, IsStrictlyIncreasing, IsBinarySearchResult}
use Rattle.std.specs.Result.{is_ok}
use Rattle.std.proofs.lemmas.List.Sorted.{searched}
use Rattle.std.specs.Bool.{one_answer}
use Rattle.std.specs.Ordering.{nat_cmp}
use Rattle.std.specs.Cmp.{nat_cmp_total}
use Rattle.std.proofs.lemmas.Bool.{eqb-true, cases_lt}
use Rattle.std.proofs.lemmas.List.Kept.{IsStrictlySortedBy-filter}
use Rattle.std.proofs.lemmas.Map.Keys.{sorted_from_strictly_increasing, below_from_sorted}
use Rattle.lis_graph.proofs.Members.{Among, among_from_any, any_from_among, among_filter, filter_among, contains_from_among, among_from_contains}
use Rattle.lis_graph.proofs.Sets.{same_sets, members_le, members_lt}
use Rattle.lis_graph.proofs.Ranges.{among_range, range_among, sorted_range, filter_apart}
use Rattle.lis_bits.specs.Rows.{Rows, get, NoneTrue}
use Rattle.lis_ext.specs.Numbers.{has_number, numbers_where}

-- the numbers from `start` on that pass the test
abbrev pub numbers_from : ℕ → ℕ → (ℕ → Bool) → List ℕ
numbers_from props start test = filter test (range_with_len start (props - start))

pub has_decides : (numbers : List ℕ) (p : ℕ) → Decides (has_number numbers p) (Among numbers p)
has_decides numbers p = (
  λ h. let found = among_from_any (λ q. nat_eq q p) numbers h in subst (λ (k : ℕ). Among numbers k) (eqb-true found.0 p found.2) found.1,
  λ m. any_from_among (λ q. nat_eq q p) numbers p m (eq-eqb p p refl),
)

pub among_where : (props : ℕ) (test : ℕ → Bool) (p : ℕ) → Among (numbers_where props test) p → (p < props) × (test p ≡ true)
unfolding numbers_where
among_where props test p h = let parts = among_filter test (range_with_len 0 props) p h in (omega (arith, (among_range 0 props p parts.0).1), parts.1)

pub where_among : (props : ℕ) (test : ℕ → Bool) (p : ℕ) → p < props → test p ≡ true → Among (numbers_where props test) p
unfolding numbers_where
where_among props test p lt passes = filter_among test (range_with_len 0 props) p (range_among 0 props p (omega arith) (omega arith)) passes

pub sorted_where : (props : ℕ) (test : ℕ → Bool) → IsStrictlySortedBy nat_cmp (numbers_where props test)
unfolding numbers_where
sorted_where props test = IsStrictlySortedBy-filter nat_cmp test (range_with_len 0 props) (sorted_range 0 props)

-- below the bound, a number is one of those that pass the test exactly if it passes
pub has-numbers_where : (props : ℕ) (test : ℕ → Bool) (p : ℕ) → p < props → has_number (numbers_where props test) p ≡ test p
has-numbers_where props test p lt = one_answer (has_number (numbers_where props test) p) (test p) (has_decides (numbers_where props test) p) (λ passes. where_among props test p lt passes, λ m. (among_where props test p m).1)

pub numbers_same : (props : ℕ) (f g : ℕ → Bool) → ((p : ℕ) → p < props → f p ≡ g p) → numbers_where props f ≡ numbers_where props g
numbers_same props f g h = same_sets nat_cmp nat_cmp_total (numbers_where props f) (numbers_where props g) (sorted_where props f) (sorted_where props g)
    (λ p m. let parts = among_where props f p m in where_among props g p parts.0 (sym (h p parts.0) ∙ parts.1))
    (λ p m. let parts = among_where props g p m in where_among props f p parts.0 (h p parts.0 ∙ parts.1))

-- a rising list of numbers below the bound is the numbers that it has
pub numbers_of : (props : ℕ) (numbers : List ℕ) → IsStrictlyIncreasing numbers → ((p : ℕ) → Among numbers p → p < props) → numbers_where props (has_number numbers) ≡ numbers
numbers_of props numbers rises below = same_sets nat_cmp nat_cmp_total (numbers_where props (has_number numbers)) numbers (sorted_where props (has_number numbers)) (sorted_from_strictly_increasing numbers rises)
    (λ p m. (has_decides numbers p).0 (among_where props (has_number numbers) p m).1)
    (λ p m. where_among props (has_number numbers) p (below p m) ((has_decides numbers p).1 m))

pub numbers_none : (props : ℕ) → numbers_where props (λ _. false) ≡ []
numbers_none props = nothing (numbers_where props (λ _. false)) (λ p m. let fails = (among_where props (λ _. false) p m).1 in cc)
  where
    nothing : (xs : List ℕ) → ((x : ℕ) → Among xs x → ⊥) → xs ≡ []
    nothing [] none = refl
    nothing (x ∷ xs) none = absurd (none x (inl refl))

-- ---- how many
-- one more number passes
pub numbers_more : (props : ℕ) (f g : ℕ → Bool) (q : ℕ) → q < props → f q ≡ false → g q ≡ true → ((p : ℕ) → p < props → f p ≡ true → g p ≡ true) → length (numbers_where props f) < length (numbers_where props g)
numbers_more props f g q lt fails passes more = members_lt nat_cmp nat_cmp_total (numbers_where props f) (numbers_where props g) q (sorted_where props f) (sorted_where props g)
    (λ p m. let parts = among_where props f p m in where_among props g p parts.0 (more p parts.0 parts.1)) (where_among props g q lt passes) (λ m. let parts = among_where props f q m in cc)

pub numbers_le : (props : ℕ) (f g : ℕ → Bool) → ((p : ℕ) → p < props → f p ≡ true → g p ≡ true) → length (numbers_where props f) ≤ length (numbers_where props g)
numbers_le props f g more = members_le nat_cmp nat_cmp_total (numbers_where props f) (numbers_where props g) (sorted_where props f) (sorted_where props g)
    (λ p m. let parts = among_where props f p m in where_among props g p parts.0 (more p parts.0 parts.1))

pub numbers_apart : (props : ℕ) (f g : ℕ → Bool) → ((p : ℕ) → f p ≡ true → g p ≡ false) → length (numbers_where props f) + length (numbers_where props g) ≡ length (numbers_where props (λ p. f p || g p))
unfolding numbers_where
numbers_apart props f g apart = filter_apart f g (range_with_len 0 props) apart

-- ---- the numbers from an index on
pub from_start : (props : ℕ) (test : ℕ → Bool) → numbers_where props test ≡ numbers_from props 0 test
unfolding numbers_where
from_start props test = let same : props - 0 ≡ props = omega arith in rw same

pub none_from : (props start : ℕ) (test : ℕ → Bool) → ((p : ℕ) → start ≤ p → p < props → test p ≡ false) → numbers_from props start test ≡ []
none_from props start test none = skip (props - start) start (λ p le lt. none p le (omega arith))
  where
    skip : (n a : ℕ) → ((p : ℕ) → a ≤ p → p < a + n → test p ≡ false) → filter test (range_with_len a n) ≡ []
    skip zero a fails = refl
    skip (suc n) a fails = rw (fails a (omega arith) (omega arith)) (skip n (a + 1) (λ p le lt. fails p (omega arith) (omega arith)))

pub next_from : (props start next : ℕ) (test : ℕ → Bool) → start ≤ next → next < props → ((p : ℕ) → start ≤ p → p < next → test p ≡ false) → test next ≡ true → numbers_from props start test ≡ next ∷ numbers_from props (next + 1) test
next_from props start next test le lt none passes =
    let gap : start + (next - start) ≡ next = omega arith in
    let all : props - start ≡ (next - start) + (props - next) = omega arith in
    rw all (skip (next - start) start (props - next) (λ p low high. none p low (omega arith)) ∙ rw gap (first (props - next) refl (omega arith)))
  where
    skip : (k a n : ℕ) → ((p : ℕ) → a ≤ p → p < a + k → test p ≡ false) → filter test (range_with_len a (k + n)) ≡ filter test (range_with_len (a + k) n)
    skip zero a n fails = let left : 0 + n ≡ n = omega arith in let right : a + 0 ≡ a = omega arith in rw (left, right)
    skip (suc k) a n fails =
        let left : suc k + n ≡ suc (k + n) = omega arith in
        let right : a + suc k ≡ a + 1 + k = omega arith in
        rw (left, right, fails a (omega arith) (omega arith)) (skip k (a + 1) n (λ p low high. fails p (omega arith) (omega arith)))

    first : (n : ℕ) → n ≡ props - next → 0 < n → filter test (range_with_len next n) ≡ next ∷ filter test (range_with_len (next + 1) (props - (next + 1)))
    first zero len some = absurd (omega arith)
    first (suc n) len some = let rest : n ≡ props - (next + 1) = omega arith in rw passes (ap (λ m. next ∷ filter test (range_with_len (next + 1) m)) rest)

-- ---- one more number of a list
pub has_more : (numbers : List ℕ) (k p : ℕ) → k < length numbers → has_number (take (k + 1) numbers) p ≡ (has_number (take k numbers) p || nat_eq (get_or numbers k 0) p)
has_more numbers k p lt = ap (λ xs. has_number xs p) (take_more numbers k 0 lt) ∙ (list_any-append (λ q. nat_eq q p) (take k numbers) (get_or numbers k 0 ∷ []) ∙ ap (λ b. has_number (take k numbers) p || b) (or_false (nat_eq (get_or numbers k 0) p)))
  where
    or_false : (b : Bool) → (b || false) ≡ b
    or_false true = refl
    or_false false = refl

-- a number of a rising list is none of those before it
pub not_before : (numbers : List ℕ) (k : ℕ) → IsStrictlyIncreasing numbers → k < length numbers → has_number (take k numbers) (get_or numbers k 0) ≡ false
not_before numbers k rises lt = by (has_number (take k numbers) (get_or numbers k 0)) refl
  where
    by : (b : Bool) → has_number (take k numbers) (get_or numbers k 0) ≡ b → b ≡ false
    by false e = refl
    by true e =
        let found = contains_from_among (take k numbers) (get_or numbers k 0) ((has_decides (take k numbers) (get_or numbers k 0)).0 e) in
        let before : found.0 < k = omega (arith, found.1, length-take k numbers) in
        absurd (let less = below_from_sorted numbers found.0 k 0 (sorted_from_strictly_increasing numbers rises) before lt in let same = get_or-take k numbers found.0 (get_or numbers k 0) before in let at = found.2 in let default = get_or_default numbers found.0 0 (get_or numbers k 0) (omega arith) in omega arith)

-- the first of the numbers from `start` on, as `next` returns it
pub next_is : (marks : Rows) (props start : ℕ) (r : Option ℕ) → marks.bits ≡ props → IfSome r (λ bit. IsTrue (get marks 0 bit)) → IfSome r (λ bit. bit < marks.bits) → IfSome r (λ bit. start ≤ bit) → IfSome r (NoneTrue marks 0 start)
    → IfNone r (NoneTrue marks 0 start marks.bits) → r ≡ slice_get (numbers_from props start (get marks 0)) 0
next_is marks props start None wide set in_row from least none = ap (λ xs. slice_get xs 0) (sym (none_from props start (get marks 0) (λ p le lt. none p le (omega arith))))
next_is marks props start (Some bit) wide set in_row from least none = ap (λ xs. slice_get xs 0) (sym (next_from props start bit (get marks 0) from (omega arith) least set))

-- what a search in a rising list says
pub found_by_search : (numbers : List ℕ) (x : ℕ) (r : Result ℕ ℕ) → IsStrictlyIncreasing numbers → IsBinarySearchResult (λ y. nat_cmp y x) numbers r → is_ok r ≡ has_number numbers x
found_by_search numbers x r rises h = by r (searched numbers x r h order)
  where
    order : (i j : ℕ) → i ≤ j → j < length numbers → get_or numbers i 0 ≤ get_or numbers j 0
    order i j le lt = go (cases_lt i j)
      where
        go : (i < j) ⊎ (j ≤ i) → get_or numbers i 0 ≤ get_or numbers j 0
        go (inl less) = omega (arith, below_from_sorted numbers i j 0 (sorted_from_strictly_increasing numbers rises) less lt)
        go (inr ge) = let same : i ≡ j = omega arith in rw same (omega arith)

    by : (r : Result ℕ ℕ) → MatchResult r (λ i. (i < length numbers) × (get_or numbers i 0 ≡ x)) (λ i. (i ≤ length numbers) × ((k : ℕ) → k < i → get_or numbers k 0 < x) × ((k : ℕ) → i ≤ k → k < length numbers → x < get_or numbers k 0)) → is_ok r ≡ has_number numbers x
    by (Ok i) found = sym ((has_decides numbers x).1 (among_from_contains numbers x (i, found.0, get_or_default numbers i x 0 found.0 ∙ found.1)))
    by (Err i) parts = nowhere (has_number numbers x) refl
      where
        nowhere : (b : Bool) → has_number numbers x ≡ b → false ≡ b
        nowhere false e = refl
        nowhere true e = absurd (
            let found = contains_from_among numbers x ((has_decides numbers x).0 e) in
            let at = get_or_default numbers found.0 0 x found.1 ∙ found.2 in
            apart found.0 found.1 at (cases_lt found.0 i)
            )
          where
            apart : (k : ℕ) → k < length numbers → get_or numbers k 0 ≡ x → (k < i) ⊎ (i ≤ k) → ⊥
            apart k lt at (inl below) = let less = parts.1 k below in omega arith
            apart k lt at (inr above) = let more = parts.2 k above lt in omega arith
