-- The index of a name among files in the order of their names.
use Rattle.std.proofs.Common.{◌≡◌, ℕ, zero, suc, ◌<◌, ◌≤◌, Bool, cond, List, [], ◌∷◌, length, get_or, map, Some, None, Result, Ok, Err, MatchResult, refl, sym, ap, subst, ◌∙◌, arith}
use Rattle.std.specs.declared.cmp.Ordering.TheVariants.{Less, Equal, Greater}
use Rattle.std.specs.Ordering.{ordering_index, match_ordering}
use Rattle.std.specs.BTreeSet.{insert_key}
use Rattle.std.specs.List.{AllByRecursion, find, insert}
use Rattle.std.specs.List.Sorted.{IsStrictlySortedBy, IsSearchInRange, IsBinarySearchResult, IsNonDecreasingBy}
use Rattle.lis_graph.proofs.Sets.{below_tail, sorted_tail}
use Rattle.lis_words.specs.Words.{word_cmp, same_word}
use Rattle.lis_catalog.specs.Catalog.{Filed, filed_cmp}
use Rattle.lis_catalog.specs.Inside.{no_record, FoundAt, PlaceFor}
use Rattle.lis_catalog.proofs.Order.{word_exact, filed_order, turned_less, turned_equal, turned_greater, lower, is_same, not_same, step}

pub no_file : Filed
no_file = record { slot = 0; rec = no_record }

-- ---- a search among slots, of which each has its file
module _ (filed : ℕ → Filed) where
  below_at : (P : Filed → Type 0) (order : List ℕ) (k d : ℕ) → AllByRecursion P (map filed order) → k < length order → P (filed (get_or order k d))
  below_at P [] k d all lt = absurd (omega arith)
  below_at P (n ∷ ns) zero d all lt = all.0
  below_at P (n ∷ ns) (suc k) d all lt = let less : k < length ns = omega (arith, lt) in below_at P ns k d all.1 less

  module _ (name : List ℕ) where
    rises : (order : List ℕ) → IsStrictlySortedBy filed_cmp (map filed order) → IsNonDecreasingBy (λ n. ordering_index (word_cmp (filed n).rec.name name)) order
    rises [] s i j d le lt = absurd (omega arith)
    rises (n ∷ ns) s zero zero d le lt = omega arith
    rises (n ∷ ns) s zero (suc j) d le lt =
        let less : j < length ns = omega (arith, lt) in
        step (filed n).rec.name (filed (get_or ns j d)).rec.name name (below_at (λ y. filed_cmp (filed n) y ≡ Less) ns j d (below_tail filed_cmp filed_order (filed n) (map filed ns) s) less)
    rises (n ∷ ns) s (suc i) zero d le lt = absurd (omega (arith, le))
    rises (n ∷ ns) s (suc i) (suc j) d le lt =
        let less : j < length ns = omega (arith, lt) in
        let same : i ≤ j = omega (arith, le) in
        rises ns (sorted_tail filed_cmp filed_order (filed n) (map filed ns) s) i j d same less

    found_at : (k : ℕ) (order : List ℕ) → IsStrictlySortedBy filed_cmp (map filed order) → k < length order → word_cmp (filed (get_or order k 0)).rec.name name ≡ Equal → FoundAt name k (map filed order)
    found_at k [] s lt e = absurd (omega arith)
    found_at zero (n ∷ ns) s lt e = turned_equal (filed n).rec.name name e
    found_at (suc k) (n ∷ ns) s lt e =
        let less : k < length ns = omega (arith, lt) in
        let here : filed_cmp (filed n) (filed (get_or ns k 0)) ≡ Less = below_at (λ y. filed_cmp (filed n) y ≡ Less) ns k 0 (below_tail filed_cmp filed_order (filed n) (map filed ns) s) less in
        (turned_less (filed n).rec.name name (subst (λ other. word_cmp (filed n).rec.name other ≡ Less) (word_exact (filed (get_or ns k 0)).rec.name name e) here), found_at k ns (sorted_tail filed_cmp filed_order (filed n) (map filed ns) s) less e)

    place_for : (k : ℕ) (order : List ℕ) → k ≤ length order → ((j : ℕ) → j < k → word_cmp (filed (get_or order j 0)).rec.name name ≡ Less) → (k < length order → word_cmp (filed (get_or order k 0)).rec.name name ≡ Greater) → PlaceFor name k (map filed order)
    place_for zero [] le below above = tt
    place_for zero (n ∷ ns) le below above = turned_greater (filed n).rec.name name (above (omega arith))
    place_for (suc k) [] le below above = absurd (omega (arith, le))
    place_for (suc k) (n ∷ ns) le below above =
        let less : k ≤ length ns = omega (arith, le) in
        (turned_less (filed n).rec.name name (below zero (omega arith)), place_for k ns less (λ j h. let more : suc j < suc k = omega (arith, h) in below (suc j) more) (λ h. let more : suc k < suc (length ns) = omega (arith, h) in above more))

    pub searched : (order : List ℕ) (r : Result ℕ ℕ) → IsStrictlySortedBy filed_cmp (map filed order) → IsSearchInRange r (length order) → IsBinarySearchResult (λ n. word_cmp (filed n).rec.name name) order r
        → MatchResult r (λ k. FoundAt name k (map filed order)) (λ k. PlaceFor name k (map filed order))
    searched order (Ok k) s within at = found_at k order s within (at 0)
    searched order (Err k) s within parted =
        let parts = parted (rises order s) in
        place_for k order within (λ j h. parts.0 j 0 (omega arith) h) (λ h. parts.1 k 0 (omega arith) h)

-- ---- what is found
abbrev pub is_named : List ℕ → Filed → Bool
is_named name f = same_word f.rec.name name

found_here : (name : List ℕ) (x : Filed) (xs : List Filed) → word_cmp name x.rec.name ≡ Equal → find (is_named name) (x ∷ xs) ≡ Some x
found_here name x xs e = ap (λ b. cond b (Some x) (find (is_named name) xs)) (is_same name x.rec.name e)

found_later : (name : List ℕ) (x : Filed) (xs : List Filed) → (word_cmp name x.rec.name ≡ Equal → ⊥) → find (is_named name) (x ∷ xs) ≡ find (is_named name) xs
found_later name x xs ne = ap (λ b. cond b (Some x) (find (is_named name) xs)) (not_same name x.rec.name ne)

pub found_name : (name : List ℕ) (k : ℕ) (es : List Filed) (d : Filed) → FoundAt name k es → find (is_named name) es ≡ Some (get_or es k d)
found_name name k [] d at = absurd at
found_name name zero (x ∷ xs) d at = found_here name x xs at
found_name name (suc k) (x ∷ xs) d at = found_later name x xs (λ e. let other = at.0 in absurd cc) ∙ found_name name k xs d at.1

pub none_above : (name : List ℕ) (es : List Filed) → AllByRecursion (λ y. word_cmp name y.rec.name ≡ Less) es → find (is_named name) es ≡ None
none_above name [] all = refl
none_above name (x ∷ xs) all = found_later name x xs (λ e. let other = all.0 in absurd cc) ∙ none_above name xs all.1

above_all : (name : List ℕ) (x : Filed) (es : List Filed) → word_cmp name x.rec.name ≡ Less → AllByRecursion (λ y. filed_cmp x y ≡ Less) es → AllByRecursion (λ y. word_cmp name y.rec.name ≡ Less) es
above_all name x [] less all = tt
above_all name x (e ∷ es) less all = (lower name x.rec.name e.rec.name less all.0, above_all name x es less all.1)

pub no_name : (name : List ℕ) (k : ℕ) (es : List Filed) → IsStrictlySortedBy filed_cmp es → PlaceFor name k es → find (is_named name) es ≡ None
no_name name zero [] s place = refl
no_name name (suc k) [] s place = absurd place
no_name name zero (x ∷ xs) s place = none_above name (x ∷ xs) (place, above_all name x xs place (below_tail filed_cmp filed_order x xs s))
no_name name (suc k) (x ∷ xs) s place =
    found_later name x xs (λ e. let other = place.0 in absurd cc)
    ∙ no_name name k xs (sorted_tail filed_cmp filed_order x xs s) place.1

-- a file that is inserted at the index of its name is in order
pub insert_place : (f : Filed) (k : ℕ) (es : List Filed) → PlaceFor f.rec.name k es → insert es k f ≡ insert_key filed_cmp es f
insert_place f zero [] place = refl
insert_place f (suc k) [] place = absurd place
insert_place f zero (x ∷ xs) place = sym (ap (λ o. match_ordering o (f ∷ x ∷ xs) (x ∷ xs) (x ∷ insert_key filed_cmp xs f)) place)
insert_place f (suc k) (x ∷ xs) place =
    ap (λ ys. x ∷ ys) (insert_place f k xs place.1)
    ∙ sym (ap (λ o. match_ordering o (f ∷ x ∷ xs) (x ∷ xs) (x ∷ insert_key filed_cmp xs f)) place.0)
