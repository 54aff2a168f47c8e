-- The place of a word among entries in the order of their words.
use Rattle.std.proofs.Common.{◌≡◌, ◌⊎◌, ℕ, zero, suc, ◌+◌, ◌<◌, ◌≤◌, Bool, true, false, not, cond, Result, Ok, Err, IfOk, IfErr, List, [], ◌∷◌, length, get_or, map, filter, refl, sym, ap, subst, ◌∙◌, inl, inr, arith}
use Rattle.std.specs.declared.cmp.Ordering.{Ordering}
use Rattle.std.specs.declared.cmp.Ordering.TheVariants.{Less, Equal, Greater}
use Rattle.std.specs.Ordering.{match_ordering, ordering_index}
use Rattle.std.specs.Cmp.{tied_itself}
use Rattle.std.specs.BTreeSet.{insert_key}
use Rattle.std.specs.List.{insert, remove, HoldsAt}
use Rattle.std.specs.List.Sorted.{IsBinarySearchResult, IsNonDecreasingBy, IsPartitionPoint, IsSearchInRange}
use Rattle.std.proofs.lemmas.Bool.{cases_lt}
use Rattle.std.proofs.lemmas.List.{get_or-map, length-map}
use Rattle.std.proofs.lemmas.Slice.Eq.{bytes_eq-Decides}
use Rattle.std.proofs.lemmas.Map.Lookups.{exact_bytes}
use Rattle.lis_graph.proofs.Filters.{filter_all}
use Rattle.lis_graph.proofs.Members.{Among, among_at, contains_from_among}
use Rattle.lis_words.specs.Words.{word_cmp, same_word}
use Rattle.lis_dict.specs.Dict.{entry_cmp}
use Rattle.lis_dict.proofs.Entries.{DictEntry, Ordered, word_order, below_none, turned}

pub same_true : (a b : List ℕ) → a ≡ b → same_word a b ≡ true
same_true a b e = (bytes_eq-Decides a b).1 e

pub same_from : (a b : List ℕ) → same_word a b ≡ true → a ≡ b
same_from a b e = (bytes_eq-Decides a b).0 e

pub same_false : (a b : List ℕ) → (a ≡ b → ⊥) → same_word a b ≡ false
same_false a b differ = by (same_word a b) refl
  where
    by : (t : Bool) → same_word a b ≡ t → t ≡ false
    by true e = absurd (differ (same_from a b e))
    by false e = refl

-- ---- what a search finds
rank_le : (r s : Ordering) → (s ≡ Less → r ≡ Less) → (s ≡ Equal → r ≡ Less) → ordering_index r ≤ ordering_index s
rank_le Less s a b = omega arith
rank_le Equal Less a b = absurd (let e = a refl in cc)
rank_le Equal Equal a b = omega arith
rank_le Equal Greater a b = omega arith
rank_le Greater Less a b = absurd (let e = a refl in cc)
rank_le Greater Equal a b = absurd (let e = b refl in cc)
rank_le Greater Greater a b = omega arith

-- the comparisons with a word rise
pub comparisons_rise : (es : List DictEntry) → Ordered es → (word : List ℕ) → IsNonDecreasingBy (λ (e : DictEntry). ordering_index (word_cmp e.0 word)) es
comparisons_rise [] h word i j d le lt = absurd (omega arith)
comparisons_rise (e ∷ es) h word zero zero d le lt = omega arith
comparisons_rise (e ∷ es) h word zero (suc j) d le lt =
    let x = get_or es j d in
    let lower = h.0 x (among_at es j d (omega (arith, lt))) in
    rank_le (word_cmp e.0 word) (word_cmp x.0 word) (λ less. word_order.trans e.0 x.0 word lower less) (λ tied. subst (λ w. word_cmp e.0 w ≡ Less) (exact_bytes x.0 word tied) lower)
comparisons_rise (e ∷ es) h word (suc i) zero d le lt = absurd (omega (arith, le))
comparisons_rise (e ∷ es) h word (suc i) (suc j) d le lt = comparisons_rise es h.1 word i j d (omega (arith, le)) (omega (arith, lt))

module _ (es : List DictEntry) (ordered : Ordered es) (word : List ℕ) where
  pub searched_found : (r : Result ℕ ℕ) → IsBinarySearchResult (λ (e : DictEntry). word_cmp e.0 word) es r → IfOk r (HoldsAt (λ e. e.0 ≡ word) es)
  searched_found (Ok k) at = λ d. exact_bytes (get_or es k d).0 word (at d)
  searched_found (Err k) at = tt

  pub searched_absent : (r : Result ℕ ℕ) → IsBinarySearchResult (λ (e : DictEntry). word_cmp e.0 word) es r → IfErr r (IsPartitionPoint (λ e. word_cmp e.0 word ≡ Less) (λ e. word_cmp e.0 word ≡ Greater) es)
  searched_absent (Ok k) at = tt
  searched_absent (Err k) at = at (comparisons_rise es ordered word)

-- ---- a search among numbers, of which each has its entry
module _ (entry : ℕ → DictEntry) (order : List ℕ) where
  rises : (n : DictEntry → ℕ) → IsNonDecreasingBy n (map entry order) → IsNonDecreasingBy (λ k. n (entry k)) order
  rises n up i j d le lt =
      let first = ap n (get_or-map entry order i d (entry d) (omega (arith, le, lt))) in
      let second = ap n (get_or-map entry order j d (entry d) lt) in
      omega (arith, first, second, up i j (entry d) le (omega (arith, lt, length-map order entry)))

  pub searched : (word : List ℕ) (r : Result ℕ ℕ) → IsSearchInRange r (length order) → IsBinarySearchResult (λ n. word_cmp (entry n).0 word) order r
      → IsBinarySearchResult (λ (e : DictEntry). word_cmp e.0 word) (map entry order) r
  searched word (Ok k) lt at = λ d. subst (λ (e : DictEntry). word_cmp e.0 word ≡ Equal) (sym (get_or-map entry order k 0 d lt)) (at 0)
  searched word (Err k) le at = λ up.
      let parts = at (rises (λ (e : DictEntry). ordering_index (word_cmp e.0 word)) up) in
      let before : (j : ℕ) (d : DictEntry) → 0 ≤ j → j < k → word_cmp (get_or (map entry order) j d).0 word ≡ Less = λ j d from lt.
      subst (λ (e : DictEntry). word_cmp e.0 word ≡ Less) (sym (get_or-map entry order j 0 d (omega (arith, le, lt)))) (parts.0 j 0 from lt) in
      let behind : (j : ℕ) (d : DictEntry) → k ≤ j → j < length (map entry order) → word_cmp (get_or (map entry order) j d).0 word ≡ Greater = λ j d from lt.
      let less : j < length order = omega (arith, lt, length-map order entry) in
      subst (λ (e : DictEntry). word_cmp e.0 word ≡ Greater) (sym (get_or-map entry order j 0 d less)) (parts.1 j 0 from less) in
      (before, behind)

-- ---- the entry of the word
abbrev pub is_other : List ℕ → DictEntry → Bool
is_other word e = not (same_word e.0 word)

pub other_true : (word : List ℕ) (e : DictEntry) → (e.0 ≡ word → ⊥) → is_other word e ≡ true
other_true word e differ = ap not (same_false e.0 word differ)

-- to remove the entry is to filter by its word
pub remove_found : (es : List DictEntry) → Ordered es → (word : List ℕ) (k : ℕ) → k < length es → HoldsAt (λ (e : DictEntry). e.0 ≡ word) es k → remove es k ≡ filter (is_other word) es
remove_found [] h word k lt at = absurd (omega arith)
remove_found (e ∷ es) h word zero lt at =
    let above : (x : DictEntry) → Among es x → x.0 ≡ word → ⊥ = λ x m same. below_none word (subst (λ w. word_cmp word w ≡ Less) same (subst (λ w. word_cmp w x.0 ≡ Less) (at e) (h.0 x m))) in
    sym (filter_all (is_other word) es (λ x m. other_true word x (above x m))) ∙ sym (ap (λ b. cond (not b) (e ∷ filter (is_other word) es) (filter (is_other word) es)) (same_true e.0 word (at e)))
remove_found (e ∷ es) h word (suc k) lt at =
    let less : k < length es = omega (arith, lt) in
    let lower = h.0 (get_or es k e) (among_at es k e less) in
    let differ : e.0 ≡ word → ⊥ = λ same. below_none word (subst (λ w. word_cmp word w ≡ Less) (at e) (subst (λ w. word_cmp w (get_or es k e).0 ≡ Less) same lower)) in
    ap (λ ys. e ∷ ys) (remove_found es h.1 word k less (λ d. at d)) ∙ sym (ap (λ b. cond b (e ∷ filter (is_other word) es) (filter (is_other word) es)) (other_true word e differ))

pub one_filtered : (es : List DictEntry) → Ordered es → (word : List ℕ) (number : ℕ) → Among es (word, number) → length (filter (is_other word) es) + 1 ≡ length es
one_filtered [] h word number m = absurd m
one_filtered (e ∷ es) h word number (inl at) =
    let same : e.0 ≡ word = ap (λ (x : DictEntry). x.0) at in
    let above : (x : DictEntry) → Among es x → x.0 ≡ word → ⊥ = λ x m there. below_none word (subst (λ w. word_cmp word w ≡ Less) there (subst (λ w. word_cmp w x.0 ≡ Less) same (h.0 x m))) in
    let gone = ap (λ b. cond (not b) (e ∷ filter (is_other word) es) (filter (is_other word) es)) (same_true e.0 word same) ∙ filter_all (is_other word) es (λ x m. other_true word x (above x m)) in
    omega (arith, ap length gone)
one_filtered (e ∷ es) h word number (inr m) =
    let lower = h.0 (word, number) m in
    let kept = ap (λ b. cond b (e ∷ filter (is_other word) es) (filter (is_other word) es)) (other_true word e (λ same. below_none word (subst (λ w. word_cmp w word ≡ Less) same lower))) in
    omega (arith, ap length kept, one_filtered es h.1 word number m)

-- ---- the gap for the word
abbrev pub IsGap : List DictEntry → List ℕ → ℕ → Type 0
IsGap es word k = IsPartitionPoint (λ (e : DictEntry). word_cmp e.0 word ≡ Less) (λ (e : DictEntry). word_cmp e.0 word ≡ Greater) es k

pub gap_absent : (es : List DictEntry) (word : List ℕ) (k : ℕ) → IsGap es word k → (x : DictEntry) → Among es x → x.0 ≡ word → ⊥
gap_absent es word k gap x m same = by (contains_from_among es x m)
  where
    level : word_cmp x.0 word ≡ Equal
    level = let self = tied_itself word_order word in subst (λ w. word_cmp w word ≡ Equal) (sym same) self

    by : (j : ℕ) × (j < length es) × (get_or es j x ≡ x) → ⊥
    by found = go (cases_lt found.0 k)
      where
        go : (found.0 < k) ⊎ (k ≤ found.0) → ⊥
        go (inl lt) = let less = subst (λ (e : DictEntry). word_cmp e.0 word ≡ Less) found.2 (gap.0 found.0 x (omega arith) lt) in absurd (let l = level in cc)
        go (inr ge) = let more = subst (λ (e : DictEntry). word_cmp e.0 word ≡ Greater) found.2 (gap.1 found.0 x ge found.1) in absurd (let l = level in cc)

pub insert_gap : (es : List DictEntry) (word : List ℕ) (number k : ℕ) → k ≤ length es → IsGap es word k → insert es k (word, number) ≡ insert_key entry_cmp es (word, number)
insert_gap [] word number zero le gap = refl
insert_gap [] word number (suc k) le gap = absurd (omega (arith, le))
insert_gap (e ∷ es) word number zero le gap =
    let less = turned e.0 word Greater (gap.1 0 e (omega arith) (omega arith)) in
    sym (ap (λ r. match_ordering r ((word, number) ∷ e ∷ es) (e ∷ es) (e ∷ insert_key entry_cmp es (word, number))) less)
insert_gap (e ∷ es) word number (suc k) le gap =
    let greater = turned e.0 word Less (gap.0 0 e (omega arith) (omega arith)) in
    let rest : IsGap es word k = (λ j d from lt. gap.0 (suc j) d (omega arith) (omega (arith, lt)), λ j d from lt. gap.1 (suc j) d (omega (arith, from)) (omega (arith, lt))) in
    ap (λ ys. e ∷ ys) (insert_gap es word number k (omega (arith, le)) rest)
    ∙ sym (ap (λ r. match_ordering r ((word, number) ∷ e ∷ es) (e ∷ es) (e ∷ insert_key entry_cmp es (word, number))) greater)
