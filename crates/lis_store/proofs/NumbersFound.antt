-- Numbers that pass a test, found one by one.
use Rattle.lis_store.proofs.Common.{◌≡◌, refl, sym, ap, ◌∙◌, ◌⊎◌, inl, inr, ℕ, zero, suc, ◌+◌, ◌<◌, ◌≤◌, Bool, true, false, cond, List, [], ◌∷◌, ◌++◌, length, map, filter, append-nil, length-append, arith, range_with_len, cases_lt, false_from_ne_true}
use Rattle.lis_ext.specs.Numbers.{numbers_where}
use Rattle.std.proofs.lemmas.List.FromFn.{filter_of_map_range_with_len_more}

abbrev pub found_below : (ℕ → Bool) → ℕ → List ℕ
found_below test n = filter test (map (λ (p : ℕ). p) (range_with_len 0 n))

same_map : (xs : List ℕ) → map (λ (p : ℕ). p) xs ≡ xs
same_map [] = refl
same_map (x ∷ xs) = ap (λ ys. x ∷ ys) (same_map xs)

module _ (test : ℕ → Bool) where
  more : (n : ℕ) → found_below test (n + 1) ≡ found_below test n ++ cond (test n) (n ∷ []) []
  more n = filter_of_map_range_with_len_more test (λ (p : ℕ). p) 0 n n (omega arith)

  pub found_one : (n : ℕ) (ns next : List ℕ) → ns ≡ found_below test n → test n ≡ true → next ≡ ns ++ n ∷ [] → next ≡ found_below test (n + 1)
  found_one n ns next was passes is =
      is ∙ (ap (λ xs. xs ++ n ∷ []) was ∙ (ap (λ b. found_below test n ++ cond b (n ∷ []) []) (sym passes) ∙ sym (more n)))

  pub found_none : (n : ℕ) (ns : List ℕ) → ns ≡ found_below test n → test n ≡ false → ns ≡ found_below test (n + 1)
  found_none n ns was fails =
      was ∙ (sym (append-nil (found_below test n)) ∙ (ap (λ b. found_below test n ++ cond b (n ∷ []) []) (sym fails) ∙ sym (more n)))

  -- nothing is found if none passes
  pub found_past : (start n : ℕ) → start ≤ n → ((k : ℕ) → start ≤ k → k < n → test k ≡ false) → found_below test start ≡ found_below test n
  found_past start zero le none = let same : start ≡ 0 = omega (arith, le) in ap (found_below test) same
  found_past start (suc n) le none = by (cases_lt n start) (found_past start n)
    where
      by : (n < start) ⊎ (start ≤ n) → (start ≤ n → ((k : ℕ) → start ≤ k → k < n → test k ≡ false) → found_below test start ≡ found_below test n) → found_below test start ≡ found_below test (suc n)
      by (inl all) rest = let same : start ≡ suc n = omega (arith, all, le) in ap (found_below test) same
      by (inr fewer) rest =
          let next : n + 1 ≡ suc n = omega arith in
          rest fewer (λ k from lt. none k from (omega (arith, lt))) ∙ (found_none n (found_below test n) refl (none n fewer (omega arith)) ∙ ap (found_below test) next)

  -- the more numbers are tested, the more are found
  grows : (m n : ℕ) → m ≤ n → length (found_below test m) ≤ length (found_below test n)
  grows m zero le = ap_le (omega arith)
    where
      ap_le : m ≡ 0 → length (found_below test m) ≤ length (found_below test 0)
      ap_le none = omega (arith, ap (λ i. length (found_below test i)) none)
  grows m (suc n) le = by (cases_lt n m) (grows m n)
    where
      by : (n < m) ⊎ (m ≤ n) → (m ≤ n → length (found_below test m) ≤ length (found_below test n)) → length (found_below test m) ≤ length (found_below test (suc n))
      by (inl all) rest = let same : m ≡ suc n = omega (arith, all, le) in omega (arith, ap (λ i. length (found_below test i)) same)
      by (inr fewer) rest =
          let next : suc n ≡ n + 1 = omega arith in
          omega (arith, rest fewer, ap (λ i. length (found_below test i)) next, ap length (more n), length-append (found_below test n) (cond (test n) (n ∷ []) []))

  pub found_all : (props : ℕ) → found_below test props ≡ numbers_where props test
  unfolding numbers_where
  found_all props = ap (filter test) (same_map (range_with_len 0 props))

  -- all are found if none is past the start
  pub found_end : (start most props : ℕ) → start ≤ most → ((n : ℕ) → start ≤ n → n < most → test n ≡ false) → props ≤ most → ((n : ℕ) → test n ≡ true → n < props)
      → found_below test start ≡ numbers_where props test
  found_end start most props low none few below =
      found_past start most low none
      ∙ (sym (found_past props most few (λ n from lt. false_from_ne_true (test n) (λ is. omega (arith, from, below n is)))) ∙ found_all props)

  pub found_room : (props most n : ℕ) → n < props → test n ≡ true → length (numbers_where props test) ≤ most → length (found_below test n) < most
  found_room props most n lt passes few =
      let one : length (found_below test (n + 1)) ≡ length (found_below test n) + 1 =
      ap length (more n ∙ ap (λ b. found_below test n ++ cond b (n ∷ []) []) passes) ∙ length-append (found_below test n) (n ∷ []) in
      omega (arith, one, grows (n + 1) props (omega arith), ap length (found_all props), few)
