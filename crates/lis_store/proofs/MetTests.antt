-- The declared tests that this many bytes meet, word by word.
use Rattle.lis_store.proofs.Common.{rules, ◌≡◌, refl, sym, ap, ◌∙◌, ℕ, zero, suc, ◌+◌, ◌-◌, ◌<◌, ◌≤◌, Bool, true, false, ◌&&◌, cond, Option, Some, None, List, [], ◌∷◌, ◌++◌, length, map, filter, take, arith, append-nil, and_parts, take_more, take_all, slice_get_within, get_or_from_slice_get, Among, among_filter, word_of, test_of, is_met, met_tests, Metadata, AreSound, is_declared, declared_of, declared_has_number}
use Rattle.std.specs.List.{slice_get}
use Rattle.std.proofs.lemmas.List.{map-append}
use Rattle.std.proofs.lemmas.List.Elements.{filter-append}
use Rattle.lis_eval.proofs.Members.{past_end}

-- ---- word by word
-- those among the first words
abbrev pub met_first : Metadata → ℕ → ℕ → List (List ℕ)
met_first k size i = met_tests (filter (is_declared k) (map (λ (e : List ℕ × ℕ). e.0) (take i k.dict.entries))) size

passes : (test more : List ℕ → Bool) (w : List ℕ) → (test w && more w) ≡ true → filter test (filter more (w ∷ [])) ≡ w ∷ []
passes test more w h =
    let both = and_parts (test w) (more w) h in
    ap (λ b. filter test (cond b (w ∷ []) [])) both.1 ∙ ap (λ b. cond b (w ∷ []) []) both.0

not_both : (a b : Bool) → b ≡ true → (a && b) ≡ false → a ≡ false
not_both true true e h = absurd cc
not_both true false e h = absurd cc
not_both false b e h = refl

fails : (test more : List ℕ → Bool) (w : List ℕ) → (test w && more w) ≡ false → filter test (filter more (w ∷ [])) ≡ []
fails test more w h = search (rules, not_both)

module _ (k : Metadata) (size i : ℕ) (e : List ℕ × ℕ) (at : slice_get k.dict.entries i ≡ Some e) where
  abbrev met : List ℕ → Bool
  met w = is_met (test_of w) size

  next_is : met_first k size (i + 1) ≡ met_first k size i ++ filter met (filter (is_declared k) (e.0 ∷ []))
  next_is =
      let before : List (List ℕ) = map (λ (x : List ℕ × ℕ). x.0) (take i k.dict.entries) in
      let taken : take (i + 1) k.dict.entries ≡ take i k.dict.entries ++ e ∷ [] =
      take_more k.dict.entries i e (slice_get_within k.dict.entries i e at) ∙ ap (λ x. take i k.dict.entries ++ x ∷ []) (get_or_from_slice_get k.dict.entries i e e at) in
      ap (λ es. filter met (filter (is_declared k) (map (λ (x : List ℕ × ℕ). x.0) es))) taken
      ∙ (ap (λ ws. filter met (filter (is_declared k) ws)) (map-append (λ (x : List ℕ × ℕ). x.0) (take i k.dict.entries) (e ∷ []))
      ∙ (ap (filter met) (filter-append (is_declared k) before (e.0 ∷ []))
      ∙ filter-append met (filter (is_declared k) before) (filter (is_declared k) (e.0 ∷ []))))

  pub met_next : (met e.0 && is_declared k e.0) ≡ true → met_first k size (i + 1) ≡ met_first k size i ++ e.0 ∷ []
  met_next h = next_is ∙ ap (λ ws. met_first k size i ++ ws) (passes met (is_declared k) e.0 h)

  pub unmet_next : (met e.0 && is_declared k e.0) ≡ false → met_first k size (i + 1) ≡ met_first k size i
  unmet_next h = next_is ∙ (ap (λ ws. met_first k size i ++ ws) (fails met (is_declared k) e.0 h) ∙ append-nil (met_first k size i))

met_all : (k : Metadata) (size i : ℕ) → length k.dict.entries ≤ i → met_first k size i ≡ met_tests (declared_of k) size
met_all k size i end = ap (λ (es : List (List ℕ × ℕ)). met_tests (filter (is_declared k) (map (λ (e : List ℕ × ℕ). e.0) es)) size) (take_all i k.dict.entries end)

-- words that are no tests add nothing
met_past : (k : Metadata) (size from n : ℕ) → from + n ≤ length k.dict.entries → ((i : ℕ) (e : List ℕ × ℕ) → from ≤ i → i < from + n → slice_get k.dict.entries i ≡ Some e → test_of e.0 ≡ None)
    → met_first k size (from + n) ≡ met_first k size from
met_past k size from zero within none = let same : from + 0 ≡ from = omega arith in ap (met_first k size) same
met_past k size from (suc n) within none =
    by (slice_get k.dict.entries (from + n)) refl (met_past k size from n (omega (arith, within)) (λ i e at_least lt at. none i e at_least (omega (arith, lt)) at))
  where
    by : (o : Option (List ℕ × ℕ)) → slice_get k.dict.entries (from + n) ≡ o → met_first k size (from + n) ≡ met_first k size from → met_first k size (from + suc n) ≡ met_first k size from
    by None is rest = absurd (let past = past_end k.dict.entries (from + n) is in omega (arith, past, within))
    by (Some e) is rest =
        let next : from + suc n ≡ from + n + 1 = omega arith in
        let untested = none (from + n) e (omega arith) (omega arith) is in
        ap (met_first k size) next ∙ (unmet_next k size (from + n) e is (ap (λ t. is_met t size && is_declared k e.0) untested) ∙ rest)

module _ (k : Metadata) (size : ℕ) where
  pub met_before : (start : ℕ) → start ≤ length k.dict.entries → ((i : ℕ) (e : List ℕ × ℕ) → i < start → slice_get k.dict.entries i ≡ Some e → test_of e.0 ≡ None) → met_first k size start ≡ []
  met_before start le none =
      let same : 0 + start ≡ start = omega arith in
      ap (met_first k size) (sym same) ∙ met_past k size 0 start (omega (arith, le)) (λ i e at_least lt at. none i e (omega (arith, lt)) at)

  pub met_behind : (end : ℕ) → end ≤ length k.dict.entries → ((i : ℕ) (e : List ℕ × ℕ) → end ≤ i → slice_get k.dict.entries i ≡ Some e → test_of e.0 ≡ None) → met_first k size end ≡ met_tests (declared_of k) size
  met_behind end le none =
      sym (met_past k size end (length k.dict.entries - end) (omega (arith, le)) (λ i e at_least lt at. none i e at_least at)) ∙ met_all k size (end + (length k.dict.entries - end)) (omega (arith, le))

-- they have numbers
pub met_numbered : (k : Metadata) → AreSound k → (size : ℕ) (w : List ℕ) → Among (met_tests (declared_of k) size) w → (n : ℕ) × (word_of k.dict n ≡ Some w)
met_numbered k sound size w m = declared_has_number k sound w (among_filter (λ x. is_met (test_of x) size) (declared_of k) w m).0
