-- Putting a key at its index is the insertion into the set.
use Rattle.std.proofs.Common.{◌≡◌, ℕ, ◌+◌, ◌≤◌, true, false, cond, List, [], ◌∷◌, length, drop, refl, ap, sym, ◌∙◌, suc, arith}
use Rattle.std.specs.declared.cmp.Ordering.{Ordering}
use Rattle.std.specs.declared.cmp.Ordering.TheVariants.{Less, Equal, Greater}
use Rattle.std.specs.Ordering.{is_gt, match_ordering}
use Rattle.std.specs.BTreeSet.{insert_key}
use Rattle.std.specs.List.{prefix_len, insert}
use Rattle.std.proofs.lemmas.List.Sums.{prefix_len-le-length}
use Rattle.lis_table.specs.Places.{first_is}

one_more : (n : ℕ) → 1 + n ≡ suc n
one_more n = omega arith

module _ {K : Type 0} (cmp : K → K → Ordering) (k : K) where
  -- how many keys are below
  abbrev pub place_of : List K → ℕ
  place_of ks = prefix_len (λ x. is_gt (cmp k x)) ks

  pub insert_there : (ks : List K) → first_is cmp k (drop (place_of ks) ks) ≡ true → insert_key cmp ks k ≡ ks
  insert_there [] h = absurd (cc)
  insert_there (x ∷ ks) h = by (cmp k x) refl h (insert_there ks)
    where
      by : (o : Ordering) → cmp k x ≡ o → first_is cmp k (drop (cond (is_gt o) (1 + place_of ks) 0) (x ∷ ks)) ≡ true
          → (first_is cmp k (drop (place_of ks) ks) ≡ true → insert_key cmp ks k ≡ ks)
          → match_ordering o (k ∷ x ∷ ks) (x ∷ ks) (x ∷ insert_key cmp ks k) ≡ x ∷ ks
      by Less e h more = let h' = rw e at h in absurd (cc h')
      by Equal e h more = refl
      by Greater e h more = let h' = rw (one_more (place_of ks)) at h in ap (λ xs. x ∷ xs) (more h')

  pub insert_here : (ks : List K) → first_is cmp k (drop (place_of ks) ks) ≡ false → insert_key cmp ks k ≡ insert ks (place_of ks) k
  insert_here [] h = refl
  insert_here (x ∷ ks) h = by (cmp k x) refl h (insert_here ks)
    where
      by : (o : Ordering) → cmp k x ≡ o → first_is cmp k (drop (cond (is_gt o) (1 + place_of ks) 0) (x ∷ ks)) ≡ false
          → (first_is cmp k (drop (place_of ks) ks) ≡ false → insert_key cmp ks k ≡ insert ks (place_of ks) k)
          → match_ordering o (k ∷ x ∷ ks) (x ∷ ks) (x ∷ insert_key cmp ks k) ≡ insert (x ∷ ks) (cond (is_gt o) (1 + place_of ks) 0) k
      by Less e h more = refl
      by Equal e h more = let h' = rw e at h in absurd (cc h')
      by Greater e h more =
          let h' = rw (one_more (place_of ks)) at h in
          rw (one_more (place_of ks)) (ap (λ xs. x ∷ xs) (more h'))

  -- the same, if the index was counted on one slice and the list is cut on another
  pub at_place : (ks counted cut behind : List K) (n : ℕ) → counted ≡ ks → n ≡ place_of counted → cut ≡ ks → behind ≡ drop n cut
      → first_is cmp k (drop (place_of ks) ks) ≡ first_is cmp k behind
  at_place ks counted cut behind n same at whole is =
      ap (λ xs. first_is cmp k (drop (place_of xs) ks)) (sym same)
      ∙ ap (λ m. first_is cmp k (drop m ks)) (sym at)
      ∙ ap (λ xs. first_is cmp k (drop n xs)) (sym whole)
      ∙ ap (first_is cmp k) (sym is)

  pub place_within : (ks counted : List K) (n : ℕ) → counted ≡ ks → n ≡ place_of counted → n ≤ length ks
  place_within ks counted n same at = rw (at, same) (prefix_len-le-length (λ x. is_gt (cmp k x)) ks)

  pub insert_at : (ks counted : List K) (n : ℕ) → counted ≡ ks → n ≡ place_of counted → first_is cmp k (drop (place_of ks) ks) ≡ false
      → insert ks n k ≡ insert_key cmp ks k
  insert_at ks counted n same at none = ap (λ m. insert ks m k) (at ∙ ap place_of same) ∙ sym (insert_here ks none)
