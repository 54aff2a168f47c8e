-- The first element that passes a test, after a list is filtered or gets one more key.
use Rattle.std.proofs.Common.{◌≡◌, ◌+◌, Bool, true, false, cond, Some, None, List, [], ◌∷◌, filter, length, refl, ap, ◌∙◌, inl, inr, arith}
use Rattle.std.specs.declared.cmp.Ordering.{Ordering}
use Rattle.std.specs.declared.cmp.Ordering.TheVariants.{Less, Equal, Greater}
use Rattle.std.specs.Ordering.{match_ordering}
use Rattle.std.specs.BTreeSet.{insert_key}
use Rattle.std.specs.List.{find}
use Rattle.lis_graph.proofs.Members.{Among, among_filter, none_found}

module _ {K : Type 0} (test : K → Bool) where
  -- a filter that keeps all that pass the test
  pub find_filter : (keep : K → Bool) (xs : List K) → ((x : K) → Among xs x → test x ≡ true → keep x ≡ true) → find test (filter keep xs) ≡ find test xs
  find_filter keep [] keeps = refl
  find_filter keep (x ∷ xs) keeps = by (keep x) (test x) refl (keeps x (inl refl)) (find_filter keep xs (λ y m. keeps y (inr m)))
    where
      by : (k b : Bool) → test x ≡ b → (b ≡ true → k ≡ true) → find test (filter keep xs) ≡ find test xs → find test (cond k (x ∷ filter keep xs) (filter keep xs)) ≡ cond b (Some x) (find test xs)
      by true b e kept rest = ap (λ t. cond t (Some x) (find test (filter keep xs))) e ∙ ap (cond b (Some x)) rest
      by false true e kept rest = absurd (let no = kept refl in cc)
      by false false e kept rest = rest

  -- a filter that keeps none of them
  pub find_filter_none : (keep : K → Bool) (xs : List K) → ((x : K) → Among xs x → test x ≡ true → keep x ≡ false) → find test (filter keep xs) ≡ None
  find_filter_none keep xs drops = none_found test (filter keep xs) (λ x m. let kept = among_filter keep xs x m in by x (test x) refl kept.1 (drops x kept.0))
    where
      by : (x : K) (b : Bool) → test x ≡ b → keep x ≡ true → (test x ≡ true → keep x ≡ false) → test x ≡ false
      by x true e kept drop = absurd (let no = drop e in cc)
      by x false e kept drop = e

  -- one more key, which ties with no other
  pub find_insert_key : (cmp : K → K → Ordering) (xs : List K) (k : K) → ((x : K) → Among xs x → cmp k x ≡ Equal → ⊥) → (test k ≡ true → find test xs ≡ None)
      → find test (insert_key cmp xs k) ≡ cond (test k) (Some k) (find test xs)
  find_insert_key cmp [] k new none = refl
  find_insert_key cmp (x ∷ xs) k new none = by (cmp k x) refl (test x) refl none (find_insert_key cmp xs k (λ y m. new y (inr m)))
    where
      put : (b : Bool) → (b ≡ true → Some x ≡ None) → Some x ≡ cond b (Some k) (Some x)
      put true none = absurd (let no = none refl in cc)
      put false none = refl

      by : (r : Ordering) → cmp k x ≡ r → (b : Bool) → test x ≡ b → (test k ≡ true → cond b (Some x) (find test xs) ≡ None)
          → ((test k ≡ true → find test xs ≡ None) → find test (insert_key cmp xs k) ≡ cond (test k) (Some k) (find test xs))
          → find test (match_ordering r (k ∷ x ∷ xs) (x ∷ xs) (x ∷ insert_key cmp xs k)) ≡ cond (test k) (Some k) (cond b (Some x) (find test xs))
      by Less e b is absent more = ap (λ t. cond (test k) (Some k) (cond t (Some x) (find test xs))) is
      by Equal e b is absent more = absurd (new x (inl refl) e)
      by Greater e true is absent more = ap (λ t. cond t (Some x) (find test (insert_key cmp xs k))) is ∙ put (test k) absent
      by Greater e false is absent more = ap (λ t. cond t (Some x) (find test (insert_key cmp xs k))) is ∙ more absent

-- a key that ties with no other makes the list longer by one
pub length-insert_key : {K : Type 0} (cmp : K → K → Ordering) (xs : List K) (k : K) → ((x : K) → Among xs x → cmp k x ≡ Equal → ⊥) → length (insert_key cmp xs k) ≡ length xs + 1
length-insert_key cmp [] k new = omega arith
length-insert_key cmp (x ∷ xs) k new = by (cmp k x) refl (length-insert_key cmp xs k (λ y m. new y (inr m)))
  where
    by : (r : Ordering) → cmp k x ≡ r → length (insert_key cmp xs k) ≡ length xs + 1 → length (match_ordering r (k ∷ x ∷ xs) (x ∷ xs) (x ∷ insert_key cmp xs k)) ≡ length (x ∷ xs) + 1
    by Less e rest = omega arith
    by Equal e rest = absurd (new x (inl refl) e)
    by Greater e rest = omega (arith, rest)
