-- Blocks that are freed.
use Rattle.lis_store.proofs.Common.{◌≡◌, ◌⊎◌, sym, ap, ◌∙◌, subst, inl, inr, ℕ, ◌<◌, ◌≤◌, ◌==◌, not, ◌&&◌, ◌||◌, Bool, false, List, [], ◌∷◌, length, get_or, set, get_or-set_same, get_or-set_other, cases_eq, cases_lt, ne_eqb, get_or_past, is_taken, eq-eqb, given, has_number, and-true}
use Rattle.std.proofs.lemmas.Bool.{and_right}
use Rattle.std.proofs.lemmas.List.{set_past}

unset : (taken : List Bool) (n : ℕ) → get_or (set taken n false) n false ≡ false
unset taken n = by (cases_lt n (length taken))
  where
    by : (n < length taken) ⊎ (length taken ≤ n) → get_or (set taken n false) n false ≡ false
    by (inl lt) = get_or-set_same taken n false false lt
    by (inr past) = ap (λ ts. get_or ts n false) (set_past taken n false past) ∙ get_or_past taken n false past

pub given_taken : (taken : List Bool) (ns : List ℕ) (n : ℕ) → is_taken (given taken ns) n ≡ (is_taken taken n && not (has_number ns n))
given_taken taken [] n = sym (and-true (is_taken taken n))
given_taken taken (b ∷ ns) n = given_taken (set taken b false) ns n ∙ by (cases_eq b n)
  where
    by : (b ≡ n) ⊎ (b ≡ n → ⊥) → (is_taken (set taken b false) n && not (has_number ns n)) ≡ (is_taken taken n && not ((b == n) || has_number ns n))
    by (inl same) =
        ap (λ t. t && not (has_number ns n)) (subst (λ k. is_taken (set taken b false) k ≡ false) same (unset taken b))
        ∙ sym (and_right (is_taken taken n) (not ((b == n) || has_number ns n)) (ap (λ t. not (t || has_number ns n)) (eq-eqb b n same)))
    by (inr differ) =
        ap (λ t. t && not (has_number ns n)) (get_or-set_other taken b n false false (λ e. differ (sym e)))
        ∙ ap (λ t. is_taken taken n && not (t || has_number ns n)) (sym (ne_eqb b n differ))
