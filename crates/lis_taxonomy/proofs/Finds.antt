-- What crates above need to know of searches.
use Rattle.std.proofs.Common.{◌≡◌, ℕ, true, nat_eq, List, refl, sym, subst, ◌∙◌, eq-eqb}
use Rattle.std.specs.Bool.{one_answer}
use Rattle.std.proofs.lemmas.List.Folds.{list_any_at}
use Rattle.lis_graph.proofs.Members.{among_from_any, any_from_among}
use Rattle.lis_taxonomy.specs.Search.{is_found}
use Rattle.lis_taxonomy.specs.Taxonomy.{Taxonomy, entails, any_entails}
use Rattle.lis_taxonomy.proofs.Searches.{at_has}

module _ (t : Taxonomy) (q : ℕ) where
  still_entailed : (xs ys : List ℕ) → ((p : ℕ) → is_found xs p ≡ is_found ys p) → any_entails t xs q ≡ true → any_entails t ys q ≡ true
  still_entailed xs ys same h =
      let p = among_from_any (λ p. entails t p q) xs h in
      let at = at_has ys p.0 (sym (same p.0) ∙ any_from_among (λ x. nat_eq x p.0) xs p.0 p.1 (eq-eqb p.0 p.0 refl)) in
      list_any_at (λ p. entails t p q) ys at.0 0 at.1 (subst (λ p. entails t p q ≡ true) (sym at.2) p.2)

  -- numbers with the same members entail the same
  pub any_entails_as : (xs ys : List ℕ) → ((p : ℕ) → is_found xs p ≡ is_found ys p) → any_entails t xs q ≡ any_entails t ys q
  any_entails_as xs ys same = one_answer (any_entails t xs q) (any_entails t ys q)
      (still_entailed xs ys same, still_entailed ys xs (λ p. sym (same p))) (λ h. h, λ h. h)
