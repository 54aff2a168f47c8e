-- What a search from several numbers finds, and what it looks up in a row of bits.
use Rattle.std.proofs.Common.{◌≡◌, ◌⊎◌, ◌↔◌, ℕ, zero, suc, ◌+◌, ◌<◌, ◌≤◌, true, false, nat_eq, List, [], ◌∷◌, length, get_or, refl, sym, ap, subst, ◌∙◌, inl, inr, arith, eq-eqb, count_by}
use Rattle.std.specs.Bool.{one_answer}
use Rattle.std.specs.List.{range_with_len}
use Rattle.std.proofs.lemmas.Bool.{cases_eq}
use Rattle.std.proofs.lemmas.List.Folds.{list_any_at}
use Rattle.lis_bits.specs.Rows.{Rows, get}
use Rattle.lis_graph.specs.Graph as chains
use Rattle.lis_graph.proofs.Members.{among_from_any, any_from_among, among_from_contains}
use Rattle.lis_taxonomy.specs.Search.{is_found}
use Rattle.lis_taxonomy.specs.Taxonomy.{Entails, LeadsToMarked, entails, any_entails, no_links}
use Rattle.lis_taxonomy.specs.Inside.{AreInOrder, seen, IsSearched, MeetsRights, ChainToMarked}
use Rattle.lis_taxonomy.specs.Steps.{LeadsTo}
use Rattle.lis_taxonomy.proofs.Laws.{entails_decides}
use Rattle.lis_taxonomy.proofs.Searches.{has_at, at_has, searches_start, searches_step, searches_end, only_start}
use Rattle.lis_taxonomy.proofs.Marks.{same_counts}
use Rattle.lis_taxonomy.proofs.Places.{among_place}
use Rattle.lis_taxonomy.proofs.Seen.{entails_seen, seen_entails}

-- ---- several numbers
module _ (es : List (ℕ × ℕ)) (props : ℕ) (order : AreInOrder es props) where
  chain_below : (n p q : ℕ) → p < props → chains.Chain no_links es n p q → q < props
  chain_below zero p q lt same = subst (λ x. x < props) same lt
  chain_below (suc n) p q lt chain = chain_below n chain.0 q (by chain.1) chain.2
    where
      by : chains.Linked no_links es p chain.0 → chain.0 < props
      by (inl given) = absurd (among_from_contains [] chain.0 given)
      by (inr edge) =
          let k = among_place es (p, chain.0) (among_from_contains es (p, chain.0) edge) in
          subst (λ (e : ℕ × ℕ). e.1 < props) k.2 (order.right k.0 k.1)

  module _ (numbers found : List ℕ) (searched : IsSearched es numbers found) where
    pub found_entailed : (q : ℕ) → is_found found q ≡ any_entails (seen es props) numbers q
    found_entailed q = one_answer (is_found found q) (any_entails (seen es props) numbers q) (searched q) (to, from)
      where
        to : any_entails (seen es props) numbers q ≡ true → (p : ℕ) × (is_found numbers p ≡ true) × chains.Entails no_links es p q
        to h =
            let at = among_from_any (λ p. entails (seen es props) p q) numbers h in
            (at.0, any_from_among (λ x. nat_eq x at.0) numbers at.0 at.1 (eq-eqb at.0 at.0 refl), seen_entails es props at.0 q ((entails_decides (seen es props) at.0 q).0 at.2))

        from : (p : ℕ) × (is_found numbers p ≡ true) × chains.Entails no_links es p q → any_entails (seen es props) numbers q ≡ true
        from e =
            let at = at_has numbers e.0 e.1 in
            let here : Entails (seen es props) (get_or numbers at.0 0) q = subst (λ p. Entails (seen es props) p q) (sym at.2) (entails_seen es props e.0 q e.2) in
            list_any_at (λ p. entails (seen es props) p q) numbers at.0 0 at.1 ((entails_decides (seen es props) (get_or numbers at.0 0) q).1 here)

    pub found_below : ((p : ℕ) → is_found numbers p ≡ true → p < props) → (q : ℕ) → is_found found q ≡ true → q < props
    found_below below q h =
        let e = (searched q).0 h in
        chain_below e.2.0 e.0 q (below e.0 e.1) e.2.1

    pub found_count : length found ≡ count_by (is_found found) (range_with_len 0 props) → length found ≡ count_by (any_entails (seen es props) numbers) (range_with_len 0 props)
    found_count once = once ∙ same_counts (range_with_len 0 props) (is_found found) (any_entails (seen es props) numbers) found_entailed

-- ---- a search for a mark
module _ (es : List (ℕ × ℕ)) (number : ℕ) (marks : Rows) where
  pub leads_start : LeadsTo es marks number (number ∷ []) 0
  leads_start = record { searches = searches_start es (number ∷ []); unmarked = λ k lt apart. absurd (omega arith) }

  module _ (now : List ℕ) (done : ℕ) (to : LeadsTo es marks number now done) where
    pub leads_step : (after : List ℕ) → done < length now → MeetsRights es now after (get_or now done 0) → ((get_or now done 0 ≡ number → ⊥) → get marks 0 (get_or now done 0) ≡ false) → LeadsTo es marks number after (done + 1)
    leads_step after lt meets here = record {
      searches = searches_step es (number ∷ []) now after done to.searches lt meets;
      unmarked = λ k low apart. by k low apart (cases_eq k done);
    }
      where
        old : (k : ℕ) → k < done + 1 → (get_or now k 0 ≡ number → ⊥) → (k ≡ done) ⊎ (k ≡ done → ⊥) → get marks 0 (get_or now k 0) ≡ false
        old k low apart (inl is) = subst (λ j. (get_or now j 0 ≡ number → ⊥) → get marks 0 (get_or now j 0) ≡ false) (sym is) here apart
        old k low apart (inr other) = to.unmarked k (omega arith) apart

        by : (k : ℕ) → k < done + 1 → (get_or after k 0 ≡ number → ⊥) → (k ≡ done) ⊎ (k ≡ done → ⊥) → get marks 0 (get_or after k 0) ≡ false
        by k low apart at =
            let same = meets.kept k (omega (arith, lt)) in
            subst (λ x. get marks 0 x ≡ false) (sym same) (old k low (λ is. apart (same ∙ is)) at)

    module _ (order : AreInOrder es marks.bits) (below : number < marks.bits) (lt : done < length now) where
      chained : chains.Entails no_links es number (get_or now done 0)
      chained =
          let e = to.searches.entailed (get_or now done 0) (has_at now done lt) in
          subst (λ p. chains.Entails no_links es p (get_or now done 0)) (sym (only_start number e.0 e.1)) e.2

      pub in_row : get_or now done 0 < marks.bits
      in_row = chain_below es marks.bits order chained.0 number (get_or now done 0) below chained.1

      pub leads_some : (get_or now done 0 ≡ number → ⊥) → get marks 0 (get_or now done 0) ≡ true → ChainToMarked es number marks
      leads_some apart mark = (get_or now done 0, in_row, apart, chained, mark)

    pub leads_none : length now ≤ done → ChainToMarked es number marks → ⊥
    leads_none all lead =
        let searched = searches_end es (number ∷ []) now done to.searches all in
        let k = at_has now lead.0 ((searched lead.0).1 (number, has_at (number ∷ []) 0 (omega arith), lead.3)) in
        let clear = to.unmarked k.0 (omega (arith, k.1, all)) (λ same. lead.2 (sym k.2 ∙ same)) in
        let mark = ap (get marks 0) k.2 ∙ lead.4 in cc

pub marked_seen : (es : List (ℕ × ℕ)) (props number : ℕ) (marks : Rows) → marks.bits ≡ props → ChainToMarked es number marks ↔ LeadsToMarked (seen es props) number marks
marked_seen es props number marks wide = (
  λ e. (e.0, omega (arith, e.1, wide), e.2, entails_seen es props number e.0 e.3, e.4),
  λ e. (e.0, omega (arith, e.1, wide), e.2, seen_entails es props number e.0 e.3, e.4),
)
