-- What several words entail, and how edges show it.
use Rattle.lis_store.proofs.Common.{◌≡◌, sym, ap, ap₂, ◌∙◌, ℕ, ◌||◌, List, ◌++◌, Option, Some, flat_map, word_of, Taxonomy, entails_decides, up, all_up, up_from_entails, among_set_of, Metadata, TellsLinks, AreSound, declared_of, axioms_of, flat_map-append, set_of, set_of_among, same_tests}
use Rattle.lis_taxonomy.specs.Taxonomy.{entails}
use Rattle.lis_store.specs.Adding.{is_one_of}
use Rattle.lis_kept.proofs.Entailed.{chain_named, leads_from_up}
use Rattle.lis_store.proofs.Naming.{one_of, of_one, one_of_both}

one_of_set : (words : List (List ℕ)) (o : Option (List ℕ)) → is_one_of (set_of words) o ≡ is_one_of words o
one_of_set words o =
    same_tests (is_one_of (set_of words) o) (is_one_of words o)
    (λ h. let found = one_of (set_of words) o h in of_one words o found.0 found.1 (among_set_of words found.0 found.2))
    (λ h. let found = one_of words o h in of_one (set_of words) o found.0 found.1 (set_of_among words found.0 found.2))

-- ---- what several words entail
module _ (declared : List (List ℕ)) (axioms : List (List ℕ × List ℕ)) (o : Option (List ℕ)) where
  pub ups_both : (some more : List (List ℕ)) → is_one_of (all_up declared axioms (some ++ more)) o ≡ (is_one_of (all_up declared axioms some) o || is_one_of (all_up declared axioms more) o)
  ups_both some more =
      let f = up declared axioms in
      one_of_set (flat_map f (some ++ more)) o
      ∙ (ap (λ ws. is_one_of ws o) (flat_map-append f some more)
      ∙ (one_of_both (flat_map f some) (flat_map f more) o
      ∙ ap₂ (λ a b. a || b) (sym (one_of_set (flat_map f some) o)) (sym (one_of_set (flat_map f more) o))))

module _ (k : Metadata) (sound : AreSound k) (t : Taxonomy) (tells : TellsLinks k t) where
  -- the edges show what a word entails
  pub entails_told : (n : ℕ) (p : List ℕ) → word_of k.dict n ≡ Some p → (m : ℕ) → entails t n m ≡ is_one_of (up (declared_of k) (axioms_of k) p) (word_of k.dict m)
  entails_told n p is m =
      same_tests (entails t n m) (is_one_of (up (declared_of k) (axioms_of k) p) (word_of k.dict m))
      (λ h.
      let leads = (entails_decides t n m).0 h in
      let named = chain_named k sound t tells leads.0 n m p is leads.1 in
      of_one (up (declared_of k) (axioms_of k) p) (word_of k.dict m) named.0 named.1 (up_from_entails (declared_of k) (axioms_of k) p named.0 (leads.0, named.2)))
      (λ h.
      let found = one_of (up (declared_of k) (axioms_of k) p) (word_of k.dict m) h in
      (entails_decides t n m).1 (leads_from_up k sound t tells n m p found.0 is found.1 found.2))
