-- What one more or one fewer axiom leaves of descriptions.
use Rattle.lis_kept.proofs.Common.{rules, ◌≡◌, ◌⊎◌, ℕ, not, Bool, true, false, cond, List, refl, sym, ap, ◌∙◌, subst, inl, inr, IsStrictlySortedBy, and_parts, not_from_false, IsStrictlySortedBy-filter, Among, among_filter, among_insert_key, insert_key_old, insert_key_new, same_sets, sorted_insert_key, has_word, File, up, same_pair, with_axiom, pair_exact, same_word_decides, among_from_has_word, both_ways, false_from_ne_true, filter_among, pair_order, has_word_from_among}
use Rattle.std.specs.List.{filter}
use Rattle.lis_model.specs.Sets.{with_words}
use Rattle.lis_model.specs.State.{pair_cmp, own_words, file_words}
use Rattle.lis_laws.proofs.Closures.{with_one_axiom}
use Rattle.lis_laws.proofs.Members.{with_words_old}

-- ---- an axiom from a word that a file does not have
pub one_unfelt : (declared : List (List ℕ)) (axioms : List (List ℕ × List ℕ)) (pair : List ℕ × List ℕ) (file : File) → has_word (file_words declared axioms file) pair.0 ≡ false
    → file_words declared (with_axiom axioms pair) file ≡ file_words declared axioms file
one_unfelt declared axioms pair file none = search (rules, with_one_axiom)

-- ---- an axiom that is removed
-- it is added again
pub axiom_back : (axioms : List (List ℕ × List ℕ)) (pair : List ℕ × List ℕ) → IsStrictlySortedBy pair_cmp axioms → Among axioms pair → with_axiom (filter (λ e. not (same_pair e pair)) axioms) pair ≡ axioms
axiom_back axioms pair sorted there =
    same_sets pair_cmp pair_order (with_axiom (filter (λ e. not (same_pair e pair)) axioms) pair) axioms
    (sorted_insert_key pair_cmp pair_order (filter (λ e. not (same_pair e pair)) axioms) pair (IsStrictlySortedBy-filter pair_cmp (λ e. not (same_pair e pair)) axioms sorted)) sorted
    (λ e m. to e (among_insert_key pair_cmp (filter (λ e. not (same_pair e pair)) axioms) pair e m)) (λ e m. from e m (same_pair e pair) refl)
  where
    to : (e : List ℕ × List ℕ) → (pair ≡ e) ⊎ Among (filter (λ e. not (same_pair e pair)) axioms) e → Among axioms e
    to e (inl same) = subst (λ (x : List ℕ × List ℕ). Among axioms x) same there
    to e (inr m) = (among_filter (λ e. not (same_pair e pair)) axioms e m).0

    from : (e : List ℕ × List ℕ) → Among axioms e → (b : Bool) → same_pair e pair ≡ b → Among (with_axiom (filter (λ e. not (same_pair e pair)) axioms) pair) e
    from e m b is = search (rules, and_parts, same_word_decides, insert_key_new, pair_exact, insert_key_old, filter_among, not_from_false)

-- a file that does not have its left word keeps its description
module _ (declared : List (List ℕ)) (axioms : List (List ℕ × List ℕ)) (pair : List ℕ × List ℕ) (file : File) (sorted : IsStrictlySortedBy pair_cmp axioms) (there : Among axioms pair) where
  abbrev less : List (List ℕ × List ℕ)
  less = filter (λ e. not (same_pair e pair)) axioms

  back : file_words declared (with_axiom less pair) file ≡ file_words declared axioms file
  back = ap (λ xs. file_words declared xs file) (axiom_back axioms pair sorted there)

  more : has_word (file_words declared less file) pair.0 ≡ true → has_word (file_words declared axioms file) pair.0 ≡ true
  more has =
      ap (λ ws. has_word ws pair.0)
      (sym back ∙ (with_one_axiom declared less pair (own_words declared file)
      ∙ ap (λ b. cond b (with_words (file_words declared less file) (up declared less pair.1)) (file_words declared less file)) has))
      ∙ has_word_from_among (with_words (file_words declared less file) (up declared less pair.1)) pair.0
      (with_words_old (file_words declared less file) (up declared less pair.1) pair.0 (among_from_has_word (file_words declared less file) pair.0 has))

  pub taken_unfelt : has_word (file_words declared axioms file) pair.0 ≡ false → file_words declared (filter (λ e. not (same_pair e pair)) axioms) file ≡ file_words declared axioms file
  taken_unfelt none = search (rules, one_unfelt, false_from_ne_true, both_ways, more, back)
