-- The index of the word that has a number.
use Rattle.std.proofs.Common.{◌≡◌, ℕ, zero, suc, ◌<◌, ◌==◌, Some, None, List, [], ◌∷◌, length, get_or, refl, sym, ap, subst, ◌∙◌, arith, eq-eqb}
use Rattle.std.specs.declared.cmp.Ordering.TheVariants.{Less}
use Rattle.std.specs.List.{position_or_len, HoldsAt}
use Rattle.std.proofs.lemmas.Bool.{ne_eqb, lt-ltb, le-ltb}
use Rattle.std.proofs.lemmas.List.Sums.{position_or_len_is}
use Rattle.lis_words.specs.Words.{word_cmp}
use Rattle.lis_dict.specs.Dict.{Dict, IsDict, word_of, place_of}
use Rattle.lis_dict.proofs.Entries.{DictEntry, Ordered, ordered_from_rising, apart_from_distinct, below_none, unique_word, unique_number}
use Rattle.lis_graph.proofs.Members.{among_at}
use Rattle.lis_dict.proofs.Laws.{among_from_word, free_number}

rises : (es : List DictEntry) → Ordered es → (i j : ℕ) (none : DictEntry) → i < j → j < length es → word_cmp (get_or es i none).0 (get_or es j none).0 ≡ Less
rises [] h i j none before within = absurd (omega (arith, within))
rises (e ∷ es) h i zero none before within = absurd (omega (arith, before))
rises (e ∷ es) h zero (suc j) none before within = h.0 (get_or es j none) (among_at es j none (omega (arith, within)))
rises (e ∷ es) h (suc i) (suc j) none before within = rises es h.1 i j none (omega (arith, before)) (omega (arith, within))

blank : DictEntry
blank = ([], 0)

module _ (d : Dict) (number : ℕ) where
  -- a number without a word
  pub no_place : word_of d number ≡ None → place_of d number ≡ None
  no_place free =
      let past = position_or_len_is (λ (e : DictEntry). e.1 == number) d.entries (length d.entries) blank (omega arith)
      (λ j lt. ne_eqb (get_or d.entries j blank).1 number (free_number d number free (get_or d.entries j blank) (among_at d.entries j blank lt))) (λ lt. absurd (omega (arith, lt))) in
      rw (past, le-ltb (length d.entries) (length d.entries) (omega arith)) refl

  -- where the word of the number is
  pub placed : IsDict d → (word : List ℕ) → word_of d number ≡ Some word → (k : ℕ) → k < length d.entries → HoldsAt (λ (e : DictEntry). e.0 ≡ word) d.entries k → place_of d number ≡ Some k
  placed kept word there k within at = rw (first, lt-ltb k (length d.entries) within) refl
    where
      entry : ℕ → DictEntry
      entry j = get_or d.entries j blank

      ordered : Ordered d.entries
      ordered = ordered_from_rising d.entries kept.rising

      own : (word, number) ≡ entry k
      own = unique_word d.entries ordered (word, number) (entry k) (among_from_word d word number there) (among_at d.entries k blank within) (sym (at blank))

      before : (j : ℕ) → j < k → (entry j).1 ≡ number → ⊥
      before j lt same =
          let it = unique_number d.entries (apart_from_distinct d.entries kept.apart) (entry j) (word, number) (among_at d.entries j blank (omega (arith, lt, within))) (among_from_word d word number there) same ∙ own in
          let rise = rises d.entries ordered j k blank lt within in
          below_none (entry k).0 (subst (λ (e : DictEntry). word_cmp e.0 (entry k).0 ≡ Less) it rise)

      first : position_or_len (λ (e : DictEntry). e.1 == number) d.entries ≡ k
      first = position_or_len_is (λ (e : DictEntry). e.1 == number) d.entries k blank (omega (arith, within))
          (λ j lt. ne_eqb (entry j).1 number (before j lt)) (λ lt. eq-eqb (entry k).1 number (ap (λ (e : DictEntry). e.1) (sym own)))
