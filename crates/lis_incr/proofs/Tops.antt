-- A marked word that entails no other.
use Rattle.std.proofs.Common.{◌≡◌, ℕ, ◌<◌, Bool, true, false, not, ◌&&◌, List, map, IsTrue, ◌↔◌, refl, sym, ap, ◌∙◌, arith, eq-eqb}
use Rattle.std.specs.Bool.{one_answer}
use Rattle.std.specs.List.{list_any, Contains}
use Rattle.std.proofs.lemmas.Bool.{ne_eqb, and_parts, and_from}
use Rattle.lis_graph.proofs.Members.{among_from_contains, contains_from_among, among_from_any, any_from_among, among_map, map_among}
use Rattle.lis_words.specs.Words.{same_word}
use Rattle.lis_bits.specs.Rows.{Rows, get}
use Rattle.lis_model.specs.Table.{entails}
use Rattle.lis_taxonomy.specs.Taxonomy.{Taxonomy, LeadsToMarked, entails as taxonomy_entails}
use Rattle.lis_taxonomy.proofs.Laws.{entails_decides}
use Rattle.lis_eval.specs.View.{Seen, IsView, TellsEntailment, table_of}
use Rattle.lis_incr.specs.Marked.{AreMarked, is_top}
use Rattle.lis_incr.proofs.Marked.{marked_at, marked_only}

pub entailed_told : (v : Seen) (t : Taxonomy) → TellsEntailment v t → (w : List ℕ × ℕ) → Contains v.words w → (number : ℕ) → w.1 ≡ number → (x : List ℕ × ℕ) → Contains v.words x
    → taxonomy_entails t number x.1 ≡ entails (table_of v) w.0 x.0
entailed_told v t tells w there number numbered x here = ap (λ n. taxonomy_entails t n x.1) (sym numbered) ∙ tells.told w x there here

set_from : (b : Bool) → not b ≡ true → b ≡ false
set_from true e = absurd cc
set_from false e = refl

module _ (v : Seen) (kept : IsView v) (old : Rows) (test : List ℕ → Bool) (are : AreMarked v test old) (w : List ℕ × ℕ) (there : Contains v.words w) (number : ℕ) (numbered : w.1 ≡ number) where
  passes : get old 0 number ≡ test w.0
  passes = ap (get old 0) (sym numbered) ∙ marked_at v test kept old are w there

module _ (v : Seen) (kept : IsView v) (old : Rows) (t : Taxonomy) (tells : TellsEntailment v t) (test : List ℕ → Bool) (are : AreMarked v test old) (w : List ℕ × ℕ) (there : Contains v.words w) (number : ℕ) (numbered : w.1 ≡ number) where
  abbrev is_other : List ℕ → Bool
  is_other q = entails (table_of v) w.0 q && not (same_word q w.0) && test q

  told : (x : List ℕ × ℕ) → Contains v.words x → taxonomy_entails t number x.1 ≡ entails (table_of v) w.0 x.0
  told = entailed_told v t tells w there number numbered

  other_from : LeadsToMarked t number old → list_any is_other (map (λ (x : List ℕ × ℕ). x.0) v.words) ≡ true
  other_from lead =
      let x = marked_only v test old are lead.0 (omega (arith, lead.1, tells.props)) lead.4 in
      let entailed = sym (told x.0 x.1) ∙ (ap (taxonomy_entails t number) x.2 ∙ (entails_decides t number lead.0).1 lead.3) in
      let other = kept.apart x.0 w x.1 there ∙ ne_eqb x.0.1 w.1 (λ e. lead.2 (sym x.2 ∙ (e ∙ numbered))) in
      any_from_among is_other (map (λ (x : List ℕ × ℕ). x.0) v.words) x.0.0 (map_among (λ (x : List ℕ × ℕ). x.0) v.words x.0 (among_from_contains v.words x.0 x.1))
      (and_from (entails (table_of v) w.0 x.0.0 && not (same_word x.0.0 w.0)) (test x.0.0) (and_from (entails (table_of v) w.0 x.0.0) (not (same_word x.0.0 w.0)) entailed (ap not other)) x.3)

  from_other : list_any is_other (map (λ (x : List ℕ × ℕ). x.0) v.words) ≡ true → LeadsToMarked t number old
  from_other any =
      let q = among_from_any is_other (map (λ (x : List ℕ × ℕ). x.0) v.words) any in
      let x = among_map (λ (x : List ℕ × ℕ). x.0) v.words q.0 q.1 in
      let here = contains_from_among v.words x.0 x.1 in
      let parts = and_parts (entails (table_of v) w.0 q.0 && not (same_word q.0 w.0)) (test q.0) q.2 in
      let first = and_parts (entails (table_of v) w.0 q.0) (not (same_word q.0 w.0)) parts.0 in
      let lt = kept.numbers x.0 here in
      let apart = kept.apart x.0 w here there in
      let other : same_word x.0.0 w.0 ≡ false = ap (λ (word : List ℕ). same_word word w.0) x.2 ∙ set_from (same_word q.0 w.0) first.1 in
      let differ : x.0.1 ≡ number → ⊥ = λ e. let equal = eq-eqb x.0.1 w.1 (e ∙ sym numbered) in absurd cc in (
        x.0.1,
        omega (arith, lt, tells.props),
        differ,
        (entails_decides t number x.0.1).0 (told x.0 here ∙ (ap (entails (table_of v) w.0) x.2 ∙ first.0)),
        marked_at v test kept old are x.0 here ∙ (ap test x.2 ∙ parts.1),
      )

  pub top_is : get old 0 number ≡ true → (above : Bool) → IsTrue above ↔ LeadsToMarked t number old → not above ≡ is_top (table_of v) test w.0
  top_is was above is =
      let answer = one_answer above (list_any is_other (map (λ (x : List ℕ × ℕ). x.0) v.words)) is (from_other, other_from) in
      ap not answer ∙ rw (sym (passes v kept old test are w there number numbered) ∙ was)
