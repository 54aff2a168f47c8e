-- Tests are between the first of their signs and a text after the last one.
use Rattle.std.proofs.Common.{◌≡◌, ℕ, ◌<◌, ◌≤◌, ◌&&◌, Bool, true, false, cond, Some, None, List, [], ◌∷◌, ◌++◌, length, take, drop, codes, get_or, refl, ap, sym, subst, ◌∙◌, arith}
use Rattle.std.specs.declared.cmp.Ordering.{Ordering}
use Rattle.std.specs.declared.cmp.Ordering.TheVariants.{Less, Greater}
use Rattle.std.specs.Cmp.Lexicographic.{same_text}
use Rattle.std.specs.List.{slice_get}
use Rattle.std.proofs.lemmas.List.{take-append-drop}
use Rattle.std.proofs.lemmas.Option.{slice_get_within, get_or_from_slice_get}
use Rattle.lis_words.specs.Words.{word_cmp, same_word, is_number, count_of, number_behind, test_by, test_of}
use Rattle.lis_dict.proofs.Entries.{DictEntry}
use Rattle.lis_dict.proofs.Places.{IsGap}

-- a word that compares otherwise than all that begin with the sign
unsigned : (sign word key : List ℕ) (r : Ordering) → ((rest : List ℕ) → word_cmp (sign ++ rest) key ≡ r → ⊥) → word_cmp word key ≡ r → number_behind sign word ≡ None
unsigned sign word key r other is = by (same_word (take (length sign) word) sign) refl
  where
    behind : List ℕ
    behind = drop (length sign) word

    by : (b : Bool) → same_word (take (length sign) word) sign ≡ b → cond (b && is_number behind) (Some (count_of behind)) None ≡ None
    by false e = refl
    by true e =
        let spelled = sym (take-append-drop (length sign) word) ∙ ap (λ xs. xs ++ behind) (same_text (take (length sign) word) sign (sym e)) in
        absurd (other behind (ap (λ w. word_cmp w key) (sym spelled) ∙ is))

no_test : (word key : List ℕ) (r : Ordering) → ((rest : List ℕ) → word_cmp (codes "size>=" ++ rest) key ≡ r → ⊥) → ((rest : List ℕ) → word_cmp (codes "size<" ++ rest) key ≡ r → ⊥)
    → word_cmp word key ≡ r → test_of word ≡ None
no_test word key r least below is =
    ap (λ o. test_by o (number_behind (codes "size<") word)) (unsigned (codes "size>=") word key r least is)
    ∙ ap (test_by None) (unsigned (codes "size<") word key r below is)

none_before : (word : List ℕ) → word_cmp word (codes "size<") ≡ Less → test_of word ≡ None
none_before word = no_test word (codes "size<") Less (λ rest e. cc) below
  where
    below : (rest : List ℕ) → word_cmp (codes "size<" ++ rest) (codes "size<") ≡ Less → ⊥
    below [] e = cc
    below (b ∷ rest) e = cc

none_behind : (word : List ℕ) → word_cmp word (codes "size?") ≡ Greater → test_of word ≡ None
none_behind word = no_test word (codes "size?") Greater (λ rest e. cc) (λ rest e. cc)

module _ (es : List DictEntry) (k : ℕ) (e : DictEntry) (at : slice_get es k ≡ Some e) where
  there : get_or es k e ≡ e
  there = get_or_from_slice_get es k e e at

  pub untested_before : (place : ℕ) → IsGap es (codes "size<") place → k < place → test_of e.0 ≡ None
  untested_before place gap lt = none_before e.0 (subst (λ (x : DictEntry). word_cmp x.0 (codes "size<") ≡ Less) there (gap.0 k e (omega arith) lt))

  pub untested_behind : (place : ℕ) → IsGap es (codes "size?") place → place ≤ k → test_of e.0 ≡ None
  untested_behind place gap le = none_behind e.0 (subst (λ (x : DictEntry). word_cmp x.0 (codes "size?") ≡ Greater) there (gap.1 k e le (slice_get_within es k e at)))
