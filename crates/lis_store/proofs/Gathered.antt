-- Words without numbers that are noted one after another, with their heads.
use Rattle.std.proofs.Common.{rules}
use Rattle.lis_store.proofs.Common.{◌≡◌, refl, sym, ap, ◌∙◌, subst, ℕ, ◌+◌, ◌*◌, ◌<◌, ◌≤◌, Bool, true, false, ◌&&◌, ◌||◌, cond, is_none, Option, Some, List, [], ◌∷◌, ◌++◌, length, take, get_or, arith, length-append, or-false, list_any-append, number_of, word_of, number_from_word, number_below, same_word, has_word, is_valued, head_bytes, same_word_decides, heads, Metadata, AreSound}
use Rattle.lis_model.proofs.NotedLemmas.{are_distinct-push}
use Rattle.lis_laws.proofs.Few.{heads_le}
use Rattle.lis_store.specs.Describing.{with_heads, Notes}
use Rattle.lis_store.proofs.Assigned.{flat_next}

module _ (k : Metadata) where
  pub numbered_below : AreSound k → (word : List ℕ) (n : ℕ) → word_of k.dict n ≡ Some word → n < k.limits.props
  numbered_below sound word n is = omega (arith, number_below k.dict sound.dict word n (number_from_word k.dict sound.dict word n is), sound.numbers)

  -- ---- no word, and more words
  pub notes_none : (fresh : List (List ℕ)) → Notes k [] fresh fresh
  notes_none fresh = search (rules, or-false)

  noted_both : (a b c d : Bool) → ((a || (b && d)) || (c && d)) ≡ (a || ((b || c) && d))
  noted_both a b c d = search (rules)

  pub notes_more : (more others : List (List ℕ)) (f g h : List (List ℕ)) → Notes k more f g → Notes k others g h → Notes k (more ++ others) f h
  notes_more more others f g h first next = record {
    few = omega (arith, first.few, next.few, length-append more others);
    once = λ apart. next.once (first.once apart);
    noted = λ w.
        let none = is_none (number_of k.dict w) in
        next.noted w
        ∙ (ap (λ b. b || (has_word others w && none)) (first.noted w)
        ∙ (noted_both (has_word f w) (has_word more w) (has_word others w) none
        ∙ ap (λ b. has_word f w || (b && none)) (sym (list_any-append (λ v. same_word v w) more others))));
  }

  -- ---- one word
  module _ (word : List ℕ) where
    -- if the other word is the same, it has the same number
    same_number : (w : List ℕ) (o : Option ℕ) → same_word word w ≡ true → number_of k.dict word ≡ o → number_of k.dict w ≡ o
    same_number w o same is = ap (number_of k.dict) (sym ((same_word_decides word w).0 same)) ∙ is

    pub notes_known : is_none (number_of k.dict word) ≡ false → (fresh : List (List ℕ)) → Notes k (word ∷ []) fresh fresh
    notes_known known fresh = record {
      few = omega arith;
      once = λ apart. apart;
      noted = λ w. by w (has_word fresh w) (same_word word w) refl;
    }
      where
        by : (w : List ℕ) (a b : Bool) → same_word word w ≡ b → a ≡ (a || ((b || false) && is_none (number_of k.dict w)))
        by w true b e = refl
        by w false true e = sym (ap (λ (o : Option ℕ). is_none o) (same_number w (number_of k.dict word) e refl) ∙ known)
        by w false false e = refl

    module _ (none : is_none (number_of k.dict word) ≡ true) (fresh : List (List ℕ)) where
      its_own : (w : List ℕ) → (same_word word w || false) ≡ ((same_word word w || false) && is_none (number_of k.dict w))
      its_own w = search (rules, same_number)

      pub notes_new : has_word fresh word ≡ false → Notes k (word ∷ []) fresh (fresh ++ word ∷ [])
      notes_new lacks = search (rules, length-append, are_distinct-push, list_any-append, its_own)

      pub notes_there : has_word fresh word ≡ true → Notes k (word ∷ []) fresh fresh
      notes_there has = search (rules, its_own, same_word_decides, or-false)

-- ---- words with their heads
pub headed : (word : List ℕ) → is_valued word ≡ true → heads word ≡ head_bytes word ∷ []
headed word valued = ap (λ b. cond b (head_bytes word ∷ []) []) valued

pub with_heads_few : (words : List (List ℕ)) → length (with_heads words) ≤ 2 * length words
with_heads_few [] = omega arith
with_heads_few (w ∷ words) = omega (arith, heads_le w, length-append (w ∷ heads w) (with_heads words), with_heads_few words)

-- a loop that notes words
pub notes_next : (k : Metadata) (words : List (List ℕ)) (i : ℕ) (word : List ℕ) → i < length words → word ≡ get_or words i word → (f g h : List (List ℕ))
    → Notes k (with_heads (take i words)) f g → Notes k (word ∷ heads word) g h → Notes k (with_heads (take (i + 1) words)) f h
notes_next k words i word lt is f g h before next =
    subst (λ ws. Notes k ws f h) (sym (flat_next (λ (w : List ℕ). w ∷ heads w) words i word lt is))
    (notes_more k (with_heads (take i words)) (word ∷ heads word) f g h before next)
