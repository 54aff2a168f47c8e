-- The own links of words, between words that keep their numbers.
use Rattle.lis_store.proofs.Common.{◌≡◌, refl, sym, ap₂, ◌∙◌, subst, ℕ, true, List, Option, Some, None, IsSome, both_ways, same_Some, Dict, IsDict, number_of, word_of, number_from_word, word_from_number, has_word, head_bytes, Head, Weaker, among_from_has_word, Metadata, is_own_link, AreSound, declared_of, some_word, some_number, declared_has_number, links, OwnLink}
use Rattle.lis_laws.proofs.Chains.{own_link}
use Rattle.lis_kept.proofs.OwnLinks.{own_to_none}

-- words that were there before
pub own_before : (declared : List (List ℕ)) (a b c d : Option (List ℕ)) → ((w : List ℕ) → a ≡ Some w → c ≡ Some w) → ((w : List ℕ) → b ≡ Some w → d ≡ Some w)
    → is_own_link declared a b ≡ true → is_own_link declared c d ≡ true
own_before declared None b c d first second h = absurd cc
own_before declared (Some w) None c d first second h = absurd cc
own_before declared (Some w) (Some v) c d first second h = ap₂ (is_own_link declared) (first w refl) (second v refl) ∙ h

-- With more words, a word that had a number has own links only to words that had one: its head, and declared tests.
module _ (p : Metadata) (sound : AreSound p) (d : Dict) (dict : IsDict d) (keeps : (n : ℕ) (word : List ℕ) → word_of p.dict n ≡ Some word → word_of d n ≡ Some word) where
  pub own_back : (a b : ℕ) → IsSome (word_of p.dict a) → is_own_link (declared_of p) (word_of d a) (word_of d b) ≡ true
      → is_own_link (declared_of p) (word_of p.dict a) (word_of p.dict b) ≡ true
  own_back a b some h = let word = some_word (word_of p.dict a) some in at word.0 word.1 (word_of d b) refl h
    where
      had : (w v : List ℕ) → word_of p.dict a ≡ Some w → OwnLink (declared_of p) w v → (n : ℕ) × (word_of p.dict n ≡ Some v)
      had w v is (Head valued same) =
          let number = some_number (number_of p.dict (head_bytes w)) (sound.heads a w is valued) in
          (number.0, subst (λ x. word_of p.dict number.0 ≡ Some x) same (word_from_number p.dict sound.dict (head_bytes w) number.0 number.1))
      had w v is (Weaker weaker) = declared_has_number p sound v weaker.to

      at : (w : List ℕ) → word_of p.dict a ≡ Some w → (o : Option (List ℕ)) → word_of d b ≡ o → is_own_link (declared_of p) (word_of d a) o ≡ true
          → is_own_link (declared_of p) (word_of p.dict a) (word_of p.dict b) ≡ true
      at w is None is_b linked = absurd (both_ways (is_own_link (declared_of p) (word_of d a) None) (own_to_none (declared_of p) (word_of d a)) linked)
      at w is (Some v) is_b linked =
          let here : has_word (links (declared_of p) w) v ≡ true = ap₂ (is_own_link (declared_of p)) (sym (keeps a w is)) refl ∙ linked in
          let number = had w v is (own_link (declared_of p) w v (among_from_has_word (links (declared_of p) w) v here)) in
          let same : number.0 ≡ b = same_Some number.0 b (sym (number_from_word d dict v number.0 (keeps number.0 v number.1)) ∙ number_from_word d dict v b is_b) in
          ap₂ (is_own_link (declared_of p)) is (subst (λ n. word_of p.dict n ≡ Some v) same number.1) ∙ here
