-- What a word with a number entails has a number too, and the files that have the word's number have that number.
use Rattle.lis_store.proofs.Common.{◌≡◌, ℕ, zero, suc, true, List, Some, ap, ◌∙◌, subst, Among, word_of, has, up, entails_from_up, Metadata, AreSound, declared_of, axioms_of, links, one_number, Chain}
use Rattle.lis_kept.proofs.Entailed.{link_numbered, chain_has_number}
use Rattle.lis_store.specs.Stored.{AreClosed}

module _ (k : Metadata) (sound : AreSound k) where
  pub up_has_number : (n : ℕ) (p q : List ℕ) → word_of k.dict n ≡ Some p → Among (up (declared_of k) (axioms_of k) p) q → (m : ℕ) × (word_of k.dict m ≡ Some q)
  up_has_number n p q is entailed = let chain = entails_from_up (declared_of k) (axioms_of k) p q entailed in chain_has_number k sound chain.0 n p q is chain.1

  -- a file that has a number has those of all words that its word entails
  closed_chain : AreClosed k → (slot len n : ℕ) (p q : List ℕ) → word_of k.dict n ≡ Some p → has k.ext n slot ≡ true → Chain (links (declared_of k)) (axioms_of k) len p q
      → (m : ℕ) × (word_of k.dict m ≡ Some q) × (has k.ext m slot ≡ true)
  closed_chain closed slot zero n p q is h same = (n, is ∙ ap Some same, h)
  closed_chain closed slot (suc len) n p q is h c =
      let link = link_numbered k sound n p c.0 is c.1 in
      closed_chain closed slot len link.number c.0 q link.named (closed slot n link.number h link.linked) c.2

  pub closed_up : AreClosed k → (slot n m : ℕ) (p q : List ℕ) → word_of k.dict n ≡ Some p → word_of k.dict m ≡ Some q → has k.ext n slot ≡ true
      → Among (up (declared_of k) (axioms_of k) p) q → has k.ext m slot ≡ true
  closed_up closed slot n m p q is_p is_q h entailed =
      let chain = entails_from_up (declared_of k) (axioms_of k) p q entailed in
      let found = closed_chain closed slot chain.0 n p q is_p h chain.1 in
      subst (λ j. has k.ext j slot ≡ true) (one_number k sound found.0 m q found.1 is_q) found.2
