-- What all words of a file have in common, shown link by link.
use Rattle.std.proofs.Common.{◌⊎◌, ℕ, zero, suc, List, subst, inl, inr}
use Rattle.lis_graph.specs.Graph.{Chain}
use Rattle.lis_graph.proofs.Members.{Among}
use Rattle.lis_model.specs.State.{File, links, up, own_words, file_words, all_up}
use Rattle.lis_laws.proofs.Chains.{Pairs, OwnLink, links_head, links_weaker, up_own, up_edge, entails_from_up}
use Rattle.lis_laws.proofs.Chains.OwnLink.{Head, Weaker}
use Rattle.lis_laws.proofs.Closures.{entailing, all_up_closed}
use Rattle.lis_laws.proofs.Leads.{link_cases}
use Rattle.lis_laws.proofs.Sources.{OwnWord, own_word}

abbrev pub OneLink : List (List ℕ) → Pairs → List ℕ → List ℕ → Type 0
OneLink declared axioms p r = OwnLink declared p r ⊎ Among axioms (p, r)

pub linked_up : (declared : List (List ℕ)) (axioms : Pairs) (p r : List ℕ) → OneLink declared axioms p r → Among (up declared axioms p) r
linked_up declared axioms p r (inl (Head valued is)) = up_own declared axioms p r (subst (λ (k : List ℕ). Among (links declared p) k) is (links_head declared p valued))
linked_up declared axioms p r (inl (Weaker w)) = up_own declared axioms p r (links_weaker declared p r w)
linked_up declared axioms p r (inr edge) = up_edge declared axioms p r edge

pub described_link : (declared : List (List ℕ)) (axioms : Pairs) (file : File) (p r : List ℕ) → Among (file_words declared axioms file) p → OneLink declared axioms p r → Among (file_words declared axioms file) r
described_link declared axioms file p r has link = all_up_closed declared axioms (own_words declared file) p r has (linked_up declared axioms p r link)

module _ (declared : List (List ℕ)) (axioms : Pairs) (P : List ℕ → Type 0) (link : (p r : List ℕ) → P p → OneLink declared axioms p r → P r) where
  chain_keeps : (n : ℕ) (p q : List ℕ) → P p → Chain (links declared) axioms n p q → P q
  chain_keeps zero p q at c = subst P c at
  chain_keeps (suc n) p q at c = chain_keeps n c.0 q (link p c.0 at (link_cases declared axioms p c.0 c.1)) c.2

  -- what holds of some words, and is kept by every link, holds of all that they entail
  pub all_up_keeps : (words : List (List ℕ)) → ((w : List ℕ) → Among words w → P w) → (w : List ℕ) → Among (all_up declared axioms words) w → P w
  all_up_keeps words own w has =
      let source = entailing declared axioms words w has in
      let chain = entails_from_up declared axioms source.0 w source.2 in
      chain_keeps chain.0 source.0 w (own source.0 source.1) chain.1

  -- what holds of each of a file's own words holds of all its words
  pub described_keeps : (file : File) → ((w : List ℕ) → OwnWord declared file w → P w) → (w : List ℕ) → Among (file_words declared axioms file) w → P w
  described_keeps file own = all_up_keeps (own_words declared file) (λ w m. own w (own_word declared file w m))
