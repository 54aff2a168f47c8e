-- Chains of links between words that have numbers are chains of edges between their numbers.
use Rattle.std.proofs.Common.{eq-eqb}
use Rattle.lis_kept.proofs.Common.{rules, ◌≡◌, ◌⊎◌, ℕ, zero, suc, ◌+◌, ◌==◌, true, List, Option, Some, None, refl, sym, ap, ◌∙◌, subst, inl, inr, or_cases, same_Some, Chain, Among, among_from_contains, contains_from_among, among_from_any, word_of, number_of, word_from_number, Taxonomy, no_links, has_edge, Pair, head_bytes, has_word, up, among_from_has_word, OwnLink, own_link, Head, Weaker, and_from, or_left, or_right, any_from_among, has_word_from_among, same_tests}
use Rattle.std.specs.Ordering.{eq_by_cmp}
use Rattle.lis_graph.specs.Graph.{Linked}
use Rattle.lis_graph.proofs.Graph.{chain_append}
use Rattle.lis_taxonomy.specs.Taxonomy.{pair_cmp, Entails as Leads, entails as leads}
use Rattle.lis_taxonomy.proofs.Laws.{entails_decides}
use Rattle.lis_taxonomy.proofs.Seen.{pair_decides}
use Rattle.lis_model.specs.State.{links}
use Rattle.lis_laws.proofs.Chains.{up_from_entails, entails_from_up}
use Rattle.lis_kept.specs.Metadata.{Metadata}
use Rattle.lis_kept.specs.Sound.{AreSound}
use Rattle.lis_kept.specs.Telling.{declared_of, axioms_of}
use Rattle.lis_kept.specs.Links.{is_pair, has_pair, is_own_link, is_linked, TellsLinks}
use Rattle.lis_kept.proofs.Formed.{some_word}
use Rattle.lis_kept.proofs.OwnLinks.{pair_slot}
use Rattle.lis_kept.proofs.Known.{some_number, among_place, one_number, declared_has_number, axiom_among, among_axiom}
use Rattle.std.specs.FinSet as set

-- ---- the edges of a taxonomy
pub edge_among : (t : Taxonomy) (p q : ℕ) → has_edge t p q ≡ true → Among (set.items t.edges) (p, q)
edge_among t p q h =
    let found = among_from_any (eq_by_cmp pair_cmp (p, q)) (set.items t.edges) (sym (set.contains-items t.edges (p, q)) ∙ h) in
    subst (λ (e : ℕ × ℕ). Among (set.items t.edges) e) (sym ((pair_decides (p, q) found.0).0 found.2)) found.1

among_edge : (t : Taxonomy) (p q : ℕ) → Among (set.items t.edges) (p, q) → has_edge t p q ≡ true
among_edge t p q m = set.contains-items t.edges (p, q) ∙ any_from_among (eq_by_cmp pair_cmp (p, q)) (set.items t.edges) (p, q) m ((pair_decides (p, q) (p, q)).1 refl)

pub edge_of : (t : Taxonomy) (p q : ℕ) → Linked no_links (set.items t.edges) p q → has_edge t p q ≡ true
edge_of t p q h1 = search (rules, among_from_contains, among_edge)

pub leads_joined : (t : Taxonomy) (p q r : ℕ) → Leads t p q → Leads t q r → Leads t p r
leads_joined t p q r first rest = (first.0 + rest.0, chain_append no_links (set.items t.edges) first.0 rest.0 p q r first.1 rest.1)

-- an edge is a chain
pub edge_leads : (t : Taxonomy) (p q : ℕ) → has_edge t p q ≡ true → Leads t p q
edge_leads t p q edge = (1, (q, inr (contains_from_among (set.items t.edges) (p, q) (edge_among t p q edge)), refl))

-- ---- links between words, and links between their numbers
-- a number whose word the number before it links to
pub record NumberedLink (k : Metadata) (n : ℕ) (r : List ℕ) : Type 0 where
  pub number : ℕ
  pub named : word_of k.dict number ≡ Some r
  pub linked : is_linked k n number ≡ true

module _ (k : Metadata) (sound : AreSound k) where
  -- a link between words, by its definition
  abbrev WordLink : List ℕ → List ℕ → Type 0
  WordLink p r = Linked (links (declared_of k)) (axioms_of k) p r

  pub link_numbered : (n : ℕ) (p r : List ℕ) → word_of k.dict n ≡ Some p → WordLink p r → NumberedLink k n r
  link_numbered n p r is (inl own) = by (own_link (declared_of k) p r m)
    where
      m : Among (links (declared_of k) p) r
      m = among_from_contains (links (declared_of k) p) r own

      at : (number : ℕ) → word_of k.dict number ≡ Some r → NumberedLink k n r
      at number named = search (rules, or_left, has_word_from_among, m)

      by : OwnLink (declared_of k) p r → NumberedLink k n r
      by (Head valued same) =
          let number = some_number (number_of k.dict (head_bytes p)) (sound.heads n p is valued) in
          at number.0 (word_from_number k.dict sound.dict (head_bytes p) number.0 number.1 ∙ ap Some same)
      by (Weaker weaker) = let number = declared_has_number k sound r weaker.to in at number.0 number.1
  link_numbered n p r is (inr edge) =
      let found = among_axiom k sound (p, r) (among_from_contains (axioms_of k) (p, r) edge) in
      record {
        number = found.2;
        named = found.5;
        linked = or_right (is_own_link (declared_of k) (word_of k.dict n) (word_of k.dict found.2)) (has_pair k.axioms n found.2)
            (any_from_among (is_pair n found.2) k.axioms (Pair found.1 found.2) (among_place k.axioms found.0 (Pair found.1 found.2) found.3)
            (and_from (found.1 == n) (found.2 == found.2) (eq-eqb found.1 n (one_number k sound found.1 n p found.4 is)) (eq-eqb found.2 found.2 refl)));
      }

  pub link_named : (n m : ℕ) (p : List ℕ) → word_of k.dict n ≡ Some p → is_linked k n m ≡ true → (r : List ℕ) × (word_of k.dict m ≡ Some r) × WordLink p r
  link_named n m p is linked = by (or_cases (is_own_link (declared_of k) (word_of k.dict n) (word_of k.dict m)) (has_pair k.axioms n m) linked)
    where
      own : (o : Option (List ℕ)) → word_of k.dict m ≡ o → is_own_link (declared_of k) (Some p) o ≡ true → (r : List ℕ) × (word_of k.dict m ≡ Some r) × WordLink p r
      own None named h = absurd cc
      own (Some r) named h = (r, named, inl (contains_from_among (links (declared_of k) p) r (among_from_has_word (links (declared_of k) p) r h)))

      by : (is_own_link (declared_of k) (word_of k.dict n) (word_of k.dict m) ≡ true) ⊎ (has_pair k.axioms n m ≡ true) → (r : List ℕ) × (word_of k.dict m ≡ Some r) × WordLink p r
      by (inl h) = own (word_of k.dict m) refl (ap (λ o. is_own_link (declared_of k) o (word_of k.dict m)) (sym is) ∙ h)
      by (inr h) =
          let at = pair_slot k.axioms n m h in
          let right = some_word (word_of k.dict m) (sound.axioms at.0 n m at.1).right in
          (right.0, right.1, inr (contains_from_among (axioms_of k) (p, right.0) (axiom_among k sound at.0 n m p right.0 at.1 is right.1)))

  -- the end of a chain from a word with a number has one
  pub chain_has_number : (len n : ℕ) (p q : List ℕ) → word_of k.dict n ≡ Some p → Chain (links (declared_of k)) (axioms_of k) len p q → (m : ℕ) × (word_of k.dict m ≡ Some q)
  chain_has_number zero n p q is same = (n, is ∙ ap Some same)
  chain_has_number (suc len) n p q is c = let link = link_numbered n p c.0 is c.1 in chain_has_number len link.number c.0 q link.named c.2

  -- ---- chains
  module _ (t : Taxonomy) (tells : TellsLinks k t) where
    pub leads_numbered : (len n : ℕ) (p q : List ℕ) → word_of k.dict n ≡ Some p → Chain (links (declared_of k)) (axioms_of k) len p q
        → (m : ℕ) × (word_of k.dict m ≡ Some q) × Leads t n m
    leads_numbered zero n p q is same = (n, is ∙ ap Some same, (zero, refl))
    leads_numbered (suc len) n p q is c =
        let link = link_numbered n p c.0 is c.1 in
        let rest = leads_numbered len link.number c.0 q link.named c.2 in
        (rest.0, rest.1, leads_joined t n link.number rest.0 (tells.leads n link.number link.linked) rest.2)

    pub chain_named : (len n m : ℕ) (p : List ℕ) → word_of k.dict n ≡ Some p → Chain no_links (set.items t.edges) len n m
        → (q : List ℕ) × (word_of k.dict m ≡ Some q) × Chain (links (declared_of k)) (axioms_of k) len p q
    chain_named zero n m p is same = (p, ap (word_of k.dict) (sym same) ∙ is, refl)
    chain_named (suc len) n m p is c =
        let link = link_named n c.0 p is (tells.linked n c.0 (edge_of t n c.0 c.1)) in
        let rest = chain_named len c.0 m link.0 link.1 c.2 in
        (rest.0, rest.1, (link.0, link.2, rest.2))

    -- a number leads to a number if the word of the one entails the word of the other
    pub leads_from_up : (n m : ℕ) (p q : List ℕ) → word_of k.dict n ≡ Some p → word_of k.dict m ≡ Some q → Among (up (declared_of k) (axioms_of k) p) q → Leads t n m
    leads_from_up n m p q is_p is_q h =
        let chain = entails_from_up (declared_of k) (axioms_of k) p q h in
        let numbered = leads_numbered chain.0 n p q is_p chain.1 in
        subst (λ j. Leads t n j) (one_number k sound numbered.0 m q numbered.1 is_q) numbered.2

    pub up_from_leads : (n m : ℕ) (p q : List ℕ) → word_of k.dict n ≡ Some p → word_of k.dict m ≡ Some q → Leads t n m → Among (up (declared_of k) (axioms_of k) p) q
    up_from_leads n m p q is_p is_q leads =
        let named = chain_named leads.0 n m p is_p leads.1 in
        let same : named.0 ≡ q = same_Some named.0 q (sym named.1 ∙ is_q) in
        subst (λ w. Among (up (declared_of k) (axioms_of k) p) w) same (up_from_entails (declared_of k) (axioms_of k) p named.0 (leads.0, named.2))

    -- the tests of numbers and of words give the same
    pub leads_told : (n m : ℕ) (p q : List ℕ) → word_of k.dict n ≡ Some p → word_of k.dict m ≡ Some q → leads t n m ≡ has_word (up (declared_of k) (axioms_of k) p) q
    leads_told n m p q is_p is_q =
        same_tests (leads t n m) (has_word (up (declared_of k) (axioms_of k) p) q)
        (λ h. has_word_from_among (up (declared_of k) (axioms_of k) p) q (up_from_leads n m p q is_p is_q ((entails_decides t n m).0 h)))
        (λ h. (entails_decides t n m).1 (leads_from_up n m p q is_p is_q (among_from_has_word (up (declared_of k) (axioms_of k) p) q h)))
