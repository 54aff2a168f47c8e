-- The edges give the links: each link between tests is a chain of edges from one to the next.
use Rattle.std.proofs.Common.{arith}
use Rattle.std.proofs.lemmas.Bool.{cases_Bool}
use Rattle.lis_kept.proofs.Common.{◌≡◌, ◌⊎◌, inl, inr, sym, ◌∙◌, ℕ, zero, suc, ◌<◌, ◌+◌, ◌||◌, true, false, Option, IsDict, or_cases, or_left, or_right, Taxonomy, has_edge, word_of}
use Rattle.lis_taxonomy.specs.Taxonomy.{Entails as Leads}
use Rattle.lis_words.specs.declared.test.Test.{Test}
use Rattle.lis_kept.specs.Metadata.{Metadata}
use Rattle.lis_kept.specs.Telling.{is_head_by}
use Rattle.lis_kept.specs.Links.{has_pair, HasEdges, TellsLinks}
use Rattle.lis_kept.specs.TestEdges.{declared_test, is_test_link, is_between, is_next_test}
use Rattle.lis_kept.proofs.Entailed.{leads_joined, edge_leads}
use Rattle.lis_kept.proofs.NextTests.{between, next_made}
use Rattle.lis_kept.proofs.TestLinks.{linked_by, edge_linked}
use Rattle.lis_kept.proofs.TestOrder.{apart_by, nearer_between}

module _ (k : Metadata) (dict : IsDict k.dict) (t : Taxonomy) (has : HasEdges k t) where
  abbrev test : ℕ → Option Test
  test = declared_test k.dict k.declared

  head_edge : (p q : ℕ) → is_head_by (word_of k.dict p) (word_of k.dict q) ≡ true → has_edge t p q ≡ true
  head_edge p q h =
      has.edges p q ∙ or_left (is_head_by (word_of k.dict p) (word_of k.dict q) || is_next_test k.dict k.declared p q) (has_pair k.axioms p q)
      (or_left (is_head_by (word_of k.dict p) (word_of k.dict q)) (is_next_test k.dict k.declared p q) h)

  next_edge : (p q : ℕ) → is_next_test k.dict k.declared p q ≡ true → has_edge t p q ≡ true
  next_edge p q h =
      has.edges p q ∙ or_left (is_head_by (word_of k.dict p) (word_of k.dict q) || is_next_test k.dict k.declared p q) (has_pair k.axioms p q)
      (or_right (is_head_by (word_of k.dict p) (word_of k.dict q)) (is_next_test k.dict k.declared p q) h)

  pair_edge : (p q : ℕ) → has_pair k.axioms p q ≡ true → has_edge t p q ≡ true
  pair_edge p q h = has.edges p q ∙ or_right (is_head_by (word_of k.dict p) (word_of k.dict q) || is_next_test k.dict k.declared p q) (has_pair k.axioms p q) h

  -- a test leads to each weaker one, since nearer tests lead to each other: both are nearer to one between them
  step : (most p q : ℕ) → ((x y : ℕ) → apart_by (test x) (test y) < most → is_test_link k.dict k.declared x y ≡ true → Leads t x y) → apart_by (test p) (test q) < suc most
      → is_test_link k.dict k.declared p q ≡ true → (is_between k.dict k.declared p q ≡ true) ⊎ (is_between k.dict k.declared p q ≡ false) → Leads t p q
  step most p q nearer_leads far link (inl some) =
      let mid = between k.dict dict k.declared p q some in
      let nearer = nearer_between (test q) (test mid.0) (test p) mid.2 mid.1 in
      leads_joined t p mid.0 q (nearer_leads p mid.0 (omega (arith, far, nearer.0)) mid.1) (nearer_leads mid.0 q (omega (arith, far, nearer.1)) mid.2)
  step most p q nearer_leads far link (inr none) = edge_leads t p q (next_edge p q (next_made k.dict dict k.declared p q link none))

  test_leads : (most p q : ℕ) → apart_by (test p) (test q) < most → is_test_link k.dict k.declared p q ≡ true → Leads t p q
  test_leads zero p q far link = absurd (omega (arith, far))
  test_leads (suc most) p q far link = step most p q (test_leads most) far link (cases_Bool (is_between k.dict k.declared p q))

  pub tells_links : TellsLinks k t
  tells_links = record {
    props = has.props;
    linked = λ p q edge. edge_linked k dict p q (sym (has.edges p q) ∙ edge);
    leads = λ p q linked.
        by p q (or_cases (is_head_by (word_of k.dict p) (word_of k.dict q) || is_test_link k.dict k.declared p q) (has_pair k.axioms p q) (sym (linked_by k dict p q) ∙ linked));
    heads = head_edge;
    pairs = pair_edge;
  }
    where
      own : (p q : ℕ) → (is_head_by (word_of k.dict p) (word_of k.dict q) ≡ true) ⊎ (is_test_link k.dict k.declared p q ≡ true) → Leads t p q
      own p q (inl head) = edge_leads t p q (head_edge p q head)
      own p q (inr link) = test_leads (apart_by (test p) (test q) + 1) p q (omega arith) link

      by : (p q : ℕ) → ((is_head_by (word_of k.dict p) (word_of k.dict q) || is_test_link k.dict k.declared p q) ≡ true) ⊎ (has_pair k.axioms p q ≡ true) → Leads t p q
      by p q (inl h) = own p q (or_cases (is_head_by (word_of k.dict p) (word_of k.dict q)) (is_test_link k.dict k.declared p q) h)
      by p q (inr pair) = edge_leads t p q (pair_edge p q pair)
