-- What a search finds of words: their numbers, and, once it is closed, those of all that they entail.
use Rattle.lis_store.proofs.Common.{◌≡◌, ◌⊎◌, refl, sym, ap, ◌∙◌, subst, inl, inr, ℕ, zero, suc, ◌+◌, ◌<◌, ◌≤◌, Bool, true, false, cond, ◌||◌, is_some, Option, Some, None, List, [], ◌∷◌, ◌++◌, length, take, get_or, arith, or-false, take_more, flat_map, range_with_len, count_by, eq-eqb, eqb-true, both_ways, false_from_ne_true, none-some, Among, among_append, among_left, among_right, among_from_any, any_from_among, among_from_contains, among_flat_map, flat_map_among, number_of, word_of, word_from_number, number_from_word, is_valued, head_bytes, heads, up, all_up, met_tests, links, Chain, OwnLink, Head, Weaker, up_self, up_trans, entails_from_up, up_from_entails, head_not_valued, among_heads, entailing, entailed_in, all_up_closed, same_tests, Metadata, AreSound, TellsLinks, declared_of, axioms_of, Taxonomy, named_below, few_properties, one_number, declared_has_number, among_axiom, numbers_same, numbers_where}
use Rattle.std.specs.Prelude.{nat_eq}
use Rattle.lis_graph.specs.Graph.{Linked}
use Rattle.lis_taxonomy.specs.Search.{AreBelow, is_found, met}
use Rattle.lis_taxonomy.specs.Taxonomy.{entails, any_entails}
use Rattle.lis_taxonomy.proofs.Searches.{met_found}
use Rattle.lis_laws.proofs.Chains.{heads_of_valued, own_link, links_head, up_own}
use Rattle.lis_store.specs.Adding.{is_one_of, numbers_named}
use Rattle.lis_store.specs.Describing.{with_heads}
use Rattle.lis_store.specs.Finding.{FindsWords, FindsAll}
use Rattle.lis_store.proofs.Assigned.{flat_next}
use Rattle.lis_store.proofs.Entailed.{entails_told}
use Rattle.lis_store.proofs.MetTests.{met_numbered}
use Rattle.lis_store.proofs.Naming.{one_of, of_one, one_of_none, one_of_both, named_few}
use Rattle.lis_store.proofs.Widened.{where_counted}

-- ---- the numbers of words
module _ (k : Metadata) where
  pub finds_none : (old : List ℕ) → FindsWords k [] old old
  finds_none old n = sym (ap (λ b. is_found old n || b) (one_of_none (word_of k.dict n)) ∙ or-false (is_found old n))

  or_three : (a b c : Bool) → ((a || b) || c) ≡ (a || (b || c))
  or_three true b c = refl
  or_three false b c = refl

  pub finds_both : (some more : List (List ℕ)) (old mid new : List ℕ) → FindsWords k some old mid → FindsWords k more mid new → FindsWords k (some ++ more) old new
  finds_both some more old mid new first second n =
      let o = word_of k.dict n in
      second n
      ∙ (ap (λ b. b || is_one_of more o) (first n)
      ∙ (or_three (is_found old n) (is_one_of some o) (is_one_of more o) ∙ ap (λ b. is_found old n || b) (sym (one_of_both some more o))))

  -- a loop over words, of which each brings some
  pub finds_next : (brings : List ℕ → List (List ℕ)) (words : List (List ℕ)) (i : ℕ) (word : List ℕ) → i < length words → word ≡ get_or words i word → (old mid new : List ℕ)
      → FindsWords k (flat_map brings (take i words)) old mid → FindsWords k (brings word) mid new → FindsWords k (flat_map brings (take (i + 1) words)) old new
  finds_next brings words i word lt is old mid new before next =
      subst (λ ws. FindsWords k ws old new) (sym (flat_next brings words i word lt is)) (finds_both (flat_map brings (take i words)) (brings word) old mid new before next)

  pub finds_more : (words : List (List ℕ)) (i : ℕ) (word : List ℕ) → i < length words → word ≡ get_or words i word → (old mid new : List ℕ)
      → FindsWords k (take i words) old mid → FindsWords k (word ∷ []) mid new → FindsWords k (take (i + 1) words) old new
  finds_more words i word lt is old mid new before next =
      let more = take_more words i word lt ∙ ap (λ (w : List ℕ). take i words ++ w ∷ []) (sym is) in
      subst (λ ws. FindsWords k ws old new) (sym more) (finds_both (take i words) (word ∷ []) old mid new before next)

  module _ (sound : AreSound k) (word : List ℕ) (old : List ℕ) where
    -- a word that has a number
    module _ (number : ℕ) (numbered : number_of k.dict word ≡ Some number) where
      there : word_of k.dict number ≡ Some word
      there = word_from_number k.dict sound.dict word number numbered

      pub number_within : number < k.limits.props
      number_within = named_below k sound number (ap (λ (o : Option (List ℕ)). is_some o) there)

      pub number_few : number < 1048576
      number_few = omega (arith, number_within, few_properties k.limits sound.range)

      its_number : (n : ℕ) → nat_eq number n ≡ is_one_of (word ∷ []) (word_of k.dict n)
      its_number n =
          same_tests (nat_eq number n) (is_one_of (word ∷ []) (word_of k.dict n))
          (λ h. of_one (word ∷ []) (word_of k.dict n) word (ap (word_of k.dict) (sym (eqb-true number n h)) ∙ there) (inl refl))
          (λ h. from (one_of (word ∷ []) (word_of k.dict n) h))
        where
          from : (other : List ℕ) × (word_of k.dict n ≡ Some other) × Among (word ∷ []) other → nat_eq number n ≡ true
          from found = elim found.2 [ inl same ↦ eq-eqb number n (one_number k sound number n word there (found.1 ∙ ap Some (sym same))) | inr none ↦ absurd none ]

      pub finds_known : FindsWords k (word ∷ []) old (met old number)
      finds_known n = met_found old number n ∙ ap (λ b. is_found old n || b) (its_number n)

    -- and one that has none
    pub finds_unknown : number_of k.dict word ≡ None → FindsWords k (word ∷ []) old old
    finds_unknown new n =
        sym (ap (λ b. is_found old n || b) (false_from_ne_true (is_one_of (word ∷ []) (word_of k.dict n)) (λ h. not_here (one_of (word ∷ []) (word_of k.dict n) h)))
        ∙ or-false (is_found old n))
      where
        not_here : (other : List ℕ) × (word_of k.dict n ≡ Some other) × Among (word ∷ []) other → ⊥
        not_here found = elim found.2 [ inl same ↦ none-some n (sym new ∙ number_from_word k.dict sound.dict word n (found.1 ∙ ap Some (sym same))) | inr none ↦ absurd none ]

pub headless : (word : List ℕ) → (is_valued word ≡ true → ⊥) → heads word ≡ []
headless word not_valued = ap (λ b. cond b (head_bytes word ∷ []) []) (false_from_ne_true (is_valued word) not_valued)

module _ (k : Metadata) (sound : AreSound k) where
  -- ---- just the numbers of words are found
  module _ (words : List (List ℕ)) (found : List ℕ) (are : (n : ℕ) → is_found found n ≡ is_one_of words (word_of k.dict n)) where
    pub named_within : (n : ℕ) → is_found found n ≡ true → n < k.limits.props
    named_within n h = named_below k sound n (ap (λ (o : Option (List ℕ)). is_some o) (one_of words (word_of k.dict n) (sym (are n) ∙ h)).1)

    pub named_are_below : AreBelow k.limits.props found
    named_are_below = record { few = few_properties k.limits sound.range; below = named_within }

    pub named_numbers : numbers_where k.limits.props (is_found found) ≡ numbers_named k.dict words
    named_numbers =
        numbers_same k.limits.props (is_found found) (λ n. is_one_of words (word_of k.dict n)) (λ n lt. are n)
        ∙ ap (λ props. numbers_where props (λ n. is_one_of words (word_of k.dict n))) (sym sound.numbers)

    pub named_count : length (numbers_where k.limits.props (is_found found)) ≤ length words
    named_count = omega (arith, ap length named_numbers, named_few k.dict sound.dict words)

  -- ---- what words with their heads entail
  abbrev Up : List ℕ → List (List ℕ)
  Up = up (declared_of k) (axioms_of k)

  abbrev All : List (List ℕ) → List (List ℕ)
  All words = all_up (declared_of k) (axioms_of k) words

  -- a word without a number leads to itself, and through its head
  pub first_link : (p q : List ℕ) → number_of k.dict p ≡ None → Among (Up p) q → (p ≡ q) ⊎ ((is_valued p ≡ true) × Among (Up (head_bytes p)) q)
  first_link p q none m = let chain = entails_from_up (declared_of k) (axioms_of k) p q m in by chain.0 chain.1
    where
      not_numbered : (n : ℕ) → word_of k.dict n ≡ Some p → ⊥
      not_numbered n is = none-some n (sym none ∙ number_from_word k.dict sound.dict p n is)

      own : (len : ℕ) (r : List ℕ) → OwnLink (declared_of k) p r → Chain (links (declared_of k)) (axioms_of k) len r q → (p ≡ q) ⊎ ((is_valued p ≡ true) × Among (Up (head_bytes p)) q)
      own len r (Head valued same) c =
          inr (valued, up_from_entails (declared_of k) (axioms_of k) (head_bytes p) q (len, subst (λ v. Chain (links (declared_of k)) (axioms_of k) len v q) (sym same) c))
      own len r (Weaker weaker) c = absurd (let found = declared_has_number k sound p weaker.from in not_numbered found.0 found.1)

      by : (len : ℕ) → Chain (links (declared_of k)) (axioms_of k) len p q → (p ≡ q) ⊎ ((is_valued p ≡ true) × Among (Up (head_bytes p)) q)
      by zero same = inl same
      by (suc len) c = at c.1
        where
          at : Linked (links (declared_of k)) (axioms_of k) p c.0 → (p ≡ q) ⊎ ((is_valued p ≡ true) × Among (Up (head_bytes p)) q)
          at (inl there) = own len c.0 (own_link (declared_of k) p c.0 (among_from_contains (links (declared_of k) p) c.0 there)) c.2
          at (inr edge) = absurd (let found = among_axiom k sound (p, c.0) (among_from_contains (axioms_of k) (p, c.0) edge) in not_numbered found.1 found.4)

  -- if a word leads to another one, so does the word or its head, and the one that does has a number or is that other word
  pub through : (p q : List ℕ) → Among (Up p) q → (s : List ℕ) × Among (p ∷ heads p) s × Among (Up s) q × (number_of k.dict s ≡ None → s ≡ q)
  through p q m = by (number_of k.dict p) refl
    where
      of_head : (h : List ℕ) → is_valued h ≡ false → (h ≡ q) ⊎ ((is_valued h ≡ true) × Among (Up (head_bytes h)) q) → h ≡ q
      of_head h plain (inl same) = same
      of_head h plain (inr further) = absurd (both_ways (is_valued h) plain further.0)

      first : (p ≡ q) ⊎ ((is_valued p ≡ true) × Among (Up (head_bytes p)) q) → (s : List ℕ) × Among (p ∷ heads p) s × Among (Up s) q × (number_of k.dict s ≡ None → s ≡ q)
      first (inl same) = (p, inl refl, m, λ none. same)
      first (inr further) =
          let h = head_bytes p in
          (h, inr (heads_of_valued p further.0), further.1, λ none. of_head h (head_not_valued p) (first_link h q none further.1))

      by : (o : Option ℕ) → number_of k.dict p ≡ o → (s : List ℕ) × Among (p ∷ heads p) s × Among (Up s) q × (number_of k.dict s ≡ None → s ≡ q)
      by (Some n) is = (p, inl refl, m, λ none. absurd (none-some n (sym none ∙ is)))
      by None none = first (first_link p q none m)

  pub behind : (p s q : List ℕ) → Among (p ∷ heads p) s → Among (Up s) q → Among (Up p) q
  behind p s q (inl same) m = subst (λ v. Among (Up v) q) (sym same) m
  behind p s q (inr head) m =
      let at = among_heads p s head in
      up_trans (declared_of k) (axioms_of k) p s q (up_own (declared_of k) (axioms_of k) p s (subst (λ v. Among (links (declared_of k) p) v) at.1 (links_head (declared_of k) p at.0))) m

  -- ---- a search is closed
  module _ (t : Taxonomy) (tells : TellsLinks k t) (words sources : List (List ℕ)) (old : List ℕ)
      (starts : (n : ℕ) → is_found old n ≡ is_one_of sources (word_of k.dict n))
      (entailed : (s : List ℕ) → Among sources s → Among (All words) s)
      (reaches : (w q : List ℕ) (m : ℕ) → Among words w → Among (Up w) q → word_of k.dict m ≡ Some q → (s : List ℕ) × (n : ℕ) × Among sources s × Among (Up s) q × (word_of k.dict n ≡ Some s)) where
    closed_to : (n : ℕ) → any_entails t old n ≡ true → is_one_of (All words) (word_of k.dict n) ≡ true
    closed_to n h =
        let p = among_from_any (λ i. entails t i n) old h in
        let named = one_of sources (word_of k.dict p.0) (sym (starts p.0) ∙ any_from_among (λ x. nat_eq x p.0) old p.0 p.1 (eq-eqb p.0 p.0 refl)) in
        let q = one_of (Up named.0) (word_of k.dict n) (sym (entails_told k sound t tells p.0 named.0 named.1 n) ∙ p.2) in
        of_one (All words) (word_of k.dict n) q.0 q.1 (all_up_closed (declared_of k) (axioms_of k) words named.0 q.0 (entailed named.0 named.2) q.2)

    same_entails : (n i j : ℕ) → nat_eq i j ≡ true → entails t i n ≡ entails t j n
    same_entails n i j same = ap (λ m. entails t m n) (eqb-true i j same)

    from_source : (n m : ℕ) (s q : List ℕ) → word_of k.dict n ≡ Some q → Among sources s → Among (Up s) q → word_of k.dict m ≡ Some s → any_entails t old n ≡ true
    from_source n m s q is_q of there is_s =
        let p = among_from_any (λ x. nat_eq x m) old (starts m ∙ of_one sources (word_of k.dict m) s is_s of) in
        any_from_among (λ i. entails t i n) old p.0 p.1 (same_entails n p.0 m p.2 ∙ (entails_told k sound t tells m s is_s n ∙ of_one (Up s) (word_of k.dict n) q is_q there))

    closed_from : (n : ℕ) → is_one_of (All words) (word_of k.dict n) ≡ true → any_entails t old n ≡ true
    closed_from n h =
        let q = one_of (All words) (word_of k.dict n) h in
        let w = entailing (declared_of k) (axioms_of k) words q.0 q.2 in
        let s = reaches w.0 q.0 n w.1 w.2 q.1 in
        from_source n s.1 s.0 q.0 q.1 s.2 s.3 s.4

    pub closed_named : (n : ℕ) → any_entails t old n ≡ is_one_of (All words) (word_of k.dict n)
    closed_named n = same_tests (any_entails t old n) (is_one_of (All words) (word_of k.dict n)) (closed_to n) (closed_from n)

  -- ---- the words of a description
  -- of words whose numbers are found with those of their heads
  head_entailed : (words : List (List ℕ)) (s : List ℕ) → Among (with_heads words) s → (w : List ℕ) × Among words w × Among (Up w) s
  head_entailed words s m =
      let own = among_flat_map (λ (x : List ℕ). x ∷ heads x) words s m in
      (own.0, own.1, behind own.0 s s own.2 (up_self (declared_of k) (axioms_of k) s))

  head_reaches : (words : List (List ℕ)) (w q : List ℕ) (m : ℕ) → Among words w → Among (Up w) q → word_of k.dict m ≡ Some q
      → (s : List ℕ) × (n : ℕ) × Among (with_heads words) s × Among (Up s) q × (word_of k.dict n ≡ Some s)
  head_reaches words w q m of there is =
      let s = through w q there in
      let n = number s.0 (number_of k.dict s.0) refl s.3 in
      (s.0, n.0, flat_map_among (λ (x : List ℕ). x ∷ heads x) words w s.0 of s.1, s.2, n.1)
    where
      number : (s : List ℕ) (o : Option ℕ) → number_of k.dict s ≡ o → (number_of k.dict s ≡ None → s ≡ q) → (n : ℕ) × (word_of k.dict n ≡ Some s)
      number s (Some n) e one = (n, word_from_number k.dict sound.dict s n e)
      number s None e one = (m, is ∙ ap Some (sym (one e)))

  module _ (assigned own : List (List ℕ)) (size : ℕ) where
    abbrev tests : List (List ℕ)
    tests = met_tests (declared_of k) size

    abbrev described : List (List ℕ)
    described = assigned ++ own ++ tests

    -- of which words the search finds the numbers, before it is closed
    abbrev pub searched : List (List ℕ)
    searched = (with_heads assigned ++ with_heads own) ++ tests

    pub searched_numbers : (none one two old : List ℕ) → none ≡ [] → FindsWords k (with_heads assigned) none one → FindsWords k (with_heads own) one two → FindsWords k tests two old → FindsWords k searched [] old
    searched_numbers none one two old empty first second third =
        subst (λ from. FindsWords k searched from old) empty
        (finds_both k (with_heads assigned ++ with_heads own) tests none two old (finds_both k (with_heads assigned) (with_heads own) none one two first second) third)

    searched_entailed : (s : List ℕ) → Among searched s → Among (All described) s
    searched_entailed s m = by (among_append (with_heads assigned ++ with_heads own) tests s m)
      where
        from : (w : List ℕ) × Among (assigned ++ own) w × Among (Up w) s → Among (All described) s
        from w = entailed_in (declared_of k) (axioms_of k) described w.0 s (among_left (assigned ++ own) tests w.0 w.1) w.2

        half : Among (with_heads assigned) s ⊎ Among (with_heads own) s → Among (All described) s
        half (inl h) = let w = head_entailed assigned s h in from (w.0, among_left assigned own w.0 w.1, w.2)
        half (inr h) = let w = head_entailed own s h in from (w.0, among_right assigned own w.0 w.1, w.2)

        by : Among (with_heads assigned ++ with_heads own) s ⊎ Among tests s → Among (All described) s
        by (inl h) = half (among_append (with_heads assigned) (with_heads own) s h)
        by (inr h) = entailed_in (declared_of k) (axioms_of k) described s s (among_right (assigned ++ own) tests s h) (up_self (declared_of k) (axioms_of k) s)

    searched_reaches : (w q : List ℕ) (m : ℕ) → Among described w → Among (Up w) q → word_of k.dict m ≡ Some q → (s : List ℕ) × (n : ℕ) × Among searched s × Among (Up s) q × (word_of k.dict n ≡ Some s)
    searched_reaches w q m of there is = by (among_append (assigned ++ own) tests w of)
      where
        Reached : List (List ℕ) → Type 0
        Reached list = (s : List ℕ) × (n : ℕ) × Among list s × Among (Up s) q × (word_of k.dict n ≡ Some s)

        half : Among assigned w ⊎ Among own w → Reached (with_heads assigned ++ with_heads own)
        half (inl h) = let s = head_reaches assigned w q m h there is in (s.0, s.1, among_left (with_heads assigned) (with_heads own) s.0 s.2, s.3, s.4)
        half (inr h) = let s = head_reaches own w q m h there is in (s.0, s.1, among_right (with_heads assigned) (with_heads own) s.0 s.2, s.3, s.4)

        by : Among (assigned ++ own) w ⊎ Among tests w → Reached searched
        by (inl h) =
            let s = half (among_append assigned own w h) in
            (s.0, s.1, among_left (with_heads assigned ++ with_heads own) tests s.0 s.2, s.3, s.4)
        by (inr h) = let n = met_numbered k sound size w h in (w, n.0, among_right (with_heads assigned ++ with_heads own) tests w h, there, n.1)

    module _ (t : Taxonomy) (tells : TellsLinks k t) (old : List ℕ) (starts : FindsWords k searched [] old) where
      pub starts_within : (n : ℕ) → is_found old n ≡ true → n < t.props
      starts_within n h = omega (arith, named_within searched old starts n h, tells.props)

      pub finds_all : (found : List ℕ) → ((n : ℕ) → is_found found n ≡ any_entails t old n) → ((n : ℕ) → is_found found n ≡ true → n < t.props)
          → length found ≡ count_by (any_entails t old) (range_with_len 0 t.props) → FindsAll k described found
      finds_all found are below count = record {
        below = record { few = few_properties k.limits sound.range; below = λ n h. omega (arith, below n h, tells.props) };
        named = λ n. are n ∙ closed_named t tells described searched old starts searched_entailed searched_reaches n;
        count = count
            ∙ (where_counted t.props (any_entails t old)
            ∙ (ap (λ props. length (numbers_where props (any_entails t old))) tells.props
            ∙ ap length (numbers_same k.limits.props (any_entails t old) (is_found found) (λ n lt. sym (are n)))));
      }
