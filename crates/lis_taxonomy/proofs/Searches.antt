-- The steps of a search: all that it finds is entailed, and where each number leads that it is done with is found.
use Rattle.std.specs.Bool.{one_answer}
use Rattle.std.proofs.Common.{take, ◌≡◌, ◌⊎◌, ℕ, zero, suc, ◌+◌, ◌<◌, ◌≤◌, Bool, true, false, ◌||◌, nat_eq, if◌then◌else◌, List, [], ◌∷◌, ◌++◌, length, get_or, refl, sym, ap, subst, ◌∙◌, inl, inr, arith, length-append, eq-eqb, eqb-true}
use Rattle.std.proofs.lemmas.Bool.{cases_eq, cases_lt, or_left, or_right}
use Rattle.std.proofs.lemmas.List.{get_or_default, get_or_append_left}
use Rattle.std.proofs.lemmas.List.Folds.{list_any-append, list_any_at, list_any_more}
use Rattle.lis_graph.specs.Graph as chains
use Rattle.lis_graph.proofs.Members.{among_from_any, among_from_contains, contains_from_among}
use Rattle.lis_graph.proofs.Graph as graph
use Rattle.lis_taxonomy.specs.Search.{is_found, met}
use Rattle.lis_taxonomy.specs.Taxonomy.{no_links}
use Rattle.lis_taxonomy.specs.Inside.{edge_at, AreInOrder, AreEntered, IsPlace, MeetsRights, IsSearched}
use Rattle.lis_taxonomy.specs.Steps.{MeetsTo, SearchesTo}
use Rattle.lis_taxonomy.proofs.Places.{among_place, place_among}

-- ---- numbers of a list
pub has_at : (xs : List ℕ) (k : ℕ) → k < length xs → is_found xs (get_or xs k 0) ≡ true
has_at xs k lt = list_any_at (λ x. nat_eq x (get_or xs k 0)) xs k 0 lt (eq-eqb (get_or xs k 0) (get_or xs k 0) refl)

pub at_has : (xs : List ℕ) (q : ℕ) → is_found xs q ≡ true → (k : ℕ) × (k < length xs) × (get_or xs k 0 ≡ q)
at_has xs q h =
    let found = among_from_any (λ x. nat_eq x q) xs h in
    let place = contains_from_among xs found.0 found.1 in
    (place.0, place.1, get_or_default xs place.0 0 found.0 place.1 ∙ (place.2 ∙ eqb-true found.0 q found.2))

or_more : (a b : Bool) → (a || (b || false)) ≡ true → (a ≡ true) ⊎ (b ≡ true)
or_more true b h = inl refl
or_more false true h = inr refl
or_more false false h = absurd cc

more_left : (a b : Bool) → a ≡ true → (a || (b || false)) ≡ true
more_left true b h = refl
more_left false b h = absurd cc

more_right : (a b : Bool) → b ≡ true → (a || (b || false)) ≡ true
more_right true b h = refl
more_right false true h = refl
more_right false false h = absurd cc

or_cases : (a b : Bool) → (a || b) ≡ true → (a ≡ true) ⊎ (b ≡ true)
or_cases true b h = inl refl
or_cases false b h = inr h

module _ (xs : List ℕ) (q r : ℕ) where
  pub has_push : is_found (xs ++ q ∷ []) r ≡ (is_found xs r || (nat_eq q r || false))
  has_push = list_any-append (λ x. nat_eq x r) xs (q ∷ [])

  pub push_from : is_found (xs ++ q ∷ []) r ≡ true → (is_found xs r ≡ true) ⊎ (q ≡ r)
  push_from h = by (or_more (is_found xs r) (nat_eq q r) (sym has_push ∙ h))
    where
      by : (is_found xs r ≡ true) ⊎ (nat_eq q r ≡ true) → (is_found xs r ≡ true) ⊎ (q ≡ r)
      by (inl old) = inl old
      by (inr new) = inr (eqb-true q r new)

  pub push_old : is_found xs r ≡ true → is_found (xs ++ q ∷ []) r ≡ true
  push_old h = has_push ∙ more_left (is_found xs r) (nat_eq q r) h

  pub push_new : q ≡ r → is_found (xs ++ q ∷ []) r ≡ true
  push_new same = has_push ∙ more_right (is_found xs r) (nat_eq q r) (eq-eqb q r same)

-- numbers that keep their places are still there
pub has_kept : (xs ys : List ℕ) → length xs ≤ length ys → ((k : ℕ) → k < length xs → get_or ys k 0 ≡ get_or xs k 0) → (q : ℕ) → is_found xs q ≡ true → is_found ys q ≡ true
has_kept xs ys longer kept q h = let k = at_has xs q h in subst (λ x. is_found ys x ≡ true) (kept k.0 k.1 ∙ k.2) (has_at ys k.0 (omega (arith, k.1)))

-- ---- one number is met
module _ (now : List ℕ) (r : ℕ) where
  abbrev pushed : List ℕ
  pushed = now ++ r ∷ []

  met_by : (P : List ℕ → Type 0) → (is_found now r ≡ true → P now) → P pushed → P (met now r)
  met_by P old new = by (is_found now r) refl
    where
      by : (t : Bool) → is_found now r ≡ t → P (if t then now else pushed)
      by true e = old e
      by false e = new

  pub met_longer : length now ≤ length (met now r)
  met_longer = met_by (λ f. length now ≤ length f) (λ _. omega arith) (omega (arith, length-append now (r ∷ [])))

  pub met_kept : (k : ℕ) → k < length now → get_or (met now r) k 0 ≡ get_or now k 0
  met_kept k lt = met_by (λ f. get_or f k 0 ≡ get_or now k 0) (λ _. refl) (get_or_append_left now (r ∷ []) 0 k lt)

  pub met_old : (q : ℕ) → is_found now q ≡ true → is_found (met now r) q ≡ true
  met_old q h = met_by (λ f. is_found f q ≡ true) (λ _. h) (push_old now r q h)

  pub met_has : is_found (met now r) r ≡ true
  met_has = met_by (λ f. is_found f r ≡ true) (λ h. h) (push_new now r r refl)

  pub met_from : (q : ℕ) → is_found (met now r) q ≡ true → (is_found now q ≡ true) ⊎ (r ≡ q)
  met_from q = met_by (λ f. is_found f q ≡ true → (is_found now q ≡ true) ⊎ (r ≡ q)) (λ _ h. inl h) (push_from now r q)

  pub met_found : (q : ℕ) → is_found (met now r) q ≡ (is_found now q || nat_eq r q)
  met_found q = one_answer (is_found (met now r) q) (is_found now q || nat_eq r q) (λ h. to (met_from q h), λ h. from (or_cases (is_found now q) (nat_eq r q) h)) (λ h. h, λ h. h)
    where
      to : (is_found now q ≡ true) ⊎ (r ≡ q) → (is_found now q || nat_eq r q) ≡ true
      to (inl old) = or_left (is_found now q) (nat_eq r q) old
      to (inr same) = or_right (is_found now q) (nat_eq r q) (eq-eqb r q same)

      from : (is_found now q ≡ true) ⊎ (nat_eq r q ≡ true) → is_found (met now r) q ≡ true
      from (inl old) = met_old q old
      from (inr same) = subst (λ x. is_found (met now r) x ≡ true) (eqb-true r q same) met_has

-- ---- the edges from one number
module _ (es : List (ℕ × ℕ)) (old : List ℕ) (props : ℕ) (order : AreInOrder es props) (number : ℕ) where
  pub meets_start : (place : ℕ) → IsPlace es number 0 place → MeetsTo es old old number place
  meets_start place at = record {
    longer = omega arith;
    kept = λ k lt. refl;
    all = λ k low lt same. absurd (omega (arith, at.before k low, same));
    only = λ q h. inl h;
    from_there = λ k le lt. omega (arith, at.after k le lt, order.right k lt, order.few);
  }

  pub meets_step : (now : List ℕ) (place : ℕ) → MeetsTo es old now number place → place < length es → (edge_at es place).0 ≡ number → MeetsTo es old (met now (edge_at es place).1) number (place + 1)
  meets_step now place to lt here = record {
    longer = omega (arith, to.longer, met_longer now r);
    kept = λ k low. met_kept now r k (omega (arith, to.longer)) ∙ to.kept k low;
    all = λ k low k_in same. all k k_in same (cases_eq k place) low;
    only = λ q h. only q (met_from now r q h);
    from_there = λ k le k_in. to.from_there k (omega arith) k_in;
  }
    where
      r : ℕ
      r = (edge_at es place).1

      all : (k : ℕ) → k < length es → (edge_at es k).0 ≡ number → (k ≡ place) ⊎ (k ≡ place → ⊥) → k < place + 1 → is_found (met now r) (edge_at es k).1 ≡ true
      all k k_in same (inl at) low = subst (λ j. is_found (met now r) (edge_at es j).1 ≡ true) (sym at) (met_has now r)
      all k k_in same (inr apart) low = met_old now r (edge_at es k).1 (to.all k (omega arith) k_in same)

      only : (q : ℕ) → (is_found now q ≡ true) ⊎ (r ≡ q) → (is_found old q ≡ true) ⊎ ((k : ℕ) × (k < length es) × (edge_at es k ≡ (number, q)))
      only q (inl h) = to.only q h
      only q (inr same) = inr (place, lt, λ i. (here i, same i))

  pub meets_end : (now : List ℕ) (place : ℕ) → MeetsTo es old now number place → (place < length es → (edge_at es place).0 ≡ number → ⊥) → MeetsRights es old now number
  meets_end now place to stop = record {
    longer = to.longer;
    kept = to.kept;
    all = λ k lt same. all k lt same (cases_lt k place) (cases_eq k place);
    only = to.only;
  }
    where
      all : (k : ℕ) → k < length es → (edge_at es k).0 ≡ number → (k < place) ⊎ (place ≤ k) → (k ≡ place) ⊎ (k ≡ place → ⊥) → is_found now (edge_at es k).1 ≡ true
      all k lt same (inl low) at = to.all k low lt same
      all k lt same (inr high) (inl at) = absurd (stop (omega arith) (ap (λ j. (edge_at es j).0) (sym at) ∙ same))
      all k lt same (inr high) (inr apart) =
          let first : (edge_at es place).0 ≡ number → ⊥ = stop (omega arith) in
          absurd (first (omega (arith, same, to.from_there place (omega arith) (omega arith), order.rising place k (omega arith) lt, order.right k lt, order.few)))

-- ---- all numbers
module _ (es : List (ℕ × ℕ)) (starts : List ℕ) where
  pub searches_start : SearchesTo es starts starts 0
  searches_start = record {
    within = omega arith;
    start = λ p h. h;
    entailed = λ q h. (q, h, (0, refl));
    closed = λ i k none. absurd (omega arith);
  }

  pub searches_step : (now after : List ℕ) (done : ℕ) → SearchesTo es starts now done → done < length now → MeetsRights es now after (get_or now done 0) → SearchesTo es starts after (done + 1)
  searches_step now after done to lt meets = record {
    within = omega (arith, meets.longer);
    start = λ p h. old p (to.start p h);
    entailed = λ q h. entailed q (meets.only q h);
    closed = λ i k low k_in same. closed i k low k_in same (cases_eq i done);
  }
    where
      old : (q : ℕ) → is_found now q ≡ true → is_found after q ≡ true
      old = has_kept now after meets.longer meets.kept

      number : ℕ
      number = get_or now done 0

      entailed : (q : ℕ) → (is_found now q ≡ true) ⊎ ((k : ℕ) × (k < length es) × (edge_at es k ≡ (number, q))) → (p : ℕ) × (is_found starts p ≡ true) × chains.Entails no_links es p q
      entailed q (inl h) = to.entailed q h
      entailed q (inr edge) =
          let before = to.entailed number (has_at now done lt) in
          let link : chains.Chain no_links es 1 number q = (q, inr (contains_from_among es (number, q) (place_among es (number, q) edge.0 edge.1 edge.2)), refl) in
          (before.0, before.1, (before.2.0 + 1, graph.chain_append no_links es before.2.0 1 before.0 number q before.2.1 link))

      closed : (i k : ℕ) → i < done + 1 → k < length es → (edge_at es k).0 ≡ get_or after i 0 → (i ≡ done) ⊎ (i ≡ done → ⊥) → is_found after (edge_at es k).1 ≡ true
      closed i k low k_in same (inl here) = meets.all k k_in (same ∙ (ap (λ j. get_or after j 0) here ∙ meets.kept done lt))
      closed i k low k_in same (inr apart) = old (edge_at es k).1 (to.closed i k (omega arith) k_in (same ∙ meets.kept i (omega (arith, to.within))))

  pub searches_end : (now : List ℕ) (done : ℕ) → SearchesTo es starts now done → length now ≤ done → IsSearched es starts now
  searches_end now done to all q = (to.entailed q, λ e. reached e.2.0 e.0 q (to.start e.0 e.1) e.2.1)
    where
      linked : (a r : ℕ) → is_found now a ≡ true → chains.Linked no_links es a r → is_found now r ≡ true
      linked a r h (inl given) = absurd (among_from_contains [] r given)
      linked a r h (inr edge) =
          let i = at_has now a h in
          let k = among_place es (a, r) (among_from_contains es (a, r) edge) in
          subst (λ x. is_found now x ≡ true) (ap (λ (e : ℕ × ℕ). e.1) k.2) (to.closed i.0 k.0 (omega (arith, i.1)) k.1 (ap (λ (e : ℕ × ℕ). e.0) k.2 ∙ sym i.2))

      reached : (n a q : ℕ) → is_found now a ≡ true → chains.Chain no_links es n a q → is_found now q ≡ true
      reached zero a q h same = subst (λ x. is_found now x ≡ true) same h
      reached (suc n) a q h chain = reached n chain.0 q (linked a chain.0 h chain.1) chain.2

-- ---- numbers that are met one after the other
module _ (xs : List ℕ) (now : List ℕ) (i : ℕ) (lt : i < length xs) (so_far : (q : ℕ) → is_found now q ≡ is_found (take i xs) q) where
  pub met_more : (q : ℕ) → is_found (met now (get_or xs i 0)) q ≡ is_found (take (i + 1) xs) q
  met_more q = met_found now (get_or xs i 0) q ∙ (ap (λ b. b || nat_eq (get_or xs i 0) q) (so_far q) ∙ sym (list_any_more (λ x. nat_eq x q) xs i 0 lt))

-- a search from numbers with the same members finds the same
pub searched_as : (es : List (ℕ × ℕ)) (starts others found : List ℕ) → ((q : ℕ) → is_found starts q ≡ is_found others q) → IsSearched es starts found → IsSearched es others found
searched_as es starts others found same searched q = (
  λ h. let e = (searched q).0 h in (e.0, sym (same e.0) ∙ e.1, e.2),
  λ e. (searched q).1 (e.0, same e.0 ∙ e.1, e.2),
)

-- ---- marks of numbers to which edges lead
-- a chain of edges ends where it starts, or at a number that is marked
pub chain_enters : (es : List (ℕ × ℕ)) (entered : List Bool) → AreEntered es entered → (n p q : ℕ) → chains.Chain no_links es n p q → (p ≡ q) ⊎ (get_or entered q false ≡ true)
chain_enters es entered marked zero p q same = inl same
chain_enters es entered marked (suc n) p q chain = inr (by (chain_enters es entered marked n chain.0 q chain.2))
  where
    first : chains.Linked no_links es p chain.0 → get_or entered chain.0 false ≡ true
    first (inl given) = absurd (among_from_contains [] chain.0 given)
    first (inr edge) =
        let k = among_place es (p, chain.0) (among_from_contains es (p, chain.0) edge) in
        subst (λ (e : ℕ × ℕ). get_or entered e.1 false ≡ true) k.2 (marked.each k.0 k.1)

    by : (chain.0 ≡ q) ⊎ (get_or entered q false ≡ true) → get_or entered q false ≡ true
    by (inl same) = subst (λ x. get_or entered x false ≡ true) same (first chain.1)
    by (inr mark) = mark

-- ---- one start
pub met_first : (p : ℕ) → met [] p ≡ p ∷ []
met_first p = refl

pub only_start : (p q : ℕ) → is_found (p ∷ []) q ≡ true → p ≡ q
only_start p q h = by (push_from [] p q h)
  where
    by : (is_found [] q ≡ true) ⊎ (p ≡ q) → p ≡ q
    by (inl none) = absurd cc
    by (inr same) = same
