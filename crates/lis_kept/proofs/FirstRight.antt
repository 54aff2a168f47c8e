-- Of the right words of axioms whose left word has a number, the first after another word.
use Rattle.std.proofs.Common.{option_to_list, filter, nat_eq, eq-eqb}
use Rattle.lis_kept.proofs.Common.{common_steps, rules, ◌≡◌, ℕ, ◌+◌, ◌<◌, ◌==◌, ◌&&◌, Bool, true, false, cond, if◌then◌else◌, Option, ◌⊎◌, subst, Some, None, List, [], ◌∷◌, ◌++◌, length, get_or, map, take, refl, sym, ap, ap₂, ◌∙◌, inl, inr, insert_key, find, flat_map, fold, IsStrictlySortedBy, match_ordering, Ordering, Less, Equal, Greater, eqb-true, take_more, same_Some, Among, among_filter, among_map, among_flat_map, flat_map_among, sorted_insert_key, Dict, number_of, word_of, number_from_word, Pair, word_cmp, same_word, word_order, same_word_decides, false_from_ne_true, filter_among, map_among, pair_order, same_words, Taxonomy, has_edge, is_plain_word, or_cases, and_from, both_ways, among_from_any, any_from_among, slice_get}
use native.Mathlib.Omega.{arith}
use Rattle.std.specs.List.{AllByRecursion}
use Rattle.std.proofs.Math.Bool.{and-true}
use Rattle.std.specs.Cmp.{IsTotalOrder}
use Rattle.std.specs.Ordering.{is_lt}
use Rattle.std.proofs.lemmas.Grind.{flat_map-append}
use Rattle.std.proofs.lemmas.List.{append-nil}
use Rattle.std.proofs.lemmas.List.Sums.{fold-append}
use Rattle.std.proofs.lemmas.Map.Lookups.{CmpEqualImpliesEq}
use Rattle.lis_graph.proofs.Sets.{below_tail, sorted_tail, sorted_nil, sorted_cons, sorted_with_more}
use Rattle.lis_model.specs.Sets.{set_of}
use Rattle.lis_model.specs.State.{pair_cmp}
use Rattle.lis_laws.proofs.Members.{word_exact, among_set_of, set_of_among, sorted_set_of}
use Rattle.lis_taxonomy.specs.Taxonomy.{leads_to}
use Rattle.lis_kept.specs.Behind.{rights_of, is_behind, is_before, plain_by, plain_right}
use Rattle.lis_kept.specs.Links.{is_pair, has_pair, is_own_link, TellsLinks}
use Rattle.lis_kept.specs.Metadata.{Metadata}
use Rattle.lis_kept.specs.Sound.{AreSound}
use Rattle.lis_kept.specs.Telling.{declared_of, pairs_told, axioms_of}
use Rattle.lis_kept.proofs.Known.{only_word, one_number, axiom_among, among_axiom}
use Rattle.lis_kept.proofs.OwnLinks.{among_slot, own_to_plain, pair_slot}

-- ---- the first of a sorted set that passes a test, when a key is inserted
module _ {K : Type 0} (cmp : K → K → Ordering) (order : IsTotalOrder cmp) (exact : CmpEqualImpliesEq cmp) (test : K → Bool) where
  abbrev sooner : Option K → K → Option K
  sooner None k = Some k
  sooner (Some x) k = cond (is_lt (cmp k x)) (Some k) (Some x)

  abbrev put : Option K → K → Option K
  put first k = cond (test k) (sooner first k) first

  -- what is below all is sooner than the first
  below_all : (k : K) (xs : List K) → AllByRecursion (λ x. cmp k x ≡ Less) xs → Some k ≡ sooner (find test xs) k
  below_all k [] below = refl
  below_all k (x ∷ xs) below = grind (arith, common_steps, below_all k xs below.1)

  find_put : (xs : List K) (k : K) → IsStrictlySortedBy cmp xs → find test (insert_key cmp xs k) ≡ put (find test xs) k
  find_put [] k sorted = refl
  find_put (x ∷ xs) k sorted = by (cmp k x) refl (sorted_insert_key cmp order (x ∷ xs) k sorted) (find_put xs k (sorted_tail cmp order x xs sorted))
    where
      first : (b : Bool) → AllByRecursion (λ y. cmp k y ≡ Less) (x ∷ xs) → cond b (Some k) (find test (x ∷ xs)) ≡ cond b (sooner (find test (x ∷ xs)) k) (find test (x ∷ xs))
      first true below = below_all k (x ∷ xs) below
      first false below = refl

      level : (b : Bool) → test x ≡ b → cmp k x ≡ Equal → find test (x ∷ xs) ≡ cond b (sooner (find test (x ∷ xs)) k) (find test (x ∷ xs))
      level b e tie = search (rules)

      later : (a b : Bool) → cmp k x ≡ Greater → find test (insert_key cmp xs k) ≡ cond b (sooner (find test xs) k) (find test xs)
          → cond a (Some x) (find test (insert_key cmp xs k)) ≡ cond b (sooner (cond a (Some x) (find test xs)) k) (cond a (Some x) (find test xs))
      later true true tie rest = ap (λ r. cond (is_lt r) (Some k) (Some x)) (sym tie)
      later true false tie rest = refl
      later false b tie rest = rest

      by : (r : Ordering) → cmp k x ≡ r → IsStrictlySortedBy cmp (match_ordering r (k ∷ x ∷ xs) (x ∷ xs) (x ∷ insert_key cmp xs k)) → find test (insert_key cmp xs k) ≡ put (find test xs) k
          → find test (match_ordering r (k ∷ x ∷ xs) (x ∷ xs) (x ∷ insert_key cmp xs k)) ≡ put (find test (x ∷ xs)) k
      by Less tie here rest = first (test k) (below_tail cmp order k (x ∷ xs) here)
      by Equal tie here rest = level (test k) (ap test (sym (exact k x tie))) tie
      by Greater tie here rest = later (test x) (test k) tie rest

-- ---- right sides
-- what a loop over the slots takes as the first so far
abbrev pub taken : Option (List ℕ) → Option (List ℕ) → Option (List ℕ) → Option (List ℕ)
taken last first None = first
taken last first (Some word) = cond (is_behind last word && is_before word first) (Some word) first

-- a word that is taken is the first of the set with that word
put_taken : (last first : Option (List ℕ)) (word : List ℕ) → put word_cmp word_order word_exact (is_behind last) first word ≡ taken last first (Some word)
put_taken last first word = search (rules, and-true)

-- the right sides of a sorted list of axioms are sorted
module _ (left : List ℕ) where
  below_rights : (word : List ℕ) (axioms : List (List ℕ × List ℕ)) → AllByRecursion (λ pair. pair_cmp (left, word) pair ≡ Less) axioms → AllByRecursion (λ w. word_cmp word w ≡ Less) (rights_of axioms left)
  below_rights word [] below = tt
  below_rights word (pair ∷ axioms) below = grind (arith, common_steps, word_order, same_word_decides, below_rights word axioms below.1)

  rights_sorted : (axioms : List (List ℕ × List ℕ)) → IsStrictlySortedBy pair_cmp axioms → IsStrictlySortedBy word_cmp (rights_of axioms left)
  rights_sorted [] sorted = sorted_nil word_cmp word_order
  rights_sorted (pair ∷ axioms) sorted = by (same_word pair.0 left) refl (rights_sorted axioms (sorted_tail pair_cmp pair_order pair axioms sorted))
    where
      by : (b : Bool) → same_word pair.0 left ≡ b → IsStrictlySortedBy word_cmp (rights_of axioms left)
          → IsStrictlySortedBy word_cmp (map (λ p. p.1) (cond b (pair ∷ filter (λ p. same_word p.0 left) axioms) (filter (λ p. same_word p.0 left) axioms)))
      by true e rest =
          let below = subst (λ w. AllByRecursion (λ p. pair_cmp (w, pair.1) p ≡ Less) axioms) ((same_word_decides pair.0 left).0 e) (below_tail pair_cmp pair_order pair axioms sorted) in
          sorted_cons word_cmp word_order pair.1 (rights_of axioms left) (below_rights pair.1 axioms below) rest
      by false e rest = rest

-- ---- edges
-- the words that an edge or several lead to, a set
abbrev rights_in : Dict → List (ℕ × ℕ) → List (List ℕ)
rights_in d edges = set_of (flat_map (plain_right d) edges)

-- one more edge
edge_taken : (d : Dict) (last : Option (List ℕ)) (edges : List (ℕ × ℕ)) (edge : ℕ × ℕ)
    → find (is_behind last) (rights_in d (edges ++ edge ∷ [])) ≡ taken last (find (is_behind last) (rights_in d edges)) (plain_by (word_of d edge.1))
edge_taken d last edges edge =
    ap (λ words. find (is_behind last) (set_of words)) (flat_map-append (plain_right d) edges (edge ∷ []) ∙ ap (λ more. flat_map (plain_right d) edges ++ more) (append-nil (plain_right d edge)))
    ∙ (ap (find (is_behind last)) (fold-append (insert_key word_cmp) [] (flat_map (plain_right d) edges) (plain_right d edge)) ∙ by (plain_by (word_of d edge.1)))
  where
    by : (o : Option (List ℕ)) → find (is_behind last) (fold (insert_key word_cmp) (rights_in d edges) (option_to_list o)) ≡ taken last (find (is_behind last) (rights_in d edges)) o
    by None = refl
    by (Some word) =
        find_put word_cmp word_order word_exact (is_behind last) (rights_in d edges) word (sorted_set_of (flat_map (plain_right d) edges))
        ∙ put_taken last (find (is_behind last) (rights_in d edges)) word

-- ---- the loop
abbrev pub FirstSoFar : Dict → Option (List ℕ) → List (ℕ × ℕ) → Option (List ℕ) → Type 0
FirstSoFar d last edges first = first ≡ find (is_behind last) (rights_in d edges)

pub first_more : (d : Dict) (last first right now : Option (List ℕ)) (edges : List (ℕ × ℕ)) (n : ℕ) → n < length edges → right ≡ plain_by (word_of d (get_or edges n (0, 0)).1)
    → now ≡ taken last first right → FirstSoFar d last (take n edges) first → FirstSoFar d last (take (n + 1) edges) now
first_more d last first right now edges n within is taken_is so_far =
    taken_is
    ∙ (ap₂ (taken last) so_far is
    ∙ (sym (edge_taken d last (take n edges) (get_or edges n (0, 0)))
    ∙ ap (λ es. find (is_behind last) (rights_in d es)) (sym (take_more edges n (0, 0) within))))

-- ---- the edges of a word
only_plain : (o : Option (List ℕ)) (word : List ℕ) → plain_by o ≡ Some word → (o ≡ Some word) × (is_plain_word word ≡ true)
only_plain None word is = absurd cc
only_plain (Some w) word is = by (is_plain_word w) refl is
  where
    by : (b : Bool) → is_plain_word w ≡ b → (if b then Some w else None) ≡ Some word → (Some w ≡ Some word) × (is_plain_word word ≡ true)
    by true plain same = (same, ap is_plain_word (sym (same_Some w word same)) ∙ plain)
    by false plain none = absurd cc

among_plain : (d : Dict) (edge : ℕ × ℕ) (word : List ℕ) → word_of d edge.1 ≡ Some word → is_plain_word word ≡ true → Among (plain_right d edge) word
among_plain d edge word is plain = subst (λ o. Among (option_to_list o) word) (sym (ap plain_by is ∙ ap (λ b. if b then Some word else None) plain)) (inl refl)

module _ (k : Metadata) (sound : AreSound k) (t : Taxonomy) (tells : TellsLinks k t) where
  -- an edge to a plain word is that of an axiom
  edge_pair : (p q : ℕ) (word : List ℕ) → word_of k.dict q ≡ Some word → is_plain_word word ≡ true → has_edge t p q ≡ true → has_pair k.axioms p q ≡ true
  edge_pair p q word is plain edge = by (or_cases (is_own_link (declared_of k) (word_of k.dict p) (word_of k.dict q)) (has_pair k.axioms p q) (tells.linked p q edge))
    where
      is_plain : (v : List ℕ) → word_of k.dict q ≡ Some v → is_plain_word v ≡ true
      is_plain v is_v = ap is_plain_word (same_Some v word (sym is_v ∙ is)) ∙ plain

      by : (is_own_link (declared_of k) (word_of k.dict p) (word_of k.dict q) ≡ true) ⊎ (has_pair k.axioms p q ≡ true) → has_pair k.axioms p q ≡ true
      by (inl own) = absurd (both_ways (is_own_link (declared_of k) (word_of k.dict p) (word_of k.dict q)) (own_to_plain (declared_of k) (word_of k.dict p) (word_of k.dict q) is_plain) own)
      by (inr pair) = pair

  pair_there : (slot p q : ℕ) → slice_get k.axioms slot ≡ Some (Pair p q) → has_pair k.axioms p q ≡ true
  pair_there slot p q at = any_from_among (is_pair p q) k.axioms (Pair p q) (among_slot k.axioms slot (Pair p q) at) (and_from (p == p) (q == q) (eq-eqb p p refl) (eq-eqb q q refl))

  -- the right sides of its axioms are the plain words to which its edges lead
  pub rights_told : (number : ℕ) (left : List ℕ) (edges : List (ℕ × ℕ)) → word_of k.dict number ≡ Some left → ((q : ℕ) → has_edge t number q ≡ leads_to edges q)
      → rights_of (axioms_of k) left ≡ set_of (flat_map (plain_right k.dict) edges)
  rights_told number left edges named from_here =
      same_words (rights_of (axioms_of k) left) (rights_in k.dict edges)
      (rights_sorted left (axioms_of k) (sorted_with_more pair_cmp pair_order [] (pairs_told k.dict k.axioms) (sorted_nil pair_cmp pair_order))) (sorted_set_of (flat_map (plain_right k.dict) edges)) to from
    where
      to : (w : List ℕ) → Among (rights_of (axioms_of k) left) w → Among (rights_in k.dict edges) w
      to w m =
          let pair = among_map (λ (p : List ℕ × List ℕ). p.1) (filter (λ (p : List ℕ × List ℕ). same_word p.0 left) (axioms_of k)) w m in
          let kept = among_filter (λ (p : List ℕ × List ℕ). same_word p.0 left) (axioms_of k) pair.0 pair.1 in
          let at = among_axiom k sound pair.0 kept.0 in
          let right : word_of k.dict at.2 ≡ Some w = at.5 ∙ ap Some pair.2 in
          let same : at.1 ≡ number = one_number k sound at.1 number left (at.4 ∙ ap Some ((same_word_decides (pair.0).0 left).0 kept.1)) named in
          let edge : has_edge t number at.2 ≡ true = subst (λ p. has_edge t p at.2 ≡ true) same (tells.pairs at.1 at.2 (pair_there at.0 at.1 at.2 at.3)) in
          let found = among_from_any (λ (e : ℕ × ℕ). nat_eq e.1 at.2) edges (sym (from_here at.2) ∙ edge) in
          let there : word_of k.dict (found.0).1 ≡ Some w = ap (word_of k.dict) (eqb-true (found.0).1 at.2 found.2) ∙ right in
          set_of_among (flat_map (plain_right k.dict) edges) w
          (flat_map_among (plain_right k.dict) edges found.0 w found.1 (among_plain k.dict found.0 w there ((sound.axioms at.0 at.1 at.2 at.3).plain w right)))

      from : (w : List ℕ) → Among (rights_in k.dict edges) w → Among (rights_of (axioms_of k) left) w
      from w m =
          let found = among_flat_map (plain_right k.dict) edges w (among_set_of (flat_map (plain_right k.dict) edges) w m) in
          let q = (found.0).1 in
          let told = only_plain (word_of k.dict q) w (only_word (plain_by (word_of k.dict q)) w found.2) in
          let edge : has_edge t number q ≡ true = from_here q ∙ any_from_among (λ (e : ℕ × ℕ). nat_eq e.1 q) edges found.0 found.1 (eq-eqb q q refl) in
          let slot = pair_slot k.axioms number q (edge_pair number q w told.0 told.1 edge) in
          map_among (λ (p : List ℕ × List ℕ). p.1) (filter (λ (p : List ℕ × List ℕ). same_word p.0 left) (axioms_of k)) (left, w)
          (filter_among (λ (p : List ℕ × List ℕ). same_word p.0 left) (axioms_of k) (left, w)
          (axiom_among k sound slot.0 number q left w slot.1 named told.0) ((same_word_decides left left).1 refl))

-- ---- whether a right side is taken
pub is_taken : (last first : Option (List ℕ)) (word : List ℕ) → is_behind last word ≡ true → is_before word first ≡ true → Some word ≡ taken last first (Some word)
is_taken last first word behind before = ap₂ (λ a b. cond (a && b) (Some word) first) (sym behind) (sym before)

pub not_behind : (last first : Option (List ℕ)) (word : List ℕ) → is_behind last word ≡ false → first ≡ taken last first (Some word)
not_behind last first word behind = ap (λ a. cond (a && is_before word first) (Some word) first) (sym behind)

pub not_before : (last first : Option (List ℕ)) (word : List ℕ) → is_behind last word ≡ true → is_before word first ≡ false → first ≡ taken last first (Some word)
not_before last first word behind before = ap₂ (λ a b. cond (a && b) (Some word) first) (sym behind) (sym before)

-- ---- a word without a number
none_right : (left : List ℕ) (axioms : List (List ℕ × List ℕ)) → ((pair : List ℕ × List ℕ) → Among axioms pair → same_word pair.0 left ≡ false) → rights_of axioms left ≡ []
none_right left [] apart = refl
none_right left (pair ∷ axioms) apart = rw (apart pair (inl refl)) (none_right left axioms (λ p m. apart p (inr m)))

-- leads nowhere
pub no_rights : (k : Metadata) → AreSound k → (left : List ℕ) → number_of k.dict left ≡ None → rights_of (axioms_of k) left ≡ []
no_rights k sound left none = none_right left (axioms_of k) (λ pair m. false_from_ne_true (same_word pair.0 left) (λ same.
    let at = among_axiom k sound pair m in
    let named = at.4 ∙ ap Some ((same_word_decides pair.0 left).0 same) in
    let both : ◌≡◌ {A = Option ℕ} None (Some at.1) = sym none ∙ number_from_word k.dict sound.dict left at.1 named in cc))
