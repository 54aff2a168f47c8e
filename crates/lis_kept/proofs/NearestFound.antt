-- The nearest declared test on a side of a test, of those at the first places of the dictionary.
use Rattle.std.proofs.Common.{arith, MatchOption, slice_get}
use Rattle.std.proofs.lemmas.List.{get_or_default}
use Rattle.std.proofs.lemmas.Option.{slice_get-get_or, none-some}
use Rattle.lis_blockmap.specs.Bitmap.{is_taken}
use Rattle.lis_dict.proofs.Laws.{word_from_among, among_from_word}
use Rattle.lis_words.specs.Words.{test_of}
use Rattle.std.specs.Option.{option_map}
use Rattle.lis_kept.proofs.Common.{◌≡◌, ◌⊎◌, inl, inr, refl, sym, ap, ◌∙◌, ℕ, ◌+◌, ◌<◌, ◌≤◌, Bool, true, false, if◌then◌else◌, Option, Some, None, IfSome, List, both_ways, false_from_ne_true, cases_lt, cases_eq, subst, get_or, Among, Contains, Contains-get_or, among_from_contains, contains_from_among, get_or_from_slice_get, same_Some, slice_get_within, number_below, number_from_word, are_weaker, Dict, IsDict, word_of}
use Rattle.lis_words.specs.declared.test.Test.{Test}
use Rattle.lis_laws.proofs.Chains.{weaker_trans, weaker_apart}
use Rattle.lis_kept.specs.declared.test_edges.Found.{Found}
use Rattle.lis_kept.specs.declared.test_edges.Side.{Side}
use Rattle.lis_kept.specs.declared.test_edges.Side.TheVariants.{Weaker, Stronger}
use Rattle.lis_kept.specs.TestEdges.{test_by, declared_test, is_past, IsNeighbour}
use Rattle.lis_kept.proofs.NextTests.{none_weaker}

-- ---- sides
past_trans : (side : Side) (a b c : Option Test) → is_past side a b ≡ true → is_past side b c ≡ true → is_past side a c ≡ true
past_trans Weaker a b c h g = weaker_trans a b c h g
past_trans Stronger a b c h g = weaker_trans c b a g h

past_apart : (side : Side) (a : Option Test) → is_past side a a ≡ false
past_apart Weaker a = false_from_ne_true (are_weaker a a) (weaker_apart a)
past_apart Stronger a = false_from_ne_true (are_weaker a a) (weaker_apart a)

none_past : (side : Side) (a : Option Test) → is_past side None a ≡ false
none_past Weaker a = refl
none_past Stronger a = none_weaker a

past_none : (side : Side) (a : Option Test) → is_past side a None ≡ false
past_none Weaker a = none_weaker a
past_none Stronger a = refl

-- the number is that of a word at one of the first places
abbrev pub IsSeen : Dict → ℕ → ℕ → Type 0
IsSeen d end n = (k : ℕ) × (k < end) × (e : List ℕ × ℕ) × (slice_get d.entries k ≡ Some e) × (e.1 ≡ n)

seen_more : (d : Dict) (k : ℕ) → (e : List ℕ × ℕ) → slice_get d.entries k ≡ Some e → (P : ℕ → Type 0) → ((r : ℕ) → IsSeen d k r → P r) → P e.1 → (r : ℕ) → IsSeen d (k + 1) r → P r
seen_more d k e at P before here r seen = by (cases_eq seen.0 k)
  where
    by : (seen.0 ≡ k) ⊎ (seen.0 ≡ k → ⊥) → P r
    by (inl last) = subst P (ap (λ (x : List ℕ × ℕ). x.1) (same_Some e seen.2 (sym at ∙ subst (λ j. slice_get d.entries j ≡ Some seen.2) last seen.3)) ∙ seen.4) here
    by (inr other) = before r (seen.0, omega (arith, seen.1), seen.2, seen.3, seen.4)

module _ (side : Side) (d : Dict) (bits : List Bool) (test : Test) where
  abbrev Past : ℕ → Type 0
  Past r = is_past side (declared_test d bits r) (Some test) ≡ true

  -- it is the nearest of the numbers at the first places
  pub record IsFound (end : ℕ) (f : Found) : Type 0 where
    pub there : declared_test d bits f.number ≡ Some f.test
    pub past : is_past side (Some f.test) (Some test) ≡ true
    pub nearest : (r : ℕ) → IsSeen d end r → Past r → is_past side (Some f.test) (declared_test d bits r) ≡ false

  abbrev pub NearestAmong : ℕ → Option Found → Type 0
  NearestAmong end None = (r : ℕ) → IsSeen d end r → Past r → ⊥
  NearestAmong end (Some f) = IsFound end f

  module _ (dict : IsDict d) where
    -- a word at a place is that of its number
    pub word_here : (k : ℕ) (e : List ℕ × ℕ) → slice_get d.entries k ≡ Some e → word_of d e.1 ≡ Some e.0
    word_here k e at = word_from_among d dict e.0 e.1 (subst (λ x. Among d.entries x) (get_or_from_slice_get d.entries k e e at) (among_from_contains d.entries (get_or d.entries k e) (Contains-get_or d.entries k e (slice_get_within d.entries k e at))))

    -- no number of a word that is no test is one of a declared test
    none_here : (k : ℕ) (e : List ℕ × ℕ) → slice_get d.entries k ≡ Some e → test_of e.0 ≡ None → (r : ℕ) → e.1 ≡ r → Past r → ⊥
    none_here k e at none r is past = by (is_taken bits r) refl
      where
        by : (b : Bool) → is_taken bits r ≡ b → ⊥
        by false out = both_ways (is_past side (declared_test d bits r) (Some test)) (ap (λ t. is_past side t (Some test)) (ap (λ b. if b then test_by (word_of d r) else None) out) ∙ none_past side (Some test)) past
        by true in_it = both_ways (is_past side (declared_test d bits r) (Some test))
            (ap (λ t. is_past side t (Some test)) (ap (λ b. if b then test_by (word_of d r) else None) in_it ∙ (ap test_by (ap (word_of d) (sym is) ∙ word_here k e at) ∙ none)) ∙ none_past side (Some test)) past

    -- before the tests
    pub none_yet : (start : ℕ) → ((k : ℕ) (e : List ℕ × ℕ) → k < start → slice_get d.entries k ≡ Some e → test_of e.0 ≡ None) → NearestAmong start None
    none_yet start before r seen = none_here seen.0 seen.2 seen.3 (before seen.0 seen.2 seen.1 seen.3) r seen.4

    -- after them
    pub found_neighbour : (end : ℕ) (o : Option Found) → ((k : ℕ) (e : List ℕ × ℕ) → end ≤ k → slice_get d.entries k ≡ Some e → test_of e.0 ≡ None) → NearestAmong end o
        → IsNeighbour side d bits (Some test) (option_map (λ (f : Found). f.number) o)
    found_neighbour end o after near = all o near
      where
        seen : (r : ℕ) → Past r → IsSeen d end r
        seen r past = of (word_of d r) refl
          where
            of : (w : Option (List ℕ)) → word_of d r ≡ w → IsSeen d end r
            of None none = absurd (both_ways (is_past side (declared_test d bits r) (Some test)) (ap (λ t. is_past side t (Some test)) (unnamed (is_taken bits r) refl) ∙ none_past side (Some test)) past)
              where
                unnamed : (b : Bool) → is_taken bits r ≡ b → declared_test d bits r ≡ None
                unnamed false out = ap (λ b. if b then test_by (word_of d r) else None) out
                unnamed true in_it = ap (λ b. if b then test_by (word_of d r) else None) in_it ∙ ap test_by none
            of (Some w) is = at (contains_from_among d.entries (w, r) (among_from_word d w r is))
              where
                at : Contains d.entries (w, r) → IsSeen d end r
                at place = by (cases_lt place.0 end)
                  where
                    here : slice_get d.entries place.0 ≡ Some (w, r)
                    here = slice_get-get_or d.entries place.0 (w, r) place.1 ∙ ap Some (get_or_default d.entries place.0 (w, r) (w, r) place.1 ∙ place.2)

                    by : (place.0 < end) ⊎ (end ≤ place.0) → IsSeen d end r
                    by (inl lt) = (place.0, lt, (w, r), here, refl)
                    by (inr le) = absurd (none_here place.0 (w, r) here (after place.0 (w, r) le here) r refl past)

        all : (o : Option Found) → NearestAmong end o → IsNeighbour side d bits (Some test) (option_map (λ (f : Found). f.number) o)
        all None near = λ r. false_from_ne_true (is_past side (declared_test d bits r) (Some test)) (λ past. near r (seen r past) past)
        all (Some f) near = record {
          past = ap (λ t. is_past side t (Some test)) near.there ∙ near.past;
          nearest = λ r past. ap (λ t. is_past side t (declared_test d bits r)) near.there ∙ near.nearest r (seen r past) past;
        }

    pub found_below : (end : ℕ) (o : Option Found) → NearestAmong end o → IfSome (option_map (λ (f : Found). f.number) o) (λ n. n < d.props)
    found_below end None near = tt
    found_below end (Some f) near = of (word_of d f.number) refl
      where
        of : (w : Option (List ℕ)) → word_of d f.number ≡ w → f.number < d.props
        of (Some w) is = number_below d dict w f.number (number_from_word d dict w f.number is)
        of None none = absurd (by (is_taken bits f.number) refl)
          where
            by : (b : Bool) → is_taken bits f.number ≡ b → ⊥
            by false out = none-some f.test (sym (ap (λ b. if b then test_by (word_of d f.number) else None) out) ∙ near.there)
            by true in_it = none-some f.test (sym (ap (λ b. if b then test_by (word_of d f.number) else None) in_it ∙ ap test_by none) ∙ near.there)

  -- ---- one place more
  module _ (k : ℕ) (e : List ℕ × ℕ) (at : slice_get d.entries k ≡ Some e) where
    -- a number that has no test on that side
    pub not_past : (o : Option Found) → NearestAmong k o → is_past side (declared_test d bits e.1) (Some test) ≡ false → NearestAmong (k + 1) o
    not_past None near none = seen_more d k e at (λ r. Past r → ⊥) near (both_ways (is_past side (declared_test d bits e.1) (Some test)) none)
    not_past (Some f) near none = record {
      there = near.there;
      past = near.past;
      nearest = seen_more d k e at (λ r. Past r → is_past side (Some f.test) (declared_test d bits r) ≡ false) near.nearest
          (λ past. absurd (both_ways (is_past side (declared_test d bits e.1) (Some test)) none past));
    }

    -- and one that has one
    module _ (found : Test) (there : declared_test d bits e.1 ≡ Some found) (past : is_past side (Some found) (Some test) ≡ true) where
      -- that is no nearer
      pub not_nearer_by : (o : Option Found) (answer : Bool) → MatchOption o (answer ≡ true) (λ f. answer ≡ is_past side (Some f.test) (Some found)) → answer ≡ false → NearestAmong k o → NearestAmong (k + 1) o
      not_nearer_by None answer says out near = absurd (both_ways answer out says)
      not_nearer_by (Some f) answer says out near = record {
        there = near.there;
        past = near.past;
        nearest = seen_more d k e at (λ r. Past r → is_past side (Some f.test) (declared_test d bits r) ≡ false) near.nearest
            (λ h. ap (is_past side (Some f.test)) there ∙ (sym says ∙ out));
      }

      -- that is nearer
      pub nearer_by : (o : Option Found) (answer : Bool) → MatchOption o (answer ≡ true) (λ f. answer ≡ is_past side (Some f.test) (Some found)) → answer ≡ true → NearestAmong k o
          → NearestAmong (k + 1) (Some (record { number = e.1; test = found }))
      nearer_by o answer says in_it near = record {
        there = there;
        past = past;
        nearest = seen_more d k e at (λ r. Past r → is_past side (Some found) (declared_test d bits r) ≡ false) (others o says near)
            (λ h. ap (is_past side (Some found)) there ∙ past_apart side (Some found));
      }
        where
          others : (o : Option Found) → MatchOption o (answer ≡ true) (λ f. answer ≡ is_past side (Some f.test) (Some found)) → NearestAmong k o
              → (r : ℕ) → IsSeen d k r → Past r → is_past side (Some found) (declared_test d bits r) ≡ false
          others None says near r seen h = absurd (near r seen h)
          others (Some f) says near r seen h = false_from_ne_true (is_past side (Some found) (declared_test d bits r)) (λ back.
              both_ways (is_past side (Some f.test) (declared_test d bits r)) (near.nearest r seen h) (past_trans side (Some f.test) (Some found) (declared_test d bits r) (sym says ∙ in_it) back))
