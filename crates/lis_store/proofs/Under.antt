-- What declaring a word under others gives: the new links, and the words that files have then.
use Rattle.lis_store.proofs.Common.{common_steps, ◌≡◌, ◌⊎◌, ℕ, ◌+◌, Bool, true, false, List, [], ◌∷◌, ◌++◌, length, refl, sym, ap, subst, inl, inr, arith, IsStrictlySortedBy, Among, among_append, among_left, among_right, among_insert_key, insert_key_old, sorted_insert_key, word_cmp, is_valued, test_of, with_word, is_met, State, File, WellFormed, pair_cmp, all_up, own_words, description, with_axiom, declared_under, word_exact, word_order, pair_exact, among_set_of, Head, Weaker, entailing, all_up_closed, sorted_all_up, OwnWord, own_word, own_from, met_weaker, known_from, Assigned, Derived, Met, linked_up, under, both_ways, set_of, known, set_of_among, same_words, all_up_has, Left}
use Rattle.lis_graph.proofs.Members.{insert_key_new}
use Rattle.lis_graph.proofs.Sets.{same_sets}
use Rattle.lis_model.specs.Tests.{are_weaker}
use Rattle.lis_laws.proofs.Members.{pair_order}
use Rattle.lis_laws.proofs.Chains.{Pairs, tests_by, up_wider}
use Rattle.lis_laws.proofs.Closures.{all_up_within}
use Rattle.lis_laws.proofs.Sources.{test_had}
use Rattle.lis_laws.proofs.Sources.Source.{Declared, Described}
use Rattle.lis_laws.proofs.Reached.{OneLink, described_link, all_up_keeps}
use Rattle.lis_laws.proofs.Known.{described_within}
use Rattle.lis_laws.proofs.Forms.{under_old, among_under}
use Rattle.lis_laws.proofs.Growth.{IsUnder, under_within}
use Rattle.lis_store.proofs.Points.{AllApart, length-insert_key}

-- ---- axioms from the word to others
module _ (word : List ℕ) where
  pub under_new : (axioms : Pairs) (words : List (List ℕ)) (q : List ℕ) → Among words q → Among (under word axioms words) (word, q)
  under_new axioms [] q m = absurd m
  under_new axioms (w ∷ words) q (inl same) = grind (arith, common_steps, under, under_old, insert_key_new, pair_exact)
  under_new axioms (w ∷ words) q (inr m) = under_new (with_axiom axioms (word, w)) words q m

  under_sorted : (axioms : Pairs) (words : List (List ℕ)) → IsStrictlySortedBy pair_cmp axioms → IsStrictlySortedBy pair_cmp (under word axioms words)
  under_sorted axioms [] sorted = sorted
  under_sorted axioms (q ∷ words) sorted = under_sorted (with_axiom axioms (word, q)) words (sorted_insert_key pair_cmp pair_order axioms (word, q) sorted)

  under_more : (axioms : Pairs) (some more : List (List ℕ)) → ((q : List ℕ) → Among some q → Among more q) → (e : List ℕ × List ℕ) → Among (under word axioms some) e → Among (under word axioms more) e
  under_more axioms some more within e m = grind (arith, common_steps, among_under, under, under_old, under_new)

  -- the axioms to a set of words are the same
  pub under_set : (axioms : Pairs) → IsStrictlySortedBy pair_cmp axioms → (words : List (List ℕ)) → under word axioms words ≡ under word axioms (set_of words)
  under_set axioms sorted words =
      same_sets pair_cmp pair_order (under word axioms words) (under word axioms (set_of words)) (under_sorted axioms words sorted) (under_sorted axioms (set_of words) sorted)
      (under_more axioms words (set_of words) (set_of_among words)) (under_more axioms (set_of words) words (among_set_of words))

  pub length-under : (axioms : Pairs) (words : List (List ℕ)) → AllApart words → ((q : List ℕ) → Among words q → Among axioms (word, q) → ⊥) → length (under word axioms words) ≡ length axioms + length words
  length-under axioms [] apart new = omega arith
  length-under axioms (q ∷ words) apart new =
      let one = length-insert_key pair_cmp pair_exact axioms (word, q) (new q (inl refl)) in
      let rest = length-under (with_axiom axioms (word, q)) words apart.1 (λ p there old. either p there (among_insert_key pair_cmp axioms (word, q) (word, p) old)) in
      omega (arith, one, rest)
    where
      either : (p : List ℕ) → Among words p → ◌≡◌ {A = List ℕ × List ℕ} (word, q) (word, p) ⊎ Among axioms (word, p) → ⊥
      either p there (inl same) = apart.0 (subst (λ v. Among words v) (sym (ap (λ (e : List ℕ × List ℕ). e.1) same)) there)
      either p there (inr old) = new p (inr there) old

-- ---- links
module _ (declared : List (List ℕ)) (axioms : Pairs) (word : List ℕ) (words : List (List ℕ)) where
  abbrev more : List (List ℕ)
  more = with_word declared word

  abbrev others : Pairs
  others = under word axioms words

  -- a link was there before, or leads from the word, or leads to it from a stronger test
  data NewLink (p r : List ℕ) : Type 0 where
    Old : OneLink declared axioms p r → NewLink p r
    From : word ≡ p → Among words r ⊎ (Among declared r × (are_weaker (test_of r) (test_of word) ≡ true)) → NewLink p r
    To : word ≡ r → are_weaker (test_of word) (test_of p) ≡ true → NewLink p r

  new_link : (p r : List ℕ) → OneLink more others p r → NewLink p r
  new_link p r (inl (Head valued is)) = Old (inl (Head valued is))
  new_link p r (inl (Weaker v)) = by (among_insert_key word_cmp declared word p v.from) (among_insert_key word_cmp declared word r v.to)
    where
      by : (word ≡ p) ⊎ Among declared p → (word ≡ r) ⊎ Among declared r → NewLink p r
      by from (inl same) = To same (subst (λ w. are_weaker (test_of w) (test_of p) ≡ true) (sym same) v.weaker)
      by (inl same) (inr to) = From same (inr (to, subst (λ w. are_weaker (test_of r) (test_of w) ≡ true) (sym same) v.weaker))
      by (inr from) (inr to) = Old (inl (Weaker (record { from = from; to = to; weaker = v.weaker })))
  new_link p r (inr edge) = by (among_under word axioms words (p, r) edge)
    where
      by : Among axioms (p, r) ⊎ IsUnder word words (p, r) → NewLink p r
      by (inl old) = Old (inr old)
      by (inr new) = From (ap (λ (e : List ℕ × List ℕ). e.0) new.2) (inl (subst (λ w. Among words w) (ap (λ (e : List ℕ × List ℕ). e.1) new.2) new.1))

  module _ (had : List (List ℕ)) where
    -- words without the word and without a stronger test have no new links
    pub unmet_closed : (Among had word → ⊥) → ((p : List ℕ) → Among had p → are_weaker (test_of word) (test_of p) ≡ true → ⊥) → ((p r : List ℕ) → Among had p → OneLink declared axioms p r → Among had r)
        → (p r : List ℕ) → Among had p → OneLink more others p r → Among had r
    unmet_closed none weakest closed p r at link = by (new_link p r link)
      where
        by : NewLink p r → Among had r
        by (Old old) = closed p r at old
        by (From same to) = absurd (none (subst (λ w. Among had w) (sym same) at))
        by (To same weaker) = absurd (weakest p at weaker)

    -- words with each weaker test gain the word and what the words entail
    abbrev pub Gained : List ℕ → Type 0
    Gained w = (word ≡ w) ⊎ Among (all_up declared axioms (words ++ had)) w

    pub gained_up : ((r : List ℕ) → OneLink declared axioms word r → ⊥) → ((r : List ℕ) → Among declared r → are_weaker (test_of r) (test_of word) ≡ true → Among had r)
        → (w : List ℕ) → Among (all_up more others (word ∷ had)) w → Gained w
    gained_up alone weaker = all_up_keeps more others Gained (λ p r at link. by p r at (new_link p r link)) (word ∷ had) (λ w m. own w m)
      where
        by : (p r : List ℕ) → Gained p → NewLink p r → Gained r
        by p r (inl same) (Old old) = absurd (alone r (subst (λ w. OneLink declared axioms w r) (sym same) old))
        by p r (inr up) (Old old) = inr (all_up_closed declared axioms (words ++ had) p r up (linked_up declared axioms p r old))
        by p r at (From same (inl m)) = inr (all_up_has declared axioms (words ++ had) r (among_left words had r m))
        by p r at (From same (inr less)) = inr (all_up_has declared axioms (words ++ had) r (among_right words had r (weaker r less.0 less.1)))
        by p r at (To same less) = inl same

        own : (w : List ℕ) → (word ≡ w) ⊎ Among had w → Gained w
        own w (inl same) = inl same
        own w (inr m) = inr (all_up_has declared axioms (words ++ had) w (among_right words had w m))

-- ---- the words of a file
module _ (s : State) (formed : WellFormed s) (word : List ℕ) (bare : is_valued word ≡ false) (new : Among (known s) word → ⊥) (words : List (List ℕ)) where
  abbrev t : State
  t = declared_under s word words

  alone : (r : List ℕ) → OneLink s.declared s.axioms word r → ⊥
  alone r (inl (Head valued is)) = both_ways (is_valued word) bare valued
  alone r (inl (Weaker v)) = new (known_from s word (Declared v.from))
  alone r (inr edge) = new (known_from s word (Left (word, r) edge refl))

  module _ (file : File) (there : Among s.files file) where
    abbrev had : List (List ℕ)
    had = description s file

    abbrev meets : Bool
    meets = is_met (test_of word) (length file.bytes)

    pub own_then : (w : List ℕ) → Among (own_words t.declared file) w → Among had w ⊎ ((word ≡ w) × (meets ≡ true))
    own_then w m = by (own_word t.declared file w m)
      where
        old : OwnWord s.declared file w → Among had w ⊎ ((word ≡ w) × (meets ≡ true))
        old own = inl (all_up_has s.declared s.axioms (own_words s.declared file) w (own_from s.declared file w own))

        met : is_met (test_of w) (length file.bytes) ≡ true → (word ≡ w) ⊎ Among s.declared w → Among had w ⊎ ((word ≡ w) × (meets ≡ true))
        met is (inl same) = inr (same, subst (λ v. is_met (test_of v) (length file.bytes) ≡ true) (sym same) is)
        met is (inr listed) = old (Met listed is)

        by : OwnWord t.declared file w → Among had w ⊎ ((word ≡ w) × (meets ≡ true))
        by (Assigned given) = old (Assigned given)
        by (Derived derived) = old (Derived derived)
        by (Met listed is) = met is (among_insert_key word_cmp s.declared word w listed)

    pub still_there : (w : List ℕ) → Among had w → Among (description t file) w
    still_there = described_within s t (under_within s word words) file

    pub test_there : meets ≡ true → Among (description t file) word
    test_there met =
        all_up_has t.declared t.axioms (own_words t.declared file) word (own_from t.declared file word (Met (insert_key_new word_cmp word_exact s.declared word) met))

    -- if the file does not meet the word, its words stay
    pub unmet_same : meets ≡ false → description t file ≡ had
    unmet_same unmet =
        same_words (description t file) had (sorted_all_up t.declared t.axioms (own_words t.declared file)) (sorted_all_up s.declared s.axioms (own_words s.declared file))
        (all_up_keeps t.declared t.axioms (λ w. Among had w)
        (unmet_closed s.declared s.axioms word words had (λ m. new (known_from s word (Described file there m))) weakest (described_link s.declared s.axioms file))
        (own_words t.declared file) (λ w m. by w (own_then w m))) still_there
      where
        weakest : (p : List ℕ) → Among had p → are_weaker (test_of word) (test_of p) ≡ true → ⊥
        weakest p m weaker =
            both_ways meets unmet
            (met_weaker (test_of word) (test_of p) (length file.bytes) weaker (test_had s formed file there p (tests_by (test_of word) (test_of p) weaker).1 m).met)

        by : (w : List ℕ) → Among had w ⊎ ((word ≡ w) × (meets ≡ true)) → Among had w
        by w (inl old) = old
        by w (inr met) = absurd (both_ways meets unmet met.1)

    -- if it does, it gains the word, and what they all entail
    pub met_gains : meets ≡ true → description t file ≡ with_word (all_up s.declared s.axioms (words ++ had)) word
    met_gains met =
        same_words (description t file) (with_word wide word) (sorted_all_up t.declared t.axioms (own_words t.declared file))
        (sorted_insert_key word_cmp word_order wide word (sorted_all_up s.declared s.axioms (words ++ had)))
        (λ w m. forth w (gained_up s.declared s.axioms word words had alone weaker w
        (all_up_within t.declared t.declared t.axioms t.axioms (own_words t.declared file) (word ∷ had)
        (record { in_declared = λ v n. n; in_axioms = λ e n. n; in_words = λ v n. own v (own_then v n) }) w m)))
        (λ w m. back w (among_insert_key word_cmp wide word w m))
      where
        wide : List (List ℕ)
        wide = all_up s.declared s.axioms (words ++ had)

        weaker : (r : List ℕ) → Among s.declared r → are_weaker (test_of r) (test_of word) ≡ true → Among had r
        weaker r listed less =
            all_up_has s.declared s.axioms (own_words s.declared file) r (own_from s.declared file r (Met listed (met_weaker (test_of r) (test_of word) (length file.bytes) less met)))

        own : (w : List ℕ) → Among had w ⊎ ((word ≡ w) × (meets ≡ true)) → (word ≡ w) ⊎ Among had w
        own w (inl old) = inr old
        own w (inr new) = inl new.0

        forth : (w : List ℕ) → (word ≡ w) ⊎ Among wide w → Among (with_word wide word) w
        forth w (inl same) = subst (λ v. Among (with_word wide word) v) same (insert_key_new word_cmp word_exact wide word)
        forth w (inr up) = insert_key_old word_cmp wide word w up

        base : (v : List ℕ) → Among words v ⊎ Among had v → Among (description t file) v
        base v (inl m) = described_link t.declared t.axioms file word v (test_there met) (inr (under_new word s.axioms words v m))
        base v (inr m) = still_there v m

        back : (w : List ℕ) → (word ≡ w) ⊎ Among wide w → Among (description t file) w
        back w (inl same) = subst (λ v. Among (description t file) v) same (test_there met)
        back w (inr up) =
            let source = entailing s.declared s.axioms (words ++ had) w up in
            let within = under_within s word words in
            all_up_closed t.declared t.axioms (own_words t.declared file) source.0 w (base source.0 (among_append words had source.0 source.1))
            (up_wider s.declared t.declared s.axioms t.axioms within.declared within.axioms source.0 w source.2)
