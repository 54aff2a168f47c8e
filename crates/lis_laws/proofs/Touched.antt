-- What each change touches.
use Rattle.std.proofs.Common.{◌≡◌, ◌⊎◌, ℕ, Bool, true, false, not, ◌&&◌, cond, Option, Some, None, is_some, List, [], ◌∷◌, ◌++◌, length, map, filter, refl, sym, ap, subst, ◌∙◌, inl, inr}
use Rattle.std.specs.declared.cmp.Ordering.{Ordering}
use Rattle.std.specs.declared.cmp.Ordering.TheVariants.{Less, Equal, Greater}
use Rattle.std.specs.Ordering.{match_ordering, ordering_reverse, is_lt}
use Rattle.std.specs.BTreeSet.{insert_key}
use Rattle.std.specs.Cmp as tests
use Rattle.std.specs.List.{flat_map}
use Rattle.std.proofs.lemmas.Bool.{and_parts, and_cases, or_parts, or_cases, or_left, not-true, not-false, not_from_false, both_ways}
use Rattle.std.proofs.lemmas.List.Folds.{list_any-append}
use Rattle.lis_graph.specs.Graph.{is_rising}
use Rattle.lis_graph.proofs.Filters.{filter_same}
use Rattle.lis_graph.proofs.Members.{Among, among_from_any, any_from_among, among_filter, filter_among, among_left, among_right, map_among, flat_map_among, among_insert_key, insert_key_old}
use Rattle.lis_words.specs.declared.test.Test.{Test}
use Rattle.lis_words.specs.Words.{word_cmp, same_word, has_word, head_bytes, is_valued, is_test, is_built_in, built_in_heads, test_of}
use Rattle.lis_words.proofs.Tests.{valued_not_test}
use Rattle.lis_model.specs.Tests.{is_met}
use Rattle.lis_model.specs.Sets.{with_word, with_words}
use Rattle.lis_model.specs.State.{State, File, WellFormed, heads, up, own_words, file_words, description, known, file_cmp}
use Rattle.lis_model.specs.Changes.{with_axiom, same_pair, declared_under, undeclared, axiom_added, axiom_removed, has_name, file_added, file_removed, file_replaced}
use Rattle.lis_model.specs.Step.{is_side, is_in_use}
use Rattle.lis_laws.specs.Touches.{holders, KeepsHolders, KeepsKnown, Touches, is_held, where_held}
use Rattle.lis_laws.proofs.Members.{word_order, same_word_decides, among_from_has_word, has_word_from_among, among_with_words, with_words_old}
use Rattle.lis_laws.proofs.Chains.{Pairs, weaker_tests_are, up_self, up_trans}
use Rattle.lis_laws.proofs.Chains.OwnLink.{Head, Weaker}
use Rattle.lis_laws.proofs.Axioms.{axiom_in_front}
use Rattle.lis_laws.proofs.Closures.{all_up_has, all_up_within, new_word}
use Rattle.lis_laws.proofs.Counts.{all_among}
use Rattle.lis_laws.proofs.Apart.{plain_not_valued, declarable_not_valued, declarable_not_built_in}
use Rattle.lis_laws.proofs.Sources.{OwnWord, own_from, Source, source_of, known_from, is_right, right_declared, assigned_are, Assignable, assignable_cases, IsMetBy, test_had}
use Rattle.lis_laws.proofs.Sources.OwnWord.{Assigned, Derived, Met}
use Rattle.lis_laws.proofs.Sources.Source.{Declared, Left, LeftHead, Described}
use Rattle.lis_laws.proofs.Sources.Assignable.{Plain, Valued}
use Rattle.lis_laws.proofs.Derived.{derived_built_in}
use Rattle.lis_laws.proofs.Reached.{OneLink, linked_up, described_link, described_keeps}
use Rattle.lis_laws.proofs.Known.{IsWithin, described_within, known_within}
use Rattle.lis_laws.proofs.Forms.{among_under, over_right, undeclared_within, file_removed_within}
use Rattle.lis_laws.proofs.Growth.{IsSettled, settled, declared_or_had, IsPlaced, IsUnder, under_within, axiom_settled, known_declares, known_adds_file}

-- ---- lists of words
pub not_in : (words : List (List ℕ)) (w : List ℕ) → not (has_word words w) ≡ true → Among words w → ⊥
not_in words w none m = both_ways (has_word words w) (not-true _ none) (has_word_from_among words w m)

has_alike : (words more : List (List ℕ)) (w : List ℕ) → (Among words w → Among more w) → (Among more w → Among words w) → has_word words w ≡ has_word more w
has_alike words more w to from =
    tests.both_ways (has_word words w) (has_word more w) (λ h. has_word_from_among more w (to (among_from_has_word words w h))) (λ h. has_word_from_among words w (from (among_from_has_word more w h)))

-- ---- lists that tests leave
module _ {K : Type 0} where
  filter_insert : (cmp : K → K → Ordering) (p : K → Bool) (xs : List K) (k : K) → p k ≡ false → filter p (insert_key cmp xs k) ≡ filter p xs
  filter_insert cmp p [] k e = ap (λ (b : Bool). cond b (k ∷ []) []) e
  filter_insert cmp p (y ∷ ys) k e = by (cmp k y) (filter_insert cmp p ys k e)
    where
      by : (r : Ordering) → filter p (insert_key cmp ys k) ≡ filter p ys → filter p (match_ordering r (k ∷ y ∷ ys) (y ∷ ys) (y ∷ insert_key cmp ys k)) ≡ filter p (y ∷ ys)
      by Less more = ap (λ (b : Bool). cond b (k ∷ filter p (y ∷ ys)) (filter p (y ∷ ys))) e
      by Equal more = refl
      by Greater more = ap (λ (zs : List K). cond (p y) (y ∷ zs) zs) more

  filter_skips : (p keep : K → Bool) (xs : List K) → ((x : K) → Among xs x → keep x ≡ false → p x ≡ false) → filter p (filter keep xs) ≡ filter p xs
  filter_skips p keep [] skip = refl
  filter_skips p keep (x ∷ xs) skip = by (keep x) refl (filter_skips p keep xs (λ y m. skip y (inr m)))
    where
      by : (b : Bool) → keep x ≡ b → filter p (filter keep xs) ≡ filter p xs → filter p (cond b (x ∷ filter keep xs) (filter keep xs)) ≡ filter p (x ∷ xs)
      by true e more = ap (λ (zs : List K). cond (p x) (x ∷ zs) zs) more
      by false e more = more ∙ sym (ap (λ (b : Bool). cond b (x ∷ filter p xs) (filter p xs)) (skip x (inl refl) e))

-- the same files have a word, by two ways to describe them
names_alike : (files : List File) (some more : File → List (List ℕ)) (w : List ℕ) → ((file : File) → Among files file → has_word (some file) w ≡ has_word (more file) w)
    → map (λ (file : File). file.name) (filter (λ (file : File). has_word (some file) w) files) ≡ map (λ (file : File). file.name) (filter (λ (file : File). has_word (more file) w) files)
names_alike files some more w same = ap (λ (fs : List File). map (λ (file : File). file.name) fs) (filter_same (λ (file : File). has_word (some file) w) (λ (file : File). has_word (more file) w) files same)

held_among : (s : State) (word : List ℕ) (words : List (List ℕ)) (file : File) (w : List ℕ) → Among s.files file → Among (description s file) word → Among words w → Among (where_held s word words) w
held_among s word words file w m has there = subst (λ (b : Bool). Among (cond b words []) w) (sym held) there
  where
    held : is_held s word ≡ true
    held = any_from_among (λ (f : File). has_word (description s f) word) s.files file m (has_word_from_among (description s file) word has)

-- ---- a word declared under others
-- what a file has then it had, or it has the word and what that entails
pub record IsBrought (t : State) (word : List ℕ) (file : File) (w : List ℕ) : Type 0 where
  pub has : Among (description t file) word
  pub entails : Among (up t.declared t.axioms word) w

pub under_split : (s : State) (word : List ℕ) (words : List (List ℕ)) (file : File) (w : List ℕ) → Among (description (declared_under s word words) file) w
    → Among (description s file) w ⊎ IsBrought (declared_under s word words) word file w
under_split s word words file = described_keeps t.declared t.axioms (λ w. Among (description s file) w ⊎ IsBrought t word file w) link file own
  where
    t : State
    t = declared_under s word words

    brought : Among (description t file) word → IsBrought t word file word
    brought has = record { has = has; entails = up_self t.declared t.axioms word }

    met : (w : List ℕ) → Among (description t file) w → is_met (test_of w) (length file.bytes) ≡ true → (word ≡ w) ⊎ Among s.declared w → Among (description s file) w ⊎ IsBrought t word file w
    met w has is (inl same) = inr (subst (λ (k : List ℕ). IsBrought t word file k) same (brought (subst (λ (k : List ℕ). Among (description t file) k) (sym same) has)))
    met w has is (inr old) = inl (all_up_has s.declared s.axioms _ w (own_from s.declared file w (Met old is)))

    own : (w : List ℕ) → OwnWord t.declared file w → Among (description s file) w ⊎ IsBrought t word file w
    own w (Assigned m) = inl (all_up_has s.declared s.axioms _ w (own_from s.declared file w (Assigned m)))
    own w (Derived m) = inl (all_up_has s.declared s.axioms _ w (own_from s.declared file w (Derived m)))
    own w (Met m is) = met w (all_up_has t.declared t.axioms _ w (own_from t.declared file w (Met m is))) is (among_insert_key word_cmp s.declared word w m)

    -- from the word itself
    through : (p r : List ℕ) → word ≡ p → Among (description s file) p → OneLink t.declared t.axioms p r → IsBrought t word file r
    through p r same at step = record {
      has = subst (λ (k : List ℕ). Among (description t file) k) (sym same) (described_within s t (under_within s word words) file p at);
      entails = subst (λ (k : List ℕ). Among (up t.declared t.axioms k) r) (sym same) (linked_up t.declared t.axioms p r step);
    }

    -- to the word
    reached : (p r : List ℕ) → word ≡ r → Among (description s file) p → OneLink t.declared t.axioms p r → IsBrought t word file r
    reached p r same at step =
        subst (λ (k : List ℕ). IsBrought t word file k) same
        (brought (subst (λ (k : List ℕ). Among (description t file) k) (sym same)
        (described_link t.declared t.axioms file p r (described_within s t (under_within s word words) file p at) step)))

    link : (p r : List ℕ) → Among (description s file) p ⊎ IsBrought t word file p → OneLink t.declared t.axioms p r → Among (description s file) r ⊎ IsBrought t word file r
    link p r (inr b) step = inr (record { has = b.has; entails = up_trans t.declared t.axioms word p r b.entails (linked_up t.declared t.axioms p r step) })
    link p r (inl at) (inl (Head valued is)) = inl (described_link s.declared s.axioms file p r at (inl (Head valued is)))
    link p r (inl at) (inl (Weaker v)) = by (among_insert_key word_cmp s.declared word p v.from) (among_insert_key word_cmp s.declared word r v.to)
      where
        by : (word ≡ p) ⊎ Among s.declared p → (word ≡ r) ⊎ Among s.declared r → Among (description s file) r ⊎ IsBrought t word file r
        by (inl same) to = inr (through p r same at (inl (Weaker v)))
        by (inr from) (inl same) = inr (reached p r same at (inl (Weaker v)))
        by (inr from) (inr to) = inl (described_link s.declared s.axioms file p r at (inl (Weaker (record { from = from; to = to; weaker = v.weaker }))))
    link p r (inl at) (inr edge) = by (among_under word s.axioms words (p, r) edge)
      where
        by : Among s.axioms (p, r) ⊎ IsUnder word words (p, r) → Among (description s file) r ⊎ IsBrought t word file r
        by (inl old) = inl (described_link s.declared s.axioms file p r at (inr old))
        by (inr new) = inr (through p r (ap (λ (e : List ℕ × List ℕ). e.0) new.2) at (inr edge))

declares_holders : (s : State) (word : List ℕ) (words : List (List ℕ)) → let t = declared_under s word words in KeepsHolders s t (where_held t word (up t.declared t.axioms word))
declares_holders s word words w none = names_alike s.files (description (declared_under s word words)) (description s) w at
  where
    t : State
    t = declared_under s word words

    to : (file : File) → Among s.files file → Among (description s file) w ⊎ IsBrought t word file w → Among (description s file) w
    to file m (inl old) = old
    to file m (inr new) = absurd (not_in (where_held t word (up t.declared t.axioms word)) w none (held_among t word (up t.declared t.axioms word) file w m new.has new.entails))

    at : (file : File) → Among s.files file → has_word (description t file) w ≡ has_word (description s file) w
    at file m = has_alike (description t file) (description s file) w (λ has. to file m (under_split s word words file w has)) (described_within s t (under_within s word words) file w)

pub declares_touches : (s : State) → WellFormed s → (word : List ℕ) (words : List (List ℕ)) → IsPlaced s word words → let t = declared_under s word words in
    Touches s t (where_held t word (up t.declared t.axioms word)) (word ∷ [])
declares_touches s formed word words placed = (declares_holders s word words, learned)
  where
    learned : KeepsKnown s (declared_under s word words) (word ∷ [])
    learned w none = ap (λ (ws : List (List ℕ)). has_word ws w) (known_declares s formed word words placed) ∙ has_alike (with_word (known s) word) (known s) w (λ m. to (among_insert_key word_cmp (known s) word w m)) (insert_key_old word_cmp (known s) word w)
      where
        to : (word ≡ w) ⊎ Among (known s) w → Among (known s) w
        to (inl same) = absurd (not_in (word ∷ []) w none (inl same))
        to (inr m) = m

-- ---- what a file can have: declared words, built-in ones, valued ones and tests
record Stands (declared : List (List ℕ)) (w : List ℕ) : Type 0 where
  there : Among declared w ⊎ ((is_built_in w ≡ true) ⊎ ((is_valued w ≡ true) ⊎ (is_test w ≡ true)))
  head : is_valued w ≡ true → Among declared (head_bytes w) ⊎ (is_built_in (head_bytes w) ≡ true)

built_in_stands : (declared : List (List ℕ)) (w : List ℕ) → is_built_in w ≡ true → Stands declared w
built_in_stands declared w h = record { there = inr (inl h); head = λ valued. inr (or_left _ _ (head_of valued (or_cases _ _ h))) }
  where
    head_of : is_valued w ≡ true → (has_word built_in_heads w ≡ true) ⊎ ((is_valued w && has_word built_in_heads (head_bytes w)) ≡ true) → has_word built_in_heads (head_bytes w) ≡ true
    head_of valued (inl itself) =
        let none = all_among (λ k. not (is_valued k)) built_in_heads w refl (among_from_has_word built_in_heads w itself) in
        absurd (both_ways (is_valued w) (not-true _ none) valued)
    head_of valued (inr both) = (and_parts (is_valued w) (has_word built_in_heads (head_bytes w)) both).1

test_stands : (declared : List (List ℕ)) (w : List ℕ) → is_test w ≡ true → Stands declared w
test_stands declared w test = record { there = inr (inr (inr test)); head = λ valued. absurd (both_ways (is_test w) (valued_not_test w valued) test) }

declared_stands : (s : State) → WellFormed s → (w : List ℕ) → Among s.declared w → Stands s.declared w
declared_stands s formed w m = record { there = inl m; head = λ valued. absurd (both_ways (is_valued w) ((settled s formed).not_valued w m) valued) }

pub met_is_test : (test : Option Test) (size : ℕ) → is_met test size ≡ true → is_some test ≡ true
met_is_test None size h = absurd cc
met_is_test (Some test) size h = refl

under_stands : (s : State) → WellFormed s → (word : List ℕ) (words : List (List ℕ)) → IsPlaced s word words → (file : File) → Among s.files file
    → (w : List ℕ) → Among (description (declared_under s word words) file) w → Stands s.declared w
under_stands s formed word words placed file m = described_keeps t.declared t.axioms (Stands s.declared) link file own
  where
    t : State
    t = declared_under s word words

    own : (w : List ℕ) → OwnWord t.declared file w → Stands s.declared w
    own w (Assigned given) = by (assignable_cases s.declared w (assigned_are s formed file m w given))
      where
        by : Assignable s.declared w → Stands s.declared w
        by (Plain plain there) = record { there = inl there; head = λ valued. absurd (both_ways (is_valued w) (plain_not_valued w plain) valued) }
        by (Valued valued there) = record { there = inr (inr (inl valued)); head = λ v. inl there }
    own w (Derived derived) = built_in_stands s.declared w (derived_built_in file.name file.bytes w derived)
    own w (Met there is) = test_stands s.declared w (met_is_test (test_of w) (length file.bytes) is)

    link : (p r : List ℕ) → Stands s.declared p → OneLink t.declared t.axioms p r → Stands s.declared r
    link p r at (inl (Head valued is)) = subst (λ (k : List ℕ). Stands s.declared k) is (by (at.head valued))
      where
        by : Among s.declared (head_bytes p) ⊎ (is_built_in (head_bytes p) ≡ true) → Stands s.declared (head_bytes p)
        by (inl there) = declared_stands s formed (head_bytes p) there
        by (inr built_in) = built_in_stands s.declared (head_bytes p) built_in
    link p r at (inl (Weaker v)) = test_stands s.declared r (weaker_tests_are t.declared p r v).1
    link p r at (inr edge) = declared_stands s formed r (by (among_under word s.axioms words (p, r) edge))
      where
        by : Among s.axioms (p, r) ⊎ IsUnder word words (p, r) → Among s.declared r
        by (inl old) = (settled s formed).rights (p, r) old
        by (inr new) = subst (λ (e : List ℕ × List ℕ). Among s.declared e.1) new.2 (right_declared s new.0 (over_right s words placed.over new.0 new.1))

-- a new word that a file then has is a test
pub brought_is_test : (s : State) → WellFormed s → (word : List ℕ) (words : List (List ℕ)) → IsPlaced s word words → not (has_word s.declared word) ≡ true
    → is_held (declared_under s word words) word ≡ true → is_test word ≡ true
brought_is_test s formed word words placed new held = by (among_from_any (λ (f : File). has_word (description (declared_under s word words) f) word) s.files held)
  where
    is : Stands s.declared word → is_test word ≡ true
    is at = on at.there
      where
        on : Among s.declared word ⊎ ((is_built_in word ≡ true) ⊎ ((is_valued word ≡ true) ⊎ (is_test word ≡ true))) → is_test word ≡ true
        on (inl there) = absurd (not_in s.declared word new there)
        on (inr (inl built_in)) = absurd (both_ways (is_built_in word) (declarable_not_built_in word placed.form) built_in)
        on (inr (inr (inl valued))) = absurd (both_ways (is_valued word) (declarable_not_valued word placed.form) valued)
        on (inr (inr (inr test))) = test

    by : (file : File) × Among s.files file × (has_word (description (declared_under s word words) file) word ≡ true) → is_test word ≡ true
    by found = is (under_stands s formed word words placed found.0 found.1 word (among_from_has_word (description (declared_under s word words) found.0) word found.2))

-- ---- a word no longer declared
module _ (s : State) (formed : WellFormed s) (word : List ℕ) (unused : not (is_in_use s word) ≡ true) where
  no_left : (e : List ℕ × List ℕ) → Among s.axioms e → e.0 ≡ word → ⊥
  no_left e m same =
      both_ways (is_side s word) (or_parts _ _ (not-true _ unused)).0
      (has_word_from_among _ word (among_left (map (λ (k : List ℕ × List ℕ). k.0) s.axioms) (map (λ (k : List ℕ × List ℕ). k.1) s.axioms) word
      (subst (λ (w : List ℕ). Among (map (λ (k : List ℕ × List ℕ). k.0) s.axioms) w) same (map_among (λ (k : List ℕ × List ℕ). k.0) s.axioms e m))))

  pub had_test : (file : File) → Among s.files file → Among (description s file) word → is_test word ≡ true
  had_test file m has = by (and_cases _ _ (or_parts _ _ (not-true _ unused)).1)
    where
      had : List (List ℕ)
      had = flat_map (λ (k : List ℕ × List ℕ). heads k.0) s.axioms ++ flat_map (description s) s.files

      by : (not (is_test word) ≡ false) ⊎ (has_word had word ≡ false) → is_test word ≡ true
      by (inl test) = not-false _ test
      by (inr none) =
          absurd (both_ways (has_word had word) none
          (has_word_from_among had word (among_right (flat_map (λ (k : List ℕ × List ℕ). heads k.0) s.axioms) (flat_map (description s) s.files) word (flat_map_among (description s) s.files file word m has))))

  other_declared : (w : List ℕ) → Among s.declared w → (word ≡ w) ⊎ Among (undeclared s word).declared w
  other_declared w m = by (same_word w word) refl
    where
      by : (b : Bool) → same_word w word ≡ b → (word ≡ w) ⊎ Among (undeclared s word).declared w
      by true e = inl (sym ((same_word_decides w word).0 e))
      by false e = inr (filter_among (λ k. not (same_word k word)) s.declared w m (not_from_false _ e))

  -- what a file had and has, or the word itself
  pub record IsLeft (file : File) (w : List ℕ) : Type 0 where
    pub was : Among (description s file) w
    pub now : (word ≡ w) ⊎ Among (description (undeclared s word) file) w

  pub undeclared_split : (file : File) → Among s.files file → (w : List ℕ) → Among (description s file) w → IsLeft file w
  undeclared_split file m = described_keeps s.declared s.axioms (IsLeft file) link file own
    where
      u : State
      u = undeclared s word

      met : (w : List ℕ) → IsMetBy s.declared file w → (word ≡ w) ⊎ Among (description u file) w
      met w is = by (other_declared w is.there)
        where
          by : (word ≡ w) ⊎ Among u.declared w → (word ≡ w) ⊎ Among (description u file) w
          by (inl same) = inl same
          by (inr there) = inr (all_up_has u.declared u.axioms _ w (own_from u.declared file w (Met there is.met)))

      still : (w : List ℕ) → OwnWord s.declared file w → (word ≡ w) ⊎ Among (description u file) w
      still w (Assigned given) = inr (all_up_has u.declared u.axioms _ w (own_from u.declared file w (Assigned given)))
      still w (Derived derived) = inr (all_up_has u.declared u.axioms _ w (own_from u.declared file w (Derived derived)))
      still w (Met there is) = met w (record { there = there; met = is })

      own : (w : List ℕ) → OwnWord s.declared file w → IsLeft file w
      own w o = record { was = all_up_has s.declared s.axioms _ w (own_from s.declared file w o); now = still w o }

      goes_on : (p r : List ℕ) → Among (description s file) p → Among (description s file) r → (word ≡ p) ⊎ Among (description u file) p → OneLink s.declared s.axioms p r
          → (word ≡ r) ⊎ Among (description u file) r
      goes_on p r was is (inl same) (inl (Head valued to)) =
          absurd (both_ways (is_test p) (valued_not_test p valued) (subst (λ (k : List ℕ). is_test k ≡ true) same (had_test file m (subst (λ (k : List ℕ). Among (description s file) k) (sym same) was))))
      goes_on p r was is (inr at) (inl (Head valued to)) = inr (described_link u.declared u.axioms file p r at (inl (Head valued to)))
      goes_on p r was is at (inl (Weaker v)) = met r (test_had s formed file m r (weaker_tests_are s.declared p r v).1 is)
      goes_on p r was is (inl same) (inr edge) = absurd (no_left (p, r) edge (sym same))
      goes_on p r was is (inr at) (inr edge) = inr (described_link u.declared u.axioms file p r at (inr edge))

      link : (p r : List ℕ) → IsLeft file p → OneLink s.declared s.axioms p r → IsLeft file r
      link p r at step =
          let is = described_link s.declared s.axioms file p r at.was step in
          record { was = is; now = goes_on p r at.was is at.now step }

  pub undeclares_touches : Touches s (undeclared s word) (word ∷ []) (word ∷ [])
  undeclares_touches = (changed, learned)
    where
      u : State
      u = undeclared s word

      other : (w : List ℕ) → not (has_word (word ∷ []) w) ≡ true → (xs : List (List ℕ)) → (word ≡ w) ⊎ Among xs w → Among xs w
      other w none xs (inl same) = absurd (not_in (word ∷ []) w none (inl same))
      other w none xs (inr m) = m

      changed : KeepsHolders s u (word ∷ [])
      changed w none = names_alike s.files (description u) (description s) w at
        where
          at : (file : File) → Among s.files file → has_word (description u file) w ≡ has_word (description s file) w
          at file m =
              has_alike (description u file) (description s file) w (described_within u s (undeclared_within s word) file w)
              (λ has. other w none (description u file) (undeclared_split file m w has).now)

      learned : KeepsKnown s u (word ∷ [])
      learned w none = has_alike (known u) (known s) w (known_within u s (undeclared_within s word) w) (λ m. known_from u w (from (source_of s w m)))
        where
          from : Source s w → Source u w
          from (Declared m) = Declared (other w none u.declared (other_declared w m))
          from (Left e m is) = Left e m is
          from (LeftHead e m head) = LeftHead e m head
          from (Described file m has) = Described file m (other w none (description u file) (undeclared_split file m w has).now)

-- ---- one more axiom, or one fewer
module _ (s : State) (axioms : Pairs) (l r : List ℕ) (front : (e : List ℕ × List ℕ) → Among axioms e → Among ((l, r) ∷ s.axioms) e) (within : (e : List ℕ × List ℕ) → Among s.axioms e → Among axioms e) where
  more_within : IsWithin s (record s { axioms = axioms })
  more_within = record { declared = λ w m. m; axioms = within; files = λ f m. m }

  axiom_holders : (w : List ℕ) → not (has_word (where_held s l (up s.declared s.axioms r)) w) ≡ true → holders (record s { axioms = axioms }) w ≡ holders s w
  axiom_holders w none = names_alike s.files (file_words s.declared axioms) (description s) w at
    where
      to : (file : File) → Among s.files file → Among (description s file) w ⊎ (Among (description s file) l × Among (up s.declared s.axioms r) w) → Among (description s file) w
      to file m (inl old) = old
      to file m (inr new) = absurd (not_in (where_held s l (up s.declared s.axioms r)) w none (held_among s l (up s.declared s.axioms r) file w m new.0 new.1))

      at : (file : File) → Among s.files file → has_word (file_words s.declared axioms file) w ≡ has_word (description s file) w
      at file m =
          has_alike (file_words s.declared axioms file) (description s file) w
          (λ has. to file m (new_word s.declared (l, r) s.axioms (own_words s.declared file) w
          (all_up_within s.declared s.declared axioms ((l, r) ∷ s.axioms) (own_words s.declared file) (own_words s.declared file) (record { in_declared = λ k n. n; in_axioms = front; in_words = λ k n. n }) w has)))
          (described_within s (record s { axioms = axioms }) more_within file w)

  axiom_known : IsSettled s.declared axioms → (w : List ℕ) → not (has_word (l ∷ heads l) w) ≡ true → has_word (known (record s { axioms = axioms })) w ≡ has_word (known s) w
  axiom_known is_settled w none =
      has_alike (known (record s { axioms = axioms })) (known s) w (λ m. known_from s w (to (source_of (record s { axioms = axioms }) w m))) (known_within s (record s { axioms = axioms }) more_within w)
    where
      left : (e : List ℕ × List ℕ) → e.0 ≡ w → Among ((l, r) ∷ s.axioms) e → Source s w
      left e is (inl same) = absurd (not_in (l ∷ heads l) w none (inl (ap (λ (k : List ℕ × List ℕ). k.0) same ∙ is)))
      left e is (inr m) = Left e m is

      above : (e : List ℕ × List ℕ) → Among (heads e.0) w → Among ((l, r) ∷ s.axioms) e → Source s w
      above e head (inl same) = absurd (not_in (l ∷ heads l) w none (inr (subst (λ (k : List ℕ × List ℕ). Among (heads k.0) w) (sym same) head)))
      above e head (inr m) = LeftHead e m head

      described : (file : File) → Among s.files file → Among (description s file) w ⊎ Among s.declared w → Source s w
      described file m (inl has) = Described file m has
      described file m (inr there) = Declared there

      to : Source (record s { axioms = axioms }) w → Source s w
      to (Declared m) = Declared m
      to (Left e m is) = left e is (front e m)
      to (LeftHead e m head) = above e head (front e m)
      to (Described file m has) = described file m (declared_or_had s.declared s.declared s.axioms axioms is_settled file w has)

pub adds_axiom_touches : (s : State) → WellFormed s → (l r : List ℕ) → is_right s r ≡ true → Touches s (axiom_added s (l, r)) (where_held s l (up s.declared s.axioms r)) (l ∷ heads l)
adds_axiom_touches s formed l r right = (
  axiom_holders s (with_axiom s.axioms (l, r)) l r (axiom_in_front s.axioms (l, r)) (more s.axioms),
  axiom_known s (with_axiom s.axioms (l, r)) l r (axiom_in_front s.axioms (l, r)) (more s.axioms) (axiom_settled s formed l r right),
)
  where
    more : (axioms : Pairs) (e : List ℕ × List ℕ) → Among axioms e → Among (with_axiom axioms (l, r)) e
    more axioms e m = insert_key_old _ axioms (l, r) e m

pub removes_axiom_touches : (s : State) → WellFormed s → (l r : List ℕ) → let t = axiom_removed s (l, r) in Touches s t (where_held t l (up t.declared t.axioms r)) (l ∷ heads l)
removes_axiom_touches s formed l r = (
  λ w none. sym (axiom_holders (axiom_removed s (l, r)) s.axioms l r front within w none),
  λ w none. sym (axiom_known (axiom_removed s (l, r)) s.axioms l r front within (settled s formed) w none),
)
  where
    within : (e : List ℕ × List ℕ) → Among (axiom_removed s (l, r)).axioms e → Among s.axioms e
    within e m = (among_filter (λ (p : List ℕ × List ℕ). not (same_pair p (l, r))) s.axioms e m).0

    front : (e : List ℕ × List ℕ) → Among s.axioms e → Among ((l, r) ∷ (axiom_removed s (l, r)).axioms) e
    front e m = by (same_pair e (l, r)) refl
      where
        same : same_pair e (l, r) ≡ true → (l, r) ≡ e
        same h =
            let parts = and_parts (same_word e.0 l) (same_word e.1 r) h in
            ap (λ (k : List ℕ). (k, r)) (sym ((same_word_decides e.0 l).0 parts.0)) ∙ ap (λ (k : List ℕ). (e.0, k)) (sym ((same_word_decides e.1 r).0 parts.1))

        by : (b : Bool) → same_pair e (l, r) ≡ b → Among ((l, r) ∷ (axiom_removed s (l, r)).axioms) e
        by true h = inl (same h)
        by false h = inr (filter_among (λ (p : List ℕ × List ℕ). not (same_pair p (l, r))) s.axioms e m (not_from_false _ h))

-- ---- files
not_below : (n : List ℕ) → is_lt (word_cmp n n) ≡ true → ⊥
not_below n h = by (word_cmp n n) refl h
  where
    by : (o : Ordering) → word_cmp n n ≡ o → is_lt o ≡ true → ⊥
    by Less e below = let flipped : Less ≡ ordering_reverse Less = sym e ∙ word_order.antisymm n n ∙ ap ordering_reverse e in cc
    by Equal e below = absurd cc
    by Greater e below = absurd cc

-- one file of each name
pub one_of_name : (files : List File) → is_rising file_cmp files ≡ true → (file other : File) → Among files file → Among files other → file.name ≡ other.name → file ≡ other
one_of_name [] rising file other m n same = absurd m
one_of_name (first ∷ files) rising file other (inl here) (inl there) same = sym here ∙ there
one_of_name (first ∷ files) rising file other (inl here) (inr n) same =
    let below = all_among (λ (f : File). is_lt (file_cmp first f)) files other (and_parts _ _ rising).0 n in
    absurd (not_below other.name (subst (λ (k : List ℕ). is_lt (word_cmp k other.name) ≡ true) (ap (λ (f : File). f.name) here ∙ same) below))
one_of_name (first ∷ files) rising file other (inr m) (inl there) same =
    let below = all_among (λ (f : File). is_lt (file_cmp first f)) files file (and_parts _ _ rising).0 m in
    absurd (not_below file.name (subst (λ (k : List ℕ). is_lt (word_cmp k file.name) ≡ true) (ap (λ (f : File). f.name) there ∙ sym same) below))
one_of_name (first ∷ files) rising file other (inr m) (inr n) same = one_of_name files (and_parts _ _ rising).1 file other m n same

pub adds_file_touches : (s : State) → is_rising word_cmp s.declared ≡ true → (file : File) → has_name s.files file.name ≡ false → Touches s (file_added s file) (description s file) (description s file)
adds_file_touches s rising file new = (changed, learned)
  where
    changed : KeepsHolders s (file_added s file) (description s file)
    changed w none = ap (λ (fs : List File). map (λ (f : File). f.name) fs) (filter_insert file_cmp (λ (f : File). has_word (description s f) w) s.files file (not-true _ none))

    learned : KeepsKnown s (file_added s file) (description s file)
    learned w none =
        ap (λ (ws : List (List ℕ)). has_word ws w) (known_adds_file s rising file new)
        ∙ has_alike (with_words (known s) (description s file)) (known s) w (λ m. to (among_with_words (known s) (description s file) w m)) (with_words_old (known s) (description s file) w)
      where
        to : Among (known s) w ⊎ Among (description s file) w → Among (known s) w
        to (inl m) = m
        to (inr has) = absurd (not_in (description s file) w none has)

pub removes_file_touches : (s : State) → WellFormed s → (file : File) → Among s.files file → Touches s (file_removed s file.name) (description s file) (description s file)
removes_file_touches s formed file m = (changed, learned)
  where
    u : State
    u = file_removed s file.name

    is_file : (f : File) → Among s.files f → same_word f.name file.name ≡ true → f ≡ file
    is_file f n same = one_of_name s.files formed.file_set f file n m ((same_word_decides f.name file.name).0 same)

    changed : KeepsHolders s u (description s file)
    changed w none = ap (λ (fs : List File). map (λ (f : File). f.name) fs) (filter_skips (λ (f : File). has_word (description s f) w) (λ (f : File). not (same_word f.name file.name)) s.files skip)
      where
        skip : (f : File) → Among s.files f → not (same_word f.name file.name) ≡ false → has_word (description s f) w ≡ false
        skip f n gone = subst (λ (k : File). has_word (description s k) w ≡ false) (sym (is_file f n (not-false _ gone))) (not-true _ none)

    learned : KeepsKnown s u (description s file)
    learned w none = has_alike (known u) (known s) w (known_within u s (file_removed_within s file.name) w) (λ k. known_from u w (from (source_of s w k)))
      where
        described : (f : File) → Among s.files f → Among (description s f) w → (b : Bool) → same_word f.name file.name ≡ b → Source u w
        described f n has true same = absurd (not_in (description s file) w none (subst (λ (k : File). Among (description s k) w) (is_file f n same) has))
        described f n has false other = Described f (filter_among (λ (k : File). not (same_word k.name file.name)) s.files f n (not_from_false _ other)) has

        from : Source s w → Source u w
        from (Declared n) = Declared n
        from (Left e n is) = Left e n is
        from (LeftHead e n head) = LeftHead e n head
        from (Described f n has) = described f n has (same_word f.name file.name) refl

-- two changes in sequence
touches_both : (s u t : State) (some more : List (List ℕ)) → Touches s u some some → Touches u t more more → Touches s t (some ++ more) (some ++ more)
touches_both s u t some more first next = (
  λ w none. let parts = apart w none in next.0 w parts.1 ∙ first.0 w parts.0,
  λ w none. let parts = apart w none in next.1 w parts.1 ∙ first.1 w parts.0,
)
  where
    apart : (w : List ℕ) → not (has_word (some ++ more) w) ≡ true → (not (has_word some w) ≡ true) × (not (has_word more w) ≡ true)
    apart w none =
        let parts = or_parts (has_word some w) (has_word more w) (sym (list_any-append (λ k. same_word k w) some more) ∙ not-true _ none) in
        (not_from_false _ parts.0, not_from_false _ parts.1)

pub replaces_file_touches : (s : State) → WellFormed s → (old new : File) → Among s.files old → has_name (file_removed s old.name).files new.name ≡ false
    → Touches s (file_replaced s old.name new) (description s old ++ description s new) (description s old ++ description s new)
replaces_file_touches s formed old new m free =
    touches_both s (file_removed s old.name) (file_replaced s old.name new) (description s old) (description s new)
    (removes_file_touches s formed old m) (adds_file_touches (file_removed s old.name) formed.declared_set new free)
