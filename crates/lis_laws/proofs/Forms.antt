-- What keeps a state well formed: words, axioms and files that are added and removed.
use Rattle.std.proofs.Common.{◌≡◌, ◌⊎◌, ℕ, nat_le, Bool, true, false, not, ◌&&◌, ◌||◌, List, [], ◌∷◌, ◌++◌, length, map, filter, refl, sym, subst, inl, inr, arith}
use Rattle.std.specs.Cmp.{IsTotalOrder}
use Rattle.std.specs.List.{flat_map, list_all, fold}
use Rattle.std.proofs.lemmas.Cmp.{on_total}
use Rattle.std.proofs.lemmas.Bool.{and_parts, and_from, or_cases, or_left, or_right, or_parts, and_cases, not-true, not-false, not_from_false, not_from_true, false_from_ne_true, both_ways, le-leb, leb-true}
use Rattle.lis_graph.specs.Graph.{is_rising}
use Rattle.lis_graph.proofs.Members.{Among, among_filter, filter_among, among_insert_key, insert_key_old, insert_key_new, among_left, among_right, map_among, flat_map_among}
use Rattle.lis_words.specs.Words.{word_cmp, same_word, has_word, head_bytes, is_plain_word, is_valued, is_test}
use Rattle.lis_words.proofs.Tests.{plain_not_test, valued_not_test}
use Rattle.lis_model.specs.Sets.{with_word}
use Rattle.lis_model.specs.State.{State, File, WellFormed, Entails, Acyclic, AxiomsAreFormed, heads, description, is_declarable, is_assignable, is_known_head, is_nameable, pair_cmp, file_cmp, blocks_taken}
use Rattle.lis_model.specs.Changes.{with_axiom, declared_under, undeclared, axiom_added, axiom_removed, same_pair, file_added, file_removed, file_replaced}
use Rattle.lis_model.specs.Step.{is_side, is_had, is_in_use}
use Rattle.lis_laws.specs.Changes.{WordFits, AxiomFits, FileFits, FileReplaces}
use Rattle.lis_laws.proofs.Members.{word_order, word_exact, pair_order, same_word_decides, among_from_has_word, has_word_from_among}
use Rattle.lis_laws.proofs.Chains.{Pairs, up_self, up_own, up_decides, links_head, acyclic_within, heads_of_valued, head_no_test}
use Rattle.lis_laws.proofs.Axioms.{acyclic_with_axiom}
use Rattle.lis_laws.proofs.Counts.{all_among, all_from, all_weaker, all_filter, all_insert_key, rising_insert_key, rising_filter, filter_le, filter_sum_le, filter_drops, filter_sum_drops, insert_key_le, insert_key_sum_le}
use Rattle.lis_laws.proofs.Apart.{Declarable, declarable_cases}
use Rattle.lis_laws.proofs.Apart.Declarable.{Plain, Test, Head}
use Rattle.lis_laws.proofs.Leads.{right_leads, acyclic_by}
use Rattle.lis_laws.proofs.Sources.{is_right, right_plain, rights_are, file_has, Assignable, assignable_cases, assigned_are}
use Rattle.lis_laws.proofs.Sources.Assignable.{Plain as PlainOne, Valued as ValuedOne}
use Rattle.lis_laws.proofs.Sources.OwnWord.{Assigned}
use Rattle.lis_laws.proofs.Known.{IsWithin, described_le, known_le}

pub file_order : IsTotalOrder file_cmp
file_order = on_total (λ (file : File). file.name) word_order

-- ---- tests by the declared words
-- what holds by some declared words holds by others that have the words it needs
both_weaker : (a b c : Bool) → (b ≡ true → c ≡ true) → (a && b) ≡ true → (a && c) ≡ true
both_weaker a b c more h = let parts = and_parts _ _ h in and_from _ _ parts.0 (more parts.1)

either_weaker : (a b c d : Bool) → (a ≡ true → c ≡ true) → (b ≡ true → d ≡ true) → (a || b) ≡ true → (c || d) ≡ true
either_weaker a b c d left right h = by (or_cases _ _ h)
  where
    by : (a ≡ true) ⊎ (b ≡ true) → (c || d) ≡ true
    by (inl e) = or_left _ _ (left e)
    by (inr e) = or_right _ _ (right e)

abbrev pub Keeps : List (List ℕ) → List (List ℕ) → List ℕ → Type 0
Keeps some more word = has_word some word ≡ true → has_word more word ≡ true

assignable_by : (some more : List (List ℕ)) (word : List ℕ) → Keeps some more word → (is_valued word ≡ true → Keeps some more (head_bytes word)) → is_assignable some word ≡ true → is_assignable more word ≡ true
assignable_by some more word plain head h =
    either_weaker _ _ _ _ (both_weaker _ _ _ plain) (λ e. let parts = and_parts _ _ e in and_from _ _ parts.0 (head parts.0 parts.1)) h

known_head_by : (some more : List (List ℕ)) (word : List ℕ) → Keeps some more word → is_known_head some word ≡ true → is_known_head more word ≡ true
known_head_by some more word here h = both_weaker _ _ _ (either_weaker _ _ _ _ here (λ e. e)) h

nameable_by : (some more : List (List ℕ)) (word : List ℕ) → Keeps some more word → (is_valued word ≡ true → Keeps some more (head_bytes word)) → is_nameable some word ≡ true → is_nameable more word ≡ true
nameable_by some more word plain head h =
    either_weaker _ _ _ _ (either_weaker _ _ _ _ (both_weaker _ _ _ plain) (known_head_by some more word plain))
    (λ e. let parts = and_parts _ _ e in and_from _ _ parts.0 (known_head_by some more (head_bytes word) (head parts.0) parts.1)) h

-- ---- a word declared under others
pub keeps_all : (declared : List (List ℕ)) (word w : List ℕ) → Keeps declared (with_word declared word) w
keeps_all declared word w h = has_word_from_among (with_word declared word) w (insert_key_old word_cmp declared word w (among_from_has_word declared w h))

abbrev pub under : List ℕ → Pairs → List (List ℕ) → Pairs
under word axioms words = fold (λ (some : Pairs) (q : List ℕ). with_axiom some (word, q)) axioms words

pub under_old : (word : List ℕ) (axioms : Pairs) (words : List (List ℕ)) (e : List ℕ × List ℕ) → Among axioms e → Among (under word axioms words) e
under_old word axioms [] e m = m
under_old word axioms (q ∷ words) e m = under_old word (with_axiom axioms (word, q)) words e (insert_key_old pair_cmp axioms (word, q) e m)

-- an old axiom, or one from the word to one of the others
pub among_under : (word : List ℕ) (axioms : Pairs) (words : List (List ℕ)) (e : List ℕ × List ℕ) → Among (under word axioms words) e
    → Among axioms e ⊎ ((q : List ℕ) × Among words q × ((word, q) ≡ e))
among_under word axioms [] e m = inl m
among_under word axioms (q ∷ words) e m = by (among_under word (with_axiom axioms (word, q)) words e m)
  where
    first : ((word, q) ≡ e) ⊎ Among axioms e → Among axioms e ⊎ ((p : List ℕ) × Among (q ∷ words) p × ((word, p) ≡ e))
    first (inl same) = inr (q, inl refl, same)
    first (inr old) = inl old

    by : Among (with_axiom axioms (word, q)) e ⊎ ((p : List ℕ) × Among words p × ((word, p) ≡ e)) → Among axioms e ⊎ ((p : List ℕ) × Among (q ∷ words) p × ((word, p) ≡ e))
    by (inl m) = first (among_insert_key pair_cmp axioms (word, q) e m)
    by (inr found) = inr (found.0, inr found.1, found.2)

under_rising : (word : List ℕ) (axioms : Pairs) (words : List (List ℕ)) → is_rising pair_cmp axioms ≡ true → is_rising pair_cmp (under word axioms words) ≡ true
under_rising word axioms [] h = h
under_rising word axioms (q ∷ words) h = under_rising word (with_axiom axioms (word, q)) words (rising_insert_key pair_cmp pair_order axioms (word, q) h)

pub under_all : (test : List ℕ × List ℕ → Bool) (word : List ℕ) (axioms : Pairs) (words : List (List ℕ)) → ((e : List ℕ × List ℕ) → Among axioms e → test e ≡ true)
    → ((q : List ℕ) → Among words q → test (word, q) ≡ true) → (e : List ℕ × List ℕ) → Among (under word axioms words) e → test e ≡ true
under_all test word axioms words old new e m = by (among_under word axioms words e m)
  where
    by : Among axioms e ⊎ ((q : List ℕ) × Among words q × ((word, q) ≡ e)) → test e ≡ true
    by (inl there) = old e there
    by (inr found) = subst (λ (k : List ℕ × List ℕ). test k ≡ true) found.2 (new found.0 found.1)

-- from a right side only right sides are reached, and the word is not one
under_acyclic : (s : State) (word : List ℕ) → is_right s word ≡ false → (axioms : Pairs) (words : List (List ℕ)) → ((e : List ℕ × List ℕ) → Among axioms e → is_right s e.1 ≡ true)
    → ((q : List ℕ) → Among words q → is_right s q ≡ true) → Acyclic s.declared axioms → Acyclic s.declared (under word axioms words)
under_acyclic s word new axioms [] rights over none = none
under_acyclic s word new axioms (q ∷ words) rights over none =
    under_acyclic s word new (with_axiom axioms (word, q)) words (λ e m. more e (among_insert_key pair_cmp axioms (word, q) e m)) (λ p m. over p (inr m))
    ((acyclic_with_axiom s.declared axioms (word, q)).1 (none, no_way_back))
  where
    more : (e : List ℕ × List ℕ) → ((word, q) ≡ e) ⊎ Among axioms e → is_right s e.1 ≡ true
    more e (inl same) = subst (λ (k : List ℕ × List ℕ). is_right s k.1 ≡ true) same (over q (inl refl))
    more e (inr m) = rights e m

    no_way_back : Entails s.declared axioms q word → ⊥
    no_way_back chain = both_ways (is_right s word) new (right_leads (is_right s) (right_plain s) axioms rights s.declared chain.0 q word (over q (inl refl)) chain.1)

nameable_declared : (declared : List (List ℕ)) (word : List ℕ) → is_declarable word ≡ true → has_word declared word ≡ true → is_nameable declared word ≡ true
nameable_declared declared word form has = by (declarable_cases word form)
  where
    by : Declarable word → is_nameable declared word ≡ true
    by (Plain plain) = or_left _ _ (or_left _ _ (and_from _ _ (or_left _ _ plain) has))
    by (Test test) = or_left _ _ (or_left _ _ (and_from _ _ (or_right (is_plain_word word) _ test) has))
    by (Head head own) = or_left _ _ (or_right ((is_plain_word word || is_test word) && has_word declared word) _ (and_from _ _ head (or_left _ _ has)))

pub over_right : (s : State) (words : List (List ℕ)) → list_all (λ q. is_plain_word q && has_word s.declared q) words ≡ true → (q : List ℕ) → Among words q → is_right s q ≡ true
over_right s words over q m = all_among (λ (w : List ℕ). is_plain_word w && has_word s.declared w) words q over m

pub declares : (s : State) → WellFormed s → (word : List ℕ) (words : List (List ℕ)) → WordFits s word words → WellFormed (declared_under s word words)
declares s formed word words fits = record {
  limits = formed.limits;
  declared_set = rising_insert_key word_cmp word_order s.declared word formed.declared_set;
  axiom_set = under_rising word s.axioms words formed.axiom_set;
  file_set = formed.file_set;
  declared = all_insert_key word_cmp is_declarable s.declared word formed.declared fits.form;
  axioms = record {
    rights = all_from _ (under word s.axioms words) (under_all (λ (pair : List ℕ × List ℕ). is_plain_word pair.1 && has_word declared pair.1) word s.axioms words
        (λ e m. both_weaker _ _ _ (keeps_all s.declared word e.1) (rights_are s formed e m)) (λ q m. both_weaker _ _ _ (keeps_all s.declared word q) (over q m)));
    lefts = all_from _ (under word s.axioms words) (under_all (λ (pair : List ℕ × List ℕ). is_nameable declared pair.0) word s.axioms words
        (λ e m. nameable_by s.declared declared e.0 (keeps_all s.declared word e.0) (λ v. keeps_all s.declared word (head_bytes e.0))
        (all_among (λ (pair : List ℕ × List ℕ). is_nameable s.declared pair.0) s.axioms e formed.axioms.lefts m))
        (λ q m. nameable_declared declared word fits.form (has_word_from_among declared word (insert_key_new word_cmp word_exact s.declared word))));
    acyclic = acyclic_by (is_right s) (right_plain s) (under word s.axioms words) rights s.declared declared (under_acyclic s word new s.axioms words (rights_are s formed) over formed.axioms.acyclic);
  };
  files = record {
    names = formed.files.names;
    assigned_sets = formed.files.assigned_sets;
    assigned = all_weaker _ _ s.files (λ file m h. all_weaker _ _ file.assigned (λ w n e. assignable_by s.declared declared w (keeps_all s.declared word w) (λ v. keeps_all s.declared word (head_bytes w)) e) h) formed.files.assigned;
    few_assigned = formed.files.few_assigned;
    few_words = fits.few_words;
    short = formed.files.short;
  };
  few_files = formed.few_files;
  few_known = fits.few_known;
  few_axioms = fits.few_axioms;
  few_blocks = formed.few_blocks;
}
  where
    declared : List (List ℕ)
    declared = with_word s.declared word

    over : (q : List ℕ) → Among words q → is_right s q ≡ true
    over = over_right s words fits.over

    new : is_right s word ≡ false
    new = false_from_ne_true (is_right s word) (λ right. both_ways (has_word s.declared word) (not-true _ fits.new) (and_parts (is_plain_word word) (has_word s.declared word) right).1)

    rights : (e : List ℕ × List ℕ) → Among (under word s.axioms words) e → is_right s e.1 ≡ true
    rights = under_all (λ (pair : List ℕ × List ℕ). is_right s pair.1) word s.axioms words (rights_are s formed) over

-- ---- a word no longer declared
abbrev others : List (List ℕ) → List ℕ → List (List ℕ)
others declared word = filter (λ w. not (same_word w word)) declared

keeps_other : (declared : List (List ℕ)) (word w : List ℕ) → same_word w word ≡ false → Keeps declared (others declared word) w
keeps_other declared word w other h =
    has_word_from_among (others declared word) w
    (filter_among (λ v. not (same_word v word)) declared w (among_from_has_word declared w h) (not_from_false _ other))

not_among : (words : List (List ℕ)) (word w : List ℕ) → has_word words word ≡ false → Among words w → same_word w word ≡ false
not_among words word w none m = false_from_ne_true _ (λ same. found (subst (λ k. Among words k) ((same_word_decides w word).0 same) m))
  where
    found : Among words word → ⊥
    found there = let has = has_word_from_among words word there in cc

-- the word is on no side of an axiom, is no head of a left side, and is not assigned to a file, nor is a word of which it is the head
record IsUnused (s : State) (word : List ℕ) : Type 0 where
  assigned : (file : File) → Among s.files file → (w : List ℕ) → Among file.assigned w → same_word w word ≡ false
  assigned_head : (file : File) → Among s.files file → (w : List ℕ) → Among file.assigned w → is_valued w ≡ true → same_word (head_bytes w) word ≡ false
  left : (pair : List ℕ × List ℕ) → Among s.axioms pair → same_word pair.0 word ≡ false
  left_head : (pair : List ℕ × List ℕ) → Among s.axioms pair → is_valued pair.0 ≡ true → same_word (head_bytes pair.0) word ≡ false
  right : (pair : List ℕ × List ℕ) → Among s.axioms pair → same_word pair.1 word ≡ false

other_word : (w word : List ℕ) → is_test word ≡ true → (is_test w ≡ true → ⊥) → same_word w word ≡ false
other_word w word test none = false_from_ne_true _ (λ same. none (subst (λ k. is_test k ≡ true) (sym ((same_word_decides w word).0 same)) test))

unused : (s : State) → WellFormed s → (word : List ℕ) → not (is_in_use s word) ≡ true → IsUnused s word
unused s formed word h = by (or_parts _ _ (not-true _ h))
  where
    lefts : List (List ℕ)
    lefts = map (λ (pair : List ℕ × List ℕ). pair.0) s.axioms

    rights : List (List ℕ)
    rights = map (λ (pair : List ℕ × List ℕ). pair.1) s.axioms

    had : List (List ℕ)
    had = flat_map (λ (pair : List ℕ × List ℕ). heads pair.0) s.axioms ++ flat_map (description s) s.files

    no_left : is_side s word ≡ false → (pair : List ℕ × List ℕ) → Among s.axioms pair → same_word pair.0 word ≡ false
    no_left none pair m = not_among (lefts ++ rights) word pair.0 none (among_left lefts rights pair.0 (map_among (λ (e : List ℕ × List ℕ). e.0) s.axioms pair m))

    no_right : is_side s word ≡ false → (pair : List ℕ × List ℕ) → Among s.axioms pair → same_word pair.1 word ≡ false
    no_right none pair m = not_among (lefts ++ rights) word pair.1 none (among_right lefts rights pair.1 (map_among (λ (e : List ℕ × List ℕ). e.1) s.axioms pair m))

    no_test : (file : File) (w : List ℕ) → Assignable s.declared w → is_test w ≡ true → ⊥
    no_test file w (PlainOne plain there) test = both_ways (is_test w) (plain_not_test w plain) test
    no_test file w (ValuedOne valued there) test = both_ways (is_test w) (valued_not_test w valued) test

    described : is_had s word ≡ false → (file : File) → Among s.files file → (w : List ℕ) → Among (description s file) w → same_word w word ≡ false
    described none file m w has =
        not_among had word w none (among_right (flat_map (λ (pair : List ℕ × List ℕ). heads pair.0) s.axioms) (flat_map (description s) s.files) w (flat_map_among (description s) s.files file w m has))

    of_test : is_side s word ≡ false → is_test word ≡ true → IsUnused s word
    of_test none test = record {
      assigned = λ file m w given. other_word w word test (no_test file w (assignable_cases s.declared w (assigned_are s formed file m w given)));
      assigned_head = λ file m w given valued. other_word (head_bytes w) word test (head_no_test w);
      left = no_left none;
      left_head = λ pair m valued. other_word (head_bytes pair.0) word test (head_no_test pair.0);
      right = no_right none;
    }

    of_word : is_side s word ≡ false → is_had s word ≡ false → IsUnused s word
    of_word none lacks = record {
      assigned = λ file m w given. described lacks file m w (file_has s file w w (Assigned given) (up_self s.declared s.axioms w));
      assigned_head = λ file m w given valued. described lacks file m (head_bytes w)
          (file_has s file w (head_bytes w) (Assigned given) (up_own s.declared s.axioms w (head_bytes w) (links_head s.declared w valued)));
      left = no_left none;
      left_head = λ pair m valued. not_among had word (head_bytes pair.0) lacks
          (among_left (flat_map (λ (e : List ℕ × List ℕ). heads e.0) s.axioms) (flat_map (description s) s.files) (head_bytes pair.0)
          (flat_map_among (λ (e : List ℕ × List ℕ). heads e.0) s.axioms pair (head_bytes pair.0) m (heads_of_valued pair.0 valued)));
      right = no_right none;
    }

    by : (is_side s word ≡ false) × ((not (is_test word) && is_had s word) ≡ false) → IsUnused s word
    by parts = on (and_cases _ _ parts.1)
      where
        on : (not (is_test word) ≡ false) ⊎ (is_had s word ≡ false) → IsUnused s word
        on (inl test) = of_test parts.0 (not-false _ test)
        on (inr lacks) = of_word parts.0 lacks

pub undeclared_within : (s : State) (word : List ℕ) → IsWithin (undeclared s word) s
undeclared_within s word = record { declared = λ w m. (among_filter (λ v. not (same_word v word)) s.declared w m).0; axioms = λ e m. m; files = λ f m. m }

pub undeclares : (s : State) → WellFormed s → (word : List ℕ) → not (is_in_use s word) ≡ true → WellFormed (undeclared s word)
undeclares s formed word h = by (unused s formed word h)
  where
    shorter : (file : File) → nat_le (length (description s file)) 128 ≡ true → nat_le (length (description (undeclared s word) file)) 128 ≡ true
    shorter file e = le-leb _ _ (omega (arith, leb-true _ _ e, described_le (undeclared s word) s (undeclared_within s word) file))

    by : IsUnused s word → WellFormed (undeclared s word)
    by free = record {
      limits = formed.limits;
      declared_set = rising_filter word_cmp _ s.declared formed.declared_set;
      axiom_set = formed.axiom_set;
      file_set = formed.file_set;
      declared = all_filter is_declarable _ s.declared formed.declared;
      axioms = record {
        rights = all_weaker _ _ s.axioms (λ pair m e. both_weaker _ _ _ (keeps_other s.declared word pair.1 (free.right pair m)) e) formed.axioms.rights;
        lefts = all_weaker _ _ s.axioms (λ pair m e. nameable_by s.declared (others s.declared word) pair.0 (keeps_other s.declared word pair.0 (free.left pair m))
            (λ v. keeps_other s.declared word (head_bytes pair.0) (free.left_head pair m v)) e) formed.axioms.lefts;
        acyclic = acyclic_by (is_right s) (right_plain s) s.axioms (rights_are s formed) s.declared (others s.declared word) formed.axioms.acyclic;
      };
      files = record {
        names = formed.files.names;
        assigned_sets = formed.files.assigned_sets;
        assigned = all_weaker _ _ s.files (λ file m e. all_weaker _ _ file.assigned (λ w n a. assignable_by s.declared (others s.declared word) w
            (keeps_other s.declared word w (free.assigned file m w n)) (λ v. keeps_other s.declared word (head_bytes w) (free.assigned_head file m w n v)) a) e) formed.files.assigned;
        few_assigned = formed.files.few_assigned;
        few_words = all_weaker _ _ s.files (λ file m e. shorter file e) formed.files.few_words;
        short = formed.files.short;
      };
      few_files = formed.few_files;
      few_known = omega (arith, formed.few_known, known_le (undeclared s word) s (undeclared_within s word) (rising_filter word_cmp _ s.declared formed.declared_set) formed.declared_set);
      few_axioms = formed.few_axioms;
      few_blocks = formed.few_blocks;
    }

-- ---- axioms
pub adds_axiom : (s : State) → WellFormed s → (pair : List ℕ × List ℕ) → AxiomFits s pair → WellFormed (axiom_added s pair)
adds_axiom s formed pair fits = record {
  limits = formed.limits;
  declared_set = formed.declared_set;
  axiom_set = rising_insert_key pair_cmp pair_order s.axioms pair formed.axiom_set;
  file_set = formed.file_set;
  declared = formed.declared;
  axioms = record {
    rights = all_insert_key pair_cmp _ s.axioms pair formed.axioms.rights fits.right;
    lefts = all_insert_key pair_cmp _ s.axioms pair formed.axioms.lefts fits.left;
    acyclic = (acyclic_with_axiom s.declared s.axioms pair).1 (formed.axioms.acyclic, no_way_back);
  };
  files = record {
    names = formed.files.names;
    assigned_sets = formed.files.assigned_sets;
    assigned = formed.files.assigned;
    few_assigned = formed.files.few_assigned;
    few_words = fits.few_words;
    short = formed.files.short;
  };
  few_files = formed.few_files;
  few_known = fits.few_known;
  few_axioms = fits.few_axioms;
  few_blocks = formed.few_blocks;
}
  where
    no_way_back : Entails s.declared s.axioms pair.1 pair.0 → ⊥
    no_way_back back =
        let there = (up_decides s.declared s.axioms pair.1 pair.0).1 back in
        let none = not-true _ fits.no_circle in
        cc

pub axiom_removed_within : (s : State) (pair : List ℕ × List ℕ) → IsWithin (axiom_removed s pair) s
axiom_removed_within s pair = record { declared = λ w m. m; axioms = λ e m. (among_filter (λ p. not (same_pair p pair)) s.axioms e m).0; files = λ f m. m }

pub removes_axiom : (s : State) → WellFormed s → (pair : List ℕ × List ℕ) → WellFormed (axiom_removed s pair)
removes_axiom s formed pair = record {
  limits = formed.limits;
  declared_set = formed.declared_set;
  axiom_set = rising_filter pair_cmp _ s.axioms formed.axiom_set;
  file_set = formed.file_set;
  declared = formed.declared;
  axioms = record {
    rights = all_filter _ _ s.axioms formed.axioms.rights;
    lefts = all_filter _ _ s.axioms formed.axioms.lefts;
    acyclic = acyclic_within s.declared (axiom_removed s pair).axioms s.axioms fewer formed.axioms.acyclic;
  };
  files = record {
    names = formed.files.names;
    assigned_sets = formed.files.assigned_sets;
    assigned = formed.files.assigned;
    few_assigned = formed.files.few_assigned;
    few_words = all_weaker _ _ s.files (λ file m h. shorter file h) formed.files.few_words;
    short = formed.files.short;
  };
  few_files = formed.few_files;
  few_known = omega (arith, formed.few_known, known_le (axiom_removed s pair) s within formed.declared_set formed.declared_set);
  few_axioms = omega (arith, formed.few_axioms, filter_le (λ p. not (same_pair p pair)) s.axioms);
  few_blocks = formed.few_blocks;
}
  where
    fewer : (e : List ℕ × List ℕ) → Among (axiom_removed s pair).axioms e → Among s.axioms e
    fewer = (axiom_removed_within s pair).axioms

    within : IsWithin (axiom_removed s pair) s
    within = axiom_removed_within s pair

    shorter : (file : File) → nat_le (length (description s file)) 128 ≡ true → nat_le (length (description (axiom_removed s pair) file)) 128 ≡ true
    shorter file h = le-leb _ _ (omega (arith, leb-true _ _ h, described_le (axiom_removed s pair) s within file))

-- ---- files
pub adds_file : (s : State) → WellFormed s → (file : File) → FileFits s file → WellFormed (file_added s file)
adds_file s formed file fits = record {
  limits = formed.limits;
  declared_set = formed.declared_set;
  axiom_set = formed.axiom_set;
  file_set = rising_insert_key file_cmp file_order s.files file formed.file_set;
  declared = formed.declared;
  axioms = formed_axioms formed.axioms;
  files = record {
    names = all_insert_key file_cmp _ s.files file formed.files.names fits.name;
    assigned_sets = all_insert_key file_cmp _ s.files file formed.files.assigned_sets fits.assigned_set;
    assigned = all_insert_key file_cmp _ s.files file formed.files.assigned fits.assigned;
    few_assigned = all_insert_key file_cmp _ s.files file formed.files.few_assigned (le-leb _ _ fits.few_assigned);
    few_words = all_insert_key file_cmp _ s.files file formed.files.few_words (le-leb _ _ fits.few_words);
    short = all_insert_key file_cmp _ s.files file formed.files.short (le-leb _ _ fits.short);
  };
  few_files = omega (arith, fits.few_files, insert_key_le file_cmp s.files file);
  few_known = fits.few_known;
  few_axioms = formed.few_axioms;
  few_blocks = omega (arith, fits.few_blocks, insert_key_sum_le file_cmp (λ (f : File). blocks_taken s.limits.version (length f.bytes)) s.files file);
}
  where
    formed_axioms : AxiomsAreFormed s → AxiomsAreFormed (file_added s file)
    formed_axioms a = record { rights = a.rights; lefts = a.lefts; acyclic = a.acyclic }

pub file_removed_within : (s : State) (name : List ℕ) → IsWithin (file_removed s name) s
file_removed_within s name = record { declared = λ w m. m; axioms = λ e m. m; files = λ f m. (among_filter (λ (file : File). not (same_word file.name name)) s.files f m).0 }

pub removes_file : (s : State) → WellFormed s → (name : List ℕ) → WellFormed (file_removed s name)
removes_file s formed name = record {
  limits = formed.limits;
  declared_set = formed.declared_set;
  axiom_set = formed.axiom_set;
  file_set = rising_filter file_cmp _ s.files formed.file_set;
  declared = formed.declared;
  axioms = formed_axioms formed.axioms;
  files = record {
    names = all_filter _ _ s.files formed.files.names;
    assigned_sets = all_filter _ _ s.files formed.files.assigned_sets;
    assigned = all_filter _ _ s.files formed.files.assigned;
    few_assigned = all_filter _ _ s.files formed.files.few_assigned;
    few_words = all_filter _ _ s.files formed.files.few_words;
    short = all_filter _ _ s.files formed.files.short;
  };
  few_files = omega (arith, formed.few_files, filter_le (λ (f : File). not (same_word f.name name)) s.files);
  few_known = omega (arith, formed.few_known, known_le (file_removed s name) s (file_removed_within s name) formed.declared_set formed.declared_set);
  few_axioms = formed.few_axioms;
  few_blocks = omega (arith, formed.few_blocks, filter_sum_le (λ (f : File). blocks_taken s.limits.version (length f.bytes)) (λ (f : File). not (same_word f.name name)) s.files);
}
  where
    formed_axioms : AxiomsAreFormed s → AxiomsAreFormed (file_removed s name)
    formed_axioms a = record { rights = a.rights; lefts = a.lefts; acyclic = a.acyclic }

pub replaces_file : (s : State) → WellFormed s → (old new : File) → Among s.files old → FileReplaces s old new → WellFormed (file_replaced s old.name new)
replaces_file s formed old new m fits =
    adds_file (file_removed s old.name) (removes_file s formed old.name) new (record {
      name = fits.name;
      assigned_set = fits.assigned_set;
      assigned = fits.assigned;
      few_assigned = fits.few_assigned;
      few_words = fits.few_words;
      short = fits.short;
      few_files = omega (arith, formed.few_files, filter_drops (λ (f : File). not (same_word f.name old.name)) s.files old m gone);
      few_known = fits.few_known;
      few_blocks = omega (arith, fits.few_blocks, filter_sum_drops (λ (f : File). blocks_taken s.limits.version (length f.bytes)) (λ (f : File). not (same_word f.name old.name)) s.files old m gone);
    })
  where
    gone : not (same_word old.name old.name) ≡ false
    gone = not_from_true _ ((same_word_decides old.name old.name).1 refl)
