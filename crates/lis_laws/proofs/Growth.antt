-- Which words become known when something is added to a state.
use Rattle.std.proofs.Common.{◌≡◌, ◌⊎◌, ℕ, true, false, ◌&&◌, List, ◌∷◌, sym, ap, subst, ◌∙◌, inl, inr}
use Rattle.std.specs.List.{list_all}
use Rattle.std.proofs.lemmas.Bool.{both_ways}
use Rattle.lis_graph.specs.Graph.{is_rising}
use Rattle.lis_graph.proofs.Members.{Among, among_insert_key, insert_key_old, insert_key_new}
use Rattle.lis_graph.proofs.Sets as sets
use Rattle.lis_words.specs.Words.{word_cmp, has_word, is_plain_word, is_valued}
use Rattle.lis_model.specs.Sets.{with_word, with_words}
use Rattle.lis_model.specs.State.{State, File, WellFormed, heads, file_words, description, known, is_declarable, pair_cmp, file_cmp}
use Rattle.lis_model.specs.Changes.{with_axiom, declared_under, axiom_added, has_name, file_added}
use Rattle.lis_laws.proofs.Members.{word_exact, word_order, pair_exact, among_with_words, with_words_old, with_words_new, sorted_with_words, same_words}
use Rattle.lis_laws.proofs.Chains.{Pairs, among_heads}
use Rattle.lis_laws.proofs.Chains.OwnLink.{Head, Weaker}
use Rattle.lis_laws.proofs.Counts.{all_among, rising_insert_key}
use Rattle.lis_laws.proofs.Apart.{declarable_not_valued}
use Rattle.lis_laws.proofs.Sources.{OwnWord, own_from, Source, source_of, known_from, is_right, rights_are, right_declared}
use Rattle.lis_laws.proofs.Sources.OwnWord.{Assigned, Derived, Met}
use Rattle.lis_laws.proofs.Sources.Source.{Declared, Left, LeftHead, Described}
use Rattle.lis_laws.proofs.Closures.{all_up_has}
use Rattle.lis_laws.proofs.Reached.{OneLink, described_link, described_keeps}
use Rattle.lis_laws.proofs.Forms.{under, under_old, among_under, over_right}
use Rattle.lis_laws.proofs.Named.{file_there}
use Rattle.lis_laws.proofs.Known.{IsWithin, known_within, sorted_known}

-- the declared words are no valued ones, and the right sides of axioms are among them
pub record IsSettled (declared : List (List ℕ)) (axioms : Pairs) : Type 0 where
  pub not_valued : (w : List ℕ) → Among declared w → is_valued w ≡ false
  pub rights : (e : List ℕ × List ℕ) → Among axioms e → Among declared e.1

-- Then a file's words are declared, or those that it has with any other declared words and axioms.
pub declared_or_had : (some more : List (List ℕ)) (axioms others : Pairs) → IsSettled more others → (file : File) (w : List ℕ) → Among (file_words more others file) w
    → Among (file_words some axioms file) w ⊎ Among more w
declared_or_had some more axioms others settled file = described_keeps more others (λ w. Among (file_words some axioms file) w ⊎ Among more w) link file own
  where
    own : (w : List ℕ) → OwnWord more file w → Among (file_words some axioms file) w ⊎ Among more w
    own w (Assigned m) = inl (all_up_has some axioms _ w (own_from some file w (Assigned m)))
    own w (Derived m) = inl (all_up_has some axioms _ w (own_from some file w (Derived m)))
    own w (Met m met) = inr m

    link : (p r : List ℕ) → Among (file_words some axioms file) p ⊎ Among more p → OneLink more others p r → Among (file_words some axioms file) r ⊎ Among more r
    link p r (inl at) (inl (Head valued is)) = inl (described_link some axioms file p r at (inl (Head valued is)))
    link p r (inr at) (inl (Head valued is)) = absurd (both_ways (is_valued p) (settled.not_valued p at) valued)
    link p r at (inl (Weaker w)) = inr w.to
    link p r at (inr edge) = inr (settled.rights (p, r) edge)

pub settled : (s : State) → WellFormed s → IsSettled s.declared s.axioms
settled s formed = record {
  not_valued = λ w m. declarable_not_valued w (all_among is_declarable s.declared w formed.declared m);
  rights = λ e m. right_declared s e.1 (rights_are s formed e m);
}

-- ---- a word declared under others
-- an axiom from the word to one of the others
abbrev pub IsUnder : List ℕ → List (List ℕ) → List ℕ × List ℕ → Type 0
IsUnder word words e = (q : List ℕ) × Among words q × ((word, q) ≡ e)

-- what a word needs to be declared under others
pub record IsPlaced (s : State) (word : List ℕ) (words : List (List ℕ)) : Type 0 where
  pub form : is_declarable word ≡ true
  pub over : list_all (λ q. is_plain_word q && has_word s.declared q) words ≡ true

pub under_settled : (s : State) → WellFormed s → (word : List ℕ) (words : List (List ℕ)) → IsPlaced s word words
    → IsSettled (declared_under s word words).declared (declared_under s word words).axioms
under_settled s formed word words placed = record {
  not_valued = λ w m. plain w (among_insert_key word_cmp s.declared word w m);
  rights = λ e m. insert_key_old word_cmp s.declared word e.1 (right e (among_under word s.axioms words e m));
}
  where
    plain : (w : List ℕ) → (word ≡ w) ⊎ Among s.declared w → is_valued w ≡ false
    plain w (inl same) = subst (λ k. is_valued k ≡ false) same (declarable_not_valued word placed.form)
    plain w (inr m) = (settled s formed).not_valued w m

    right : (e : List ℕ × List ℕ) → Among s.axioms e ⊎ IsUnder word words e → Among s.declared e.1
    right e (inl old) = (settled s formed).rights e old
    right e (inr new) = subst (λ (k : List ℕ × List ℕ). Among s.declared k.1) new.2 (right_declared s new.0 (over_right s words placed.over new.0 new.1))

pub under_within : (s : State) (word : List ℕ) (words : List (List ℕ)) → IsWithin s (declared_under s word words)
under_within s word words = record { declared = insert_key_old word_cmp s.declared word; axioms = under_old word s.axioms words; files = λ f m. m }

pub known_declares : (s : State) → WellFormed s → (word : List ℕ) (words : List (List ℕ)) → IsPlaced s word words → known (declared_under s word words) ≡ with_word (known s) word
known_declares s formed word words placed =
    same_words (known (declared_under s word words)) (with_word (known s) word)
    (sorted_known (declared_under s word words) (rising_insert_key word_cmp word_order s.declared word formed.declared_set))
    (sets.sorted_insert_key word_cmp word_order (known s) word (sorted_known s formed.declared_set))
    (λ w m. to w (source_of (declared_under s word words) w m)) (λ w m. from w (among_insert_key word_cmp (known s) word w m))
  where
    old : (w : List ℕ) → Source s w → Among (with_word (known s) word) w
    old w source = insert_key_old word_cmp (known s) word w (known_from s w source)

    new : (w : List ℕ) → word ≡ w → Among (with_word (known s) word) w
    new w same = subst (λ (k : List ℕ). Among (with_word (known s) word) k) same (insert_key_new word_cmp word_exact (known s) word)

    declared : (w : List ℕ) → (word ≡ w) ⊎ Among s.declared w → Among (with_word (known s) word) w
    declared w (inl same) = new w same
    declared w (inr m) = old w (Declared m)

    left : (w : List ℕ) (e : List ℕ × List ℕ) → e.0 ≡ w → Among s.axioms e ⊎ IsUnder word words e → Among (with_word (known s) word) w
    left w e is (inl m) = old w (Left e m is)
    left w e is (inr more) = new w (ap (λ (k : List ℕ × List ℕ). k.0) more.2 ∙ is)

    above : (w : List ℕ) (e : List ℕ × List ℕ) → Among (heads e.0) w → Among s.axioms e ⊎ IsUnder word words e → Among (with_word (known s) word) w
    above w e head (inl m) = old w (LeftHead e m head)
    above w e head (inr more) =
        absurd (both_ways (is_valued word) (declarable_not_valued word placed.form) (subst (λ (k : List ℕ × List ℕ). is_valued k.0 ≡ true) (sym more.2) (among_heads e.0 w head).0))

    described : (w : List ℕ) (file : File) → Among s.files file → Among (description s file) w ⊎ Among (with_word s.declared word) w → Among (with_word (known s) word) w
    described w file m (inl has) = old w (Described file m has)
    described w file m (inr there) = declared w (among_insert_key word_cmp s.declared word w there)

    to : (w : List ℕ) → Source (declared_under s word words) w → Among (with_word (known s) word) w
    to w (Declared m) = declared w (among_insert_key word_cmp s.declared word w m)
    to w (Left e m is) = left w e is (among_under word s.axioms words e m)
    to w (LeftHead e m head) = above w e head (among_under word s.axioms words e m)
    to w (Described file m has) =
        described w file m (declared_or_had s.declared (with_word s.declared word) s.axioms (under word s.axioms words) (under_settled s formed word words placed) file w has)

    from : (w : List ℕ) → (word ≡ w) ⊎ Among (known s) w → Among (known (declared_under s word words)) w
    from w (inl same) =
        known_from (declared_under s word words) w (Declared (subst (λ (k : List ℕ). Among (with_word s.declared word) k) same (insert_key_new word_cmp word_exact s.declared word)))
    from w (inr m) = known_within s (declared_under s word words) (under_within s word words) w m

-- ---- a new file
file_within : (s : State) (file : File) → IsWithin s (file_added s file)
file_within s file = record { declared = λ w m. m; axioms = λ e m. m; files = insert_key_old file_cmp s.files file }

pub known_adds_file : (s : State) → is_rising word_cmp s.declared ≡ true → (file : File) → has_name s.files file.name ≡ false
    → known (file_added s file) ≡ with_words (known s) (description s file)
known_adds_file s rising file new =
    same_words (known (file_added s file)) (with_words (known s) (description s file))
    (sorted_known (file_added s file) rising) (sorted_with_words (known s) (description s file) (sorted_known s rising))
    (λ w m. to w (source_of (file_added s file) w m)) (λ w m. from w (among_with_words (known s) (description s file) w m))
  where
    old : (w : List ℕ) → Source s w → Among (with_words (known s) (description s file)) w
    old w source = with_words_old (known s) (description s file) w (known_from s w source)

    described : (w : List ℕ) (f : File) → (file ≡ f) ⊎ Among s.files f → Among (description s f) w → Among (with_words (known s) (description s file)) w
    described w f (inl same) has = with_words_new (known s) (description s file) w (subst (λ (o : File). Among (description s o) w) (sym same) has)
    described w f (inr m) has = old w (Described f m has)

    to : (w : List ℕ) → Source (file_added s file) w → Among (with_words (known s) (description s file)) w
    to w (Declared m) = old w (Declared m)
    to w (Left e m is) = old w (Left e m is)
    to w (LeftHead e m head) = old w (LeftHead e m head)
    to w (Described f m has) = described w f (among_insert_key file_cmp s.files file f m) has

    from : (w : List ℕ) → Among (known s) w ⊎ Among (description s file) w → Among (known (file_added s file)) w
    from w (inl m) = known_within s (file_added s file) (file_within s file) w m
    from w (inr has) = known_from (file_added s file) w (Described file (file_there s file new) has)

-- ---- a new axiom
axiom_within : (s : State) (pair : List ℕ × List ℕ) → IsWithin s (axiom_added s pair)
axiom_within s pair = record { declared = λ w m. m; axioms = insert_key_old pair_cmp s.axioms pair; files = λ f m. m }

pub axiom_settled : (s : State) → WellFormed s → (l r : List ℕ) → is_right s r ≡ true → IsSettled s.declared (with_axiom s.axioms (l, r))
axiom_settled s formed l r right = record { not_valued = (settled s formed).not_valued; rights = λ e m. rights e (among_insert_key pair_cmp s.axioms (l, r) e m) }
  where
    rights : (e : List ℕ × List ℕ) → ((l, r) ≡ e) ⊎ Among s.axioms e → Among s.declared e.1
    rights e (inl same) = subst (λ (k : List ℕ × List ℕ). Among s.declared k.1) same (right_declared s r right)
    rights e (inr m) = (settled s formed).rights e m

pub known_adds_axiom : (s : State) → WellFormed s → (l r : List ℕ) → is_right s r ≡ true → known (axiom_added s (l, r)) ≡ with_words (known s) (l ∷ heads l)
known_adds_axiom s formed l r right =
    same_words (known (axiom_added s (l, r))) (with_words (known s) (l ∷ heads l))
    (sorted_known (axiom_added s (l, r)) formed.declared_set) (sorted_with_words (known s) (l ∷ heads l) (sorted_known s formed.declared_set))
    (λ w m. to w (source_of (axiom_added s (l, r)) w m)) (λ w m. from w (among_with_words (known s) (l ∷ heads l) w m))
  where
    old : (w : List ℕ) → Source s w → Among (with_words (known s) (l ∷ heads l)) w
    old w source = with_words_old (known s) (l ∷ heads l) w (known_from s w source)

    new : (w : List ℕ) → Among (l ∷ heads l) w → Among (with_words (known s) (l ∷ heads l)) w
    new w m = with_words_new (known s) (l ∷ heads l) w m

    left : (w : List ℕ) (e : List ℕ × List ℕ) → e.0 ≡ w → ((l, r) ≡ e) ⊎ Among s.axioms e → Among (with_words (known s) (l ∷ heads l)) w
    left w e is (inl same) = new w (inl (ap (λ (k : List ℕ × List ℕ). k.0) same ∙ is))
    left w e is (inr m) = old w (Left e m is)

    above : (w : List ℕ) (e : List ℕ × List ℕ) → Among (heads e.0) w → ((l, r) ≡ e) ⊎ Among s.axioms e → Among (with_words (known s) (l ∷ heads l)) w
    above w e head (inl same) = new w (inr (subst (λ (k : List ℕ × List ℕ). Among (heads k.0) w) (sym same) head))
    above w e head (inr m) = old w (LeftHead e m head)

    described : (w : List ℕ) (file : File) → Among s.files file → Among (description s file) w ⊎ Among s.declared w → Among (with_words (known s) (l ∷ heads l)) w
    described w file m (inl has) = old w (Described file m has)
    described w file m (inr there) = old w (Declared there)

    to : (w : List ℕ) → Source (axiom_added s (l, r)) w → Among (with_words (known s) (l ∷ heads l)) w
    to w (Declared m) = old w (Declared m)
    to w (Left e m is) = left w e is (among_insert_key pair_cmp s.axioms (l, r) e m)
    to w (LeftHead e m head) = above w e head (among_insert_key pair_cmp s.axioms (l, r) e m)
    to w (Described file m has) = described w file m (declared_or_had s.declared s.declared s.axioms (with_axiom s.axioms (l, r)) (axiom_settled s formed l r right) file w has)

    there : Among (axiom_added s (l, r)).axioms (l, r)
    there = insert_key_new pair_cmp pair_exact s.axioms (l, r)

    from : (w : List ℕ) → Among (known s) w ⊎ Among (l ∷ heads l) w → Among (known (axiom_added s (l, r))) w
    from w (inl m) = known_within s (axiom_added s (l, r)) (axiom_within s (l, r)) w m
    from w (inr (inl same)) = known_from (axiom_added s (l, r)) w (Left (l, r) there same)
    from w (inr (inr head)) = known_from (axiom_added s (l, r)) w (LeftHead (l, r) there head)
