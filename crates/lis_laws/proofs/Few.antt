-- The words that a change touches, as the command says them, and that they are few.
use Rattle.std.proofs.Common.{◌≡◌, ℕ, ◌≤◌, nat_le, Bool, true, false, not, cond, List, [], ◌∷◌, ◌++◌, length, refl, sym, ap, subst, ◌∙◌, inr, arith, length-append}
use Rattle.std.specs.List.{list_all}
use Rattle.std.proofs.lemmas.Bool.{and_parts, leb-true}
use Rattle.lis_graph.proofs.Members.{Among, among_from_any, any_from_among, insert_key_old, insert_key_new}
use Rattle.lis_graph.proofs.Sets.{members_le}
use Rattle.lis_words.specs.Words.{word_cmp, same_word, has_word, head_bytes, is_valued, test_of}
use Rattle.lis_model.specs.declared.command.Command.TheVariants.{Mkdir, Axiom, Unaxiom}
use Rattle.lis_model.specs.Tests.{is_met}
use Rattle.lis_model.specs.State.{State, File, WellFormed, heads, up, description, pair_cmp}
use Rattle.lis_model.specs.Changes.{same_pair, has_axiom, declared_under, undeclared, axiom_added, axiom_removed, has_name, file_of, file_added, file_removed, file_replaced}
use Rattle.lis_model.specs.Step.{is_in_use}
use Rattle.lis_laws.specs.Changes.{WordFits, AxiomFits, FileFits}
use Rattle.lis_laws.specs.Touches.{Touches, is_held, where_held}
use Rattle.lis_laws.specs.Touching.{TouchedWords, no_words, both_kinds, described, is_met_there, touched_by}
use Rattle.lis_laws.proofs.Members.{same_word_decides, word_order, word_exact, pair_exact, among_from_has_word, has_word_from_among}
use Rattle.lis_laws.proofs.Chains.{Pairs, up_self, up_wider, sorted_up}
use Rattle.lis_laws.proofs.Closures.{all_up_closed, sorted_all_up}
use Rattle.lis_laws.proofs.Counts.{all_among}
use Rattle.lis_laws.proofs.Sources.{file_has, test_had}
use Rattle.lis_laws.proofs.Sources.OwnWord.{Met}
use Rattle.lis_laws.proofs.Tables.{same_tests}
use Rattle.lis_laws.proofs.Forms.{axiom_removed_within, declares, adds_file, replaces_file}
use Rattle.lis_laws.proofs.Named.{named, file_there, file_of_name, file_of_there}
use Rattle.lis_laws.proofs.Known.{IsWithin, described_within}
use Rattle.lis_laws.proofs.Reached.{described_link}
use Rattle.lis_laws.proofs.Touched.{one_of_name, declares_touches, brought_is_test, undeclares_touches, adds_axiom_touches, removes_axiom_touches, adds_file_touches, removes_file_touches, replaces_file_touches}
use Rattle.lis_laws.proofs.Steps.{Replaces}

-- ---- a file has few words
abbrev AreFew : State → Type 0
AreFew s = list_all (λ (file : File). nat_le (length (description s file)) 128) s.files ≡ true

few_of : (s : State) → AreFew s → (file : File) → Among s.files file → length (description s file) ≤ 128
few_of s few file m = leb-true _ _ (all_among (λ (f : File). nat_le (length (description s f)) 128) s.files file few m)

-- words that a file has, if it has this one
where_few : (s : State) (word : List ℕ) (words : List (List ℕ)) → ((file : File) → Among s.files file → Among (description s file) word → length words ≤ 128) → length (where_held s word words) ≤ 128
where_few s word words few = by (is_held s word) refl
  where
    at : (file : File) × Among s.files file × (has_word (description s file) word ≡ true) → length words ≤ 128
    at found = few found.0 found.1 (among_from_has_word (description s found.0) word found.2)

    by : (b : Bool) → is_held s word ≡ b → length (cond b words []) ≤ 128
    by true held = at (among_from_any (λ (f : File). has_word (description s f) word) s.files held)
    by false held = omega arith

-- all that a word of a file entails, by fewer axioms
entailed_few : (s t : State) → IsWithin s t → AreFew t → (file : File) → Among t.files file → (word : List ℕ) → Among (description t file) word → length (up s.declared s.axioms word) ≤ 128
entailed_few s t within few file m word has = omega (arith, few_of t few file m, members_le word_cmp word_order (up s.declared s.axioms word) (description t file) (sorted_up s.declared s.axioms word) (sorted_all_up t.declared t.axioms _) inside)
  where
    inside : (w : List ℕ) → Among (up s.declared s.axioms word) w → Among (description t file) w
    inside w n = all_up_closed t.declared t.axioms _ word w has (up_wider s.declared t.declared s.axioms t.axioms within.declared within.axioms word w n)

pub heads_le : (word : List ℕ) → length (heads word) ≤ 1
heads_le word = by (is_valued word)
  where
    by : (b : Bool) → length (cond b (head_bytes word ∷ []) []) ≤ 1
    by true = omega arith
    by false = omega arith

-- ---- changes
-- at most these words are touched, and they are few
pub record IsFew (s t : State) (words : TouchedWords) : Type 0 where
  pub touches : Touches s t words.changed words.learned
  pub few_changed : length words.changed ≤ 256
  pub few_learned : length words.learned ≤ 256

pub touches_none : (s : State) → IsFew s s no_words
touches_none s = record { touches = (λ w none. refl, λ w none. refl); few_changed = omega arith; few_learned = omega arith }

-- some file has a new word exactly if it is a test that some file meets
held_is_met : (s : State) → WellFormed s → (word : List ℕ) (words : List (List ℕ)) → WordFits s word words → is_held (declared_under s word words) word ≡ is_met_there (declared_under s word words) word
held_is_met s formed word words fits = same_tests (is_held t word) (is_met_there t word) to from
  where
    t : State
    t = declared_under s word words

    to : is_held t word ≡ true → is_met_there t word ≡ true
    to held =
        let found = among_from_any (λ (f : File). has_word (description t f) word) t.files held in
        let test = brought_is_test s formed word words (record { form = fits.form; over = fits.over }) fits.new held in
        let met = test_had t (declares s formed word words fits) found.0 found.1 word test (among_from_has_word (description t found.0) word found.2) in
        any_from_among (λ (f : File). is_met (test_of word) (length f.bytes)) t.files found.0 found.1 met.met

    from : is_met_there t word ≡ true → is_held t word ≡ true
    from met =
        let found = among_from_any (λ (f : File). is_met (test_of word) (length f.bytes)) t.files met in
        let has = file_has t found.0 word word (Met (insert_key_new word_cmp word_exact s.declared word) found.2) (up_self t.declared t.axioms word) in
        any_from_among (λ (f : File). has_word (description t f) word) t.files found.0 found.1 (has_word_from_among (description t found.0) word has)

pub declares_few : (s : State) → WellFormed s → (word : List ℕ) (words : List (List ℕ)) → WordFits s word words
    → IsFew s (declared_under s word words) (touched_by s (declared_under s word words) (Mkdir word))
declares_few s formed word words fits = by (is_met_there t word) (held_is_met s formed word words fits)
  where
    t : State
    t = declared_under s word words

    same : IsWithin t t
    same = record { declared = λ w m. m; axioms = λ e m. m; files = λ f m. m }

    held : IsFew s t (record { changed = where_held t word (up t.declared t.axioms word); learned = word ∷ [] })
    held = record {
      touches = declares_touches s formed word words (record { form = fits.form; over = fits.over });
      few_changed = omega (arith, where_few t word (up t.declared t.axioms word) (λ file m has. entailed_few t t same fits.few_words file m word has));
      few_learned = omega arith;
    }

    by : (met : Bool) → is_held t word ≡ met → IsFew s t (record { changed = cond met (up t.declared t.axioms word) []; learned = word ∷ [] })
    by met e = subst (λ (b : Bool). IsFew s t (record { changed = cond b (up t.declared t.axioms word) []; learned = word ∷ [] })) e held

pub undeclares_few : (s : State) → WellFormed s → (word : List ℕ) → not (is_in_use s word) ≡ true → IsFew s (undeclared s word) (both_kinds (word ∷ []))
undeclares_few s formed word unused = record { touches = undeclares_touches s formed word unused; few_changed = omega arith; few_learned = omega arith }

-- what an axiom of a state adds to the others, if some file has its left side
right_few : (s t : State) → IsWithin s t → AreFew t → (l r : List ℕ) → Among t.axioms (l, r) → length (where_held s l (up s.declared s.axioms r)) ≤ 128
right_few s t within few l r there = where_few s l (up s.declared s.axioms r) (λ file m has. at file (within.files file m) (described_within s t within file l has))
  where
    at : (file : File) → Among t.files file → Among (description t file) l → length (up s.declared s.axioms r) ≤ 128
    at file m has = entailed_few s t within few file m r (described_link t.declared t.axioms file l r has (inr there))

axiom_among : (axioms : Pairs) (pair : List ℕ × List ℕ) → has_axiom axioms pair ≡ true → Among axioms pair
axiom_among axioms pair h = by (among_from_any (λ p. same_pair p pair) axioms h)
  where
    same : (e : List ℕ × List ℕ) → same_pair e pair ≡ true → e ≡ pair
    same e is =
        let parts = and_parts (same_word e.0 pair.0) (same_word e.1 pair.1) is in
        ap (λ (k : List ℕ). (k, e.1)) ((same_word_decides e.0 pair.0).0 parts.0) ∙ ap (λ (k : List ℕ). (pair.0, k)) ((same_word_decides e.1 pair.1).0 parts.1)

    by : (e : List ℕ × List ℕ) × Among axioms e × (same_pair e pair ≡ true) → Among axioms pair
    by found = subst (λ (k : List ℕ × List ℕ). Among axioms k) (same found.0 found.2) found.1

pub adds_axiom_few : (s : State) → WellFormed s → (l r : List ℕ) → AxiomFits s (l, r) → IsFew s (axiom_added s (l, r)) (touched_by s (axiom_added s (l, r)) (Axiom l r))
adds_axiom_few s formed l r fits = record {
  touches = adds_axiom_touches s formed l r fits.right;
  few_changed = omega (arith, right_few s (axiom_added s (l, r)) within fits.few_words l r (insert_key_new pair_cmp pair_exact s.axioms (l, r)));
  few_learned = omega (arith, heads_le l);
}
  where
    within : IsWithin s (axiom_added s (l, r))
    within = record { declared = λ w m. m; axioms = insert_key_old pair_cmp s.axioms (l, r); files = λ f m. m }

pub removes_axiom_few : (s : State) → WellFormed s → (l r : List ℕ) → has_axiom s.axioms (l, r) ≡ true → IsFew s (axiom_removed s (l, r)) (touched_by s (axiom_removed s (l, r)) (Unaxiom l r))
removes_axiom_few s formed l r there = record {
  touches = removes_axiom_touches s formed l r;
  few_changed = omega (arith, right_few (axiom_removed s (l, r)) s (axiom_removed_within s (l, r)) formed.files.few_words l r (axiom_among s.axioms (l, r) there));
  few_learned = omega (arith, heads_le l);
}

-- ---- files, found by their names
-- a file is the one of its name
file_is : (t : State) → WellFormed t → (file : File) → Among t.files file → file_of t.files file.name ≡ file
file_is t formed file m =
    one_of_name t.files formed.file_set (file_of t.files file.name) file (file_of_there t.files file.name (named t.files file file.name m refl)) m (file_of_name t.files file.name)

pub adds_file_few : (s : State) → WellFormed s → (file : File) → FileFits s file → has_name s.files file.name ≡ false
    → IsFew s (file_added s file) (both_kinds (described (file_added s file) file.name))
adds_file_few s formed file fits new =
    subst (λ (f : File). IsFew s t (both_kinds (description s f))) (sym (file_is t (adds_file s formed file fits) file (file_there s file new)))
    (record { touches = adds_file_touches s formed.declared_set file new; few_changed = omega (arith, fits.few_words); few_learned = omega (arith, fits.few_words) })
  where
    t : State
    t = file_added s file

pub removes_file_few : (s : State) → WellFormed s → (file : File) → Among s.files file → IsFew s (file_removed s file.name) (both_kinds (description s file))
removes_file_few s formed file m = record {
  touches = removes_file_touches s formed file m;
  few_changed = omega (arith, few_of s formed.files.few_words file m);
  few_learned = omega (arith, few_of s formed.files.few_words file m);
}

pub replaces_file_few : (s : State) → WellFormed s → (old new : File) → Replaces s old new
    → IsFew s (file_replaced s old.name new) (both_kinds (description s old ++ described (file_replaced s old.name new) new.name))
replaces_file_few s formed old new r =
    subst (λ (f : File). IsFew s t (both_kinds (description s old ++ description s f)))
    (sym (file_is t (replaces_file s formed old new r.there r.fits) new (file_there (file_removed s old.name) new r.free)))
    (record { touches = replaces_file_touches s formed old new r.there r.free; few_changed = both; few_learned = both })
  where
    t : State
    t = file_replaced s old.name new

    both : length (description s old ++ description s new) ≤ 256
    both = omega (arith, length-append (description s old) (description s new), few_of s formed.files.few_words old r.there, r.fits.few_words)
