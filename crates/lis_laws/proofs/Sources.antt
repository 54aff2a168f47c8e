-- Where the words of files, and the known words, come from.
use Rattle.std.proofs.Common.{◌≡◌, ◌⊎◌, ℕ, Bool, true, false, not, ◌&&◌, ◌||◌, nat_lt, nat_le, cond, Option, Some, None, List, ◌++◌, length, map, sym, subst, inl, inr, arith}
use Rattle.std.specs.List.{flat_map, list_all}
use Rattle.std.proofs.lemmas.Bool.{and_parts, or_cases, both_ways, ltb-true, lt-ltb, leb-true, le-leb}
use Rattle.lis_graph.proofs.Members.{Among, among_append, among_left, among_right, among_filter, filter_among, among_map, map_among, among_flat_map, flat_map_among}
use Rattle.lis_words.specs.declared.test.Test.{Test}
use Rattle.lis_words.specs.Words.{has_word, head_bytes, is_plain_word, is_head, is_valued, is_test, test_of}
use Rattle.lis_words.proofs.Tests.{plain_not_test, head_not_test, valued_not_test}
use Rattle.lis_model.specs.Tests.{are_weaker, is_met, met_tests}
use Rattle.lis_model.specs.Derived.{derived_words}
use Rattle.lis_model.specs.State.{State, File, WellFormed, heads, up, own_words, description, known, left_words, is_assignable, is_known_head, is_nameable}
use Rattle.lis_laws.proofs.Members.{among_from_has_word, among_with_words, with_words_old, with_words_new}
use Rattle.lis_laws.proofs.Chains.{IsWeakerIn, weaker_tests_are, among_heads, head_no_test, entails_from_up}
use Rattle.lis_laws.proofs.Counts.{all_among}
use Rattle.lis_laws.proofs.Closures.{entailing, entailed_in}
use Rattle.lis_laws.proofs.Apart.{built_in_not_test}
use Rattle.lis_laws.proofs.Leads.{test_leads}
use Rattle.lis_laws.proofs.Derived.{derived_built_in}

-- ---- axioms of a well-formed state
abbrev pub is_right : State → List ℕ → Bool
is_right s word = is_plain_word word && has_word s.declared word

pub right_plain : (s : State) (word : List ℕ) → is_right s word ≡ true → is_plain_word word ≡ true
right_plain s word h = (and_parts (is_plain_word word) (has_word s.declared word) h).0

pub right_declared : (s : State) (word : List ℕ) → is_right s word ≡ true → Among s.declared word
right_declared s word h = among_from_has_word s.declared word (and_parts (is_plain_word word) (has_word s.declared word) h).1

pub rights_are : (s : State) → WellFormed s → (e : List ℕ × List ℕ) → Among s.axioms e → is_right s e.1 ≡ true
rights_are s formed e m = all_among (λ (pair : List ℕ × List ℕ). is_plain_word pair.1 && has_word s.declared pair.1) s.axioms e formed.axioms.rights m

-- ---- the own words of a file
pub data OwnWord (declared : List (List ℕ)) (file : File) (word : List ℕ) : Type 0 where
  Assigned : Among file.assigned word → OwnWord declared file word
  Derived : Among (derived_words file.name file.bytes) word → OwnWord declared file word
  Met : Among declared word → is_met (test_of word) (length file.bytes) ≡ true → OwnWord declared file word

pub own_word : (declared : List (List ℕ)) (file : File) (word : List ℕ) → Among (own_words declared file) word → OwnWord declared file word
own_word declared file word m = by (among_append (file.assigned ++ derived_words file.name file.bytes) (met_tests declared (length file.bytes)) word m)
  where
    front : Among file.assigned word ⊎ Among (derived_words file.name file.bytes) word → OwnWord declared file word
    front (inl given) = Assigned given
    front (inr derived) = Derived derived

    met : Among declared word × (is_met (test_of word) (length file.bytes) ≡ true) → OwnWord declared file word
    met found = Met found.0 found.1

    by : Among (file.assigned ++ derived_words file.name file.bytes) word ⊎ Among (met_tests declared (length file.bytes)) word → OwnWord declared file word
    by (inl some) = front (among_append file.assigned (derived_words file.name file.bytes) word some)
    by (inr test) = met (among_filter (λ w. is_met (test_of w) (length file.bytes)) declared word test)

pub own_from : (declared : List (List ℕ)) (file : File) (word : List ℕ) → OwnWord declared file word → Among (own_words declared file) word
own_from declared file word (Assigned m) =
    among_left (file.assigned ++ derived_words file.name file.bytes) (met_tests declared (length file.bytes)) word (among_left file.assigned (derived_words file.name file.bytes) word m)
own_from declared file word (Derived m) =
    among_left (file.assigned ++ derived_words file.name file.bytes) (met_tests declared (length file.bytes)) word (among_right file.assigned (derived_words file.name file.bytes) word m)
own_from declared file word (Met m met) =
    among_right (file.assigned ++ derived_words file.name file.bytes) (met_tests declared (length file.bytes)) word (filter_among (λ w. is_met (test_of w) (length file.bytes)) declared word m met)

-- each word of a file is entailed by one of its own words
pub words_of_file : (s : State) (file : File) (p : List ℕ) → Among (description s file) p → (w : List ℕ) × Among (own_words s.declared file) w × Among (up s.declared s.axioms w) p
words_of_file s file p h = entailing s.declared s.axioms (own_words s.declared file) p h

-- and what one of these entails is a word of the file
pub file_has : (s : State) (file : File) (w p : List ℕ) → OwnWord s.declared file w → Among (up s.declared s.axioms w) p → Among (description s file) p
file_has s file w p own h = entailed_in s.declared s.axioms (own_words s.declared file) w p (own_from s.declared file w own) h

-- ---- assigned words, and left sides
pub data Assignable (declared : List (List ℕ)) (word : List ℕ) : Type 0 where
  Plain : is_plain_word word ≡ true → Among declared word → Assignable declared word
  Valued : is_valued word ≡ true → Among declared (head_bytes word) → Assignable declared word

pub assignable_cases : (declared : List (List ℕ)) (word : List ℕ) → is_assignable declared word ≡ true → Assignable declared word
assignable_cases declared word h = by (or_cases _ _ h)
  where
    by : ((is_plain_word word && has_word declared word) ≡ true) ⊎ ((is_valued word && has_word declared (head_bytes word)) ≡ true) → Assignable declared word
    by (inl both) = let parts = and_parts (is_plain_word word) (has_word declared word) both in Plain parts.0 (among_from_has_word declared word parts.1)
    by (inr both) = let parts = and_parts (is_valued word) (has_word declared (head_bytes word)) both in Valued parts.0 (among_from_has_word declared (head_bytes word) parts.1)

pub assigned_are : (s : State) → WellFormed s → (file : File) → Among s.files file → (word : List ℕ) → Among file.assigned word → is_assignable s.declared word ≡ true
assigned_are s formed file m word given =
    all_among (is_assignable s.declared) file.assigned word
    (all_among (λ (f : File). list_all (is_assignable s.declared) f.assigned) s.files file formed.files.assigned m) given

-- a test among the left sides is declared
nameable_test : (declared : List (List ℕ)) (word : List ℕ) → is_nameable declared word ≡ true → is_test word ≡ true → Among declared word
nameable_test declared word h test = by (or_cases _ _ h)
  where
    front : (((is_plain_word word || is_test word) && has_word declared word) ≡ true) ⊎ (is_known_head declared word ≡ true) → Among declared word
    front (inl both) = among_from_has_word declared word (and_parts (is_plain_word word || is_test word) (has_word declared word) both).1
    front (inr head) = absurd (both_ways (is_test word) (head_not_test word (and_parts (is_head word) _ head).0) test)

    by : ((((is_plain_word word || is_test word) && has_word declared word) || is_known_head declared word) ≡ true) ⊎ ((is_valued word && is_known_head declared (head_bytes word)) ≡ true) → Among declared word
    by (inl either) = front (or_cases ((is_plain_word word || is_test word) && has_word declared word) (is_known_head declared word) either)
    by (inr both) = absurd (both_ways (is_test word) (valued_not_test word (and_parts (is_valued word) (is_known_head declared (head_bytes word)) both).0) test)

-- ---- tests of files
met_weaker_by : (a b : Bool) (m n size : ℕ) → cond a (b && nat_lt m n) (not b && nat_lt n m) ≡ true → cond b (nat_le n size) (nat_lt size n) ≡ true → cond a (nat_le m size) (nat_lt size m) ≡ true
met_weaker_by true true m n size h met = le-leb m size (omega (arith, ltb-true m n h, leb-true n size met))
met_weaker_by true false m n size h met = absurd cc
met_weaker_by false true m n size h met = absurd cc
met_weaker_by false false m n size h met = lt-ltb size m (omega (arith, ltb-true n m h, ltb-true size n met))

-- what meets a test meets a weaker one
pub met_weaker : (q p : Option Test) (size : ℕ) → are_weaker q p ≡ true → is_met p size ≡ true → is_met q size ≡ true
met_weaker None p size h met = absurd cc
met_weaker (Some q) None size h met = absurd cc
met_weaker (Some q) (Some p) size h met = met_weaker_by q.at_least p.at_least q.bytes p.bytes size h met

-- a test that holds of the file, and is declared
pub record IsMetBy (declared : List (List ℕ)) (file : File) (word : List ℕ) : Type 0 where
  pub there : Among declared word
  pub met : is_met (test_of word) (length file.bytes) ≡ true

own_test : (s : State) → WellFormed s → (file : File) → Among s.files file → (word : List ℕ) → is_test word ≡ true → OwnWord s.declared file word → IsMetBy s.declared file word
own_test s formed file m word test (Assigned given) = by (assignable_cases s.declared word (assigned_are s formed file m word given))
  where
    by : Assignable s.declared word → IsMetBy s.declared file word
    by (Plain plain there) = absurd (both_ways (is_test word) (plain_not_test word plain) test)
    by (Valued valued there) = absurd (both_ways (is_test word) (valued_not_test word valued) test)
own_test s formed file m word test (Derived derived) = absurd (both_ways (is_test word) (built_in_not_test word (derived_built_in file.name file.bytes word derived)) test)
own_test s formed file m word test (Met there met) = record { there = there; met = met }

-- a test among the words of a file is declared, and holds of it
pub test_had : (s : State) → WellFormed s → (file : File) → Among s.files file → (p : List ℕ) → is_test p ≡ true → Among (description s file) p → IsMetBy s.declared file p
test_had s formed file m p test h = by (words_of_file s file p h)
  where
    weaker : (w : List ℕ) → IsWeakerIn s.declared w p → IsMetBy s.declared file w → IsMetBy s.declared file p
    weaker w less had = record { there = less.to; met = met_weaker (test_of p) (test_of w) (length file.bytes) less.weaker had.met }

    at : (w : List ℕ) → OwnWord s.declared file w → (w ≡ p) ⊎ IsWeakerIn s.declared w p → IsMetBy s.declared file p
    at w own (inl same) = own_test s formed file m p test (subst (λ (k : List ℕ). OwnWord s.declared file k) same own)
    at w own (inr less) = weaker w less (own_test s formed file m w (source_test less) own)
      where
        source_test : IsWeakerIn s.declared w p → is_test w ≡ true
        source_test l = (weaker_tests_are s.declared w p l).0

    by : (w : List ℕ) × Among (own_words s.declared file) w × Among (up s.declared s.axioms w) p → IsMetBy s.declared file p
    by source =
        let chain = entails_from_up s.declared s.axioms source.0 p source.2 in
        at source.0 (own_word s.declared file source.0 source.1)
        (test_leads (is_right s) (right_plain s) s.axioms (rights_are s formed) s.declared chain.0 source.0 p test chain.1)

-- ---- known words
pub data Source (s : State) (w : List ℕ) : Type 0 where
  Declared : Among s.declared w → Source s w
  Left : (e : List ℕ × List ℕ) → Among s.axioms e → e.0 ≡ w → Source s w
  LeftHead : (e : List ℕ × List ℕ) → Among s.axioms e → Among (heads e.0) w → Source s w
  Described : (file : File) → Among s.files file → Among (description s file) w → Source s w

pub source_of : (s : State) (w : List ℕ) → Among (known s) w → Source s w
source_of s w m = by (among_with_words s.declared (left_words s ++ flat_map (description s) s.files) w m)
  where
    file : (f : File) × Among s.files f × Among (description s f) w → Source s w
    file found = Described found.0 found.1 found.2

    side : (e : List ℕ × List ℕ) × Among s.axioms e × (e.0 ≡ w) → Source s w
    side found = Left found.0 found.1 found.2

    above : (e : List ℕ × List ℕ) × Among s.axioms e × Among (heads e.0) w → Source s w
    above found = LeftHead found.0 found.1 found.2

    left : Among (map (λ (e : List ℕ × List ℕ). e.0) s.axioms) w ⊎ Among (flat_map (λ (e : List ℕ × List ℕ). heads e.0) s.axioms) w → Source s w
    left (inl here) = side (among_map (λ (e : List ℕ × List ℕ). e.0) s.axioms w here)
    left (inr head) = above (among_flat_map (λ (e : List ℕ × List ℕ). heads e.0) s.axioms w head)

    other : Among (left_words s) w ⊎ Among (flat_map (description s) s.files) w → Source s w
    other (inl words) = left (among_append (map (λ (e : List ℕ × List ℕ). e.0) s.axioms) (flat_map (λ (e : List ℕ × List ℕ). heads e.0) s.axioms) w words)
    other (inr some) = file (among_flat_map (description s) s.files w some)

    by : Among s.declared w ⊎ Among (left_words s ++ flat_map (description s) s.files) w → Source s w
    by (inl declared) = Declared declared
    by (inr more) = other (among_append (left_words s) (flat_map (description s) s.files) w more)

left_known : (s : State) (w : List ℕ) → Among (left_words s) w → Among (known s) w
left_known s w m =
    with_words_new s.declared (left_words s ++ flat_map (description s) s.files) w (among_left (left_words s) (flat_map (description s) s.files) w m)

-- the words of files are known
pub described_known : (s : State) (file : File) (p : List ℕ) → Among s.files file → Among (description s file) p → Among (known s) p
described_known s file p m h =
    with_words_new s.declared (left_words s ++ flat_map (description s) s.files) p
    (among_right (left_words s) (flat_map (description s) s.files) p (flat_map_among (description s) s.files file p m h))

pub known_from : (s : State) (w : List ℕ) → Source s w → Among (known s) w
known_from s w (Declared m) = with_words_old s.declared (left_words s ++ flat_map (description s) s.files) w m
known_from s w (Left e m is) =
    left_known s w (among_left (map (λ (pair : List ℕ × List ℕ). pair.0) s.axioms) (flat_map (λ (pair : List ℕ × List ℕ). heads pair.0) s.axioms) w
    (subst (λ (k : List ℕ). Among (map (λ (pair : List ℕ × List ℕ). pair.0) s.axioms) k) is (map_among (λ (pair : List ℕ × List ℕ). pair.0) s.axioms e m)))
known_from s w (LeftHead e m head) =
    left_known s w (among_right (map (λ (pair : List ℕ × List ℕ). pair.0) s.axioms) (flat_map (λ (pair : List ℕ × List ℕ). heads pair.0) s.axioms) w
    (flat_map_among (λ (pair : List ℕ × List ℕ). heads pair.0) s.axioms e w m head))
known_from s w (Described file m has) = described_known s file w m has

-- a known test is declared
pub known_test : (s : State) → WellFormed s → (p : List ℕ) → is_test p ≡ true → Among (known s) p → Among s.declared p
known_test s formed p test m = by (source_of s p m)
  where
    left : (e : List ℕ × List ℕ) → Among s.axioms e → e.0 ≡ p → Among s.declared p
    left e n is =
        let named = all_among (λ (pair : List ℕ × List ℕ). is_nameable s.declared pair.0) s.axioms e formed.axioms.lefts n in
        nameable_test s.declared p (subst (λ (w : List ℕ). is_nameable s.declared w ≡ true) is named) test

    by : Source s p → Among s.declared p
    by (Declared there) = there
    by (Left e n is) = left e n is
    by (LeftHead e n head) = absurd (head_no_test e.0 (subst (λ (w : List ℕ). is_test w ≡ true) (sym (among_heads e.0 p head).1) test))
    by (Described file n has) = (test_had s formed file n p test has).there
