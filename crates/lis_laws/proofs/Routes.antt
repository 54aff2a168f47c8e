-- The route to a file: it leads there by increments, it is the only one, and it is shorter than the extension.
use Rattle.std.proofs.Common.{◌≡◌, ℕ, zero, suc, ◌<◌, ◌≤◌, Bool, true, false, ◌&&◌, ◌||◌, cond, Option, Some, List, [], ◌∷◌, ◌++◌, length, filter, refl, sym, ap, subst, ◌∙◌, arith}
use Rattle.std.specs.List.{list_any, find}
use Rattle.std.proofs.lemmas.Bool.{and_parts, not-true, not-false, not_from_false}
use Rattle.std.proofs.lemmas.List.Folds.{list_all-append}
use Rattle.lis_graph.proofs.Members.{Among, find_among, among_filter, filter_among, contains_from_among}
use Rattle.lis_graph.proofs.Filters.{filter_same, filter_twice, filter_fewer}
use Rattle.lis_words.specs.Words.{has_word}
use Rattle.lis_grammar.specs.Formula.{Formula}
use Rattle.lis_model.specs.Tests.{step_of}
use Rattle.lis_model.specs.Table.{Table, Entry}
use Rattle.lis_model.specs.Listing.{holds, holds_all, extension, is_candidate, is_increment, increments, is_local, locals}
use Rattle.lis_model.specs.Route.{first_increment, word_then, route_within, route, IsRoute, Leads}
use Rattle.lis_laws.proofs.Tables.{Sound}
use Rattle.lis_laws.proofs.Locals.{local_is, candidate_known, candidate_of_increment}

-- ---- the first member that passes a test
find_some : {K : Type 0} (f : K → Bool) (xs : List K) → list_any f xs ≡ true → (x : K) × (find f xs ≡ Some x)
find_some f [] h = absurd cc
find_some f (x ∷ xs) h = by (f x) h (find_some f xs)
  where
    by : (b : Bool) → (b || list_any f xs) ≡ true → (list_any f xs ≡ true → (y : _) × (find f xs ≡ Some y)) → (y : _) × (cond b (Some x) (find f xs) ≡ Some y)
    by true some more = (x, refl)
    by false some more = more some

-- ---- one step of a route
holds_further : (t : Table) → Sound t → (place : List Formula) (p : List ℕ) → Among t.known p → (file : Entry) → Among t.files file
    → holds_all (place ++ step_of p ∷ []) file ≡ (holds_all place file && has_word file.words p)
holds_further t sound place p there file m =
    list_all-append (λ step. holds step file) place (step_of p ∷ []) ∙ ap (λ b. holds_all place file && b) (alone (holds (step_of p) file) ∙ sound.steps file m p there)
  where
    alone : (b : Bool) → (b && true) ≡ b
    alone true = refl
    alone false = refl

-- the extension with one more known word is the files of the extension that have it
pub extension_further : (t : Table) → Sound t → (place : List Formula) (p : List ℕ) → Among t.known p → extension t (place ++ step_of p ∷ []) ≡ filter (λ (file : Entry). has_word file.words p) (extension t place)
extension_further t sound place p there =
    filter_same (holds_all (place ++ step_of p ∷ [])) (λ (file : Entry). holds_all place file && has_word file.words p) t.files (holds_further t sound place p there)
    ∙ sym (filter_twice (holds_all place) (λ (file : Entry). has_word file.words p) t.files)

pub increment_known : (t : Table) (place : List Formula) (p : List ℕ) → Among (increments t place) p → Among t.known p
increment_known t place p m = (among_filter (is_increment t (extension t place)) t.known p m).0

-- with a candidate there are fewer files
pub further_fewer : (t : Table) → Sound t → (place : List Formula) (p : List ℕ) → is_candidate (extension t place) p ≡ true → length (extension t (place ++ step_of p ∷ [])) < length (extension t place)
further_fewer t sound place p candidate =
    rw (extension_further t sound place p (candidate_known t sound place p candidate)) (filter_fewer (λ (file : Entry). has_word file.words p) (extension t place) (and_parts _ _ candidate).1)

-- a file that has the word stays
pub further_inside : (t : Table) → Sound t → (place : List Formula) (p : List ℕ) → Among t.known p → (file : Entry) → Among (extension t place) file → has_word file.words p ≡ true
    → Among (extension t (place ++ step_of p ∷ [])) file
further_inside t sound place p there file m has =
    rw (extension_further t sound place p there) (filter_among (λ (f : Entry). has_word f.words p) (extension t place) file m has)

pub some_files : (t : Table) (place : List Formula) (file : Entry) → Among (extension t place) file → 0 < length (extension t place)
some_files t place file m = by (extension t place) m
  where
    by : (files : List Entry) → Among files file → 0 < length files
    by [] none = absurd none
    by (f ∷ files) found = omega arith

-- a file that is no local has a first increment
next_word : (t : Table) → Sound t → (place : List Formula) (file : Entry) → Among (extension t place) file → is_local (extension t place) file ≡ false
    → (p : List ℕ) × (first_increment t place file ≡ Some p)
next_word t sound place file m covered = find_some (has_word file.words) (increments t place) (not-false _ (sym (local_is t sound place file m) ∙ covered))

-- ---- the whole route
pub record Reaches (t : Table) (place : List Formula) (file : Entry) (words : List (List ℕ)) : Type 0 where
  pub is_route : IsRoute t place file words
  pub leads : Leads t place file words
  pub shorter : length words < length (extension t place)

reaches_on : (t : Table) → Sound t → (place : List Formula) (file : Entry) (p : List ℕ) (words : List (List ℕ)) → Among (extension t place) file → is_local (extension t place) file ≡ false
    → first_increment t place file ≡ Some p → Reaches t (place ++ step_of p ∷ []) file words → Reaches t place file (p ∷ words)
reaches_on t sound place file p words m covered first rest =
    let found = find_among (has_word file.words) (increments t place) p first in
    record {
      is_route = (not_from_false _ covered, first, rest.is_route);
      leads = (contains_from_among (extension t place) file m, contains_from_among (increments t place) p found.0, rest.leads);
      shorter = omega (arith, rest.shorter, further_fewer t sound place p (candidate_of_increment t (extension t place) p found.0));
    }

within_reaches : (t : Table) → Sound t → (n : ℕ) (place : List Formula) (file : Entry) → Among (extension t place) file → length (extension t place) ≤ n
    → Reaches t place file (route_within n t place file)
within_reaches t sound zero place file m few = absurd (omega (arith, some_files t place file m))
within_reaches t sound (suc n) place file m few = by (is_local (extension t place) file) refl (within_reaches t sound n)
  where
    by : (b : Bool) → is_local (extension t place) file ≡ b
        → ((further : List Formula) (o : Entry) → Among (extension t further) o → length (extension t further) ≤ n → Reaches t further o (route_within n t further o))
        → Reaches t place file (cond b [] (word_then (first_increment t place file) (λ p. route_within n t (place ++ step_of p ∷ []) file)))
    by true e more = record {
      is_route = e;
      leads = contains_from_among (locals t place) file (filter_among (is_local (extension t place)) (extension t place) file m e);
      shorter = some_files t place file m;
    }
    by false e more = on (next_word t sound place file m e)
      where
        on : (p : List ℕ) × (first_increment t place file ≡ Some p) → Reaches t place file (word_then (first_increment t place file) (λ p. route_within n t (place ++ step_of p ∷ []) file))
        on next =
            let found = find_among (has_word file.words) (increments t place) next.0 next.1 in
            let further = place ++ step_of next.0 ∷ [] in
            let fewer = further_fewer t sound place next.0 (candidate_of_increment t (extension t place) next.0 found.0) in
            let rest = more further file (further_inside t sound place next.0 (increment_known t place next.0 found.0) file m found.1) (omega arith) in
            subst (λ (first : Option (List ℕ)). Reaches t place file (word_then first (λ p. route_within n t (place ++ step_of p ∷ []) file))) (sym next.1)
            (reaches_on t sound place file next.0 (route_within n t further file) m e next.1 rest)

-- no other words are a route
within_only : (t : Table) → Sound t → (n : ℕ) (place : List Formula) (file : Entry) → Among (extension t place) file → length (extension t place) ≤ n
    → (words : List (List ℕ)) → IsRoute t place file words → words ≡ route_within n t place file
within_only t sound zero place file m few words is = absurd (omega (arith, some_files t place file m))
within_only t sound (suc n) place file m few [] is = sym (ap (λ b. cond b [] (word_then (first_increment t place file) (λ p. route_within n t (place ++ step_of p ∷ []) file))) is)
within_only t sound (suc n) place file m few (p ∷ words) is =
    let found = find_among (has_word file.words) (increments t place) p is.1 in
    let fewer = further_fewer t sound place p (candidate_of_increment t (extension t place) p found.0) in
    let rest = within_only t sound n (place ++ step_of p ∷ []) file (further_inside t sound place p (increment_known t place p found.0) file m found.1) (omega arith) words is.2 in
    ap (λ ws. p ∷ ws) rest
    ∙ sym (ap (λ (b : Bool). cond b [] (word_then (first_increment t place file) (λ q. route_within n t (place ++ step_of q ∷ []) file))) (not-true _ is.0)
    ∙ ap (λ (first : Option (List ℕ)). word_then first (λ q. route_within n t (place ++ step_of q ∷ []) file)) is.1)

pub route_reaches : (t : Table) → Sound t → (place : List Formula) (file : Entry) → Among (extension t place) file → Reaches t place file (route t place file)
route_reaches t sound place file m = within_reaches t sound (length (extension t place)) place file m (omega arith)

pub route_only : (t : Table) → Sound t → (place : List Formula) (file : Entry) → Among (extension t place) file → (words : List (List ℕ)) → IsRoute t place file words → words ≡ route t place file
route_only t sound place file m = within_only t sound (length (extension t place)) place file m (omega arith)
