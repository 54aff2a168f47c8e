-- The laws on entailment, on listings and on routes.
use Rattle.std.specs.Prelude.{◌≡◌, ◌↔◌, ◌⊎◌, ℕ, ◌<◌, Bool, not, if◌then◌else◌, List, ◌∷◌, length, filter}
use Rattle.std.specs.Bool.{Decides}
use Rattle.std.specs.List.{list_any, Contains}
use Rattle.lis_words.specs.Words.{has_word}
use Rattle.lis_grammar.specs.Formula.{Formula}
use Rattle.lis_model.specs.Sets.{with_words}
use Rattle.lis_model.specs.State.{State, File, WellFormed, Entails, Acyclic, up, is_acyclic, file_words}
use Rattle.lis_model.specs.Changes.{with_axiom}
use Rattle.lis_model.specs.Table.{Entry, table}
use Rattle.lis_model.specs.Listing.{extension, increments, locals}
use Rattle.lis_model.specs.Route.{route, IsRoute, Leads}

-- what a word entails is what chains of links lead to
abbrev pub TestsAreChains : Type 0
TestsAreChains = (declared : List (List ℕ)) (axioms : List (List ℕ × List ℕ)) → record {
  up : (p q : List ℕ) → Decides (has_word (up declared axioms p) q) (Entails declared axioms p q);
  acyclic : Decides (is_acyclic declared axioms) (Acyclic declared axioms);
}

-- in a well-formed state two different words never entail each other
abbrev pub NoTies : Type 0
NoTies = (s : State) → WellFormed s → (p q : List ℕ) → Entails s.declared s.axioms p q → Entails s.declared s.axioms q p → p ≡ q

-- the file has none of the words
abbrev pub is_uncovered : List (List ℕ) → Entry → Bool
is_uncovered words file = not (list_any (has_word file.words) words)

-- the locals are the files of the extension that have no increment: one list, with its order and repeats
abbrev pub LocalsAreUncovered : Type 0
LocalsAreUncovered = (s : State) → WellFormed s → (place : List Formula) →
    locals (table s) place ≡ filter (is_uncovered (increments (table s) place)) (extension (table s) place)

-- the same, file by file
abbrev pub LocalsByFile : Type 0
LocalsByFile = (s : State) → WellFormed s → (place : List Formula) (file : Entry) →
    Contains (locals (table s) place) file
    ↔ (Contains (extension (table s) place) file × ((p : List ℕ) → Contains (increments (table s) place) p → Contains file.words p → ⊥))

-- increments lead to the file
pub record HasRoute (s : State) (place : List Formula) (file : Entry) : Type 0 where
  pub is_route : IsRoute (table s) place file (route (table s) place file)
  -- and no other list of words is one
  pub only : (words : List (List ℕ)) → IsRoute (table s) place file words → words ≡ route (table s) place file
  pub leads : Leads (table s) place file (route (table s) place file)
  pub shorter : length (route (table s) place file) < length (extension (table s) place)

-- each file of an extension is reached by increments, which are fewer than the files there
abbrev pub RoutesLead : Type 0
RoutesLead = (s : State) → WellFormed s → (place : List Formula) (file : Entry) → Contains (extension (table s) place) file → HasRoute s place file

-- what one more axiom adds
abbrev pub AxiomsAdd : Type 0
AxiomsAdd = (declared : List (List ℕ)) (axioms : List (List ℕ × List ℕ)) (l r : List ℕ) → record {
  entails : (p q : List ℕ) → Entails declared (with_axiom axioms (l, r)) p q ↔ (Entails declared axioms p q ⊎ (Entails declared axioms p l × Entails declared axioms r q));
  acyclic : Acyclic declared (with_axiom axioms (l, r)) ↔ (Acyclic declared axioms × (Entails declared axioms r l → ⊥));
  -- the sets are equal as lists, so nothing depends on the position of an axiom
  up : (p : List ℕ) → up declared (with_axiom axioms (l, r)) p ≡ up declared ((l, r) ∷ axioms) p;
}

-- one more axiom gives each file that has its left side all that its right side entails, and no other file anything
abbrev pub DescriptionsAdd : Type 0
DescriptionsAdd = (declared : List (List ℕ)) (axioms : List (List ℕ × List ℕ)) (l r : List ℕ) (file : File) →
    file_words declared (with_axiom axioms (l, r)) file
    ≡ (if has_word (file_words declared axioms file) l then with_words (file_words declared axioms file) (up declared axioms r) else file_words declared axioms file)
