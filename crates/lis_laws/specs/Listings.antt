-- What the words of a listing do: they narrow the place, and are the most general of the known words that do.
use Rattle.std.specs.Prelude.{◌≡◌, ◌↔◌, ℕ, ◌<◌, List, [], ◌∷◌, ◌++◌, length, IsTrue}
use Rattle.std.specs.List.{Contains}
use Rattle.lis_grammar.specs.Formula.{Formula}
use Rattle.lis_model.specs.Tests.{step_of}
use Rattle.lis_model.specs.State.{State, WellFormed, Entails, known}
use Rattle.lis_model.specs.Table.{Table, Entry, table}
use Rattle.lis_model.specs.Listing.{extension, is_candidate, increments}

-- the place, and after its steps the step of the word
abbrev pub further : List Formula → List ℕ → List Formula
further place word = place ++ step_of word ∷ []

-- the word's step leaves some of the files of the place, and not all
pub record Narrows (t : Table) (place : List Formula) (word : List ℕ) : Type 0 where
  pub some : 0 < length (extension t (further place word))
  pub inside : (file : Entry) → Contains (extension t (further place word)) file → Contains (extension t place) file
  pub fewer : length (extension t (further place word)) < length (extension t place)

-- a word of the listing that the word entails, itself perhaps
pub record IsCovered (s : State) (place : List Formula) (word : List ℕ) : Type 0 where
  pub cover : List ℕ
  pub listed : Contains (increments (table s) place) cover
  pub entailed : Entails s.declared s.axioms word cover

-- A listing has the most general of the words that narrow its place.
pub record Refines (s : State) (place : List Formula) : Type 0 where
  pub narrows : (p : List ℕ) → Contains (increments (table s) place) p → Narrows (table s) place p
  -- a candidate is a known word that narrows the place
  pub candidates : (p : List ℕ) → IsTrue (is_candidate (extension (table s) place) p) ↔ (Contains (known s) p × Narrows (table s) place p)
  -- each of them entails a word of the listing
  pub covered : (p : List ℕ) → IsTrue (is_candidate (extension (table s) place) p) → IsCovered s place p
  -- and the words of the listing are those of them that entail no other
  pub listed : (p : List ℕ) → Contains (increments (table s) place) p → IsTrue (is_candidate (extension (table s) place) p)
  pub most_general : (p q : List ℕ) → Contains (increments (table s) place) p → IsTrue (is_candidate (extension (table s) place) q) → Entails s.declared s.axioms p q → p ≡ q

abbrev pub ListingsRefine : Type 0
ListingsRefine = (s : State) → WellFormed s → (place : List Formula) → Refines s place
