-- The steps of a route, as indexes in the order of words.
use Rattle.std.specs.Prelude.{◌≡◌, ℕ, ◌<◌, Option, Some, List, [], ◌++◌, length, map, find, unwrap_or, slice_get, slice_index_or}
use Rattle.std.specs.Option.{option_map}
use Rattle.lis_words.specs.Words.{same_word}
use Rattle.lis_grammar.specs.Formula.{Formula}
use Rattle.lis_bits.specs.Rows.{Rows, get}
use Rattle.lis_model.specs.Table.{Table, Entry}
use Rattle.lis_model.specs.Tests.{step_of}
use Rattle.lis_model.specs.Listing.{extension, holds_all}
use Rattle.lis_model.specs.Route.{route, route_within}
use Rattle.lis_eval.specs.View.{Seen, TellsTest, table_of}

-- the word at an index
abbrev pub word_of : Seen → ℕ → List ℕ
word_of v k = unwrap_or (option_map (λ (w : List ℕ × ℕ). w.0) (slice_get v.words k)) []

abbrev pub words_of : Seen → List ℕ → List (List ℕ)
words_of v places = map (word_of v) places

-- each index is that of a word
abbrev pub AreKnown : Seen → List ℕ → Type 0
AreKnown v places = (i : ℕ) → i < length places → slice_index_or places i 0 < length v.words

-- the file of the extension that has the name
abbrev pub file_here : Table → List Formula → List ℕ → Option Entry
file_here t place name = find (λ (e : Entry). same_word e.name name) (extension t place)

-- these words are the route to the file of the extension that has the name
pub record IsWay (t : Table) (place : List Formula) (name : List ℕ) (words : List (List ℕ)) : Type 0 where
  pub file : Entry
  pub here : file_here t place name ≡ Some file
  pub steps : words ≡ route t place file
  pub few : length words < length (extension t place)

-- the steps of the place that words lead to
abbrev pub further : List Formula → List (List ℕ) → List Formula
further place words = place ++ map step_of words

-- so far on the route, with these files left
pub record Walks (v : Seen) (now : Rows) (left : ℕ) (places : List ℕ) (place : List Formula) (e : Entry) (all : List (List ℕ)) : Type 0 where
  pub tells : TellsTest v (get now 0) (holds_all (further place (words_of v places)))
  pub rest : all ≡ words_of v places ++ route_within left (table_of v) (further place (words_of v places)) e
