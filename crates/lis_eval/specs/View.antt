-- A table whose words have numbers and whose files have slots, and what the rows say of it.
use Rattle.std.specs.Prelude.{◌≡◌, ℕ, ◌<◌, ◌≤◌, ◌==◌, ◌&&◌, Bool, true, false, Option, None, List, length, map}
use Rattle.std.specs.Option.{option_map}
use Rattle.std.specs.List.{find, position, list_any, Contains}
use Rattle.lis_words.specs.Words.{same_word, has_word}
use Rattle.lis_model.specs.declared.limits.Limits.{Limits}
use Rattle.lis_model.specs.Table.{Table, Entry, entails}
use Rattle.lis_model.specs.Tests.{step_of}
use Rattle.lis_model.specs.Listing.{holds}
use Rattle.lis_ext.specs.Ext as ext
use Rattle.lis_taxonomy.specs.Taxonomy as taxonomy

-- a file in its slot
pub record Placed : Type 0 where
  pub slot : ℕ
  pub entry : Entry

pub record Seen : Type 0 where
  pub limits : Limits
  -- each known word with its number, in the order of the words
  pub words : List (List ℕ × ℕ)
  -- in the order of the names
  pub files : List Placed
  -- each known word, and what it entails
  pub entailed : List (List ℕ × List (List ℕ))

-- the table that is seen
abbrev pub table_of : Seen → Table
table_of v = record {
  limits = v.limits;
  known = map (λ w. w.0) v.words;
  files = map (λ (f : Placed). f.entry) v.files;
  entailed = v.entailed;
}

-- the number of a word
abbrev pub number_of : Seen → List ℕ → Option ℕ
number_of v word = option_map (λ w. w.1) (find (λ w. same_word w.0 word) v.words)

-- the index of the word that has a number, in the order of words
abbrev pub place_of : Seen → ℕ → Option ℕ
place_of v number = position (λ w. w.1 == number) v.words

-- the slot of the file that has a name
abbrev pub slot_of : Seen → List ℕ → Option ℕ
slot_of v name = option_map (λ (f : Placed). f.slot) (find (λ (f : Placed). same_word f.entry.name name) v.files)

-- the file in a slot
abbrev pub file_in : Seen → ℕ → Option Placed
file_in v slot = find (λ (f : Placed). f.slot == slot) v.files

abbrev pub name_and_slot : Placed → List ℕ × ℕ
name_and_slot f = (f.entry.name, f.slot)

-- some file in the slot passes the test
abbrev pub slot_passes : List Placed → (Entry → Bool) → ℕ → Bool
slot_passes files test slot = list_any (λ (f : Placed). (f.slot == slot) && test f.entry) files

-- what holds of each view
pub record IsView (v : Seen) : Type 0 where
  pub few_words : length v.words ≤ v.limits.props
  pub few_files : length v.files ≤ v.limits.files
  -- numbers are in range, and no two words have one
  pub numbers : (w : List ℕ × ℕ) → Contains v.words w → w.1 < v.limits.props
  pub apart : (w x : List ℕ × ℕ) → Contains v.words w → Contains v.words x → same_word w.0 x.0 ≡ (w.1 == x.1)
  -- slots are in range, and no two files have one, nor one name
  pub slots : (f : Placed) → Contains v.files f → f.slot < v.limits.files
  pub one_slot : (f g : Placed) → Contains v.files f → Contains v.files g → f.slot ≡ g.slot → f ≡ g
  pub one_name : (f g : Placed) → Contains v.files f → Contains v.files g → f.entry.name ≡ g.entry.name → f ≡ g
  -- descriptions are of known words, and have all that these entail
  pub known : (f : Placed) (word : List ℕ) → Contains v.files f → Contains f.entry.words word → (w : List ℕ × ℕ) × Contains v.words w × (w.0 ≡ word)
  pub closed : (f : Placed) (w x : List ℕ × ℕ) → Contains v.files f → Contains v.words w → Contains v.words x → has_word f.entry.words w.0 ≡ true → entails (table_of v) w.0 x.0 ≡ true
      → has_word f.entry.words x.0 ≡ true
  -- the step of a place for a word holds of a file exactly if the file has the word
  pub steps : (f : Placed) (w : List ℕ × ℕ) → Contains v.files f → Contains v.words w → holds (step_of w.0) f.entry ≡ has_word f.entry.words w.0

-- the rows have, for each known word, exactly the slots of the files that have the word, and each number of a file is that of a known word
pub record TellsFiles (v : Seen) (e : ext.Ext) : Type 0 where
  pub props : e.props ≡ v.limits.props
  pub files : length e.sets ≡ v.limits.files
  pub told : (w : List ℕ × ℕ) (f : Placed) → Contains v.words w → Contains v.files f → ext.has e w.1 f.slot ≡ has_word f.entry.words w.0
  pub none : (w : List ℕ × ℕ) (slot : ℕ) → Contains v.words w → slot < v.limits.files → file_in v slot ≡ None → ext.has e w.1 slot ≡ false
  pub named : (f : Placed) (number : ℕ) → Contains v.files f → ext.has e number f.slot ≡ true → (w : List ℕ × ℕ) × Contains v.words w × (w.1 ≡ number)

-- the rows have the entailments of the table
pub record TellsEntailment (v : Seen) (t : taxonomy.Taxonomy) : Type 0 where
  pub props : t.props ≡ v.limits.props
  pub told : (w x : List ℕ × ℕ) → Contains v.words w → Contains v.words x → taxonomy.entails t w.1 x.1 ≡ entails (table_of v) w.0 x.0

-- these slots are those of the files that pass a test
pub record TellsTest (v : Seen) (found : ℕ → Bool) (test : Entry → Bool) : Type 0 where
  pub told : (f : Placed) → Contains v.files f → found f.slot ≡ test f.entry
  pub none : (slot : ℕ) → slot < v.limits.files → file_in v slot ≡ None → found slot ≡ false
