-- The descriptions and the known words of states of which one has all that the other has.
use Rattle.std.proofs.Common.{◌≡◌, ℕ, ◌≤◌, true, List, ◌++◌, length}
use Rattle.std.specs.List.{flat_map}
use Rattle.std.specs.List.Sorted.{IsStrictlySortedBy}
use Rattle.lis_graph.specs.Graph.{is_rising}
use Rattle.lis_graph.proofs.Members.{Among}
use Rattle.lis_graph.proofs.Sets.{members_le, sorted_from_rising}
use Rattle.lis_words.specs.Words.{word_cmp}
use Rattle.lis_model.specs.State.{State, File, own_words, description, known, left_words}
use Rattle.lis_laws.proofs.Members.{word_order, sorted_with_words}
use Rattle.lis_laws.proofs.Closures.{IsLess, all_up_within, all_up_le}
use Rattle.lis_laws.proofs.Sources.{OwnWord, own_word, own_from, Source, source_of, known_from}
use Rattle.lis_laws.proofs.Sources.OwnWord.{Assigned, Derived, Met}
use Rattle.lis_laws.proofs.Sources.Source.{Declared, Left, LeftHead, Described}

-- what is in s is in t
pub record IsWithin (s t : State) : Type 0 where
  pub declared : (w : List ℕ) → Among s.declared w → Among t.declared w
  pub axioms : (e : List ℕ × List ℕ) → Among s.axioms e → Among t.axioms e
  pub files : (f : File) → Among s.files f → Among t.files f

pub own_within : (some more : List (List ℕ)) → ((w : List ℕ) → Among some w → Among more w) → (file : File) (w : List ℕ) → Among (own_words some file) w → Among (own_words more file) w
own_within some more within file w m = own_from more file w (by (own_word some file w m))
  where
    by : OwnWord some file w → OwnWord more file w
    by (Assigned given) = Assigned given
    by (Derived derived) = Derived derived
    by (Met there met) = Met (within w there) met

pub less_within : (s t : State) → IsWithin s t → (file : File) → IsLess s.declared t.declared s.axioms t.axioms (own_words s.declared file) (own_words t.declared file)
less_within s t within file = record { in_declared = within.declared; in_axioms = within.axioms; in_words = own_within s.declared t.declared within.declared file }

pub described_within : (s t : State) → IsWithin s t → (file : File) (w : List ℕ) → Among (description s file) w → Among (description t file) w
described_within s t within file = all_up_within s.declared t.declared s.axioms t.axioms (own_words s.declared file) (own_words t.declared file) (less_within s t within file)

pub described_le : (s t : State) → IsWithin s t → (file : File) → length (description s file) ≤ length (description t file)
described_le s t within file = all_up_le s.declared t.declared s.axioms t.axioms (own_words s.declared file) (own_words t.declared file) (less_within s t within file)

pub known_within : (s t : State) → IsWithin s t → (w : List ℕ) → Among (known s) w → Among (known t) w
known_within s t within w m = known_from t w (by (source_of s w m))
  where
    by : Source s w → Source t w
    by (Declared there) = Declared (within.declared w there)
    by (Left e there is) = Left e (within.axioms e there) is
    by (LeftHead e there head) = LeftHead e (within.axioms e there) head
    by (Described file there has) = Described file (within.files file there) (described_within s t within file w has)

pub sorted_known : (s : State) → is_rising word_cmp s.declared ≡ true → IsStrictlySortedBy word_cmp (known s)
sorted_known s rising = sorted_with_words s.declared (left_words s ++ flat_map (description s) s.files) (sorted_from_rising word_cmp word_order s.declared rising)

pub known_le : (s t : State) → IsWithin s t → is_rising word_cmp s.declared ≡ true → is_rising word_cmp t.declared ≡ true → length (known s) ≤ length (known t)
known_le s t within rising more = members_le word_cmp word_order (known s) (known t) (sorted_known s rising) (sorted_known t more) (known_within s t within)
