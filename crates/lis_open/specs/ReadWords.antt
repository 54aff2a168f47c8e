-- What is read of words and axioms. No public clause cites this module.
use Rattle.std.specs.Prelude.{◌≡◌, ◌⊎◌, ℕ, ◌≤◌, ◌<◌, nat_lt, Bool, true, false, not, ◌&&◌, ◌||◌, is_some, Option, Some, None, Result, Ok, Err, List, [], filter, length, replicate, slice_get, slice_index_or, slice_set, IsTrue, IsSome}
use Rattle.lis_limits.specs.declared.TheConstants.{V3_MAX_PROPS}
use Rattle.lis_slots.specs.Slots.{slot}
use Rattle.lis_blockmap.specs.Bitmap.{is_taken}
use Rattle.lis_dict.specs.Dict.{Dict, IsDict, number_of, word_of, words as words_of}
use Rattle.lis_ext.specs.Ext.{empty_ext}
use Rattle.lis_taxonomy.specs.Taxonomy.{Taxonomy, has_edge, with_edge, empty_taxonomy, Entails as Leads}
use Rattle.lis_fields.specs.declared.slots.PropSlot.{PropSlot}
use Rattle.lis_fields.specs.declared.slots.PropSlot.TheVariants.{Free as FreeProp, Known, Declared}
use Rattle.lis_fields.specs.declared.slots.AxiomSlot.{AxiomSlot}
use Rattle.lis_fields.specs.declared.slots.AxiomSlot.TheVariants.{Free as FreeAxiom, Pair}
use Rattle.lis_fields.specs.Layouts.{prop_bytes, is_prop, axiom_bytes}
use Rattle.lis_words.specs.Words.{is_plain_word, is_valued, head_bytes, has_word}
use Rattle.lis_model.specs.declared.limits.Limits.{Limits}
use Rattle.lis_model.specs.State.{Acyclic, is_nameable}
use Rattle.lis_kept.specs.Metadata.{Metadata, metadata_of, property_by, property_at, axiom_at}
use Rattle.lis_kept.specs.Areas.{property_slots, axiom_slots}
use Rattle.lis_kept.specs.Edges.{head_number}
use Rattle.lis_kept.specs.Telling.{bit_of, axioms_of, is_head_by}
use Rattle.lis_kept.specs.Links.{HasEdges}
use Rattle.lis_kept.specs.TestEdges.{is_next_test}
use Rattle.lis_open.specs.declared.words.Words.{Words}
use Rattle.lis_open.specs.declared.words.WordSlots.{WordSlots}
use Rattle.lis_open.specs.declared.mounting.OpenFault.{OpenFault}
use Rattle.lis_open.specs.Checks.{IsProperty}
use Rattle.lis_open.specs.Reading.{KindFails, Passes}
use Rattle.lis_open.specs.declared.axioms.Axioms.{Axioms}

-- ---- words
-- no slot was read
unfoldable pub no_words : Limits → WordSlots
no_words limits = record { unsorted = replicate limits.props None; declared = replicate limits.props false }

-- the word of a slot that was read
abbrev pub slot_word : WordSlots → ℕ → Option (List ℕ)
slot_word slots n = slice_index_or slots.unsorted n None

-- what was read of a slot
abbrev pub property_read : WordSlots → ℕ → PropSlot
property_read slots n = property_by (slot_word slots n) (is_taken slots.declared n)

-- the slots, with what one more has
abbrev pub with_word : WordSlots → ℕ → List ℕ → Bool → WordSlots
with_word slots number word is_declared = record {
  unsorted = slice_set slots.unsorted number (Some word);
  declared = slice_set slots.declared number is_declared;
}

abbrev pub with_property : WordSlots → ℕ → PropSlot → WordSlots
with_property slots number FreeProp = slots
with_property slots number (Known word) = with_word slots number word false
with_property slots number (Declared word) = with_word slots number word true

-- The slots below the end were read, and no other ones. A word may be there twice.
pub record AreFirstSlots (limits : Limits) (slots : WordSlots) (end : ℕ) : Type 0 where
  pub within : end ≤ limits.props
  pub long : length slots.unsorted ≡ limits.props
  pub flags : length slots.declared ≡ limits.props
  pub rest : (n : ℕ) → end ≤ n → slot_word slots n ≡ None
  pub forms : (n : ℕ) → IsTrue (is_prop (property_read slots n))
  -- what is declared has a word
  pub flagged : (n : ℕ) → is_taken slots.declared n ≡ true → IsSome (slot_word slots n)

-- the slots below the end are spelled as they were read
abbrev pub SlotsAreSpelled : Limits → (ℕ → List ℕ) → WordSlots → ℕ → Type 0
SlotsAreSpelled limits at slots end = (n : ℕ) → n < end → slot (property_slots limits) at n ≡ prop_bytes (property_read slots n)

-- and the one at the end, if there is one, is in no layout
pub record SlotsEnded (limits : Limits) (at : ℕ → List ℕ) (slots : WordSlots) (end : ℕ) : Type 0 where
  pub spelled : SlotsAreSpelled limits at slots end
  pub malformed : end < limits.props → (property : PropSlot) → IsProperty limits at end property → ⊥

-- what holds of words however they were read
pub record AreWords (words : Words) : Type 0 where
  pub dict : IsDict words.dict
  pub few : words.dict.props ≤ V3_MAX_PROPS
  pub long : length words.declared ≡ words.dict.props
  pub forms : (n : ℕ) → IsTrue (is_prop (property_at words.dict words.declared n))
  -- what is declared has a word
  pub flagged : (n : ℕ) → is_taken words.declared n ≡ true → IsSome (word_of words.dict n)

-- the words of the slots below the end
pub record AreFirstWords (limits : Limits) (words : Words) (end : ℕ) : Type 0 where
  pub are : AreWords words
  pub props : words.dict.props ≡ limits.props
  pub rest : (n : ℕ) → end ≤ n → word_of words.dict n ≡ None
  pub counted : length words.dict.entries ≤ end

-- the slots below the end are spelled by them
abbrev pub WordsAreSpelled : Limits → (ℕ → List ℕ) → Words → ℕ → Type 0
WordsAreSpelled limits at words end =
    (n : ℕ) → n < end → slot (property_slots limits) at n ≡ prop_bytes (property_at words.dict words.declared n)

-- how reading the property slots ended
abbrev pub WordsEnded : Limits → (ℕ → List ℕ) → Result Words OpenFault → Type 0
WordsEnded limits at (Ok words) = Passes limits at 2 (WordsAreSpelled limits at words limits.props)
WordsEnded limits at (Err fault) = KindFails limits at 2 fault

-- the declared words, in byte order
abbrev pub declared_words : Words → List (List ℕ)
declared_words words = filter (λ word. bit_of words.declared (number_of words.dict word)) (words_of words.dict)

-- the metadata of words and axioms, without files
abbrev pub kept_words : Limits → Words → List AxiomSlot → Metadata
kept_words limits words axioms =
    metadata_of limits words.dict words.declared axioms (record { files = limits.files; entries = [] }) (replicate limits.blocks false)
    (empty_ext limits.props limits.files) []

-- ---- links to heads and between tests
-- the number of the head of a valued word, if there is a word
abbrev pub head_by : Dict → Option (List ℕ) → Option ℕ
head_by dict None = None
head_by dict (Some word) = head_number dict word

-- the edges are those from the words of the numbers below the end to their heads
pub record LinksHeads (words : Words) (end : ℕ) (t : Taxonomy) : Type 0 where
  pub props : t.props ≡ words.dict.props
  pub edges : (p q : ℕ) → has_edge t p q ≡ (nat_lt p end && is_head_by (word_of words.dict p) (word_of words.dict q))

-- with the edges from declared tests to the next weaker ones
pub record LinksTests (words : Words) (t u : Taxonomy) : Type 0 where
  pub props : u.props ≡ t.props
  pub edges : (p q : ℕ) → has_edge u p q ≡ (is_next_test words.dict words.declared p q || has_edge t p q)

-- ---- axioms
-- Axiom slots that are free, and no links yet.
pub record AreNoAxioms (limits : Limits) (axioms : Axioms) : Type 0 where
  pub slots : axioms.slots.items ≡ replicate (axiom_slots limits).count FreeAxiom
  pub taxonomy : axioms.taxonomy ≡ empty_taxonomy limits.props

-- an axiom may have the word as its right side, if these are declared
abbrev pub is_right_by : List (List ℕ) → Option (List ℕ) → Bool
is_right_by declared None = false
is_right_by declared (Some word) = is_plain_word word && has_word declared word

abbrev pub is_right : Words → Option (List ℕ) → Bool
is_right words o = is_right_by (declared_words words) o

-- an axiom may have the word as its left side, and the head of a valued word has a number
abbrev pub is_left_by : List (List ℕ) → (List ℕ → Bool) → Option (List ℕ) → Bool
is_left_by declared is_numbered None = false
is_left_by declared is_numbered (Some word) = is_nameable declared word && (not (is_valued word) || is_numbered (head_bytes word))

abbrev pub is_left : Words → Option (List ℕ) → Bool
is_left words o = is_left_by (declared_words words) (λ word. is_some (number_of words.dict word)) o

-- the sides of an axiom are words that it may have
abbrev pub are_sides : Words → ℕ → ℕ → Bool
are_sides words left right = is_left words (word_of words.dict left) && is_right words (word_of words.dict right)

-- the axiom was taken into the slot: it was not there before, and it closes no cycle
pub record TakesPair (limits : Limits) (words : Words) (k left right : ℕ) (old new : Axioms) : Type 0 where
  pub below : k < limits.props
  pub sides : IsTrue (are_sides words left right)
  pub absent : has_edge old.taxonomy left right ≡ false
  pub open_end : Leads old.taxonomy right left → ⊥
  pub slots : new.slots.items ≡ slice_set old.slots.items k (Pair left right)
  pub taxonomy : new.taxonomy ≡ with_edge old.taxonomy left right

abbrev pub TakesAxiom : Limits → Words → ℕ → Option AxiomSlot → Axioms → Axioms → Type 0
TakesAxiom limits words k None old new = ⊥
TakesAxiom limits words k (Some FreeAxiom) old new = new ≡ old
TakesAxiom limits words k (Some (Pair left right)) old new = TakesPair limits words k left right old new

-- why the axiom was not taken
abbrev pub RefusesPair : Limits → Words → ℕ → ℕ → ℕ → Axioms → Type 0
RefusesPair limits words k left right old =
    (limits.props ≤ k) ⊎ (are_sides words left right ≡ false) ⊎ IsTrue (has_edge old.taxonomy left right) ⊎ Leads old.taxonomy right left

abbrev pub RefusesAxiom : Limits → Words → ℕ → Option AxiomSlot → Axioms → Type 0
RefusesAxiom limits words k None old = Unit {0}
RefusesAxiom limits words k (Some FreeAxiom) old = ⊥
RefusesAxiom limits words k (Some (Pair left right)) old = RefusesPair limits words k left right old

-- the axiom of a slot is one that a state may have
pub record IsGoodPair (limits : Limits) (words : Words) (k left right : ℕ) : Type 0 where
  pub below : k < limits.props
  pub sides : IsTrue (are_sides words left right)

-- The axioms of the slots below the end, no two of them the same, with all edges between words.
pub record AreFirstAxioms (limits : Limits) (words : Words) (axioms : Axioms) (end : ℕ) : Type 0 where
  pub count : length axioms.slots.items ≡ (axiom_slots limits).count
  pub rest : (n : ℕ) → end ≤ n → axiom_at axioms.slots.items n ≡ FreeAxiom
  pub good : (k left right : ℕ) → slice_get axioms.slots.items k ≡ Some (Pair left right) → IsGoodPair limits words k left right
  pub apart : (k other left right : ℕ) → slice_get axioms.slots.items k ≡ Some (Pair left right) → slice_get axioms.slots.items other ≡ Some (Pair left right) → k ≡ other
  pub links : HasEdges (kept_words limits words axioms.slots.items) axioms.taxonomy
  pub acyclic : Acyclic (declared_words words) (axioms_of (kept_words limits words axioms.slots.items))

-- the slots below the end are spelled by them
abbrev pub AxiomsAreSpelled : Limits → (ℕ → List ℕ) → Axioms → ℕ → Type 0
AxiomsAreSpelled limits at axioms end =
    (n : ℕ) → n < end → slot (axiom_slots limits) at n ≡ axiom_bytes (axiom_at axioms.slots.items n)
