-- The state that memory and data blocks describe.
use Rattle.std.specs.Prelude.{◌≡◌, ℕ, ◌<◌, Bool, true, false, ◌&&◌, ◌||◌, ◌==◌, is_some, Option, Some, None, List, [], ◌∷◌, map, filter, IsTrue}
use Rattle.std.specs.Option.{option_to_list}
use Rattle.std.specs.BTreeSet.{insert_key}
use Rattle.std.specs.List.{flat_map, list_any, fold, Contains}
use Rattle.lis_blockmap.specs.Bitmap.{is_taken}
use Rattle.lis_content.specs.Large.{file_content, file_blocks, IsIndexed}
use Rattle.lis_dict.specs.Dict.{Dict, words, number_of, word_of}
use Rattle.lis_catalog.specs.Catalog.{Filed}
use Rattle.lis_ext.specs.Ext.{Ext, set_of as numbers_at}
use Rattle.lis_fields.specs.Records.{FileRecord}
use Rattle.lis_fields.specs.declared.slots.AxiomSlot.{AxiomSlot}
use Rattle.lis_fields.specs.declared.slots.AxiomSlot.TheVariants.{Free as FreeAxiom, Pair}
use Rattle.lis_fields.specs.Layouts.{SpellsSuper}
use Rattle.lis_words.specs.Words.{same_word, is_valued, head_bytes}
use Rattle.lis_model.specs.declared.limits.Limits.{Limits}
use Rattle.lis_model.specs.Image.{data_start}
use Rattle.lis_model.specs.Sets.{set_of, are_distinct, has_number}
use Rattle.lis_model.specs.State.{State, File, pair_cmp, description, WellFormed}
use Rattle.lis_kept.specs.Metadata.{Metadata}

-- ---- words
-- the truth value at a word's number
abbrev pub bit_of : List Bool → Option ℕ → Bool
bit_of bits None = false
bit_of bits (Some n) = is_taken bits n

-- the word is declared
abbrev pub is_declared : Metadata → List ℕ → Bool
is_declared k word = bit_of k.declared (number_of k.dict word)

-- the declared words, in byte order
abbrev pub declared_of : Metadata → List (List ℕ)
declared_of k = filter (is_declared k) (words k.dict)

-- the words that have these numbers, a set
abbrev pub words_told : Dict → List ℕ → List (List ℕ)
words_told dict numbers = set_of (flat_map (λ n. option_to_list (word_of dict n)) numbers)

-- ---- axioms
abbrev pub pair_by : Option (List ℕ) → Option (List ℕ) → List (List ℕ × List ℕ)
pair_by None right = []
pair_by (Some left) None = []
pair_by (Some left) (Some right) = (left, right) ∷ []

-- the pair of words of an axiom slot
abbrev pub pair_told : Dict → AxiomSlot → List (List ℕ × List ℕ)
pair_told dict FreeAxiom = []
pair_told dict (Pair left right) = pair_by (word_of dict left) (word_of dict right)

abbrev pub pairs_told : Dict → List AxiomSlot → List (List ℕ × List ℕ)
pairs_told dict axioms = flat_map (pair_told dict) axioms

-- the axioms, a set
abbrev pub axioms_of : Metadata → List (List ℕ × List ℕ)
axioms_of k = fold (insert_key pair_cmp) [] (pairs_told k.dict k.axioms)

-- ---- files
-- the bytes of a file, by its record and by what each block holds
abbrev pub bytes_told : Limits → (ℕ → List ℕ) → FileRecord → List ℕ
bytes_told limits at rec = file_content limits.version (data_start limits) rec.blocks rec.size at

abbrev pub file_told : Limits → Dict → (ℕ → List ℕ) → Filed → File
file_told limits dict at f = record {
  name = f.rec.name;
  bytes = bytes_told limits at f.rec;
  assigned = words_told dict f.rec.tags;
}

-- all data blocks of a file, and its index blocks if it has any
abbrev pub blocks_told : Limits → (ℕ → List ℕ) → FileRecord → List ℕ
blocks_told limits at rec = file_blocks limits.version (data_start limits) rec.blocks rec.size at

-- each index block, if the file has any, is well formed
abbrev pub HasIndex : Limits → (ℕ → List ℕ) → FileRecord → Type 0
HasIndex limits at rec = IsIndexed limits.version (data_start limits) rec.blocks rec.size at

-- ---- the state
abbrev pub state_of : Metadata → (ℕ → List ℕ) → State
state_of k at = record {
  limits = k.limits;
  declared = declared_of k;
  axioms = axioms_of k;
  files = map (file_told k.limits k.dict at) k.catalog.entries;
}

-- ---- which numbers are in use
abbrev pub is_left_of : ℕ → AxiomSlot → Bool
is_left_of n FreeAxiom = false
is_left_of n (Pair left right) = left == n

-- the word is valued, and the other one is its head
abbrev pub is_head_by : Option (List ℕ) → Option (List ℕ) → Bool
is_head_by None head = false
is_head_by (Some word) None = false
is_head_by (Some word) (Some head) = is_valued word && same_word (head_bytes word) head

abbrev pub is_left_head_of : Dict → ℕ → AxiomSlot → Bool
is_left_head_of dict n FreeAxiom = false
is_left_head_of dict n (Pair left right) = is_head_by (word_of dict left) (word_of dict n)

-- it is the left side of an axiom, or the head of one
abbrev pub is_named_left : Metadata → ℕ → Bool
is_named_left k n = list_any (is_left_of n) k.axioms || list_any (is_left_head_of k.dict n) k.axioms

-- some file's description has it
abbrev pub is_had : Ext → ℕ → Bool
is_had ext n = list_any (λ ns. has_number ns n) ext.sets

-- a number whose word is known for a reason: it is declared, some description has it, or an axiom names it on its left
abbrev pub is_used : Metadata → ℕ → Bool
is_used k n = is_taken k.declared n || is_had k.ext n || is_named_left k n

abbrev pub AreUsed : Metadata → Type 0
AreUsed k = (n : ℕ) → is_some (word_of k.dict n) ≡ true → is_used k n ≡ true

-- Some file that is kept uses the data block.
pub record IsFileBlock (k : Metadata) (at : ℕ → List ℕ) (data_block : ℕ) : Type 0 where
  pub file : Filed
  pub kept : Contains k.catalog.entries file
  pub has : has_number (blocks_told k.limits at file.rec) data_block ≡ true

-- If blocks hold these bytes, what is kept describes the state: its words, axioms and files are those of the state, the numbers of each
-- file are those of its description, and the taken blocks are those of the files, none of them used twice, by one file or by two.
pub record Tells (k : Metadata) (at : ℕ → List ℕ) (s : State) : Type 0 where
  pub super : SpellsSuper s.limits (at 0)
  pub state : state_of k at ≡ s
  pub formed : WellFormed s
  pub used : AreUsed k
  pub described : (f : Filed) → Contains k.catalog.entries f
      → words_told k.dict (numbers_at k.ext f.slot) ≡ description s (file_told k.limits k.dict at f)
  pub taken : (n : ℕ) → n < k.limits.blocks → is_taken k.taken n ≡ true → IsFileBlock k at n
  pub given : (f : Filed) → Contains k.catalog.entries f → (n : ℕ) → has_number (blocks_told k.limits at f.rec) n ≡ true
      → (n < k.limits.blocks) × (is_taken k.taken n ≡ true)
  pub indexed : (f : Filed) → Contains k.catalog.entries f → HasIndex k.limits at f.rec
  pub apart : (f : Filed) → Contains k.catalog.entries f → IsTrue (are_distinct (blocks_told k.limits at f.rec))
  pub one_use : (f g : Filed) → Contains k.catalog.entries f → Contains k.catalog.entries g → (n : ℕ)
      → has_number (blocks_told k.limits at f.rec) n ≡ true → has_number (blocks_told k.limits at g.rec) n ≡ true → f ≡ g
