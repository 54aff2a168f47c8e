-- Blocks that no file has may hold anything: what memory says of a state and what it has written stay as they are.
use Rattle.std.proofs.Common.{rules}
use Rattle.lis_store.proofs.Common.{◌≡◌, refl, ap, inl, inr, ℕ, ◌+◌, ◌<◌, ◌≤◌, true, false, List, length, IsTrue, arith, and_parts, eqb-true, not-true, Among, among_from_contains, contains_from_among, is_taken, has_home, are_free, slot_count, Filed, are_in_range, data_start, State, Metadata, IsWritten, IsSaved, AreSound, bytes_told, blocks_told, state_of, HasIndex, Tells, map_all, filed_rec, among_slots, both_ways, false_from_ne_true, among_from_any, all_among, file_told, number_from_among}
use Rattle.lis_journal.specs.Images.{IsOutside}
use Rattle.lis_kept.specs.Image.{image_layout}
use Rattle.lis_kept.proofs.Contents.{same_file, slot_counted}
use Rattle.lis_kept.proofs.InArea.{held_by}
use Rattle.lis_model.specs.Image.{properties_start}

-- a record of memory has as many block numbers as its size requires
pub numbers_counted : (k : Metadata) → AreSound k → (f : Filed) → Among k.catalog.entries f → length f.rec.blocks ≡ slot_count f.rec.size
numbers_counted k sound f m = slot_counted k.limits k.dict k.limits.blocks f.rec sound.range (sound.records f.slot f.rec (filed_rec k.catalog sound.catalog f m))

-- the blocks of each file hold the same
abbrev pub AreFilesSame : Metadata → (ℕ → List ℕ) → (ℕ → List ℕ) → Type 0
AreFilesSame k at there =
    (f : Filed) → Among k.catalog.entries f → (b : ℕ) → Among (blocks_told k.limits at f.rec) b → there (data_start k.limits + b) ≡ at (data_start k.limits + b)

-- ---- the state that memory represents
module _ (k : Metadata) (at there : ℕ → List ℕ) (sound : AreSound k) (same : AreFilesSame k at there) where
  pub bytes_there : (f : Filed) → Among k.catalog.entries f → bytes_told k.limits there f.rec ≡ bytes_told k.limits at f.rec
  bytes_there f m = (same_file k.limits f.rec at there (numbers_counted k sound f m) (same f m)).0

  pub blocks_there : (f : Filed) → Among k.catalog.entries f → blocks_told k.limits there f.rec ≡ blocks_told k.limits at f.rec
  blocks_there f m = (same_file k.limits f.rec at there (numbers_counted k sound f m) (same f m)).1

  pub index_there : (f : Filed) → Among k.catalog.entries f → HasIndex k.limits at f.rec → HasIndex k.limits there f.rec
  index_there f m = (same_file k.limits f.rec at there (numbers_counted k sound f m) (same f m)).2

  pub file_there : (f : Filed) → Among k.catalog.entries f → file_told k.limits k.dict there f ≡ file_told k.limits k.dict at f
  file_there f m = ap (λ (bytes : List ℕ). record (file_told k.limits k.dict at f) { bytes = bytes }) (bytes_there f m)

  pub state_there : state_of k there ≡ state_of k at
  state_there = search (rules, map_all, file_there)

  pub tells_there : (s : State) → there 0 ≡ at 0 → Tells k at s → Tells k there s
  tells_there s front tells = search (rules, state_there, file_there, among_from_contains, blocks_there, index_there)

-- ---- what is written
module _ (k : Metadata) (at there : ℕ → List ℕ) (range : IsTrue (are_in_range k.limits)) (same : (n : ℕ) → properties_start k.limits ≤ n → n < data_start k.limits → there n ≡ at n) where
  pub written_there : IsWritten k at → IsWritten k there
  written_there written area n lt = search (rules, among_slots, held_by)

  pub saved_there : IsSaved k at → IsSaved k there
  saved_there saved area n lt unmarked = search (rules, among_slots, held_by)

-- ---- blocks that are free
-- no home before the data blocks is the home of one of them
pub no_home_before : (base n : ℕ) (blocks : List ℕ) → n < base → has_home base blocks n ≡ false
no_home_before base n blocks lt = search (rules, false_from_ne_true, among_from_any, eqb-true)

-- a free block and a taken one are different
pub free_apart : (k : Metadata) (blocks : List ℕ) → IsTrue (are_free k.taken blocks) → (b : ℕ) → is_taken k.taken b ≡ true → has_home (data_start k.limits) blocks (data_start k.limits + b) ≡ false
free_apart k blocks free b taken = search (rules, false_from_ne_true, among_from_any, eqb-true, all_among, and_parts, both_ways, not-true)

-- All blocks outside the gates and the records are the same, except data blocks that were free.
abbrev pub AreSameBut : Metadata → List ℕ → (ℕ → List ℕ) → (ℕ → List ℕ) → Type 0
AreSameBut k blocks at there = (n : ℕ) → IsOutside (image_layout k.limits) n → has_home (data_start k.limits) blocks n ≡ false → there n ≡ at n

module _ (k : Metadata) (blocks : List ℕ) (at there : ℕ → List ℕ) (sound : AreSound k) (free : IsTrue (are_free k.taken blocks)) (same : AreSameBut k blocks at there) where
  pub homes_same : (n : ℕ) → properties_start k.limits ≤ n → n < data_start k.limits → there n ≡ at n
  homes_same n low lt = same n (inr low) (no_home_before (data_start k.limits) n blocks lt)

  pub written_elsewhere : IsWritten k at → IsWritten k there
  written_elsewhere = written_there k at there sound.range homes_same

  pub files_elsewhere : (s : State) → Tells k at s → AreFilesSame k at there
  files_elsewhere s tells f m b of =
      same (data_start k.limits + b) (inr (omega arith))
      (free_apart k blocks free b (tells.given f (contains_from_among k.catalog.entries f m) b (number_from_among (blocks_told k.limits at f.rec) b of)).1)

  pub tells_elsewhere : (s : State) → Tells k at s → Tells k there s
  tells_elsewhere s tells =
      tells_there k at there sound (files_elsewhere s tells) s (same 0 (inl refl) (no_home_before (data_start k.limits) 0 blocks (omega arith))) tells
