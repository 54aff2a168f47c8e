-- What a store says of the state that it represents, in other words.
use Rattle.std.proofs.Common.{rules}
use Rattle.std.proofs.Common.{option_map}
use Rattle.lis_store.proofs.Common.{common_steps, ◌≡◌, refl, sym, ap, ap₂, ◌∙◌, subst, inl, inr, ℕ, ◌+◌, ◌*◌, ◌<◌, Bool, is_some, Option, Some, None, List, [], ◌∷◌, length, map, IsSomeAnd, arith, length-append, find, flat_map, list_any, Contains, length-map, length-take-le, same_Some, Among, contains_from_among, same_word, has_word, Formula, FileRecord, Dict, number_of, number_from_word, Filed, slot_of, rec_at, rec_at-slot_of, numbers_at, data_start, State, File, description, up, has_name, file_of_name, Placed, Metadata, AreSound, FreeSlotsAreEmpty, declared_of, axioms_of, bytes_told, blocks_told, state_of, Tells, filed_rec, filed_slot, filed_at_slot, map_all, known_word, words_known, among_map, map_among, words, known, file_of, words_told, file_told, number_from_among}
use Rattle.lis_catalog.proofs.Slots.{any_map}
use Rattle.lis_model.specs.Table.{Entry, Table, entry_of, table}
use Rattle.lis_model.specs.Listing.{extension}
use Rattle.lis_model.specs.Step.{is_here}
use Rattle.lis_kept.proofs.Filing.{find_among, found_has}
use Rattle.lis_store.specs.Stored.{Stored, IsSound}
use Rattle.lis_store.specs.Seen.{placed, table_of}
use Rattle.lis_store.specs.Judging.{is_among}
use Rattle.lis_store.proofs.ToldBy.{ToldBy}
use Rattle.lis_store.proofs.FileBlocks.{content_told, content_among, content_counted}

map_map : {X Y Z : Type 0} (f : Y → Z) (g : X → Y) (xs : List X) → map f (map g xs) ≡ map (λ x. f (g x)) xs
map_map f g [] = refl
map_map f g (x ∷ xs) = ap (λ ys. f (g x) ∷ ys) (map_map f g xs)

pub any_is_found : {X : Type 0} (test : X → Bool) (xs : List X) → list_any test xs ≡ is_some (find test xs)
any_is_found test [] = refl
any_is_found test (x ∷ xs) = grind (arith, common_steps, any_is_found test xs)

is_some-map : {X Y : Type 0} (v : X → Y) (o : Option X) → is_some (option_map v o) ≡ is_some o
is_some-map v o = search (rules)

-- a word has a number exactly if it is one of the words
pub numbered : (d : Dict) (word : List ℕ) → has_word (words d) word ≡ is_some (number_of d word)
numbered d word = grind (arith, common_steps, any_map, any_is_found, is_some-map)

pub length-whole : (at : ℕ → List ℕ) (ns : List ℕ) → ((n : ℕ) → Among ns n → length (at n) ≡ 4096) → length (flat_map at ns) ≡ 4096 * length ns
length-whole at [] whole = refl
length-whole at (n ∷ ns) whole =
    let rest = length-whole at ns (λ k m. whole k (inr m)) in
    omega (arith, length-append (at n) (flat_map at ns), whole n (inl refl), rest)

-- the file of a name among the files of memory
file_found : (told : Filed → File) → ((f : Filed) → (told f).name ≡ f.rec.name) → (name : List ℕ) (fs : List Filed) (f : Filed) → find (λ (g : Filed). same_word g.rec.name name) fs ≡ Some f → file_of (map told fs) name ≡ told f
file_found told named name [] f is = absurd cc
file_found told named name (g ∷ fs) f is = grind (arith, common_steps, same_Some, file_found told named name fs f)

-- ---- files by their slots
module _ (k : Metadata) (sound : AreSound k) where
  -- the record in the slot of a name has the name
  pub filed_named : (name : List ℕ) (slot : ℕ) (rec : FileRecord) → slot_of k.catalog name ≡ Some slot → rec_at k.catalog slot ≡ Some rec
      → Among k.catalog.entries (record { slot = slot; rec = rec }) × (rec.name ≡ name)
  filed_named name slot rec is_slot is_rec =
      let found = rec_at-slot_of k.catalog name slot sound.catalog is_slot in
      let same : found.0 ≡ rec = same_Some found.0 rec (sym found.1 ∙ is_rec) in
      (filed_at_slot k.catalog sound.catalog slot rec is_rec, ap (λ (r : FileRecord). r.name) (sym same) ∙ found.2)

-- ---- what memory represents
module _ (k : Metadata) (at : ℕ → List ℕ) (s : State) (sound : AreSound k) (free : FreeSlotsAreEmpty k) (tells : Tells k at s) where
  pub limits_told : k.limits ≡ s.limits
  limits_told = ap (λ (t : State). t.limits) tells.state

  pub files_told : map (file_told k.limits k.dict at) k.catalog.entries ≡ s.files
  files_told = ap (λ (t : State). t.files) tells.state

  pub described_told : (f : Filed) → Contains k.catalog.entries f → words_told k.dict (numbers_at k.ext f.slot) ≡ description (state_of k at) (file_told k.limits k.dict at f)
  described_told f m = tells.described f m ∙ ap (λ (t : State). description t (file_told k.limits k.dict at f)) (sym tells.state)

  pub known_told : words k.dict ≡ known s
  known_told = words_known k sound free at tells.used described_told ∙ ap known tells.state

  pub number_of_known : (word : List ℕ) → Among (known s) word → (n : ℕ) × (number_of k.dict word ≡ Some n)
  number_of_known word m =
      let found = known_word k sound word (subst (λ ws. Among ws word) (sym known_told) m) in
      (found.0, number_from_word k.dict sound.dict word found.0 found.1)

  pub known_counted : length (known s) ≡ length k.dict.entries
  known_counted = ap (λ ws. length ws) (sym known_told) ∙ length-map k.dict.entries (λ (e : List ℕ × ℕ). e.0)

  -- a name has a slot exactly if a file has it
  pub name_filed : (name : List ℕ) → has_name s.files name ≡ is_some (slot_of k.catalog name)
  name_filed name = grind (arith, common_steps, files_told, any_map, any_is_found, is_some-map)

  pub files_counted : length s.files ≡ length k.catalog.entries
  files_counted = ap (λ fs. length fs) (sym files_told) ∙ length-map k.catalog.entries (file_told k.limits k.dict at)

  pub file_of_filed : (f : Filed) → Among k.catalog.entries f → Among s.files (file_told k.limits k.dict at f)
  file_of_filed f m = subst (λ fs. Among fs (file_told k.limits k.dict at f)) files_told (map_among (file_told k.limits k.dict at) k.catalog.entries f m)

  pub filed_of_file : (file : File) → Among s.files file → (f : Filed) × Among k.catalog.entries f × (file_told k.limits k.dict at f ≡ file)
  filed_of_file file m = among_map (file_told k.limits k.dict at) k.catalog.entries file (subst (λ fs. Among fs file) (sym files_told) m)

  pub slot_of_file : (file : File) → Among s.files file → (f : Filed) × (slot_of k.catalog file.name ≡ Some f.slot) × (rec_at k.catalog f.slot ≡ Some f.rec) × (file_told k.limits k.dict at f ≡ file)
  slot_of_file file m = grind (arith, common_steps, filed_of_file, filed_slot, filed_rec)

  -- the file in the slot of a name
  pub file_in_slot : (name : List ℕ) (slot : ℕ) (rec : FileRecord) → slot_of k.catalog name ≡ Some slot → rec_at k.catalog slot ≡ Some rec
      → file_of s.files name ≡ file_told k.limits k.dict at (record { slot = slot; rec = rec })
  file_in_slot name slot rec is_slot is_rec =
      let found = found_has (λ (f : Filed). f.slot) slot (find (λ (f : Filed). same_word f.rec.name name) k.catalog.entries) is_slot in
      let m = find_among (λ (f : Filed). same_word f.rec.name name) k.catalog.entries found.0 found.1 in
      let there : rec_at k.catalog slot ≡ Some (found.0).rec = subst (λ n. rec_at k.catalog n ≡ Some (found.0).rec) found.2 (filed_rec k.catalog sound.catalog found.0 m.0) in
      let same : (found.0).rec ≡ rec = same_Some (found.0).rec rec (sym there ∙ is_rec) in
      ap (λ fs. file_of fs name) (sym files_told)
      ∙ (file_found (file_told k.limits k.dict at) (λ f. refl) name k.catalog.entries found.0 found.1
      ∙ ap (λ (r : FileRecord). file_told k.limits k.dict at (record { slot = slot; rec = r })) same)

-- ---- what a store says by what a disk keeps
module _ (k : Stored) (s : State) (sound : IsSound k) (fits : ToldBy k s) where
  -- the blocks of a file are blocks of the image
  pub told_below : (f : Filed) → Among k.metadata.catalog.entries f → (b : ℕ) → Among (blocks_told k.metadata.limits fits.kept f.rec) b → b < k.metadata.limits.blocks
  told_below f there b among =
      (fits.tells.given f (contains_from_among k.metadata.catalog.entries f there) b (number_from_among (blocks_told k.metadata.limits fits.kept f.rec) b among)).0

  -- each file has as many bytes as its record says
  pub size_of_filed : (f : Filed) → Among k.metadata.catalog.entries f → length (bytes_told k.metadata.limits fits.kept f.rec) ≡ f.rec.size
  size_of_filed f there =
      let numbers = content_told k.metadata.limits fits.kept f.rec in
      let counted = content_counted k.metadata sound.metadata f there fits.kept in
      let whole = length-whole (λ b. fits.kept (data_start k.metadata.limits + b)) numbers (λ b among. fits.whole b (told_below f there b (content_among k.metadata.limits fits.kept f.rec b among))) in
      length-take-le f.rec.size (flat_map (λ b. fits.kept (data_start k.metadata.limits + b)) numbers) (omega (arith, whole, counted))

  pub size_told : (name : List ℕ) (slot : ℕ) (rec : FileRecord) → slot_of k.metadata.catalog name ≡ Some slot → rec_at k.metadata.catalog slot ≡ Some rec → length (file_of s.files name).bytes ≡ rec.size
  size_told name slot rec is_slot is_rec =
      ap (λ (file : File). length file.bytes) (file_in_slot k.metadata fits.kept s sound.metadata sound.free fits.tells name slot rec is_slot is_rec)
      ∙ size_of_filed (record { slot = slot; rec = rec }) (filed_at_slot k.metadata.catalog sound.metadata.catalog slot rec is_rec)

  pub sizes_told : (name : List ℕ) (slot : ℕ) → slot_of k.metadata.catalog name ≡ Some slot → IsSomeAnd (rec_at k.metadata.catalog slot) (λ (rec : FileRecord). length (file_of s.files name).bytes ≡ rec.size)
  sizes_told name slot is = by (rec_at k.metadata.catalog slot) refl
    where
      by : (o : Option FileRecord) → rec_at k.metadata.catalog slot ≡ o → IsSomeAnd o (λ (rec : FileRecord). length (file_of s.files name).bytes ≡ rec.size)
      by None none = absurd (let found = rec_at-slot_of k.metadata.catalog name slot sound.metadata.catalog is in let some = found.1 in cc)
      by (Some rec) some = size_told name slot rec is some

  -- ---- the table
  abbrev told : Filed → File
  told = file_told k.metadata.limits k.metadata.dict fits.kept

  entry_is : (f : Filed) → Among k.metadata.catalog.entries f → (placed k.metadata f).entry ≡ entry_of (declared_of k.metadata) (axioms_of k.metadata) (told f)
  entry_is f there = search (rules, size_of_filed, described_told, contains_from_among)

  entries_are : map (λ (f : Placed). f.entry) (map (placed k.metadata) k.metadata.catalog.entries) ≡ map (entry_of (declared_of k.metadata) (axioms_of k.metadata)) (map told k.metadata.catalog.entries)
  entries_are = grind (arith, common_steps, map_map, map_all, entry_is)

  -- truth and listings see the store as they see the state
  pub table_told : table_of k.metadata ≡ table s
  table_told =
      let of_parts : List (List ℕ) → List Entry → Table = λ ws files.
      record { limits = k.metadata.limits; known = ws; files = files; entailed = map (λ p. (p, up (declared_of k.metadata) (axioms_of k.metadata) p)) ws } in
      let ws : words k.metadata.dict ≡ known (state_of k.metadata fits.kept) = words_known k.metadata sound.metadata sound.free fits.kept fits.tells.used (described_told k.metadata fits.kept s sound.metadata sound.free fits.tells) in
      ap₂ of_parts ws entries_are ∙ ap table fits.tells.state

  -- and so does each place
  module _ (place : List Formula) (name : List ℕ) where
    pub here_told : is_among k.metadata place name ≡ is_here (record { state = s; place = place }) name
    here_told = ap (λ (t : Table). list_any (λ (file : Entry). same_word file.name name) (extension t place)) table_told

    pub among_told : is_among k.metadata place name ≡ is_here (record { state = s; place = place }) (file_of s.files name).name
    among_told = here_told ∙ ap (is_here (record { state = s; place = place })) (sym (file_of_name s.files name))
