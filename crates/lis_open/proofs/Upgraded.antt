-- A state of version 1 and the metadata of it, in another version: the same except for the limits.
use Rattle.std.proofs.Common.{rules}
use Rattle.std.proofs.Common.{max, take-append-drop}
use Rattle.std.proofs.lemmas.Bool.Decides.{nat_tests}
use Rattle.lis_open.proofs.Common.{◌≡◌, sym, ap, ◌∙◌, subst, ℕ, ◌+◌, ◌≤◌, nat_le, true, Some, List, length, map, slice_get, sum, IsTrue, arith, ◌⊎◌, refl, ap₂, inl, inr, ◌*◌, ◌==◌, Bool, false, [], ◌∷◌, ◌++◌, take, drop, Result, Ok, Err, if◌then◌else◌, eq-eqb, ne_eqb, ◌<◌, le-leb, drop-drop, Contains, leb-true, list_all, among_from_contains, contains_from_among, filed_rec, flat_map, slot, property_slots, axiom_slots, file_slots, row_slots, bitmap_start, bytes_told, file_told, state_of, is_large, both_ways, Filed, rec_at, are_distinct, Dict, FileRecord, SpellsSuper, Pair, data_start, State, description, WellFormed, Metadata, AreSound, blocks_told, Tells, Meaning, part, Torn, Always, IsSettled, Leaves, part-torn, part-put, block, Keeps, Spreads, Limits, image_blocks, Stored, IsSound, and_from, has_number, all_among, File, IsWritten, put, always_settled, leaves_then, leaves_weaken, replayed, recovered, ⊎_map, word_of, is_some, nat_lt, cond, ◌/◌, ◌&&◌}
use Rattle.lis_store.specs.Stands.{Stands}
use Rattle.std.proofs.Math.Path.{fun_ext}
use Rattle.lis_content.proofs.Indexes.{small_size, small_blocks, small_content}
use Rattle.lis_fields.proofs.Parts.{file_upgraded, file_respelled, record_tests}
use Rattle.lis_fields.proofs.Supers.{with_version, upgraded_in_range, super_torn, super_upgraded}
use Rattle.lis_fields.specs.Layouts.{file_bytes, is_record}
use Rattle.lis_fields.specs.declared.slots.FileSlot.{FileSlot}
use Rattle.lis_fields.specs.declared.slots.FileSlot.TheVariants.{Used}
use Rattle.lis_kept.proofs.InArea.{first_limit, early_rows, early_sets}
use Rattle.lis_kept.proofs.Formed.{record_parts}
use Rattle.lis_kept.specs.Metadata.{record_at}
use Rattle.lis_laws.proofs.Counts.{all_weaker}
use Rattle.lis_model.specs.State.{blocks_needed, blocks_taken}
use Rattle.lis_model.specs.Ranges.{are_in_range, is_version}
use Rattle.lis_model.proofs.Ranges.{own_version, few_parts, early_descriptions}
use Rattle.lis_kept.specs.Areas.{Area, held_in, row_count, set_count, set_slots}
use Rattle.lis_kept.specs.Areas.Area.{Properties, Axioms, Files, Rows, Sets, Bitmap}
use Rattle.lis_kept.specs.Sound.{is_sound_record, IsSoundAxiom}
use Rattle.lis_kept.proofs.Filing.{map_all}
use Rattle.lis_store.proofs.Elsewhere.{written_there}
use Rattle.std.proofs.lemmas.List.{drop-take}
use Rattle.lis_ports.proofs.Parts.{part-part, torn-put, length-part}
use Rattle.lis_journal.specs.Record.{is_open}
use Rattle.lis_journal.specs.Images.{KeepsPast}
use Rattle.lis_journal.proofs.Fitting.{fits_stand}
use Rattle.lis_journal.proofs.Spreading.{leaves_spread}
use Rattle.lis_fields.proofs.Widths.{joined}
use Rattle.lis_store.specs.Stored.{StoreFits}
use Rattle.lis_store.proofs.OneState.{one_state}
use Rattle.lis_store.proofs.Standing.{change_stands, fitting_stands}
use Rattle.lis_open.specs.declared.mounting.OpenFault.{OpenFault}
use Rattle.lis_open.specs.declared.mounting.OpenFault.TheVariants.{DiskFault}
use Rattle.lis_open.specs.Opens.{OpenEnded, OpenLeft}
use Rattle.lis_open.specs.Upgrades.{upgraded, GateLeft}
use Rattle.lis_open.proofs.Needs.{one_limits, has_super}
use Rattle.lis_open.proofs.Shut.{shut_keeps, shut_stands, shut_torn, recovered_shut}
use Rattle.lis_kept.specs.Image.{image_layout}
use Rattle.lis_kept.proofs.Image.{same_layout, same_blocks, same_homes}
use Rattle.lis_model.specs.Image.{record_blocks, description_blocks, properties_start, axioms_start, files_start, descriptions_start}

-- ---- a state in a version
abbrev pub state_in : ℕ → State → State
state_in version s = record s { limits = record s.limits { version = version } }

abbrev pub metadata_in : ℕ → Metadata → Metadata
metadata_in version k = record k { limits = record k.limits { version = version } }

-- in its own version it is itself
pub state_own : (s : State) → s.limits.version ≡ 1 → state_in 1 s ≡ s
state_own s one = ap (λ version. state_in version s) (sym one)

-- one of version 1 becomes one of version 2
upgraded_first : (s : State) → s.limits.version ≡ 1 → upgraded s ≡ state_in 2 s
upgraded_first s one = ap (λ version. state_in (max 2 version) s) one

-- an image that is not of version 1 is of a later one
later_version : (limits : Limits) → IsTrue (are_in_range limits) → (limits.version ≡ 1 → ⊥) → 2 ≤ limits.version
later_version limits range none = by limits.version (own_version limits range) none
  where
    by : (n : ℕ) → is_version n ≡ true → (n ≡ 1 → ⊥) → 2 ≤ n
    by n is none = grind (arith, nat_tests)

-- and it stays what it is
upgraded_later : (s : State) → IsTrue (are_in_range s.limits) → (s.limits.version ≡ 1 → ⊥) → upgraded s ≡ s
upgraded_later s range none =
    let same : max 2 s.limits.version ≡ s.limits.version = omega (arith, later_version s.limits range none) in ap (λ version. state_in version s) same

-- ---- the state, which has no large file
-- no file has more than this many bytes
abbrev are_short : ℕ → List File → Type 0
are_short most files = IsTrue (list_all (λ (file : File). nat_le (length file.bytes) most) files)

used_alike : (files : List File) → are_short 65536 files
    → sum (map (λ (file : File). blocks_taken 2 (length file.bytes)) files) ≡ sum (map (λ (file : File). blocks_taken 1 (length file.bytes)) files)
used_alike files short = search (rules, map_all, alike, leb-true, all_among)
  where
    -- no block numbers others
    alike : (size : ℕ) → size ≤ 65536 → blocks_taken 2 size ≡ blocks_taken 1 size
    alike size few =
        let n = blocks_needed size in ap (λ b. n + cond b 0 ((n + 1023) / 1024)) (le-leb n 16 (omega (arith, few)))

longer : (files : List File) → are_short 65536 files → are_short 1048576 files
longer files short = search (rules, all_weaker, leb-true, le-leb)

pub formed_upgraded : (s : State) → s.limits.version ≡ 1 → WellFormed s → WellFormed (state_in 2 s)
formed_upgraded s one formed =
    let short : are_short 65536 s.files = subst (λ most. are_short most s.files) (first_limit s.limits one) formed.files.short in
    let few : sum (map (λ (file : File). blocks_taken 2 (length file.bytes)) s.files) ≤ s.limits.blocks =
    subst (λ n. n ≤ s.limits.blocks) (sym (used_alike s.files short))
    (subst (λ version. sum (map (λ (file : File). blocks_taken version (length file.bytes)) s.files) ≤ s.limits.blocks) one formed.few_blocks) in
    assumption (upgraded_in_range s.limits one formed.limits, longer s.files short, few)

-- ---- the parts of an image are where they were
module _ (version : ℕ) (limits : Limits) (range : IsTrue (are_in_range limits)) (early : (limits.version == 3) ≡ false) (later : IsTrue (are_in_range (with_version version limits))) (other : (version == 3) ≡ false) where
  records_stay : record_blocks (with_version version limits) ≡ record_blocks limits
  records_stay = (few_parts (with_version version limits) later other).records ∙ sym (few_parts limits range early).records

  descriptions_stay : description_blocks (with_version version limits) ≡ description_blocks limits
  descriptions_stay = early_descriptions (with_version version limits) other ∙ sym (early_descriptions limits early)

  rows_stay : row_count (with_version version limits) ≡ row_count limits
  rows_stay = early_rows (with_version version limits) other ∙ (ap (λ n. 4096 / (limits.files / 8) * n) descriptions_stay ∙ sym (early_rows limits early))

  no_set : (n : ℕ) → n < set_count (with_version version limits) → ⊥
  no_set n lt = omega (arith, lt, early_sets (with_version version limits) other)

  start_stays : data_start (with_version version limits) ≡ data_start limits
  start_stays = omega (arith, records_stay, descriptions_stay)

  layout_stays : image_layout limits ≡ image_layout (with_version version limits)
  layout_stays = ap₂ (λ records blocks. record { records = records; blocks = blocks }) (sym records_stay) (omega (arith, records_stay, descriptions_stay))

  slots_stay : (area : Area) (at : ℕ → List ℕ) (n : ℕ) → held_in (with_version version limits) area at n ≡ held_in limits area at n
  slots_stay Properties at n =
      let same : properties_start (with_version version limits) ≡ properties_start limits = omega (arith, records_stay) in ap (λ start. slot (record (property_slots limits) { first = start }) at n) same
  slots_stay Axioms at n =
      let same : axioms_start (with_version version limits) ≡ axioms_start limits = omega (arith, records_stay) in ap (λ start. slot (record (axiom_slots limits) { first = start }) at n) same
  slots_stay Files at n =
      let same : files_start (with_version version limits) ≡ files_start limits = omega (arith, records_stay) in ap (λ start. slot (record (file_slots limits) { first = start }) at n) same
  slots_stay Rows at n =
      let same : descriptions_start (with_version version limits) ≡ descriptions_start limits = omega (arith, records_stay) in ap (λ start. slot (record (row_slots limits) { first = start }) at n) same
  slots_stay Sets at n =
      let same : descriptions_start (with_version version limits) ≡ descriptions_start limits = omega (arith, records_stay) in ap (λ start. slot (record (set_slots limits) { first = start }) at n) same
  slots_stay Bitmap at n =
      let same : bitmap_start (with_version version limits) ≡ bitmap_start limits = omega (arith, records_stay, descriptions_stay) in ap (λ start. at (start + n)) same

-- version 1 is an early one
early_first : (limits : Limits) → limits.version ≡ 1 → (limits.version == 3) ≡ false
early_first limits one = ap (λ version. version == 3) one

-- ---- what memory keeps
record_upgraded : (limits : Limits) (dict : Dict) (blocks : ℕ) (rec : FileRecord) → limits.version ≡ 1 → IsTrue (is_sound_record limits dict blocks rec)
    → IsTrue (is_sound_record (with_version 2 limits) dict blocks rec)
record_upgraded limits dict blocks rec one sound =
    let later = with_version 2 limits in
    let parts = record_parts limits dict blocks rec sound in
    and_from (is_record later rec && list_all (λ n. is_some (word_of dict n)) rec.tags) (list_all (λ n. nat_lt n blocks) rec.blocks)
    (and_from (is_record later rec) (list_all (λ n. is_some (word_of dict n)) rec.tags) (file_upgraded limits (Used rec) one parts.0) parts.1) parts.2

pub sound_upgraded : (k : Metadata) → k.limits.version ≡ 1 → AreSound k → AreSound (metadata_in 2 k)
sound_upgraded k one sound = assumption (later, axioms, records, marks)
  where
    later : IsTrue (are_in_range (with_version 2 k.limits))
    later = upgraded_in_range k.limits one sound.range

    marks : data_start (with_version 2 k.limits) ≤ length k.marks
    marks = omega (arith, start_stays 2 k.limits sound.range (early_first k.limits one) later refl, sound.marks)

    axioms : (slot left right : ℕ) → slice_get k.axioms slot ≡ Some (Pair left right) → IsSoundAxiom (metadata_in 2 k) slot left right
    axioms slot left right is = assumption (sound.axioms slot left right is)

    records : (slot : ℕ) (rec : FileRecord) → rec_at k.catalog slot ≡ Some rec → IsTrue (is_sound_record (with_version 2 k.limits) k.dict k.limits.blocks rec)
    records slot rec is = record_upgraded k.limits k.dict k.limits.blocks rec one (sound.records slot rec is)

-- ---- what memory represents and has written, if all home blocks are the same and the super block has the version
module _ (version : ℕ) (k : Metadata) (at there : ℕ → List ℕ) (sound : AreSound k) (one : k.limits.version ≡ 1) (later : IsTrue (are_in_range (with_version version k.limits))) (other : (version == 3) ≡ false) (same : (n : ℕ) → properties_start k.limits ≤ n → there n ≡ at n) where
  abbrev limits : Limits
  limits = k.limits

  abbrev others : Limits
  others = with_version version k.limits

  -- no file has an index block
  small : (f : Filed) → Contains k.catalog.entries f → is_large f.rec.size ≡ false
  small f m =
      let form = (record_parts limits k.dict limits.blocks f.rec (sound.records f.slot f.rec (filed_rec k.catalog sound.catalog f (among_from_contains k.catalog.entries f m)))).0 in
      small_size f.rec.size (omega (arith, (record_tests limits f.rec form).small, first_limit limits one))

  blocks_same : (f : Filed) → Contains k.catalog.entries f → blocks_told others there f.rec ≡ blocks_told limits at f.rec
  blocks_same f m =
      small_blocks version (data_start others) f.rec.blocks f.rec.size there (small f m)
      ∙ sym (small_blocks limits.version (data_start limits) f.rec.blocks f.rec.size at (small f m))

  data_same : ◌≡◌ {A = ℕ → List ℕ} (λ b. there (data_start others + b)) (λ b. at (data_start limits + b))
  data_same = fun_ext (λ b. ap (λ start. there (start + b)) (start_stays version limits sound.range (early_first limits one) later other) ∙ same (data_start limits + b) (omega arith))

  bytes_same : (f : Filed) → Contains k.catalog.entries f → bytes_told others there f.rec ≡ bytes_told limits at f.rec
  bytes_same f m =
      small_content version (data_start others) f.rec.blocks f.rec.size there (small f m)
      ∙ (ap (λ blocks. take f.rec.size (flat_map blocks f.rec.blocks)) data_same
      ∙ sym (small_content limits.version (data_start limits) f.rec.blocks f.rec.size at (small f m)))

  file_same : (f : Filed) → Contains k.catalog.entries f → file_told others k.dict there f ≡ file_told limits k.dict at f
  file_same f m = ap (λ (bytes : List ℕ). record (file_told limits k.dict at f) { bytes = bytes }) (bytes_same f m)

  state_same : state_of (metadata_in version k) there ≡ state_in version (state_of k at)
  state_same =
      ap (λ (files : List File). record (state_in version (state_of k at)) { files = files })
      (map_all (file_told others k.dict there) (file_told limits k.dict at) k.catalog.entries (λ f m. file_same f (contains_from_among k.catalog.entries f m)))

  was : (f : Filed) → Contains k.catalog.entries f → (n : ℕ) → has_number (blocks_told others there f.rec) n ≡ true → has_number (blocks_told limits at f.rec) n ≡ true
  was f m n has = ap (λ ns. has_number ns n) (sym (blocks_same f m)) ∙ has

  pub tells_in : (s : State) → SpellsSuper (record s.limits { version = version }) (there 0) → WellFormed (state_in version s) → Tells k at s → Tells (metadata_in version k) there (state_in version s)
  tells_in s super formed tells = record {
    super = super;
    state = state_same ∙ ap (state_in version) tells.state;
    formed = formed;
    used = tells.used;
    described = λ f m. tells.described f m ∙ ap (description s) (sym (file_same f m));
    taken = λ n lt is.
        let b = tells.taken n lt is in
        record { file = b.file; kept = b.kept; has = ap (λ ns. has_number ns n) (blocks_same b.file b.kept) ∙ b.has };
    given = λ f m n has. tells.given f m n (was f m n has);
    indexed = λ f m large. absurd (both_ways (is_large f.rec.size) (small f m) large);
    apart = λ f m. ap are_distinct (blocks_same f m) ∙ tells.apart f m;
    one_use = λ f g mf mg n has_f has_g. tells.one_use f g mf mg n (was f mf n has_f) (was g mg n has_g);
  }

  -- if each file slot is spelled alike in the version
  pub written_in : ((slot : FileSlot) → file_bytes k.limits.version slot ≡ file_bytes version slot) → IsWritten k at → IsWritten (metadata_in version k) there
  written_in alike written =
      let all = written_there k at there sound.range (λ n low lt. same n low) written in
      let early = early_first limits one in
      let stays = slots_stay version limits sound.range early later other in
      elim [
        | Properties ↦ λ n lt. stays Properties there n ∙ all Properties n lt
        | Axioms ↦ λ n lt. stays Axioms there n ∙ all Axioms n lt
        | Files ↦ λ n lt. stays Files there n ∙ (all Files n lt ∙ alike (record_at k.catalog n))
        | Rows ↦ λ n lt. stays Rows there n ∙ all Rows n (omega (arith, lt, rows_stay version limits sound.range early later other))
        | Sets ↦ λ n lt. absurd (no_set version limits sound.range early later other n lt)
        | Bitmap ↦ λ n lt. stays Bitmap there n ∙ all Bitmap n lt
      ]

-- ---- the gate of an image's version is written: each image meanwhile represents the state as before or in version 2, and the last one the
-- state in version 2
-- ---- results
-- the fault of a result that was passed on
pub fault_of : {S T : Type 0} {result : Result T OpenFault} {fault given other : OpenFault} → result ≡ Err fault → fault ≡ given → result ≡ Err other
    → ◌≡◌ {A = Result S OpenFault} (Err given) (Err other)
fault_of {T = T} {fault = fault} {other = other} was is told = search (rules, was)

-- the disk's fault differs from every other one
pub disk_alone : {T : Type 0} {result : Result T OpenFault} {told fault : OpenFault} → result ≡ Err told → told ≡ DiskFault → result ≡ Err fault → (fault ≡ DiskFault → ⊥) → ⊥
disk_alone {told = told} {fault = fault} was is named other = other (cc)

-- and the result with that fault
pub handed_on : {S T : Type 0} {result : Result T OpenFault} {fault given other : OpenFault} → result ≡ Err fault → fault ≡ given → ◌≡◌ {A = Result S OpenFault} (Err given) (Err other)
    → result ≡ Err other
handed_on {given = given} {other = other} was is told = search (rules, was)

pub not_refused : {S : Type 0} {done : S} {fault : OpenFault} → ◌≡◌ {A = Result S OpenFault} (Ok done) (Err fault) → ⊥
not_refused is = cc

-- ---- one image
module _ (k : Stored) (m : Meaning) (s : State) (sound : IsSound k) (fits : StoreFits k m s) (one : s.limits.version ≡ 1) (shut : is_open 0 m.bytes ≡ false) where
  keeps : Keeps k.journal.layout fits.kept m.bytes
  keeps = shut_keeps k.journal.layout fits.kept m.bytes shut (fits_stand k.journal (sound.placed fits.unbroken) fits.journal).reads

  kept_one : k.metadata.limits.version ≡ 1
  kept_one = ap (λ (t : State). t.limits.version) fits.tells.state ∙ one

  super_before : SpellsSuper s.limits (block 0 m.bytes)
  super_before = subst (λ bytes. SpellsSuper s.limits bytes) (sym (keeps.same 0 (inl refl))) fits.tells.super

  module _ (image : List ℕ) (torn : Torn 24 1 m.bytes image) where
    long : 4096 * k.journal.layout.blocks ≤ length image
    long = omega (arith, keeps.long, torn.len)

    whole : 4096 ≤ length image
    whole = omega (arith, long, same_blocks sound.image)

    same : (n : ℕ) → properties_start k.metadata.limits ≤ n → block n image ≡ fits.kept n
    same n low = part-torn 24 1 m.bytes image torn (4096 * n) 4096 (inr (omega (arith, low))) ∙ keeps.same n (inr (omega (arith, low, same_homes sound.image)))

    front : take 24 (block 0 image) ≡ take 24 (block 0 m.bytes)
    front = part-part 0 24 0 4096 image (omega arith) ∙ (torn.before ∙ sym (part-part 0 24 0 4096 m.bytes (omega arith)))

    behind : drop 25 (block 0 image) ≡ drop 25 (block 0 m.bytes)
    behind = drop-take 25 4071 image ∙ (ap (take 4071) torn.after ∙ sym (drop-take 25 4071 m.bytes))

    -- it represents the state in the version of its super block
    stands_in : (version : ℕ) → (version == 3) ≡ false → ((slot : FileSlot) → file_bytes 1 slot ≡ file_bytes version slot) → SpellsSuper (record s.limits { version = version }) (block 0 image) → AreSound (metadata_in version k.metadata) → WellFormed (state_in version s) → Stands image (state_in version s)
    stands_in version other alike super sound_then formed =
        let later = sound_then.range in
        change_stands (record k { metadata = metadata_in version k.metadata }) k.journal.layout (λ n. block n image) (state_in version s) sound_then sound.free sound.pairs
        (tells_in version k.metadata fits.kept (λ n. block n image) sound.metadata kept_one later other same s super formed fits.tells)
        (written_in version k.metadata fits.kept (λ n. block n image) sound.metadata kept_one later other same (λ slot. ap (λ v. file_bytes v slot) kept_one ∙ alike slot) fits.written)
        (same_layout sound.image ∙ layout_stays version k.metadata.limits sound.metadata.range (early_first k.metadata.limits kept_one) later other) image (shut_stands k.journal.layout image (shut_torn 24 1 m.bytes image (omega arith) torn shut) long)

    stands_before : SpellsSuper s.limits (block 0 image) → Stands image s
    stands_before super =
        subst (Stands image) (state_own s one)
        (stands_in 1 refl (λ slot. refl) (subst (λ version. SpellsSuper (record s.limits { version = version }) (block 0 image)) one super) (subst AreSound (ap (λ version. metadata_in version k.metadata) kept_one) sound.metadata)
        (subst WellFormed (sym (state_own s one)) fits.tells.formed))

    pub stands_upgraded : SpellsSuper (record s.limits { version = 2 }) (block 0 image) → Stands image (upgraded s)
    stands_upgraded super =
        subst (Stands image) (sym (upgraded_first s one)) (stands_in 2 refl file_respelled super (sound_upgraded k.metadata kept_one sound.metadata) (formed_upgraded s one fits.tells.formed))

    pub torn_stands : Stands image s ⊎ Stands image (upgraded s)
    torn_stands =
        ⊎_map stands_before stands_upgraded (super_torn s.limits (block 0 m.bytes) (block 0 image) one super_before
        (length-part 0 4096 image whole ∙ sym (length-part 0 4096 m.bytes (omega (arith, whole, torn.len)))) front behind)

    -- if the byte is a 2
    pub written_stands : part 24 1 image ≡ 2 ∷ [] → Stands image (upgraded s)
    written_stands gate_is =
        stands_upgraded (subst (λ bytes. SpellsSuper (record s.limits { version = 2 }) bytes) (sym new) (super_upgraded s.limits (block 0 m.bytes) one super_before))
      where
        new : block 0 image ≡ take 24 (block 0 m.bytes) ++ (2 ∷ drop 25 (block 0 m.bytes))
        new =
            joined 24 (block 0 image) (take 24 (block 0 m.bytes)) (2 ∷ drop 25 (block 0 m.bytes)) front
            (sym (take-append-drop 1 (drop 24 (block 0 image)))
            ∙ ap₂ (λ xs ys. xs ++ ys) (part-part 24 1 0 4096 image (omega arith) ∙ gate_is) (drop-drop 1 24 (block 0 image) ∙ behind))

-- ---- runs
pub opening_moments : {old mid : Meaning} (t : State) → Leaves old mid (λ image. old.images image ⊎ Stands image t)
    → Leaves old mid (λ image. old.images image ⊎ (Stands image t ⊎ Stands image (upgraded t)))
opening_moments {old} t moments = search (rules, leaves_weaken)

module _ (old mid : Meaning) (k : Stored) (sound : IsSound k) (ended : OpenEnded old mid (Ok k)) (left : OpenLeft old mid (Ok k)) where
  abbrev s : State
  s = ended.1.0

  stood : Stands old.bytes s
  stood = ended.1.1

  fits : StoreFits k mid s
  fits = ended.1.2

  limits_are : k.metadata.limits ≡ s.limits
  limits_are = ap (λ (t : State). t.limits) fits.tells.state

  -- nothing is unsynced
  settled : IsSettled mid mid.bytes
  settled = record { reads = refl; only = λ image is. left.2.only image is ∙ sym left.2.reads }

  version_told : left.0.version ≡ k.metadata.limits.version
  version_told =
      ap (λ (l : Limits). l.version) (one_limits old.bytes left.0 s.limits left.1 (has_super old.bytes s stood)) ∙ sym (ap (λ (l : Limits). l.version) limits_are)

  abbrev after : List ℕ
  after = recovered (image_layout left.0) old.bytes

  gate_left : {new : Meaning} (is_first : Bool) → (left.0.version == 1) ≡ is_first → IsSettled new (if is_first then put after 24 (2 ∷ []) else after) → GateLeft old new
  gate_left {new} is_first is settled = (left.0, left.1, subst (λ b. IsSettled new (if b then put after 24 (2 ∷ []) else after)) (sym is) settled)

  -- what opening left of an image of a later version than 1 stays
  pub later_left : (k.metadata.limits.version ≡ 1 → ⊥) → GateLeft old mid
  later_left none = gate_left false (ne_eqb left.0.version 1 (λ one. none (sym version_told ∙ one))) left.2

  -- and the state is what it becomes
  pub later_stands : (k.metadata.limits.version ≡ 1 → ⊥) → Always mid (λ image. Stands image (upgraded s))
  later_stands none =
      let range = subst (λ (l : Limits). IsTrue (are_in_range l)) limits_are sound.metadata.range in
      let same = upgraded_later s range (λ one. none (ap (λ (l : Limits). l.version) limits_are ∙ one)) in
      subst (λ (t : State). Always mid (λ image. Stands image t)) (sym same) (fitting_stands mid k s sound fits)

  module _ (one : k.metadata.limits.version ≡ 1) where
    state_one : s.limits.version ≡ 1
    state_one = sym (ap (λ (l : Limits). l.version) limits_are) ∙ one

    shut : is_open 0 mid.bytes ≡ false
    unfolding Stands
    shut =
        let same = one_limits old.bytes left.0 s.limits left.1 (has_super old.bytes s stood) in
        subst (λ bytes. is_open 0 bytes ≡ false) (sym left.2.reads) (recovered_shut (image_layout left.0) old.bytes stood.replay
        (ap (λ (l : Limits). replayed (image_layout l) old.bytes) same ∙ stood.replays)
        (omega (arith, fits.journal.reads.holds.enough, fits.journal.reads.holds.long, ap length left.2.reads)))

    -- and in an image of version 1 the gate is put
    pub first_left : {new : Meaning} → IsSettled new (put mid.bytes 24 (2 ∷ [])) → GateLeft old new
    first_left {new} written = gate_left true (eq-eqb left.0.version 1 (version_told ∙ one)) (subst (λ bytes. IsSettled new (put bytes 24 (2 ∷ []))) left.2.reads written)

    -- at each moment the image represents the state as before, or in version 2
    gate_moments : {new : Meaning} → Spreads mid new (Torn 24 1) → Leaves mid new (λ image. Stands image s ⊎ Stands image (upgraded s))
    gate_moments spreads =
        leaves_spread (Torn 24 1) (λ image. Stands image s ⊎ Stands image (upgraded s)) (always_settled (λ image. image ≡ mid.bytes) mid.bytes settled refl) spreads (λ from image same torn.
        torn_stands k mid s sound fits state_one shut image (subst (λ bytes. Torn 24 1 bytes image) same torn))

    pub upgrade_moments : (t : State) {new : Meaning} → Stands old.bytes t → Leaves old mid (λ image. old.images image ⊎ Stands image t) → Spreads mid new (Torn 24 1)
        → Leaves old new (λ image. old.images image ⊎ (Stands image t ⊎ Stands image (upgraded t)))
    upgrade_moments t stands moments spreads =
        let same : s ≡ t = one_state old.bytes s t stood stands in
        leaves_then (opening_moments t moments)
        (leaves_weaken (λ image. old.images image ⊎ (Stands image t ⊎ Stands image (upgraded t))) (gate_moments spreads) (λ image is.
        inr (subst (λ (u : State). Stands image u ⊎ Stands image (upgraded u)) same is)))

    -- what is past the image stays
    pub upgrade_past : (limits : Limits) {new : Meaning} → KeepsPast (image_blocks limits) old mid → Spreads mid new (Torn 24 1) → KeepsPast (image_blocks limits) old new
    upgrade_past limits {new} past spreads n le =
        let from = spreads.reads in
        part-torn 24 1 from.0 new.bytes from.2 (4096 * n) 4096 (inr (omega (arith, le)))
        ∙ (ap (block n) (elim from.1 as (λ _. from.0 ≡ mid.bytes) [ inl image ↦ settled.only from.0 image | inr same ↦ same ]) ∙ past n le)

    -- after the gate is written and synced, every image represents the state in version 2
    pub first_stands : {new : Meaning} → IsSettled new (put mid.bytes 24 (2 ∷ [])) → Always new (λ image. Stands image (upgraded s))
    first_stands written =
        let le : 25 ≤ length mid.bytes = omega (arith, fits.journal.reads.holds.enough, fits.journal.reads.holds.long) in
        always_settled (λ image. Stands image (upgraded s)) (put mid.bytes 24 (2 ∷ [])) written
        (written_stands k mid s sound fits state_one shut (put mid.bytes 24 (2 ∷ [])) (torn-put mid.bytes 24 (2 ∷ []) le) (part-put mid.bytes 24 (2 ∷ []) le))
