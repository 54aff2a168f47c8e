-- How opening an image ends: the super block, the journal, and the parts after it.
use Rattle.std.proofs.Common.{filter, slice_index_or}
use Rattle.std.specs.List.{range_with_len}
use Rattle.lis_fields.specs.Layouts.{set_bytes}
use Rattle.lis_kept.specs.Areas.{set_slots}
use Rattle.lis_open.proofs.Common.{rules, ◌≡◌, refl, sym, ap, ap₂, ◌∙◌, subst, inl, inr, ℕ, ◌+◌, ◌/◌, ◌≤◌, ◌<◌, nat_lt, Bool, true, false, cond, List, [], ◌++◌, map, take, replicate, Option, Some, None, IsTrue, IsSomeAnd, arith, fold, flat_map, Contains, ◌⊎◌, ◌*◌, length, Result, Ok, Err, insert_key, list_all, part, bits_bytes, block, Keeps, Slots, slot, marked, are_distinct, is_large, index_bytes, numbers_in, index_home, FileRecord, SpellsSuper, prop_bytes, is_prop, axiom_bytes, is_axiom, file_bytes, is_file, FreeFile, PropSlot, Limits, bitmap_start, data_start, image_blocks, are_in_range, State, file_cmp, blocks_needed, property_slots, axiom_slots, file_slots, row_slots, bytes_told, blocks_told, HasIndex, Contents, AreSlots, all_records, spelled_state, is_had_by, word_at, row_bit, replayed, File, file_of_record, same_Some, Meaning, IsSettled, Leaves, Held, Fits, Spot, Super, BadRecord, Tells, Stored, IsSound, contents_of, leaves_weaken, leaves_then, IsWritten, ⊎_map}
use Rattle.std.proofs.Math.Path.{fun_ext}
use Rattle.lis_journal.specs.Images.{StandsFor as KeptBy, KeepsPast}
use Rattle.lis_journal.proofs.Fitting.{replayed-front}
use Rattle.lis_slots.specs.Slots.{home, place}
use Rattle.lis_blockmap.specs.Bitmap.{bitmap_bytes}
use Rattle.lis_content.specs.Large.{content_blocks, index_count}
use Rattle.lis_content.proofs.Indexes.{numbers_of_same}
use Rattle.lis_store.specs.Stands.{set_by, all_blocks, Spells, Stands}
use Rattle.lis_ports.specs.Calls.{IsUnchanged, OnlyReads}
use Rattle.lis_ports.specs.Runs.{IsDiskRun}
use Rattle.lis_journal.specs.Record.{has_open, bad_record, recovered_as, recovered}
use Rattle.lis_journal.specs.Recovery.{HasMountCause, StandsForReplayed, InRecovery, MountEnded, IsSettledPast}
use Rattle.lis_journal.specs.declared.journal.JournalFault.{JournalFault}
use Rattle.lis_journal.specs.declared.journal.JournalFault.TheVariants.{DiskFault as JournalDisk, BadRecord as JournalRecord, NoMemory as JournalMemory}
use Rattle.lis_ports.proofs.OnlyReading.{unchanged_then}
use Rattle.lis_store.proofs.Spelled.{tells_spells}
use Rattle.lis_open.specs.declared.mounting.OpenFault.{OpenFault}
use Rattle.lis_open.specs.declared.mounting.OpenFault.TheVariants.{TooShort, Damaged, DiskFault, NoMemory}
use Rattle.lis_open.specs.Opens.{HasOpenCause, HasSuper, IsNeeded, IsLongEnough, OpenEnded, Recovers, OpenLeft, InOpening, journal_fault}
use Rattle.lis_open.specs.Checks.{Fails, FailsReplayed, RecordFails, FailsIn, IsBefore, FailsFirst}
use Rattle.lis_open.specs.Reading.{IsFirstOfAll, Opened}
use Rattle.lis_open.specs.ReadAll.{StoreEnded}
use Rattle.lis_open.proofs.SpotKinds.{behind}
use Rattle.lis_open.proofs.BlocksRead.{fits_after, settled_after}
use Rattle.lis_open.proofs.Needs.{one_limits, has_super, needs_no_more}
use Rattle.lis_open.proofs.Damage.{damaged}
use Rattle.lis_kept.specs.Image.{image_layout}
use Rattle.lis_journal.specs.declared.layout.Layout.{Layout}
use Rattle.lis_model.specs.Image.{properties_start, bitmap_blocks}
use Rattle.lis_kept.proofs.InArea.{some_properties}

-- ---- slots and bytes depend on home blocks alone
le_more : (m a b : ℕ) → m ≤ a → m ≤ a + b
le_more m a b le = omega arith

-- blocks that are the same from the first home block on
module _ (limits : Limits) (at there : ℕ → List ℕ) (same : (n : ℕ) → properties_start limits ≤ n → at n ≡ there n) where
  same_slots : {X : Type 0} (spelled : X → List ℕ) (is_in_range : X → Bool) (slots : Slots) (values : List X) → properties_start limits ≤ slots.first
      → AreSlots spelled is_in_range slots at values → AreSlots spelled is_in_range slots there values
  same_slots spelled is_in_range slots values home_blocks are = record {
    count = are.count;
    each = λ k value is.
        let was = are.each k value is in
        let here = same (home slots k) (le_more (properties_start limits) slots.first _ home_blocks) in
        (sym (ap (part (place slots k) slots.width) here) ∙ was.0, was.1);
  }

  -- ---- files
  homes : ◌≡◌ {A = ℕ → List ℕ} (λ b. at (data_start limits + b)) (λ b. there (data_start limits + b))
  homes = fun_ext (λ b. same (data_start limits + b) (omega arith))

  index_same : (rec : FileRecord) (j : ℕ) → at (index_home (data_start limits) rec.blocks j) ≡ there (index_home (data_start limits) rec.blocks j)
  index_same rec j = same (index_home (data_start limits) rec.blocks j) (omega arith)

  numbers_same : (rec : FileRecord) → content_blocks limits.version (data_start limits) rec.blocks rec.size at ≡ content_blocks limits.version (data_start limits) rec.blocks rec.size there
  numbers_same rec =
      ap (λ ns. cond (is_large rec.size) ns rec.blocks)
      (numbers_of_same limits.version (data_start limits) rec.blocks (blocks_needed rec.size) there at (λ j lt. index_same rec j))

  same_blocks : blocks_told limits at ≡ blocks_told limits there
  same_blocks = fun_ext (λ rec. ap (λ ns. cond (is_large rec.size) (ns ++ rec.blocks) rec.blocks) (numbers_same rec))

  same_bytes : bytes_told limits at ≡ bytes_told limits there
  same_bytes = fun_ext (λ rec. ap₂ (λ ns blocks. take rec.size (flat_map blocks ns)) (numbers_same rec) homes)

  same_index : (rec : FileRecord) → HasIndex limits at rec → HasIndex limits there rec
  same_index rec indexed large j lt =
      subst (λ bytes. bytes ≡ index_bytes limits.version (numbers_in limits.version (index_count rec.size j) bytes)) (index_same rec j) (indexed large j lt)

  same_files : (properties : List PropSlot) → file_of_record limits properties at ≡ file_of_record limits properties there
  same_files properties = fun_ext (λ rec. ap (λ (bytes_of : FileRecord → List ℕ). record (file_of_record limits properties at rec) { bytes = bytes_of rec }) same_bytes)

  same_spelled : (contents : Contents) (s : State) → Spells limits contents at s → Spells limits contents there s
  same_spelled contents s spells =
      assumption (
        same_slots prop_bytes is_prop (property_slots limits) contents.properties (omega arith) spells.properties,
        same_slots axiom_bytes is_axiom (axiom_slots limits) contents.axioms (omega arith) spells.axioms,
        same_slots (file_bytes limits.version) (is_file limits) (file_slots limits) contents.files (omega arith) spells.files,
        spells.state ∙ ap (λ (f : FileRecord → File). record (spelled_state limits contents at) { files = fold (insert_key file_cmp) [] (map f recs) }) (same_files contents.properties),
        indexed,
        subst (λ ns. list_all (λ n. nat_lt n limits.blocks) ns ≡ true) all spells.blocks,
        subst (λ ns. are_distinct ns ≡ true) all spells.each_block_once,
        bitmap,
        rows,
        sets,
      )
    where
      recs : List FileRecord
      recs = all_records contents.files

      all : all_blocks limits at recs ≡ all_blocks limits there recs
      all = ap (λ blocks. flat_map blocks recs) same_blocks

      indexed : (rec : FileRecord) → Contains (all_records contents.files) rec → HasIndex limits there rec
      indexed rec m = same_index rec (spells.indexed rec m)

      bitmap : (n : ℕ) → n < bitmap_blocks limits → there (bitmap_start limits + n) ≡ bitmap_bytes n (marked (replicate limits.blocks false) (all_blocks limits there (all_records contents.files)))
      bitmap n lt = sym (same (bitmap_start limits + n) (omega arith)) ∙ (spells.bitmap n lt ∙ ap (λ ns. bitmap_bytes n (marked (replicate limits.blocks false) ns)) all)

      rows : (p : ℕ) → p < (row_slots limits).count → slot (row_slots limits) there p ≡ bits_bytes (limits.files / 8) (row_bit s limits contents there p)
      rows p lt =
          sym (ap (part (place (row_slots limits) p) (row_slots limits).width) (same (home (row_slots limits) p) (le_more (properties_start limits) (row_slots limits).first _ (omega arith))))
          ∙ (spells.rows p lt
          ∙ ap (λ f. bits_bytes (limits.files / 8) (λ i. is_had_by s f (word_at contents.properties p) (slice_index_or contents.files i FreeFile))) (same_files contents.properties))

      sets : (i : ℕ) → i < (set_slots limits).count → slot (set_slots limits) there i ≡ set_bytes (set_by s limits contents there i)
      sets i lt =
          sym (ap (part (place (set_slots limits) i) (set_slots limits).width) (same (home (set_slots limits) i) (le_more (properties_start limits) (set_slots limits).first _ (omega arith))))
          ∙ (spells.sets i lt
          ∙ ap (λ f. set_bytes (filter (λ p. is_had_by s f (word_at contents.properties p) (slice_index_or contents.files i FreeFile)) (range_with_len 0 limits.props))) (same_files contents.properties))

-- ---- images represent a state
pub kept_stands : (s : State) (contents : Contents) (at : ℕ → List ℕ) (image : List ℕ) → IsTrue (are_in_range s.limits) → SpellsSuper s.limits (at 0) → Spells s.limits contents at s
    → KeptBy (image_layout s.limits) at image → Stands image s
unfolding KeptBy Stands
kept_stands s contents at image range super spells keeps = by (replayed (image_layout s.limits) image) refl keeps.1
  where
    by : (o : Option (List ℕ)) → replayed (image_layout s.limits) image ≡ o → IsSomeAnd o (Keeps (image_layout s.limits) at) → Stands image s
    by None is none = absurd none
    by (Some r) is keep = record {
      range = range;
      super = subst (λ (bytes : List ℕ). SpellsSuper s.limits bytes) (sym (keep.same 0 (inl refl)) ∙ replayed-front (image_layout s.limits) image r (omega (arith, some_properties s.limits range)) keeps.0 is) super;
      long = keeps.0;
      replay = r;
      replays = is;
      contents = contents;
      spells = same_spelled s.limits at (λ n. block n r) (λ n le. sym (keep.same n (inr le))) contents s spells;
    }

-- ---- how opening an image ends: the super block, the journal, and the parts after it
-- what holds of an option's value, if there is one
pub some_replay : (o : Option (List ℕ)) (P : List ℕ → Type 0) → IsSomeAnd o P → (r : List ℕ) × (o ≡ Some r) × P r
some_replay None P is = absurd is
some_replay (Some r) P is = (r, refl, is)

-- with a malformed record nothing is to be done
recovered-none : (layout : Layout) (image : List ℕ) → replayed layout image ≡ None → recovered layout image ≡ image
unfolding recovered
recovered-none layout image none =
    ap (λ o. cond (has_open image) (recovered_as image o) image) none ∙ elim (has_open image) as (λ opened. cond opened image image ≡ image) [ true ↦ refl | false ↦ refl ]

-- ---- faults
pub one_fault : {T : Type 0} {a b : JournalFault} → ◌≡◌ {A = Result T JournalFault} (Err a) (Err b) → a ≡ b
one_fault is = cc

pub journal_cause : (T : Type 0) (before now : ℕ) (fault : JournalFault) → HasMountCause {T = Held} before now (Err fault) → HasOpenCause {T = T} before now (Err (journal_fault fault))
journal_cause T before now JournalDisk cause = cause
journal_cause T before now (JournalRecord b) cause = cause
journal_cause T before now JournalMemory cause = cause

never_short : (fault : JournalFault) (len need : ℕ) → journal_fault fault ≡ TooShort len need → ⊥
never_short JournalDisk len need is = cc
never_short (JournalRecord b) len need is = cc
never_short JournalMemory len need is = cc

pub journal_enough : (result : Result Stored OpenFault) (opened : OpenFault) (fault : JournalFault) → result ≡ Err opened → opened ≡ journal_fault fault → (len need : ℕ) → result ≡ Err (TooShort len need) → ⊥
journal_enough result opened fault was is len need short =
    let both : ◌≡◌ {A = Result Stored OpenFault} (Err opened) (Err (TooShort len need)) = sym was ∙ short in
    never_short fault len need (sym is ∙ cc)

same_spot : {T : Type 0} (a b : Spot) → ◌≡◌ {A = Result T OpenFault} (Err (Damaged a)) (Err (Damaged b)) → a ≡ b
same_spot a b is = cc

-- no part is damaged
unspotted : (old new : Meaning) (fault : OpenFault) → OpenEnded old new (Err fault) → OpenLeft old new (Err fault) → ((spot : Spot) → fault ≡ Damaged spot → ⊥) → Opened old new (Err fault)
unspotted old new fault ended left none = record { ended = ended; left = left; spot = λ spot is. absurd (none spot cc) }

spotted : (old new : Meaning) (spot : Spot) → OpenEnded old new (Err (Damaged spot)) → OpenLeft old new (Err (Damaged spot)) → FailsFirst old.bytes spot → Opened old new (Err (Damaged spot))
spotted old new spot ended left first = search (rules, same_spot)

pub short_opened : (old new : Meaning) (len need : ℕ) → len ≡ old.len → len < need → IsNeeded old.bytes need → IsUnchanged old new → Opened old new (Err (TooShort len need))
short_opened old new len need is short needed same = unspotted old new (TooShort len need) (is, short, needed) same (λ spot fault. cc)

pub failed_opened : (old new : Meaning) → Opened old new (Err DiskFault)
failed_opened old new = unspotted old new DiskFault tt tt (λ spot fault. cc)

-- ---- the super block, as it was read
pub super_read : (image read : List ℕ) (limits : Limits) → read ≡ part 0 4096 image → IsTrue (are_in_range limits) × SpellsSuper limits read → HasSuper limits image
super_read image read limits is told = record { range = told.0; spelled = subst (λ bytes. SpellsSuper limits bytes) is told.1 }

pub none_read : (image read : List ℕ) (found : Option Limits) → found ≡ None → read ≡ part 0 4096 image
    → ((told : Limits) → IsTrue (are_in_range told) → SpellsSuper told read → found ≡ Some told) → (limits : Limits) → HasSuper limits image → ⊥
none_read image read found none is same limits super =
    let some = same limits super.range (subst (λ bytes. SpellsSuper limits bytes) (sym is) super.spelled) in
    cc

-- ---- no super block
no_super_needs : (old : Meaning) → 4096 ≤ old.len → ((limits : Limits) → HasSuper limits old.bytes → ⊥) → IsLongEnough old
no_super_needs old long none need (inl one) = omega (arith, one, long)
no_super_needs old long none need (inr told) = absurd (none told.0 told.1)

pub no_super_opened : (old new : Meaning) → 4096 ≤ old.len → ((limits : Limits) → HasSuper limits old.bytes → ⊥) → IsUnchanged old new → Opened old new (Err (Damaged Super))
no_super_opened old new long none same =
    spotted old new Super (no_super_needs old long none, λ s stands. none s.limits (has_super old.bytes s stands)) (inl (none, same)) (record { fails = none; none_before = λ earlier before fails. omega (arith, before) })

-- ---- after calls that only read
module _ (old mid : Meaning) (same : IsUnchanged old mid) (len : mid.len ≡ old.len) where
  needs_before : IsLongEnough mid → IsLongEnough old
  needs_before long need needed = omega (arith, long need (subst (λ bytes. IsNeeded bytes need) (sym same.bytes) needed), len)

  pub stands_before : (s : State) → Stands old.bytes s → Stands mid.bytes s
  stands_before s stands = subst (λ bytes. Stands bytes s) (sym same.bytes) stands

  recovers_before : (new : Meaning) → Recovers mid new → Recovers old new
  recovers_before new recovers = search (rules)

  left_before : (new : Meaning) (result : Result Stored OpenFault) → IsDiskRun mid new → OpenLeft mid new result → OpenLeft old new result
  left_before new (Ok store) run left = recovers_before new left
  left_before new (Err (TooShort found need)) run left = unchanged_then run same left
  left_before new (Err (Damaged spot)) run (inl none) = inl (λ told super. none.0 told (subst (λ bytes. HasSuper told bytes) (sym same.bytes) super), unchanged_then run same none.1)
  left_before new (Err (Damaged spot)) run (inr recovers) = inr (recovers_before new recovers)
  left_before new (Err DiskFault) run left = tt
  left_before new (Err NoMemory) run left = unchanged_then run same left

  pub opening_before : (new : Meaning) → Leaves old mid old.images → Leaves mid new (InOpening mid) → Leaves old new (InOpening old)
  opening_before new first second =
      leaves_then (leaves_weaken (InOpening old) first (λ image is. inl is)) (leaves_weaken (InOpening old) second (λ image. ⊎_map (same.images.only image) (λ told.
      (told.0, subst (λ bytes. HasSuper told.0 bytes) same.bytes told.1, subst (λ bytes. InRecovery (image_layout told.0) bytes image) same.bytes told.2))))

  pub opened_before : (new : Meaning) (result : Result Stored OpenFault) → IsDiskRun mid new → Opened mid new result → Opened old new result
  opened_before new result run opened = record {
    ended = by result opened.ended;
    left = left_before new result run opened.left;
    spot = λ spot is. subst (λ bytes. FailsFirst bytes spot) same.bytes (opened.spot spot is);
  }
    where
      by : (o : Result Stored OpenFault) → OpenEnded mid new o → OpenEnded old new o
      by (Ok store) ended = (needs_before ended.0, (ended.1.0, subst (λ bytes. Stands bytes ended.1.0) same.bytes ended.1.1, ended.1.2))
      by (Err (TooShort found need)) ended = (ended.0 ∙ len, ended.1, subst (λ bytes. IsNeeded bytes need) same.bytes ended.2)
      by (Err (Damaged spot)) ended = (needs_before ended.0, λ s stands. ended.1 s (stands_before s stands))
      by (Err DiskFault) ended = tt
      by (Err NoMemory) ended =
          (needs_before ended.0, (ended.1.0, subst (λ bytes. HasSuper ended.1.0 bytes) same.bytes ended.1.1), λ s stands. ended.2 s (stands_before s stands))

  settled_before : (blocks : ℕ) → IsSettledPast blocks old → IsSettledPast blocks mid
  settled_before blocks settled image is n past = settled image (same.images.only image is) n past ∙ sym (ap (block n) same.bytes)

  -- what is past the image stays; the super block was read as `told`
  pub mount_past : {Fails : Type 0} (new : Meaning) (told other : Limits) → HasSuper told old.bytes → HasSuper other old.bytes → (Fails → IsSettledPast (image_blocks other) old)
      → ((Fails → IsSettledPast (image_blocks told) mid) → KeepsPast (image_blocks told) mid new) → KeepsPast (image_blocks other) old new
  mount_past {Fails} new told other super others settled keeps =
      let is : told ≡ other = one_limits old.bytes told other super others in
      let settles : Fails → IsSettledPast (image_blocks told) mid =
      λ failed. settled_before (image_blocks told) (subst (λ (l : Limits). IsSettledPast (image_blocks l) old) (sym is) (settled failed)) in
      subst (λ (l : Limits). KeepsPast (image_blocks l) old new) is (λ n past. keeps settles n past ∙ ap (block n) same.bytes)

-- ---- the super block gives the limits
-- what holds of a store that was opened over a journal
pub record IsOpened (journal : Held) (store : Stored) : Type 0 where
  pub sound : IsSound store
  pub over : store.journal ≡ journal
  pub unbroken : store.is_broken ≡ false
  pub settled : store.journal.staged ≡ []

module _ (old : Meaning) (limits : Limits) (super : HasSuper limits old.bytes) (long : 4096 * image_blocks limits ≤ old.len) where
  pub long_enough : IsLongEnough old
  long_enough need (inl one) = omega (arith, one, long)
  long_enough need (inr told) = omega (arith, ap image_blocks (one_limits old.bytes told.0 limits told.1 super), told.2, long)

  pub state_limits : (s : State) → Stands old.bytes s → limits ≡ s.limits
  state_limits s stands = one_limits old.bytes limits s.limits super (has_super old.bytes s stands)

  -- an image that represents the replayed image represents the state
  pub replayed_stands : (s : State) (image : List ℕ) → Stands old.bytes s → StandsForReplayed (image_layout limits) old.bytes image → Stands image s
  unfolding Stands
  replayed_stands s image stands told =
      let same = ap image_layout (state_limits s stands) in
      by (replayed (image_layout s.limits) old.bytes) stands.replays (subst (λ b. StandsForReplayed b old.bytes image) same told)
    where
      at_replay : (o : Option (List ℕ)) → o ≡ Some stands.replay → IsSomeAnd o (λ r. KeptBy (image_layout s.limits) (λ n. block n r) image) → KeptBy (image_layout s.limits) (λ n. block n stands.replay) image
      at_replay o is kept = subst (λ (p : Option (List ℕ)). IsSomeAnd p (λ r. KeptBy (image_layout s.limits) (λ n. block n r) image)) is kept

      by : (o : Option (List ℕ)) → o ≡ Some stands.replay → IsSomeAnd o (λ r. KeptBy (image_layout s.limits) (λ n. block n r) image) → Stands image s
      by o is kept =
          kept_stands s stands.contents (λ n. block n stands.replay) image stands.range
          (subst (λ bytes. SpellsSuper s.limits bytes) (sym (replayed-front (image_layout s.limits) old.bytes stands.replay (omega (arith, some_properties s.limits stands.range)) stands.long stands.replays)) stands.super)
          stands.spells (at_replay o is kept)

  -- ---- the journal
  record_fails : (b : ℕ) → replayed (image_layout limits) old.bytes ≡ None → bad_record (image_layout limits) old.bytes ≡ Some b → RecordFails old.bytes b
  record_fails b none is = record { limits = limits; super = super; replays = none; bad = is }

  one_bad : (a b : ℕ) → RecordFails old.bytes a → bad_record (image_layout limits) old.bytes ≡ Some b → a ≡ b
  one_bad a b fails is =
      let same = one_limits old.bytes fails.limits limits fails.super super in
      let both = sym fails.bad ∙ (ap (λ (l : Limits). bad_record (image_layout l) old.bytes) same ∙ is) in
      cc

  pub record_first : (b : ℕ) → replayed (image_layout limits) old.bytes ≡ None → bad_record (image_layout limits) old.bytes ≡ Some b → FailsFirst old.bytes (BadRecord b)
  record_first b none is = record {
    fails = record_fails b none is;
    none_before = behind old.bytes (λ earlier. IsBefore earlier (BadRecord b) → FailsIn old.bytes earlier → ⊥) (λ before fails. fails limits super)
        (λ a before fails. let same = one_bad a b fails is in omega (arith, before, same)) (λ earlier low to from before fails. omega (arith, before, low));
  }

  pub memory_opened : (new : Meaning) → IsUnchanged old new → Opened old new (Err NoMemory)
  memory_opened new same =
      unspotted old new NoMemory (long_enough, (limits, super), λ s stands. subst (λ bytes. Stands bytes s) (sym same.bytes) stands) same (λ spot none. cc)

  pub journal_opened : (new : Meaning) (outcome : Result Held JournalFault) (fault : JournalFault) → outcome ≡ Err fault → MountEnded (image_layout limits) old new outcome
      → (outcome ≡ Err JournalMemory → IsUnchanged old new) → Opened old new (Err (journal_fault fault))
  journal_opened new outcome fault is ended unread = by fault (subst (λ (o : Result Held JournalFault). MountEnded (image_layout limits) old new o) is ended) (λ memory. unread (is ∙ ap Err memory))
    where
      by : (f : JournalFault) → MountEnded (image_layout limits) old new (Err f) → (f ≡ JournalMemory → IsUnchanged old new) → Opened old new (Err (journal_fault f))
      by JournalDisk told same = failed_opened old new
      by (JournalRecord b) told same =
          spotted old new (BadRecord b) (long_enough, λ s stands. damaged old.bytes s (BadRecord b) stands (record_fails b told.0 told.1))
          (inr (limits, super, subst (λ bytes. IsSettled new bytes) (sym (recovered-none (image_layout limits) old.bytes told.0)) told.2)) (record_first b told.0 told.1)
      by JournalMemory told same =
          memory_opened new (same refl)

  in_opening : (image : List ℕ) → old.images image ⊎ InRecovery (image_layout limits) old.bytes image → InOpening old image
  in_opening image (inl is) = inl is
  in_opening image (inr told) = inr (limits, super, told)

  pub journal_moments : (new : Meaning) → Leaves old new (λ image. old.images image ⊎ InRecovery (image_layout limits) old.bytes image) → Leaves old new (InOpening old)
  journal_moments new moments = leaves_weaken (InOpening old) moments in_opening

  -- ---- the parts after the journal
  module _ (whole : length old.bytes ≡ old.len) (r : List ℕ) (replays : replayed (image_layout limits) old.bytes ≡ Some r) where
    abbrev kept : ℕ → List ℕ
    kept n = block n r

    super_kept : SpellsSuper limits (block 0 r)
    super_kept =
        subst (λ bytes. SpellsSuper limits bytes) (sym (replayed-front (image_layout limits) old.bytes r (omega (arith, some_properties limits super.range)) (omega (arith, whole, long)) replays)) super.spelled

    fails_in : (spot : Spot) → Fails limits kept spot → FailsIn old.bytes spot
    fails_in =
        behind old.bytes (λ spot. Fails limits kept spot → FailsIn old.bytes spot) (λ fails. absurd fails) (λ b fails. absurd fails) (λ spot low to from fails.
        to (record { limits = limits; super = super; replay = r; replays = replays; fails = fails }))

    replayed_fails : (spot : Spot) → FailsReplayed old.bytes spot → Fails limits kept spot
    replayed_fails spot told =
        let same = one_limits old.bytes told.limits limits told.super super in
        let replay = same_Some told.replay r (sym told.replays ∙ (ap (λ (l : Limits). replayed (image_layout l) old.bytes) same ∙ replays)) in
        subst (λ (l : Limits). Fails l kept spot) same (subst (λ (bytes : List ℕ). Fails told.limits (λ n. block n bytes) spot) replay told.fails)

    no_bad_record : (b : ℕ) → RecordFails old.bytes b → ⊥
    no_bad_record b told =
        let same = one_limits old.bytes told.limits limits told.super super in
        let none = sym told.replays ∙ (ap (λ (l : Limits). replayed (image_layout l) old.bytes) same ∙ replays) in
        cc

    parts_first : (spot : Spot) → IsFirstOfAll limits kept spot → FailsFirst old.bytes spot
    parts_first spot first = record {
      fails = fails_in spot first.fails;
      none_before = behind old.bytes (λ earlier. IsBefore earlier spot → FailsIn old.bytes earlier → ⊥) (λ before fails. fails limits super) (λ b before fails. no_bad_record b fails)
          (λ earlier low to from before fails. first.none_before earlier before (replayed_fails earlier (from fails)));
    }

    module _ (journal : Held) (new : Meaning) (fits : Fits journal new kept) (left : Recovers old new) where
      -- the state that a store represents
      told_stand : (store : Stored) (s : State) → IsSound store → Tells store.metadata kept s → IsWritten store.metadata kept → store.metadata.limits ≡ limits → Stands old.bytes s
      unfolding Stands
      told_stand store s sound tells written same =
          let limits_are : limits ≡ s.limits = sym same ∙ ap (λ (t : State). t.limits) tells.state in
          record {
            range = subst (λ (l : Limits). IsTrue (are_in_range l)) limits_are super.range;
            super = subst (λ (l : Limits). SpellsSuper l (part 0 4096 old.bytes)) limits_are super.spelled;
            long = omega (arith, whole, long, ap image_blocks limits_are);
            replay = r;
            replays = ap (λ (l : Limits). replayed (image_layout l) old.bytes) (sym limits_are) ∙ replays;
            contents = contents_of store.metadata;
            spells = tells_spells store.metadata kept s sound.metadata sound.free sound.pairs written tells;
          }

      -- its limits are those of the super block
      told_limits : (store : Stored) (s : State) → IsSound store → Tells store.metadata kept s → store.metadata.limits ≡ limits
      told_limits store s sound tells =
          let told : store.metadata.limits ≡ s.limits = ap (λ (t : State). t.limits) tells.state in
          told
          ∙ one_limits r s.limits limits (record { range = subst (λ (l : Limits). IsTrue (are_in_range l)) told sound.metadata.range; spelled = tells.super }) (record { range = super.range; spelled = super_kept })

      parts_opened : (result : Result Stored OpenFault) → ((store : Stored) → result ≡ Ok store → IsOpened journal store) → StoreEnded limits kept result → Opened old new result
      parts_opened (Ok store) opened ended =
          let is = opened store refl in
          record {
            ended = (
              long_enough,
              (
                ended.state,
                told_stand store ended.state is.sound ended.tells ended.written (told_limits store ended.state is.sound ended.tells),
                record {
                  kept = kept;
                  journal = subst (λ (j : Held). Fits j new kept) (sym is.over) fits;
                  unbroken = is.unbroken;
                  settled = is.settled;
                  tells = ended.tells;
                  written = ended.written;
                },
              ),
            );
            left = left;
            spot = λ spot is. absurd cc;
          }
      parts_opened (Err (TooShort len need)) opened fails = absurd fails
      parts_opened (Err (Damaged spot)) opened fails =
          spotted old new spot (long_enough, λ s stands. damaged old.bytes s spot stands (fails_in spot fails.fails)) (inr left) (parts_first spot fails)
      parts_opened (Err DiskFault) opened fails = failed_opened old new
      parts_opened (Err NoMemory) opened fails = absurd fails

  -- the image was mounted, and the store fits what was read
  pub store_opened : length old.bytes ≡ old.len → (journal : Held) (mid new : Meaning) (result : Result Stored OpenFault) → IsSomeAnd (replayed (image_layout limits) old.bytes) (λ r. Fits journal mid (λ n. block n r))
      → IsSettled mid (recovered (image_layout limits) old.bytes) → OnlyReads mid new → ((store : Stored) → result ≡ Ok store → IsOpened journal store)
      → ((kept : ℕ → List ℕ) → Fits journal mid kept → SpellsSuper limits (kept 0) → StoreEnded limits kept result) → Opened old new result
  store_opened whole journal mid new result mounted settled reads opened ended =
      let found = some_replay (replayed (image_layout limits) old.bytes) (λ r. Fits journal mid (λ n. block n r)) mounted in
      let kept : ℕ → List ℕ = λ n. block n found.0 in
      let left : Recovers old new = (limits, super, settled_after reads found.2.honest settled) in
      parts_opened whole found.0 found.1 journal new (fits_after journal kept reads found.2) left result opened (ended kept found.2 (super_kept whole found.0 found.1))

  pub store_moments : (mid new : Meaning) → ((image : List ℕ) → mid.images image → old.images image ⊎ InRecovery (image_layout limits) old.bytes image)
      → Leaves old mid (λ image. old.images image ⊎ InRecovery (image_layout limits) old.bytes image) → Leaves mid new mid.images → Leaves old new (InOpening old)
  store_moments mid new still moments reads =
      leaves_then (journal_moments mid moments) (leaves_weaken (InOpening old) reads (λ image is. in_opening image (still image is)))

-- ---- if the image represented a state
pub moments_stand : (old new : Meaning) (s : State) → length old.bytes ≡ old.len → Stands old.bytes s → Leaves old new (InOpening old) → Leaves old new (λ image. old.images image ⊎ Stands image s)
moments_stand old new s whole stands moments = leaves_weaken (λ image. old.images image ⊎ Stands image s) moments (λ image. ⊎_map (λ is. is) (λ told.
    let enough = needs_no_more old.bytes s (4096 * image_blocks told.0) stands (inr (told.0, told.1, refl)) in
    replayed_stands old told.0 told.1 (omega (arith, enough, whole)) s image stands told.2.stands))
