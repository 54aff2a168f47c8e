-- The contents of the slots that were read, and the state that they spell.
pub use Rattle.lis_open.specs.ReadAll.{HasRead}
use Rattle.std.proofs.Common.{◌≢◌, IfOk}
use Rattle.lis_open.proofs.Common.{rules, ◌≡◌, ◌∙◌, refl, sym, ap, ap₂, subst, inl, inr, ℕ, ◌*◌, Bool, true, List, [], map, Option, Some, None, slice_get, IsTrue, arith, ◌+◌, ◌/◌, ◌<◌, ◌≤◌, not, false, is_some, replicate, Result, Ok, Err, IfSome, OnOk, ⊎_elim, fold, eq-eqb, insert_key, Among, contains_from_among, among_map, map_among, among_flat_map, IsDict, word_of, number_from_word, Filed, rec_at, has, numbers_at, FileRecord, file_bytes, is_file, Pair, FileSlot, word_cmp, is_valued, same_word, head_bytes, same_word_decides, Limits, State, file_cmp, description, known, Metadata, record_at, axiom_slots, file_slots, bit_of, words_told, file_told, state_of, is_head_by, is_used, among_from_number, filed_rec, filed_at_slot, declared_there, there_declared, Contents, AreSlots, all_records, spelled_state, contents_of, cases_eq, cases_lt, length-replicate, bits_bytes, is_taken, FreeFile, among_from_has_word, Spot, Word, Row, are_in_range, data_start, row_slots, AreSound, word_at, is_had_by, row_bit, and_parts, and_from, both_ways, false_from_ne_true, flat_map_among, File, has_from_among, file_of_record, not_true, zeros, has_word, has_word_from_among, Bitmap, or_left, list_any, is_left_of, is_left_head_of, any_from_among, among_place, cases_Bool}
use Rattle.std.specs.List.{range_with_len}
use Rattle.std.proofs.lemmas.List.FromFn.{length-map-range_with_len, get_or-map-range_with_len}
use Rattle.lis_graph.proofs.Ranges.{range_among}
use Rattle.lis_graph.proofs.Sets.{sorted_from_rising}
use Rattle.lis_laws.proofs.Chains.{among_heads, heads_of_valued}
use Rattle.lis_laws.proofs.Forms.{file_order}
use Rattle.lis_laws.proofs.Sources.{Source, source_of, known_from}
use Rattle.lis_laws.proofs.Sources.Source.{Declared, Left, LeftHead, Described}
use Rattle.lis_model.specs.Image.{bitmap_blocks}
use Rattle.lis_model.specs.State.{heads}
use Rattle.lis_kept.specs.Metadata.{file_by}
use Rattle.lis_store.specs.Stands.{records_in, set_by}
use Rattle.lis_store.proofs.Points.{set_of_points}
use Rattle.lis_store.proofs.SlotOrder.{given_at}
use Rattle.lis_open.specs.declared.words.Words.{Words}
use Rattle.lis_open.specs.declared.axioms.Axioms.{Axioms}
use Rattle.lis_open.specs.declared.files.Files.{Files}
use Rattle.lis_open.specs.Checks.{AreContents, IsUsed, WordFails, BitFails, RowFault, RowFails, SetFails, Fails, has_bitmap_bit, rank}
use Rattle.lis_open.specs.ReadWords.{AreFirstWords, AreFirstAxioms, WordsAreSpelled, AxiomsAreSpelled}
use Rattle.lis_open.specs.ReadFiles.{in_catalog, AreFiles, FilesEnded}
use Rattle.lis_open.specs.ReadAll.{metadata_in, AreNoMarks, is_stray, IsFirstStray, IsRowSpelled, IsFirstRow, row_place, RowDiffers, IsSetSpelled, IsFirstSet, SetsChecked, AreSlotsRead, SlotsEnded, AreRead, HasStray, IsFirstBit, BitmapDiffers, PartsEnded}
use Rattle.lis_open.proofs.Once.{rising_map}
use Rattle.lis_slots.specs.Slots.{slot}
use Rattle.lis_ext.specs.Numbers.{has_number, numbers_where}
use Rattle.lis_ext.proofs.Numbers.{numbers_of, numbers_same}
use Rattle.lis_fields.specs.Layouts.{set_bytes}
use Rattle.lis_model.specs.declared.spot.Spot.TheVariants.{Set}
use Rattle.lis_kept.proofs.InArea.{third_sets, some_are_third}
use Rattle.lis_kept.specs.Areas.{AreBitmapBlocks, set_slots}
use Rattle.lis_open.proofs.Descriptions.{told_among, among_told, one_number, pair_among, among_pair, Sides, sides}
use Rattle.lis_open.proofs.FilesRead.{file_is, slot_read, used_is, rec_is}
use Rattle.lis_open.proofs.AxiomsRead.{are_axioms}
use Rattle.lis_open.proofs.Joined.{slots_without, slot_rises, named, none_past, metadata_sound}
use Rattle.lis_kept.proofs.Used.{WhyUsed, why_used, used_flagged, used_had, used_left, named_head}
use Rattle.lis_kept.proofs.Used.WhyUsed.{Flagged, Had, OnLeft, HeadOfLeft}
use Rattle.lis_open.proofs.WordsRead.{declared_told, axioms_told, file_is_told, are_told, word_at_told}
use Rattle.lis_bits.proofs.Numbers.{bytes_same}
use Rattle.lis_bits.proofs.Subset.{implied}
use Rattle.lis_kept.specs.Rows.{row_bytes}
use Rattle.lis_kept.proofs.Formed.{some_word}
use Rattle.lis_kept.proofs.Known.{number_told}
use Rattle.lis_open.specs.Checks.RowFault.{RowWrong, RestNotZero}
use Rattle.lis_ports.specs.Calls.{Rose, OnlyReads, DiskFaultEnds}
use Rattle.lis_ports.specs.Meaning.{Meaning}
use Rattle.lis_ports.proofs.Ending.{ends_then}
use Rattle.lis_ports.proofs.OnlyReading.{reads_then}
use Rattle.lis_open.specs.Reading.{IsFirst, IsFirstOfAll, Passes, HasPartCause, ReadsPart, Recalls, KindFails, PartsFail}
use Rattle.lis_open.proofs.Damage.{one_contents}
use Rattle.lis_open.proofs.SpotKinds.{none_before, none_fails}
use Rattle.lis_open.proofs.Lefts.{no_file_has, row_place_is}
use Rattle.lis_open.proofs.BitmapRead.{bit_spelled}
use Rattle.lis_open.specs.declared.mounting.OpenFault.{OpenFault}
use Rattle.lis_open.specs.declared.mounting.OpenFault.TheVariants.{TooShort, Damaged, DiskFault, NoMemory}
use Rattle.lis_open.specs.declared.blocks.LastBlock.{LastBlock}

-- if there is a reason, a number is in use
used_for : (k : Metadata) (n : ℕ) → WhyUsed k n → is_used k n ≡ true
used_for k n (Flagged bit) = used_flagged k n bit
used_for k n (Had slot h) = used_had k n slot h
used_for k n (OnLeft slot right is) =
    used_left k n
    (or_left (list_any (is_left_of n) k.axioms) (list_any (is_left_head_of k.dict n) k.axioms)
    (any_from_among (is_left_of n) k.axioms (Pair n right) (among_place k.axioms slot (Pair n right) is) (eq-eqb n n refl)))
used_for k n (HeadOfLeft slot left right is head) = used_left k n (named_head k n slot left right is head)

used_by : (o : Option FileRecord) (rec : FileRecord) → Among (records_in (file_by o)) rec → o ≡ Some rec
used_by None rec m = absurd m
used_by (Some r) rec (inl same) = ap Some same
used_by (Some r) rec (inr m) = absurd m

module _ (limits : Limits) (at : ℕ → List ℕ) (words : Words) (axioms : Axioms) (files : Files) (marks : List Bool) (read : HasRead limits at words axioms files) where
  abbrev k : Metadata
  k = metadata_in limits words axioms files marks

  abbrev contents : Contents
  contents = contents_of k

  abbrev dict : IsDict words.dict
  dict = read.words_are.are.dict

  abbrev slots : List ℕ
  slots = range_with_len 0 limits.files

  files_told : AreSlots (file_bytes limits.version) (is_file limits) (file_slots limits) at contents.files
  files_told = record {
    count = length-map-range_with_len (record_at files.catalog) 0 limits.files;
    each = λ n value is.
        let given = given_at (record_at files.catalog) limits.files n value is in
        let there = file_is limits words axioms (in_catalog files) limits.files read.words_are read.axioms_are read.files_are.taken at read.properties read.pairs read.records.spelled n given.0 given.0 in
        (there.bytes ∙ ap (file_bytes limits.version) given.1, subst (λ x. IsTrue (is_file limits x)) given.1 there.range);
  }

  pub contents_are : AreContents limits at (contents_of (metadata_in limits words axioms files marks))
  contents_are = search (rules, are_told, are_axioms, files_told)

  -- ---- the state
  abbrev records : List FileRecord
  records = all_records contents.files

  recorded : (rec : FileRecord) → Among records rec → (f : Filed) × Among files.catalog.entries f × (f.rec ≡ rec)
  recorded rec m =
      let s = among_flat_map records_in contents.files rec m in
      let n = among_map (record_at files.catalog) slots s.0 s.1 in
      let is = used_by (rec_at files.catalog n.0) rec (subst (λ (x : FileSlot). Among (records_in x) rec) (sym n.2) s.2) in
      (record { slot = n.0; rec = rec }, filed_at_slot files.catalog read.files_are.catalog n.0 rec is, refl)

  record_there : (f : Filed) → Among files.catalog.entries f → Among records f.rec
  record_there f m =
      let is = filed_rec files.catalog read.files_are.catalog f m in
      let lt = slot_read limits words axioms (in_catalog files) limits.files read.words_are read.axioms_are read.files_are.taken f.slot f.rec is in
      flat_map_among records_in contents.files (record_at files.catalog f.slot) f.rec (map_among (record_at files.catalog) slots f.slot (range_among 0 limits.files f.slot (omega arith) (omega arith)))
      (subst (λ o. Among (records_in (file_by o)) f.rec) (sym is) (inl refl))

  abbrev told : Filed → File
  told = file_told limits words.dict at

  abbrev of_record : FileRecord → File
  of_record = file_of_record limits contents.properties at

  same_file : (f : Filed) → of_record f.rec ≡ told f
  same_file f = file_is_told limits words read.words_are.are read.words_are.props at f

  files_same : map told files.catalog.entries ≡ fold (insert_key file_cmp) [] (map of_record records)
  files_same =
      set_of_points file_cmp file_order (map of_record records) (map told files.catalog.entries)
      (sorted_from_rising file_cmp file_order (map told files.catalog.entries)
      (sym (rising_map word_cmp file_cmp (λ (f : Filed). f.rec.name) told files.catalog.entries (λ a b. refl)) ∙ read.files_are.catalog.rising))
      (λ file m.
      let rec = among_map of_record records file m in
      let f = recorded rec.0 rec.1 in
      subst (λ x. Among (map told files.catalog.entries) x) (sym (same_file f.0) ∙ (ap of_record f.2 ∙ rec.2)) (map_among told files.catalog.entries f.0 f.1))
      (λ file m.
      let f = among_map told files.catalog.entries file m in
      subst (λ x. Among (map of_record records) x) (same_file f.0 ∙ f.2) (map_among of_record records (f.0).rec (record_there f.0 f.1)))

  pub state_read : spelled_state limits (contents_of (metadata_in limits words axioms files marks)) at ≡ state_of (metadata_in limits words axioms files marks) at
  state_read = search (rules, declared_told, axioms_told, files_same)

  -- ---- words in use
  abbrev s : State
  s = state_of k at

  abbrev all_sides : (slot left right : ℕ) → slice_get axioms.slots.items slot ≡ Some (Pair left right) → Sides words left right
  all_sides = sides limits words axioms dict (axiom_slots limits).count read.axioms_are

  described : (f : Filed) → Among files.catalog.entries f → words_told words.dict (numbers_at files.ext f.slot) ≡ description s (told f)
  described f m = read.records.described f (contains_from_among files.catalog.entries f m)

  module _ (n : ℕ) (w : List ℕ) (is : word_of words.dict n ≡ Some w) where
    had : (slot : ℕ) (o : Option FileRecord) → rec_at files.catalog slot ≡ o → has files.ext n slot ≡ true → Among (known s) w
    had slot None none h = absurd (both_ways (has files.ext n slot) (slots_without limits words axioms files read.files_are slot none n) h)
    had slot (Some rec) there h =
        let f : Filed = record { slot = slot; rec = rec } in
        let m = filed_at_slot files.catalog read.files_are.catalog slot rec there in
        known_from s w
        (Described (told f) (map_among told files.catalog.entries f m)
        (subst (λ ws. Among ws w) (described f m) (told_among words.dict (numbers_at files.ext slot) n w is (among_from_number (numbers_at files.ext slot) n h))))

    -- a word that is in use is known
    pub used_known : is_used (metadata_in limits words axioms files marks) n ≡ true → Among (known (state_of (metadata_in limits words axioms files marks) at)) w
    used_known used = by (why_used k n used)
      where
        by : WhyUsed k n → Among (known s) w
        by (Flagged bit) = known_from s w (Declared (declared_there k w (ap (bit_of words.declared) (number_from_word words.dict dict w n is) ∙ bit)))
        by (Had slot h) = had slot (rec_at files.catalog slot) refl h
        by (OnLeft slot right here) =
            let to = (all_sides slot n right here).to in
            known_from s w (Left (w, to.word) (pair_among limits words dict axioms.slots.items all_sides slot n right w to.word here is to.is) refl)
        by (HeadOfLeft slot left right here h) =
            let both = all_sides slot left right here in
            let test : is_head_by (Some both.from.word) (Some w) ≡ true = ap₂ is_head_by (sym both.from.is) (sym is) ∙ h in
            let parts = and_parts (is_valued both.from.word) (same_word (head_bytes both.from.word) w) test in
            known_from s w
            (LeftHead (both.from.word, both.to.word) (pair_among limits words dict axioms.slots.items all_sides slot left right both.from.word both.to.word here both.from.is both.to.is)
            (subst (λ v. Among (heads both.from.word) v) ((same_word_decides (head_bytes both.from.word) w).0 parts.1) (heads_of_valued both.from.word parts.0)))

    -- and no other word is
    pub known_used : Among (known (state_of (metadata_in limits words axioms files marks) at)) w → is_used (metadata_in limits words axioms files marks) n ≡ true
    known_used m = used_for k n (by (source_of s w m))
      where
        by : Source s w → WhyUsed k n
        by (Declared here) = Flagged (sym (ap (bit_of words.declared) (number_from_word words.dict dict w n is)) ∙ there_declared k w here)
        by (Left e here same) =
            let found = among_pair limits words dict axioms.slots.items all_sides e here in
            let one = one_number limits words dict axioms.slots.items all_sides found.1 n w (found.4 ∙ ap Some same) is in
            OnLeft found.0 found.2 (subst (λ j. slice_get axioms.slots.items found.0 ≡ Some (Pair j found.2)) one found.3)
        by (LeftHead e here head) =
            let found = among_pair limits words dict axioms.slots.items all_sides e here in
            let parts = among_heads e.0 w head in
            HeadOfLeft found.0 found.1 found.2 found.3
            (ap₂ is_head_by found.4 is ∙ and_from (is_valued e.0) (same_word (head_bytes e.0) w) parts.0 ((same_word_decides (head_bytes e.0) w).1 parts.1))
        by (Described file here has_it) =
            let f = among_map told files.catalog.entries file here in
            let numbers = numbers_at files.ext (f.0).slot in
            let number = among_told words.dict numbers w (subst (λ ws. Among ws w) (sym (described f.0 f.1 ∙ ap (description s) f.2)) has_it) in
            let one = one_number limits words dict axioms.slots.items all_sides number.0 n w number.2 is in
            Had (f.0).slot (has_from_among numbers n (subst (λ m. Among numbers m) one number.1))

-- ---- the parts that pass their checks, and the first one that fails
-- ---- kinds
-- no check of a lower kind fails
abbrev pub PassBelow : Limits → (ℕ → List ℕ) → ℕ → Type 0
PassBelow limits at kind = (spot : Spot) → rank spot < kind → Fails limits at spot → ⊥

module _ (limits : Limits) (at : ℕ → List ℕ) where
  pub pass_more : (kind : ℕ) → PassBelow limits at kind → ((spot : Spot) → rank spot ≡ kind → Fails limits at spot → ⊥) → PassBelow limits at (kind + 1)
  pass_more kind below here spot lt fails =
      ⊎_elim (λ same. here spot same fails) (λ (differ : rank spot ≡ kind → ⊥). below spot (omega (arith, lt, differ)) fails) (cases_eq (rank spot) kind)

  pub none_below : PassBelow limits at 2
  none_below = pass_more 1 (pass_more 0 (λ spot lt. absurd (omega arith)) (none_fails limits at 0 (λ n fails. fails))) (none_fails limits at 1 (λ n fails. fails))

  pub first_of_all : (kind : ℕ) (spot : Spot) → PassBelow limits at kind → IsFirst limits at kind spot → IsFirstOfAll limits at spot
  first_of_all kind spot below first = search (rules, none_before)

-- ---- after words, axioms and files
-- marks of which none is set
abbrev no_marks : Limits → List Bool
no_marks limits = replicate (data_start limits) false

no_marks_clean : (limits : Limits) → AreNoMarks limits (no_marks limits)
no_marks_clean limits = record {
  long = let is = length-replicate (data_start limits) false in omega (arith, is);
  none = ap (λ n. replicate n false) (sym (length-replicate (data_start limits) false));
}

module _ (limits : Limits) (at : ℕ → List ℕ) (words : Words) (axioms : Axioms) (files : Files) (read : HasRead limits at words axioms files) where
  abbrev held : Metadata
  held = metadata_in limits words axioms files (no_marks limits)

  abbrev held_contents : Contents
  held_contents = contents_of held

  -- ---- words in use
  word_is : (n : ℕ) → word_at held_contents.properties n ≡ word_of words.dict n
  word_is n = word_at_told limits words read.words_are.are read.words_are.props n

  word_passes : (n : ℕ) → is_stray held n ≡ false → WordFails limits at n → ⊥
  word_passes n no_stray fails =
      let same = one_contents limits at fails.contents held_contents fails.are (contents_are limits at words axioms files (no_marks limits) read) in
      let is = sym (word_is n) ∙ subst (λ (c : Contents). word_at c.properties n ≡ Some fails.word) same fails.has in
      let used = implied (is_some (word_of words.dict n)) (is_used held n) no_stray (ap is_some is) in
      let there = used_known limits at words axioms files (no_marks limits) read n fails.word is used in
      let unknown = subst (λ (c : Contents). has_word (known (spelled_state limits c at)) fails.word ≡ false) same fails.unknown in
      both_ways (has_word (known (state_of held at)) fails.word)
      (ap (λ (held_state : State). has_word (known held_state) fails.word) (sym (state_read limits at words axioms files (no_marks limits) read)) ∙ unknown)
      (has_word_from_among (known (state_of held at)) fails.word there)

  stray_fails : (n : ℕ) → is_stray held n ≡ true → WordFails limits at n
  stray_fails n stray =
      let parts = and_parts (is_some (word_of words.dict n)) (not (is_used held n)) stray in
      let w = some_word (word_of words.dict n) parts.0 in
      record {
        contents = held_contents;
        are = contents_are limits at words axioms files (no_marks limits) read;
        word = w.0;
        has = word_is n ∙ w.1;
        unknown = ap (λ (held_state : State). has_word (known held_state) w.0) (state_read limits at words axioms files (no_marks limits) read)
            ∙ false_from_ne_true (has_word (known (state_of held at)) w.0) (λ there.
            both_ways (is_used held n) (not_true (is_used held n) parts.1)
            (known_used limits at words axioms files (no_marks limits) read n w.0 w.1 (among_from_has_word (known (state_of held at)) w.0 there)));
      }

  pub first_stray : (n : ℕ) → IsFirstStray (metadata_in limits words axioms files (no_marks limits)) n → IsFirst limits at 5 (Word n)
  first_stray n first = search (rules, stray_fails, none_before, word_passes)

  pub words_pass : ((n : ℕ) → is_stray (metadata_in limits words axioms files (no_marks limits)) n ≡ false) → (spot : Spot) → rank spot ≡ 5 → Fails limits at spot → ⊥
  words_pass none = none_fails limits at 5 (λ n. word_passes n (none n))

  -- ---- the bitmap
  used_taken : (n : ℕ) → IsUsed limits at n → is_taken files.map n ≡ true
  used_taken n used =
      let rec = rec_is limits words axioms (in_catalog files) limits.files read.words_are read.axioms_are read.files_are.taken at read.properties read.pairs read.records.spelled used.slot used.rec used.is.below used.is in
      read.records.blocks.taken used.slot used.rec n rec used.has

  taken_used : (n : ℕ) → is_taken files.map n ≡ true → IsUsed limits at n
  taken_used n taken =
      let owner = read.records.blocks.in_use n taken in
      let lt = slot_read limits words axioms (in_catalog files) limits.files read.words_are read.axioms_are read.files_are.taken owner.0 owner.1 owner.2 in
      record {
        slot = owner.0;
        rec = owner.1;
        is = used_is limits words axioms (in_catalog files) limits.files read.words_are read.axioms_are read.files_are.taken at read.properties read.pairs read.records.spelled owner.0 owner.1 lt owner.2;
        has = owner.3;
      }

  bit_passes : (n : ℕ) → has_bitmap_bit limits at n ≡ is_taken files.map n → BitFails limits at n → ⊥
  bit_passes n same fails =
      ⊎_elim (λ more. more.1 (taken_used n (sym same ∙ more.0))) (λ less. both_ways (is_taken files.map n) (sym same ∙ less.0) (used_taken n less.1)) fails.fault

  bit_fails : (n : ℕ) → n < 32768 * bitmap_blocks limits → has_bitmap_bit limits at n ≢ is_taken files.map n → BitFails limits at n
  bit_fails n below differ = search (rules, used_taken, taken_used, cases_Bool)

  pub first_difference : (n : ℕ) → IsFirstBit limits at files.map n → IsFirst limits at 6 (Bitmap n)
  first_difference n first = search (rules, bit_fails, none_before, bit_passes)

  pub bits_pass : ((n : ℕ) → n < 32768 * bitmap_blocks limits → has_bitmap_bit limits at n ≡ is_taken files.map n) → (spot : Spot) → rank spot ≡ 6 → Fails limits at spot → ⊥
  bits_pass same = none_fails limits at 6 (λ n fails. bit_passes n (same n fails.below) fails)

  -- ---- rows
  module _ (range : IsTrue (are_in_range limits)) (used : (n : ℕ) → is_stray (metadata_in limits words axioms files (no_marks limits)) n ≡ false) where
    all_read : AreRead limits words axioms files (no_marks limits)
    all_read = record { words_are = read.words_are; axioms_are = read.axioms_are; files_are = read.files_are; used = used }

    sound : AreSound held
    sound = metadata_sound limits words axioms files (no_marks limits) all_read range (no_marks_clean limits)

    abbrev held_state : State
    held_state = state_of held at

    bit_is : (p i : ℕ) → i < limits.files → has files.ext p i ≡ row_bit held_state limits held_contents at p i
    bit_is p i lt =
        by (word_of words.dict p) (rec_at files.catalog i) refl refl
        ∙ sym (ap₂ (is_had_by held_state (file_of_record limits held_contents.properties at)) (word_is p) (get_or-map-range_with_len (record_at files.catalog) 0 limits.files i i FreeFile lt (omega arith)))
      where
        nothing : (w : Option (List ℕ)) → is_had_by held_state (file_of_record limits held_contents.properties at) w FreeFile ≡ false
        nothing None = refl
        nothing (Some w) = refl

        by : (o : Option (List ℕ)) (r : Option FileRecord) → word_of words.dict p ≡ o → rec_at files.catalog i ≡ r
            → has files.ext p i ≡ is_had_by held_state (file_of_record limits held_contents.properties at) (word_of words.dict p) (file_by (rec_at files.catalog i))
        by o None is none =
            slots_without limits words axioms files read.files_are i none p
            ∙ sym (ap (λ r. is_had_by held_state (file_of_record limits held_contents.properties at) (word_of words.dict p) (file_by r)) none ∙ nothing (word_of words.dict p))
        by None (Some rec) is there =
            false_from_ne_true (has files.ext p i) (λ h. both_ways (is_some (word_of words.dict p)) (ap is_some is) (named limits words axioms files (no_marks limits) all_read p i h))
            ∙ sym (ap (λ o. is_had_by held_state (file_of_record limits held_contents.properties at) o (file_by (rec_at files.catalog i))) is)
        by (Some w) (Some rec) is there =
            let f : Filed = record { slot = i; rec = rec } in
            let m = contains_from_among files.catalog.entries f (filed_at_slot files.catalog read.files_are.catalog i rec there) in
            number_told held sound (numbers_at files.ext i) p w is
            ∙ (ap (λ ws. has_word ws w) (read.records.described f m)
            ∙ (sym (ap (λ (file : File). has_word (description held_state file) w) (file_is_told limits words read.words_are.are read.words_are.props at f))
            ∙ sym (ap₂ (λ o r. is_had_by held_state (file_of_record limits held_contents.properties at) o (file_by r)) is there)))

    row_is : (p : ℕ) → row_bytes files.ext p ≡ bits_bytes (limits.files / 8) (row_bit (spelled_state limits held_contents at) limits held_contents at p)
    row_is p =
        ap (λ n. bits_bytes (n / 8) (has files.ext p)) read.files_are.taken.count
        ∙ (bytes_same (limits.files / 8) (has files.ext p) (row_bit held_state limits held_contents at p) (λ i small. bit_is p i (omega (arith, small)))
        ∙ ap (λ (t : State). bits_bytes (limits.files / 8) (row_bit t limits held_contents at p)) (sym (state_read limits at words axioms files (no_marks limits) read)))

    rest_is : (p : ℕ) → limits.props ≤ p → row_bytes files.ext p ≡ zeros (limits.files / 8)
    rest_is p past = no_file_has files.ext limits.files p read.files_are.taken.count (λ slot. none_past limits words axioms files (no_marks limits) all_read p slot past)

    row_passes : (m : ℕ) → m < limits.props → IsRowSpelled limits at files.ext m → RowFails limits at m → ⊥
    row_passes m below spelled fails =
        let same = one_contents limits at fails.contents held_contents fails.are (contents_are limits at words axioms files (no_marks limits) read) in
        elim (subst (λ (c : Contents). RowFault limits at c m) same fails.fault) [ RowWrong lt here wrong ↦ wrong (spelled ∙ row_is m) | RestNotZero last p from lt not_zero ↦ omega (arith, last, below) ]

    row_fails : (p : ℕ) → p < (row_slots limits).count → (IsRowSpelled limits at files.ext p → ⊥) → RowFails limits at (row_place limits p)
    row_fails p below differs = record {
      contents = held_contents;
      are = contents_are limits at words axioms files (no_marks limits) read;
      fault = elim (cases_lt p limits.props) [
        | inl lt ↦ subst (λ n. RowFault limits at held_contents n) (omega (arith, row_place_is limits p, lt)) (RowWrong lt below (λ same. differs (same ∙ sym (row_is p))))
        | inr past ↦ subst (λ n. RowFault limits at held_contents n) (omega (arith, row_place_is limits p, past)) (RestNotZero refl p past below (λ same. differs (same ∙ sym (rest_is p past))))
      ];
    }

    pub first_wrong_row : (p : ℕ) → IsFirstRow limits at files.ext p → IsFirst limits at 7 (Row (row_place limits p))
    first_wrong_row p first = record {
      fails = row_fails p first.below first.differs;
      is = refl;
      none_before = none_before limits at 7 (row_place limits p) (λ m lt.
          row_passes m (omega (arith, row_place_is limits p, lt)) (first.same_before m (omega (arith, row_place_is limits p, lt))));
    }

    pub rows_pass : ((p : ℕ) → p < (row_slots limits).count → IsRowSpelled limits at files.ext p) → (spot : Spot) → rank spot ≡ 7 → Fails limits at spot → ⊥
    rows_pass spelled = none_fails limits at 7 each
      where
        each : (n : ℕ) → RowFails limits at n → ⊥
        each n fails =
            let same = one_contents limits at fails.contents held_contents fails.are (contents_are limits at words axioms files (no_marks limits) read) in
            elim (subst (λ (c : Contents). RowFault limits at c n) same fails.fault) [
              | RowWrong below lt wrong ↦ wrong (spelled n lt ∙ row_is n)
              | RestNotZero last p past lt not_zero ↦ not_zero (spelled p lt ∙ rest_is p past)
            ]

    -- ---- sets
    -- the numbers of a slot, by the state
    set_is : (i : ℕ) → i < limits.files → numbers_at files.ext i ≡ set_by (spelled_state limits held_contents at) limits held_contents at i
    unfolding numbers_where
    set_is i lt =
        sym (numbers_of limits.props (numbers_at files.ext i) (slot_rises limits words axioms files read.files_are i) below)
        ∙ (numbers_same limits.props (has_number (numbers_at files.ext i)) (λ p. row_bit held_state limits held_contents at p i) (λ p small. bit_is p i lt)
        ∙ ap (λ (t : State). set_by t limits held_contents at i) (sym (state_read limits at words axioms files (no_marks limits) read)))
      where
        below : (p : ℕ) → Among (numbers_at files.ext i) p → p < limits.props
        below p m = elim (cases_lt p limits.props) [
          | inl lt ↦ lt
          | inr past ↦ absurd (both_ways (has files.ext p i) (none_past limits words axioms files (no_marks limits) all_read p i past) (has_from_among (numbers_at files.ext i) p m))
        ]

    -- there is a slot for each set
    set_slot : (i : ℕ) → i < (set_slots limits).count → i < limits.files
    set_slot i lt = omega (arith, lt, third_sets limits (some_are_third limits i lt))

    set_passes : (i : ℕ) → IsSetSpelled limits at files.ext i → SetFails limits at i → ⊥
    set_passes i spelled fails =
        let same = one_contents limits at fails.contents held_contents fails.are (contents_are limits at words axioms files (no_marks limits) read) in
        fails.wrong (subst (λ (c : Contents). slot (set_slots limits) at i ≡ set_bytes (set_by (spelled_state limits c at) limits c at i)) (sym same) (spelled ∙ ap set_bytes (set_is i (set_slot i fails.below))))

    set_fails : (i : ℕ) → i < (set_slots limits).count → (IsSetSpelled limits at files.ext i → ⊥) → SetFails limits at i
    set_fails i below differs = record {
      below = below;
      contents = held_contents;
      are = contents_are limits at words axioms files (no_marks limits) read;
      wrong = λ same. differs (same ∙ ap set_bytes (sym (set_is i (set_slot i below))));
    }

    pub first_wrong_set : (i : ℕ) → IsFirstSet limits at files.ext i → IsFirst limits at 8 (Set i)
    first_wrong_set i first = record {
      fails = set_fails i first.below first.differs;
      is = refl;
      none_before = none_before limits at 8 i (λ m lt. set_passes m (first.same_before m lt));
    }

-- ---- how reading the parts one after another ends
-- if a part of a kind fails
pub kind_failed : (limits : Limits) (at : ℕ → List ℕ) (kind : ℕ) (fault : OpenFault) → PassBelow limits at kind → KindFails limits at kind fault → PartsFail limits at fault
kind_failed limits at kind (TooShort len need) below fails = fails
kind_failed limits at kind (Damaged spot) below fails = first_of_all limits at kind spot below fails
kind_failed limits at kind DiskFault below fails = tt
kind_failed limits at kind NoMemory below fails = fails

-- the slots, after those of words and axioms
module _ (limits : Limits) (words : Words) (axioms : Axioms) (words_are : AreFirstWords limits words limits.props) (axioms_are : AreFirstAxioms limits words axioms (axiom_slots limits).count) where
  pub files_read : (result : Result Files OpenFault) → IfOk result (λ files. AreFiles limits words axioms files) → IfOk result (λ files. AreSlotsRead limits words axioms files)
  files_read (Ok files) read = record { words_are = words_are; axioms_are = axioms_are; files_are = read }
  files_read (Err fault) read = tt

  module _ (at : ℕ → List ℕ) (properties : Passes limits at 2 (WordsAreSpelled limits at words limits.props)) (pairs : Passes limits at 3 (AxiomsAreSpelled limits at axioms (axiom_slots limits).count)) where
    pass_pairs : PassBelow limits at 4
    pass_pairs = pass_more limits at 3 (pass_more limits at 2 (none_below limits at) properties.none) pairs.none

    pub files_ended : (result : Result Files OpenFault) → IfOk result (λ files. AreFiles limits words axioms files) → FilesEnded limits at words axioms result → SlotsEnded limits at words axioms result
    files_ended (Ok files) read ended = record {
      read = record { words_are = words_are; axioms_are = axioms_are; files_are = read; properties = properties.is; pairs = pairs.is; records = ended.is };
      none = pass_more limits at 4 pass_pairs ended.none;
    }
    files_ended (Err fault) read ended = kind_failed limits at 4 fault pass_pairs ended

module _ (limits : Limits) (at : ℕ → List ℕ) (words : Words) (axioms : Axioms) (files : Files) (read : HasRead limits at words axioms files) (below : PassBelow limits at 5) where
  abbrev unmarked : List Bool
  unmarked = replicate (data_start limits) false

  pub words_failed : (fault : OpenFault) → ((marks : List Bool) → HasStray (metadata_in limits words axioms files marks) fault) → PartsFail limits at fault
  words_failed (TooShort len need) stray = absurd (stray [])
  words_failed (Damaged spot) stray =
      let first = stray unmarked in
      first_of_all limits at 5 spot below (subst (λ (place : Spot). IsFirst limits at 5 place) (sym first.1) (first_stray limits at words axioms files read first.0 first.2))
  words_failed DiskFault stray = absurd (stray [])
  words_failed NoMemory stray = absurd (stray [])

  module _ (used : (marks : List Bool) (n : ℕ) → is_stray (metadata_in limits words axioms files marks) n ≡ false) where
    words_passed : PassBelow limits at 6
    words_passed = pass_more limits at 5 below (words_pass limits at words axioms files read (used unmarked))

    pub bitmap_failed : (fault : OpenFault) → BitmapDiffers limits at files.map fault → PartsFail limits at fault
    bitmap_failed fault differs = search (rules, first_of_all, words_passed, first_difference)

    module _ (range : IsTrue (are_in_range limits)) (bitmap : AreBitmapBlocks limits at files.map) where
      bitmap_passed : PassBelow limits at 7
      bitmap_passed =
          pass_more limits at 6 words_passed
          (bits_pass limits at words axioms files read (λ n lt. bit_spelled limits at files.map n (bitmap (n / 32768) (omega (arith, lt)))))

      pub rows_failed : (fault : OpenFault) → RowDiffers limits at files.ext fault → PartsFail limits at fault
      rows_failed (TooShort len need) differs = differs
      rows_failed (Damaged spot) differs =
          first_of_all limits at 7 spot bitmap_passed
          (subst (λ (place : Spot). IsFirst limits at 7 place) (sym differs.1) (first_wrong_row limits at words axioms files read range (used unmarked) differs.0 differs.2))
      rows_failed DiskFault differs = tt
      rows_failed NoMemory differs = absurd differs

      module _ (rows : (p : ℕ) → p < (row_slots limits).count → IsRowSpelled limits at files.ext p) where
        rows_passed : PassBelow limits at 8
        rows_passed = pass_more limits at 7 bitmap_passed (rows_pass limits at words axioms files read range (used unmarked) rows)

        pub sets_ended : {T : Type 0} (result : Result T OpenFault) → SetsChecked limits at files.ext result → PartsEnded limits at words axioms files result
        sets_ended (Ok done) same = record { properties = read.properties; pairs = read.pairs; records = read.records; bitmap = bitmap; rows = rows; sets = same }
        sets_ended (Err (TooShort len need)) differs = differs
        sets_ended (Err (Damaged spot)) differs =
            first_of_all limits at 8 spot rows_passed
            (subst (λ (place : Spot). IsFirst limits at 8 place) (sym differs.1) (first_wrong_set limits at words axioms files read range (used unmarked) differs.0 differs.2))
        sets_ended (Err DiskFault) differs = tt
        sets_ended (Err NoMemory) differs = absurd differs

-- ---- the block that was read last
pub none_recalled : (last : LastBlock) (kept : ℕ → List ℕ) → last.number ≡ None → Recalls last kept
none_recalled last kept none = subst (λ o. IfSome o (λ n. last.bytes ≡ kept n)) (sym none) tt

-- what holds in any case holds if there is no fault
pub on_ok : {T E P : Type 0} (r : Result T E) → P → OnOk r P
on_ok (Ok done) holds = holds
on_ok (Err fault) holds = tt

-- a reader, after one that ended well
pub reads_after : {T : Type 0} (old between new : Meaning) (result : Result T OpenFault) → OnlyReads old between → between.disk_faults ≡ old.disk_faults → DiskFaultEnds old between → ReadsPart between new result → ReadsPart old new result
reads_after old between new result reads same first_fault later = record {
  reads = reads_then reads later.reads;
  cause = subst (λ n. HasPartCause n new.disk_faults result) same later.cause;
  first_fault = ends_then first_fault same later.first_fault;
}

-- ---- causes
-- of a reader, after one that ended well
pub later_cause : (S T : Type 0) (before between now : ℕ) (fault : OpenFault) → between ≡ before → HasPartCause {T = S} between now (Err fault) → HasPartCause {T = T} before now (Err fault)
later_cause S T before between now (TooShort len need) same cause = cause
later_cause S T before between now (Damaged spot) same cause = cause ∙ same
later_cause S T before between now DiskFault same cause = subst (λ n. Rose n now) same cause
later_cause S T before between now NoMemory same cause = cause

pub stray_cause : (T : Type 0) (before now : ℕ) (k : Metadata) (fault : OpenFault) → now ≡ before → HasStray k fault → HasPartCause {T = T} before now (Err fault)
stray_cause T before now k (TooShort len need) same stray = stray
stray_cause T before now k (Damaged spot) same stray = same
stray_cause T before now k DiskFault same stray = absurd stray
stray_cause T before now k NoMemory same stray = stray
