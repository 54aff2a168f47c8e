-- If blocks spell a state, no part fails its check.
use Rattle.std.proofs.Common.{get_or-drop}
use Rattle.lis_open.proofs.Common.{rules, ◌≡◌, ◌∙◌, refl, sym, ap, subst, inl, inr, ℕ, ◌+◌, ◌-◌, ◌*◌, ◌/◌, ◌<◌, ◌≤◌, nat_lt, nat_le, Bool, true, false, is_some, List, [], ◌∷◌, length, map, take, drop, get_or, slice_get, Option, Some, None, arith, option_to_list, length-drop, flat_map, ltb-true, leb-true, length-take-le, ⊎_elim, list_all, or-false, cases_lt, length-replicate, slice_get_within, get_or_from_slice_get, same_Some, Among, among_from_contains, contains_from_among, among_left, map_among, among_flat_map, block, Slots, slot, row_bit, is_had_by, marked, replicate, are_distinct, FileRecord, prop_bytes, is_prop, axiom_bytes, is_axiom, file_bytes, is_file, PropSlot, FreeProp, AxiomSlot, FreeAxiom, Pair, FileSlot, FreeFile, Used, prop_once, axiom_once, word_cmp, is_plain_word, head_bytes, among_from_has_word, among_set_of, Limits, Spot, Super, BadRecord, Property, Axiom, Word, Row, State, description, known, is_nameable, is_assignable, property_slots, axiom_slots, file_slots, blocks_told, among_from_number, placed_at, among_place, Contents, AreSlots, word_in, words_in, word_at, all_records, spelled_state, one_array, AllApart, and_parts, both_ways, get_or_past, slice_get-get_or, flat_map_among, replayed, has_number, has_word, has_word_from_among, set_of_among, all_among, Bitmap, set_of, File, pair_cmp, has_from_among, file_of_record}
use Rattle.lis_open.proofs.AxiomsRead.{axiom_fault_by}
use Rattle.lis_open.proofs.SpotKinds.{behind}
use Rattle.std.proofs.lemmas.List.{length-map}
use Rattle.lis_graph.proofs.Members.{among_with_more, with_more_new}
use Rattle.lis_open.proofs.BitmapRead.{bit_spelled}
use Rattle.lis_fields.proofs.OneSpelling.{file_once}
use Rattle.lis_laws.proofs.Members.{word_order, word_exact, pair_order, pair_exact}
use Rattle.lis_laws.proofs.Chains.{heads_of_valued, entails_within}
use Rattle.lis_laws.proofs.Sources.{known_from, described_known, rights_are, assigned_are}
use Rattle.lis_laws.proofs.Sources.Source.{LeftHead}
use Rattle.lis_model.specs.declared.spot.Spot.TheVariants.{File as FileSpot, Set}
use Rattle.lis_model.specs.Image.{bitmap_blocks}
use Rattle.lis_kept.proofs.Formed.{some_word}
use Rattle.lis_fields.specs.Layouts.{set_bytes}
use Rattle.lis_kept.specs.Areas.{set_slots}
use Rattle.lis_store.specs.Stands.{set_by, pair_in, pairs_in, is_named_axiom, is_free_axiom, records_in, all_blocks, Spells, Stands}
use Rattle.lis_store.proofs.SlotOrder.{flat_map-flat_map}
use Rattle.lis_open.specs.Checks.{IsFile, AreContents, IsUsed, has_bitmap_bit, axioms_by, PropertyFails, AxiomFault, HasAxiomFault, AxiomFails, FileFault, HasFileFault, FileFails, WordFails, BitFails, RowFault, SetFails, Fails, FailsReplayed, RecordFails, FailsIn}
use Rattle.lis_open.specs.Checks.AxiomFault.{PastLast, LeftUnnumbered, RightUnnumbered, RightNotPlain, RightUndeclared, LeftUnnameable, HeadUnnumbered, PairThere, Circle}
use Rattle.lis_open.specs.Checks.RowFault.{RowWrong, RestNotZero}
use Rattle.lis_open.specs.Checks.FileFault.{NameTaken, TagUnnumbered, TagUnassignable, BlockMissing, IndexUnformed, BlockTwice, BlockTaken, WordUnnumbered, TooManyWords}
use Rattle.lis_open.proofs.FilesRead.{file_fault_by}
use Rattle.lis_open.proofs.WordsRead.{nothing_at}
use Rattle.lis_open.proofs.Needs.{one_limits, has_super}
use Rattle.lis_open.proofs.Once.{is_taken-marked, distinct_piece, taken_place, slot_at, value_at, part_once, apart_by_count, file_there, names-more}
use Rattle.lis_open.proofs.Lefts.{zero_row}
use Rattle.lis_open.proofs.Descriptions.{one_in}
use Rattle.lis_store.proofs.Declared.{apart_numbers}
use Rattle.lis_kept.specs.Image.{image_layout}

-- ---- one value in each slot
pub one_contents : (limits : Limits) (at : ℕ → List ℕ) (a b : Contents) → AreContents limits at a → AreContents limits at b → a ≡ b
one_contents limits at a b are_a are_b =
    let make : List PropSlot → List AxiomSlot → List FileSlot → Contents = λ ps xs fs. record { properties = ps; axioms = xs; files = fs } in
    ap (λ ps. make ps a.axioms a.files) (one_array prop_bytes is_prop (property_slots limits) at a.properties b.properties prop_once are_a.properties are_b.properties)
    ∙ (ap (λ xs. make b.properties xs a.files) (one_array axiom_bytes is_axiom (axiom_slots limits) at a.axioms b.axioms axiom_once are_a.axioms are_b.axioms)
    ∙ ap (λ fs. make b.properties b.axioms fs) (one_array (file_bytes limits.version) (is_file limits) (file_slots limits) at a.files b.files (file_once limits) are_a.files are_b.files))

-- the first slots are the first values
first_slots : {X : Type 0} (spelled : X → List ℕ) (is_in_range : X → Bool) (slots : Slots) (at : ℕ → List ℕ) (values : List X) (n : ℕ) → n ≤ slots.count
    → AreSlots spelled is_in_range slots at values → AreSlots spelled is_in_range (record slots { count = n }) at (take n values)
first_slots spelled is_in_range slots at values n le are = record {
  count = length-take-le n values (omega (arith, are.count));
  each = λ k value is. are.each k value (taken_place n values k value is).1;
}

-- the name of a file slot
abbrev name_parts : FileSlot → List (List ℕ)
name_parts FreeFile = []
name_parts (Used rec) = rec.name ∷ []

names_same : (limits : Limits) (properties : List PropSlot) (at : ℕ → List ℕ) (files : List FileSlot) → map (λ (f : File). f.name) (map (file_of_record limits properties at) (all_records files)) ≡ flat_map name_parts files
names_same limits properties at [] = refl
names_same limits properties at (FreeFile ∷ files) = names_same limits properties at files
names_same limits properties at (Used rec ∷ files) = ap (λ ns. rec.name ∷ ns) (names_same limits properties at files)

used_record : (f : FileSlot) (rec : FileRecord) → Among (records_in f) rec → f ≡ Used rec
used_record FreeFile rec m = absurd m
used_record (Used r) rec (inl same) = ap Used same
used_record (Used r) rec (inr m) = absurd m

module _ (limits : Limits) (contents : Contents) (at : ℕ → List ℕ) (spells : Spells limits contents at (spelled_state limits contents at)) where
  abbrev s : State
  s = spelled_state limits contents at

  abbrev properties : List PropSlot
  properties = contents.properties

  abbrev axioms : List AxiomSlot
  axioms = contents.axioms

  are_contents : AreContents limits at contents
  are_contents = record { properties = spells.properties; axioms = spells.axioms; files = spells.files }

  -- ---- words
  no_property : (n : ℕ) → PropertyFails limits at n → ⊥
  no_property n fails =
      let p = get_or properties n FreeProp in
      let there : slice_get properties n ≡ Some p = slice_get-get_or properties n FreeProp (omega (arith, fails.below, spells.properties.count)) in
      let found = fails.fault p (slot_at prop_bytes is_prop (property_slots limits) at properties spells.properties n p there) in
      part_once (λ q. option_to_list (word_in q)) properties
      (apart_by_count word_cmp word_order word_exact (words_in properties) (ap (λ ws. length ws) spells.words ∙ sym spells.each_word_once)) found.earlier n found.there.property p found.word found.before
      (value_at prop_bytes is_prop (property_slots limits) at properties spells.properties prop_once found.earlier found.there.property found.there.is) there
      (one_in (word_in found.there.property) found.word found.there.has) (one_in (word_in p) found.word found.has)

  -- a known word has a slot
  known_there : (w : List ℕ) → Among (known s) w → has_word (words_in properties) w ≡ true
  known_there w m = has_word_from_among (words_in properties) w (among_set_of (words_in properties) w (subst (λ ws. Among ws w) (sym spells.words) m))

  -- ---- axioms
  pair_of : (left right : ℕ) (p q : List ℕ) → word_at properties left ≡ Some p → word_at properties right ≡ Some q → Among (pair_in properties (Pair left right)) (p, q)
  pair_of left right p q is_p is_q = rw (is_p, is_q) (inl refl)

  module _ (n left right : ℕ) (is : slice_get axioms n ≡ Some (Pair left right)) where
    in_axioms : Among axioms (Pair left right)
    in_axioms = among_place axioms n (Pair left right) is

    both_named : (is_some (word_at properties left) ≡ true) × (is_some (word_at properties right) ≡ true)
    both_named =
        and_parts (is_some (word_at properties left)) (is_some (word_at properties right))
        (all_among (is_named_axiom properties) axioms (Pair left right) spells.named_axioms in_axioms)

    pair_there : (p q : List ℕ) → word_at properties left ≡ Some p → word_at properties right ≡ Some q → Among s.axioms (p, q)
    pair_there p q is_p is_q =
        with_more_new pair_cmp pair_exact [] (pairs_in properties axioms) (p, q)
        (flat_map_among (pair_in properties) axioms (Pair left right) (p, q) in_axioms (pair_of left right p q is_p is_q))

    right_is : (q : List ℕ) → word_at properties right ≡ Some q → (is_plain_word q ≡ true) × (has_word s.declared q ≡ true)
    right_is q is_q =
        let p = some_word (word_at properties left) both_named.0 in
        and_parts (is_plain_word q) (has_word s.declared q) (rights_are s spells.formed (p.0, q) (pair_there p.0 q p.1 is_q))

    some_right : (q : List ℕ) × (word_at properties right ≡ Some q)
    some_right = some_word (word_at properties right) both_named.1

    earlier_axioms : (e : List ℕ × List ℕ) → Among (axioms_by properties (take n axioms)) e → Among s.axioms e
    earlier_axioms e m = ⊎_elim (λ none. absurd none) (λ some.
        let found = among_flat_map (pair_in properties) (take n axioms) e some in
        let place = placed_at (take n axioms) found.0 found.1 in
        with_more_new pair_cmp pair_exact [] (pairs_in properties axioms) e
        (flat_map_among (pair_in properties) axioms found.0 e (among_place axioms place.0 found.0 (taken_place n axioms place.0 found.0 place.1).1) found.2))
        (among_with_more pair_cmp [] (pairs_in properties (take n axioms)) e m)

    not_past : limits.props ≤ n → ⊥
    not_past past =
        let j = n - limits.props in
        let within = slice_get_within axioms n (Pair left right) is in
        let here : get_or axioms (limits.props + j) FreeAxiom ≡ Pair left right =
        ap (λ m. get_or axioms m FreeAxiom) (let same : limits.props + j ≡ n = omega (arith, past) in same) ∙ get_or_from_slice_get axioms n (Pair left right) FreeAxiom is in
        let there : slice_get (drop limits.props axioms) j ≡ Some (Pair left right) =
        slice_get-get_or (drop limits.props axioms) j FreeAxiom (omega (arith, within, past, length-drop limits.props axioms)) ∙ ap Some (get_or-drop limits.props axioms j FreeAxiom ∙ here) in
        let free = all_among is_free_axiom (drop limits.props axioms) (Pair left right) spells.free_axioms (among_place (drop limits.props axioms) j (Pair left right) there) in
        both_ways false refl free

    no_axiom_fault : AxiomFault limits properties (take n axioms) n left right → ⊥
    no_axiom_fault (PastLast past) = not_past past
    no_axiom_fault (LeftUnnumbered none) = both_ways (is_some (word_at properties left)) (ap is_some none) both_named.0
    no_axiom_fault (RightUnnumbered none) = both_ways (is_some (word_at properties right)) (ap is_some none) both_named.1
    no_axiom_fault (RightNotPlain q is_q not) = both_ways (is_plain_word q) not (right_is q is_q).0
    no_axiom_fault (RightUndeclared q is_q not) = both_ways (has_word s.declared q) not (right_is q is_q).1
    no_axiom_fault (LeftUnnameable p is_p not) =
        let q = some_right in
        both_ways (is_nameable s.declared p) not
        (all_among (λ (pair : List ℕ × List ℕ). is_nameable s.declared pair.0) s.axioms (p, q.0) spells.formed.axioms.lefts (pair_there p q.0 is_p q.1))
    no_axiom_fault (HeadUnnumbered p is_p valued none) =
        let q = some_right in
        both_ways (has_word (words_in properties) (head_bytes p)) none
        (known_there (head_bytes p) (known_from s (head_bytes p) (LeftHead (p, q.0) (pair_there p q.0 is_p q.1) (heads_of_valued p valued))))
    no_axiom_fault (PairThere contains) =
        let place = placed_at (take n axioms) (Pair left right) (among_from_contains (take n axioms) (Pair left right) contains) in
        let earlier = taken_place n axioms place.0 (Pair left right) place.1 in
        let p = some_word (word_at properties left) both_named.0 in
        let q = some_right in
        let has_it = pair_of left right p.0 q.0 p.1 q.1 in
        part_once (pair_in properties) axioms (apart_by_count pair_cmp pair_order pair_exact (pairs_in properties axioms) (sym spells.each_pair_once)) place.0 n (Pair left right) (Pair left right) (p.0, q.0) earlier.0 earlier.1 is has_it has_it
    no_axiom_fault (Circle p q is_p is_q back) =
        let more = entails_within s.declared (axioms_by properties (take n axioms)) s.axioms earlier_axioms q p back in
        spells.formed.axioms.acyclic more.0 p (q, inr (contains_from_among s.axioms (p, q) (pair_there p q is_p is_q)), more.1)

  no_axiom : (n : ℕ) → AxiomFails limits at n → ⊥
  no_axiom n fails =
      by (get_or axioms n FreeAxiom) there
      (axiom_fault_by limits at n properties (take n axioms) fails spells.properties (first_slots axiom_bytes is_axiom (axiom_slots limits) at axioms n (let lt = fails.below in omega (arith, lt)) spells.axioms)
      (get_or axioms n FreeAxiom) (slot_at axiom_bytes is_axiom (axiom_slots limits) at axioms spells.axioms n (get_or axioms n FreeAxiom) there))
    where
      there : slice_get axioms n ≡ Some (get_or axioms n FreeAxiom)
      there = slice_get-get_or axioms n FreeAxiom (omega (arith, fails.below, spells.axioms.count))

      by : (a : AxiomSlot) → slice_get axioms n ≡ Some a → HasAxiomFault limits properties (take n axioms) n a → ⊥
      by FreeAxiom is fault = fault
      by (Pair left right) is fault = no_axiom_fault n left right is fault

  -- ---- files
  abbrev records : List FileRecord
  records = all_records contents.files

  abbrev files : List File
  files = map (file_of_record limits properties at) records

  full : length s.files ≡ length files
  full = sym spells.each_name_once ∙ sym (length-map records (file_of_record limits properties at))

  file_in_state : (rec : FileRecord) → Among records rec → Among s.files (file_of_record limits properties at rec)
  file_in_state rec m = file_there files (file_of_record limits properties at rec) full (map_among (file_of_record limits properties at) records rec m)

  file_value : (n : ℕ) (f : FileSlot) → IsFile limits at n f → slice_get contents.files n ≡ Some f
  file_value = value_at (file_bytes limits.version) (is_file limits) (file_slots limits) at contents.files spells.files (file_once limits)

  record_among : (n : ℕ) (rec : FileRecord) → IsFile limits at n (Used rec) → Among records rec
  record_among n rec is = flat_map_among records_in contents.files (Used rec) rec (among_place contents.files n (Used rec) (file_value n (Used rec) is)) (inl refl)

  record_place : (rec : FileRecord) → Among records rec → (n : ℕ) × IsFile limits at n (Used rec)
  record_place rec m =
      let f = among_flat_map records_in contents.files rec m in
      let place = placed_at contents.files f.0 f.1 in
      (place.0, subst (λ (g : FileSlot). IsFile limits at place.0 g) (used_record f.0 rec f.2) (slot_at (file_bytes limits.version) (is_file limits) (file_slots limits) at contents.files spells.files place.0 f.0 place.1))

  names_apart : AllApart (flat_map name_parts contents.files)
  names_apart =
      let same = names_same limits properties at contents.files in
      apart_by_count word_cmp word_order word_exact (flat_map name_parts contents.files)
      (ap (λ ns. length (set_of ns)) (sym same)
      ∙ (ap (λ ns. length ns) (sym (names-more [] files))
      ∙ (length-map s.files (λ (f : File). f.name) ∙ (full ∙ (sym (length-map files (λ (f : File). f.name)) ∙ ap (λ ns. length ns) same)))))

  -- the blocks of a file slot
  abbrev block_parts : FileSlot → List ℕ
  block_parts file = all_blocks limits at (records_in file)

  blocks_apart : AllApart (flat_map block_parts contents.files)
  blocks_apart = apart_numbers (flat_map block_parts contents.files) (ap are_distinct (sym (flat_map-flat_map (blocks_told limits at) records_in contents.files)) ∙ spells.each_block_once)

  module _ (n : ℕ) (rec : FileRecord) (is : IsFile limits at n (Used rec)) where
    in_records : Among records rec
    in_records = record_among n rec is

    tag_named : (tag : ℕ) → Among rec.tags tag → is_some (word_at properties tag) ≡ true
    tag_named tag m =
        all_among (λ j. is_some (word_at properties j)) rec.tags tag
        (all_among (λ (r : FileRecord). list_all (λ j. is_some (word_at properties j)) r.tags) records rec spells.named in_records) m

    tag_assignable : (tag : ℕ) (w : List ℕ) → Among rec.tags tag → word_at properties tag ≡ Some w → is_assignable s.declared w ≡ true
    tag_assignable tag w m is_w =
        assigned_are s spells.formed (file_of_record limits properties at rec) (file_in_state rec in_records) w
        (set_of_among (flat_map (λ j. option_to_list (word_at properties j)) rec.tags) w
        (flat_map_among (λ j. option_to_list (word_at properties j)) rec.tags tag w m (one_in (word_at properties tag) w is_w)))

    no_file_fault : FileFault limits at properties axioms n rec → ⊥
    no_file_fault (NameTaken earlier other before is_other same) =
        part_once name_parts contents.files names_apart earlier n (Used other) (Used rec) rec.name before (file_value earlier (Used other) is_other) (file_value n (Used rec) is) (inl same) (inl refl)
    no_file_fault (TagUnnumbered tag has_it none) = both_ways (is_some (word_at properties tag)) (ap is_some none) (tag_named tag (among_from_number rec.tags tag has_it))
    no_file_fault (TagUnassignable tag w has_it is_w not) = both_ways (is_assignable s.declared w) not (tag_assignable tag w (among_from_number rec.tags tag has_it) is_w)
    no_file_fault (BlockMissing data_block has_it past) =
        let there = flat_map_among (blocks_told limits at) records rec data_block in_records (among_from_number (blocks_told limits at rec) data_block has_it) in
        let below = ltb-true data_block limits.blocks (all_among (λ j. nat_lt j limits.blocks) (all_blocks limits at records) data_block spells.blocks there) in
        omega (arith, below, past)
    no_file_fault (IndexUnformed unformed) = unformed (spells.indexed rec (contains_from_among records rec in_records))
    no_file_fault (BlockTwice twice) =
        both_ways (are_distinct (blocks_told limits at rec)) twice (distinct_piece (blocks_told limits at) records rec in_records spells.each_block_once)
    no_file_fault (BlockTaken earlier other data_block before is_other has_other has_it) =
        part_once block_parts contents.files blocks_apart earlier n (Used other) (Used rec) data_block before (file_value earlier (Used other) is_other) (file_value n (Used rec) is)
        (among_left (blocks_told limits at other) [] data_block (among_from_number (blocks_told limits at other) data_block has_other))
        (among_left (blocks_told limits at rec) [] data_block (among_from_number (blocks_told limits at rec) data_block has_it))
    no_file_fault (WordUnnumbered w has_it none) =
        let file = file_of_record limits properties at rec in
        both_ways (has_word (words_in properties) w) none
        (known_there w (described_known s file w (file_in_state rec in_records) (among_from_has_word (description s file) w has_it)))
    no_file_fault (TooManyWords more) =
        let file = file_of_record limits properties at rec in
        let few = leb-true (length (description s file)) 128 (all_among (λ (f : File). nat_le (length (description s f)) 128) s.files file spells.formed.files.few_words (file_in_state rec in_records)) in
        omega (arith, few, more)

  no_file : (n : ℕ) → FileFails limits at n → ⊥
  no_file n fails = by (get_or contents.files n FreeFile) here (file_fault_by limits at n properties axioms fails spells.properties spells.axioms (get_or contents.files n FreeFile) here)
    where
      here : IsFile limits at n (get_or contents.files n FreeFile)
      here =
          slot_at (file_bytes limits.version) (is_file limits) (file_slots limits) at contents.files spells.files n (get_or contents.files n FreeFile)
          (slice_get-get_or contents.files n FreeFile (omega (arith, fails.below, spells.files.count)))

      by : (f : FileSlot) → IsFile limits at n f → HasFileFault limits at properties axioms n f → ⊥
      by FreeFile is fault = fault
      by (Used rec) is fault = no_file_fault n rec is fault

  -- ---- words in use
  word_in_use : (n : ℕ) (w : List ℕ) → word_at properties n ≡ Some w → Among (known s) w
  word_in_use n w is = elim (cases_lt n (length properties)) [
    | inl lt ↦
        let p = get_or properties n FreeProp in
        let here = among_place properties n p (slice_get-get_or properties n FreeProp lt) in
        subst (λ ws. Among ws w) spells.words (set_of_among (words_in properties) w (flat_map_among (λ q. option_to_list (word_in q)) properties p w here (one_in (word_in p) w is)))
    | inr past ↦ absurd (let none : ◌≡◌ {A = Option (List ℕ)} None (Some w) = ap word_in (sym (get_or_past properties n FreeProp past)) ∙ is in cc)
  ]

  no_word : (n : ℕ) → WordFails limits at n → ⊥
  no_word n fails =
      let same = one_contents limits at fails.contents contents fails.are are_contents in
      let has_it = subst (λ (c : Contents). word_at c.properties n ≡ Some fails.word) same fails.has in
      let unknown = subst (λ (c : Contents). has_word (known (spelled_state limits c at)) fails.word ≡ false) same fails.unknown in
      both_ways (has_word (known s) fails.word) unknown (has_word_from_among (known s) fails.word (word_in_use n fails.word has_it))

  -- ---- the bitmap
  used_number : (n : ℕ) → IsUsed limits at n → has_number (all_blocks limits at records) n ≡ true
  used_number n used =
      has_from_among (all_blocks limits at records) n
      (flat_map_among (blocks_told limits at) records used.rec n (record_among used.slot used.rec used.is) (among_from_number (blocks_told limits at used.rec) n used.has))

  number_used : (n : ℕ) → has_number (all_blocks limits at records) n ≡ true → IsUsed limits at n
  number_used n has_it =
      let found = among_flat_map (blocks_told limits at) records n (among_from_number (all_blocks limits at records) n has_it) in
      let place = record_place found.0 found.1 in
      record { slot = place.0; rec = found.0; is = place.1; has = has_from_among (blocks_told limits at found.0) n found.2 }

  bit_is : (n : ℕ) → n < 32768 * bitmap_blocks limits → has_bitmap_bit limits at n ≡ has_number (all_blocks limits at records) n
  bit_is n lt =
      bit_spelled limits at (marked (replicate limits.blocks false) (all_blocks limits at records)) n (spells.bitmap (n / 32768) (omega (arith, lt)))
      ∙ search (rules, is_taken-marked, length-replicate, nothing_at, or-false)

  no_bit : (n : ℕ) → BitFails limits at n → ⊥
  no_bit n fails =
      ⊎_elim (λ more. more.1 (number_used n (sym (bit_is n fails.below) ∙ more.0)))
      (λ less. both_ways (has_number (all_blocks limits at records) n) (sym (bit_is n fails.below) ∙ less.0) (used_number n less.1)) fails.fault

  -- ---- rows
  no_row_fault : (n : ℕ) → RowFault limits at contents n → ⊥
  no_row_fault n (RowWrong below lt wrong) = wrong (spells.rows n lt)
  no_row_fault n (RestNotZero last p past lt not_zero) =
      not_zero (spells.rows p lt
      ∙ zero_row (limits.files / 8) (row_bit s limits contents at p) (λ i.
      ap (λ q. is_had_by s (file_of_record limits properties at) (word_in q) (get_or contents.files i FreeFile)) (get_or_past properties p FreeProp (omega (arith, past, spells.properties.count)))))

  -- ---- sets
  no_set : (n : ℕ) → SetFails limits at n → ⊥
  no_set n fails =
      fails.wrong (subst (λ (c : Contents). slot (set_slots limits) at n ≡ set_bytes (set_by (spelled_state limits c at) limits c at n)) (sym (one_contents limits at fails.contents contents fails.are are_contents))
      (spells.sets n fails.below))

  none_fails : (spot : Spot) → Fails limits at spot → ⊥
  none_fails Super fails = fails
  none_fails (BadRecord b) fails = fails
  none_fails (Property n) fails = no_property n fails
  none_fails (Axiom n) fails = no_axiom n fails
  none_fails (FileSpot n) fails = no_file n fails
  none_fails (Word n) fails = no_word n fails
  none_fails (Bitmap n) fails = no_bit n fails
  none_fails (Row n) fails = no_row_fault n (subst (λ (c : Contents). RowFault limits at c n) (one_contents limits at fails.contents contents fails.are are_contents) fails.fault)
  none_fails (Set n) fails = no_set n fails

-- if blocks spell a state, no part after the journal fails its check
pub spelled_passes : (limits : Limits) (contents : Contents) (at : ℕ → List ℕ) (s : State) (spot : Spot) → Spells limits contents at s → Fails limits at spot → ⊥
spelled_passes limits contents at s spot spells = none_fails limits contents at (subst (λ (t : State). Spells limits contents at t) spells.state spells) spot

-- ---- images
replayed_passes : (image : List ℕ) (s : State) (spot : Spot) → Stands image s → FailsReplayed image spot → ⊥
unfolding Stands
replayed_passes image s spot stands fails =
    let limits = one_limits image fails.limits s.limits fails.super (record { range = stands.range; spelled = stands.super }) in
    let replay = same_Some fails.replay stands.replay (sym fails.replays ∙ (ap (λ (l : Limits). replayed (image_layout l) image) limits ∙ stands.replays)) in
    let there = subst (λ (l : Limits). Fails l (λ n. block n fails.replay) spot) limits fails.fails in
    spelled_passes s.limits stands.contents (λ n. block n stands.replay) s spot stands.spells (subst (λ (r : List ℕ). Fails s.limits (λ n. block n r) spot) replay there)

record_passes : (image : List ℕ) (s : State) (b : ℕ) → Stands image s → RecordFails image b → ⊥
unfolding Stands
record_passes image s b stands fails =
    let limits = one_limits image fails.limits s.limits fails.super (record { range = stands.range; spelled = stands.super }) in
    let none = sym fails.replays ∙ (ap (λ (l : Limits). replayed (image_layout l) image) limits ∙ stands.replays) in
    cc

-- an image of which a part fails its check represents no state
pub damaged : (image : List ℕ) (s : State) (spot : Spot) → Stands image s → FailsIn image spot → ⊥
damaged image s =
    behind image (λ spot. Stands image s → FailsIn image spot → ⊥) (λ stands fails. fails s.limits (has_super image s stands)) (record_passes image s)
    (λ spot low to from stands fails. replayed_passes image s spot stands (from fails))
