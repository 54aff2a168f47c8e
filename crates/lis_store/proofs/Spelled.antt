-- What memory represents is what the slots and blocks that it spells represent.
use Rattle.std.proofs.Common.{rules}
use Rattle.std.proofs.Common.{option_map}
use Rattle.lis_store.proofs.Common.{◌≡◌, ◌⊎◌, refl, sym, ap, ap₂, ◌∙◌, subst, inl, inr, ℕ, suc, ◌+◌, ◌/◌, ◌<◌, ◌≤◌, ◌==◌, ◌&&◌, nat_lt, Bool, true, false, is_some, Option, Some, None, option_to_list, List, [], ◌∷◌, ◌++◌, length, get_or, map, drop, replicate, slice_get, IsTrue, arith, append-nil, insert_key, find, flat_map, list_all, range_with_len, and_parts, ltb-true, lt-ltb, cases_lt, get_or_past, length-map, slice_get_within, get_or_from_slice_get, Among, among_from_contains, contains_from_among, among_filter, among_flat_map, range_among, sorted_from_rising, is_taken, number_of, word_of, number_from_word, number_below, Filed, rec_at, has, numbers_at, FileRecord, is_prop, is_record, AxiomSlot, FreeAxiom, Pair, has_word, State, File, pair_cmp, file_cmp, description, file_limit, all_weaker, sorted_known, word_order, pair_exact, among_set_of, sorted_set_of, Metadata, property_by, IsWritten, axiom_slots, Properties, Axioms, Bitmap, AreSound, FreeSlotsAreEmpty, bit_of, is_declared, declared_of, bytes_told, blocks_told, HasIndex, state_of, Tells, some_word, filed_rec, filed_at_slot, number_told, declared_word, declared_has_number, words_known, flat_all, and_from, false_from_ne_true, among_map, map_among, flat_map_among, marked, has_number, are_distinct, words, prop_bytes, axiom_bytes, file_bytes, set_of, known, all_among, all_from, set_of_among, same_words, same_tests, Files, Rows, Sets, words_told, file_told, among_from_number, one_number, numbers_same}
use Rattle.std.specs.List.{fold}
use Rattle.std.specs.List.Sorted.{IsPermutation}
use Rattle.std.proofs.lemmas.List.{get_or-drop, length-drop}
use Rattle.std.proofs.lemmas.Option.{slice_get-get_or}
use Rattle.std.proofs.lemmas.List.Concat.{flat_map_single}
use Rattle.std.proofs.lemmas.List.Folds.{flat_map-map}
use Rattle.std.proofs.lemmas.List.FromFn.{length-map-range_with_len, get_or-map-range_with_len}
use Rattle.std.proofs.lemmas.List.Sorted.{IsPermutation-sym, length_permutation}
use Rattle.lis_blockmap.specs.Bitmap.{bitmap_bytes}
use Rattle.lis_slots.specs.Slots.{slot}
use Rattle.lis_bits.specs.Bytes.{bits_bytes}
use Rattle.lis_bits.proofs.Numbers.{bytes_same}
use Rattle.lis_dict.proofs.Laws.{number_from_among}
use Rattle.lis_ext.specs.Numbers.{numbers_where}
use Rattle.lis_fields.specs.Layouts.{number_width, is_axiom, is_file, slot_blocks, set_bytes}
use Rattle.lis_model.specs.Sets.{fit}
use Rattle.lis_fields.proofs.Parts.{record_tests, few_blocks}
use Rattle.lis_fields.specs.declared.slots.PropSlot.{PropSlot}
use Rattle.lis_fields.specs.declared.slots.PropSlot.TheVariants.{Free as FreeProp, Declared}
use Rattle.lis_fields.specs.declared.slots.FileSlot.{FileSlot}
use Rattle.lis_fields.specs.declared.slots.FileSlot.TheVariants.{Free as FreeFile}
use Rattle.lis_laws.proofs.Forms.{file_order}
use Rattle.lis_kept.specs.Metadata.{property_at, axiom_at, file_by, record_at}
use Rattle.lis_kept.specs.Areas.{property_slots, file_slots, row_slots, set_slots}
use Rattle.lis_kept.proofs.InArea.{third_sets, some_are_third}
use Rattle.lis_kept.specs.Telling.{pair_by, pair_told, pairs_told}
use Rattle.lis_kept.proofs.Formed.{axioms_formed, records_formed, named_all, named_below}
use Rattle.lis_ext.proofs.Numbers.{has_decides, numbers_of}
use Rattle.lis_kept.proofs.Filing.{number_from_among as has_from_among}
use Rattle.lis_kept.proofs.Known.{placed_at, only_pair, declared_set}
use Rattle.lis_store.specs.Stands.{Contents, AreSlots, word_in, declared_in, words_in, all_declared, word_at, pair_in, pairs_in, is_named_axiom, is_free_axiom, records_in, all_records, all_blocks, file_by as file_of_record, spelled_state, is_had_by, row_bit, set_by, Spells}
use Rattle.lis_store.specs.Stored.{PairsAreApart}
use Rattle.lis_store.proofs.SlotOrder.{given_at, flat_map-flat_map, permuted_among, distinct_permuted, held, held_at, slot_order}
use Rattle.lis_store.proofs.Points.{set_of_points, AllApart, length-with_more}
use Rattle.lis_store.proofs.Marks.{marks_are, distinct_pieces}

-- ---- slots by their numbers
pub word_by : (o : Option (List ℕ)) (b : Bool) → word_in (property_by o b) ≡ o
word_by o b = search (rules)

pub declared_by : (o : Option (List ℕ)) (b : Bool) (w : List ℕ) → Among (option_to_list (declared_in (property_by o b))) w → (o ≡ Some w) × (b ≡ true)
declared_by o b w m = search (rules)

abbrev properties_told : Metadata → List PropSlot
properties_told k = map (property_at k.dict k.declared) (range_with_len 0 k.limits.props)

abbrev files_told : Metadata → List FileSlot
files_told k = map (record_at k.catalog) (range_with_len 0 k.limits.files)

-- the slots that memory spells
abbrev pub contents_of : Metadata → Contents
contents_of k = record { properties = properties_told k; axioms = k.axioms; files = files_told k }

-- what a sound record is
pub record SoundParts (k : Metadata) (rec : FileRecord) : Type 0 where
  pub short : rec.size ≤ file_limit k.limits
  pub count : length rec.blocks ≡ slot_blocks k.limits.version rec.size
  pub apart : are_distinct rec.blocks ≡ true
  pub named : list_all (λ n. is_some (word_of k.dict n)) rec.tags ≡ true
  pub below : list_all (λ n. nat_lt n k.limits.blocks) rec.blocks ≡ true

pub sound_parts : (k : Metadata) → AreSound k → (f : Filed) → Among k.catalog.entries f → SoundParts k f.rec
sound_parts k sound f m =
    let rec = f.rec in
    let most = and_parts (is_record k.limits rec && list_all (λ n. is_some (word_of k.dict n)) rec.tags) (list_all (λ n. nat_lt n k.limits.blocks) rec.blocks) (sound.records f.slot rec (filed_rec k.catalog sound.catalog f m)) in
    let both = and_parts (is_record k.limits rec) (list_all (λ n. is_some (word_of k.dict n)) rec.tags) most.0 in
    let form = record_tests k.limits rec both.0 in
    let ns = and_parts ((length rec.blocks == slot_blocks k.limits.version rec.size) && fit (number_width k.limits.version) rec.blocks) (are_distinct rec.blocks) form.blocks in
    record {
      short = form.small;
      count = few_blocks k.limits.version rec.size rec.blocks form.blocks;
      apart = ns.1;
      named = both.1;
      below = most.1;
    }

module _ (k : Metadata) (sound : AreSound k) where
  abbrev property : ℕ → PropSlot
  property n = property_at k.dict k.declared n

  abbrev numbers : List ℕ
  numbers = range_with_len 0 k.limits.props

  abbrev slots : List ℕ
  slots = range_with_len 0 k.limits.files

  -- ---- words
  abbrev entry_at : ℕ → Option (List ℕ × ℕ)
  entry_at n = find (λ (e : List ℕ × ℕ). e.1 == n) k.dict.entries

  word_once : (o : Option (List ℕ × ℕ)) (b : Bool) → option_to_list (word_in (property_by (option_map (λ e. e.0) o) b)) ≡ held (λ (e : List ℕ × ℕ). e.0 ∷ []) o
  word_once o b = search (rules)

  number_in : (w : List ℕ) (n : ℕ) → number_of k.dict w ≡ Some n → n < k.limits.props
  number_in w n is = omega (arith, number_below k.dict sound.dict w n is, sound.numbers)

  entry_in : (e : List ℕ × ℕ) → Among k.dict.entries e → e.1 < k.limits.props
  entry_in e m = number_in e.0 e.1 (number_from_among k.dict sound.dict e.0 e.1 m)

  words_permuted : IsPermutation (words k.dict) (words_in (properties_told k))
  words_permuted =
      let parts : List ℕ × ℕ → List (List ℕ) = λ (e : List ℕ × ℕ). e.0 ∷ [] in
      let here : words_in (map property numbers) ≡ flat_map (held_at (λ (e : List ℕ × ℕ). e.1) parts k.dict.entries) numbers =
      flat_map-map (λ p. option_to_list (word_in p)) property numbers
      ∙ flat_all (λ n. option_to_list (word_in (property n))) (held_at (λ (e : List ℕ × ℕ). e.1) parts k.dict.entries) numbers (λ n m. word_once (entry_at n) (is_taken k.declared n)) in
      subst (λ xs. IsPermutation xs (words_in (map property numbers))) (flat_map_single (λ (e : List ℕ × ℕ). e.0) k.dict.entries)
      (subst (λ xs. IsPermutation (flat_map parts k.dict.entries) xs) (sym here) (slot_order (λ (e : List ℕ × ℕ). e.1) parts k.limits.props k.dict.entries sound.dict.apart entry_in))

  unnamed : (n : ℕ) → k.limits.props ≤ n → word_of k.dict n ≡ None
  unnamed n past = by (word_of k.dict n) refl
    where
      by : (o : Option (List ℕ)) → word_of k.dict n ≡ o → o ≡ None
      by None is = refl
      by (Some w) is = absurd (let lt = number_in w n (number_from_word k.dict sound.dict w n is) in omega (arith, lt, past))

  word_at_told : (n : ℕ) → word_at (properties_told k) n ≡ word_of k.dict n
  word_at_told n = by (cases_lt n k.limits.props)
    where
      by : (n < k.limits.props) ⊎ (k.limits.props ≤ n) → word_at (properties_told k) n ≡ word_of k.dict n
      by (inl lt) = ap word_in (get_or-map-range_with_len property 0 k.limits.props n n FreeProp lt (omega arith)) ∙ word_by (word_of k.dict n) (is_taken k.declared n)
      by (inr past) =
          ap word_in (get_or_past (properties_told k) n FreeProp (omega (arith, past, length-map-range_with_len property 0 k.limits.props)))
          ∙ sym (unnamed n past)

  among_numbers : (w : List ℕ) (n : ℕ) → word_of k.dict n ≡ Some w → Among numbers n
  among_numbers w n is = let below = number_in w n (number_from_word k.dict sound.dict w n is) in range_among 0 k.limits.props n (omega arith) (omega arith)

  declared_slot : (w : List ℕ) → Among (all_declared (properties_told k)) w → Among (declared_of k) w
  declared_slot w m = search (rules, among_flat_map, among_map, declared_by, declared_word)

  declared_bit : (n : ℕ) (w : List ℕ) → word_of k.dict n ≡ Some w → Among (declared_of k) w → is_taken k.declared n ≡ true
  declared_bit n w is m = sym (ap (bit_of k.declared) (number_from_word k.dict sound.dict w n is)) ∙ (among_filter (is_declared k) (words k.dict) w m).1

  slot_declared : (w : List ℕ) → Among (declared_of k) w → Among (all_declared (properties_told k)) w
  slot_declared w m =
      let number = declared_has_number k sound w m in
      let bit : is_taken k.declared number.0 ≡ true = declared_bit number.0 w number.1 m in
      let is_it : property number.0 ≡ Declared w = ap₂ property_by number.1 bit in
      flat_map_among (λ x. option_to_list (declared_in x)) (properties_told k) (property number.0) w
      (map_among property numbers number.0 (among_numbers w number.0 number.1))
      (subst (λ x. Among (option_to_list (declared_in x)) w) (sym is_it) (inl refl))

  declared_are : declared_of k ≡ set_of (all_declared (properties_told k))
  declared_are = search (rules, same_words, sorted_from_rising, word_order, declared_set, sorted_set_of, set_of_among, slot_declared, declared_slot, among_set_of)

  -- ---- axioms
  pair_is : (a : AxiomSlot) → pair_in (properties_told k) a ≡ pair_told k.dict a
  pair_is a = search (rules, word_at_told)

  pairs_are : pairs_in (properties_told k) k.axioms ≡ pairs_told k.dict k.axioms
  pairs_are = flat_all (pair_in (properties_told k)) (pair_told k.dict) k.axioms (λ a m. pair_is a)

  all_axioms_named : IsTrue (list_all (is_named_axiom (properties_told k)) k.axioms)
  all_axioms_named = search (rules, all_from, placed_at, and_from, word_at_told, some_word)

  axioms_past_free : IsTrue (list_all is_free_axiom (drop k.limits.props k.axioms))
  axioms_past_free = all_from is_free_axiom (drop k.limits.props k.axioms) free
    where
      free : (a : AxiomSlot) → Among (drop k.limits.props k.axioms) a → is_free_axiom a ≡ true
      free FreeAxiom m = refl
      free (Pair p q) m =
          let at = contains_from_among (drop k.limits.props k.axioms) (Pair p q) m in
          let within : k.limits.props + at.0 < length k.axioms = omega (arith, at.1, length-drop k.limits.props k.axioms) in
          let is : get_or k.axioms (k.limits.props + at.0) (Pair p q) ≡ Pair p q = sym (get_or-drop k.limits.props k.axioms at.0 (Pair p q)) ∙ at.2 in
          absurd (let below = (sound.axioms (k.limits.props + at.0) p q (slice_get-get_or k.axioms (k.limits.props + at.0) (Pair p q) within ∙ ap Some is)).below in omega (arith, below))

  -- ---- files
  abbrev filed_at : ℕ → Option Filed
  filed_at n = find (λ (f : Filed). f.slot == n) k.catalog.entries

  filed_in : (f : Filed) → Among k.catalog.entries f → f.slot < k.limits.files
  filed_in f m =
      let below = all_among (λ (slot : ℕ). nat_lt slot k.catalog.files) (map (λ (g : Filed). g.slot) k.catalog.entries) f.slot sound.catalog.below (map_among (λ (g : Filed). g.slot) k.catalog.entries f m) in
      omega (arith, ltb-true f.slot k.catalog.files below, sound.slots)

  record_once : (o : Option Filed) → records_in (file_by (option_map (λ (f : Filed). f.rec) o)) ≡ held (λ (f : Filed). f.rec ∷ []) o
  record_once o = search (rules)

  records_permuted : IsPermutation (map (λ (f : Filed). f.rec) k.catalog.entries) (all_records (files_told k))
  records_permuted =
      let parts : Filed → List FileRecord = λ (f : Filed). f.rec ∷ [] in
      let here : all_records (files_told k) ≡ flat_map (held_at (λ (f : Filed). f.slot) parts k.catalog.entries) slots =
      flat_map-map records_in (record_at k.catalog) slots
      ∙ flat_all (λ n. records_in (record_at k.catalog n)) (held_at (λ (f : Filed). f.slot) parts k.catalog.entries) slots (λ n m. record_once (filed_at n)) in
      subst (λ xs. IsPermutation xs (all_records (files_told k))) (flat_map_single (λ (f : Filed). f.rec) k.catalog.entries)
      (subst (λ xs. IsPermutation (flat_map parts k.catalog.entries) xs) (sym here) (slot_order (λ (f : Filed). f.slot) parts k.limits.files k.catalog.entries sound.catalog.apart filed_in))

  -- a record in a slot is that of an entry, and vice versa
  recorded_entry : (rec : FileRecord) → Among (all_records (files_told k)) rec → (f : Filed) × Among k.catalog.entries f × (f.rec ≡ rec)
  recorded_entry rec m =
      among_map (λ (f : Filed). f.rec) k.catalog.entries rec
      (permuted_among (all_records (files_told k)) (map (λ (f : Filed). f.rec) k.catalog.entries) rec (IsPermutation-sym (map (λ (f : Filed). f.rec) k.catalog.entries) (all_records (files_told k)) records_permuted) m)

  entry_recorded : (f : Filed) → Among k.catalog.entries f → Among (all_records (files_told k)) f.rec
  entry_recorded f m = permuted_among (map (λ (f : Filed). f.rec) k.catalog.entries) (all_records (files_told k)) f.rec records_permuted (map_among (λ (f : Filed). f.rec) k.catalog.entries f m)

  all_named : IsTrue (list_all (λ (rec : FileRecord). list_all (λ n. is_some (word_at (properties_told k) n)) rec.tags) (all_records (files_told k)))
  all_named = all_from (λ (rec : FileRecord). list_all (λ n. is_some (word_at (properties_told k) n)) rec.tags) (all_records (files_told k)) (λ rec m.
      let f = recorded_entry rec m in
      subst (λ (r : FileRecord). list_all (λ n. is_some (word_at (properties_told k) n)) r.tags ≡ true) f.2
      (all_weaker (λ n. is_some (word_of k.dict n)) (λ n. is_some (word_at (properties_told k) n)) (f.0).rec.tags (λ n there h. ap is_some (word_at_told n) ∙ h) (sound_parts k sound f.0 f.1).named))

  -- a record's file
  abbrev file_by_record : (ℕ → List ℕ) → FileRecord → File
  file_by_record at rec = record {
    name = rec.name;
    bytes = bytes_told k.limits at rec;
    assigned = words_told k.dict rec.tags;
  }

  pub same_file : (at : ℕ → List ℕ) (rec : FileRecord) → file_of_record k.limits (properties_told k) at rec ≡ file_by_record at rec
  same_file at rec = search (rules, flat_all, word_at_told)

  file_from_slot : (at : ℕ → List ℕ) (file : File) → Among (map (file_of_record k.limits (properties_told k) at) (all_records (files_told k))) file → Among (map (file_told k.limits k.dict at) k.catalog.entries) file
  file_from_slot at file m =
      let rec = among_map (file_of_record k.limits (properties_told k) at) (all_records (files_told k)) file m in
      let f = recorded_entry rec.0 rec.1 in
      let same : file_told k.limits k.dict at f.0 ≡ file = ap (file_by_record at) f.2 ∙ (sym (same_file at rec.0) ∙ rec.2) in
      subst (λ x. Among (map (file_told k.limits k.dict at) k.catalog.entries) x) same (map_among (file_told k.limits k.dict at) k.catalog.entries f.0 f.1)

  file_in_slot : (at : ℕ → List ℕ) (file : File) → Among (map (file_told k.limits k.dict at) k.catalog.entries) file → Among (map (file_of_record k.limits (properties_told k) at) (all_records (files_told k))) file
  file_in_slot at file m =
      let f = among_map (file_told k.limits k.dict at) k.catalog.entries file m in
      subst (λ x. Among (map (file_of_record k.limits (properties_told k) at) (all_records (files_told k))) x) (same_file at (f.0).rec ∙ f.2)
      (map_among (file_of_record k.limits (properties_told k) at) (all_records (files_told k)) (f.0).rec (entry_recorded f.0 f.1))

  -- ---- data blocks
  abbrev pub used : (ℕ → List ℕ) → List ℕ
  used at = flat_map (λ (f : Filed). blocks_told k.limits at f.rec) k.catalog.entries

  blocks_once : (at : ℕ → List ℕ) (o : Option Filed) → all_blocks k.limits at (records_in (file_by (option_map (λ (f : Filed). f.rec) o))) ≡ held (λ (f : Filed). blocks_told k.limits at f.rec) o
  blocks_once at o = search (rules, append-nil)

  blocks_permuted : (at : ℕ → List ℕ) → IsPermutation (used at) (all_blocks k.limits at (all_records (files_told k)))
  blocks_permuted at =
      let parts : Filed → List ℕ = λ (f : Filed). blocks_told k.limits at f.rec in
      let here : all_blocks k.limits at (all_records (files_told k)) ≡ flat_map (held_at (λ (f : Filed). f.slot) parts k.catalog.entries) slots =
      flat_map-flat_map (blocks_told k.limits at) records_in (files_told k)
      ∙ (flat_map-map (λ s. all_blocks k.limits at (records_in s)) (record_at k.catalog) slots
      ∙ flat_all (λ n. all_blocks k.limits at (records_in (record_at k.catalog n))) (held_at (λ (f : Filed). f.slot) parts k.catalog.entries) slots (λ n m. blocks_once at (filed_at n))) in
      subst (λ xs. IsPermutation (used at) xs) (sym here) (slot_order (λ (f : Filed). f.slot) parts k.limits.files k.catalog.entries sound.catalog.apart filed_in)

-- ---- what memory represents is spelled
module _ (k : Metadata) (at : ℕ → List ℕ) (sound : AreSound k) (free : FreeSlotsAreEmpty k) (pairs : PairsAreApart k) (written : IsWritten k at) (tells : Tells k at (state_of k at)) where
  abbrev s : State
  s = state_of k at

  known_are : words k.dict ≡ known s
  known_are = words_known k sound free at tells.used tells.described

  words_are : set_of (words_in (properties_told k)) ≡ known s
  words_are =
      same_words (set_of (words_in (properties_told k))) (known s) (sorted_set_of (words_in (properties_told k))) (sorted_known s tells.formed.declared_set)
      (λ w m. subst (λ ws. Among ws w) known_are (permuted_among (words_in (properties_told k)) (words k.dict) w (IsPermutation-sym (words k.dict) (words_in (properties_told k)) (words_permuted k sound)) (among_set_of (words_in (properties_told k)) w m)))
      (λ w m. set_of_among (words_in (properties_told k)) w (permuted_among (words k.dict) (words_in (properties_told k)) w (words_permuted k sound) (subst (λ ws. Among ws w) (sym known_are) m)))

  files_are : s.files ≡ fold (insert_key file_cmp) [] (map (file_of_record k.limits (properties_told k) at) (all_records (files_told k)))
  files_are = search (rules, set_of_points, file_order, sorted_from_rising, file_from_slot, file_in_slot)

  state_is : s ≡ spelled_state k.limits (contents_of k) at
  state_is = search (rules, declared_are, pairs_are, files_are)

  -- ---- slots
  property_slots_are : AreSlots prop_bytes is_prop (property_slots k.limits) at (properties_told k)
  property_slots_are = record {
    count = length-map-range_with_len (property_at k.dict k.declared) 0 k.limits.props;
    each = λ n value is.
        let given = given_at (property_at k.dict k.declared) k.limits.props n value is in
        (written Properties n given.0 ∙ ap prop_bytes given.1, subst (λ x. IsTrue (is_prop x)) given.1 (sound.properties n));
  }

  axiom_slots_are : AreSlots axiom_bytes is_axiom (axiom_slots k.limits) at k.axioms
  axiom_slots_are = record {
    count = sound.axiom_count;
    each = λ n value is.
        let given : axiom_at k.axioms n ≡ value = get_or_from_slice_get k.axioms n value FreeAxiom is in
        (written Axioms n (omega (arith, slice_get_within k.axioms n value is, sound.axiom_count)) ∙ ap axiom_bytes given, subst (λ x. IsTrue (is_axiom x)) given (axioms_formed k sound n));
  }

  file_slots_are : AreSlots (file_bytes k.limits.version) (is_file k.limits) (file_slots k.limits) at (files_told k)
  file_slots_are = record {
    count = length-map-range_with_len (record_at k.catalog) 0 k.limits.files;
    each = λ n value is.
        let given = given_at (record_at k.catalog) k.limits.files n value is in
        (written Files n given.0 ∙ ap (file_bytes k.limits.version) given.1, subst (λ x. IsTrue (is_file k.limits x)) given.1 (records_formed k sound n));
  }

  -- ---- names and pairs once
  names_once : length (all_records (files_told k)) ≡ length s.files
  names_once =
      length_permutation (map (λ (f : Filed). f.rec) k.catalog.entries) (all_records (files_told k)) (records_permuted k sound)
      ∙ (length-map k.catalog.entries (λ (f : Filed). f.rec)
      ∙ sym (length-map k.catalog.entries (file_told k.limits k.dict at)))

  -- the pairs of some slots, each at its index among all of them
  pairs_apart : (xs : List AxiomSlot) (first : ℕ) → ((n : ℕ) (a : AxiomSlot) → slice_get xs n ≡ Some a → slice_get k.axioms (first + n) ≡ Some a) → AllApart (pairs_told k.dict xs)
  pairs_apart [] first there = tt
  pairs_apart (FreeAxiom ∷ xs) first there = pairs_apart xs (first + 1) (λ n a is. subst (λ m. slice_get k.axioms m ≡ Some a) (omega arith) (there (suc n) a is))
  pairs_apart (Pair p q ∷ xs) first there =
      by (word_of k.dict p) (word_of k.dict q) refl refl (pairs_apart xs (first + 1) (λ n a is. subst (λ m. slice_get k.axioms m ≡ Some a) (omega arith) (there (suc n) a is)))
    where
      here : slice_get k.axioms first ≡ Some (Pair p q)
      here = subst (λ m. slice_get k.axioms m ≡ Some (Pair p q)) (let same : first + 0 ≡ first = omega arith in same) (there 0 (Pair p q) refl)

      again : (l r : List ℕ) → word_of k.dict p ≡ Some l → word_of k.dict q ≡ Some r → (b : AxiomSlot) (n : ℕ) → slice_get xs n ≡ Some b → Among (pair_told k.dict b) (l, r) → ⊥
      again l r is_l is_r FreeAxiom n is m = m
      again l r is_l is_r (Pair p' q') n is m =
          let both = only_pair (word_of k.dict p') (word_of k.dict q') (l, r) m in
          let same : ◌≡◌ {A = AxiomSlot} (Pair p' q') (Pair p q) = ap₂ Pair (one_number k sound p' p l both.0 is_l) (one_number k sound q' q r both.1 is_r) in
          let later : slice_get k.axioms (first + suc n) ≡ Some (Pair p q) = there (suc n) (Pair p' q') is ∙ ap Some same in
          let one = pairs first (first + suc n) p q here later in
          omega (arith, one)

      by : (a b : Option (List ℕ)) → word_of k.dict p ≡ a → word_of k.dict q ≡ b → AllApart (pairs_told k.dict xs) → AllApart (pair_by a b ++ pairs_told k.dict xs)
      by None b is_a is_b rest = rest
      by (Some l) None is_a is_b rest = rest
      by (Some l) (Some r) is_a is_b rest = (
        λ m. let found = among_flat_map (pair_told k.dict) xs (l, r) m in
            let place = placed_at xs found.0 found.1 in
            again l r is_a is_b found.0 place.0 place.1 found.2,
        rest,
      )

  pairs_once : length (pairs_in (properties_told k) k.axioms) ≡ length s.axioms
  pairs_once =
      let some = length-with_more pair_cmp pair_exact [] (pairs_told k.dict k.axioms) (pairs_apart k.axioms 0 (λ n a is. subst (λ m. slice_get k.axioms m ≡ Some a) (let same : n ≡ 0 + n = omega arith in same) is)) (λ x m none. none) in
      ap (λ es. length es) (pairs_are k sound) ∙ omega (arith, some)

  -- ---- data blocks
  pub told_below : (n : ℕ) → Among (used k sound at) n → n < k.limits.blocks
  told_below n m =
      let found = among_flat_map (λ (f : Filed). blocks_told k.limits at f.rec) k.catalog.entries n m in
      (tells.given found.0 (contains_from_among k.catalog.entries found.0 found.1) n (has_from_among (blocks_told k.limits at (found.0).rec) n found.2)).0

  slot_used : (n : ℕ) → Among (all_blocks k.limits at (all_records (files_told k))) n → Among (used k sound at) n
  slot_used n m = permuted_among (all_blocks k.limits at (all_records (files_told k))) (used k sound at) n (IsPermutation-sym (used k sound at) (all_blocks k.limits at (all_records (files_told k))) (blocks_permuted k sound at)) m

  used_slot : (n : ℕ) → Among (used k sound at) n → Among (all_blocks k.limits at (all_records (files_told k))) n
  used_slot n m = permuted_among (used k sound at) (all_blocks k.limits at (all_records (files_told k))) n (blocks_permuted k sound at) m

  all_in_image : IsTrue (list_all (λ n. nat_lt n k.limits.blocks) (all_blocks k.limits at (all_records (files_told k))))
  all_in_image = all_from (λ n. nat_lt n k.limits.blocks) (all_blocks k.limits at (all_records (files_told k))) (λ n m. lt-ltb n k.limits.blocks (told_below n (slot_used n m)))

  pub used_once : are_distinct (used k sound at) ≡ true
  used_once =
      distinct_pieces (λ (f : Filed). f.slot) (λ (f : Filed). blocks_told k.limits at f.rec) k.catalog.entries sound.catalog.apart
      (λ f m. tells.apart f (contains_from_among k.catalog.entries f m))
      (λ f g n here there in_f in_g. tells.one_use f g (contains_from_among k.catalog.entries f here) (contains_from_among k.catalog.entries g there) n (has_from_among (blocks_told k.limits at f.rec) n in_f) (has_from_among (blocks_told k.limits at g.rec) n in_g))

  taken_told : k.taken ≡ marked (replicate k.limits.blocks false) (all_blocks k.limits at (all_records (files_told k)))
  taken_told = marks_are k.taken (all_blocks k.limits at (all_records (files_told k))) k.limits.blocks sound.blocks (λ n lt.
      same_tests (is_taken k.taken n) (has_number (all_blocks k.limits at (all_records (files_told k))) n)
      (λ taken. let of_file = tells.taken n lt taken in
      has_from_among (all_blocks k.limits at (all_records (files_told k))) n
      (used_slot n (flat_map_among (λ (f : Filed). blocks_told k.limits at f.rec) k.catalog.entries of_file.file n (among_from_contains k.catalog.entries of_file.file of_file.kept) (among_from_number (blocks_told k.limits at (of_file.file).rec) n of_file.has))))
      (λ has_it. let found = among_flat_map (λ (f : Filed). blocks_told k.limits at f.rec) k.catalog.entries n (slot_used n (among_from_number (all_blocks k.limits at (all_records (files_told k))) n has_it)) in
      (tells.given found.0 (contains_from_among k.catalog.entries found.0 found.1) n (has_from_among (blocks_told k.limits at (found.0).rec) n found.2)).1))

  -- ---- rows
  bit_is : (p i : ℕ) → i < k.limits.files → has k.ext p i ≡ row_bit s k.limits (contents_of k) at p i
  bit_is p i lt = by (word_of k.dict p) (rec_at k.catalog i) refl refl ∙ sym (ap₂ (is_had_by s (file_of_record k.limits (properties_told k) at)) (word_at_told k sound p) slot_is)
    where
      slot_is : get_or (files_told k) i FreeFile ≡ record_at k.catalog i
      slot_is = get_or-map-range_with_len (record_at k.catalog) 0 k.limits.files i i FreeFile lt (omega arith)

      by : (o : Option (List ℕ)) (r : Option FileRecord) → word_of k.dict p ≡ o → rec_at k.catalog i ≡ r
          → has k.ext p i ≡ is_had_by s (file_of_record k.limits (properties_told k) at) (word_of k.dict p) (file_by (rec_at k.catalog i))
      by o None is none =
          free i none p ∙ sym (ap (λ r. is_had_by s (file_of_record k.limits (properties_told k) at) (word_of k.dict p) (file_by r)) none ∙ nothing (word_of k.dict p))
        where
          nothing : (w : Option (List ℕ)) → is_had_by s (file_of_record k.limits (properties_told k) at) w FreeFile ≡ false
          nothing None = refl
          nothing (Some w) = refl
      by None (Some rec) is there =
          false_from_ne_true (has k.ext p i) (λ h. let word = some_word (word_of k.dict p) (sound.named p i (ap is_some there) h) in let e = sym is ∙ word.1 in absurd cc)
          ∙ sym (ap (λ o. is_had_by s (file_of_record k.limits (properties_told k) at) o (file_by (rec_at k.catalog i))) is)
      by (Some w) (Some rec) is there =
          let f : Filed = record { slot = i; rec = rec } in
          let m = contains_from_among k.catalog.entries f (filed_at_slot k.catalog sound.catalog i rec there) in
          number_told k sound (numbers_at k.ext i) p w is
          ∙ (ap (λ ws. has_word ws w) (tells.described f m)
          ∙ (sym (ap (λ file. has_word (description s file) w) (same_file k sound at rec))
          ∙ sym (ap₂ (λ o r. is_had_by s (file_of_record k.limits (properties_told k) at) o (file_by r)) is there)))

  rows_are : (p : ℕ) → p < (row_slots k.limits).count → slot (row_slots k.limits) at p ≡ bits_bytes (k.limits.files / 8) (row_bit s k.limits (contents_of k) at p)
  rows_are p lt =
      written Rows p lt
      ∙ (ap (λ n. bits_bytes (n / 8) (has k.ext p)) sound.files
      ∙ bytes_same (k.limits.files / 8) (has k.ext p) (row_bit s k.limits (contents_of k) at p) (λ i small. bit_is p i (omega (arith, small))))

  -- ---- sets
  -- the numbers that a slot has
  set_is : (i : ℕ) → i < k.limits.files → numbers_where k.ext.props (has_number (numbers_at k.ext i)) ≡ set_by s k.limits (contents_of k) at i
  unfolding numbers_where
  set_is i lt =
      ap (λ n. numbers_where n (has_number (numbers_at k.ext i))) sound.rows
      ∙ numbers_same k.limits.props (λ p. has k.ext p i) (λ p. row_bit s k.limits (contents_of k) at p i) (λ p below. bit_is p i lt)

  in_order : (i : ℕ) → i < k.limits.files → numbers_at k.ext i ≡ numbers_where k.ext.props (has_number (numbers_at k.ext i))
  in_order i lt = sym (numbers_of k.ext.props (numbers_at k.ext i) (sound.rising i (omega (arith, lt, sound.files))) below)
    where
      below : (n : ℕ) → Among (numbers_at k.ext i) n → n < k.ext.props
      below n m = omega (arith, named_below k sound n (named_all k sound free n i ((has_decides (numbers_at k.ext i) n).1 m)), sound.rows)

  sets_are : (i : ℕ) → i < (set_slots k.limits).count → slot (set_slots k.limits) at i ≡ set_bytes (set_by s k.limits (contents_of k) at i)
  sets_are i lt =
      let here : i < k.limits.files = omega (arith, lt, third_sets k.limits (some_are_third k.limits i lt)) in
      written Sets i lt ∙ ap set_bytes (in_order i here ∙ set_is i here)

  pub spells_told : Spells k.limits (contents_of k) at s
  spells_told = record {
    properties = property_slots_are;
    axioms = axiom_slots_are;
    files = file_slots_are;
    named_axioms = all_axioms_named k sound;
    free_axioms = axioms_past_free k sound;
    named = all_named k sound;
    state = state_is;
    formed = tells.formed;
    words = words_are;
    each_word_once = length_permutation (words k.dict) (words_in (properties_told k)) (words_permuted k sound) ∙ ap (λ ws. length ws) known_are;
    each_pair_once = pairs_once;
    each_name_once = names_once;
    indexed = λ rec m.
        let f = recorded_entry k sound rec (among_from_contains (all_records (files_told k)) rec m) in
        subst (λ (r : FileRecord). HasIndex k.limits at r) f.2 (tells.indexed f.0 (contains_from_among k.catalog.entries f.0 f.1));
    blocks = all_in_image;
    each_block_once = distinct_permuted (used k sound at) (all_blocks k.limits at (all_records (files_told k))) (blocks_permuted k sound at) used_once;
    bitmap = λ n lt. written Bitmap n lt ∙ ap (bitmap_bytes n) taken_told;
    rows = rows_are;
    sets = sets_are;
  }

-- the same, for the state that memory represents
pub tells_spells : (k : Metadata) (at : ℕ → List ℕ) (s : State) → AreSound k → FreeSlotsAreEmpty k → PairsAreApart k → IsWritten k at → Tells k at s → Spells s.limits (contents_of k) at s
tells_spells k at s sound free pairs written tells = search (rules, spells_told)
