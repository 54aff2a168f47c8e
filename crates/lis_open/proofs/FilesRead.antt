-- The files of file slots, read one after another.
use Rattle.std.proofs.Common.{ltb-false, leb-false}
use Rattle.lis_open.proofs.Common.{rules, ◌≡◌, ◌⊎◌, ◌∙◌, refl, sym, ap, subst, inl, inr, ℕ, zero, suc, below_more, ◌+◌, ◌<◌, ◌≤◌, nat_lt, nat_le, Bool, true, false, not, ◌&&◌, ◌||◌, is_some, Option, Some, None, List, [], length, get_or, IsTrue, arith, length-set, get_or-set_same, get_or-set_other, ◌∷◌, IfSome, lt-ltb, leb-true, flat_map, ⊎_elim, list_all, or_cases, or_left, or_right, length-replicate, same_Some, Meaning, DiskFaultEnds, Held, Fits, slot, is_taken, are_free, are_distinct, are_below, word_of, number_below, number_from_word, FileRecord, file_bytes, is_file, is_record, FileSlot, FreeFile, Used, Limits, bytes_told, blocks_told, HasIndex, file_slots, among_from_contains, filed_rec, among_from_number, numbers_at, cases_lt, Among, is_large, index_bytes, numbers_in, index_home, number_of, Filed, prop_bytes, is_prop, axiom_bytes, is_axiom, PropSlot, AxiomSlot, prop_once, axiom_once, same_word, is_valued, head_bytes, same_word_decides, among_from_has_word, data_start, file_words, own_words, up, is_assignable, property_slots, axiom_slots, words_told, file_told, axioms_of, words_in, word_at, one_array, and_parts, and_from, both_ways, false_from_ne_true, has_number, not_true, all_among, flat_map_among, has_word, has_word_from_among, set_of_among, ⊎_map, cases_Bool}
use Rattle.std.proofs.lemmas.Bool.{and_cases, not-false}
use Rattle.lis_content.specs.Large.{index_count}
use Rattle.lis_content.proofs.Numbers.{length-marked, below_from_free, below_if_taken}
use Rattle.lis_graph.specs.Again.{IsAgain, IsFirstAgain}
use Rattle.lis_catalog.specs.Catalog.{Catalog, IsCatalog, slot_of, HasRecords}
use Rattle.lis_catalog.proofs.Laws.{slot_of-rec_at}
use Rattle.std.proofs.Math.Path.{fun_ext}
use Rattle.lis_laws.proofs.Counts.{all_weaker}
use Rattle.lis_kept.specs.Metadata.{file_by}
use Rattle.lis_kept.specs.Sound.{is_sound_record}
use Rattle.lis_kept.proofs.Filing.{number_from_among}
use Rattle.lis_open.specs.declared.words.Words.{Words}
use Rattle.lis_open.specs.declared.axioms.Axioms.{Axioms}
use Rattle.lis_open.specs.declared.files.Files.{Files}
use Rattle.lis_open.specs.declared.files.FileSlots.{FileSlots}
use Rattle.lis_open.specs.declared.blocks.LastBlock.{LastBlock}
use Rattle.lis_ports.specs.Calls.{OnlyReads}
use Rattle.lis_open.specs.Reading.{Recalls, IsReadAs, IsFirst, Passes}
use Rattle.lis_open.specs.ReadWords.{AreWords, AreFirstWords, AreFirstAxioms, WordsAreSpelled, AxiomsAreSpelled, declared_words, kept_words}
use Rattle.lis_open.specs.ReadFiles.{no_files, described, found_words, is_numbered, own_numbers, HasNumbers, AreNumbers, is_assignable_by, is_assignable_number, AreTold, TakesNumbers, TakesRecord, TakesFile, TakenFiles, in_slots, in_catalog, AreTaken, AreFirstRecords, AreFiles, FilesAreSpelled, FilesAreNumbered, FilesHaveBlocks, AreSoFar, RecordsEnded, FilesAreTold, may_describe, HasBlocks, RecordFault, HasSlotFault}
use Rattle.lis_open.proofs.BlocksRead.{StillRecalls, one_file}
use Rattle.lis_open.proofs.ContentRead.{same_words}
use Rattle.lis_open.proofs.Descriptions.{assignable_word, found_own, among_told, described_words, description_long}
use Rattle.lis_open.proofs.AxiomsRead.{are_axioms, headless, second_false}
use Rattle.lis_open.proofs.WordsRead.{nothing_at, told_properties, word_at_told, declared_told, told_word, word_told, axioms_told, file_is_told, are_told}
use Rattle.lis_open.proofs.Once.{is_taken-marked, each_number}
use Rattle.lis_laws.proofs.Chains.{up_self, up_own, links_head}
use Rattle.lis_model.specs.declared.spot.Spot.TheVariants.{File as FileSpot}
use Rattle.lis_store.proofs.Relates.{told_few}
use Rattle.lis_open.specs.Checks.{IsFile, AreProperties, AreAxioms, declared_by, axioms_by, description_by, FileFault, HasFileFault, FileFails}
use Rattle.lis_open.specs.Checks.FileFault.{NameTaken, TagUnnumbered, TagUnassignable, BlockMissing, IndexUnformed, BlockTwice, BlockTaken, WordUnnumbered, TooManyWords}
use Rattle.lis_open.specs.ReadFiles.RecordFault.{NotAssignable, NoBlocks, NotDescribed}
use Rattle.lis_open.proofs.SpotKinds.{none_before, none_fails}

-- ---- what may be filed
-- a number whose word may be assigned has a word, and so it is below the limit
pub assignable_some : (words : Words) (o : Option (List ℕ)) → is_assignable_by words o ≡ true → is_some o ≡ true
assignable_some words None may = cc
assignable_some words (Some word) may = refl

within_props : (words : Words) (n : ℕ) → AreWords words → is_assignable_number words n ≡ true → n < words.dict.props
within_props words n are may =
    let word = assignable_word words (word_of words.dict n) may in
    number_below words.dict are.dict word.0 n (number_from_word words.dict are.dict word.0 n word.1)

pub tags_below : (words : Words) (rec : FileRecord) (props : ℕ) → AreWords words → props ≡ words.dict.props → list_all (is_assignable_number words) rec.tags ≡ true → list_all (λ n. nat_lt n props) rec.tags ≡ true
tags_below words rec props are same =
    all_weaker (is_assignable_number words) (λ n. nat_lt n props) rec.tags (λ n m is. lt-ltb n props (let below = within_props words n are is in omega (arith, below, same)))

-- free blocks are blocks of the image
pub free_below : (limits : Limits) (taken : List Bool) (blocks : List ℕ) → length taken ≡ limits.blocks → are_free taken blocks ≡ true → are_below limits.blocks blocks ≡ true
free_below limits taken blocks long free = ap (λ m. are_below m blocks) (sym long) ∙ below_from_free taken blocks free

-- ---- no file yet
pub no_files_yet : (limits : Limits) (words : Words) (axioms : Axioms) → AreFirstRecords limits words axioms (no_files limits) 0
unfolding no_files
no_files_yet limits words axioms = search (rules, length-replicate, nothing_at)

pub none_so_far : (limits : Limits) (words : Words) (axioms : Axioms) (slots : FileSlots) (at : ℕ → List ℕ) → slots ≡ no_files limits → AreSoFar limits at words axioms (in_slots slots) 0
unfolding no_files
none_so_far limits words axioms slots at is = search (rules, both_ways, nothing_at)

-- ---- one file more
module _ (limits : Limits) (MayBeKept : (ℕ → List ℕ) → Type 0) (words : Words) (axioms : Axioms) (slots next : FileSlots) (number : ℕ) (rec : FileRecord) (first : AreFirstRecords limits words axioms slots number)
    (lt : number < limits.files) (form : is_record limits rec ≡ true) (took : TakesRecord limits MayBeKept words axioms.taxonomy number rec slots next) where
  abbrev files : TakenFiles
  files = in_slots slots

  abbrev more : TakenFiles
  more = in_slots next

  -- the words that are found in the file
  abbrev its_words : List (List ℕ)
  its_words = found_words words rec.name took.bytes

  abbrev numbers : List ℕ
  numbers = described axioms.taxonomy (own_numbers words.dict rec.tags its_words)

  takes : TakesNumbers number rec took.blocks (described axioms.taxonomy (own_numbers words.dict rec.tags its_words)) slots next
  takes = took.takes

  described_parts : (list_all (is_numbered words.dict) its_words ≡ true) × (nat_le (length numbers) 128 ≡ true)
  described_parts = and_parts (list_all (is_numbered words.dict) its_words) (nat_le (length numbers) 128) took.describes

  free_slot : files.records number ≡ None
  free_slot = first.taken.rest number (omega arith)

  found_new : more.records number ≡ Some rec
  found_new = ap (λ (rs : List (Option FileRecord)). get_or rs number None) takes.records ∙ get_or-set_same slots.unsorted number (Some rec) None (omega (arith, lt, first.long))

  found_old : (n : ℕ) → (n ≡ number → ⊥) → more.records n ≡ files.records n
  found_old n differ = ap (λ (rs : List (Option FileRecord)). get_or rs n None) takes.records ∙ get_or-set_other slots.unsorted number n (Some rec) None differ

  -- what holds of the new file and its numbers, and of what each other slot had, holds of all slots
  each : (P : ℕ → Option FileRecord → List ℕ → Type 0) → P number (Some rec) numbers → ((n : ℕ) → (n ≡ number → ⊥) → P n (files.records n) (numbers_at files.ext n)) → (n : ℕ) → P n (more.records n) (numbers_at more.ext n)
  each P new old =
      each_number (λ n. P n (more.records n) (numbers_at more.ext n)) number
      (subst (λ o. P number o (numbers_at more.ext number)) (sym found_new)
      (subst (λ (sets : List (List ℕ)). P number (Some rec) (get_or sets number [])) (sym takes.sets)
      (subst (λ ns. P number (Some rec) ns) (sym (get_or-set_same files.ext.sets number numbers [] (omega (arith, lt, first.taken.count)))) new))) (λ n differ.
      subst (λ o. P n o (numbers_at more.ext n)) (sym (found_old n differ))
      (subst (λ (sets : List (List ℕ)). P n (files.records n) (get_or sets n [])) (sym takes.sets)
      (subst (λ ns. P n (files.records n) ns) (sym (get_or-set_other files.ext.sets number n numbers [] differ)) (old n differ))))

  -- the file of a slot is the new one, or an old one
  either : (P : ℕ → FileRecord → Type 0) → P number rec → ((n : ℕ) (r : FileRecord) → files.records n ≡ Some r → P n r) → (n : ℕ) (r : FileRecord) → more.records n ≡ Some r → P n r
  either P new old = each (λ n o ns. (r : FileRecord) → o ≡ Some r → P n r) (λ r is. subst (λ (x : FileRecord). P number x) (same_Some rec r is) new) (λ n differ. old n)

  -- an old file stays
  still_there : (n : ℕ) (r : FileRecord) → files.records n ≡ Some r → more.records n ≡ Some r
  still_there n r is = found_old n differs ∙ is
    where
      differs : n ≡ number → ⊥
      differs same = let none = sym free_slot ∙ (ap files.records (sym same) ∙ is) in cc

  below : are_below limits.blocks rec.blocks ≡ true
  below = free_below limits files.map rec.blocks first.taken.blocks took.usable.own

  sound : is_sound_record limits words.dict limits.blocks rec ≡ true
  sound =
      let named = list_all (λ n. is_some (word_of words.dict n)) rec.tags in
      and_from (is_record limits rec && named) (list_all (λ n. nat_lt n limits.blocks) rec.blocks)
      (and_from (is_record limits rec) named form (all_weaker (is_assignable_number words) (λ n. is_some (word_of words.dict n)) rec.tags (λ n m is. assignable_some words (word_of words.dict n) is) took.given)) below

  has_new : HasNumbers words axioms.taxonomy rec its_words numbers
  has_new = record { numbered = described_parts.0; are = refl }

  files_more : AreFirstRecords limits words axioms next (number + 1)
  files_more = record {
    within = omega (arith, lt);
    long = ap (length {A = Option FileRecord}) takes.records ∙ (length-set slots.unsorted number (Some rec) ∙ first.long);
    taken = record {
      records = either (λ slot r. IsTrue (is_sound_record limits words.dict limits.blocks r)) sound first.taken.records;
      given = either (λ slot r. IsTrue (list_all (is_assignable_number words) r.tags)) took.given first.taken.given;
      rest = λ n le. found_old n (λ e. omega arith) ∙ first.taken.rest n (omega arith);
      blocks = ap (length {A = Bool}) takes.map ∙ (length-marked files.map took.blocks ∙ first.taken.blocks);
      props = takes.props ∙ first.taken.props;
      count = ap (length {A = List ℕ}) takes.sets ∙ (length-set files.ext.sets number numbers ∙ first.taken.count);
      sets = each (λ n o ns. AreNumbers words axioms.taxonomy o ns) (record { bytes = took.bytes; sized = took.sized; has = has_new }) (λ n differ. first.taken.sets n);
      short = each (λ n o ns. length ns ≤ 128) (leb-true (length numbers) 128 described_parts.1) (λ n differ. first.taken.short n);
      settled = takes.settled;
    };
  }

  -- ---- their blocks
  taken_is : (n : ℕ) → is_taken more.map n ≡ (has_number took.blocks n || is_taken files.map n)
  taken_is n = ap (λ (m : List Bool). is_taken m n) takes.map ∙ is_taken-marked files.map took.blocks n (below_from_free files.map took.blocks took.usable.free)

  -- a new block was free
  was_free : (n : ℕ) → has_number took.blocks n ≡ true → is_taken files.map n ≡ false
  was_free n new =
      let free = all_among (λ k. nat_lt k (length files.map) && not (is_taken files.map k)) took.blocks n took.usable.free (among_from_number took.blocks n new) in
      not_true (is_taken files.map n) (and_parts (nat_lt n (length files.map)) (not (is_taken files.map n)) free).1

  module _ (at : ℕ → List ℕ) (may : MayBeKept at) (so_far : AreSoFar limits at words axioms files number) (here : slot (file_slots limits) at number ≡ file_bytes limits.version (Used rec)) where
    abbrev old : FilesHaveBlocks limits at files
    old = so_far.blocks

    told : AreTold limits at rec took.bytes took.blocks
    told = took.told at may

    in_new : (n : ℕ) → has_number (blocks_told limits at rec) n ≡ true → has_number took.blocks n ≡ true
    in_new n has = ap (λ ns. has_number ns n) told.blocks_are ∙ has

    -- and so no old file has it
    not_both : (n slot : ℕ) (r : FileRecord) → has_number (blocks_told limits at rec) n ≡ true → files.records slot ≡ Some r → has_number (blocks_told limits at r) n ≡ true → ⊥
    not_both n slot r here is there = both_ways (is_taken files.map n) (was_free n (in_new n here)) (old.taken slot r n is there)

    numbered_more : FilesAreNumbered limits at words axioms more
    numbered_more =
        each (λ n o ns. (r : FileRecord) → o ≡ Some r → HasNumbers words axioms.taxonomy r (found_words words r.name (bytes_told limits at r)) ns)
        (λ r is. subst (λ (x : FileRecord). HasNumbers words axioms.taxonomy x (found_words words x.name (bytes_told limits at x)) numbers) (same_Some rec r is)
        (subst (λ ws. HasNumbers words axioms.taxonomy rec ws numbers) (same_words words told.has_words) has_new))
        (λ n differ. so_far.numbered n)

    blocks_more : FilesHaveBlocks limits at more
    blocks_more = record {
      indexed = either (λ k r. HasIndex limits at r) told.indexed old.indexed;
      distinct = either (λ k r. IsTrue (are_distinct (blocks_told limits at r))) (ap are_distinct (sym told.blocks_are) ∙ took.usable.distinct) old.distinct;
      taken = λ slot r n is has. taken_is n ∙
          either (λ k x. has_number (blocks_told limits at x) n ≡ true → (has_number took.blocks n || is_taken files.map n) ≡ true)
          (λ here. or_left (has_number took.blocks n) (is_taken files.map n) (in_new n here))
          (λ k x there here. or_right (has_number took.blocks n) (is_taken files.map n) (old.taken k x n there here)) slot r is has;
      in_use = λ n is. used n (or_cases (has_number took.blocks n) (is_taken files.map n) (sym (taken_is n) ∙ is));
      one_use = λ slot other r more n is_r is_more.
          either (λ k x. has_number (blocks_told limits at x) n ≡ true → has_number (blocks_told limits at more) n ≡ true → k ≡ other)
          (λ here. either (λ k x. has_number (blocks_told limits at x) n ≡ true → number ≡ k) (λ there. refl) (λ k x is there. absurd (not_both n k x here is there)) other more is_more)
          (λ k x is here. either (λ j y. has_number (blocks_told limits at y) n ≡ true → k ≡ j) (λ there. absurd (not_both n k x there is here)) (λ j y is_y there. old.one_use k j x y n is is_y here there) other more is_more)
          slot r is_r;
    }
      where
        used : (n : ℕ) → (has_number took.blocks n ≡ true) ⊎ (is_taken files.map n ≡ true) → (slot : ℕ) × (r : FileRecord) × (more.records slot ≡ Some r) × (has_number (blocks_told limits at r) n ≡ true)
        used n (inl here) = (number, rec, found_new, ap (λ ns. has_number ns n) (sym told.blocks_are) ∙ here)
        used n (inr was) = let found = old.in_use n was in (found.0, found.1, still_there found.0 found.1 found.2, found.3)

    so_far_more : AreSoFar limits at words axioms more (number + 1)
    so_far_more = record {
      spelled = each (λ n o ns. n < number + 1 → slot (file_slots limits) at n ≡ file_bytes limits.version (file_by o)) (λ _. here) (λ n differ lt. so_far.spelled n (omega (arith, differ, lt)));
      numbered = numbered_more;
      blocks = blocks_more;
    }

-- ---- one slot more
module _ (limits : Limits) (MayBeKept : (ℕ → List ℕ) → Type 0) (words : Words) (axioms : Axioms) (slots : FileSlots) (number : ℕ) (first : AreFirstRecords limits words axioms slots number) (lt : number < limits.files) where
  pub files_on : (found : Option FileSlot) (next : FileSlots) → IfSome found (λ file. IsTrue (is_file limits file)) → TakesFile limits MayBeKept words axioms.taxonomy number found slots next
      → AreFirstRecords limits words axioms next (number + 1)
  files_on found next form takes = search (rules, takes, files_more)

  pub so_far_on : (at : ℕ → List ℕ) → MayBeKept at → AreSoFar limits at words axioms (in_slots slots) number → (found : Option FileSlot) (next : FileSlots) → IfSome found (λ file. IsTrue (is_file limits file))
      → TakesFile limits MayBeKept words axioms.taxonomy number found slots next → IsReadAs (file_bytes limits.version) (is_file limits) (file_slots limits) at number found → AreSoFar limits at words axioms (in_slots next) (number + 1)
  so_far_on at may old None next form takes read = absurd takes
  so_far_on at may old (Some FreeFile) next form takes read =
      subst (λ (s : FileSlots). AreSoFar limits at words axioms (in_slots s) (number + 1)) (sym takes) (record {
        spelled = each_number (λ n. n < number + 1 → slot (file_slots limits) at n ≡ file_bytes limits.version (file_by (get_or slots.unsorted n None))) number
            (λ less. read.bytes ∙ ap (λ o. file_bytes limits.version (file_by o)) (sym (first.taken.rest number (omega arith)))) (λ n differ less. old.spelled n (omega arith));
        numbered = old.numbered;
        blocks = old.blocks;
      })
  so_far_on at may old (Some (Used rec)) next form takes read = so_far_more limits MayBeKept words axioms slots next number rec first lt form takes at may old read.bytes

-- ---- the loop
-- the slots below the end were read, by runs that only read
pub record FilesTurn (journal : Held) (limits : Limits) (words : Words) (axioms : Axioms) (old now : Meaning) (last_old last : LastBlock) (slots : FileSlots) (end : ℕ) : Type 0 where
  pub reads : OnlyReads old now
  pub faults : now.disk_faults ≡ old.disk_faults
  pub first_fault : DiskFaultEnds old now
  pub first : AreFirstRecords limits words axioms slots end
  pub recalls : StillRecalls journal old last_old last
  pub so_far : (kept : ℕ → List ℕ) → Fits journal old kept → Recalls last_old kept → AreSoFar limits kept words axioms (in_slots slots) end

-- ---- what is wrong with a file slot that is not taken, and that nothing is wrong with those that are
-- a member that fails a test
failing : {X : Type 0} (test : X → Bool) (xs : List X) → list_all test xs ≡ false → (x : X) × Among xs x × (test x ≡ false)
failing test [] fails = absurd cc
failing test (x ∷ xs) fails = search (rules, and_cases, failing test xs)

used_slot : (o : Option FileRecord) (rec : FileRecord) → file_by o ≡ Used rec → o ≡ Some rec
used_slot None rec is = cc
used_slot (Some r) rec is = cc

-- ---- each index block is well formed, or one is malformed
-- what holds or not of each number holds of all below an end, or not
all_or_not : (P : ℕ → Type 0) → ((n : ℕ) → P n ⊎ (P n → ⊥)) → (end : ℕ) → ((n : ℕ) → n < end → P n) ⊎ (((n : ℕ) → n < end → P n) → ⊥)
all_or_not P each zero = inl (λ n lt. absurd (omega (arith, lt)))
all_or_not P each (suc end) = elim (all_or_not P each end) [
  | inl below ↦ elim (each end) [ inl here ↦ inl (λ n lt. below_more P end below here n (omega (arith, lt))) | inr not_here ↦ inr (λ all. not_here (all end (omega arith))) ]
  | inr not_below ↦ inr (λ all. not_below (λ n lt. all n (omega (arith, lt))))
]

same_or_not : (xs ys : List ℕ) → (xs ≡ ys) ⊎ (xs ≡ ys → ⊥)
same_or_not xs ys = ⊎_map (same_word_decides xs ys).0 (λ other same. both_ways (same_word xs ys) other ((same_word_decides xs ys).1 same)) (cases_Bool (same_word xs ys))

index_or_not : (limits : Limits) (at : ℕ → List ℕ) (rec : FileRecord) → HasIndex limits at rec ⊎ (HasIndex limits at rec → ⊥)
index_or_not limits at rec = by (is_large rec.size) refl
  where
    held : ℕ → List ℕ
    held j = at (index_home (data_start limits) rec.blocks j)

    IsFormed : ℕ → Type 0
    IsFormed j = held j ≡ index_bytes limits.version (numbers_in limits.version (index_count rec.size j) (held j))

    each : ((j : ℕ) → j < length rec.blocks → IsFormed j) ⊎ (((j : ℕ) → j < length rec.blocks → IsFormed j) → ⊥)
    each = all_or_not IsFormed (λ j. same_or_not (held j) (index_bytes limits.version (numbers_in limits.version (index_count rec.size j) (held j)))) (length rec.blocks)

    by : (large : Bool) → is_large rec.size ≡ large → HasIndex limits at rec ⊎ (HasIndex limits at rec → ⊥)
    by true is = ⊎_map (λ all _. all) (λ bad indexed. bad (indexed is)) each
    by false is = inl (λ large. absurd (both_ways (is_large rec.size) is large))

-- a fault is one by all words and axioms, whichever lists they are
pub file_fault_by : (limits : Limits) (at : ℕ → List ℕ) (n : ℕ) (properties : List PropSlot) (axioms : List AxiomSlot) → FileFails limits at n → AreProperties limits at properties → AreAxioms limits at axioms
    → (file : FileSlot) → IsFile limits at n file → HasFileFault limits at properties axioms n file
file_fault_by limits at n properties axioms fails words pairs file is =
    subst (λ xs. HasFileFault limits at properties xs n file) (one_array axiom_bytes is_axiom (axiom_slots limits) at fails.axioms axioms axiom_once fails.pairs pairs)
    (subst (λ ps. HasFileFault limits at ps fails.axioms n file) (one_array prop_bytes is_prop (property_slots limits) at fails.properties properties prop_once fails.words words) (fails.fault file is))

-- ---- files by their slots
-- no file of an earlier slot has the name of this slot's file
abbrev pub HasNewName : TakenFiles → ℕ → Type 0
HasNewName files n = (earlier : ℕ) (other rec : FileRecord) → earlier < n → files.records earlier ≡ Some other → files.records n ≡ Some rec → other.name ≡ rec.name → ⊥

module _ (limits : Limits) (words : Words) (axioms : Axioms) (files : TakenFiles) (end : ℕ) (are : AreFirstWords limits words limits.props) (links : AreFirstAxioms limits words axioms (axiom_slots limits).count) (first : AreTaken limits words axioms files end) where
  record_of : (n : ℕ) (rec : FileRecord) → files.records n ≡ Some rec → is_record limits rec ≡ true
  record_of n rec is =
      let named = list_all (λ k. is_some (word_of words.dict k)) rec.tags in
      (and_parts (is_record limits rec) named (and_parts (is_record limits rec && named) (list_all (λ k. nat_lt k limits.blocks) rec.blocks) (first.records n rec is)).0).0

  -- a slot that has a file is below the end
  pub slot_read : (n : ℕ) (rec : FileRecord) → files.records n ≡ Some rec → n < end
  slot_read n rec is = elim (cases_lt n end) [ inl lt ↦ lt | inr past ↦ absurd (let none = sym (first.rest n past) ∙ is in cc) ]

  -- the words of a slot's numbers are the file's
  pub slot_described : (at : ℕ → List ℕ) → FilesAreNumbered limits at words axioms files → (f : Filed) → files.records f.slot ≡ Some f.rec → words_told words.dict (numbers_at files.ext f.slot)
      ≡ file_words (declared_words words) (axioms_of (kept_words limits words axioms.slots.items)) (file_told limits words.dict at f)
  slot_described at numbers f is =
      let has = numbers f.slot f.rec is in
      ap (words_told words.dict) has.are
      ∙ described_words limits words axioms (axiom_slots limits).count are links f.rec (bytes_told limits at f.rec) (first.given f.slot f.rec is) has.numbered

  module _ (at : ℕ → List ℕ) (told : WordsAreSpelled limits at words limits.props) (pairs : AxiomsAreSpelled limits at axioms (axiom_slots limits).count) (spelled : FilesAreSpelled limits at files end) where
    -- the words that are found in a record's file, and its own numbers
    abbrev in_file : FileRecord → List (List ℕ)
    in_file rec = found_words words rec.name (bytes_told limits at rec)

    abbrev own : FileRecord → List ℕ
    own rec = own_numbers words.dict rec.tags (in_file rec)

    abbrev properties : List PropSlot
    properties = told_properties limits words

    abbrev items : List AxiomSlot
    items = axioms.slots.items

    pub file_is : (n : ℕ) → n < end → n < limits.files → IsFile limits at n (file_by (files.records n))
    file_is n lt below = search (rules, below, record_of)

    pub used_is : (n : ℕ) (rec : FileRecord) → n < limits.files → files.records n ≡ Some rec → IsFile limits at n (Used rec)
    used_is n rec below is = subst (λ (file : FileSlot). IsFile limits at n file) (ap file_by is) (file_is n (slot_read n rec is) below)

    pub rec_is : (n : ℕ) (rec : FileRecord) → n < end → IsFile limits at n (Used rec) → files.records n ≡ Some rec
    rec_is n rec lt is = used_slot (files.records n) rec (one_file limits at n (file_by (files.records n)) (Used rec) (file_is n lt is.below) is)

    -- the words of a record's file are its description
    file_words_are : (rec : FileRecord) → file_words (declared_words words) (axioms_of (kept_words limits words items)) (file_told limits words.dict at (record { slot = 0; rec = rec }))
        ≡ description_by limits properties items at rec
    file_words_are rec =
        let f : Filed = record { slot = 0; rec = rec } in
        ap (λ ds. file_words ds (axioms_of (kept_words limits words items)) (file_told limits words.dict at f)) (sym (declared_told limits words are.are are.props))
        ∙ (ap (λ pairs. file_words (declared_by properties) pairs (file_told limits words.dict at f)) (sym (axioms_told limits words are.are are.props items))
        ∙ ap (file_words (declared_by properties) (axioms_by properties items)) (sym (file_is_told limits words are.are are.props at f)))

    -- and so are the words of its numbers, if its words may be assigned and those that are found in it have numbers
    description_is : (rec : FileRecord) → list_all (is_assignable_number words) rec.tags ≡ true → list_all (is_numbered words.dict) (in_file rec) ≡ true
        → words_told words.dict (described axioms.taxonomy (own rec)) ≡ description_by limits properties items at rec
    description_is rec given numbered =
        described_words limits words axioms (axiom_slots limits).count are links rec (bytes_told limits at rec) given numbered ∙ file_words_are rec

    -- ---- no fault
    module _ (numbers : FilesAreNumbered limits at words axioms files) (blocks : FilesHaveBlocks limits at files) where
      tag_given : (n : ℕ) (rec : FileRecord) → files.records n ≡ Some rec → (tag : ℕ) → has_number rec.tags tag ≡ true → is_assignable_by words (word_at properties tag) ≡ true
      tag_given n rec is tag has =
          ap (is_assignable_by words) (word_at_told limits words are.are are.props tag) ∙ all_among (is_assignable_number words) rec.tags tag (first.given n rec is) (among_from_number rec.tags tag has)

      no_fault : (n : ℕ) (rec : FileRecord) → files.records n ≡ Some rec → n < end → HasNewName files n → FileFault limits at properties items n rec → ⊥
      no_fault n rec is lt new (NameTaken earlier other before is_other same) = new earlier other rec before (rec_is earlier other (omega arith) is_other) is same
      no_fault n rec is lt new (TagUnnumbered tag has none) = both_ways false refl (ap (is_assignable_by words) (sym none) ∙ tag_given n rec is tag has)
      no_fault n rec is lt new (TagUnassignable tag word has named not_given) =
          both_ways (is_assignable (declared_words words) word) (ap (λ ds. is_assignable ds word) (sym (declared_told limits words are.are are.props)) ∙ not_given) (ap (is_assignable_by words) (sym named) ∙ tag_given n rec is tag has)
      no_fault n rec is lt new (BlockMissing data_block has past) =
          let below = below_if_taken files.map data_block (blocks.taken n rec data_block is has) in
          omega (arith, below, past, first.blocks)
      no_fault n rec is lt new (IndexUnformed unformed) = unformed (blocks.indexed n rec is)
      no_fault n rec is lt new (BlockTwice twice) = both_ways (are_distinct (blocks_told limits at rec)) twice (blocks.distinct n rec is)
      no_fault n rec is lt new (BlockTaken earlier other data_block before is_other has_other has) =
          let here = rec_is earlier other (omega arith) is_other in
          let same = blocks.one_use n earlier rec other data_block is here has has_other in
          omega (arith, same, before)
      no_fault n rec is lt new (WordUnnumbered word has none) =
          let m = among_from_has_word (description_by limits properties items at rec) word has in
          let number = among_told words.dict (described axioms.taxonomy (own rec)) word (subst (λ ws. Among ws word) (sym (description_is rec (first.given n rec is) (numbers n rec is).numbered)) m) in
          both_ways (has_word (words_in properties) word) none (told_word limits words are.are are.props number.0 word number.2)
      no_fault n rec is lt new (TooManyWords many) =
          let few = told_few words.dict (described axioms.taxonomy (own rec)) in
          let short = first.short n in
          let has = numbers n rec is in
          let long = ap (length {A = List ℕ}) (description_is rec (first.given n rec is) has.numbered) in
          omega (arith, few, short, long, many, ap (length {A = ℕ}) has.are)

      pub file_passes : (n : ℕ) → n < end → HasNewName files n → FileFails limits at n → ⊥
      file_passes n lt new fails = (elim (files.records n) as (λ o. files.records n ≡ o → HasFileFault limits at properties items n (file_by o) → ⊥) [
        | None ↦ λ is fault. fault
        | Some rec ↦ λ is fault. no_fault n rec is lt new fault
      ]) refl
          (file_fault_by limits at n properties items fails (are_told limits words are.are are.props at told) (are_axioms limits at words are told axioms links pairs) (file_by (files.records n)) (file_is n lt fails.below))

    -- ---- the fault of a record that is not taken
    tag_fault : (rec : FileRecord) → list_all (is_assignable_number words) rec.tags ≡ false → FileFault limits at properties items end rec
    tag_fault rec fails = let tag = failing (is_assignable_number words) rec.tags fails in by tag.0 (number_from_among rec.tags tag.0 tag.1) tag.2 (word_of words.dict tag.0) refl
      where
        by : (tag : ℕ) → has_number rec.tags tag ≡ true → is_assignable_number words tag ≡ false → (o : Option (List ℕ)) → word_of words.dict tag ≡ o → FileFault limits at properties items end rec
        by tag has not_given None is = TagUnnumbered tag has (word_at_told limits words are.are are.props tag ∙ is)
        by tag has not_given (Some word) is =
            TagUnassignable tag word has (word_at_told limits words are.are are.props tag ∙ is)
            (ap (λ ds. is_assignable ds word) (declared_told limits words are.are are.props) ∙ (ap (is_assignable_by words) (sym is) ∙ not_given))

    block_fault : (rec : FileRecord) → FilesHaveBlocks limits at files → end < limits.files → are_free files.map (blocks_told limits at rec) ≡ false → FileFault limits at properties items end rec
    block_fault rec blocks below fails =
        let found = failing (λ n. nat_lt n (length files.map) && not (is_taken files.map n)) (blocks_told limits at rec) fails in
        let has = number_from_among (blocks_told limits at rec) found.0 found.1 in
        ⊎_elim (λ past. let none = ltb-false found.0 (length files.map) past in BlockMissing found.0 has (omega (arith, none, first.blocks))) (λ held.
        let owner = blocks.in_use found.0 (not-false (is_taken files.map found.0) held) in
        let before : owner.0 < end = slot_read owner.0 owner.1 owner.2 in
        BlockTaken owner.0 owner.1 found.0 before (used_is owner.0 owner.1 (omega (arith, before, below)) owner.2) owner.3 has)
        (and_cases (nat_lt found.0 (length files.map)) (not (is_taken files.map found.0)) found.2)

    -- blocks that are not usable
    blocks_fault : (rec : FileRecord) → FilesHaveBlocks limits at files → end < limits.files → (HasBlocks limits at files.map rec → ⊥) → FileFault limits at properties items end rec
    blocks_fault rec blocks below fails =
        let told_blocks = blocks_told limits at rec in
        ⊎_elim (λ indexed. ⊎_elim (λ distinct. ⊎_elim (λ free. absurd (fails (record { indexed = indexed; free = free; distinct = distinct })))
        (block_fault rec blocks below) (cases_Bool (are_free files.map told_blocks))) BlockTwice (cases_Bool (are_distinct told_blocks))) IndexUnformed (index_or_not limits at rec)

    -- the words that are found in a file, and all that they entail, are in its description
    found_there : (rec : FileRecord) (w q : List ℕ) → Among (in_file rec) w → Among (up (declared_words words) (axioms_of (kept_words limits words items)) w) q → has_word (description_by limits properties items at rec) q ≡ true
    found_there rec w q m entails =
        let file = file_told limits words.dict at (record { slot = 0; rec = rec }) in
        let ups = up (declared_words words) (axioms_of (kept_words limits words items)) in
        let here = found_own limits words are.are.dict rec (bytes_told limits at rec) w m in
        has_word_from_among (description_by limits properties items at rec) q
        (subst (λ ws. Among ws q) (file_words_are rec) (set_of_among (flat_map ups (own_words (declared_words words) file)) q (flat_map_among ups (own_words (declared_words words) file) w q here entails)))

    -- a word without a number is in no slot
    no_slot : (w : List ℕ) → is_some (number_of words.dict w) ≡ false → has_word (words_in properties) w ≡ false
    no_slot w none = false_from_ne_true (has_word (words_in properties) w) (λ h.
        let found = word_told limits words are.are are.props w h in
        both_ways (is_some (number_of words.dict w)) none (ap is_some (number_from_word words.dict are.are.dict w found.0 found.1)))

    number_fault : (rec : FileRecord) → list_all (is_numbered words.dict) (in_file rec) ≡ false → FileFault limits at properties items end rec
    number_fault rec fails =
        let found = failing (is_numbered words.dict) (in_file rec) fails in
        let w = found.0 in
        ⊎_elim (λ none. WordUnnumbered w (found_there rec w w found.1 (up_self (declared_words words) (axioms_of (kept_words limits words items)) w)) (no_slot w none)) (λ bad.
        let parts = headless (is_valued w) (is_some (number_of words.dict (head_bytes w))) bad in
        let head = up_own (declared_words words) (axioms_of (kept_words limits words items)) w (head_bytes w) (links_head (declared_words words) w parts.0) in
        WordUnnumbered (head_bytes w) (found_there rec w (head_bytes w) found.1 head) (no_slot (head_bytes w) parts.1))
        (and_cases (is_some (number_of words.dict w)) (not (is_valued w) || is_some (number_of words.dict (head_bytes w))) found.2)

    long_fault : (rec : FileRecord) → list_all (is_assignable_number words) rec.tags ≡ true → list_all (is_numbered words.dict) (in_file rec) ≡ true → nat_le (length (described axioms.taxonomy (own rec))) 128 ≡ false
        → FileFault limits at properties items end rec
    long_fault rec given numbered many =
        let more = leb-false (length (described axioms.taxonomy (own rec))) 128 many in
        let long = description_long limits words axioms (axiom_slots limits).count are links rec (bytes_told limits at rec) given numbered in
        TooManyWords (omega (arith, more, long, ap (length {A = List ℕ}) (description_is rec given numbered)))

    words_fault : (rec : FileRecord) → may_describe words axioms.taxonomy rec (in_file rec) ≡ false → FileFault limits at properties items end rec
    words_fault rec fails =
        let many = second_false (list_all (is_numbered words.dict) (in_file rec)) (nat_le (length (described axioms.taxonomy (own rec))) 128) fails in
        ⊎_elim (λ all. ⊎_elim (λ given. long_fault rec given all (many all)) (tag_fault rec) (cases_Bool (list_all (is_assignable_number words) rec.tags)))
        (number_fault rec) (cases_Bool (list_all (is_numbered words.dict) (in_file rec)))

    record_fault : (rec : FileRecord) → FilesHaveBlocks limits at files → end < limits.files → RecordFault limits at words axioms.taxonomy files.map rec → FileFault limits at properties items end rec
    record_fault rec blocks below (NotAssignable fails) = tag_fault rec fails
    record_fault rec blocks below (NoBlocks fails) = blocks_fault rec blocks below fails
    record_fault rec blocks below (NotDescribed fails) = words_fault rec fails

    file_fault : (found : Option FileSlot) → FilesHaveBlocks limits at files → end < limits.files → HasSlotFault limits at words axioms.taxonomy files.map found
        → IsReadAs (file_bytes limits.version) (is_file limits) (file_slots limits) at end found → (file : FileSlot) → IsFile limits at end file → HasFileFault limits at properties items end file
    file_fault None blocks below fault read file is = absurd (read file is)
    file_fault (Some FreeFile) blocks below fault read file is = absurd fault
    file_fault (Some (Used rec)) blocks below fault read file is =
        subst (λ (f : FileSlot). HasFileFault limits at properties items end f) (one_file limits at end (Used rec) file read is) (record_fault rec blocks below fault)

    -- a slot fails if something is wrong with its file
    fails_by : (n : ℕ) → n < limits.files → ((file : FileSlot) → IsFile limits at n file → HasFileFault limits at properties items n file) → FileFails limits at n
    fails_by n below fault = record {
      below = below;
      properties = properties;
      words = are_told limits words are.are are.props at told;
      axioms = items;
      pairs = are_axioms limits at words are told axioms links pairs;
      fault = fault;
    }

    pub file_fails : (found : Option FileSlot) → end < limits.files → HasSlotFault limits at words axioms.taxonomy files.map found
        → IsReadAs (file_bytes limits.version) (is_file limits) (file_slots limits) at end found → FilesHaveBlocks limits at files → FileFails limits at end
    file_fails found below fault read blocks = fails_by end below (file_fault found blocks below fault read)

    -- a file in an earlier slot has the name of this slot's file too
    pub name_fails : (n earlier : ℕ) (rec other : FileRecord) → n < limits.files → earlier < n → files.records earlier ≡ Some other → files.records n ≡ Some rec → other.name ≡ rec.name → FileFails limits at n
    name_fails n earlier rec other below before there here same = fails_by n below (λ file is.
        subst (λ (f : FileSlot). HasFileFault limits at properties items n f) (one_file limits at n (Used rec) file (used_is n rec below here) is)
        (NameTaken earlier other before (used_is earlier other (omega (arith, before, below)) there) same))

-- ---- the files, sorted by their names
module _ (limits : Limits) (words : Words) (axioms : Axioms) (slots : FileSlots) (end : ℕ) (are : AreFirstWords limits words limits.props) (links : AreFirstAxioms limits words axioms (axiom_slots limits).count) (first : AreFirstRecords limits words axioms slots end) where
  -- a slot whose name an earlier slot has was read
  again_read : (n : ℕ) → IsAgain (λ (rec : FileRecord). rec.name) slots.unsorted n → n < end
  again_read n again = slot_read limits words axioms (in_slots slots) end are links first.taken n again.2 again.5

  -- the names of slots before the first such slot are new
  new_before : (n m : ℕ) → IsFirstAgain (λ (rec : FileRecord). rec.name) slots.unsorted n → m < n → HasNewName (in_slots slots) m
  new_before n m least lt = λ earlier other rec before there here same. least.first m lt (earlier, other, rec, before, there, here, same)

  module _ (at : ℕ → List ℕ) (told : WordsAreSpelled limits at words limits.props) (pairs : AxiomsAreSpelled limits at axioms (axiom_slots limits).count) (ended : RecordsEnded limits at words axioms slots end) where
    passes : (n : ℕ) → n < end → HasNewName (in_slots slots) n → FileFails limits at n → ⊥
    passes = file_passes limits words axioms (in_slots slots) end are links first.taken at told pairs ended.so_far.spelled ended.so_far.numbered ended.so_far.blocks

    pub again_fails : (n : ℕ) → IsFirstAgain (λ (rec : FileRecord). rec.name) slots.unsorted n → IsFirst limits at 4 (FileSpot n)
    again_fails n least =
        let again = least.again in
        let lt = again_read n again in
        record {
          fails = name_fails limits words axioms (in_slots slots) end are links first.taken at told pairs ended.so_far.spelled n again.0 again.2 again.1 (omega (arith, lt, first.within)) again.3 again.4 again.5 again.6;
          is = refl;
          none_before = none_before limits at 4 n (λ m less. passes m (omega (arith, less, lt)) (new_before n m least less));
        }

  module _ (c : Catalog) (kept : IsCatalog c) (has : HasRecords c slots.unsorted) where
    abbrev sorted : Files
    sorted = record { catalog = c; map = slots.map; ext = slots.ext }

    same_files : in_slots slots ≡ in_catalog sorted
    same_files = ap (λ (records : ℕ → Option FileRecord). record { records = records; map = slots.map; ext = slots.ext }) (sym (fun_ext has.1))

    all_new : (n : ℕ) → HasNewName (in_slots slots) n
    all_new n earlier other rec before there here same =
        let a = slot_of-rec_at c n rec kept (has.1 n ∙ here) in
        let b = slot_of-rec_at c earlier other kept (has.1 earlier ∙ there) in
        let one = same_Some n earlier (sym a ∙ (ap (slot_of c) (sym same) ∙ b)) in
        omega (arith, one, before)

    pub files_made : end ≡ limits.files → AreFiles limits words axioms sorted
    files_made all = record {
      slots = has.0 ∙ first.long;
      catalog = kept;
      taken = subst (λ (files : TakenFiles). AreTaken limits words axioms files limits.files) same_files (subst (AreTaken limits words axioms (in_slots slots)) all first.taken);
    }

    module _ (at : ℕ → List ℕ) (told : WordsAreSpelled limits at words limits.props) (pairs : AxiomsAreSpelled limits at axioms (axiom_slots limits).count) (ended : RecordsEnded limits at words axioms slots end) where
      pub end_fails : end < limits.files → IsFirst limits at 4 (FileSpot end)
      end_fails below = record {
        fails = ended.fails below;
        is = refl;
        none_before = none_before limits at 4 end (λ n lt. passes at told pairs ended n lt (all_new n));
      }

      -- if all slots were read, no check of a file fails
      pub files_pass : end ≡ limits.files → Passes limits at 4 (FilesAreTold limits at words axioms sorted)
      files_pass all = record {
        none = none_fails limits at 4 (λ n fails. passes at told pairs ended n (omega (arith, fails.below, all)) (all_new n) fails);
        is = record {
          spelled = subst (λ (files : TakenFiles). FilesAreSpelled limits at files limits.files) same_files (λ n lt. ended.so_far.spelled n (omega (arith, lt, all)));
          blocks = subst (λ (files : TakenFiles). FilesHaveBlocks limits at files) same_files ended.so_far.blocks;
          described = λ f m.
              slot_described limits words axioms (in_slots slots) end are links first.taken at ended.so_far.numbered f
              (sym (has.1 f.slot) ∙ filed_rec c kept f (among_from_contains c.entries f m));
        };
      }
