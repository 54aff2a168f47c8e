-- What was read and checked is what a store may keep.
use Rattle.lis_open.proofs.Common.{rules, length-take, ◌≡◌, ◌∙◌, refl, sym, ap, ap₂, subst, ℕ, zero, ◌<◌, ◌≤◌, Bool, true, false, List, Option, Some, None, is_some, IsSome, slice_get, IsTrue, [], length, arith, suc, ◌+◌, ◌-◌, nat_le, ◌&&◌, ◌∷◌, sum, length-append, le-leb, option_to_list, flat_map, Contains, same_Some, Among, IsDict, number_of, word_of, rec_at, has, numbers_at, FileRecord, is_prop, Pair, is_plain_word, is_valued, same_word, head_bytes, head_not_valued, same_word_decides, Limits, are_in_range, own_words, is_assignable, Metadata, property_by, AreSound, is_head_by, is_used, among_from_number, list_all, is_test, Held, words_told, IsSound, among_from_contains, contains_from_among, among_flat_map, is_taken, are_distinct, Dict, Filed, SpellsSuper, AxiomSlot, FreeAxiom, word_cmp, sorted_set_of, data_start, State, description, is_nameable, file_cmp, WellFormed, pair_by, pairs_told, bytes_told, blocks_told, file_told, state_of, Tells, filed_rec, filed_at_slot, Stored, and_parts, both_ways, false_from_ne_true, and_from, has_number, all_among, has_from_among, has_word, File, pair_cmp, has_word_from_among, IsWritten}
use Rattle.lis_bits.proofs.Subset.{implied}
use Rattle.lis_laws.proofs.Apart.{declarable_not_valued}
use Rattle.lis_laws.proofs.Counts.{all_from, rising_from_sorted}
use Rattle.lis_kept.specs.Sound.{IsSoundAxiom, FreeSlotsAreEmpty}
use Rattle.lis_kept.specs.Links.{AreHeld, is_linked}
use Rattle.lis_kept.specs.Telling.{AreUsed}
use Rattle.lis_kept.specs.Forgetting.{KeepsInUse}
use Rattle.lis_store.specs.Drafts.{draft_of}
use Rattle.lis_store.proofs.Admitted.{derived_own}
use Rattle.lis_store.specs.Stored.{AreClosed, TestsAreMet}
use Rattle.lis_open.specs.declared.words.Words.{Words}
use Rattle.lis_open.specs.declared.axioms.Axioms.{Axioms}
use Rattle.lis_open.specs.declared.files.Files.{Files}
use Rattle.lis_open.specs.ReadWords.{declared_words, kept_words}
use Rattle.lis_open.specs.ReadFiles.{described, found_words, own_numbers, HasSomeNumbers, AreNumbers, is_assignable_number, AreFiles}
use Rattle.lis_open.specs.ReadAll.{AreNoMarks, metadata_in, AreRead, AreSpelled, StoreTells}
use Rattle.lis_open.proofs.Descriptions.{Sides, sides, assignable_word, some_from, declared_flagged, IsNumbered, AreOf, file_with, tag_owned, left_numbered, entailed, word_below, leads_there, described_on, file_are, told_among, among_told, told_are}
use Rattle.lis_kept.proofs.Used.{WhyUsed, why_used}
use Rattle.lis_kept.proofs.Used.WhyUsed.{Flagged, Had, OnLeft, HeadOfLeft}
use Rattle.lis_words.specs.Words.{test_of, is_file_name}
use Rattle.lis_journal.specs.Staging.{are_whole}
use Rattle.lis_model.specs.State.{is_declarable, file_limit, blocks_taken, used_blocks, AxiomsAreFormed, FilesAreFormed}
use Rattle.lis_model.specs.Tests.{is_met}
use Rattle.lis_kept.specs.TestEdges.{test_by}
use Rattle.lis_kept.proofs.Known.{number_told, declared_set, declared_has_number, among_axiom, words_known, among_word}
use Rattle.lis_store.proofs.FileTests.{assigned_no_test, test_described}
use Rattle.lis_open.proofs.AxiomsRead.{test_word}
use Rattle.std.proofs.lemmas.List.{length-map}
use Rattle.std.proofs.lemmas.List.Folds.{list_all-map}
use Rattle.lis_journal.specs.Journal.{shape_of}
use Rattle.lis_kept.specs.Image.{image_shape}
use mathlib.Core.List.{map-map}
use Rattle.lis_graph.specs.Graph.{is_rising}
use Rattle.lis_graph.proofs.Sets.{sorted_nil, sorted_with_more}
use Rattle.lis_content.specs.Large.{content_blocks}
use Rattle.lis_content.proofs.Numbers.{below_if_taken}
use Rattle.lis_fields.proofs.Parts.{IsFileRecord, few_tags}
use Rattle.lis_laws.proofs.Members.{word_order, pair_order}
use Rattle.lis_laws.proofs.Steps.{taken_le}
use Rattle.lis_kept.proofs.Dropped.{record_in_form}
use Rattle.lis_store.proofs.FileBlocks.{told_counted}
use Rattle.lis_store.proofs.Marks.{distinct_pieces}
use Rattle.lis_store.proofs.Relates.{told_few}
use Rattle.std.specs.List.Sorted.{IsStrictlyIncreasing}
use Rattle.lis_store.proofs.Differing.{none_rising}
use Rattle.lis_open.proofs.Gathering.{described_rise}
use Rattle.lis_open.proofs.Once.{few_below, more_le, sum_within, rising_map}

-- ---- files by their slots
module _ (limits : Limits) (words : Words) (axioms : Axioms) (files : Files) (first : AreFiles limits words axioms files) where
  pub slot_numbers : (slot : ℕ) (rec : FileRecord) → rec_at files.catalog slot ≡ Some rec → HasSomeNumbers words axioms.taxonomy rec (numbers_at files.ext slot)
  slot_numbers slot rec is = subst (λ o. AreNumbers words axioms.taxonomy o (numbers_at files.ext slot)) is (first.taken.sets slot)

  -- they rise
  pub slot_rises : (slot : ℕ) → IsStrictlyIncreasing (numbers_at files.ext slot)
  slot_rises slot = by (rec_at files.catalog slot) (first.taken.sets slot)
    where
      by : (o : Option FileRecord) → AreNumbers words axioms.taxonomy o (numbers_at files.ext slot) → IsStrictlyIncreasing (numbers_at files.ext slot)
      by None none = subst IsStrictlyIncreasing (sym none) none_rising
      by (Some rec) are = described_rise axioms.taxonomy (own_numbers words.dict rec.tags (found_words words rec.name are.bytes)) (numbers_at files.ext slot) are.has.are

  pub given_word : (slot tag : ℕ) (rec : FileRecord) → rec_at files.catalog slot ≡ Some rec → Among rec.tags tag → (w : List ℕ) × (word_of words.dict tag ≡ Some w) × (is_assignable (declared_words words) w ≡ true)
  given_word slot tag rec is m = assignable_word words (word_of words.dict tag) (all_among (is_assignable_number words) rec.tags tag (first.taken.given slot rec is) m)

  pub slots_without : (slot : ℕ) → rec_at files.catalog slot ≡ None → (n : ℕ) → has files.ext n slot ≡ false
  slots_without slot none n = ap (λ ns. has_number ns n) (subst (λ o. AreNumbers words axioms.taxonomy o (numbers_at files.ext slot)) none (first.taken.sets slot))

-- ---- all parts
module _ (limits : Limits) (words : Words) (axioms : Axioms) (files : Files) (marks : List Bool) (read : AreRead limits words axioms files marks) where
  abbrev k : Metadata
  k = metadata_in limits words axioms files marks

  abbrev dict : IsDict words.dict
  dict = read.words_are.are.dict

  abbrev all_sides : (slot left right : ℕ) → slice_get axioms.slots.items slot ≡ Some (Pair left right) → Sides words left right
  all_sides = sides limits words axioms dict _ read.axioms_are

  pub each_used : AreUsed k
  each_used n some = implied (is_some (word_of words.dict n)) (is_used k n) (read.used n) some

  -- ---- the numbers of a slot
  module _ (slot : ℕ) (rec : FileRecord) (there : rec_at files.catalog slot ≡ Some rec) where
    abbrev of : HasSomeNumbers words axioms.taxonomy rec (numbers_at files.ext slot)
    of = slot_numbers limits words axioms files read.files_are slot rec there

    -- they are those of the words of its file
    pub slot_are : AreOf words (numbers_at files.ext slot) (entailed limits words axioms _ read.words_are read.axioms_are (own_words (declared_words words) (file_with words rec of.bytes)))
    slot_are =
        subst (λ ns. AreOf words ns (entailed limits words axioms _ read.words_are read.axioms_are (own_words (declared_words words) (file_with words rec of.bytes)))) (sym of.has.are)
        (file_are limits words axioms _ read.words_are read.axioms_are rec of.bytes (read.files_are.taken.given slot rec there) of.has.numbered)

    abbrev own : List ℕ
    own = own_numbers words.dict rec.tags (found_words words rec.name of.bytes)

    described_has : (n : ℕ) → Among (described axioms.taxonomy own) n → has files.ext n slot ≡ true
    described_has n m = has_from_among (numbers_at files.ext slot) n (subst (λ ns. Among ns n) (sym of.has.are) m)

    tag_had : (n : ℕ) → has_number rec.tags n ≡ true → has files.ext n slot ≡ true
    tag_had n tag =
        let m = among_from_number rec.tags n tag in
        let w = given_word limits words axioms files read.files_are slot n rec there m in
        described_has n (leads_there limits words axioms _ read.words_are read.axioms_are own n n (tag_owned limits words dict rec of.bytes n m) (zero, refl) (word_below limits words axioms _ read.words_are read.axioms_are n w.0 w.1))

    had_on : (p q : ℕ) → has files.ext p slot ≡ true → is_linked (kept_words limits words axioms.slots.items) p q ≡ true → has files.ext q slot ≡ true
    had_on p q h linked =
        let m = among_from_number (numbers_at files.ext slot) p h in
        let w = slot_are.word p m in
        described_has q (described_on limits words axioms _ read.words_are read.axioms_are own p q w.0 (subst (λ ns. Among ns p) of.has.are m) linked w.2)

  -- a number of a description has a file, and a word
  had_by : (n slot : ℕ) → has files.ext n slot ≡ true → (rec : FileRecord) × (rec_at files.catalog slot ≡ Some rec)
  had_by n slot h = (elim (rec_at files.catalog slot) as (λ o. rec_at files.catalog slot ≡ o → (rec : FileRecord) × (rec_at files.catalog slot ≡ Some rec)) [
    | None ↦ λ none. absurd (both_ways (has files.ext n slot) (slots_without limits words axioms files read.files_are slot none n) h)
    | Some rec ↦ λ there. (rec, there)
  ]) refl

  numbered : (n slot : ℕ) → has files.ext n slot ≡ true → (w : List ℕ) × IsNumbered words n w
  numbered n slot h =
      let of = had_by n slot h in
      let w = (slot_are slot of.0 of.1).word n (among_from_number (numbers_at files.ext slot) n h) in
      (w.0, w.2)

  pub named : (n slot : ℕ) → has files.ext n slot ≡ true → IsSome (word_of words.dict n)
  named n slot h = let w = numbered n slot h in some_from (word_of words.dict n) w.0 w.1.named

  pub none_past : (n slot : ℕ) → limits.props ≤ n → has files.ext n slot ≡ false
  none_past n slot past =
      false_from_ne_true (has files.ext n slot) (λ h. both_ways (is_some (word_of words.dict n)) (ap is_some (read.words_are.rest n past)) (named n slot h))

  -- the head of a valued word has a number, since the word is in use
  headed : (n : ℕ) (word : List ℕ) → word_of words.dict n ≡ Some word → is_valued word ≡ true → IsSome (number_of words.dict (head_bytes word))
  headed n word is valued = by (why_used k n (each_used n (some_from (word_of words.dict n) word is)))
    where
      bare : (o : Option (List ℕ)) → is_head_by o (Some word) ≡ true → is_valued word ≡ false
      bare None h = absurd cc
      bare (Some v) h = subst (λ w. is_valued w ≡ false) ((same_word_decides (head_bytes v) word).0 (and_parts (is_valued v) (same_word (head_bytes v) word) h).1) (head_not_valued v)

      by : WhyUsed k n → IsSome (number_of words.dict (head_bytes word))
      by (Flagged bit) = absurd (both_ways (is_valued word) (declarable_not_valued word (ap₂ (λ o b. is_prop (property_by o b)) (sym is) (sym bit) ∙ read.words_are.are.forms n)) valued)
      by (Had slot h) = let w = numbered n slot h in (subst (λ v. IsNumbered words n v) (same_Some w.0 word (sym w.1.named ∙ is)) w.1).headed valued
      by (OnLeft slot right at) = (left_numbered limits words dict axioms.slots.items all_sides slot n right word at is).headed valued
      by (HeadOfLeft slot left right at h) = absurd (both_ways (is_valued word) (bare (word_of words.dict left) (subst (λ o. is_head_by (word_of words.dict left) o ≡ true) is h)) valued)

  sound_axiom : (slot left right : ℕ) → slice_get axioms.slots.items slot ≡ Some (Pair left right) → IsSoundAxiom k slot left right
  sound_axiom slot left right is =
      let both = all_sides slot left right is in
      record {
        below = (read.axioms_are.good slot left right is).below;
        left = some_from (word_of words.dict left) both.from.word both.from.is;
        right = some_from (word_of words.dict right) both.to.word both.to.is;
        plain = λ word there. subst (λ w. is_plain_word w ≡ true) (same_Some both.to.word word (sym both.to.is ∙ there)) both.to.plain;
      }

  named_filed : (n slot : ℕ) → IsSome (rec_at files.catalog slot) → has files.ext n slot ≡ true → IsSome (word_of words.dict n)
  named_filed n slot file h = named n slot h

  rising : (slot : ℕ) → slot < length files.ext.sets → IsStrictlyIncreasing (numbers_at files.ext slot)
  rising slot lt = slot_rises limits words axioms files read.files_are slot

  module _ (range : IsTrue (are_in_range limits)) (clean : AreNoMarks limits marks) where
    pub metadata_sound : AreSound k
    metadata_sound = assumption (read.words_are.are.long ∙ read.words_are.props, headed, sound_axiom, named_filed, rising)

    pub metadata_held : AreHeld k axioms.taxonomy
    metadata_held = assumption metadata_sound

    pub metadata_free : FreeSlotsAreEmpty k
    metadata_free slot none n = slots_without limits words axioms files read.files_are slot none n

    pub metadata_closed : AreClosed k
    metadata_closed slot p q h linked = let of = had_by p slot h in had_on slot of.0 of.1 p q h linked

    pub metadata_in_use : KeepsInUse k
    metadata_in_use = record {
      used = each_used;
      tags = λ slot rec is n tag. tag_had slot rec is n tag;
      rights = λ slot left right is. let to = (all_sides slot left right is).to in declared_flagged limits words dict right to.word to.is to.declared;
    }

-- ---- tests in the descriptions that were read: a file has those that its size meets, and no others
module _ (limits : Limits) (words : Words) (axioms : Axioms) (files : Files) (marks : List Bool) (read : AreRead limits words axioms files marks) (range : IsTrue (are_in_range limits)) (clean : AreNoMarks limits marks) where
  abbrev metadata : Metadata
  metadata = metadata_in limits words axioms files marks

  metadata_are : AreSound metadata
  metadata_are = metadata_sound limits words axioms files marks read range clean

  module _ (slot : ℕ) (rec : FileRecord) (there : rec_at files.catalog slot ≡ Some rec) where
    abbrev numbers : HasSomeNumbers words axioms.taxonomy rec (numbers_at files.ext slot)
    numbers = slot_numbers limits words axioms files read.files_are slot rec there

    -- the slot's file, whatever its bytes are
    abbrev file : File
    file = file_with words rec numbers.bytes

    given : list_all (is_assignable (declared_words words)) file.assigned ≡ true
    given = all_from (is_assignable (declared_words words)) (words_told words.dict rec.tags) (λ w m.
        let found = among_told words.dict rec.tags w m in
        let word = given_word limits words axioms files read.files_are slot found.0 rec there found.1 in
        subst (λ v. is_assignable (declared_words words) v ≡ true) (same_Some word.0 w (sym word.1 ∙ found.2)) word.2)

    test_met : (n : ℕ) (w : List ℕ) → word_of words.dict n ≡ Some w → is_test w ≡ true → has files.ext n slot ≡ is_met (test_of w) rec.size
    test_met n w is test =
        number_told metadata metadata_are (numbers_at files.ext slot) n w is
        ∙ (ap (λ ws. has_word ws w) (told_are words read.words_are.are.dict _ _ (slot_are limits words axioms files marks read slot rec there)) ∙ (test_described metadata metadata_are (draft_of file) given (derived_own file.name file.bytes) n w is test ∙ ap (is_met (test_of w)) numbers.sized))

    -- no test is assigned to it
    untested : (n : ℕ) → has_number rec.tags n ≡ true → is_some (test_by (word_of words.dict n)) ≡ false
    untested n tag =
        let m = among_from_number rec.tags n tag in
        let word = given_word limits words axioms files read.files_are slot n rec there m in
        ap (λ o. is_some (test_by o)) word.1 ∙ assigned_no_test metadata metadata_are file.assigned given word.0 (told_among words.dict rec.tags n word.0 word.1 m)

    met_by_number : (n : ℕ) → is_some (test_by (word_of words.dict n)) ≡ true → has files.ext n slot ≡ is_met (test_by (word_of words.dict n)) rec.size
    met_by_number n test =
        let found = test_word (word_of words.dict n) test in
        test_met n found.word found.is found.test ∙ sym (ap (λ o. is_met (test_by o) rec.size) found.is)

  metadata_tests : TestsAreMet (metadata_in limits words axioms files marks)
  metadata_tests = record { given = untested; met = met_by_number }

  -- what was read is what a store may keep
  pub store_sound : (journal : Held) → shape_of journal ≡ image_shape limits → journal.is_broken ≡ false → journal.staged ≡ [] → journal.placed ≡ [] → IsSound (record { metadata = metadata_in limits words axioms files marks; journal = journal; is_broken = false })
  store_sound journal image unbroken staged placed =
      let few : length journal.staged ≤ 44 = omega (arith, ap length staged) in
      let whole : IsTrue (are_whole journal.staged) = ap are_whole staged in
      assumption (metadata_are, metadata_tests, metadata_free limits words axioms files marks read range clean, metadata_closed limits words axioms files marks read range clean, metadata_in_use limits words axioms files marks read range clean, few, whole)

-- ---- what was read and checked represents a state
-- ---- if pairs are only at indexes below an end, there are at most as many as such indexes
few_pairs : (dict : Dict) (end : ℕ) (xs : List AxiomSlot) (first : ℕ) → ((n left right : ℕ) → slice_get xs n ≡ Some (Pair left right) → first + n < end) → length (pairs_told dict xs) ≤ end - first
few_pairs dict end [] first below = omega arith
few_pairs dict end (FreeAxiom ∷ xs) first below =
    let rest = few_pairs dict end xs (first + 1) (λ n left right is. let lt = below (suc n) left right is in omega (arith, lt)) in
    omega (arith, rest)
few_pairs dict end (Pair p q ∷ xs) first below =
    let rest = few_pairs dict end xs (first + 1) (λ n left right is. let lt = below (suc n) left right is in omega (arith, lt)) in
    let here = below zero p q refl in
    omega (arith, rest, here, one (word_of dict p) (word_of dict q), length-append (pair_by (word_of dict p) (word_of dict q)) (pairs_told dict xs))
  where
    one : (a b : Option (List ℕ)) → length (pair_by a b) ≤ 1
    one None b = omega arith
    one (Some l) None = omega arith
    one (Some l) (Some r) = omega arith

module _ (limits : Limits) (words : Words) (axioms : Axioms) (files : Files) (marks : List Bool) (at : ℕ → List ℕ) (read : AreRead limits words axioms files marks) (spelled : AreSpelled limits at words axioms files) (range : IsTrue (are_in_range limits)) (clean : AreNoMarks limits marks) where
  abbrev held : Metadata
  held = metadata_in limits words axioms files marks

  abbrev s : State
  s = state_of held at

  held_sound : AreSound held
  held_sound = metadata_sound limits words axioms files marks read range clean

  free : FreeSlotsAreEmpty held
  free = metadata_free limits words axioms files marks read range clean

  used : AreUsed held
  used = each_used limits words axioms files marks read

  is_described : (f : Filed) → Contains files.catalog.entries f → words_told words.dict (numbers_at files.ext f.slot) ≡ description s (file_told limits words.dict at f)
  is_described f m = spelled.records.described f m

  -- ---- words
  declared_form : (w : List ℕ) → Among (declared_words words) w → is_declarable w ≡ true
  declared_form w m =
      let number = declared_has_number held held_sound w m in
      let bit = declared_flagged limits words read.words_are.are.dict number.0 w number.1 (has_word_from_among (declared_words words) w m) in
      ap₂ (λ o b. is_prop (property_by o b)) (sym number.1) (sym bit) ∙ read.words_are.are.forms number.0

  -- ---- axioms
  axioms_formed : AxiomsAreFormed s
  axioms_formed = record {
    rights = all_from (λ (pair : List ℕ × List ℕ). is_plain_word pair.1 && has_word s.declared pair.1) s.axioms (λ e m.
        let found = among_axiom held held_sound e m in
        let to = (sides limits words axioms read.words_are.are.dict _ read.axioms_are found.0 found.1 found.2 found.3).to in
        subst (λ w. (is_plain_word w && has_word (declared_words words) w) ≡ true) (same_Some to.word e.1 (sym to.is ∙ found.5))
        (and_from (is_plain_word to.word) (has_word (declared_words words) to.word) to.plain to.declared));
    lefts = all_from (λ (pair : List ℕ × List ℕ). is_nameable s.declared pair.0) s.axioms (λ e m.
        let found = among_axiom held held_sound e m in
        let from = (sides limits words axioms read.words_are.are.dict _ read.axioms_are found.0 found.1 found.2 found.3).from in
        subst (λ w. is_nameable (declared_words words) w ≡ true) (same_Some from.word e.0 (sym from.is ∙ found.4)) from.nameable);
    acyclic = read.axioms_are.acyclic;
  }

  few_axioms : length s.axioms ≤ limits.props
  few_axioms =
      let most = few_pairs words.dict limits.props axioms.slots.items 0 (λ n left right is. let lt = (read.axioms_are.good n left right is).below in omega (arith, lt)) in
      omega (arith, most, more_le pair_cmp [] (pairs_told words.dict axioms.slots.items))

  -- ---- files
  one_filed : (f g : Filed) → Among files.catalog.entries f → Among files.catalog.entries g → f.slot ≡ g.slot → f ≡ g
  one_filed f g in_f in_g same =
      let recs = same_Some f.rec g.rec (sym (filed_rec files.catalog held_sound.catalog f in_f) ∙ (ap (rec_at files.catalog) same ∙ filed_rec files.catalog held_sound.catalog g in_g)) in
      ap₂ (λ slot rec. record { slot = slot; rec = rec }) same recs

  -- all blocks of an entry's file
  abbrev blocks_of : Filed → List ℕ
  blocks_of f = blocks_told limits at f.rec

  one_owner : (f g : Filed) → Among files.catalog.entries f → Among files.catalog.entries g → (n : ℕ) → has_number (blocks_of f) n ≡ true → has_number (blocks_of g) n ≡ true → f ≡ g
  one_owner f g in_f in_g n has_f has_g =
      one_filed f g in_f in_g
      (spelled.records.blocks.one_use f.slot g.slot f.rec g.rec n (filed_rec files.catalog held_sound.catalog f in_f) (filed_rec files.catalog held_sound.catalog g in_g) has_f has_g)

  -- a test of all files, by their entries
  each_file : (test : File → Bool) → ((f : Filed) → Among files.catalog.entries f → test (file_told limits words.dict at f) ≡ true) → list_all test s.files ≡ true
  each_file test each =
      list_all-map test (file_told limits words.dict at) files.catalog.entries ∙ all_from (λ (f : Filed). test (file_told limits words.dict at f)) files.catalog.entries each

  entry_record : (f : Filed) → Among files.catalog.entries f → IsFileRecord limits f.rec
  entry_record f m = record_in_form limits words.dict limits.blocks f.rec (held_sound.records f.slot f.rec (filed_rec files.catalog held_sound.catalog f m))

  short_bytes : (f : Filed) → length (bytes_told limits at f.rec) ≤ f.rec.size
  short_bytes f = omega (arith, length-take f.rec.size (flat_map (λ b. at (data_start limits + b)) (content_blocks limits.version (data_start limits) f.rec.blocks f.rec.size at)))

  files_formed : FilesAreFormed s
  files_formed = record {
    names = each_file (λ (file : File). is_file_name file.name) (λ f m. (entry_record f m).name);
    assigned_sets = each_file (λ (file : File). is_rising word_cmp file.assigned) (λ f m.
        rising_from_sorted word_cmp word_order (words_told words.dict f.rec.tags) (sorted_set_of (flat_map (λ n. option_to_list (word_of words.dict n)) f.rec.tags)));
    assigned = each_file (λ (file : File). list_all (is_assignable s.declared) file.assigned) (λ f m.
        all_from (is_assignable s.declared) (words_told words.dict f.rec.tags) (λ w in_w.
        let found = among_word held held_sound f.rec.tags w in_w in
        let given = given_word limits words axioms files read.files_are f.slot found.0 f.rec (filed_rec files.catalog held_sound.catalog f m) (among_from_number f.rec.tags found.0 found.2) in
        subst (λ v. is_assignable (declared_words words) v ≡ true) (same_Some given.0 w (sym given.1 ∙ found.1)) given.2));
    few_assigned = each_file (λ (file : File). nat_le (length file.assigned) 16) (λ f m.
        le-leb (length (words_told words.dict f.rec.tags)) 16 (let few = few_tags limits.version f.rec.tags (entry_record f m).tags in omega (arith, few, told_few words.dict f.rec.tags)));
    few_words = each_file (λ (file : File). nat_le (length (description s file)) 128) (λ f m.
        le-leb (length (description s (file_told limits words.dict at f))) 128
        (let is = ap (λ ws. length ws) (is_described f (contains_from_among files.catalog.entries f m)) in
        omega (arith, is, told_few words.dict (numbers_at files.ext f.slot), read.files_are.taken.short f.slot)));
    short = each_file (λ (file : File). nat_le (length file.bytes) (file_limit limits)) (λ f m.
        le-leb (length (bytes_told limits at f.rec)) (file_limit limits)
        (let small = (entry_record f m).small in omega (arith, short_bytes f, small)));
  }

  -- ---- blocks
  block_taken : (f : Filed) (n : ℕ) → Among files.catalog.entries f → has_number (blocks_of f) n ≡ true → is_taken files.map n ≡ true
  block_taken f n in_f has_it = spelled.records.blocks.taken f.slot f.rec n (filed_rec files.catalog held_sound.catalog f in_f) has_it

  block_below : (f : Filed) (n : ℕ) → Among files.catalog.entries f → has_number (blocks_of f) n ≡ true → n < limits.blocks
  block_below f n in_f has_it = let below = below_if_taken files.map n (block_taken f n in_f has_it) in omega (arith, below, read.files_are.taken.blocks)

  abbrev all_used : List ℕ
  all_used = flat_map blocks_of files.catalog.entries

  used_once : are_distinct all_used ≡ true
  used_once =
      distinct_pieces (λ (f : Filed). f.slot) blocks_of files.catalog.entries held_sound.catalog.apart
      (λ f m. spelled.records.blocks.distinct f.slot f.rec (filed_rec files.catalog held_sound.catalog f m))
      (λ f g n here there in_f in_g. one_owner f g here there n (has_from_among (blocks_of f) n in_f) (has_from_among (blocks_of g) n in_g))

  few_used : used_blocks s ≤ limits.blocks
  few_used =
      let takes : File → ℕ = λ file. blocks_taken limits.version (length file.bytes) in
      let within = sum_within (λ (f : Filed). takes (file_told limits words.dict at f)) blocks_of files.catalog.entries (λ f m.
      let count = told_counted held held_sound f m at in
      let few = taken_le limits.version (length (bytes_told limits at f.rec)) f.rec.size (short_bytes f) in
      omega (arith, count, few)) in
      let few = few_below all_used limits.blocks used_once (λ n m.
      let found = among_flat_map blocks_of files.catalog.entries n m in
      block_below found.0 n found.1 (has_from_among (blocks_of found.0) n found.2)) in
      let same = ap sum (map-map takes (file_told limits words.dict at) files.catalog.entries) in
      omega (arith, within, few, same)

  -- ---- the state
  formed : WellFormed s
  formed = record {
    limits = range;
    declared_set = declared_set held held_sound;
    axiom_set = rising_from_sorted pair_cmp pair_order s.axioms (sorted_with_more pair_cmp pair_order [] (pairs_told words.dict axioms.slots.items) (sorted_nil pair_cmp pair_order));
    file_set = sym (rising_map word_cmp file_cmp (λ (f : Filed). f.rec.name) (file_told limits words.dict at) files.catalog.entries (λ a b. refl)) ∙ held_sound.catalog.rising;
    declared = all_from is_declarable s.declared declared_form;
    axioms = axioms_formed;
    files = files_formed;
    few_files = omega (arith, length-map files.catalog.entries (file_told limits words.dict at), held_sound.catalog.few, held_sound.slots);
    few_known = omega (arith, ap (λ ws. length ws) (words_known held held_sound free at used is_described), length-map words.dict.entries (λ (e : List ℕ × ℕ). e.0), held_sound.dict.few, held_sound.numbers);
    few_axioms = few_axioms;
    few_blocks = few_used;
  }

  is_written : IsWritten held at
  is_written = search (rules)

  tells : SpellsSuper limits (at 0) → Tells held at s
  tells begins = record {
    super = begins;
    state = refl;
    formed = formed;
    used = used;
    described = is_described;
    taken = λ n lt taken.
        let found = spelled.records.blocks.in_use n taken in
        let f : Filed = record { slot = found.0; rec = found.1 } in
        record { file = f; kept = contains_from_among files.catalog.entries f (filed_at_slot files.catalog held_sound.catalog found.0 found.1 found.2); has = found.3 };
    given = λ f m n has_it.
        let in_f = among_from_contains files.catalog.entries f m in
        (block_below f n in_f has_it, block_taken f n in_f has_it);
    indexed = λ f m. spelled.records.blocks.indexed f.slot f.rec (filed_rec files.catalog held_sound.catalog f (among_from_contains files.catalog.entries f m));
    apart = λ f m. spelled.records.blocks.distinct f.slot f.rec (filed_rec files.catalog held_sound.catalog f (among_from_contains files.catalog.entries f m));
    one_use = λ f g in_f in_g. one_owner f g (among_from_contains files.catalog.entries f in_f) (among_from_contains files.catalog.entries g in_g);
  }

  pub store_told : (store : Stored) → store.metadata ≡ held → SpellsSuper limits (at 0) → StoreTells at store
  store_told store is begins = record {
    state = s;
    tells = subst (λ (p : Metadata). Tells p at s) (sym is) (tells begins);
    written = subst (λ (p : Metadata). IsWritten p at) (sym is) is_written;
  }
