-- What sound metadata spells is in the ranges of its layouts.
use Rattle.std.proofs.Common.{◌^◌, unwrap_or, arith}
use Rattle.lis_kept.proofs.Common.{rules, data_start, ◌≡◌, ◌⊎◌, inl, inr, ℕ, ◌-◌, ◌<◌, ◌≤◌, ◌&&◌, nat_lt, Bool, true, false, List, [], length, Option, Some, None, is_some, slice_get, IsSome, refl, sym, ap, ◌∙◌, list_all, and_parts, lt-ltb, cases_lt, get_or_from_slice_get, Dict, word_of, number_from_word, number_below, Catalog, IsCatalog, rec_at, Ext, has, Taxonomy, FileRecord, AxiomSlot, FreeAxiom, Pair, and_from, both_ways, false_from_ne_true, get_or_past, Limits}
use Rattle.std.specs.List.{All}
use Rattle.std.specs.List.Sorted.{IsStrictlyIncreasing}
use Rattle.std.proofs.lemmas.Option.{unwrap_or-slice_get}
use Rattle.lis_ext.specs.Ext.{set_of}
use Rattle.lis_ext.proofs.Counted.{each_below}
use Rattle.lis_fields.specs.Layouts.{is_axiom, is_file, is_record}
use Rattle.lis_kept.specs.Metadata.{Metadata, axiom_at, file_by, record_at}
use Rattle.lis_kept.specs.Sound.{AreSound, IsSoundAxiom, is_sound_record, FreeSlotsAreEmpty}
use Rattle.lis_kept.specs.Links.{AreHeld}
use Rattle.lis_kept.proofs.InArea.{few_properties}
use Rattle.lis_kept.proofs.Filing.{among_from_number}
use Rattle.lis_model.specs.Sets.{has_number}

pub some_word : (o : Option (List ℕ)) → IsSome o → (w : List ℕ) × (o ≡ Some w)
some_word o h = search (rules)

-- ---- what makes a record sound
pub record_parts : (limits : Limits) (dict : Dict) (blocks : ℕ) (rec : FileRecord) → is_sound_record limits dict blocks rec ≡ true
    → (is_record limits rec ≡ true) × (list_all (λ n. is_some (word_of dict n)) rec.tags ≡ true) × (list_all (λ n. nat_lt n blocks) rec.blocks ≡ true)
record_parts limits dict blocks rec sound =
    let most = and_parts (is_record limits rec && list_all (λ n. is_some (word_of dict n)) rec.tags) (list_all (λ n. nat_lt n blocks) rec.blocks) sound in
    let both = and_parts (is_record limits rec) (list_all (λ n. is_some (word_of dict n)) rec.tags) most.0 in
    (both.0, both.1, most.1)

-- it stays so with another dictionary in which its words have numbers
pub record_stays : (limits : Limits) (d e : Dict) (blocks : ℕ) (rec : FileRecord) → is_sound_record limits d blocks rec ≡ true → list_all (λ n. is_some (word_of e n)) rec.tags ≡ true
    → is_sound_record limits e blocks rec ≡ true
record_stays limits d e blocks rec sound named =
    let parts = record_parts limits d blocks rec sound in
    and_from (is_record limits rec && list_all (λ n. is_some (word_of e n)) rec.tags) (list_all (λ n. nat_lt n blocks) rec.blocks)
    (and_from (is_record limits rec) (list_all (λ n. is_some (word_of e n)) rec.tags) parts.0 named) parts.2

module _ (k : Metadata) (sound : AreSound k) where
  -- what has a word is below the limit
  pub named_below : (n : ℕ) → IsSome (word_of k.dict n) → n < k.limits.props
  named_below n some =
      let found = some_word (word_of k.dict n) some in
      let below = number_below k.dict sound.dict found.0 n (number_from_word k.dict sound.dict found.0 n found.1) in
      omega (arith, below, sound.numbers)

  pub axioms_formed : (n : ℕ) → is_axiom (axiom_at k.axioms n) ≡ true
  axioms_formed n = by (slice_get k.axioms n) refl
    where
      small : (m : ℕ) → IsSome (word_of k.dict m) → nat_lt m (2 ^ 32 - 1) ≡ true
      small m some = lt-ltb m (2 ^ 32 - 1) (let few = few_properties k.limits sound.range in let lt = named_below m some in omega (arith, few, lt))

      slot : (a : AxiomSlot) → slice_get k.axioms n ≡ Some a → is_axiom a ≡ true
      slot FreeAxiom is = refl
      slot (Pair left right) is =
          let one = sound.axioms n left right is in
          and_from (nat_lt left (2 ^ 32 - 1)) (nat_lt right (2 ^ 32 - 1)) (small left one.left) (small right one.right)

      by : (o : Option AxiomSlot) → slice_get k.axioms n ≡ o → is_axiom (axiom_at k.axioms n) ≡ true
      by None is = ap is_axiom (sym (unwrap_or-slice_get k.axioms n FreeAxiom) ∙ ap (λ o. unwrap_or o FreeAxiom) is)
      by (Some a) is = ap is_axiom (get_or_from_slice_get k.axioms n a FreeAxiom is) ∙ slot a is

  pub records_formed : (n : ℕ) → is_file k.limits (record_at k.catalog n) ≡ true
  records_formed n = by (rec_at k.catalog n) refl
    where
      by : (o : Option FileRecord) → rec_at k.catalog n ≡ o → is_file k.limits (file_by o) ≡ true
      by None is = refl
      by (Some rec) is = (record_parts k.limits k.dict k.limits.blocks rec (sound.records n rec is)).0

  -- if free slots are empty, each number of any slot has a word
  pub named_all : FreeSlotsAreEmpty k → (n slot : ℕ) → has k.ext n slot ≡ true → IsSome (word_of k.dict n)
  named_all free n slot has_it = by (rec_at k.catalog slot) refl
    where
      by : (o : Option FileRecord) → rec_at k.catalog slot ≡ o → IsSome (word_of k.dict n)
      by None none = absurd (both_ways (has k.ext n slot) (free slot none n) has_it)
      by (Some rec) there = sound.named n slot (ap is_some there) has_it

-- the same, over what memory kept
pub named_in : (k p : Metadata) → p ≡ k → AreSound p → (n : ℕ) → IsSome (word_of k.dict n) → n < p.limits.props
named_in k p is sound n some = named_below p sound n (ap (λ (x : Metadata). is_some (word_of x.dict n)) is ∙ some)

-- ---- rows
-- what rows say of each set: its numbers are below the limit
abbrev pub AreWithin : Ext → Type 0
AreWithin e = (slot : ℕ) → slot < length e.sets → All (λ p. p < e.props) (set_of e slot)

-- so no slot has a number past the last one
pub had_within : (e : Ext) → AreWithin e → (n slot : ℕ) → has e n slot ≡ true → n < e.props
had_within e within n slot has_it = by (cases_lt slot (length e.sets))
  where
    by : (slot < length e.sets) ⊎ (length e.sets ≤ slot) → n < e.props
    by (inl lt) = each_below e.props (set_of e slot) (within slot lt) n (among_from_number (set_of e slot) n has_it)
    by (inr past) = let none : has e n slot ≡ false = ap (λ ns. has_number ns n) (get_or_past e.sets slot [] past) in absurd (both_ways (has e n slot) none has_it)

pub none_past : (e : Ext) → AreWithin e → (n slot : ℕ) → e.props ≤ n → has e n slot ≡ false
none_past e within n slot past = false_from_ne_true (has e n slot) (λ has_it. let below = had_within e within n slot has_it in omega (arith, below, past))

-- ---- metadata whose words, axioms and the like stay
-- files, blocks, numbers and marks that may go with the same words and axioms
pub record FilesHold (p : Metadata) (catalog : Catalog) (taken : List Bool) (ext : Ext) (marks : List Bool) : Type 0 where
  pub slots : catalog.files ≡ p.catalog.files
  pub catalog_is : IsCatalog catalog
  pub records : (slot : ℕ) (rec : FileRecord) → rec_at catalog slot ≡ Some rec → is_sound_record p.limits p.dict p.limits.blocks rec ≡ true
  pub blocks : length taken ≡ length p.taken
  pub rows : ext.props ≡ p.ext.props
  pub files : length ext.sets ≡ length p.ext.sets
  pub rising : (slot : ℕ) → slot < length ext.sets → IsStrictlyIncreasing (set_of ext slot)
  pub named : (n slot : ℕ) → IsSome (rec_at catalog slot) → has ext n slot ≡ true → IsSome (word_of p.dict n)
  pub settled : ext.marks ≡ []
  pub as_many : length marks ≡ length p.marks

pub held_files : (p : Metadata) (t : Taxonomy) (catalog : Catalog) (taken : List Bool) (ext : Ext) (marks : List Bool) → AreHeld p t → FilesHold p catalog taken ext marks
    → AreHeld (record p { catalog = catalog; taken = taken; ext = ext; marks = marks }) t
held_files p t catalog taken ext marks held hold =
    assumption (axioms, hold.slots ∙ held.sound.slots, hold.blocks ∙ held.sound.blocks, hold.rows ∙ held.sound.rows, hold.files ∙ held.sound.files, long)
  where
    axioms : (slot left right : ℕ) → slice_get p.axioms slot ≡ Some (Pair left right) → IsSoundAxiom (record p { catalog = catalog; taken = taken; ext = ext; marks = marks }) slot left right
    axioms slot left right is = assumption (held.sound.axioms slot left right is)

    long : data_start p.limits ≤ length marks
    long = omega (arith, hold.as_many, held.sound.marks)

-- other marks, as many
pub held_marks : (k : Metadata) (t : Taxonomy) (marks : List Bool) → AreHeld k t → length marks ≡ length k.marks → AreHeld (record k { marks = marks }) t
held_marks k t marks held same = search (rules, held_files)
