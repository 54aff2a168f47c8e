-- A file that is removed.
use Rattle.std.proofs.Common.{arith}
use Rattle.lis_kept.proofs.Common.{rules, ◌≡◌, ◌⊎◌, inl, inr, Option, refl, sym, ap, ◌∙◌, subst, ℕ, ◌<◌, ◌==◌, if◌then◌else◌, ◌&&◌, not, Bool, true, List, length, set, Some, None, is_some, IsSome, length-set, cases_eq, eqb-true, ne_eqb, and_parts, same_Some, Among, are_distinct, Catalog, Filed, IsCatalog, rec_at, slot_of, without_slot, FileRecord, slot_blocks, Dict, word_of, Taxonomy, same_word, same_word_decides, has, both_ways, same_tests, Limits}
use Rattle.std.proofs.lemmas.Bool.{eq-eqb}
use Rattle.lis_catalog.proofs.Laws.{rec_at-without_slot, slot_is_below, slot_of-rec_at}
use Rattle.lis_model.specs.Sets.{fit}
use Rattle.lis_fields.proofs.Parts.{IsFileRecord, record_tests}
use Rattle.lis_model.specs.Changes.{file_removed}
use Rattle.lis_laws.proofs.Locals.{filter_same}
use Rattle.lis_kept.specs.Metadata.{Metadata}
use Rattle.lis_kept.specs.Areas.{Area, slots_of, block_of, spelled}
use Rattle.lis_kept.specs.Areas.Area.{Files}
use Rattle.lis_kept.specs.Telling.{state_of}
use Rattle.lis_kept.specs.Sound.{is_sound_record, AreSound}
use Rattle.lis_kept.specs.Links.{AreHeld}
use Rattle.lis_kept.specs.Changes.{Marks, Drops}
use Rattle.lis_kept.proofs.InArea.{among_slots}
use Rattle.lis_kept.proofs.Formed.{held_files, record_parts}
use Rattle.lis_kept.proofs.Marking.{block_marked}
use Rattle.lis_kept.proofs.Filing.{filter-map, catalog_without, filed_rec, filed_slot}
use Rattle.lis_fields.specs.Layouts.{number_width}

-- a sound record is in the ranges of its layout
pub record_in_form : (limits : Limits) (dict : Dict) (blocks : ℕ) (rec : FileRecord) → is_sound_record limits dict blocks rec ≡ true → IsFileRecord limits rec
record_in_form limits dict blocks rec sound =
    record_tests limits rec (record_parts limits dict blocks rec sound).0

-- the blocks of a file are distinct
pub blocks_apart : (k : Metadata) → AreSound k → (slot : ℕ) (rec : FileRecord) → rec_at k.catalog slot ≡ Some rec → are_distinct rec.blocks ≡ true
blocks_apart k sound slot rec there =
    let form = record_in_form k.limits k.dict k.limits.blocks rec (sound.records slot rec there) in
    (and_parts ((length rec.blocks == slot_blocks k.limits.version rec.size) && fit (number_width k.limits.version) rec.blocks) (are_distinct rec.blocks) form.blocks).1

pub file_slot_below : (k : Metadata) → AreSound k → (slot : ℕ) (rec : FileRecord) → rec_at k.catalog slot ≡ Some rec → slot < k.limits.files
file_slot_below k sound slot rec there = omega (arith, slot_is_below k.catalog slot sound.catalog (ap is_some there), sound.slots)

-- ---- one slot of the catalog
-- The records of all other slots stay, and this one's is sound. The block of the slot is marked.
pub record OneFile (p : Metadata) (slot : ℕ) (c : Catalog) (marks : List Bool) : Type 0 where
  pub below : slot < p.limits.files
  pub files : c.files ≡ p.catalog.files
  pub catalog : IsCatalog c
  pub others : (n : ℕ) → (n ≡ slot → ⊥) → rec_at c n ≡ rec_at p.catalog n
  pub sound : (rec : FileRecord) → rec_at c slot ≡ Some rec → is_sound_record p.limits p.dict p.limits.blocks rec ≡ true
  pub named : IsSome (rec_at c slot) → (n : ℕ) → has p.ext n slot ≡ true → IsSome (word_of p.dict n)
  pub marked : marks ≡ set p.marks (block_of p.limits Files slot) true

module _ (p : Metadata) (t : Taxonomy) (held : AreHeld p t) {slot : ℕ} {c : Catalog} {marks : List Bool} (one : OneFile p slot c marks) where
  abbrev pub refiled : Metadata
  refiled = record p { catalog = c; marks = marks }

  pub held_then : AreHeld refiled t
  held_then = held_files p t c p.taken p.ext marks held (record {
    slots = one.files;
    catalog_is = one.catalog;
    records = λ n rec. records_at n rec (cases_eq n slot);
    blocks = refl;
    rows = refl;
    files = refl;
    named = λ n s. named_at n s (cases_eq s slot);
    rising = held.sound.rising;
    settled = held.sound.settled;
    as_many = ap length one.marked ∙ length-set p.marks (block_of p.limits Files slot) true;
  })
    where
      records_at : (n : ℕ) (rec : FileRecord) → (n ≡ slot) ⊎ (n ≡ slot → ⊥) → rec_at c n ≡ Some rec → is_sound_record p.limits p.dict p.limits.blocks rec ≡ true
      records_at n rec (inl same) is = one.sound rec (ap (rec_at c) (sym same) ∙ is)
      records_at n rec (inr differ) is = held.sound.records n rec (sym (one.others n differ) ∙ is)

      named_at : (n s : ℕ) → (s ≡ slot) ⊎ (s ≡ slot → ⊥) → IsSome (rec_at c s) → has p.ext n s ≡ true → IsSome (word_of p.dict n)
      named_at n s (inl same) file has_it = one.named (ap (λ i. is_some (rec_at c i)) (sym same) ∙ file) n (ap (has p.ext n) (sym same) ∙ has_it)
      named_at n s (inr differ) file has_it = held.sound.named n s (ap is_some (sym (one.others s differ)) ∙ file) has_it

  spelled_before : (area : Area) (n : ℕ) → n < (slots_of p.limits area).count → (block_of p.limits area n ≡ block_of p.limits Files slot → ⊥) → spelled refiled area n ≡ spelled p area n
  spelled_before area n lt apart = search (rules)

  pub marks_then : Marks 1 p refiled
  marks_then =
      block_marked p refiled (block_of p.limits Files slot) refl one.marked
      (omega (arith, (among_slots p.limits held.sound.range Files slot one.below).1, held.sound.marks)) spelled_before

-- ---- a file that is removed, over what memory kept
module _ (k p : Metadata) (t : Taxonomy) (slot : ℕ) (rec : FileRecord) (c : Catalog) (marks : List Bool) (is : p ≡ k) (held : AreHeld p t) (there : rec_at p.catalog slot ≡ Some rec)
    (gone : c ≡ without_slot p.catalog slot) (marked : marks ≡ set p.marks (block_of p.limits Files slot) true) where
  abbrev left : Metadata
  left = record p { catalog = c; marks = marks }

  rec_then : (n : ℕ) → rec_at c n ≡ (if n == slot then None else rec_at p.catalog n)
  rec_then n = ap (λ (x : Catalog). rec_at x n) gone ∙ rec_at-without_slot p.catalog slot n

  none_here : rec_at c slot ≡ None
  none_here = rec_then slot ∙ ap (λ b. if b then None else rec_at p.catalog slot) (eq-eqb slot slot refl)

  one : OneFile p slot c marks
  one = record {
    below = file_slot_below p held.sound slot rec there;
    files = ap (λ (x : Catalog). x.files) gone;
    catalog = subst (λ (x : Catalog). IsCatalog x) (sym gone) (catalog_without p.catalog slot held.sound.catalog);
    others = λ n differ. rec_then n ∙ ap (λ b. if b then None else rec_at p.catalog n) (ne_eqb n slot differ);
    sound = λ r is_r. absurd (let both : ◌≡◌ {A = Option FileRecord} None (Some r) = sym none_here ∙ is_r in cc);
    named = λ some. absurd (both_ways (is_some (rec_at c slot)) (ap is_some none_here) some);
    marked = marked;
  }

  -- the slot's file is the file of its name
  told_apart : (f : Filed) → Among p.catalog.entries f → not (same_word f.rec.name rec.name) ≡ not (f.slot == slot)
  told_apart f m = ap not (same_tests (same_word f.rec.name rec.name) (f.slot == slot) to from)
    where
      to : same_word f.rec.name rec.name ≡ true → (f.slot == slot) ≡ true
      to same =
          let named : f.rec.name ≡ rec.name = (same_word_decides f.rec.name rec.name).0 same in
          let one = filed_slot p.catalog held.sound.catalog f m in
          let two = slot_of-rec_at p.catalog slot rec held.sound.catalog there in
          eq-eqb f.slot slot (same_Some f.slot slot (sym one ∙ (ap (slot_of p.catalog) named ∙ two)))

      from : (f.slot == slot) ≡ true → same_word f.rec.name rec.name ≡ true
      from same =
          let here = filed_rec p.catalog held.sound.catalog f m in
          let is : f.rec ≡ rec = same_Some f.rec rec (sym here ∙ (ap (rec_at p.catalog) (eqb-true f.slot slot same) ∙ there)) in
          (same_word_decides f.rec.name rec.name).1 (ap (λ (r : FileRecord). r.name) is)

  state_dropped : (at : ℕ → List ℕ) → state_of left at ≡ file_removed (state_of p at) rec.name
  state_dropped at = search (rules, filter-map, filter_same, told_apart)

  pub drops : AreHeld left t × Drops slot rec k left
  drops = (
    held_then p t held one,
    subst (λ (x : Metadata). Drops slot rec x left) is (record {
      there = there;
      metadata = cc (gone, marked);
      marks = marks_then p t held one;
      state = state_dropped;
    }),
  )
