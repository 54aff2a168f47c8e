-- A record that is put into a free slot.
use Rattle.std.proofs.Common.{eqb, arith}
use Rattle.lis_kept.proofs.Common.{rules, ◌≡◌, refl, sym, ap, ◌∙◌, subst, inl, ℕ, ◌<◌, ◌==◌, if◌then◌else◌, not, Bool, true, false, List, [], ◌∷◌, length, set, Some, None, IsSome, and_parts, ne_eqb, eqb-true, ltb-true, length-map, same_Some, Among, among_from_any, are_distinct, Catalog, Filed, IsCatalog, rec_at, slot_of, Dict, word_of, has, FileRecord, Taxonomy, File, all_among, and_from, both_ways, Limits}
use Rattle.std.specs.List.{AllByRecursion, IsDistinct}
use Rattle.std.proofs.lemmas.Bool.{or_parts, eq-eqb}
use Rattle.std.proofs.lemmas.Map.Steps.{length-le_from_distinct_below}
use Rattle.lis_content.proofs.Numbers.{not_true}
use Rattle.lis_catalog.specs.Catalog.{filed_cmp, slots, with_filed}
use Rattle.lis_catalog.proofs.Laws.{rec_at-with_filed}
use Rattle.lis_words.specs.Words.{is_file_name}
use Rattle.lis_model.specs.State.{file_cmp}
use Rattle.lis_kept.specs.Metadata.{Metadata}
use Rattle.lis_kept.specs.Areas.{block_of}
use Rattle.lis_kept.specs.Areas.Area.{Files as FileArea}
use Rattle.lis_kept.specs.Telling.{state_of, file_told}
use Rattle.lis_kept.specs.Sound.{is_sound_record}
use Rattle.lis_kept.specs.Links.{AreHeld}
use Rattle.lis_kept.specs.Changes.{Files}
use Rattle.lis_kept.proofs.Filing.{number_from_among, map_insert_key, slot_is_free, catalog_then}
use Rattle.lis_kept.proofs.Dropped.{OneFile, held_then, marks_then, record_in_form}
use Rattle.lis_model.specs.Sets.{has_number}

-- ---- a sound record
pub record_named : (limits : Limits) (dict : Dict) (blocks : ℕ) (rec : FileRecord) → is_sound_record limits dict blocks rec ≡ true → is_file_name rec.name ≡ true
record_named limits dict blocks rec sound = (record_in_form limits dict blocks rec sound).name

-- ---- a slot is free if there are fewer files than slots
unlike_all : (n : ℕ) (ns : List ℕ) → has_number ns n ≡ false → AllByRecursion (λ m. eqb n m ≡ false) ns
unlike_all n [] none = tt
unlike_all n (m ∷ ns) none =
    let parts = or_parts (m == n) (has_number ns n) none in
    (ne_eqb n m (λ e. both_ways (has_number (m ∷ ns) n) none (number_from_among (m ∷ ns) n (inl (sym e)))), unlike_all n ns parts.1)

pub each_once : (ns : List ℕ) → are_distinct ns ≡ true → IsDistinct eqb ns
unfolding IsDistinct
each_once [] apart = tt
each_once (n ∷ ns) apart =
    let parts = and_parts (not (has_number ns n)) (are_distinct ns) apart in
    (unlike_all n ns (not_true (has_number ns n) parts.0), each_once ns parts.1)

pub room_for_file : (c : Catalog) → IsCatalog c → (slot : ℕ) (rec : FileRecord) → slot_of c rec.name ≡ None → slot < c.files → rec_at c slot ≡ None → length c.entries < c.files
room_for_file c is slot rec absent below free =
    let ns : List ℕ = slot ∷ slots c in
    let apart : are_distinct ns ≡ true = and_from (not (has_number (slots c) slot)) (are_distinct (slots c)) (ap not (slot_is_free c is slot rec absent free)) is.apart in
    let few = length-le_from_distinct_below ns c.files (each_once ns apart) (λ q among.
    let found = among_from_any (eqb q) ns among in
    lower q (subst (λ n. Among ns n) (sym (eqb-true q found.0 found.2)) found.1)) in
    omega (arith, few, length-map c.entries (λ (f : Filed). f.slot))
  where
    lower : (q : ℕ) → Among (slot ∷ slots c) q → q < c.files
    lower q h1 = search (rules, ltb-true, all_among)

-- ---- the record in its slot
-- what a record needs that is put into a free slot
pub record MayFile (p : Metadata) (slot : ℕ) (rec : FileRecord) : Type 0 where
  pub below : slot < p.limits.files
  pub free : rec_at p.catalog slot ≡ None
  pub absent : slot_of p.catalog rec.name ≡ None
  pub sound : is_sound_record p.limits p.dict p.limits.blocks rec ≡ true
  pub described : (n : ℕ) → has p.ext n slot ≡ true → IsSome (word_of p.dict n)

-- over what memory kept
module _ (k p : Metadata) (t : Taxonomy) (slot : ℕ) (rec : FileRecord) (c : Catalog) (marks : List Bool) (is : p ≡ k) (held : AreHeld p t) (may_kept : MayFile k slot rec)
    (put : c ≡ with_filed p.catalog slot rec) (marked : marks ≡ set p.marks (block_of p.limits FileArea slot) true) where
  abbrev filed : Metadata
  filed = record p { catalog = c; marks = marks }

  may : MayFile p slot rec
  may = subst (λ (x : Metadata). MayFile x slot rec) (sym is) may_kept

  below_files : slot < p.catalog.files
  below_files = omega (arith, may.below, held.sound.slots)

  rec_then : (n : ℕ) → rec_at c n ≡ (if slot == n then Some rec else rec_at p.catalog n)
  rec_then n = ap (λ (x : Catalog). rec_at x n) put ∙ rec_at-with_filed p.catalog slot rec n may.absent may.free

  rec_here : rec_at c slot ≡ Some rec
  rec_here = rec_then slot ∙ ap (λ b. if b then Some rec else rec_at p.catalog slot) (eq-eqb slot slot refl)

  one : OneFile p slot c marks
  one = record {
    below = may.below;
    files = ap (λ (x : Catalog). x.files) put;
    catalog = subst (λ (x : Catalog). IsCatalog x) (sym put)
        (catalog_then p.catalog held.sound.catalog slot rec may.absent (record_named p.limits p.dict p.limits.blocks rec may.sound) below_files may.free
        (room_for_file p.catalog held.sound.catalog slot rec may.absent below_files may.free));
    others = λ n differ. rec_then n ∙ ap (λ b. if b then Some rec else rec_at p.catalog n) (ne_eqb slot n (λ e. differ (sym e)));
    sound = λ r is_r. subst (λ (x : FileRecord). is_sound_record p.limits p.dict p.limits.blocks x ≡ true) (same_Some rec r (sym rec_here ∙ is_r)) may.sound;
    named = λ some. may.described;
    marked = marked;
  }

  pub files : AreHeld filed t × Files slot rec k filed
  files = (
    held_then p t held one,
    subst (λ (x : Metadata). Files slot rec x filed) is (record {
      below = may.below;
      free = may.free;
      metadata = cc (put, marked);
      marks = marks_then p t held one;
      state = λ at.
          ap (λ (x : Catalog). state_of (record p { catalog = x; marks = marks }) at) put
          ∙ ap (λ (fs : List File). record (state_of p at) { files = fs })
          (map_insert_key (file_told p.limits p.dict at) filed_cmp file_cmp (λ x y. refl) p.catalog.entries (record { slot = slot; rec = rec }));
    }),
  )
