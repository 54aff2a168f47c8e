-- What the parts of a catalog keep, with one more file and with one fewer.
use Rattle.std.proofs.Common.{◌≡◌, ◌⊎◌, ℕ, suc, ◌+◌, ◌<◌, ◌≤◌, Bool, true, false, cond, if◌then◌else◌, ◌==◌, nat_lt, List, [], ◌∷◌, length, get_or, set, filter, map, take, drop, Option, Some, None, Result, Ok, Err, MatchResult, is_some, is_none, unwrap_or, IsTrue, refl, sym, ap, subst, ◌∙◌, inl, inr, arith, eq-eqb, length-set, get_or-set_same, get_or-set_other}
use Rattle.std.specs.List.{find, list_any, insert, remove, position, count_by, slice_get}
use Rattle.std.specs.List.Sorted.{IsStrictlySortedBy, IsSearchInRange}
use Rattle.std.proofs.lemmas.Bool.{cases_eq, lt-ltb, eqb-true, eqb-false, ne_eqb, or_parts}
use Rattle.std.proofs.lemmas.List.{length-map, map-append, take-map, drop-map}
use Rattle.std.proofs.lemmas.List.Edits.{length-insert, length-remove}
use Rattle.std.proofs.lemmas.List.Folds.{list_all-map}
use Rattle.std.proofs.lemmas.List.Kept.{IsStrictlySortedBy-filter}
use Rattle.std.proofs.lemmas.List.Quantifiers.{position-Some}
use Rattle.std.proofs.lemmas.List.Sums.{sum_by-set, count_by-le-length, sum_by-cons}
use Rattle.std.proofs.lemmas.Option.{slice_get-map, slice_get_within, slice_get-get_or}
use Rattle.std.specs.Option.{option_map}
use Rattle.lis_graph.proofs.Sets.{sorted_insert_key}
use Rattle.lis_graph.proofs.Entries.{keys}
use Rattle.lis_words.specs.Words.{is_file_name}
use Rattle.lis_fields.specs.Records.{FileRecord}
use Rattle.lis_catalog.specs.Catalog.{Filed, Catalog, slots, slot_of, rec_at, filed_cmp, with_filed, without_slot, IsCatalog}
use Rattle.lis_catalog.specs.Inside.{Records, no_record, filed_in, catalog_of, has_slot, IsHeld, FoundAt, PlaceFor}
use Rattle.lis_catalog.proofs.Order.{filed_order, sorted_from, rising_from}
use Rattle.lis_catalog.proofs.Places.{no_file, found_name, no_name, insert_place}
use Rattle.lis_catalog.proofs.Slots.{map_none, none_any, filter_none, all_insert, all_filter, none_found, apart_insert, apart_filter, has_there, turned, is_other, slot_gone, removed}
use Rattle.lis_catalog.proofs.Laws.{rec_at-with_filed, rec_at-without_slot, slot_is_below, slot_of-rec_at}

-- ---- what a search says
module _ (c : Catalog) where
  pub named_at : (name : List ℕ) (k : ℕ) → k < length c.entries → FoundAt name k c.entries → slot_of c name ≡ slice_get (slots c) k
  named_at name k lt at =
      ap (option_map (λ (f : Filed). f.slot)) (found_name name k c.entries no_file at ∙ sym (slice_get-get_or c.entries k no_file lt))
      ∙ sym (slice_get-map (λ (f : Filed). f.slot) c.entries k)

  pub none_there : (name : List ℕ) (k : ℕ) → k < length c.entries → FoundAt name k c.entries → slot_of c name ≡ None → ⊥
  none_there name k lt at none =
      let found = ap (option_map (λ (f : Filed). f.slot)) (found_name name k c.entries no_file at) in
      cc

  pub none_named : (name : List ℕ) (k : ℕ) → IsCatalog c → PlaceFor name k c.entries → slot_of c name ≡ None
  none_named name k is place = ap (option_map (λ (f : Filed). f.slot)) (no_name name k c.entries (sorted_from c.entries is.rising) place)

  pub nothing_gone : (slot : ℕ) → rec_at c slot ≡ None → c ≡ without_slot c slot
  nothing_gone slot none =
      let is_there = λ (f : Filed). f.slot == slot in
      ap (λ es. record c { entries = es }) (sym (filter_none is_there c.entries (none_any is_there c.entries (map_none (λ (f : Filed). f.rec) (find is_there c.entries) none))))

  -- if the name is that of a slot's record
  pub place_told : (slot : ℕ) (rec : FileRecord) (found : Result ℕ ℕ) → IsCatalog c → rec_at c slot ≡ Some rec → IsSearchInRange found (length c.entries)
      → MatchResult found (λ k. FoundAt rec.name k c.entries) (λ k. PlaceFor rec.name k c.entries) → MatchResult found (λ k. slice_get (slots c) k ≡ Some slot) (λ k. ⊥)
  place_told slot rec (Ok k) is there within at = sym (named_at rec.name k within at) ∙ slot_of-rec_at c slot rec is there
  place_told slot rec (Err k) is there within at = let some = slot_of-rec_at c slot rec is there in let none = none_named rec.name k is at in cc

-- ---- a record is written over
module _ (records : Records) (slot : ℕ) (now : Option FileRecord) where
  -- the files in other slots stay
  others : (order : List ℕ) → has_slot (map (filed_in records) order) slot ≡ false → map (filed_in (set records slot now)) order ≡ map (filed_in records) order
  others [] none = refl
  others (n ∷ ns) none =
      let parts = or_parts (n == slot) (has_slot (map (filed_in records) ns) slot) none in
      let same = get_or-set_other records slot n now None (eqb-false n slot parts.0) in
      ap (λ (held : Option FileRecord). record { slot = n; rec = unwrap_or held no_record } ∷ map (filed_in (set records slot now)) ns) same
      ∙ ap (λ es. filed_in records n ∷ es) (others ns parts.1)

  module _ (lt : slot < length records) where
    told_after : (said : ℕ → Option FileRecord) → ((n : ℕ) → get_or records n None ≡ said n) → (n : ℕ) → get_or (set records slot now) n None ≡ (if slot == n then now else said n)
    told_after said told n = by (cases_eq slot n)
      where
        by : (slot ≡ n) ⊎ (slot ≡ n → ⊥) → get_or (set records slot now) n None ≡ (if slot == n then now else said n)
        by (inl same) = subst (λ m. get_or (set records slot now) m None ≡ (if slot == m then now else said m)) same
            (get_or-set_same records slot now None lt ∙ sym (ap (λ b. if b then now else said slot) (eq-eqb slot slot refl)))
        by (inr differ) = get_or-set_other records slot n now None (λ same. differ (sym same)) ∙ (told n ∙ sym (ap (λ b. if b then now else said n) (ne_eqb slot n differ)))

    counted_after : count_by is_some (set records slot now) + cond (is_some (get_or records slot None)) 1 0 ≡ count_by is_some records + cond (is_some now) 1 0
    counted_after = sum_by-set (λ (held : Option FileRecord). cond (is_some held) 1 0) records slot now None lt

-- a slot without a record leaves room for one
pub some_room : (records : Records) (slot : ℕ) → slot < length records → get_or records slot None ≡ None → count_by is_some records < length records
some_room records slot lt free =
    let nothing = ap {B = ℕ} (λ (held : Option FileRecord). cond (is_some held) 1 0) free in
    omega (arith, counted_after records slot (Some no_record) lt, nothing, count_by-le-length is_some (set records slot (Some no_record)), length-set records slot (Some no_record))

-- ---- the order, with one more slot and with one fewer
module _ (v : ℕ → Filed) where
  map_insert : (order : List ℕ) (k slot : ℕ) → map v (insert order k slot) ≡ insert (map v order) k (v slot)
  map_insert order k slot = rw (take-map v k order, drop-map v k order) (map-append v (take k order) (slot ∷ drop k order))

  map_remove : (order : List ℕ) (k : ℕ) → map v (remove order k) ≡ remove (map v order) k
  map_remove order k = rw (take-map v k order, drop-map v (suc k) order) (map-append v (take k order) (drop (suc k) order))

same_test : (a b : ℕ) → (a == b) ≡ (b == a)
same_test a b = by (a == b) refl
  where
    by : (t : Bool) → (a == b) ≡ t → t ≡ (b == a)
    by true e = sym (eq-eqb b a (sym (eqb-true a b e)))
    by false e = sym (turned a b e)

-- what a new file and its index must have
pub record Fits (c : Catalog) (slot k : ℕ) (rec : FileRecord) : Type 0 where
  pub place : PlaceFor rec.name k c.entries
  pub within : k ≤ length c.entries
  pub form : IsTrue (is_file_name rec.name)
  pub below : slot < c.files
  pub free : rec_at c slot ≡ None

-- from what is stated of the catalog as a contract sees it, and of the name as it is stored
pub fits_from : (c : Catalog) (files : ℕ) (records : Records) (order : List ℕ) (slot : ℕ) (rec : FileRecord) (name : List ℕ) (k : ℕ)
    → catalog_of files records order ≡ c → name ≡ rec.name → PlaceFor name k c.entries → k ≤ length c.entries → IsTrue (is_file_name name) → slot < c.files → rec_at c slot ≡ None
    → Fits (catalog_of files records order) slot k rec
fits_from c files records order slot rec name k seen named place within form below free = subst (λ s. Fits s slot k rec) (sym seen) (record {
  place = subst (λ n. PlaceFor n k c.entries) named place;
  within = within;
  form = subst (λ n. IsTrue (is_file_name n)) named form;
  below = below;
  free = free;
})

-- ---- the order of what is seen
module _ (files : ℕ) (records : Records) (order : List ℕ) (c : Catalog) (seen : catalog_of files records order ≡ c) where
  pub seen_order : slots c ≡ order
  seen_order = ap slots (sym seen) ∙ keys (filed_in records) (λ (f : Filed). f.slot) (λ n. refl) order

  pub seen_at : (k slot : ℕ) → slice_get (slots c) k ≡ Some slot → slice_get order k ≡ Some slot
  seen_at k slot at = ap (λ ns. slice_get ns k) (sym seen_order) ∙ at

  pub seen_length : length c.entries ≡ length order
  seen_length = ap (λ (s : Catalog). length s.entries) (sym seen) ∙ length-map order (filed_in records)

-- ---- what the parts say
all_some : (records : Records) → list_any is_none records ≡ false → count_by is_some records ≡ length records
all_some [] none = refl
all_some (None ∷ rs) none = absurd cc
all_some (Some r ∷ rs) none = omega (arith, sum_by-cons (λ (held : Option FileRecord). cond (is_some held) 1 0) (Some r) rs, all_some rs none)

nothing_there : (o : Option FileRecord) → is_none o ≡ true → o ≡ None
nothing_there None e = refl
nothing_there (Some r) e = absurd cc

module _ (files room : ℕ) (records : Records) (order : List ℕ) (h : IsHeld files records order room) where
  abbrev es : List Filed
  es = map (filed_in records) order

  abbrev c : Catalog
  c = catalog_of files records order

  pub sorted : IsStrictlySortedBy filed_cmp es
  sorted = sorted_from es h.catalog.rising

  as_long : length es ≡ length order
  as_long = length-map order (filed_in records)

  -- each slot has a file
  pub full : position is_none records ≡ None → length es ≡ files
  full none = omega (arith, all_some records (none_any is_none records (none_found is_none records none)), h.counted, h.long, as_long)

  -- a slot without a record
  pub free_at : (n : ℕ) → position is_none records ≡ Some n → (n < files) × (rec_at c n ≡ None)
  free_at n some =
      let found = position-Some is_none records n None some in
      (omega (arith, found.0, h.long), sym (h.told n) ∙ nothing_there (get_or records n None) found.1)

  -- a slot in the order has a record
  module _ (k n : ℕ) (at : slice_get order k ≡ Some n) where
    filed_there : slice_get es k ≡ Some (filed_in records n)
    filed_there = slice_get-map (filed_in records) order k ∙ ap (option_map (filed_in records)) at

    pub recorded : get_or records n None ≡ None → ⊥
    recorded none =
        let some = has_there es k (filed_in records n) filed_there in
        let gone = none_any (λ (f : Filed). f.slot == n) es (map_none (λ (f : Filed). f.rec) (find (λ (f : Filed). f.slot == n) es) (sym (h.told n) ∙ none)) in
        cc

    pub entry_there : (rec : FileRecord) → get_or records n None ≡ Some rec → slice_get es k ≡ Some (record { slot = n; rec = rec })
    entry_there rec is = filed_there ∙ ap (λ (held : Option FileRecord). Some (record { slot = n; rec = unwrap_or held no_record })) is

  -- ---- one more file
  module _ (slot k : ℕ) (rec : FileRecord) (fits : Fits c slot k rec) where
    abbrev f : Filed
    f = record { slot = slot; rec = rec }

    put_within : slot < length records
    put_within = omega (arith, h.long, fits.below)

    not_there : has_slot es slot ≡ false
    not_there = none_any (λ (g : Filed). g.slot == slot) es (map_none (λ (g : Filed). g.rec) (find (λ (g : Filed). g.slot == slot) es) fits.free)

    absent : slot_of c rec.name ≡ None
    absent = none_named c rec.name k h.catalog fits.place

    put : map (filed_in (set records slot (Some rec))) (insert order k slot) ≡ insert es k f
    put =
        map_insert (filed_in (set records slot (Some rec))) order k slot
        ∙ (ap (λ xs. insert xs k (filed_in (set records slot (Some rec)) slot)) (others records slot (Some rec) order not_there)
        ∙ ap (λ (held : Option FileRecord). insert es k (record { slot = slot; rec = unwrap_or held no_record })) (get_or-set_same records slot (Some rec) None put_within))

    pub put_same : catalog_of files (set records slot (Some rec)) (insert order k slot) ≡ with_filed c slot rec
    put_same = ap (λ xs. record { files = files; entries = xs }) (put ∙ insert_place f k es fits.place)

    counted_more : count_by is_some (set records slot (Some rec)) ≡ length order + 1
    counted_more =
        let nothing = ap {B = ℕ} (λ (held : Option FileRecord). cond (is_some held) 1 0) (h.told slot ∙ fits.free) in
        omega (arith, counted_after records slot (Some rec) put_within, nothing, h.counted)

    pub room_left : length order < files
    room_left = omega (arith, some_room records slot put_within (h.told slot ∙ fits.free), h.counted, h.long)

    put_catalog : IsCatalog (record { files = files; entries = insert es k f })
    put_catalog = record {
      rising = rising_from (insert es k f) (subst (IsStrictlySortedBy filed_cmp) (sym (insert_place f k es fits.place)) (sorted_insert_key filed_cmp filed_order es f sorted));
      forms =
          list_all-map is_file_name (λ (g : Filed). g.rec.name) (insert es k f)
          ∙ all_insert (λ (g : Filed). is_file_name g.rec.name) k es f (sym (list_all-map is_file_name (λ (g : Filed). g.rec.name) es) ∙ h.catalog.forms) fits.form;
      below =
          list_all-map (λ (n : ℕ). nat_lt n files) (λ (g : Filed). g.slot) (insert es k f)
          ∙ all_insert (λ (g : Filed). nat_lt g.slot files) k es f (sym (list_all-map (λ (n : ℕ). nat_lt n files) (λ (g : Filed). g.slot) es) ∙ h.catalog.below) (lt-ltb slot files fits.below);
      apart = apart_insert k es f h.catalog.apart not_there;
      few = omega (arith, length-insert es k f fits.within, room_left, as_long);
    }

    pub put_held : (now : ℕ) → files ≤ now → IsHeld files (set records slot (Some rec)) (insert order k slot) now
    put_held now wide = record {
      catalog = subst (λ xs. IsCatalog (record { files = files; entries = xs })) (sym put) put_catalog;
      limit = h.limit;
      has_room = wide;
      long = length-set records slot (Some rec) ∙ h.long;
      told = λ n. told_after records slot (Some rec) put_within (rec_at c) h.told n ∙ sym (ap (λ d. rec_at d n) put_same ∙ rec_at-with_filed c slot rec n absent fits.free);
      counted = omega (arith, counted_more, length-insert order k slot (omega (arith, fits.within, as_long)));
    }

  -- ---- one fewer file
  module _ (slot k : ℕ) (at : slice_get order k ≡ Some slot) where
    pub in_order : k < length order
    in_order = slice_get_within order k slot at

    there : (o : Option FileRecord) → get_or records slot None ≡ o → is_some o ≡ true
    there None is = absurd (recorded k slot at is)
    there (Some r) is = refl

    has_record : is_some (get_or records slot None) ≡ true
    has_record = there (get_or records slot None) refl

    pub in_records : slot < length records
    in_records = omega (arith, slot_is_below c slot h.catalog (ap is_some (sym (h.told slot)) ∙ has_record), h.long)

    cut : remove es k ≡ filter (is_other slot) es
    cut = sym (removed slot es k (filed_in records slot) (filed_there k slot at) refl h.catalog.apart)

    cut_order : map (filed_in (set records slot None)) (remove order k) ≡ filter (is_other slot) es
    cut_order =
        let rest = map_remove (filed_in records) order k ∙ cut in
        others records slot None (remove order k) (ap (λ xs. has_slot xs slot) rest ∙ slot_gone slot es) ∙ rest

    pub cut_same : catalog_of files (set records slot None) (remove order k) ≡ without_slot c slot
    cut_same = ap (λ xs. record { files = files; entries = xs }) cut_order

    fewer : length (remove order k) + 1 ≡ length order
    fewer = length-remove order k in_order

    cut_catalog : IsCatalog (without_slot c slot)
    cut_catalog = record {
      rising = rising_from (filter (is_other slot) es) (IsStrictlySortedBy-filter filed_cmp (is_other slot) es sorted);
      forms =
          list_all-map is_file_name (λ (g : Filed). g.rec.name) (filter (is_other slot) es)
          ∙ all_filter (λ (g : Filed). is_file_name g.rec.name) (is_other slot) es (sym (list_all-map is_file_name (λ (g : Filed). g.rec.name) es) ∙ h.catalog.forms);
      below =
          list_all-map (λ (n : ℕ). nat_lt n files) (λ (g : Filed). g.slot) (filter (is_other slot) es)
          ∙ all_filter (λ (g : Filed). nat_lt g.slot files) (is_other slot) es (sym (list_all-map (λ (n : ℕ). nat_lt n files) (λ (g : Filed). g.slot) es) ∙ h.catalog.below);
      apart = apart_filter (is_other slot) es h.catalog.apart;
      few = omega (arith, ap length cut_order, length-map (remove order k) (filed_in (set records slot None)), fewer, as_long, h.catalog.few);
    }

    pub cut_held : (now : ℕ) → files ≤ now → IsHeld files (set records slot None) (remove order k) now
    cut_held now wide = record {
      catalog = subst IsCatalog (sym cut_same) cut_catalog;
      limit = h.limit;
      has_room = wide;
      long = length-set records slot None ∙ h.long;
      told = λ n. told_after records slot None in_records (rec_at c) h.told n ∙ sym (ap (λ d. rec_at d n) cut_same ∙ (rec_at-without_slot c slot n ∙ ap (λ b. if b then None else rec_at c n) (same_test n slot)));
      counted = let one = ap {B = ℕ} (λ (b : Bool). cond b 1 0) has_record in omega (arith, counted_after records slot None in_records, one, h.counted, fewer);
    }
