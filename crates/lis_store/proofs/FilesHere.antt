-- Which files a place has.
use Rattle.lis_store.proofs.Common.{common_steps, rules, ◌≡◌, refl, sym, ap, ap₂, ◌∙◌, ℕ, ◌<◌, ◌==◌, Bool, true, false, cond, IsSome, IsSomeAnd, List, [], ◌∷◌, map, filter, Some, None, option_map, slice_get, find, same_Some, Among, contains_from_among, among_filter, filter_among, same_word, Formula, FileRecord, Filed, slot_of, rec_at, rec_at-slot_of, same_word_decides, Placed, Metadata, AreSound, filed_rec, filed_slot, false_from_ne_true, among_from_any, any_from_among, among_map, map_among}
use native.Mathlib.Omega.{arith}
use Rattle.std.proofs.lemmas.Option.{slice_get-map}
use Rattle.lis_model.specs.Table.{Entry}
use Rattle.lis_model.specs.Listing.{holds_all}
use Rattle.lis_eval.specs.View.{TellsTest, name_and_slot}
use Rattle.lis_kept.proofs.Dropped.{file_slot_below}
use Rattle.lis_store.specs.Seen.{placed, seen_of, table_of}
use Rattle.lis_store.specs.Judging.{is_among}
use Rattle.std.proofs.Common.{Option}
use Rattle.lis_store.proofs.StoreSays.{filed_named}

module _ (k : Metadata) (sound : AreSound k) (place : List Formula) (name : List ℕ) where
  abbrev entry : Filed → Entry
  entry f = (placed k f).entry

  abbrev is_named : Entry → Bool
  is_named file = same_word file.name name

  -- a file of the place that has the name
  record Here (f : Filed) : Type 0 where
    there : Among k.catalog.entries f
    named : f.rec.name ≡ name
    holds : holds_all place (entry f) ≡ true

  found_here : is_among k place name ≡ true → (f : Filed) × Here f
  found_here some = grind (arith, common_steps, among_from_any, among_filter, among_map, same_word_decides)

  -- no file has the name
  pub none_here : slot_of k.catalog name ≡ None → is_among k place name ≡ false
  none_here none = false_from_ne_true (is_among k place name) (λ some.
      let found = found_here some in
      let is : ◌≡◌ {A = Option ℕ} None (Some (found.0).slot) = sym none ∙ (ap (slot_of k.catalog) (sym found.1.named) ∙ filed_slot k.catalog sound.catalog found.0 found.1.there) in
      cc)

  -- the file of the name is in the place exactly if the test of the place holds of its slot
  pub named_here : (slot : ℕ) (test : ℕ → Bool) → slot_of k.catalog name ≡ Some slot → TellsTest (seen_of k) test (holds_all place) → is_among k place name ≡ test slot
  named_here slot test is_slot tells =
      let found = rec_at-slot_of k.catalog name slot sound.catalog is_slot in
      let is = filed_named k sound name slot found.0 is_slot found.1 in
      let f : Filed = record { slot = slot; rec = found.0 } in
      let told : test slot ≡ holds_all place (entry f) = tells.told (placed k f) (contains_from_among (map (placed k) k.catalog.entries) (placed k f) (map_among (placed k) k.catalog.entries f is.0)) in
      by f is.0 is.1 (holds_all place (entry f)) refl ∙ sym told
    where
      by : (f : Filed) → Among k.catalog.entries f → f.rec.name ≡ name → (b : Bool) → holds_all place (entry f) ≡ b → is_among k place name ≡ b
      by f m named true holds =
          any_from_among is_named (filter (holds_all place) (table_of k).files) (entry f)
          (filter_among (holds_all place) (table_of k).files (entry f) (map_among (λ (p : Placed). p.entry) (map (placed k) k.catalog.entries) (placed k f) (map_among (placed k) k.catalog.entries f m)) holds)
          ((same_word_decides f.rec.name name).1 named)
      by f m named false fails =
          false_from_ne_true (is_among k place name) (λ some.
          let g = found_here some in
          let one = filed_slot k.catalog sound.catalog f m in
          let two = filed_slot k.catalog sound.catalog g.0 (g.1).there in
          let slots : (g.0).slot ≡ f.slot = same_Some (g.0).slot f.slot (sym two ∙ (ap (slot_of k.catalog) ((g.1).named ∙ sym named) ∙ one)) in
          let recs : (g.0).rec ≡ f.rec = same_Some (g.0).rec f.rec (sym (filed_rec k.catalog sound.catalog g.0 (g.1).there) ∙ (ap (rec_at k.catalog) slots ∙ filed_rec k.catalog sound.catalog f m)) in
          let e : true ≡ false = sym (g.1).holds ∙ (same_entry g.0 f slots recs ∙ fails) in cc)
        where
          same_entry : (a b : Filed) → a.slot ≡ b.slot → a.rec ≡ b.rec → holds_all place (entry a) ≡ holds_all place (entry b)
          same_entry a b slots recs =
              let make : ℕ → FileRecord → Filed = λ slot rec. record { slot = slot; rec = rec } in
              ap (λ (x : Filed). holds_all place (entry x)) (ap₂ make slots recs)

-- ---- what a view finds by a name
pub slot_seen : (k : Metadata) (name : List ℕ) (fs : List Filed)
    → option_map (λ (f : Placed). f.slot) (find (λ (f : Placed). same_word f.entry.name name) (map (placed k) fs)) ≡ option_map (λ (f : Filed). f.slot) (find (λ (f : Filed). same_word f.rec.name name) fs)
slot_seen k name [] = refl
slot_seen k name (f ∷ fs) = grind (arith, common_steps, slot_seen k name fs)

pub file_seen : (k : Metadata) (fs : List Filed) (n : ℕ) → option_map name_and_slot (slice_get (map (placed k) fs) n) ≡ option_map (λ (f : Filed). (f.rec.name, f.slot)) (slice_get fs n)
file_seen k fs n = search (rules, slice_get-map)

pub none_seen : (k : Metadata) (slot : ℕ) (fs : List Filed) → option_map (λ (f : Filed). f.rec) (find (λ (f : Filed). f.slot == slot) fs) ≡ None
    → IsSome (find (λ (f : Placed). f.slot == slot) (map (placed k) fs)) → ⊥
none_seen k slot [] none some = cc
none_seen k slot (f ∷ fs) none some = grind (arith, common_steps, none_seen k slot fs)

pub size_seen : (k : Metadata) (slot : ℕ) (rec : FileRecord) (size : ℕ) (fs : List Filed) → option_map (λ (f : Filed). f.rec) (find (λ (f : Filed). f.slot == slot) fs) ≡ Some rec → size ≡ rec.size
    → IsSomeAnd (find (λ (f : Placed). f.slot == slot) (map (placed k) fs)) (λ (f : Placed). size ≡ f.entry.size)
size_seen k slot rec size [] is sized = absurd cc
size_seen k slot rec size (f ∷ fs) is sized = by (f.slot == slot) is (λ e. size_seen k slot rec size fs e sized)
  where
    by : (b : Bool) → option_map (λ (x : Filed). x.rec) (cond b (Some f) (find (λ (x : Filed). x.slot == slot) fs)) ≡ Some rec
        → (option_map (λ (x : Filed). x.rec) (find (λ (x : Filed). x.slot == slot) fs) ≡ Some rec → IsSomeAnd (find (λ (x : Placed). x.slot == slot) (map (placed k) fs)) (λ (x : Placed). size ≡ x.entry.size))
        → IsSomeAnd (cond b (Some (placed k f)) (find (λ (x : Placed). x.slot == slot) (map (placed k) fs))) (λ (x : Placed). size ≡ x.entry.size)
    by true e rest = sized ∙ ap (λ (r : FileRecord). r.size) (sym (same_Some f.rec rec e))
    by false e rest = rest e

-- the slot of a name is below the limit
pub slot_in : (k : Metadata) → AreSound k → (name : List ℕ) (slot : ℕ) → slot_of k.catalog name ≡ Some slot → slot < k.limits.files
slot_in k sound name slot is = let found = rec_at-slot_of k.catalog name slot sound.catalog is in file_slot_below k sound slot found.0 found.1
