-- A blank image has no words and no files: it represents the empty state.
use Rattle.std.proofs.Common.{rules}
use Rattle.lis_store.proofs.Common.{◌≡◌, refl, sym, ap, ◌∙◌, ℕ, zero, suc, ◌+◌, ◌-◌, ◌*◌, ◌/◌, ◌<◌, ◌≤◌, ◌≢◌, false, List, [], get_or, take, replicate, slice_get, slice_index, Some, IsTrue, arith, ◌==◌, insert_key, Contains, length-replicate, get_or-replicate, slice_get_within, get_or_from_slice_get, among_from_contains, part, block, is_taken, Dict, IsDict, has, SpellsSuper, AxiomSlot, FreeAxiom, Pair, Limits, are_in_range, bitmap_start, data_start, State, pair_cmp, Metadata, IsWritten, axiom_slots, Properties, Axioms, Bitmap, AreSound, Tells, among_slots, list_any, Meaning, both_ways, Files, Rows, Sets, true, KeepsInUse, is_linked, subst, IsStrictlyIncreasing}
use Rattle.std.specs.List.{fold}
use Rattle.std.proofs.lemmas.List.{drop-replicate, take-replicate, take-take}
use Rattle.lis_slots.specs.Slots.{Slots, home, place, slot}
use Rattle.lis_bits.proofs.Numbers.{bytes_none}
use Rattle.lis_blockmap.specs.Bitmap.{bitmap_bytes}
use Rattle.lis_catalog.specs.Catalog.{IsCatalog}
use Rattle.lis_ext.specs.Ext.{set_of}
use Rattle.lis_ext.specs.Numbers.{has_number as has_in}
use Rattle.lis_fields.specs.Layouts.{zeros, super_with, prop_bytes, axiom_bytes, file_bytes, set_bytes}
use Rattle.lis_model.specs.State.{empty_state}
use Rattle.lis_laws.proofs.Steps.{empty_formed}
use Rattle.lis_kept.specs.Areas.{Area, slots_of, row_slots}
use Rattle.lis_kept.specs.Telling.{pairs_told}
use Rattle.lis_model.proofs.Ranges.{early_limits, each_files_limit}
use Rattle.lis_kept.proofs.InArea.{some_properties, whole_files, some_are_early}
use Rattle.lis_kept.proofs.Spelled.{row_bytes_none}
use Rattle.lis_store.specs.Blank.{IsBlank}
use Rattle.lis_store.specs.Stands.{Stands}
use Rattle.lis_store.specs.Stored.{IsSound, empty_metadata, empty_stored, StoreFits}
use Rattle.lis_store.proofs.Cleaned.{none_set}
use Rattle.lis_store.proofs.Differing.{none_rising}
use Rattle.lis_ports.specs.Runs.{IsSettled}
use Rattle.lis_journal.proofs.Fitting.{settled_fits}

-- ---- no words and no files
module _ (limits : Limits) (blocks : ℕ) where
  abbrev metadata : Metadata
  metadata = empty_metadata limits blocks

  empty_dict : IsDict metadata.dict
  empty_dict = record { rising = refl; forms = refl; below = refl; apart = refl; few = omega arith }

  empty_catalog : IsCatalog metadata.catalog
  empty_catalog = record { rising = refl; forms = refl; below = refl; apart = refl; few = omega arith }

  no_axiom : (at left right : ℕ) → slice_get metadata.axioms at ≡ Some (Pair left right) → ⊥
  no_axiom at left right is =
      let lt : at < (axiom_slots limits).count = omega (arith, slice_get_within metadata.axioms at (Pair left right) is, length-replicate (axiom_slots limits).count FreeAxiom) in
      let same : ◌≡◌ {A = AxiomSlot} (Pair left right) FreeAxiom =
      sym (get_or_from_slice_get metadata.axioms at (Pair left right) FreeAxiom is) ∙ get_or-replicate (axiom_slots limits).count at FreeAxiom FreeAxiom lt in
      cc

  empty_set : (at : ℕ) → set_of metadata.ext at ≡ []
  empty_set at = all_empty limits.files at
    where
      all_empty : (files i : ℕ) → get_or {A = List ℕ} (replicate files []) i [] ≡ []
      all_empty zero i = refl
      all_empty (suc files) zero = refl
      all_empty (suc files) (suc i) = all_empty files i

  no_set : (n at : ℕ) → has metadata.ext n at ≡ false
  no_set n at = ap (λ ns. has_in ns n) (empty_set at)

  empty_are_sound : IsTrue (are_in_range limits) → data_start limits ≤ blocks → AreSound metadata
  empty_are_sound range room =
      record {
        range = range;
        numbers = refl;
        dict = empty_dict;
        heads = λ n word is. absurd cc;
        bits = length-replicate limits.props false;
        flagged = λ n taken. absurd (both_ways (is_taken (replicate limits.props false) n) (none_set limits.props n) taken);
        properties = search (rules, none_set);
        axiom_count = length-replicate (axiom_slots limits).count FreeAxiom;
        axioms = λ at left right is. absurd (no_axiom at left right is);
        slots = refl;
        catalog = empty_catalog;
        records = λ at rec is. absurd cc;
        blocks = length-replicate limits.blocks false;
        rows = refl;
        files = length-replicate {A = List ℕ} limits.files [];
        named = λ n at some had. absurd (both_ways (has metadata.ext n at) (no_set n at) had);
        rising = λ at lt. subst IsStrictlyIncreasing (sym (empty_set at)) none_rising;
        settled = refl;
        marks = search (rules, length-replicate);
      }

  pub empty_sound : IsTrue (are_in_range limits) → data_start limits ≤ blocks → IsSound (empty_stored limits blocks)
  empty_sound range room =
      let closed : (slot p q : ℕ) → has metadata.ext p slot ≡ true → is_linked metadata p q ≡ true → has metadata.ext q slot ≡ true =
      λ slot p q had. absurd (both_ways (has metadata.ext p slot) (no_set p slot) had) in
      let in_use : KeepsInUse metadata = record {
        used = λ n is. absurd cc;
        tags = λ slot rec is. absurd cc;
        rights = λ at left right is. absurd (no_axiom at left right is);
      } in
      search (rules, empty_are_sound, no_set, no_axiom, both_ways, empty_set, length-replicate, closed, in_use)

-- ---- blocks of zeros
pub zeros-part : (at n total : ℕ) → at + n ≤ total → part at n (zeros total) ≡ zeros n
unfolding zeros
zeros-part at n total le = ap (take n) (drop-replicate at total 0) ∙ take-replicate n (total - at) 0 (omega arith)

free_slot : (slots : Slots) (at : ℕ → List ℕ) (k : ℕ) → at (home slots k) ≡ zeros 4096 → place slots k + slots.width ≤ 4096 → slot slots at k ≡ zeros slots.width
free_slot slots at k blank within = ap (part (place slots k) slots.width) blank ∙ zeros-part (place slots k) slots.width 4096 within

bitmap-none : (n blocks : ℕ) → bitmap_bytes n (replicate blocks false) ≡ zeros 4096
unfolding bitmap_bytes zeros
bitmap-none n blocks = sym (bytes_none 4096 (λ k. is_taken (replicate blocks false) (32768 * n + k)) (λ k. none_set blocks (32768 * n + k)))

-- a row ends inside its block
row_within : (limits : Limits) (k : ℕ) → IsTrue (are_in_range limits) → (limits.version == 3) ≡ false → place (row_slots limits) k + (row_slots limits).width ≤ 4096
row_within limits k range early = search (rules, each_files_limit, (early_limits limits range early).files)

no_pairs : (n : ℕ) (dict : Dict) → pairs_told dict (replicate n FreeAxiom) ≡ []
no_pairs zero dict = refl
no_pairs (suc n) dict = no_pairs n dict

none_contained : {X : Type 0} (x : X) → Contains [] x → ⊥
none_contained x m = among_from_contains [] x m

module _ (limits : Limits) (blocks : ℕ) (image : List ℕ) (range : IsTrue (are_in_range limits)) (blank : IsBlank limits image) where
  abbrev at : ℕ → List ℕ
  at n = block n image

  zero_at : (area : Area) (n : ℕ) → n < (slots_of limits area).count → at (home (slots_of limits area) n) ≡ zeros 4096
  zero_at area n lt = let inside = among_slots limits range area n lt in blank.homes (home (slots_of limits area) n) inside.0 inside.1

  pub written_empty : IsWritten (empty_metadata limits blocks) at
  unfolding prop_bytes axiom_bytes file_bytes set_bytes zeros
  written_empty Properties n lt = free_slot (slots_of limits Properties) at n (zero_at Properties n lt) (omega arith)
  written_empty Axioms n lt =
      free_slot (slots_of limits Axioms) at n (zero_at Axioms n lt) (omega arith)
      ∙ ap axiom_bytes (sym (get_or-replicate (axiom_slots limits).count n FreeAxiom FreeAxiom lt))
  written_empty Files n lt = free_slot (slots_of limits Files) at n (zero_at Files n lt) (omega arith)
  written_empty Rows n lt =
      free_slot (slots_of limits Rows) at n (zero_at Rows n lt) (row_within limits n range (some_are_early limits n lt))
      ∙ row_bytes_none (empty_metadata limits blocks).ext n (limits.files / 8) (omega (arith, length-replicate {A = List ℕ} limits.files [], whole_files limits range)) (λ file. no_set limits blocks n file)
  written_empty Sets n lt =
      free_slot (slots_of limits Sets) at n (zero_at Sets n lt) (omega arith) ∙ ap set_bytes (sym (empty_set limits blocks n))
  written_empty Bitmap n lt = blank.homes (bitmap_start limits + n) (omega arith) (omega (arith, lt)) ∙ sym (bitmap-none n limits.blocks)

  pub tells_empty : SpellsSuper limits (part 0 4096 image) → Tells (empty_metadata limits blocks) at (empty_state limits)
  tells_empty super = record {
    super = super;
    state = ap (λ es. record (empty_state limits) { axioms = fold (insert_key pair_cmp) [] es }) (no_pairs (axiom_slots limits).count (empty_metadata limits blocks).dict);
    formed = empty_formed limits range;
    used = λ n is. absurd cc;
    described = λ f m. absurd (none_contained f m);
    taken = λ n lt is. absurd (both_ways (is_taken (replicate limits.blocks false) n) (none_set limits.blocks n) is);
    given = λ f m. absurd (none_contained f m);
    indexed = λ f m. absurd (none_contained f m);
    apart = λ f m. absurd (none_contained f m);
    one_use = λ f g m. absurd (none_contained f m);
  }

-- an image that does not begin with an L represents no state
pub no_state : (image : List ℕ) (s : State) → slice_index (part 0 1 image) 0 ≢ 76 → Stands image s → ⊥
unfolding Stands super_with
no_state image s no_name stands = search (rules, take-take)

-- ---- the store of such an image
pub empty_fits : (m : Meaning) (limits : Limits) (blocks : ℕ) (image : List ℕ) → IsTrue (are_in_range limits) → data_start limits ≤ blocks → IsTrue m.is_honest → IsSettled m image
    → SpellsSuper limits (part 0 4096 image) → IsBlank limits image → StoreFits (empty_stored limits blocks) m (empty_state limits)
empty_fits m limits blocks image range room honest settled super blank =
    record {
      kept = λ n. block n image;
      journal = settled_fits (empty_stored limits blocks).journal image refl honest settled (omega (arith, some_properties limits range)) blank.long (ap (list_any (λ gate. gate == 1)) blank.gates);
      unbroken = refl;
      settled = refl;
      tells = tells_empty limits blocks image range blank super;
      written = written_empty limits blocks image range blank;
    }
