-- Sorted slots are the order of a catalog if no two of them have the same name.
use Rattle.std.proofs.Common.{◌≡◌, ℕ, ◌<◌, nat_lt, is_some, unwrap_or, Option, Some, None, List, length, get_or, map, IsTrue, refl, ap, ◌∙◌, arith}
use Rattle.std.proofs.lemmas.Bool.{lt-ltb}
use Rattle.std.proofs.lemmas.List.{length-map}
use Rattle.std.proofs.lemmas.List.Folds.{list_all-map}
use Rattle.std.proofs.lemmas.List.Sums.{count_by-le-length}
use Rattle.lis_limits.specs.declared.TheConstants.{V3_MAX_FILES}
use Rattle.lis_graph.specs.Again.{IsFirstAgain}
use Rattle.lis_graph.specs.Inside.{IsUnsorted, RisesByName, IsLeastRepeat}
use Rattle.lis_graph.proofs.Repeats.{within, at_most_once, rise, first_again as first_name_again}
use Rattle.lis_graph.proofs.Entries.{all_pass, rising_from, keys, told as told_by_entries}
use Rattle.lis_words.specs.Words.{is_file_name, word_cmp}
use Rattle.lis_fields.specs.Records.{FileRecord}
use Rattle.lis_model.specs.Sets.{are_distinct}
use Rattle.lis_model.proofs.Distinct.{distinct_from}
use Rattle.lis_catalog.specs.Catalog.{Filed, rec_at, IsCatalog}
use Rattle.lis_catalog.specs.Inside.{Records, no_record, record_in, name_in, filed_in, catalog_of, IsHeld}
use Rattle.lis_catalog.proofs.Order.{word_order, word_exact}

module _ (records : Records) (order : List ℕ) (room : ℕ) (h : IsUnsorted V3_MAX_FILES records order room) (by_name : RisesByName word_cmp (name_in records) order) where
  recorded : (n : ℕ) (rec : FileRecord) → get_or records n None ≡ Some rec → record_in records n ≡ rec
  recorded n rec is = ap (λ (o : Option FileRecord). unwrap_or o no_record) is

  pub first_again : (n : ℕ) → IsLeastRepeat (name_in records) order (length order) (Some n) → IsFirstAgain (λ (rec : FileRecord). rec.name) records n
  first_again = first_name_again word_cmp word_order (name_in records) word_exact order by_name (λ (rec : FileRecord). rec.name) V3_MAX_FILES records room h (λ n rec is. ap (λ (r : FileRecord). r.name) (recorded n rec is))

  module _ (none : IsLeastRepeat (name_in records) order (length order) None) (forms : (k : ℕ) → k < length order → IsTrue (is_file_name (name_in records (get_or order k 0)))) where
    is_catalog : IsCatalog (catalog_of (length records) records order)
    is_catalog = record {
      rising = rising_from (filed_in records) word_cmp (λ (f : Filed). f.rec.name) order (rise word_cmp word_order (name_in records) word_exact order by_name none);
      forms = list_all-map is_file_name (λ (f : Filed). f.rec.name) (map (filed_in records) order) ∙ all_pass (filed_in records) (λ (f : Filed). is_file_name f.rec.name) order forms;
      below =
          list_all-map (λ (slot : ℕ). nat_lt slot (length records)) (λ (f : Filed). f.slot) (map (filed_in records) order)
          ∙ all_pass (filed_in records) (λ (f : Filed). nat_lt f.slot (length records)) order (λ k lt. lt-ltb (get_or order k 0) (length records) (within V3_MAX_FILES records order room h k lt));
      apart = ap are_distinct (keys (filed_in records) (λ (f : Filed). f.slot) (λ n. refl) order) ∙ distinct_from order (at_most_once V3_MAX_FILES records order room h);
      few = omega (arith, length-map order (filed_in records), h.counted, count_by-le-length is_some records);
    }

    pub told : (n : ℕ) → get_or records n None ≡ rec_at (catalog_of (length records) records order) n
    told = told_by_entries (filed_in records) (λ (f : Filed). f.slot) (λ n. refl) (λ (f : Filed). f.rec) V3_MAX_FILES records order room h recorded

    pub held : IsHeld (length records) records order room
    held = record {
      catalog = is_catalog;
      limit = h.limit;
      has_room = h.has_room;
      long = refl;
      told = told;
      counted = h.counted;
    }
