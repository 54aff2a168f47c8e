-- The files found, and the words that split them.
use Rattle.std.proofs.Common.{◌≡◌, ◌≢◌, ◌⊎◌, ℕ, ◌+◌, ◌<◌, ◌==◌, nat_lt, Bool, true, not, ◌&&◌, Option, Some, None, List, length, get_or, filter, refl, sym, ap, ◌∙◌, inl, inr, arith}
use Rattle.std.specs.Bool.{one_answer}
use Rattle.std.specs.List.{list_any, Contains}
use Rattle.std.proofs.lemmas.Bool.{eqb-true, ltb-true, lt-ltb, and_parts, and_from}
use Rattle.lis_graph.proofs.Members.{Among, among_from_contains, contains_from_among, among_from_any, any_from_among, among_filter, filter_among, among_map, map_among}
use Rattle.lis_words.specs.Words.{has_word}
use Rattle.lis_bits.specs.Rows.{Rows, HasShape, SetsBits, get, with_row}
use Rattle.lis_bits.proofs.Laws.{shaped, new_row}
use Rattle.lis_model.specs.Table.{Entry}
use Rattle.lis_model.specs.Listing.{is_candidate}
use Rattle.lis_ext.specs.Numbers.{numbers_where}
use Rattle.lis_ext.specs.Ext as ext
use Rattle.lis_ext.proofs.Counted.{some_where, where_some, where_split}
use Rattle.lis_eval.specs.View.{Placed, Seen, file_in, IsView, TellsFiles}
use Rattle.lis_eval.proofs.Members.{find_is}
use Rattle.lis_incr.specs.Marked.{found_files, Finds, SplitBy, splits_by}

-- a slot has a file, or is free
pub slot_file : (v : Seen) (slot : ℕ) → ((f : Placed) × Contains v.files f × (f.slot ≡ slot)) ⊎ (file_in v slot ≡ None)
slot_file v slot = by (file_in v slot) refl
  where
    by : (o : Option Placed) → file_in v slot ≡ o → ((f : Placed) × Contains v.files f × (f.slot ≡ slot)) ⊎ (file_in v slot ≡ None)
    by None e = inr e
    by (Some f) e =
        let found = find_is (λ (g : Placed). g.slot == slot) v.files f e in
        inl (f, contains_from_among v.files f found.0, eqb-true f.slot slot found.1)

module _ (v : Seen) (found : Rows) where
  pub in_found : (f : Placed) → Contains v.files f → get found 0 f.slot ≡ true → Among (found_files v found) f.entry
  in_found f there bit = map_among (λ (g : Placed). g.entry) (filter (λ (g : Placed). get found 0 g.slot) v.files) f (filter_among (λ (g : Placed). get found 0 g.slot) v.files f (among_from_contains v.files f there) bit)

  pub from_found : (e : Entry) → Among (found_files v found) e → (f : Placed) × Contains v.files f × (get found 0 f.slot ≡ true) × (f.entry ≡ e)
  from_found e m =
      let source = among_map (λ (g : Placed). g.entry) (filter (λ (g : Placed). get found 0 g.slot) v.files) e m in
      let parts = among_filter (λ (g : Placed). get found 0 g.slot) v.files source.0 source.1 in
      (source.0, contains_from_among v.files source.0 parts.0, parts.1, source.2)

-- the set of a file's slot says which words the file has
pub has_told : (v : Seen) (e : ext.Ext) → TellsFiles v e → (w : List ℕ × ℕ) → Contains v.words w → (number : ℕ) → w.1 ≡ number → (f : Placed) → Contains v.files f → ext.has e number f.slot ≡ has_word f.entry.words w.0
has_told v e tells w there number numbered f here = ap (λ n. ext.has e n f.slot) (sym numbered) ∙ tells.told w f there here

-- some slot found passes exactly if some file found does
some_found : (v : Seen) (found : Rows) → IsView v → Finds v found → (test : ℕ → Bool) (passes : Entry → Bool) → ((f : Placed) → Contains v.files f → test f.slot ≡ passes f.entry)
    → nat_lt 0 (length (numbers_where v.limits.files (λ k. get found 0 k && test k))) ≡ list_any passes (found_files v found)
some_found v found kept finds test passes told = one_answer (nat_lt 0 (length (numbers_where v.limits.files (λ k. get found 0 k && test k)))) (list_any passes (found_files v found)) (only, all) (λ e. e, λ e. e)
  where
    at : (slot : ℕ) → slot < v.limits.files → get found 0 slot ≡ true → test slot ≡ true → ((f : Placed) × Contains v.files f × (f.slot ≡ slot)) ⊎ (file_in v slot ≡ None) → list_any passes (found_files v found) ≡ true
    at slot lt here set (inl f) = any_from_among passes (found_files v found) f.0.entry (in_found v found f.0 f.1 (ap (get found 0) f.2 ∙ here)) (sym (told f.0 f.1) ∙ (ap test f.2 ∙ set))
    at slot lt here set (inr free) = absurd (let none = finds.none slot lt free in cc)

    only : nat_lt 0 (length (numbers_where v.limits.files (λ k. get found 0 k && test k))) ≡ true → list_any passes (found_files v found) ≡ true
    only some =
        let slot = some_where v.limits.files (λ k. get found 0 k && test k) (ltb-true 0 (length (numbers_where v.limits.files (λ k. get found 0 k && test k))) some) in
        let parts = and_parts (get found 0 slot.0) (test slot.0) slot.2 in
        at slot.0 slot.1 parts.0 parts.1 (slot_file v slot.0)

    all : list_any passes (found_files v found) ≡ true → nat_lt 0 (length (numbers_where v.limits.files (λ k. get found 0 k && test k))) ≡ true
    all any =
        let some = among_from_any passes (found_files v found) any in
        let f = from_found v found some.0 some.1 in
        lt-ltb 0 (length (numbers_where v.limits.files (λ k. get found 0 k && test k))) (where_some v.limits.files (λ k. get found 0 k && test k) f.0.slot (kept.slots f.0 f.1) (and_from (get found 0 f.0.slot) (test f.0.slot) f.2 (told f.0 f.1 ∙ (ap passes f.3 ∙ some.2))))

-- fewer than all, exactly if there are others
fewer : (a b : ℕ) → nat_lt a (a + b) ≡ nat_lt 0 b
fewer a b = one_answer (nat_lt a (a + b)) (nat_lt 0 b) (λ e. let lt = ltb-true a (a + b) e in lt-ltb 0 b (omega arith), λ e. let lt = ltb-true 0 b e in lt-ltb a (a + b) (omega arith)) (λ e. e, λ e. e)

splits : (count many a b : ℕ) (some others : Bool) → count ≡ a → many ≡ a + b → nat_lt 0 a ≡ some → nat_lt 0 b ≡ others → (nat_lt 0 count && nat_lt count many) ≡ (some && others)
splits count many a b some others count_is many_is has lacks = rw (count_is, many_is, fewer a b, has, lacks) refl

-- what counts of the files found say
pub split_by : (v : Seen) → IsView v → (found : Rows) → Finds v found → (e : ext.Ext) → TellsFiles v e → (counts : List ℕ) (many : ℕ) → length counts ≡ v.limits.props
    → ((p : ℕ) → p < e.props → get_or counts p 0 ≡ ext.count_where e (get found 0) p) → many ≡ length (numbers_where (length e.sets) (get found 0)) → SplitBy v (found_files v found) counts many
split_by v kept found finds e tells counts many room counted total = record { room = room; told = λ w there. told w there }
  where
    told : (w : List ℕ × ℕ) → Contains v.words w → splits_by counts many w.1 ≡ is_candidate (found_files v found) w.0
    told w there = splits (get_or counts w.1 0) many (length (numbers_where v.limits.files (λ k. get found 0 k && ext.has e w.1 k))) (length (numbers_where v.limits.files (λ k. get found 0 k && not (ext.has e w.1 k))))
        (list_any (λ (f : Entry). has_word f.words w.0) (found_files v found)) (list_any (λ (f : Entry). not (has_word f.words w.0)) (found_files v found))
        (let low = kept.numbers w there in counted w.1 (omega (arith, tells.props)) ∙ ap (λ n. length (numbers_where n (λ k. get found 0 k && ext.has e w.1 k))) tells.files)
        (total ∙ (ap (λ n. length (numbers_where n (get found 0))) tells.files ∙ where_split v.limits.files (get found 0) (ext.has e w.1)))
        (some_found v found kept finds (ext.has e w.1) (λ (f : Entry). has_word f.words w.0) (λ f here. tells.told w f there here))
        (some_found v found kept finds (λ k. not (ext.has e w.1 k)) (λ (f : Entry). not (has_word f.words w.0)) (λ f here. ap not (tells.told w f there here)))
