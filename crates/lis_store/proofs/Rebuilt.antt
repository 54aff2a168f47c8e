-- Descriptions that are replaced, slot by slot, and those that are rebuilt: what holds of memory then, and how much is edited and marked.
use Rattle.std.proofs.Common.{rules}
use Rattle.lis_store.proofs.Common.{◌≡◌, ◌⊎◌, inl, inr, refl, subst, ℕ, zero, suc, ◌+◌, ◌≤◌, Bool, true, false, cond, List, [], ◌∷◌, ◌++◌, length, count_by, arith, length-append, sym, ap, ap₂, ◌∙◌, ◌<◌, map, get_or-set_same, get_or-set_other, length-set, if◌then◌else◌, filter, take, not, Option, Some, is_some, IsSome, both_ways, false_from_ne_true, sum_by-cons, Among, among_left, among_right, is_taken, Metadata, is_marked, marked_count, cases_lt, numbers_at, differs, IsSaved, block_of, Describes, among_where, map_all, length-map, length-take-le, list_all, among_append, among_filter, word_of, rec_at, slot_is_below, Ext, has, FileRecord, is_test, is_had, had_at, AreSound, FreeSlotsAreEmpty, among_map, map_among, numbers_where, Rows, has_number, all_among, all_from, is_linked, common_steps}
use Rattle.lis_kept.proofs.Marking.{marked_only}
use Rattle.std.proofs.lemmas.List.FromFn.{sum_by-map-range_with_len_more}
use Rattle.lis_store.specs.Redescribing.{SlotHas, turned_at, IsTurned, Redescribes}
use Rattle.std.proofs.lemmas.List.Filters.{length-filter_both}
use Rattle.lis_kept.proofs.WordLess.{had_from}
use Rattle.lis_store.specs.Closing.{is_concerned, added, base_at, has_words, closure, anew, rebuilt}
use Rattle.lis_store.specs.declared.closing.Rebuild.{Rebuild}
use Rattle.lis_store.specs.Stored.{AreClosed, DescriptionsAreShort, TestsAreMet}
use Rattle.lis_store.specs.Changes.{AreEditsFew}
use Rattle.lis_store.proofs.Closed.{closure_closed}
use Rattle.lis_store.proofs.FileTests.{tests_stay}
use Rattle.lis_store.proofs.Fitting.{most_all, marked_more, all_few}

-- ---- one slot more
-- at the start nothing is done
pub redescribed_none : (sets : ℕ → List ℕ) (p : Metadata) → Redescribes sets 0 p p
redescribed_none sets p = grind (arith, common_steps)

module _ (sets : ℕ → List ℕ) (n : ℕ) (p q : Metadata) (so_far : Redescribes sets n p q) where
  -- the next slot is as it was at the start
  pub same_here : numbers_at q.ext n ≡ numbers_at p.ext n
  same_here = so_far.others n (omega arith)

  module _ (r : Metadata) (inside : n < length p.ext.sets) (one : SlotHas n (sets n) q r) where
    -- the slot, compared with the start
    record Turn : Type 0 where
      metadata : r ≡ record p { ext = r.ext; marks = r.marks }
      props : r.ext.props ≡ p.ext.props
      slots : length r.ext.sets ≡ length p.ext.sets
      here : numbers_at r.ext n ≡ sets n
      elsewhere : (slot : ℕ) → (slot ≡ n → ⊥) → numbers_at r.ext slot ≡ numbers_at q.ext slot
      saved : (at : ℕ → List ℕ) → IsSaved q at → IsSaved r at
      within : (block : ℕ) → is_marked r block ≡ true → (is_marked q block ≡ true) ⊎ IsTurned p sets block
      edits : r.ext.edits ≤ q.ext.edits + length (turned_at p sets n)
      no_fewer : q.ext.edits ≤ r.ext.edits

    module _ (describes : Describes n (sets n) q r) where
      turned_is : numbers_where q.ext.props (differs (numbers_at q.ext n) (sets n)) ≡ turned_at p sets n
      turned_is = ap₂ (λ m ns. numbers_where m (differs ns (sets n))) so_far.props same_here

      described_turn : Turn
      described_turn = grind (arith, common_steps, length-set, get_or-set_same, get_or-set_other, marked_only, turned_is, among_map, among_where)

    same_turn : sets n ≡ numbers_at q.ext n → r ≡ q → Turn
    same_turn had is = grind (arith, common_steps)

    turn : Turn
    turn = grind (arith, common_steps, described_turn, same_turn)

    pub redescribed_more : Redescribes sets (n + 1) p r
    redescribed_more = grind (arith, common_steps, turn, sum_by-map-range_with_len_more, cases_lt)

-- ---- all slots
module _ (sets : ℕ → List ℕ) (files : ℕ) (p q : Metadata) (all : Redescribes sets files p q) (count : length p.ext.sets ≡ files) (past : (slot : ℕ) → files ≤ slot → sets slot ≡ numbers_at p.ext slot) where
  pub given_then : (slot : ℕ) → numbers_at q.ext slot ≡ sets slot
  given_then slot = grind (arith, common_steps, cases_lt)

  -- rows are edited at most as often as their bits differ, and the count does not fall
  pub redescribed_edits : AreEditsFew p.ext q.ext
  redescribed_edits = grind (arith, common_steps, given_then, map_all)

-- ---- descriptions that are rebuilt
-- ---- a slot that is not reached yet gets what it would get at the start
module _ (n : ℕ) (p : Metadata) (ext : Ext) (marks : List Bool) (here : numbers_at ext n ≡ numbers_at p.ext n) where
  abbrev so_far : Metadata
  so_far = record p { ext = ext; marks = marks }

  words_yet : (how : Rebuild) → has_words so_far how ≡ has_words p how
  words_yet how = search (rules)

  concerned_yet : (how : Rebuild) → is_concerned so_far how n ≡ is_concerned p how n
  concerned_yet how = search (rules)

  base_yet : (how : Rebuild) → base_at so_far how n ≡ base_at p how n
  base_yet how = search (rules)

  rebuilt_yet : (how : Rebuild) → rebuilt so_far how n ≡ rebuilt p how n
  rebuilt_yet how = search (rules, concerned_yet, base_yet)

module _ (how : Rebuild) (n : ℕ) (p q : Metadata) (so_far : Redescribes (rebuilt p how) n p q) where
  pub words_same_yet : has_words q how ≡ has_words p how
  words_same_yet = ap (λ k. has_words k how) so_far.metadata ∙ words_yet n p q.ext q.marks (same_here (rebuilt p how) n p q so_far) how

  pub concerned_same : is_concerned q how n ≡ is_concerned p how n
  concerned_same = ap (λ k. is_concerned k how n) so_far.metadata ∙ concerned_yet n p q.ext q.marks (same_here (rebuilt p how) n p q so_far) how

  pub closure_same : closure q (base_at q how n) ≡ closure p (base_at p how n)
  closure_same = ap (λ k. closure k (base_at k how n)) so_far.metadata ∙ ap (closure p) (base_yet n p q.ext q.marks (same_here (rebuilt p how) n p q so_far) how)

  pub rebuilt_same : rebuilt q how n ≡ rebuilt p how n
  rebuilt_same = ap (λ k. rebuilt k how n) so_far.metadata ∙ rebuilt_yet n p q.ext q.marks (same_here (rebuilt p how) n p q so_far) how

-- ---- the numbers from which it is rebuilt
added_few : (how : Rebuild) → length (added how) ≤ 1
added_few how = search (rules)

filter_few : (test : ℕ → Bool) (xs : List ℕ) → length (filter test xs) ≤ length xs
filter_few test xs = let both = length-filter_both test (λ n. not (test n)) (λ n. refl) xs in omega (arith, both)

-- there is room for one more
pub base_room : (how : Rebuild) (test : ℕ → Bool) (xs items : List ℕ) (i : ℕ) → i < length xs → length xs ≤ 128 → items ≡ added how ++ filter test (take i xs) → length items < 129
base_room how test xs items i lt few are = grind (arith, common_steps, length-append, added_few, filter_few, length-take-le)

-- each has a word
pub base_words : (k : Metadata) (how : Rebuild) (slot : ℕ) → has_words k how ≡ true → list_all (λ n. is_some (word_of k.dict n)) (numbers_at k.ext slot) ≡ true
    → list_all (λ n. is_some (word_of k.dict n)) (base_at k how slot) ≡ true
base_words k how slot words named = grind (arith, common_steps, all_from, among_append, all_among, among_filter)

-- ---- memory then
-- Descriptions of files were rebuilt.
pub record IsRebuilt (concerned : ℕ → Bool) (base : ℕ → List ℕ) (k m : Metadata) : Type 0 where
  pub sound : AreSound k
  pub filed : (slot : ℕ) → concerned slot ≡ true → IsSome (rec_at k.catalog slot)
  pub redescribes : Redescribes (anew k concerned base) k.limits.files k m

-- a number at which two descriptions differ is gained or lost
pub turned_cases : (old new : List ℕ) (n : ℕ) → differs old new n ≡ true → ((has_number new n ≡ true) × (has_number old n ≡ false)) ⊎ ((has_number old n ≡ true) × (has_number new n ≡ false))
turned_cases old new n turned = grind (arith, common_steps, both_ways)

-- a number at which they are alike does not change
pub unturned : (old new : List ℕ) (n : ℕ) → has_number new n ≡ has_number old n → differs old new n ≡ false
unturned old new n same = grind (arith, common_steps)

-- some slot has a number, or none has
pub some_had : (e : Ext) (n : ℕ) → ((slot : ℕ) × (has e n slot ≡ true)) ⊎ ((slot : ℕ) → has e n slot ≡ false)
some_had e n = by (is_had e n) refl
  where
    by : (b : Bool) → is_had e n ≡ b → ((slot : ℕ) × (has e n slot ≡ true)) ⊎ ((slot : ℕ) → has e n slot ≡ false)
    by true some = let at = had_at e n some in inl (at.0, at.2)
    by false none = inr (λ slot. false_from_ne_true (has e n slot) (λ had. both_ways (is_had e n) none (had_from e n slot had)))

-- a slot that has a number has a file
pub had_filed : (k : Metadata) → FreeSlotsAreEmpty k → (n slot : ℕ) → has k.ext n slot ≡ true → IsSome (rec_at k.catalog slot)
had_filed k free n slot had = grind (arith, common_steps, both_ways)

module _ {concerned : ℕ → Bool} {base : ℕ → List ℕ} {k m : Metadata} (r : IsRebuilt concerned base k m) where
  abbrev pub made : Metadata
  made = record k { ext = m.ext; marks = m.marks }

  pub made_is : m ≡ made
  made_is = r.redescribes.metadata

  none_past : (slot : ℕ) → k.limits.files ≤ slot → anew k concerned base slot ≡ numbers_at k.ext slot
  none_past slot le = search (rules, false_from_ne_true, slot_is_below)

  -- a concerned slot has the numbers of all that its base entails, and each other slot is as before
  pub set_where : (P : List ℕ → Type 0) (slot : ℕ) → (concerned slot ≡ true → P (closure k (base slot))) → (concerned slot ≡ false → P (numbers_at k.ext slot)) → P (numbers_at m.ext slot)
  set_where P slot here other = subst P (sym (given_then (anew k concerned base) k.limits.files k m r.redescribes r.sound.files none_past slot)) (by (concerned slot) refl)
    where
      by : (b : Bool) → concerned slot ≡ b → P (if b then closure k (base slot) else numbers_at k.ext slot)
      by true is = here is
      by false is = other is

  abbrev pub SetCases : ℕ → Type 0
  SetCases slot = ((concerned slot ≡ true) × (numbers_at m.ext slot ≡ closure k (base slot))) ⊎ ((concerned slot ≡ false) × (numbers_at m.ext slot ≡ numbers_at k.ext slot))

  pub set_by : (slot : ℕ) → SetCases slot
  set_by slot =
      set_where (λ ns. ((concerned slot ≡ true) × (ns ≡ closure k (base slot))) ⊎ ((concerned slot ≡ false) × (ns ≡ numbers_at k.ext slot))) slot
      (λ is. inl (is, refl)) (λ other. inr (other, refl))

  pub made_edits : AreEditsFew k.ext m.ext
  made_edits = redescribed_edits (anew k concerned base) k.limits.files k m r.redescribes r.sound.files none_past

  -- ---- memory is well formed
  pub free_made : FreeSlotsAreEmpty k → FreeSlotsAreEmpty made
  free_made free slot none n =
      set_where (λ ns. has_number ns n ≡ false) slot
      (λ is. absurd (both_ways (is_some (rec_at k.catalog slot)) (ap (λ (o : Option FileRecord). is_some o) none) (r.filed slot is))) (λ other. free slot none n)

  pub short_made : ((slot : ℕ) → concerned slot ≡ true → length (closure k (base slot)) ≤ 128) → DescriptionsAreShort k → DescriptionsAreShort made
  short_made few short slot = set_where (λ ns. length ns ≤ 128) slot (few slot) (λ other. short slot)

  pub closed_made : ((slot a b : ℕ) → concerned slot ≡ false → has k.ext a slot ≡ true → is_linked k a b ≡ true → has k.ext b slot ≡ true) → AreClosed made
  closed_made others slot a b had linked =
      set_where (λ ns. has_number ns a ≡ true → has_number ns b ≡ true) slot
      (λ is had_so. closure_closed k r.sound (base slot) a b had_so linked) (λ other had_so. others slot a b other had_so linked) had

  -- what a slot keeps
  pub had_made : (n slot : ℕ) → (concerned slot ≡ true → has_number (closure k (base slot)) n ≡ has k.ext n slot) → has m.ext n slot ≡ has k.ext n slot
  had_made n slot same = set_where (λ ns. has_number ns n ≡ has k.ext n slot) slot same (λ other. refl)

  pub tests_made : ((n slot : ℕ) (w : List ℕ) → word_of k.dict n ≡ Some w → is_test w ≡ true → concerned slot ≡ true → has_number (closure k (base slot)) n ≡ has k.ext n slot)
      → TestsAreMet k → TestsAreMet made
  tests_made same = tests_stay k made (λ at rec there. there) (λ n w is test. is) (λ n at rec w there is test. had_made n at (same n at w is test))

  -- ---- what is marked
  -- if few numbers are gained or lost
  pub few_made : ((slot : ℕ) × (concerned slot ≡ true)) ⊎ ((slot : ℕ) → concerned slot ≡ false) → (rows : List ℕ) → ((slot : ℕ) → concerned slot ≡ true → length rows ≤ 128)
      → ((slot n : ℕ) → concerned slot ≡ true → differs (numbers_at k.ext slot) (closure k (base slot)) n ≡ true → Among rows n) → marked_count m ≤ marked_count k + most_all k.limits
  few_made some rows few within = by some
    where
      turned_in : (slot n : ℕ) → (b : Bool) → concerned slot ≡ b → differs (numbers_at k.ext slot) (if b then closure k (base slot) else numbers_at k.ext slot) n ≡ true
          → (concerned slot ≡ true) × (slot < k.limits.files) × Among rows n
      turned_in slot n true here turned = (here, omega (arith, slot_is_below k.catalog slot r.sound.catalog (r.filed slot here), r.sound.slots), within slot n here turned)
      turned_in slot n false other turned = absurd (both_ways (differs (numbers_at k.ext slot) (numbers_at k.ext slot) n) (unturned (numbers_at k.ext slot) (numbers_at k.ext slot) n refl) turned)

      by : ((slot : ℕ) × (concerned slot ≡ true)) ⊎ ((slot : ℕ) → concerned slot ≡ false) → marked_count m ≤ marked_count k + most_all k.limits
      by (inl one) =
          all_few k m (anew k concerned base) rows r.sound.range (few one.0 one.1)
          (λ slot n turned. let found = turned_in slot n (concerned slot) refl turned in (found.1, found.2)) r.redescribes.within
      by (inr none) =
          let more = marked_more k m [] (λ block is. side block (r.redescribes.within block is)) in
          omega (arith, more)
        where
          side : (block : ℕ) → (is_marked k block ≡ true) ⊎ IsTurned k (anew k concerned base) block → (is_marked k block ≡ true) ⊎ Among [] block
          side block (inl was) = inl was
          side block (inr of) = absurd (both_ways (concerned of.slot) (none of.slot) (turned_in of.slot of.number (concerned of.slot) refl of.turned).0)
