-- A declared word that nothing needs may be removed, and what is needed is what is in use in the state that memory describes.
use Rattle.std.proofs.Common.{arith}
use Rattle.lis_kept.proofs.Common.{◌≡◌, ℕ, true, false, Some, List, is_some, slice_get, ap, ◌&&◌, ◌||◌, not, Bool, map, refl, sym, ap₂, ◌∙◌, subst, both_ways, false_from_ne_true, and_from, word_of, rec_at, has, FileRecord, Pair, is_valued, list_any, flat_map, Contains, and_parts, Among, among_flat_map, flat_map_among, among_from_any, Filed, numbers_at, same_word, has_word, is_test, head_bytes, File, description, same_word_decides, among_from_has_word, any_from_among, has_word_from_among, same_tests}
use Rattle.lis_blockmap.specs.Bitmap.{is_taken}
use Rattle.lis_kept.specs.Metadata.{Metadata}
use Rattle.lis_kept.specs.Sound.{AreSound, FreeSlotsAreEmpty}
use Rattle.lis_kept.specs.Telling.{is_head_by, is_had, is_named_left, words_told, axioms_of, file_told, state_of, is_left_of, is_left_head_of}
use Rattle.lis_kept.specs.Forgetting.{KeepsInUse}
use Rattle.lis_kept.specs.Undeclaring.{MayUndeclare, is_right_of, is_needed}
use Rattle.lis_kept.proofs.Emptied.{flagged_not_valued}
use Rattle.lis_kept.proofs.Used.{WhyUsed, why_used, named_head, headed, no_head_twice, had_at, any_or}
use Rattle.lis_kept.proofs.Used.WhyUsed.{Flagged, Had, OnLeft, HeadOfLeft}
use Rattle.lis_kept.proofs.WordLess.{had_from}
use Rattle.std.proofs.lemmas.List.Folds.{list_any-append}
use Rattle.lis_catalog.proofs.Slots.{any_map}
use Rattle.lis_model.specs.State.{heads}
use Rattle.lis_model.specs.Step.{is_in_use}
use Rattle.lis_laws.proofs.Chains.{among_heads, heads_of_valued, head_no_test}
use Rattle.lis_kept.specs.TestEdges.{test_by}
use Rattle.lis_kept.proofs.Known.{one_number, slot_described, described_slot}
use Rattle.lis_kept.proofs.AxiomsTold.{same_number, by_axioms}
use Rattle.lis_model.specs.Sets.{has_number}

module _ (k : Metadata) (sound : AreSound k) (in_use : KeepsInUse k) (number : ℕ)
    (headed_had : (slot x : ℕ) → has k.ext x slot ≡ true → is_head_by (word_of k.dict x) (word_of k.dict number) ≡ true → has k.ext number slot ≡ true)
    (declared : is_taken k.declared number ≡ true) (had : is_had k.ext number ≡ false) (lefts : is_named_left k number ≡ false)
    (rights : (slot left right : ℕ) → slice_get k.axioms slot ≡ Some (Pair left right) → right ≡ number → ⊥) where
  not_tag : (slot : ℕ) (rec : FileRecord) → rec_at k.catalog slot ≡ Some rec → has_number rec.tags number ≡ false
  not_tag slot rec is = false_from_ne_true (has_number rec.tags number) (λ tag. both_ways (is_had k.ext number) had (had_from k.ext number slot (in_use.tags slot rec is number tag)))

  -- a known word whose head it is would be in use, and it would be needed with it
  no_head : (n : ℕ) → is_head_by (word_of k.dict n) (word_of k.dict number) ≡ false
  no_head n = false_from_ne_true (is_head_by (word_of k.dict n) (word_of k.dict number)) (λ said.
      let word = headed (word_of k.dict n) (word_of k.dict number) said in
      by said word (why_used k n (in_use.used n (ap is_some word.1))))
    where
      by : is_head_by (word_of k.dict n) (word_of k.dict number) ≡ true → (v : List ℕ) × (word_of k.dict n ≡ Some v) × (is_valued v ≡ true) → WhyUsed k n → ⊥
      by said word (Flagged bit) = both_ways (is_valued word.0) (flagged_not_valued k sound n word.0 word.1 bit) word.2
      by said word (Had slot h) = both_ways (is_had k.ext number) had (had_from k.ext number slot (headed_had slot n h said))
      by said word (OnLeft slot right is) = both_ways (is_named_left k number) lefts (named_head k number slot n right is said)
      by said word (HeadOfLeft slot left right is again) = no_head_twice (word_of k.dict left) (word_of k.dict n) (word_of k.dict number) again said

  pub may_undeclare : MayUndeclare number k
  may_undeclare = record { declared = declared; had = had; lefts = lefts; rights = rights; tags = not_tag; heads = no_head }

-- ---- what is needed is what is in use in the state that memory describes
-- l, r: it is a left or a right side; h: the head of a left one; d: it is described; t: it is a test
in_order : (l r h d t : Bool) → (t ≡ true → h ≡ false) → ((l || r) || (not t && (h || d))) ≡ ((not t && d) || ((l || h) || r))
in_order l r h d t none = grind arith

module _ (k : Metadata) (sound : AreSound k) (free : FreeSlotsAreEmpty k) (at : ℕ → List ℕ)
    (described : (f : Filed) → Contains k.catalog.entries f → words_told k.dict (numbers_at k.ext f.slot) ≡ description (state_of k at) (file_told k.limits k.dict at f))
    (n : ℕ) (w : List ℕ) (is : word_of k.dict n ≡ Some w) where
  abbrev lefts : List (List ℕ)
  lefts = map (λ (e : List ℕ × List ℕ). e.0) (axioms_of k)

  abbrev rights : List (List ℕ)
  rights = map (λ (e : List ℕ × List ℕ). e.1) (axioms_of k)

  abbrev left_heads : List (List ℕ)
  left_heads = flat_map (λ (e : List ℕ × List ℕ). heads e.0) (axioms_of k)

  abbrev files : List File
  files = map (file_told k.limits k.dict at) k.catalog.entries

  abbrev described_words : List (List ℕ)
  described_words = flat_map (description (state_of k at)) files

  left_told : has_word lefts w ≡ list_any (is_left_of n) k.axioms
  left_told = any_map (λ v. same_word v w) (λ (e : List ℕ × List ℕ). e.0) (axioms_of k) ∙ by_axioms k sound (is_left_of n) (λ e. same_word e.0 w) refl (λ x y l r is_l is_r. same_number k sound x n l w is_l is)

  right_told : has_word rights w ≡ list_any (is_right_of n) k.axioms
  right_told = any_map (λ v. same_word v w) (λ (e : List ℕ × List ℕ). e.1) (axioms_of k) ∙ by_axioms k sound (is_right_of n) (λ e. same_word e.1 w) refl (λ x y l r is_l is_r. same_number k sound y n r w is_r is)

  head_told : has_word left_heads w ≡ list_any (is_left_head_of k.dict n) k.axioms
  head_told =
      same_tests (has_word left_heads w) (list_any (λ (e : List ℕ × List ℕ). is_head_by (Some e.0) (Some w)) (axioms_of k)) to from
      ∙ by_axioms k sound (is_left_head_of k.dict n) (λ e. is_head_by (Some e.0) (Some w)) refl (λ x y l r is_l is_r. ap₂ is_head_by is_l is)
    where
      to : has_word left_heads w ≡ true → list_any (λ (e : List ℕ × List ℕ). is_head_by (Some e.0) (Some w)) (axioms_of k) ≡ true
      to h =
          let e = among_flat_map (λ (e : List ℕ × List ℕ). heads e.0) (axioms_of k) w (among_from_has_word left_heads w h) in
          let head = among_heads (e.0).0 w e.2 in
          any_from_among (λ (e : List ℕ × List ℕ). is_head_by (Some e.0) (Some w)) (axioms_of k) e.0 e.1
          (and_from (is_valued (e.0).0) (same_word (head_bytes (e.0).0) w) head.0 ((same_word_decides (head_bytes (e.0).0) w).1 head.1))

      from : list_any (λ (e : List ℕ × List ℕ). is_head_by (Some e.0) (Some w)) (axioms_of k) ≡ true → has_word left_heads w ≡ true
      from h =
          let e = among_from_any (λ (e : List ℕ × List ℕ). is_head_by (Some e.0) (Some w)) (axioms_of k) h in
          let parts = and_parts (is_valued (e.0).0) (same_word (head_bytes (e.0).0) w) e.2 in
          has_word_from_among left_heads w (flat_map_among (λ (e : List ℕ × List ℕ). heads e.0) (axioms_of k) e.0 w e.1
          (subst (λ v. Among (heads (e.0).0) v) ((same_word_decides (head_bytes (e.0).0) w).0 parts.1) (heads_of_valued (e.0).0 parts.0)))

  had_told : has_word described_words w ≡ is_had k.ext n
  had_told =
      same_tests (has_word described_words w) (is_had k.ext n)
      (λ h.
      let file = among_flat_map (description (state_of k at)) files w (among_from_has_word described_words w h) in
      let found = described_slot k sound free at described file.0 w file.1 file.2 in
      had_from k.ext n found.2 (ap (λ j. has k.ext j found.2) (sym (one_number k sound found.0 n w found.1 is)) ∙ found.3))
      (λ h.
      let place = had_at k.ext n h in
      let file = slot_described k sound free at described place.0 n w is place.2 in
      has_word_from_among described_words w (flat_map_among (description (state_of k at)) files file.0 w file.1 file.2))

  -- a head is no test
  no_test_head : is_test w ≡ true → list_any (is_left_head_of k.dict n) k.axioms ≡ false
  no_test_head test = false_from_ne_true (list_any (is_left_head_of k.dict n) k.axioms) (λ h.
      let e = among_flat_map (λ (e : List ℕ × List ℕ). heads e.0) (axioms_of k) w (among_from_has_word left_heads w (head_told ∙ h)) in
      head_no_test (e.0).0 (subst (λ v. is_test v ≡ true) (sym (among_heads (e.0).0 w e.2).1) test))

  pub needed_told : is_in_use (state_of k at) w ≡ is_needed k n
  needed_told =
      ap₂ (λ a b. a || (not (is_test w) && b)) (list_any-append (λ v. same_word v w) lefts rights ∙ ap₂ (λ a b. a || b) left_told right_told)
      (list_any-append (λ v. same_word v w) left_heads described_words ∙ ap₂ (λ a b. a || b) head_told had_told)
      ∙ (in_order (list_any (is_left_of n) k.axioms) (list_any (is_right_of n) k.axioms) (list_any (is_left_head_of k.dict n) k.axioms) (is_had k.ext n) (is_test w) no_test_head
      ∙ sym (ap₂ (λ o b. (not (is_some (test_by o)) && is_had k.ext n) || b) is
      (any_or (λ a. is_left_of n a || is_left_head_of k.dict n a) (is_right_of n) k.axioms
      ∙ ap (λ b. b || list_any (is_right_of n) k.axioms) (any_or (is_left_of n) (is_left_head_of k.dict n) k.axioms))))
