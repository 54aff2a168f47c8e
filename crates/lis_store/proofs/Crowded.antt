-- How many words files would have with a test that is declared.
use Rattle.std.proofs.Common.{rules}
use Rattle.lis_words.specs.declared.test.Test.{Test}
use Rattle.lis_store.proofs.Common.{common_steps, ◌≡◌, sym, ap, ◌∙◌, ℕ, ◌<◌, nat_lt, Bool, true, false, Option, Some, None, is_some, IsSome, List, length, refl, arith, ◌⊎◌, ap₂, subst, inl, inr, ◌≤◌, nat_le, ◌&&◌, ◌||◌, get_or, ◌++◌, list_any, range_with_len, Among, range_among, Filed, rec_at, slot_is_below, FileRecord, State, File, description, Metadata, AreSound, FreeSlotsAreEmpty, Tells, filed_rec, filed_at_slot, fun_ext, list_all, and_parts, ltb-true, lt-ltb, leb-true, list_any-append, contains_from_among, among_append, among_left, among_right, number_of, word_of, number_from_word, has, numbers_at, is_test, test_of, is_valued, is_met, all_up, declared_under, exceeds_words, word_exact, declared_of, axioms_of, named_all, some_word, among_word, word_among, both_ways, false_from_ne_true, among_from_any, any_from_among, same_tests, file_told, words_told, has_number, known, all_up_has, all_among, among_from_number, number_from_among, numbers_where}
use Rattle.lis_graph.proofs.Ranges.{among_range}
use Rattle.lis_store.proofs.StoreSays.{file_of_filed, filed_of_file, number_of_known, size_of_filed}
use Rattle.lis_store.specs.Closing.{is_entailed, is_gained, is_met_at, is_met_by, closure, wider}
use Rattle.lis_store.specs.Testing.{is_crowded, has_crowded}
use Rattle.lis_graph.proofs.Members.{among_at}
use Rattle.lis_store.proofs.Measured.{numbers_apart, told_counted}
use Rattle.lis_store.proofs.Closed.{led_had, led_itself, closure_told, closure_named}
use Rattle.lis_store.proofs.Told.{length-with_word}
use Rattle.lis_store.specs.Stored.{Stored, IsSound, AreClosed}
use Rattle.lis_store.proofs.ToldBy.{ToldBy}
use Rattle.lis_store.proofs.Under.{unmet_same, met_gains}
use Rattle.std.proofs.Math.Bool.{or_comm}

-- ---- descriptions that would be too large, by their numbers and by their words
-- ---- one slot after another
module _ (full : ℕ → Bool) (files : ℕ) where
  pub full_at : (slot : ℕ) → slot < files → full slot ≡ true → list_any full (range_with_len 0 files) ≡ true
  full_at slot lt is = any_from_among full (range_with_len 0 files) slot (range_among 0 files slot (omega arith) (omega (arith, lt))) is

  pub full_nowhere : ((slot : ℕ) → slot < files → full slot ≡ false) → list_any full (range_with_len 0 files) ≡ false
  full_nowhere none = grind (arith, common_steps, false_from_ne_true, among_from_any, among_range, both_ways)

-- ---- if the slot of each file shows whether it is too large, some file is too large exactly if some slot is
module _ (k : Metadata) (sound : AreSound k) (at : ℕ → List ℕ) (s : State) (free : FreeSlotsAreEmpty k) (tells : Tells k at s) (made : State) (full : ℕ → Bool)
    (filed : (slot : ℕ) → full slot ≡ true → IsSome (rec_at k.catalog slot))
    (same : (f : Filed) → Among k.catalog.entries f → nat_lt 128 (length (description made (file_told k.limits k.dict at f))) ≡ full f.slot) where
  abbrev large : File → Bool
  large file = nat_lt 128 (length (description made file))

  pub full_told : list_any full (range_with_len 0 k.limits.files) ≡ list_any large s.files
  full_told = same_tests (list_any full (range_with_len 0 k.limits.files)) (list_any large s.files) forth back
    where
      forth : list_any full (range_with_len 0 k.limits.files) ≡ true → list_any large s.files ≡ true
      forth h = let found = among_from_any full (range_with_len 0 k.limits.files) h in by found.0 found.2 (rec_at k.catalog found.0) refl
        where
          by : (slot : ℕ) → full slot ≡ true → (o : Option FileRecord) → rec_at k.catalog slot ≡ o → list_any large s.files ≡ true
          by slot is None none = absurd (both_ways (is_some (rec_at k.catalog slot)) (ap (λ (o : Option FileRecord). is_some o) none) (filed slot is))
          by slot is (Some rec) there =
              let f : Filed = record { slot = slot; rec = rec } in
              let m = filed_at_slot k.catalog sound.catalog slot rec there in
              any_from_among large s.files (file_told k.limits k.dict at f) (file_of_filed k at s sound free tells f m) (same f m ∙ is)

      back : list_any large s.files ≡ true → list_any full (range_with_len 0 k.limits.files) ≡ true
      back h =
          let found = among_from_any large s.files h in
          let f = filed_of_file k at s sound free tells found.0 found.1 in
          let below = slot_is_below k.catalog (f.0).slot sound.catalog (ap is_some (filed_rec k.catalog sound.catalog f.0 f.1)) in
          full_at full k.limits.files (f.0).slot (omega (arith, below, sound.slots)) (sym (same f.0 f.1) ∙ (ap large f.2 ∙ found.2))

-- ---- one number after another
pub named_at : (k : Metadata) (numbers : List ℕ) → list_all (λ n. is_some (word_of k.dict n)) numbers ≡ true → (i : ℕ) → i < length numbers → is_some (word_of k.dict (get_or numbers i 0)) ≡ true
named_at k numbers named i lt = all_among (λ n. is_some (word_of k.dict n)) numbers (get_or numbers i 0) named (among_at numbers i 0 lt)

-- if some numbers gain a number, more numbers gain it too
gains_within : (k : Metadata) (some more : List ℕ) → ((n : ℕ) → Among some n → Among more n) → (n : ℕ) → is_gained k some n ≡ true → is_gained k more n ≡ true
gains_within k some more within n h = let found = among_from_any (λ m. is_entailed k m n) some h in any_from_among (λ m. is_entailed k m n) more found.0 (within found.0 found.1) found.2

pub crowded_alike : (k : Metadata) (t : Option Test) (some more : List ℕ) → ((n : ℕ) → Among some n → Among more n) → ((n : ℕ) → Among more n → Among some n) → has_crowded k t some ≡ has_crowded k t more
crowded_alike k t some more to from =
    ap (λ (gains : ℕ → Bool). list_any (λ slot. is_met_at k t slot && nat_lt 127 (length (numbers_where k.ext.props (λ n. has k.ext n slot || gains n)))) (range_with_len 0 k.limits.files))
    (fun_ext (λ n. same_tests (is_gained k some n) (is_gained k more n) (gains_within k some more to n) (gains_within k more some from n)))

-- ---- descriptions with all that they entail
module _ (k : Metadata) (sound : AreSound k) (free : FreeSlotsAreEmpty k) (closed : AreClosed k) (words : List (List ℕ)) (numbers : List ℕ) (told : words_told k.dict numbers ≡ words) (slot : ℕ) where
  abbrev set : List ℕ
  set = numbers_at k.ext slot

  abbrev had : List (List ℕ)
  had = words_told k.dict set

  set_gains : (n : ℕ) → is_gained k set n ≡ has k.ext n slot
  set_gains n = same_tests (is_gained k set n) (has k.ext n slot)
      (λ h. let found = among_from_any (λ m. is_entailed k m n) set h in led_had k sound closed slot found.0 n (number_from_among set found.0 found.1) found.2)
      (λ h. let w = some_word (word_of k.dict n) (named_all k sound free n slot h) in any_from_among (λ m. is_entailed k m n) set n (among_from_number set n h) (led_itself k n w.0 w.1))

  -- they are what they and the words entail
  wider_is : wider k (is_gained k numbers) slot ≡ closure k (numbers ++ set)
  wider_is =
      ap₂ numbers_where sound.rows (fun_ext (λ n. or_comm (has k.ext n slot) (is_gained k numbers n) ∙ (ap (λ b. is_gained k numbers n || b) (sym (set_gains n)) ∙ sym (list_any-append (λ m. is_entailed k m n) numbers set))))

  pub wider_told : words_told k.dict (wider k (is_gained k numbers) slot) ≡ all_up (declared_of k) (axioms_of k) (words ++ had)
  wider_told = ap (words_told k.dict) wider_is ∙ closure_told k sound (numbers ++ set) (words ++ had) (λ w m. numbered w (among_append words had w m)) (λ n w is m. worded n w is (among_append numbers set n m))
    where
      numbered : (w : List ℕ) → Among words w ⊎ Among had w → (n : ℕ) × (word_of k.dict n ≡ Some w) × Among (numbers ++ set) n
      numbered w (inl m) =
          let found = among_word k sound numbers w (subst (λ ws. Among ws w) (sym told) m) in
          (found.0, found.1, among_left numbers set found.0 (among_from_number numbers found.0 found.2))
      numbered w (inr m) = let found = among_word k sound set w m in (found.0, found.1, among_right numbers set found.0 (among_from_number set found.0 found.2))

      worded : (n : ℕ) (w : List ℕ) → word_of k.dict n ≡ Some w → Among numbers n ⊎ Among set n → Among (all_up (declared_of k) (axioms_of k) (words ++ had)) w
      worded n w is (inl m) =
          all_up_has (declared_of k) (axioms_of k) (words ++ had) w (among_left words had w (subst (λ ws. Among ws w) told (word_among k sound numbers n w is (number_from_among numbers n m))))
      worded n w is (inr m) = all_up_has (declared_of k) (axioms_of k) (words ++ had) w (among_right words had w (word_among k sound set n w is (number_from_among set n m)))

  pub wider_counted : length (all_up (declared_of k) (axioms_of k) (words ++ had)) ≡ length (wider k (is_gained k numbers) slot)
  wider_counted =
      ap (λ (ws : List (List ℕ)). length ws) (sym wider_told)
      ∙ told_counted k sound (wider k (is_gained k numbers) slot) (numbers_apart k.ext.props (λ n. has k.ext n slot || is_gained k numbers n))
      (λ n m. closure_named k (numbers ++ set) n (ap (λ ns. has_number ns n) (sym wider_is) ∙ number_from_among (wider k (is_gained k numbers) slot) n m))

-- ---- the last check of `mkdir`
module _ {old : Stored} (sound : IsSound old) {s : State} (fits : ToldBy old s) (words : List (List ℕ)) (numbers : List ℕ) (told : words_told old.metadata.dict numbers ≡ words)
    (word : List ℕ) (bare : is_valued word ≡ false) (new : number_of old.metadata.dict word ≡ None) where
  abbrev k : Metadata
  k = old.metadata

  abbrev t : State
  t = declared_under s word words

  abbrev file_at : Filed → File
  file_at f = file_told k.limits k.dict fits.kept f

  pub unknown : Among (known s) word → ⊥
  unknown m =
      let found = number_of_known k fits.kept s sound.metadata sound.free fits.tells word m in
      both_ways (is_some (number_of k.dict word)) (ap is_some new) (ap is_some found.1)

  module _ (f : Filed) (there : Among k.catalog.entries f) where
    filed : Among s.files (file_at f)
    filed = file_of_filed k fits.kept s sound.metadata sound.free fits.tells f there

    abbrev wide : List (List ℕ)
    wide = all_up s.declared s.axioms (words ++ description s (file_at f))

    wide_told : words_told k.dict (wider k (is_gained k numbers) f.slot) ≡ wide
    wide_told = search (rules, wider_told, contains_from_among)

    wide_counted : length wide ≡ length (wider k (is_gained k numbers) f.slot)
    wide_counted = search (rules, contains_from_among, wider_counted)

    not_wide : Among wide word → ⊥
    not_wide m =
        let found = among_word k sound.metadata (wider k (is_gained k numbers) f.slot) word (subst (λ ws. Among ws word) (sym wide_told) m) in
        both_ways (is_some (number_of k.dict word)) (ap is_some new) (ap is_some (number_from_word k.dict sound.metadata.dict word found.0 found.1))

    pub meets_same : is_met (test_of word) (length (file_at f).bytes) ≡ is_met_at k (test_of word) f.slot
    meets_same = ap (is_met (test_of word)) (size_of_filed old s sound fits f there) ∙ sym (ap (is_met_by (test_of word)) (filed_rec k.catalog sound.metadata.catalog f there))

    same : nat_lt 128 (length (description t (file_at f))) ≡ is_crowded k (test_of word) numbers f.slot
    same = by (is_met_at k (test_of word) f.slot) meets_same
      where
        few : length (description s (file_at f)) ≤ 128
        few = leb-true (length (description s (file_at f))) 128 (all_among (λ (g : File). nat_le (length (description s g)) 128) s.files (file_at f) fits.tells.formed.files.few_words filed)

        by : (b : Bool) → is_met (test_of word) (length (file_at f).bytes) ≡ b → nat_lt 128 (length (description t (file_at f))) ≡ (b && nat_lt 127 (length (wider k (is_gained k numbers) f.slot)))
        by true met =
            let longer = ap (λ (ws : List (List ℕ)). length ws) (met_gains s fits.tells.formed word bare unknown words (file_at f) filed met) in
            let one = length-with_word wide word (λ w m tie. not_wide (subst (λ u. Among wide u) (sym (word_exact word w tie)) m)) in
            same_tests (nat_lt 128 (length (description t (file_at f)))) (nat_lt 127 (length (wider k (is_gained k numbers) f.slot)))
            (λ h. lt-ltb 127 (length (wider k (is_gained k numbers) f.slot)) (omega (arith, ltb-true 128 (length (description t (file_at f))) h, longer, one, wide_counted)))
            (λ h. lt-ltb 128 (length (description t (file_at f))) (omega (arith, ltb-true 127 (length (wider k (is_gained k numbers) f.slot)) h, longer, one, wide_counted)))
        by false unmet =
            false_from_ne_true (nat_lt 128 (length (description t (file_at f)))) (λ h.
            omega (arith, ltb-true 128 (length (description t (file_at f))) h, ap (λ (ws : List (List ℕ)). length ws) (unmet_same s fits.tells.formed word bare unknown words (file_at f) filed unmet), few))

  -- some description is then too large exactly if a file is crowded
  pub crowded_told : exceeds_words t ≡ has_crowded k (test_of word) numbers
  crowded_told = sym (full_told k sound.metadata fits.kept s sound.free fits.tells t (is_crowded k (test_of word) numbers) (λ slot h.
      by slot (rec_at k.catalog slot) refl (and_parts (is_met_at k (test_of word) slot) (nat_lt 127 (length (wider k (is_gained k numbers) slot))) h).0) same)
    where
      by : (slot : ℕ) (o : Option FileRecord) → rec_at k.catalog slot ≡ o → is_met_at k (test_of word) slot ≡ true → IsSome (rec_at k.catalog slot)
      by slot None none met = absurd (both_ways (is_met_at k (test_of word) slot) (ap (is_met_by (test_of word)) none) met)
      by slot (Some rec) is met = ap (λ (r : Option FileRecord). is_some r) is

-- a word that is no test crowds nothing
pub never_crowded : (k : Metadata) (word : List ℕ) (numbers : List ℕ) → is_test word ≡ false → has_crowded k (test_of word) numbers ≡ false
never_crowded k word numbers plain = by (test_of word) plain
  where
    none : (o : Option FileRecord) → is_met_by None o ≡ false
    none None = refl
    none (Some rec) = refl

    by : (o : Option Test) → is_some o ≡ false → has_crowded k o numbers ≡ false
    by None e = false_from_ne_true (has_crowded k None numbers) (λ h.
        let found = among_from_any (is_crowded k None numbers) (range_with_len 0 k.limits.files) h in
        both_ways (is_met_at k None found.0) (none (rec_at k.catalog found.0)) (and_parts (is_met_at k None found.0) (nat_lt 127 (length (wider k (is_gained k numbers) found.0))) found.2).0)
    by (Some test) e = absurd cc
