-- A word that is declared under others: if it is a test, the files that meet it have it and all that the others entail.
use Rattle.std.proofs.Common.{rules}
use Rattle.lis_store.proofs.Common.{◌≡◌, ◌⊎◌, refl, sym, ap, ap₂, ◌∙◌, subst, inl, inr, ℕ, ◌+◌, ◌<◌, ◌≤◌, nat_lt, ◌&&◌, ◌||◌, Bool, true, false, List, [], ◌∷◌, ◌++◌, length, Option, Some, None, is_some, IsSome, arith, Result, list_any, range_with_len, or_cases, cases_eq, ltb-false, same_Some, Among, contains_from_among, range_among, word_of, rec_at, Filed, slot_is_below, Ext, has, numbers_at, differs, FileRecord, is_valued, is_test, test_of, plain_not_test, with_word, is_met, State, up, File, all_up, own_words, description, WellFormed, under, Metadata, marked_count, IsSaved, AreSound, FreeSlotsAreEmpty, KeepsInUse, declared_of, axioms_of, bytes_told, state_of, AreUsed, Tells, test_by, among_where, where_among, sorted_where, filed_rec, named_all, some_word, among_axiom, among_word, word_among, declared_has_number, used_had, met_weaker, Meaning, Held, Formula, Refusal, declared_under, Situation, refused, words_at, mkdir, link_named, linked_up, Head, Weaker, fun_ext, or_right, both_ways, false_from_ne_true, among_from_any, any_from_among, has_number, numbers_where, known, all_among, is_linked, words_told, file_told, among_from_number, number_from_among, one_number, same_tests, changed, all_up_has, declarable_not_valued, link_cases}
use Rattle.lis_words.specs.declared.test.Test.{Test}
use Rattle.lis_words.specs.Words.{is_property}
use Rattle.lis_model.specs.Tests.{are_weaker}
use Rattle.lis_laws.proofs.Chains.{tests_by}
use Rattle.lis_kept.specs.Under.{is_plain_by, DeclaresUnder}
use Rattle.lis_store.specs.Closing.{is_entailed, is_gained, is_met_at, is_met_by, closure, anew, base_at, rebuilt, wider}
use Rattle.lis_store.specs.Redescribing.{Redescribes}
use Rattle.lis_store.specs.Stored.{DescriptionsAreShort, TestsAreMet, Stored, PairsAreApart, IsSound, StoreHolds}
use Rattle.lis_store.specs.Testing.{is_crowded, has_crowded, tested, DeclaresTested, MayDeclare}
use Rattle.lis_store.proofs.HeadsUsed.{use_stays}
use Rattle.lis_store.proofs.Closed.{few_within, closure_told, closure_named, closure_has, led_plain}
use Rattle.lis_model.specs.Step.{mkdir_checks, first_refusal}
use Rattle.lis_store.specs.Saving.{settled, Saves}
use Rattle.lis_store.specs.Judging.{word_checks}
use Rattle.lis_store.specs.Changes.{Holds, AreEditsFew}
use Rattle.lis_store.specs.declared.change_fault.ChangeFault.{ChangeFault}
use Rattle.lis_store.proofs.Cleaned.{none_marked}
use Rattle.lis_store.proofs.Fitting.{most_all, all_fits}
use Rattle.lis_store.proofs.SavedAlone.{IsChange, saves_alone}
use Rattle.lis_store.proofs.ToldBy.{told_held}
use Rattle.lis_store.proofs.StoreSays.{file_of_filed, size_of_filed}
use Rattle.lis_store.proofs.Judged.{judged_refused, judged_done, all_pass}
use Rattle.lis_store.proofs.Told.{words_same, retold}
use Rattle.lis_store.specs.ReplacingIn.{AreInForm}
use Rattle.lis_store.proofs.Rebuilt.{IsRebuilt, turned_cases, set_by, had_filed, free_made, short_made, closed_made, made_edits, few_made}
use Rattle.lis_store.proofs.Under.{gained_up, unmet_closed, own_then, still_there, test_there, unmet_same}
use Rattle.lis_store.proofs.Declared.{metadata_are, word_new, word_other, named_other, word_kept, unnumbered, in_use_then, apart_then, marked_then, told_then, right_some, mkdir_alike}
use Rattle.lis_store.proofs.Crowded.{wider_told, unknown, full_at}
use Rattle.lis_store.proofs.Entailment.{up_has_number, closed_up}
use Rattle.lis_store.proofs.FileTests.{tested_word}
use Rattle.lis_store.proofs.Retaken.{settled_sound, in_form}
use Rattle.lis_store.proofs.Vacated.{rec_there}
use Rattle.lis_laws.proofs.Reached.{OneLink}
use Rattle.lis_laws.proofs.Steps.{mkdir_fits}
use Rattle.lis_graph.proofs.Filters.{filter_all}
use Rattle.lis_store.specs.declared.closing.Rebuild.TheVariants.{Meeting}
use Rattle.lis_laws.proofs.Forms as forms
use Rattle.lis_journal.specs.Journal.{shape_of}
use Rattle.lis_kept.specs.Image.{image_shape}

-- ---- the sizes of files
-- if a file meets a test, its slot has a record
met_rec : (t : Option Test) (o : Option FileRecord) → is_met_by t o ≡ true → (rec : FileRecord) × (o ≡ Some rec) × (is_met t rec.size ≡ true)
met_rec t o h = search (rules, both_ways)

-- ---- descriptions that are rebuilt
pub base_is : (k : Metadata) (test : Test) (number slot : ℕ) → base_at k (Meeting test number) slot ≡ number ∷ numbers_at k.ext slot
base_is k test number slot = ap (λ ns. number ∷ ns) (filter_all (λ n. true) (numbers_at k.ext slot) (λ n m. refl))

pub tested_is : (k : Metadata) (test : Test) (number : ℕ) → rebuilt k (Meeting test number) ≡ tested k (Some test) number
tested_is k test number = ap (anew k (is_met_at k (Some test))) (fun_ext (base_is k test number))

-- a word that is no test changes nothing
pub untested_same : (k : Metadata) (word : List ℕ) (number : ℕ) → test_of word ≡ None → Redescribes (tested k (test_of word) number) k.limits.files k k
untested_same k word number no_test = search (rules)

-- ---- memory with the word
module _ {p made : Metadata} {word : List ℕ} {rights : List ℕ} (form : AreInForm p) (may : MayDeclare p word rights) (stands : DeclaresUnder word rights p made) (sound_made : AreSound made) where
  abbrev number : ℕ
  number = stands.declares.number

  abbrev words : List (List ℕ)
  words = words_told p.dict rights

  made_is : made ≡ record p { dict = made.dict; declared = made.declared; axioms = made.axioms; marks = made.marks }
  made_is = subst (λ (k : Metadata). k ≡ record p { dict = k.dict; declared = k.declared; axioms = k.axioms; marks = k.marks }) (sym (metadata_are form.sound may stands)) refl

  abbrev meets : ℕ → Bool
  meets slot = is_met_at made (test_of word) slot

  -- what a slot has whose file meets the test, and what that entails
  abbrev base : ℕ → List ℕ
  base slot = number ∷ numbers_at p.ext slot

  abbrev gained : ℕ → List ℕ
  gained slot = closure made (base slot)

  ext_same : made.ext ≡ p.ext
  ext_same = ap (λ (k : Metadata). k.ext) made_is

  meets_is : (slot : ℕ) (rec : FileRecord) → rec_at p.catalog slot ≡ Some rec → meets slot ≡ is_met (test_of word) rec.size
  meets_is slot rec is = ap (λ (k : Metadata). is_met_by (test_of word) (rec_at k.catalog slot)) made_is ∙ ap (is_met_by (test_of word)) is

  met_file : (slot : ℕ) → meets slot ≡ true → (rec : FileRecord) × (rec_at p.catalog slot ≡ Some rec) × (is_met (test_of word) rec.size ≡ true)
  met_file slot met = met_rec (test_of word) (rec_at p.catalog slot) (ap (λ (k : Metadata). is_met_by (test_of word) (rec_at k.catalog slot)) (sym made_is) ∙ met)

  -- ---- words and numbers
  named_p : (n slot : ℕ) → has p.ext n slot ≡ true → IsSome (word_of p.dict n)
  named_p n slot had = named_all p form.sound form.free n slot had

  is_word : word_of made.dict number ≡ Some word
  is_word = word_new form.sound may stands

  kept_word : (n : ℕ) → IsSome (word_of p.dict n) → word_of made.dict n ≡ word_of p.dict n
  kept_word = word_kept form.sound may stands

  declared_made : declared_of made ≡ with_word (declared_of p) word
  declared_made = ap (λ (x : State). x.declared) (told_then form.sound may stands (λ _. []))

  axioms_made : axioms_of made ≡ under word (axioms_of p) words
  axioms_made = ap (λ (x : State). x.axioms) (told_then form.sound may stands (λ _. []))

  bare : is_valued word ≡ false
  bare = declarable_not_valued word may.form

  alone : (r : List ℕ) → OneLink (declared_of p) (axioms_of p) word r → ⊥
  alone r (inl (Head valued is)) = both_ways (is_valued word) bare valued
  alone r (inl (Weaker v)) = let found = declared_has_number p form.sound word v.from in unnumbered form.sound may stands found.0 found.1
  alone r (inr edge) = let found = among_axiom p form.sound (word, r) edge in unnumbered form.sound may stands found.1 found.4

  module _ (slot : ℕ) where
    abbrev set : List ℕ
    set = numbers_at p.ext slot

    -- the words of a description
    abbrev had : List (List ℕ)
    had = words_told p.dict set

    word_at : (w : List ℕ) → Among had w → (n : ℕ) × (word_of made.dict n ≡ Some w) × (has p.ext n slot ≡ true)
    word_at w m = let found = among_word p form.sound set w m in (found.0, kept_word found.0 (ap is_some found.1) ∙ found.1, found.2)

    closed_had : (v r : List ℕ) → Among had v → OneLink (declared_of p) (axioms_of p) v r → Among had r
    closed_had v r m link =
        let from = among_word p form.sound set v m in
        let up_r = linked_up (declared_of p) (axioms_of p) v r link in
        let to = up_has_number p form.sound from.0 v r from.1 up_r in
        word_among p form.sound set to.0 r to.1 (closed_up p form.sound form.closed slot from.0 to.0 v r from.1 to.1 from.2 up_r)

    weakest : meets slot ≡ false → (v : List ℕ) → Among had v → are_weaker (test_of word) (test_of v) ≡ true → ⊥
    weakest unmet v m weaker =
        let from = among_word p form.sound set v m in
        let rec = rec_there (rec_at p.catalog slot) (had_filed p form.free from.0 slot from.2) in
        let is_v : test_by (word_of p.dict from.0) ≡ test_of v = ap test_by from.1 in
        let met = sym (form.tests.met slot rec.0 rec.1 from.0 (ap (λ o. is_some o) is_v ∙ (tests_by (test_of word) (test_of v) weaker).1)) ∙ from.2 in
        both_ways (meets slot) unmet (meets_is slot rec.0 rec.1 ∙ met_weaker (test_of word) (test_of v) rec.0.size weaker (ap (λ t. is_met t rec.0.size) (sym is_v) ∙ met))

    weaker_had : meets slot ≡ true → (r : List ℕ) → Among (declared_of p) r → are_weaker (test_of r) (test_of word) ≡ true → Among had r
    weaker_had met r listed weaker =
        let to = declared_has_number p form.sound r listed in
        let rec = met_file slot met in
        let is_r : test_by (word_of p.dict to.0) ≡ test_of r = ap test_by to.1 in
        word_among p form.sound set to.0 r to.1
        (form.tests.met slot rec.0 rec.1 to.0 (ap (λ o. is_some o) is_r ∙ (tests_by (test_of r) (test_of word) weaker).0)
        ∙ (ap (λ t. is_met t rec.0.size) is_r ∙ met_weaker (test_of r) (test_of word) rec.0.size weaker rec.2))

    -- it gains the number, and what the words of the place entail
    gains : meets slot ≡ true → (n : ℕ) → has_number (gained slot) n ≡ true → (n ≡ number) ⊎ (has_number (wider p (is_gained p rights) slot) n ≡ true)
    gains met n has_it = by (gained_up (declared_of p) (axioms_of p) word words had alone (weaker_had met) w.0 (subst (λ ws. Among ws w.0) all_told (word_among made sound_made (gained slot) n w.0 w.1 has_it)))
      where
        w : (v : List ℕ) × (word_of made.dict n ≡ Some v)
        w = some_word (word_of made.dict n) (closure_named made (base slot) n has_it)

        all_told : words_told made.dict (gained slot) ≡ all_up (with_word (declared_of p) word) (under word (axioms_of p) words) (word ∷ had)
        all_told = closure_told made sound_made (base slot) (word ∷ had) numbered worded ∙ ap₂ (λ d a. all_up d a (word ∷ had)) declared_made axioms_made
          where
            numbered : (v : List ℕ) → (word ≡ v) ⊎ Among had v → (m : ℕ) × (word_of made.dict m ≡ Some v) × Among (base slot) m
            numbered v (inl same) = (number, is_word ∙ ap Some same, inl refl)
            numbered v (inr m) = let found = word_at v m in (found.0, found.1, inr (among_from_number set found.0 found.2))

            worded : (m : ℕ) (v : List ℕ) → word_of made.dict m ≡ Some v → (number ≡ m) ⊎ Among set m → Among (all_up (declared_of made) (axioms_of made) (word ∷ had)) v
            worded m v is (inl same) =
                all_up_has (declared_of made) (axioms_of made) (word ∷ had) v (inl (same_Some word v (sym is_word ∙ (ap (word_of made.dict) same ∙ is))))
            worded m v is (inr of) =
                let had_it = number_from_among set m of in
                all_up_has (declared_of made) (axioms_of made) (word ∷ had) v (inr (word_among p form.sound set m v (sym (kept_word m (named_p m slot had_it)) ∙ is) had_it))

        by : (word ≡ w.0) ⊎ Among (all_up (declared_of p) (axioms_of p) (words ++ had)) w.0 → (n ≡ number) ⊎ (has_number (wider p (is_gained p rights) slot) n ≡ true)
        by (inl same) = inl (one_number made sound_made n number w.0 w.1 (is_word ∙ ap Some same))
        by (inr up) =
            let found = among_word p form.sound (wider p (is_gained p rights) slot) w.0 (subst (λ ws. Among ws w.0) (sym (wider_told p form.sound form.free form.closed words rights refl slot)) up) in
            inr (subst (λ i. has_number (wider p (is_gained p rights) slot) i ≡ true) (one_number made sound_made found.0 n w.0 (kept_word found.0 (ap is_some found.1) ∙ found.1) w.1) found.2)

    gained_has : (n : ℕ) → has p.ext n slot ≡ true → has_number (gained slot) n ≡ true
    gained_has n had_it = let some = named_p n slot had_it in closure_has made sound_made (base slot) n (ap is_some (kept_word n some) ∙ some) (inr (among_from_number set n had_it))

    gained_number : has_number (gained slot) number ≡ true
    gained_number = closure_has made sound_made (base slot) number (ap is_some is_word) (inl refl)

    few_wider : meets slot ≡ true → length (wider p (is_gained p rights) slot) ≤ 127
    few_wider met =
        let rec = met_file slot met in
        let below = slot_is_below p.catalog slot form.sound.catalog (ap is_some rec.1) in
        let crowded = false_from_ne_true (is_crowded p (test_of word) rights slot) (λ h.
        both_ways (has_crowded p (test_of word) rights) may.few (full_at (is_crowded p (test_of word) rights) p.limits.files slot (omega (arith, below, form.sound.slots)) h)) in
        let more : nat_lt 127 (length (wider p (is_gained p rights) slot)) ≡ false = ap (λ b. b && nat_lt 127 (length (wider p (is_gained p rights) slot))) (sym (ap (is_met_by (test_of word)) rec.1 ∙ rec.2)) ∙ crowded in
        omega (arith, ltb-false 127 (length (wider p (is_gained p rights) slot)) more)

    pub few_gained : meets slot ≡ true → length (gained slot) ≤ 128
    few_gained met =
        let few = few_within (gained slot) (number ∷ wider p (is_gained p rights) slot) (sorted_where made.limits.props (is_gained made (base slot))) (λ n m. by n (gains met n (number_from_among (gained slot) n m))) in
        omega (arith, few, few_wider met)
      where
        by : (n : ℕ) → (n ≡ number) ⊎ (has_number (wider p (is_gained p rights) slot) n ≡ true) → Among (number ∷ wider p (is_gained p rights) slot) n
        by n (inl same) = inl (sym same)
        by n (inr more) = inr (among_from_number (wider p (is_gained p rights) slot) n more)

  -- ---- descriptions with the test
  module _ {q : Metadata} (gives : Redescribes (tested made (test_of word) number) made.limits.files made q) where
    anew_is : IsRebuilt meets base made q
    anew_is = record {
      sound = sound_made;
      filed = λ slot met. ap (λ (k : Metadata). is_some (rec_at k.catalog slot)) made_is ∙ ap is_some (met_file slot met).1;
      redescribes = subst (λ (e : Ext). Redescribes (anew made meets (λ slot. number ∷ numbers_at e slot)) made.limits.files made q) ext_same gives;
    }

    abbrev Sets : ℕ → Type 0
    Sets slot = ((meets slot ≡ true) × (numbers_at q.ext slot ≡ gained slot)) ⊎ ((meets slot ≡ false) × (numbers_at q.ext slot ≡ numbers_at p.ext slot))

    sets : (slot : ℕ) → Sets slot
    sets slot = subst (λ (e : Ext). ((meets slot ≡ true) × (numbers_at q.ext slot ≡ gained slot)) ⊎ ((meets slot ≡ false) × (numbers_at q.ext slot ≡ numbers_at e slot))) ext_same (set_by anew_is slot)

    -- ---- the store is well formed again
    old_on : (n slot : ℕ) → has p.ext n slot ≡ true → has q.ext n slot ≡ true
    old_on n slot had_it = by (sets slot)
      where
        by : Sets slot → has q.ext n slot ≡ true
        by (inl here) = ap (λ ns. has_number ns n) here.1 ∙ gained_has slot n had_it
        by (inr same) = ap (λ ns. has_number ns n) same.1 ∙ had_it

    others_closed : (slot a b : ℕ) → meets slot ≡ false → has made.ext a slot ≡ true → is_linked made a b ≡ true → has made.ext b slot ≡ true
    others_closed slot a b unmet had_a linked =
        let was : has p.ext a slot ≡ true = ap (λ (e : Ext). has e a slot) (sym ext_same) ∙ had_a in
        let w = some_word (word_of p.dict a) (named_p a slot was) in
        let is_a = kept_word a (ap is_some w.1) ∙ w.1 in
        let link = link_named made sound_made a b w.0 is_a linked in
        let one : OneLink (with_word (declared_of p) word) (under word (axioms_of p) words) w.0 link.0 = subst (λ d. OneLink d (under word (axioms_of p) words) w.0 link.0) declared_made
        (subst (λ es. OneLink (declared_of made) es w.0 link.0) axioms_made (link_cases (declared_of made) (axioms_of made) w.0 link.0 link.2)) in
        let to = word_at slot link.0
        (unmet_closed (declared_of p) (axioms_of p) word words (had slot) (λ m. let found = among_word p form.sound (numbers_at p.ext slot) word m in unnumbered form.sound may stands found.0 found.1)
        (weakest slot unmet) (closed_had slot) w.0 link.0 (word_among p form.sound (numbers_at p.ext slot) a w.0 w.1 was) one) in
        ap (λ (e : Ext). has e b slot) ext_same ∙ subst (λ i. has p.ext i slot ≡ true) (one_number made sound_made to.0 b link.0 to.1 link.1) to.2

    test_same : (n slot : ℕ) (w : List ℕ) → word_of p.dict n ≡ Some w → is_test w ≡ true → has q.ext n slot ≡ has p.ext n slot
    test_same n slot w is test = by (sets slot)
      where
        rest : (has p.ext n slot ≡ true) ⊎ (is_gained p rights n ≡ true) → has p.ext n slot ≡ true
        rest (inl had_it) = had_it
        rest (inr more) =
            let from = among_from_any (λ m. is_entailed p m n) rights more in
            let right = some_word (word_of p.dict from.0) (right_some form.sound may.are from.0 from.1) in
            let plain = sym (ap is_plain_by right.1) ∙ all_among (λ m. is_plain_by (word_of p.dict m)) rights from.0 may.under.plain from.1 in
            absurd (both_ways (is_test w) (plain_not_test w (led_plain p form.sound from.0 n right.0 w right.1 plain is from.2)) test)

        wide : (n ≡ number) ⊎ (has_number (wider p (is_gained p rights) slot) n ≡ true) → has p.ext n slot ≡ true
        wide (inl same) = absurd (named_other form.sound may stands n (ap is_some is) same)
        wide (inr more) =
            rest (or_cases (has p.ext n slot) (is_gained p rights n)
            (among_where p.ext.props (λ m. has p.ext m slot || is_gained p rights m) n (among_from_number (wider p (is_gained p rights) slot) n more)).1)

        by : Sets slot → has q.ext n slot ≡ has p.ext n slot
        by (inl here) =
            ap (λ ns. has_number ns n) here.1 ∙ same_tests (has_number (gained slot) n) (has p.ext n slot) (λ h. wide (gains slot here.0 n h)) (gained_has slot n)
        by (inr same) = ap (λ ns. has_number ns n) same.1

    abbrev end : Metadata
    end = record made { ext = q.ext; marks = q.marks }

    tests_then : TestsAreMet end
    tests_then = record {
      given = λ slot rec is n tag.
          let was = rec_was slot rec is in
          ap (λ o. is_some (test_by o)) (kept_word n (named_p n slot (form.in_use.tags slot rec was n tag))) ∙ form.tests.given slot rec was n tag;
      met = λ slot rec is n test. met slot rec (rec_was slot rec is) n (tested_word (word_of made.dict n) test) (cases_eq n number);
    }
      where
        rec_was : (slot : ℕ) (rec : FileRecord) → rec_at made.catalog slot ≡ Some rec → rec_at p.catalog slot ≡ Some rec
        rec_was slot rec is = ap (λ (k : Metadata). rec_at k.catalog slot) (sym made_is) ∙ is

        new : (slot : ℕ) (rec : FileRecord) → rec_at p.catalog slot ≡ Some rec → Sets slot → has q.ext number slot ≡ is_met (test_of word) rec.size
        new slot rec was (inl here) = ap (λ ns. has_number ns number) here.1 ∙ (gained_number slot ∙ (sym here.0 ∙ meets_is slot rec was))
        new slot rec was (inr same) =
            ap (λ ns. has_number ns number) same.1
            ∙ (false_from_ne_true (has p.ext number slot) (λ had_it. named_other form.sound may stands number (named_p number slot had_it) refl) ∙ (sym same.0 ∙ meets_is slot rec was))

        met : (slot : ℕ) (rec : FileRecord) → rec_at p.catalog slot ≡ Some rec → (n : ℕ) → (w : List ℕ) × (word_of made.dict n ≡ Some w) × (is_test w ≡ true)
            → (n ≡ number) ⊎ (n ≡ number → ⊥) → has q.ext n slot ≡ is_met (test_by (word_of made.dict n)) rec.size
        met slot rec was n w (inl same) =
            ap (λ i. has q.ext i slot) same ∙ (new slot rec was (sets slot) ∙ ap (λ o. is_met (test_by o) rec.size) (sym (ap (word_of made.dict) same ∙ is_word)))
        met slot rec was n w (inr differ) =
            let named = word_other form.sound may stands n differ in
            test_same n slot w.0 (sym named ∙ w.1) w.2
            ∙ (form.tests.met slot rec was n (ap (λ o. is_some (test_by o)) (sym named ∙ w.1) ∙ w.2) ∙ ap (λ o. is_met (test_by o) rec.size) (sym named))

    used_then : KeepsInUse end
    used_then = record {
      used = λ n some. use_stays made end n (λ set. set) (λ lefts. lefts) (λ slot was. used_had end n slot (old_on n slot (ap (λ (e : Ext). has e n slot) (sym ext_same) ∙ was))) (keeps.used n some);
      tags = λ slot rec is n tag. old_on n slot (ap (λ (e : Ext). has e n slot) (sym ext_same) ∙ keeps.tags slot rec is n tag);
      rights = keeps.rights;
    }
      where
        keeps : KeepsInUse made
        keeps = in_use_then form.sound may stands form.in_use

    sound_then : (j : Held) → PairsAreApart p → shape_of j ≡ image_shape p.limits → j.is_broken ≡ false → AreSound q → IsSound (settled q j)
    sound_then j pairs image unbroken after =
        subst (λ (k : Metadata). IsSound (settled k j)) (sym anew_is.redescribes.metadata)
        (settled_sound end j (record {
          sound = subst (λ (k : Metadata). AreSound k) anew_is.redescribes.metadata after;
          free = free_made anew_is (subst (λ (k : Metadata). FreeSlotsAreEmpty k) (sym made_is) form.free);
          closed = closed_made anew_is others_closed;
          short = short_made anew_is few_gained (subst (λ (k : Metadata). DescriptionsAreShort k) (sym made_is) form.short);
          in_use = used_then;
          tests = tests_then;
        }) (apart_then form.sound may stands pairs) (subst (λ (k : Metadata). shape_of j ≡ image_shape k.limits) (sym made_is) image) unbroken)

    limits_then : q.limits ≡ p.limits
    limits_then = ap (λ (k : Metadata). k.limits) anew_is.redescribes.metadata ∙ ap (λ (k : Metadata). k.limits) made_is

    edits_then : AreEditsFew p.ext q.ext
    edits_then = subst (λ (e : Ext). AreEditsFew e q.ext) ext_same (made_edits anew_is)

    -- ---- how much is marked
    abbrev rows : List ℕ
    rows = number ∷ numbers_where p.ext.props (is_gained p rights)

    turned_row : (slot n : ℕ) → meets slot ≡ true → differs (numbers_at made.ext slot) (gained slot) n ≡ true → Among rows n
    turned_row slot n met turned = by (turned_cases (numbers_at made.ext slot) (gained slot) n turned)
      where
        gets : has made.ext n slot ≡ false → (has p.ext n slot ≡ true) ⊎ (is_gained p rights n ≡ true) → n < p.ext.props → Among rows n
        gets none (inl had_it) below = absurd (both_ways (has made.ext n slot) none (ap (λ (e : Ext). has e n slot) ext_same ∙ had_it))
        gets none (inr more) below = inr (where_among p.ext.props (is_gained p rights) n below more)

        new : has made.ext n slot ≡ false → (n ≡ number) ⊎ (has_number (wider p (is_gained p rights) slot) n ≡ true) → Among rows n
        new none (inl same) = inl (sym same)
        new none (inr more) =
            let passes = among_where p.ext.props (λ m. has p.ext m slot || is_gained p rights m) n (among_from_number (wider p (is_gained p rights) slot) n more) in
            gets none (or_cases (has p.ext n slot) (is_gained p rights n) passes.1) passes.0

        by : ((has_number (gained slot) n ≡ true) × (has made.ext n slot ≡ false)) ⊎ ((has made.ext n slot ≡ true) × (has_number (gained slot) n ≡ false)) → Among rows n
        by (inl more) = new more.1 (gains slot met n more.0)
        by (inr fewer) = absurd (both_ways (has_number (gained slot) n) fewer.1 (gained_has slot n (ap (λ (e : Ext). has e n slot) (sym ext_same) ∙ fewer.0)))

    rows_few : (slot : ℕ) → meets slot ≡ true → length rows ≤ 128
    rows_few slot met =
        let within = few_within (numbers_where p.ext.props (is_gained p rights)) (wider p (is_gained p rights) slot) (sorted_where p.ext.props (is_gained p rights)) (λ n m.
        let passes = among_where p.ext.props (is_gained p rights) n m in
        where_among p.ext.props (λ i. has p.ext i slot || is_gained p rights i) n passes.0 (or_right (has p.ext n slot) (is_gained p rights n) passes.1)) in
        omega (arith, within, few_wider slot met)

    some_met : ((slot : ℕ) × (meets slot ≡ true)) ⊎ ((slot : ℕ) → meets slot ≡ false)
    some_met = by (list_any meets (range_with_len 0 p.limits.files)) refl
      where
        by : (b : Bool) → list_any meets (range_with_len 0 p.limits.files) ≡ b → ((slot : ℕ) × (meets slot ≡ true)) ⊎ ((slot : ℕ) → meets slot ≡ false)
        by true some = let found = among_from_any meets (range_with_len 0 p.limits.files) some in inl (found.0, found.2)
        by false none = inr (λ slot. false_from_ne_true (meets slot) (λ met.
            let rec = met_file slot met in
            let below = slot_is_below p.catalog slot form.sound.catalog (ap is_some rec.1) in
            both_ways (list_any meets (range_with_len 0 p.limits.files)) none
            (any_from_among meets (range_with_len 0 p.limits.files) slot (range_among 0 p.limits.files slot (omega arith) (omega (arith, below, form.sound.slots))) met)))

    few_more : marked_count q ≤ marked_count made + most_all p.limits
    few_more = subst (λ (k : Metadata). marked_count q ≤ marked_count made + most_all k.limits) (metadata_are form.sound may stands) (few_made anew_is some_met rows rows_few turned_row)

    -- ---- the state that it represents
    module _ (at : ℕ → List ℕ) {s : State} (tells : Tells p at s) (new : Among (known s) word → ⊥) (sizes : (f : Filed) → Among p.catalog.entries f → length (bytes_told p.limits at f.rec) ≡ f.rec.size) where
      abbrev t : State
      t = declared_under s word words

      state_made : state_of made at ≡ t
      state_made = told_then form.sound may stands at ∙ ap (λ (x : State). declared_under x word words) tells.state

      module _ (f : Filed) (m : Among p.catalog.entries f) where
        abbrev file : File
        file = file_told p.limits p.dict at f

        filed : Among s.files file
        filed = file_of_filed p at s form.sound form.free tells f m

        told : words_told p.dict (numbers_at p.ext f.slot) ≡ description s file
        told = tells.described f (contains_from_among p.catalog.entries f m)

        meets_file : meets f.slot ≡ is_met (test_of word) (length file.bytes)
        meets_file = meets_is f.slot f.rec (filed_rec p.catalog form.sound.catalog f m) ∙ sym (ap (is_met (test_of word)) (sizes f m))

        described : words_told q.dict (numbers_at q.ext f.slot) ≡ description t file
        described = ap (λ (k : Metadata). words_told k.dict (numbers_at q.ext f.slot)) anew_is.redescribes.metadata ∙ by (sets f.slot)
          where
            own : List (List ℕ)
            own = own_words t.declared file

            numbered : (w : List ℕ) → meets f.slot ≡ true → Among (description s file) w ⊎ ((word ≡ w) × (is_met (test_of word) (length file.bytes) ≡ true)) → (n : ℕ) × (word_of made.dict n ≡ Some w) × Among (base f.slot) n
            numbered w met (inl old_word) =
                let found = word_at f.slot w (subst (λ ws. Among ws w) (sym told) old_word) in
                (found.0, found.1, inr (among_from_number (numbers_at p.ext f.slot) found.0 found.2))
            numbered w met (inr here) = (number, is_word ∙ ap Some here.0, inl refl)

            worded : meets f.slot ≡ true → (n : ℕ) (w : List ℕ) → word_of made.dict n ≡ Some w → (number ≡ n) ⊎ Among (numbers_at p.ext f.slot) n → Among (description t file) w
            worded met n w is (inl same) =
                subst (λ v. Among (description t file) v) (same_Some word w (sym is_word ∙ (ap (word_of made.dict) same ∙ is)))
                (test_there s tells.formed word bare new words file filed (sym meets_file ∙ met))
            worded met n w is (inr of) =
                let had_it = number_from_among (numbers_at p.ext f.slot) n of in
                still_there s tells.formed word bare new words file filed w
                (subst (λ ws. Among ws w) told (word_among p form.sound (numbers_at p.ext f.slot) n w (sym (kept_word n (named_p n f.slot had_it)) ∙ is) had_it))

            by : Sets f.slot → words_told made.dict (numbers_at q.ext f.slot) ≡ description t file
            by (inl here) =
                ap (words_told made.dict) here.1
                ∙ (closure_told made sound_made (base f.slot) own
                (λ w of. numbered w here.0 (own_then s tells.formed word bare new words file filed w of))
                (λ n w is of. subst (λ (x : State). Among (all_up x.declared x.axioms own) w) (sym state_made) (worded here.0 n w is of))
                ∙ ap (λ (x : State). all_up x.declared x.axioms own) state_made)
            by (inr same) =
                ap (words_told made.dict) same.1
                ∙ (words_same p.dict made.dict (numbers_at p.ext f.slot) (λ n of. kept_word n (named_p n f.slot (number_from_among (numbers_at p.ext f.slot) n of)))
                ∙ (told ∙ sym (unmet_same s tells.formed word bare new words file filed (sym meets_file ∙ same.0))))

      tells_then : WellFormed t → Tells q at t
      tells_then formed =
          retold p q
          (subst (λ (k : Metadata). k ≡ record p { dict = k.dict; declared = k.declared; axioms = k.axioms; ext = k.ext; marks = k.marks })
          (sym (anew_is.redescribes.metadata ∙ ap (λ (k : Metadata). record k { ext = q.ext; marks = q.marks }) (metadata_are form.sound may stands))) refl)
          (λ f m n tag. ap (λ (k : Metadata). word_of k.dict n) anew_is.redescribes.metadata
          ∙ kept_word n (named_p n f.slot (form.in_use.tags f.slot f.rec (filed_rec p.catalog form.sound.catalog f m) n (number_from_among f.rec.tags n tag))))
          at s t tells refl (ap (λ (k : Metadata). state_of k at) anew_is.redescribes.metadata ∙ state_made) formed
          (subst (λ (k : Metadata). AreUsed k) (sym anew_is.redescribes.metadata) used_then.used) described

-- ---- a call that declares a word
module _ {old : Stored} {word : List ℕ} {rights numbers : List ℕ} {q : Metadata} (sound : IsSound old) (unbroken : old.is_broken ≡ false) (may_be : MayDeclare old.metadata word numbers) (same : rights ≡ numbers)
    (declares : DeclaresTested word rights old.metadata q) where
  may : MayDeclare old.metadata word rights
  may = subst (λ (ns : List ℕ). MayDeclare old.metadata word ns) (sym same) may_be

  pub declared_change : IsChange old q
  declared_change = record {
    settles = sound_then (in_form old sound) may declares.stands declares.sound declares.gives old.journal sound.pairs sound.image (sound.journal unbroken);
    limits = limits_then (in_form old sound) may declares.stands declares.sound declares.gives;
    room =
        let more = few_more (in_form old sound) may declares.stands declares.sound declares.gives in
        omega (arith, (marked_then sound.metadata may declares.stands).few, none_marked old.metadata (sound.clean unbroken), may.short, more, all_fits old.metadata.limits sound.metadata.range, sound.few unbroken);
    edits = edits_then (in_form old sound) may declares.stands declares.sound declares.gives;
  }

  pub declared_holds : {T : Type 0} {new : Stored} {before after : Meaning} {result : Result T ChangeFault} {base : State} → Saves q old.journal new before after result → (place : List Formula) → is_property word ≡ true
      → words_told old.metadata.dict numbers ≡ words_at place → first_refusal (word_checks old.metadata place word) ≡ None → (s : State) → StoreHolds old before base s
      → Holds base (record { state = s; place = place }) (mkdir (record { state = s; place = place }) word) new before after result
  declared_holds {before = before} {base = base} saves place kept named none s holds =
      let now : Situation = record { state = s; place = place } in
      let t : State = declared_under s word (words_at place) in
      let fits = told_held old before base s sound holds in
      let told : words_told old.metadata.dict rights ≡ words_at place = ap (words_told old.metadata.dict) same ∙ named in
      let passes : first_refusal (mkdir_checks now word t) ≡ None = mkdir_alike sound fits place word kept ∙ none in
      let formed : WellFormed t = forms.declares s fits.tells.formed word (words_at place) (mkdir_fits now word kept (all_pass (mkdir_checks now word t) passes)) in
      let saved : IsSaved old.metadata fits.kept = λ area n lt unmarked. holds.written area n lt in
      saves_alone old sound unbroken declared_change saves now t holds
      (record {
        tells = subst (λ ws. Tells q fits.kept (declared_under s word ws)) told
            (tells_then (in_form old sound) may declares.stands declares.sound declares.gives fits.kept fits.tells
            (unknown sound fits (words_told old.metadata.dict rights) rights refl word (declarable_not_valued word may.form) may.new) (size_of_filed old s sound fits)
            (subst (λ ws. WellFormed (declared_under s word ws)) (sym told) formed));
        saved = declares.gives.saved fits.kept ((marked_then sound.metadata may declares.stands).saved fits.kept saved);
      })
      (judged_done now (mkdir_checks now word t) (changed now t) passes)

-- one that is refused
pub declared_refused : {old : Stored} {m : Meaning} {base : State} → IsSound old → (place : List Formula) (word : List ℕ) (refusal : Refusal) → is_property word ≡ true
    → first_refusal (word_checks old.metadata place word) ≡ Some refusal → (s : State) → StoreHolds old m base s → mkdir (record { state = s; place = place }) word ≡ refused (record { state = s; place = place }) refusal
declared_refused {old} {m} {base} sound place word refusal kept first s holds =
    let now : Situation = record { state = s; place = place } in
    let t : State = declared_under s word (words_at place) in
    judged_refused now (mkdir_checks now word t) (changed now t) refusal (mkdir_alike sound (told_held old m base s sound holds) place word kept ∙ first)
