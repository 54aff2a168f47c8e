-- What memory keeps after a file is put into a vacant slot.
use Rattle.std.proofs.Common.{rules}
use Rattle.lis_store.proofs.Common.{◌≡◌, ◌⊎◌, refl, sym, ap, ap₂, ◌∙◌, subst, inl, inr, ℕ, zero, suc, if◌then◌else◌, Bool, true, false, List, [], length, get_or, set, Option, None, Some, is_some, arith, get_or-set_same, get_or-set_other, ◌++◌, cases_eq, ne_eqb, same_Some, Among, among_append, among_left, number_of, word_of, word_from_number, number_from_word, slot_of, rec_at, Ext, has, numbers_at, FileRecord, up, all_up, is_test, test_of, is_met, met_tests, up_from_entails, entailing, among_from_has_word, Metadata, block_of, AreSound, FreeSlotsAreEmpty, KeepsInUse, emptied, declared_of, axioms_of, is_used, AreUsed, test_by, link_named, named_all, some_number, used_flagged, used_had, both_ways, eq-eqb, false_from_ne_true, has_number, up_trans, entailed_in, has_word_from_among, is_linked, used_left}
use Rattle.lis_catalog.specs.Catalog.{with_filed}
use Rattle.lis_catalog.proofs.Laws.{rec_at-with_filed}
use Rattle.lis_kept.specs.Areas.Area.{Files as FileArea}
use Rattle.lis_kept.proofs.Without.{none_here}
use Rattle.lis_store.specs.Stored.{AreClosed, DescriptionsAreShort, TestsAreMet}
use Rattle.lis_store.specs.Drafts.{Draft}
use Rattle.lis_store.specs.Admitting.{described_by}
use Rattle.lis_store.specs.Adding.{is_one_of, AreNumbered, numbers_named, with_heads, learnt_words}
use Rattle.lis_store.specs.ReplacingIn.{AreInForm, MayComeIn, IsVacant, SettlesIn, record_of}
use Rattle.lis_store.proofs.Entailment.{up_has_number}
use Rattle.lis_store.proofs.FileTests.{test_flagged, assigned_no_test, test_described, flagged_before, tested_word}
use Rattle.lis_store.proofs.HeadsUsed.{IsUsedFor, used_for}
use Rattle.lis_store.proofs.HeadsUsed.IsUsedFor.{Flagged, HadAt, NamedLeft}
use Rattle.lis_store.proofs.Learnt.{left_stays, word_before, link_before}
use Rattle.lis_store.proofs.MetTests.{met_numbered}
use Rattle.lis_store.proofs.Naming.{one_of, of_one, named_has, named_few}
use Rattle.lis_store.proofs.PutIn.{heads_described, entailed_is, own_numbered, behind_itself}

module _ {slot : ℕ} {old : List ℕ} {draft : Draft} {blocks : List ℕ} {v q : Metadata} (vacant : IsVacant slot old v) (may : MayComeIn v draft) (settles : SettlesIn slot draft blocks v q) where
  -- the metadata before, without the description in the slot
  abbrev p : Metadata
  p = emptied v slot

  abbrev l : Metadata
  l = settles.learnt

  abbrev words : List (List ℕ)
  words = described_by v draft

  abbrev numbers : List ℕ
  numbers = numbers_named l.dict words

  abbrev pub rec : FileRecord
  rec = record_of (numbers_named l.dict draft.assigned) draft blocks

  -- the metadata at the end
  abbrev last : Ext → List Bool → Metadata
  last ext marks = record v { dict = l.dict; catalog = with_filed v.catalog slot rec; ext = ext; marks = marks }

  abbrev pub end : Metadata
  end = last q.ext q.marks

  abbrev filed : Metadata → Metadata
  filed k = record k { catalog = with_filed k.catalog slot rec; marks = set k.marks (block_of k.limits FileArea slot) true }

  pub described_is : settles.described ≡ record v { dict = l.dict; ext = settles.described.ext; marks = settles.described.marks }
  described_is = settles.describes.metadata ∙ ap (λ (x : Metadata). record x { ext = settles.described.ext; marks = settles.described.marks }) settles.own.learns.metadata

  last_is : q ≡ last settles.described.ext (set settles.described.marks (block_of v.limits FileArea slot) true)
  last_is = settles.files.metadata ∙ ap filed described_is

  pub end_is : q ≡ end
  end_is = last_is ∙ ap₂ last (sym (ap (λ (x : Metadata). x.ext) last_is)) (sym (ap (λ (x : Metadata). x.marks) last_is))

  pub limits_same : q.limits ≡ v.limits
  limits_same = ap (λ (x : Metadata). x.limits) end_is

  -- ---- the slot
  absent : slot_of v.catalog draft.name ≡ None
  absent = may.new

  pub rec_here : rec_at end.catalog slot ≡ Some rec
  rec_here = rec_at-with_filed v.catalog slot rec slot absent vacant.free ∙ ap (λ b. if b then Some rec else rec_at v.catalog slot) (eq-eqb slot slot refl)

  rec_other : (at : ℕ) → (at ≡ slot → ⊥) → rec_at end.catalog at ≡ rec_at v.catalog at
  rec_other at differ = search (rules, rec_at-with_filed, absent, ne_eqb)

  same_rec : (at : ℕ) (r : FileRecord) → at ≡ slot → rec_at end.catalog at ≡ Some r → rec ≡ r
  same_rec at r same there = same_Some rec r (sym rec_here ∙ (ap (rec_at end.catalog) (sym same) ∙ there))

  -- ---- descriptions
  pub sets_are : q.ext.sets ≡ set v.ext.sets slot numbers
  sets_are = ap (λ (x : Metadata). x.ext.sets) last_is ∙ (settles.describes.sets ∙ ap (λ (x : Metadata). set x.ext.sets slot numbers) settles.own.learns.metadata)

  pub set_here : numbers_at q.ext slot ≡ numbers
  set_here = ap (λ ss. get_or ss slot []) sets_are ∙ get_or-set_same v.ext.sets slot numbers [] (omega (arith, vacant.below, vacant.sound.files))

  pub set_other : (at : ℕ) → (at ≡ slot → ⊥) → numbers_at q.ext at ≡ numbers_at p.ext at
  set_other at differ = ap (λ ss. get_or ss at []) sets_are ∙ (get_or-set_other v.ext.sets slot at numbers [] differ ∙ sym (get_or-set_other v.ext.sets slot at [] [] differ))

  has_other : (n at : ℕ) → (at ≡ slot → ⊥) → has q.ext n at ≡ has p.ext n at
  has_other n at differ = ap (λ ns. has_number ns n) (set_other at differ)

  -- ---- words
  -- each word that gets a number is in the description
  learnt_described : (word : List ℕ) → Among (with_heads (learnt_words draft)) word → Among words word
  learnt_described = heads_described vacant.sound may

  sound_end : AreSound end
  sound_end = subst (λ (k : Metadata). AreSound k) end_is settles.sound

  has_here : (n : ℕ) → has q.ext n slot ≡ is_one_of words (word_of l.dict n)
  has_here n = ap (λ ns. has_number ns n) set_here ∙ named_has l.dict sound_end.dict words n

  -- ---- what is in use
  used_end : (n : ℕ) → is_used p n ≡ true → is_used end n ≡ true
  used_end n used = by (used_for p n used)
    where
      had : (at : ℕ) → has p.ext n at ≡ true → (at ≡ slot) ⊎ (at ≡ slot → ⊥) → is_used end n ≡ true
      had at h (inl same) = absurd (both_ways (has p.ext n at) (ap (has p.ext n) same ∙ none_here v.ext slot n) h)
      had at h (inr differ) = used_had end n at (has_other n at differ ∙ h)

      by : IsUsedFor p n → is_used end n ≡ true
      by (Flagged bit) = used_flagged end n bit
      by (HadAt at h) = had at h (cases_eq at slot)
      by (NamedLeft left) = used_left end n (left_stays v l (with_heads (learnt_words draft)) settles.own.learns vacant.sound n left)

  used_then : AreUsed end
  used_then n some = from (word_of l.dict n) refl some
    where
      by : (word : List ℕ) → word_of l.dict n ≡ Some word → (word_of v.dict n ≡ Some word) ⊎ Among (with_heads (learnt_words draft)) word → is_used end n ≡ true
      by word is (inl was) = used_end n (vacant.form.in_use.used n (ap is_some was))
      by word is (inr m) = used_had end n slot (has_here n ∙ of_one words (word_of l.dict n) word is (learnt_described word m))

      from : (o : Option (List ℕ)) → word_of l.dict n ≡ o → is_some o ≡ true → is_used end n ≡ true
      from None is none = absurd (both_ways false refl none)
      from (Some word) is known = by word is (word_before v l (with_heads (learnt_words draft)) settles.own.learns vacant.sound settles.own.sound n word is)

  -- the words assigned to the file are words of its description
  given_word : (n : ℕ) → has_number rec.tags n ≡ true → (w : List ℕ) × (word_of l.dict n ≡ Some w) × Among draft.assigned w
  given_word n tag = one_of draft.assigned (word_of l.dict n) (sym (named_has l.dict sound_end.dict draft.assigned n) ∙ tag)

  tags_described : (n : ℕ) → has_number rec.tags n ≡ true → has q.ext n slot ≡ true
  tags_described n tag =
      let found = given_word n tag in
      has_here n
      ∙ of_one words (word_of l.dict n) found.0 found.1
      (learnt_described found.0 (behind_itself (learnt_words draft) found.0 (among_left draft.assigned (draft.own) found.0 found.2)))

  in_use_then : KeepsInUse end
  in_use_then = record {
    used = used_then;
    tags = λ at r is n tag. elim (cases_eq at slot) [
      | inl same ↦ ap (has q.ext n) same ∙ tags_described n (subst (λ (x : FileRecord). has_number x.tags n ≡ true) (sym (same_rec at r same is)) tag)
      | inr differ ↦ has_other n at differ ∙ vacant.form.in_use.tags at r (sym (rec_other at differ) ∙ is) n tag
    ];
    rights = vacant.form.in_use.rights;
  }

  -- ---- tests
  -- each file has the tests that its size meets, and no new word is a test
  test_was : (n : ℕ) (word : List ℕ) → word_of l.dict n ≡ Some word → is_test word ≡ true → word_of v.dict n ≡ Some word
  test_was n word is test = flagged_before v vacant.sound l.dict settles.own.learns.keeps n word (test_flagged end sound_end n word is test) is

  tests_then : TestsAreMet end
  tests_then = record {
    given = λ at r there n tag. elim (cases_eq at slot) [
      | inl same ↦
          let found = given_word n (subst (λ (x : FileRecord). has_number x.tags n ≡ true) (sym (same_rec at r same there)) tag) in
          ap (λ o. is_some (test_by o)) found.1 ∙ assigned_no_test v vacant.sound draft.assigned may.assignable found.0 found.2
      | inr differ ↦ false_from_ne_true (is_some (test_by (word_of l.dict n))) (λ test.
          let w = tested_word (word_of l.dict n) test in
          both_ways (is_some (test_by (word_of v.dict n))) (vacant.form.tests.given at r (sym (rec_other at differ) ∙ there) n tag)
          (ap (λ o. is_some (test_by o)) (test_was n w.0 w.1 w.2) ∙ w.2))
    ];
    met = λ at r there n test.
        let w = tested_word (word_of l.dict n) test in
        let was = test_was n w.0 w.1 w.2 in
        let here : is_met (test_of w.0) r.size ≡ is_met (test_by (word_of l.dict n)) r.size = ap (λ o. is_met (test_by o) r.size) (sym w.1) in
        elim (cases_eq at slot) [
          | inl same ↦
              ap (has q.ext n) same
              ∙ (has_here n
              ∙ (ap (is_one_of words) w.1
              ∙ (test_described v vacant.sound draft may.assignable may.own n w.0 was w.2
              ∙ (ap (λ (x : FileRecord). is_met (test_of w.0) x.size) (same_rec at r same there) ∙ here))))
          | inr differ ↦
              has_other n at differ
              ∙ (vacant.form.tests.met at r (sym (rec_other at differ) ∙ there) n (ap (λ o. is_some (test_by o)) was ∙ w.2)
              ∙ (ap (λ o. is_met (test_by o) r.size) was ∙ here))
        ];
  }

  -- ---- links
  abbrev own : List (List ℕ)
  own = learnt_words draft ++ met_tests (declared_of end) draft.size

  entailed_end : all_up (declared_of end) (axioms_of end) own ≡ words
  entailed_end = ap (λ (k : Metadata). described_by k draft) (sym settles.own.learns.metadata) ∙ entailed_is vacant.sound may settles.own.learns

  -- of its own words the tests are declared, and the others get numbers
  own_has_number : (w : List ℕ) → Among own w → (n : ℕ) × (word_of l.dict n ≡ Some w)
  own_has_number w m = by (among_append (learnt_words draft) (met_tests (declared_of end) draft.size) w m)
    where
      by : Among (learnt_words draft) w ⊎ Among (met_tests (declared_of end) draft.size) w → (n : ℕ) × (word_of l.dict n ≡ Some w)
      by (inl learnt) =
          let number = some_number (number_of l.dict w) (own_numbered vacant.sound may settles.own.learns w (has_word_from_among (learnt_words draft) w learnt)) in
          (number.0, word_from_number l.dict sound_end.dict w number.0 number.1)
      by (inr met) = met_numbered end sound_end draft.size w met

  source : (word : List ℕ) → Among words word → (w : List ℕ) × Among own w × Among (up (declared_of end) (axioms_of end) w) word
  source word m = entailing (declared_of end) (axioms_of end) own word (subst (λ ws. Among ws word) (sym entailed_end) m)

  pub described_numbered : AreNumbered l.dict words
  described_numbered word h =
      let found = source word (among_from_has_word words word h) in
      let number = own_has_number found.0 found.1 in
      let there = up_has_number end sound_end number.0 found.0 word number.1 found.2 in
      ap is_some (number_from_word l.dict sound_end.dict word there.0 there.1)

  -- the description has all to which its words are linked
  link_described : (a b : ℕ) → is_one_of words (word_of l.dict a) ≡ true → is_linked end a b ≡ true → is_one_of words (word_of l.dict b) ≡ true
  link_described a b h linked =
      let D = declared_of end in
      let A = axioms_of end in
      let word = one_of words (word_of l.dict a) h in
      let to = link_named end sound_end a b word.0 word.1 linked in
      let found = source word.0 word.2 in
      let step = up_from_entails D A word.0 to.0 (suc zero, (to.0, to.2, refl)) in
      let there = entailed_in D A own found.0 to.0 found.1 (up_trans D A found.0 word.0 to.0 found.2 step) in
      of_one words (word_of l.dict b) to.0 to.1 (subst (λ ws. Among ws to.0) entailed_end there)

  closed_then : AreClosed end
  closed_then at a b h linked = elim (cases_eq at slot) [
    | inl same ↦ ap (has q.ext b) same ∙ (has_here b ∙ link_described a b (sym (has_here a) ∙ (ap (has q.ext a) (sym same) ∙ h)) linked)
    | inr differ ↦
        let was : has p.ext a at ≡ true = sym (has_other a at differ) ∙ h in
        let before = link_before v l (with_heads (learnt_words draft)) settles.own.learns vacant.sound settles.own.sound a b (named_all p vacant.form.sound vacant.form.free a at was)
        (subst (λ (k : Metadata). is_linked k a b ≡ true) (sym settles.own.learns.metadata) linked) in
        has_other b at differ ∙ vacant.form.closed at a b was before
  ]

  free_then : FreeSlotsAreEmpty end
  free_then at none n = elim (cases_eq at slot) [
    | inl same ↦ absurd (both_ways (is_some (rec_at end.catalog at)) (ap is_some none) (ap is_some (ap (rec_at end.catalog) same ∙ rec_here)))
    | inr differ ↦ has_other n at differ ∙ vacant.form.free at (sym (rec_other at differ) ∙ none) n
  ]

  short_then : DescriptionsAreShort end
  short_then at = elim (cases_eq at slot) [
    | inl same ↦ omega (arith, ap length (ap (numbers_at q.ext) same ∙ set_here), named_few l.dict sound_end.dict words, may.short)
    | inr differ ↦ omega (arith, ap length (set_other at differ), vacant.form.short at)
  ]

  pub form_end : AreInForm end
  form_end = search (rules, sound_end, free_then, closed_then, short_then, in_use_then, tests_then)
