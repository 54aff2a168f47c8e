-- What removing a declaration gives.
use Rattle.std.proofs.Common.{eq-eqb}
use Rattle.lis_store.proofs.Common.{◌≡◌, ◌⊎◌, refl, sym, ap, ap₂, ◌∙◌, subst, inl, inr, ℕ, ◌+◌, ◌<◌, ◌≤◌, ◌==◌, not, ◌&&◌, ◌||◌, Bool, true, false, if◌then◌else◌, List, [], ◌∷◌, length, slice_get, Option, Some, None, is_some, IsSome, Result, arith, get_or-set_other, list_any, and_parts, cases_eq, cases_lt, ne_eqb, not_from_false, not-true, not-false, same_Some, Among, contains_from_among, among_filter, filter_among, Meaning, looked, is_taken, number_of, word_of, word_from_number, Filed, rec_at, has, numbers_at, FileRecord, Pair, same_word, head_bytes, is_valued, is_test, has_word, Refusal, State, File, WellFormed, own_words, description, is_met, Situation, refused, rmdir, sorted_all_up, filter_le, same_word_decides, Metadata, marked_count, is_own_link, has_pair, AreSound, FreeSlotsAreEmpty, KeepsInUse, bit_of, is_declared, declared_of, state_of, is_head_by, is_left_of, is_left_head_of, is_had, is_named_left, Tells, test_by, filed_rec, among_word, word_among, among_slot, used_had, differs, or_left, both_ways, false_from_ne_true, any_from_among, has_number, changed, same_tests, is_linked, words_told, file_told, among_from_number, number_from_among, one_number}
use Rattle.lis_content.proofs.Numbers.{neither}
use Rattle.lis_model.specs.Changes.{undeclared}
use Rattle.lis_model.specs.Step.{is_in_use, rmdir_checks, first_refusal}
use Rattle.lis_laws.proofs.Chains.{head_no_test}
use Rattle.lis_laws.proofs.Known.{described_within}
use Rattle.lis_laws.proofs.Sources.{test_had}
use Rattle.lis_kept.specs.Undeclaring.{is_right_of, is_named_by, is_needed, MayUndeclare, Undeclares}
use Rattle.lis_kept.proofs.Numbered.{Numbers, numbers_are}
use Rattle.lis_kept.proofs.OwnLinks.{own_head, unnamed_to}
use Rattle.lis_kept.proofs.Used.{any_or}
use Rattle.lis_kept.proofs.NeededTold.{may_undeclare, needed_told}
use Rattle.lis_store.specs.Stored.{Stored, PairsAreApart, AreClosed, TestsAreMet, IsSound, StoreHolds}
use Rattle.lis_store.specs.Saving.{Saves}
use Rattle.lis_store.specs.Judging.{is_needed_by, undeclare_checks, IsUndeclarable}
use Rattle.lis_store.specs.ReplacingIn.{AreInForm}
use Rattle.lis_store.specs.Testing.{without_number, undescribed, UndeclaresUnmet}
use Rattle.lis_store.specs.Changes.{Holds, AreEditsFew}
use Rattle.lis_store.specs.declared.change_fault.ChangeFault.{ChangeFault}
use Rattle.lis_store.proofs.SavedAlone.{IsChange, saves_alone}
use Rattle.lis_store.proofs.StoreSays.{described_told, file_of_filed}
use Rattle.lis_store.proofs.HeadsUsed.{use_stays}
use Rattle.lis_store.proofs.Judged.{judged_refused, judged_done, same_first}
use Rattle.lis_store.proofs.Cleaned.{none_marked}
use Rattle.lis_store.proofs.Fitting.{most_all, all_few, all_fits}
use Rattle.lis_store.proofs.Rebuilt.{given_then, redescribed_edits, unturned}
use Rattle.lis_store.proofs.Told.{words_same, retold}
use Rattle.lis_store.proofs.Declared.{declared_told}
use Rattle.lis_store.proofs.Without.{without_past, is_other}
use Rattle.lis_laws.proofs.Touched.{had_test, undeclared_split}
use Rattle.lis_store.proofs.FileTests.{tested_word}
use Rattle.lis_store.proofs.Retaken.{settled_sound}
use Rattle.lis_laws.proofs.Forms as forms
use Rattle.lis_journal.specs.Journal.{shape_of}
use Rattle.lis_kept.specs.Image.{image_shape}

-- ---- a declared word
module _ (k : Metadata) (sound : AreSound k) (word : List ℕ) (n : ℕ) (numbered : number_of k.dict word ≡ Some n) (declared : is_declared k word ≡ true) where
  word_at_number : word_of k.dict n ≡ Some word
  word_at_number = word_from_number k.dict sound.dict word n numbered

  bit : is_taken k.declared n ≡ true
  bit = ap (bit_of k.declared) (sym numbered) ∙ declared

  -- it may be removed if nothing needs it, once no description has it
  module _ (in_use : KeepsInUse k) (closed : AreClosed k) (tests : TestsAreMet k) (unneeded : is_needed k n ≡ false) where
    abbrev tested : Bool
    tested = is_some (test_by (word_of k.dict n))

    neither_had : (not tested && is_had k.ext n) ≡ false
    neither_had = (neither (not tested && is_had k.ext n) (list_any (is_named_by k.dict n) k.axioms) unneeded).0

    unnamed : (is_named_left k n || list_any (is_right_of n) k.axioms) ≡ false
    unnamed =
        ap (λ b. b || list_any (is_right_of n) k.axioms) (sym (any_or (is_left_of n) (is_left_head_of k.dict n) k.axioms))
        ∙ (sym (any_or (λ slot. is_left_of n slot || is_left_head_of k.dict n slot) (is_right_of n) k.axioms)
        ∙ (neither (not tested && is_had k.ext n) (list_any (is_named_by k.dict n) k.axioms) unneeded).1)

    lefts : is_named_left k n ≡ false
    lefts = (neither (is_named_left k n) (list_any (is_right_of n) k.axioms) unnamed).0

    not_right : (slot left right : ℕ) → slice_get k.axioms slot ≡ Some (Pair left right) → right ≡ n → ⊥
    not_right slot left right is same =
        both_ways (list_any (is_right_of n) k.axioms) (neither (is_named_left k n) (list_any (is_right_of n) k.axioms) unnamed).1
        (any_from_among (is_right_of n) k.axioms (Pair left right) (among_slot k.axioms slot (Pair left right) is) (eq-eqb right n same))

    may_be_undeclared : MayUndeclare n (undescribed k)
    may_be_undeclared = by tested refl
      where
        not_head : (o : Option (List ℕ)) → tested ≡ true → is_head_by o (word_of k.dict n) ≡ true → ⊥
        not_head None test h = both_ways false refl h
        not_head (Some w) test h = at (word_of k.dict n) refl test h
          where
            at : (r : Option (List ℕ)) → word_of k.dict n ≡ r → tested ≡ true → is_head_by (Some w) (word_of k.dict n) ≡ true → ⊥
            at None is test h = both_ways (is_head_by (Some w) (word_of k.dict n)) (ap (is_head_by (Some w)) is) h
            at (Some v) is test h =
                let both = and_parts (is_valued w) (same_word (head_bytes w) v) (sym (ap (is_head_by (Some w)) is) ∙ h) in
                head_no_test w (subst (λ u. is_test u ≡ true) (sym ((same_word_decides (head_bytes w) v).0 both.1)) (sym (ap (λ o. is_some (test_by o)) is) ∙ test))

        by : (b : Bool) → tested ≡ b → MayUndeclare n (undescribed k)
        by true test = record {
          declared = bit;
          had = refl;
          lefts = lefts;
          rights = not_right;
          tags = λ slot rec is. false_from_ne_true (has_number rec.tags n) (λ tag. both_ways tested (tests.given slot rec is n tag) test);
          heads = λ m. false_from_ne_true (is_head_by (word_of k.dict m) (word_of k.dict n)) (not_head (word_of k.dict m) test);
        }
        by false plain =
            let had : is_had k.ext n ≡ false = sym (ap (λ b. not b && is_had k.ext n) plain) ∙ neither_had in
            let headed : (slot x : ℕ) → has k.ext x slot ≡ true → is_head_by (word_of k.dict x) (word_of k.dict n) ≡ true → has k.ext n slot ≡ true = λ slot x h is.
            closed slot x n h (or_left (is_own_link (declared_of k) (word_of k.dict x) (word_of k.dict n)) (has_pair k.axioms x n) (own_head (declared_of k) (word_of k.dict x) (word_of k.dict n) is)) in
            let may = may_undeclare k sound in_use n headed bit had lefts not_right in
            record { declared = may.declared; had = refl; lefts = may.lefts; rights = may.rights; tags = may.tags; heads = may.heads }

  -- the word is in use in the state exactly if memory needs its number
  in_use_told : (at : ℕ → List ℕ) (s : State) → FreeSlotsAreEmpty k → Tells k at s → is_in_use s word ≡ is_needed k n
  in_use_told at s free tells = ap (λ (x : State). is_in_use x word) (sym tells.state) ∙ needed_told k sound free at (described_told k at s sound free tells) n word word_at_number

-- ---- what files have without a word that is not in use
module _ (s : State) (formed : WellFormed s) (word : List ℕ) (unused : not (is_in_use s word) ≡ true) (file : File) (there : Among s.files file) where
  abbrev without : State
  without = undeclared s word

  within_others : (w : List ℕ) → Among (description without file) w → Among (description s file) w
  within_others = described_within without s (forms.undeclared_within s word) file

  not_there : Among (description without file) word → ⊥
  not_there m =
      let test = had_test s formed word unused file there (within_others word m) in
      let found = among_filter (λ w. not (same_word w word)) s.declared word (test_had without (forms.undeclares s formed word unused) file there word test m).there in
      both_ways (same_word word word) (not-true (same_word word word) found.1) ((same_word_decides word word).1 refl)

  others_there : (w : List ℕ) → (w ≡ word → ⊥) → Among (description s file) w → Among (description without file) w
  others_there w differ m = by (undeclared_split s formed word unused file there w m).now
    where
      by : (word ≡ w) ⊎ Among (description without file) w → Among (description without file) w
      by (inl same) = absurd (differ (sym same))
      by (inr now) = now

-- ---- the row of `rmdir`, by what memory keeps
module _ (k : Metadata) (sound : AreSound k) (at : ℕ → List ℕ) (now : Situation) (free : FreeSlotsAreEmpty k) (tells : Tells k at now.state) (word : List ℕ) where
  -- only for a declared word it matters whether it is in use
  used_same : is_declared k word ≡ true → (o : Option ℕ) → number_of k.dict word ≡ o → is_in_use now.state word ≡ is_needed_by k o
  used_same there None none = absurd (both_ways (is_declared k word) (ap (bit_of k.declared) none) there)
  used_same there (Some n) numbered = in_use_told k sound word n numbered there at now.state free tells

  rmdir_alike : first_refusal (rmdir_checks now.state word) ≡ first_refusal (undeclare_checks k word)
  rmdir_alike =
      let told = declared_told k at now.state tells word in
      let used = λ (there : not (has_word now.state.declared word) ≡ false). used_same (sym told ∙ not-false (has_word now.state.declared word) there) (number_of k.dict word) refl in
      same_first (rmdir_checks now.state word) (undeclare_checks k word) (refl, refl, λ own. (refl, refl, λ valued. (refl, ap not told, λ there. (refl, used there, λ _. tt))))

-- ---- a declaration that is removed
module _ {old : Stored} {word : List ℕ} {number : ℕ} (sound : IsSound old) (may : IsUndeclarable old.metadata word number) where
  abbrev p : Metadata
  p = old.metadata

  pub undeclared_may : MayUndeclare number (undescribed p)
  undeclared_may = may_be_undeclared p sound.metadata word number may.numbered may.declared sound.in_use sound.closed sound.tests may.unneeded

  pub undeclared_named : word_of p.dict number ≡ Some word
  undeclared_named = word_at_number p sound.metadata word number may.numbered may.declared

  module _ {q : Metadata} (unbroken : old.is_broken ≡ false) (gone : UndeclaresUnmet number p q) where
    abbrev made : Metadata
    made = gone.made

    abbrev undeclares : Undeclares number made q
    undeclares = gone.undeclares

    q_metadata : q ≡ record made { dict = q.dict; declared = q.declared; marks = q.marks }
    q_metadata = subst (λ (k : Metadata). k ≡ record made { dict = k.dict; declared = k.declared; marks = k.marks }) (sym undeclares.metadata) refl

    q_is : q ≡ record p { dict = q.dict; declared = q.declared; ext = made.ext; marks = q.marks }
    q_is = q_metadata ∙ ap (λ (k : Metadata). record k { dict = q.dict; declared = q.declared; marks = q.marks }) gone.takes.metadata

    set_then : (slot : ℕ) → numbers_at q.ext slot ≡ without_number p number slot
    set_then slot = ap (λ (k : Metadata). numbers_at k.ext slot) q_metadata ∙ given_then (without_number p number) p.limits.files p made gone.takes sound.metadata.files (without_past p sound.metadata number) slot

    had_then : (n slot : ℕ) → has q.ext n slot ≡ true → (has p.ext n slot ≡ true) × (n ≡ number → ⊥)
    had_then n slot had =
        let found = among_filter (is_other number) (numbers_at p.ext slot) n (subst (λ ns. Among ns n) (set_then slot) (among_from_number (numbers_at q.ext slot) n had)) in
        (number_from_among (numbers_at p.ext slot) n found.0, λ same. both_ways (n == number) (not-true (n == number) found.1) (eq-eqb n number same))

    then_had : (n slot : ℕ) → has p.ext n slot ≡ true → (n ≡ number → ⊥) → has q.ext n slot ≡ true
    then_had n slot had differ =
        ap (λ ns. has_number ns n) (set_then slot)
        ∙ number_from_among (without_number p number slot) n
        (filter_among (is_other number) (numbers_at p.ext slot) n (among_from_number (numbers_at p.ext slot) n had) (not_from_false (n == number) (ne_eqb n number differ)))

    has_same : (n slot : ℕ) → (n ≡ number → ⊥) → has q.ext n slot ≡ has p.ext n slot
    has_same n slot differ = same_tests (has q.ext n slot) (has p.ext n slot) (λ h. (had_then n slot h).0) (λ h. then_had n slot h differ)

    rec_was : (slot : ℕ) (rec : FileRecord) → rec_at q.catalog slot ≡ Some rec → rec_at p.catalog slot ≡ Some rec
    rec_was slot rec is = subst (λ (k : Metadata). rec_at k.catalog slot ≡ Some rec) q_is is

    -- ---- words
    gone_word : word_of q.dict number ≡ None
    gone_word = undeclares.words number ∙ ap (λ b. if b then None else word_of made.dict number) (eq-eqb number number refl)

    stays : (n : ℕ) → (n ≡ number → ⊥) → word_of q.dict n ≡ word_of p.dict n
    stays n differ = undeclares.words n ∙ (ap (λ b. if b then None else word_of made.dict n) (ne_eqb number n (λ same. differ (sym same))) ∙ ap (λ (k : Metadata). word_of k.dict n) gone.takes.metadata)

    word_before : (n : ℕ) → IsSome (word_of q.dict n) → n ≡ number → ⊥
    word_before n some same = both_ways (is_some (word_of q.dict n)) (ap is_some (ap (word_of q.dict) same ∙ gone_word)) some

    not_tag : (slot : ℕ) (rec : FileRecord) → rec_at p.catalog slot ≡ Some rec → (n : ℕ) → has_number rec.tags n ≡ true → n ≡ number → ⊥
    not_tag slot rec is n tag same = both_ways (has_number rec.tags number) (undeclared_may.tags slot rec is) (subst (λ i. has_number rec.tags i ≡ true) same tag)

    tags_stay : (f : Filed) → Among p.catalog.entries f → (n : ℕ) → Among f.rec.tags n → word_of q.dict n ≡ word_of p.dict n
    tags_stay f m n tag = stays n (not_tag f.slot f.rec (filed_rec p.catalog sound.metadata.catalog f m) n (number_from_among f.rec.tags n tag))

    -- ---- the store is well formed again
    closed_then : AreSound q → AreClosed q
    closed_then after slot a b had linked =
        let was = had_then a slot had in
        let differ : b ≡ number → ⊥ = λ same. both_ways (is_linked q a number) (unnamed_to q after number gone_word a) (subst (λ i. is_linked q a i ≡ true) same linked) in
        then_had b slot (sound.closed slot a b was.0 (ap (λ (k : Metadata). is_linked k a b) (sym gone.takes.metadata) ∙ (sym (undeclares.linked a b was.1 differ) ∙ linked))) differ

    in_use_then : KeepsInUse q
    in_use_then = record {
      used = λ n some.
          let differ = word_before n some in
          undeclares.used n some
          ∙ use_stays p made n (λ set. ap (λ (k : Metadata). is_taken k.declared n) gone.takes.metadata ∙ set) (λ lefts. ap (λ (k : Metadata). is_named_left k n) gone.takes.metadata ∙ lefts)
          (λ slot was. used_had made n slot (ap (λ (k : Metadata). has k.ext n slot) (sym q_metadata) ∙ then_had n slot was differ)) (sound.in_use.used n (ap is_some (sym (stays n differ)) ∙ some));
      tags = λ slot rec is n tag. let was = rec_was slot rec is in then_had n slot (sound.in_use.tags slot rec was n tag) (not_tag slot rec was n tag);
      rights = λ slot left right is.
          let was = subst (λ (k : Metadata). slice_get k.axioms slot ≡ Some (Pair left right)) q_is is in
          ap (λ (k : Metadata). is_taken k.declared right) undeclares.metadata
          ∙ (get_or-set_other made.declared number right false false (undeclared_may.rights slot left right was)
          ∙ (ap (λ (k : Metadata). is_taken k.declared right) gone.takes.metadata ∙ sound.in_use.rights slot left right was));
    }

    form_then : AreSound q → AreInForm q
    form_then after = record {
      sound = after;
      free = λ slot none n. false_from_ne_true (has q.ext n slot) (λ had.
          both_ways (has p.ext n slot) (sound.free slot (subst (λ (k : Metadata). rec_at k.catalog slot ≡ None) q_is none) n) (had_then n slot had).0);
      closed = closed_then after;
      short = λ slot. omega (arith, ap length (set_then slot), filter_le (is_other number) (numbers_at p.ext slot), sound.short slot);
      in_use = in_use_then;
      tests = record {
        given = λ slot rec is n tag.
            let was = rec_was slot rec is in
            ap (λ o. is_some (test_by o)) (stays n (not_tag slot rec was n tag)) ∙ sound.tests.given slot rec was n tag;
        met = λ slot rec is n test.
            let differ = word_before n (ap is_some (tested_word (word_of q.dict n) test).1) in
            let same = stays n differ in
            has_same n slot differ
            ∙ (sound.tests.met slot rec (rec_was slot rec is) n (ap (λ o. is_some (test_by o)) (sym same) ∙ test) ∙ ap (λ o. is_met (test_by o) rec.size) (sym same));
      };
    }

    -- no other number is lost
    few_marked : marked_count q ≤ 1 + most_all p.limits
    few_marked =
        let more = all_few p made (without_number p number) (number ∷ []) sound.metadata.range (omega arith) turned gone.takes.within in
        omega (arith, undeclares.marks.few, more, none_marked p (sound.clean unbroken))
      where
        same : (slot n : ℕ) → differs (numbers_at p.ext slot) (without_number p number slot) n ≡ true → (n ≡ number) ⊎ (n ≡ number → ⊥) → n ≡ number
        same slot n turns (inl is) = is
        same slot n turns (inr differ) =
            absurd (both_ways (differs (numbers_at p.ext slot) (without_number p number slot) n)
            (unturned (numbers_at p.ext slot) (without_number p number slot) n (sym (ap (λ ns. has_number ns n) (set_then slot)) ∙ has_same n slot differ)) turns)

        -- past the files no slot has numbers
        within : (slot n : ℕ) → differs (numbers_at p.ext slot) (without_number p number slot) n ≡ true → (slot < p.limits.files) ⊎ (p.limits.files ≤ slot) → slot < p.limits.files
        within slot n turns (inl lt) = lt
        within slot n turns (inr past) =
            absurd (both_ways (differs (numbers_at p.ext slot) (without_number p number slot) n)
            (unturned (numbers_at p.ext slot) (without_number p number slot) n (ap (λ ns. has_number ns n) (without_past p sound.metadata number slot past))) turns)

        turned : (slot n : ℕ) → differs (numbers_at p.ext slot) (without_number p number slot) n ≡ true → (slot < p.limits.files) × Among (number ∷ []) n
        turned slot n turns = (within slot n turns (cases_lt slot p.limits.files), inl (sym (same slot n turns (cases_eq n number))))

    pub undeclared_change : IsChange old q
    undeclared_change = record {
      settles = λ after.
          settled_sound q old.journal (form_then after) (subst (λ (k : Metadata). PairsAreApart k) (sym q_is) sound.pairs) (subst (λ (k : Metadata). shape_of old.journal ≡ image_shape k.limits) (sym q_is) sound.image) (sound.journal unbroken);
      limits = ap (λ (k : Metadata). k.limits) q_is;
      room = omega (arith, few_marked, all_fits p.limits sound.metadata.range, sound.few unbroken);
      edits = subst (λ (k : Metadata). AreEditsFew p.ext k.ext) (sym q_metadata) (redescribed_edits (without_number p number) p.limits.files p made gone.takes sound.metadata.files (without_past p sound.metadata number));
    }

    -- ---- the state that it represents
    module _ (at : ℕ → List ℕ) (s : State) (tells : Tells p at s) where
      unused : not (is_in_use s word) ≡ true
      unused = not_from_false (is_in_use s word) (in_use_told p sound.metadata word number may.numbered may.declared at s sound.free tells ∙ may.unneeded)

      same_word_gone : undeclares.word ≡ word
      same_word_gone = same_Some undeclares.word word (sym undeclares.named ∙ (ap (λ (k : Metadata). word_of k.dict number) gone.takes.metadata ∙ undeclared_named))

      abbrev t : State
      t = undeclared s word

      module _ (f : Filed) (m : Among p.catalog.entries f) where
        abbrev file : File
        file = file_told p.limits p.dict at f

        filed : Among s.files file
        filed = file_of_filed p at s sound.metadata sound.free tells f m

        told : words_told p.dict (numbers_at p.ext f.slot) ≡ description s file
        told = tells.described f (contains_from_among p.catalog.entries f m)

        fewer : Numbers p.dict (has_number (numbers_at q.ext f.slot)) (description t file)
        fewer = record {
          numbered = λ w inside.
              let found = among_word p sound.metadata (numbers_at p.ext f.slot) w (subst (λ ws. Among ws w) (sym told) (within_others s tells.formed word unused file filed w inside)) in
              let differ : found.0 ≡ number → ⊥ = λ same.
              not_there s tells.formed word unused file filed (subst (λ u. Among (description t file) u) (same_Some w word (sym found.1 ∙ (ap (word_of p.dict) same ∙ undeclared_named))) inside) in
              (found.0, found.1, then_had found.0 f.slot found.2 differ);
          worded = λ n w is had.
              let was = had_then n f.slot had in
              let differ : w ≡ word → ⊥ = λ same. was.1 (one_number p sound.metadata n number word (is ∙ ap Some same) undeclared_named) in
              others_there s tells.formed word unused file filed w differ (subst (λ ws. Among ws w) told (word_among p sound.metadata (numbers_at p.ext f.slot) n w is was.0));
        }

        described : words_told q.dict (numbers_at q.ext f.slot) ≡ description t file
        described =
            words_same p.dict q.dict (numbers_at q.ext f.slot) (λ n of. stays n (had_then n f.slot (number_from_among (numbers_at q.ext f.slot) n of)).1)
            ∙ numbers_are p sound.metadata (numbers_at q.ext f.slot) (description t file) (sorted_all_up t.declared t.axioms (own_words t.declared file)) fewer

      tells_undeclared : Tells q at t
      tells_undeclared =
          retold p q (subst (λ (k : Metadata). k ≡ record p { dict = k.dict; declared = k.declared; axioms = k.axioms; ext = k.ext; marks = k.marks }) (sym q_is) refl) tags_stay at s t tells refl
          (undeclares.state at ∙ (ap₂ (λ (k : Metadata) (w : List ℕ). undeclared (state_of k at) w) gone.takes.metadata same_word_gone ∙ ap (λ (x : State). undeclared x word) tells.state))
          (forms.undeclares s tells.formed word unused) in_use_then.used described

    pub undeclared_holds : {T : Type 0} {new : Stored} {before after : Meaning} {result : Result T ChangeFault} {base : State} → Saves q old.journal new before after result → first_refusal (undeclare_checks p word) ≡ None
        → (now : Situation) → StoreHolds old before base now.state → Holds base now (rmdir now word) new before after result
    undeclared_holds saves none now fits =
        let at = looked old.journal.staged fits.kept in
        saves_alone old sound unbroken undeclared_change saves now (undeclared now.state word) fits
        (record { tells = tells_undeclared at now.state fits.tells; saved = undeclares.marks.saved at (gone.takes.saved at (λ area n lt unmarked. fits.written area n lt)) })
        (judged_done now (rmdir_checks now.state word) (changed now (undeclared now.state word)) (rmdir_alike p sound.metadata at now sound.free fits.tells word ∙ none))

-- one that is refused
pub undeclared_refused : {old : Stored} {m : Meaning} {base : State} → IsSound old → (word : List ℕ) (refusal : Refusal) → first_refusal (undeclare_checks old.metadata word) ≡ Some refusal
    → (now : Situation) → StoreHolds old m base now.state → rmdir now word ≡ refused now refusal
undeclared_refused {old} sound word refusal first now fits =
    judged_refused now (rmdir_checks now.state word) (changed now (undeclared now.state word)) refusal
    (rmdir_alike old.metadata sound.metadata (looked old.journal.staged fits.kept) now sound.free fits.tells word ∙ first)
