-- What memory keeps and represents after a file is removed with the words that nothing else used: its slot may be described again.
use Rattle.std.proofs.Common.{rules}
use Rattle.lis_store.proofs.Common.{◌≡◌, ◌⊎◌, refl, sym, ap, ◌∙◌, subst, inl, inr, ℕ, ◌+◌, ◌<◌, ◌≤◌, ◌==◌, not, Bool, true, List, [], length, get_or, set, Some, is_some, arith, get_or-set_same, get_or-set_other, ap₂, ◌++◌, list_all, Contains, and_parts, or_cases, cases_eq, ne_eqb, not_from_false, same_Some, Among, among_from_contains, contains_from_among, among_filter, filter_among, members_le, sorted_from_rising, is_taken, Filed, rec_at, word_of, Ext, has, numbers_at, FileRecord, word_cmp, State, description, is_assignable, file_removed, word_order, among_with_words, with_words_new, sorted_with_words, Metadata, is_own_link, has_pair, AreSound, FreeSlotsAreEmpty, declared_of, axioms_of, blocks_told, state_of, is_used, AreUsed, Tells, emptied, filed_rec, filed_at_slot, known_word, all_up, met_tests, and_from, or_left, or_right, both_ways, eq-eqb, false_from_ne_true, given, has_number, words, filter_drops, with_words_old, is_linked, words_told, file_told, number_from_among}
use Rattle.lis_catalog.specs.Catalog.{without_slot}
use Rattle.lis_kept.proofs.Emptied.{emptied_before, emptied_stays}
use Rattle.lis_store.specs.Stored.{DescriptionsAreShort}
use Rattle.lis_store.specs.Drafts.{Draft}
use Rattle.lis_store.specs.Admitting.{described_by, known_with}
use Rattle.lis_store.specs.Removing.{Vacates, without_record}
use Rattle.lis_store.specs.Replacing.{words_without, known_instead, MayReplace}
use Rattle.lis_store.specs.ReplacingIn.{AreInForm, MayComeIn, IsVacant}
use Rattle.lis_store.proofs.FileTests.{tests_stay}
use Rattle.lis_store.proofs.Forgot.{word_before, word_stays, known_used}
use Rattle.lis_store.proofs.Given.{given_taken}
use Rattle.lis_store.proofs.InsteadKnown.{sorted_without, word_without}
use Rattle.lis_store.proofs.OwnStay.{own_before}
use Rattle.lis_store.proofs.Told.{same_map, words_same}
use Rattle.lis_store.proofs.Vacated.{name_vacant, used_or_here, used_elsewhere, slot_below, slot_vacant, none_before, rec_before, sound_emptied}
use Rattle.lis_laws.proofs.Forms as forms

module _ (p v : Metadata) (slot : ℕ) (rec : FileRecord) (form : AreInForm p) (out : Vacates slot rec p v) where
  abbrev pub left : Metadata
  left = record p { dict = v.dict; catalog = without_slot p.catalog slot; marks = v.marks }

  pub left_is : v ≡ left
  left_is = out.metadata

  pub sound_left : AreSound left
  sound_left = subst (λ (k : Metadata). AreSound k) left_is out.sound

  abbrev numbers : List ℕ
  numbers = numbers_at p.ext slot

  -- ---- words
  -- a word that is still known was known, with this number, and is in use without the slot
  pub word_was : (n : ℕ) (w : List ℕ) → word_of left.dict n ≡ Some w → word_of p.dict n ≡ Some w
  word_was = word_before p.dict v.dict numbers (is_used (emptied p slot)) out.words

  pub used_left : (n : ℕ) → is_some (word_of left.dict n) ≡ true → is_used (emptied p slot) n ≡ true
  used_left n some =
      known_used p.dict v.dict numbers (is_used (emptied p slot)) out.words
      (λ m known. used_or_here p slot rec form out.there m (form.in_use.used m known)) n some

  pub still_used : (n : ℕ) → is_some (word_of left.dict n) ≡ true → is_used (emptied left slot) n ≡ true
  still_used n some = ap (λ (k : Metadata). is_used (emptied k slot) n) (sym left_is) ∙ (out.used n some ∙ used_left n some)

  pub word_is_still : (n at : ℕ) → (at ≡ slot → ⊥) → has p.ext n at ≡ true → word_of left.dict n ≡ word_of p.dict n
  word_is_still n at differ h = word_stays p.dict v.dict numbers (is_used (emptied p slot)) out.words n (used_elsewhere p slot rec form out.there n at differ h)

  -- ---- the state
  pub state_left : (at : ℕ → List ℕ) → state_of left at ≡ file_removed (state_of p at) rec.name
  state_left at = ap (λ (k : Metadata). state_of k at) (sym left_is) ∙ (out.told at ∙ out.state at)

  pub declared_left : declared_of left ≡ declared_of p
  declared_left = ap (λ (s : State). s.declared) (state_left (λ n. []))

  axioms_left : axioms_of left ≡ axioms_of p
  axioms_left = ap (λ (s : State). s.axioms) (state_left (λ n. []))

  -- a file that stays is the same as before
  file_left : (at : ℕ → List ℕ) (f : Filed) → Among left.catalog.entries f → file_told p.limits v.dict at f ≡ file_told p.limits p.dict at f
  file_left at f m =
      let states : state_of left at ≡ state_of (without_record p slot) at = ap (λ (k : Metadata). state_of k at) (sym left_is) ∙ out.told at in
      same_map (file_told p.limits v.dict at) (file_told p.limits p.dict at) left.catalog.entries (ap (λ (s : State). s.files) states) f m

  -- ---- links
  link_before : (a b : ℕ) → is_linked left a b ≡ true → is_linked p a b ≡ true
  link_before a b linked = by (or_cases (is_own_link (declared_of left) (word_of v.dict a) (word_of v.dict b)) (has_pair p.axioms a b) linked)
    where
      by : (is_own_link (declared_of left) (word_of v.dict a) (word_of v.dict b) ≡ true) ⊎ (has_pair p.axioms a b ≡ true) → is_linked p a b ≡ true
      by (inl own) =
          or_left (is_own_link (declared_of p) (word_of p.dict a) (word_of p.dict b)) (has_pair p.axioms a b)
          (own_before (declared_of p) (word_of v.dict a) (word_of v.dict b) (word_of p.dict a) (word_of p.dict b) (word_was a) (word_was b)
          (subst (λ ws. is_own_link ws (word_of v.dict a) (word_of v.dict b) ≡ true) declared_left own))
      by (inr pair) = or_right (is_own_link (declared_of p) (word_of p.dict a) (word_of p.dict b)) (has_pair p.axioms a b) pair

  -- ---- the file that is put in
  module _ (draft : Draft) (may : MayReplace p slot rec draft) where
    pub described_is : described_by left draft ≡ described_by p draft
    described_is = ap₂ (λ declared axioms. all_up declared axioms (draft.assigned ++ draft.own ++ met_tests declared draft.size)) declared_left axioms_left

    -- with its words no more are known than with the file instead of the other
    room_then : length (known_with left draft) ≤ p.limits.props
    room_then =
        let le = members_le word_cmp word_order (known_with left draft) (known_instead p slot draft)
        (sorted_with_words (words left.dict) (described_by left draft) (sorted_from_rising word_cmp word_order (words left.dict) sound_left.dict.rising))
        (sorted_with_words (words_without p slot) (described_by p draft) (sorted_without p form.sound slot))
        (λ w m. by w (among_with_words (words left.dict) (described_by left draft) w m)) in
        omega (arith, le, may.room)
      where
        by : (w : List ℕ) → Among (words left.dict) w ⊎ Among (described_by left draft) w → Among (known_instead p slot draft) w
        by w (inl m) =
            let found = known_word left sound_left w m in
            with_words_old (words_without p slot) (described_by p draft) w (word_without p form.sound slot w found.0 (word_was found.0 w found.1) (used_left found.0 (ap is_some found.1)))
        by w (inr m) = with_words_new (words_without p slot) (described_by p draft) w (subst (λ ws. Among ws w) described_is m)

    pub coming : MayComeIn v draft
    coming = subst (λ (k : Metadata). MayComeIn k draft) (sym left_is) (record {
      name = may.name;
      new = name_vacant p slot rec form out.there draft may;
      set = may.set;
      small = may.small;
      assignable = subst (λ (ds : List (List ℕ)). list_all (is_assignable ds) draft.assigned ≡ true) (sym declared_left) may.assignable;
      few = may.few;
      own = may.own;
      few_own = may.few_own;
      short = omega (arith, ap length described_is, may.short);
      room = room_then;
    })

  -- ---- after the slot has no numbers
  module _ (e : Ext) (marks : List Bool) (sets : e.sets ≡ set p.ext.sets slot []) where
    abbrev pub gone : Metadata
    gone = record left { ext = e; marks = marks }

    slot_in : slot < length p.ext.sets
    slot_in = omega (arith, slot_below p slot rec form out.there, form.sound.files)

    pub set_gone : numbers_at e slot ≡ []
    set_gone = ap (λ ss. get_or ss slot []) sets ∙ get_or-set_same p.ext.sets slot [] [] slot_in

    set_other : (at : ℕ) → (at ≡ slot → ⊥) → numbers_at e at ≡ numbers_at p.ext at
    set_other at differ = ap (λ ss. get_or ss at []) sets ∙ get_or-set_other p.ext.sets slot at [] [] differ

    used_gone : AreUsed gone
    used_gone n some = search (rules, still_used)

    pub form_gone : AreSound gone → AreInForm gone
    form_gone sound = record {
      sound = sound;
      free = free;
      closed = λ at a b h linked. let before = emptied_before p.ext e slot slot_in sets a at h in emptied_stays p.ext e slot sets b at before.0 (form.closed at a b before.1 (link_before a b linked));
      short = short;
      in_use = record {
        used = used_gone;
        tags = λ at r is n tag. let before = rec_before p slot rec form out.there at r is in emptied_stays p.ext e slot sets n at before.0 (form.in_use.tags at r before.1 n tag);
        rights = form.in_use.rights;
      };
      tests = tests_stay p gone (λ at r is. (rec_before p slot rec form out.there at r is).1) (λ n w is test. word_was n w is)
          (λ n at r w is was test. ap (λ ns. has_number ns n) (set_other at (rec_before p slot rec form out.there at r is).0)) form.tests;
    }
      where
        free : FreeSlotsAreEmpty gone
        free at none n = elim (cases_eq at slot) [
          | inl same ↦ ap (λ ns. has_number ns n) (ap (numbers_at e) same ∙ set_gone)
          | inr differ ↦ ap (λ ns. has_number ns n) (set_other at differ) ∙ form.free at (none_before p slot rec form out.there at differ none) n
        ]

        short : DescriptionsAreShort gone
        short at = elim (cases_eq at slot) [
          | inl same ↦ omega (arith, ap length (ap (numbers_at e) same ∙ set_gone))
          | inr differ ↦ omega (arith, ap length (set_other at differ), form.short at)
        ]

  -- a file may then be put into the slot
  pub vacant_left : IsVacant slot numbers v
  vacant_left = record {
    below = omega (arith, limits, slot_below p slot rec form out.there);
    spare = omega (arith, limits, ap (λ (k : Metadata). length k.catalog.entries) left_is, fewer, form.sound.catalog.few, form.sound.slots);
    free = ap (λ (k : Metadata). rec_at k.catalog slot) left_is ∙ slot_vacant p slot rec form out.there;
    was = ap (λ (k : Metadata). numbers_at k.ext slot) left_is;
    rising = out.rising;
    few = form.short slot;
    sound = out.sound;
    form = subst (λ (k : Metadata). AreInForm (emptied k slot)) (sym left_is) (form_gone (emptied p slot).ext v.marks refl (sound_emptied left slot sound_left));
  }
    where
      limits : v.limits.files ≡ p.limits.files
      limits = ap (λ (k : Metadata). k.limits.files) left_is

      fewer : length left.catalog.entries + 1 ≤ length p.catalog.entries
      fewer =
          filter_drops (λ (f : Filed). not (f.slot == slot)) p.catalog.entries (record { slot = slot; rec = rec }) (filed_at_slot p.catalog form.sound.catalog slot rec out.there)
          (ap not (eq-eqb slot slot refl))

-- ---- the state that it represents
-- Memory represented s, whatever blocks were taken, and the blocks of the file are freed.
module _ (o : Metadata) (taken marks : List Bool) (v : Metadata) (slot : ℕ) (rec : FileRecord) (form : AreInForm (record o { taken = taken; marks = marks })) (out : Vacates slot rec (record o { taken = taken; marks = marks }) v)
    (sound : AreSound o) (at : ℕ → List ℕ) (s : State) (tells : Tells o at s) (e : Ext) (sets : e.sets ≡ set o.ext.sets slot []) (new : List Bool) where
  abbrev p : Metadata
  p = record o { taken = taken; marks = marks }

  -- the blocks of the file
  abbrev before : List ℕ
  before = blocks_told o.limits at rec

  abbrev pub without : Metadata
  without = record (gone p v slot rec form out e new sets) { taken = given o.taken before }

  abbrev filed : Filed
  filed = record { slot = slot; rec = rec }

  there : Contains o.catalog.entries filed
  there = contains_from_among o.catalog.entries filed (filed_at_slot o.catalog sound.catalog slot rec out.there)

  pub stayed : (f : Filed) → Contains without.catalog.entries f → Contains o.catalog.entries f × (f.slot ≡ slot → ⊥)
  stayed f m =
      let kept = among_filter (λ (g : Filed). not (g.slot == slot)) o.catalog.entries f (among_from_contains without.catalog.entries f m) in
      (contains_from_among o.catalog.entries f kept.0, λ same. both_ways (not (f.slot == slot)) (ap not (eq-eqb f.slot slot same)) kept.1)

  stays : (f : Filed) → Among o.catalog.entries f → (f.slot ≡ slot → ⊥) → Contains without.catalog.entries f
  stays f m differ = search (rules, contains_from_among, filter_among, not_from_false, ne_eqb)

  pub tells_without : Tells without at (file_removed s rec.name)
  tells_without = record {
    super = tells.super;
    state = state_left p v slot rec form out at ∙ ap (λ (x : State). file_removed x rec.name) tells.state;
    formed = forms.removes_file s tells.formed rec.name;
    used = used_gone p v slot rec form out e new sets;
    described = λ f m.
        let was = stayed f m in
        let ns = numbers_at o.ext f.slot in
        ap (words_told v.dict) (set_other p v slot rec form out e new sets f.slot was.1)
        ∙ (words_same o.dict v.dict ns (λ n of. word_is_still p v slot rec form out n f.slot was.1 (number_from_among ns n of))
        ∙ (tells.described f was.0
        ∙ ap (description s) (sym (file_left p v slot rec form out at f (among_from_contains without.catalog.entries f m)))));
    taken = λ n lt is.
        let both = and_parts (is_taken o.taken n) (not (has_number before n)) (sym (given_taken o.taken before n) ∙ is) in
        let b = tells.taken n lt both.0 in
        let m = among_from_contains o.catalog.entries b.file b.kept in
        let differ : b.file.slot ≡ slot → ⊥ = λ same.
        let recs : b.file.rec ≡ rec = same_Some b.file.rec rec (sym (filed_rec o.catalog sound.catalog b.file m) ∙ (ap (rec_at o.catalog) same ∙ out.there)) in
        both_ways (not (has_number before n)) (ap not (ap (λ (r : FileRecord). has_number (blocks_told o.limits at r) n) (sym recs) ∙ b.has)) both.1 in
        record { file = b.file; kept = stays b.file m differ; has = b.has };
    given = λ f m n has_it.
        let was = stayed f m in
        let g = tells.given f was.0 n has_it in
        let free = false_from_ne_true (has_number before n) (λ also. was.1 (ap (λ (x : Filed). x.slot) (tells.one_use f filed was.0 there n has_it also))) in
        (g.0, given_taken o.taken before n ∙ and_from (is_taken o.taken n) (not (has_number before n)) g.1 (not_from_false (has_number before n) free));
    indexed = λ f m. tells.indexed f (stayed f m).0;
    apart = λ f m. tells.apart f (stayed f m).0;
    one_use = λ f g mf mg n has_f has_g. tells.one_use f g (stayed f mf).0 (stayed g mg).0 n has_f has_g;
  }
