-- What memory keeps is a view, and its rows and its taxonomy represent it.
use Rattle.std.proofs.Common.{eq-eqb}
use Rattle.lis_words.specs.declared.test.Test.{Test}
use Rattle.lis_store.proofs.Common.{common_steps, ◌≡◌, ℕ, ◌==◌, ◌&&◌, nat_lt, true, List, map, is_some, Option, Some, None, refl, sym, ap, ap₂, ◌∙◌, subst, arith, list_any, some_word, Contains, and_parts, eqb-true, ltb-true, length-map, same_Some, Among, among_from_contains, contains_from_among, number_of, word_of, number_below, Filed, slot_of, rec_at, has, numbers_at, Taxonomy, leads, entails_decides, FileRecord, same_word, has_word, test_of, up, is_met, same_word_decides, among_from_has_word, Placed, Metadata, AreSound, FreeSlotsAreEmpty, declared_of, axioms_of, test_by, TellsLinks, filed_rec, filed_slot, filed_at_slot, among_word, number_told, and_from, both_ways, among_from_any, any_from_among, among_map, map_among, words, has_word_from_among, all_among, same_tests, words_told}
use Rattle.lis_dict.proofs.Laws.{among_from_word, number_from_among, word_from_among}
use Rattle.lis_model.specs.Tests.{step_by}
use Rattle.lis_model.specs.Table.{Entry, entails}
use Rattle.lis_model.specs.Listing.{holds}
use Rattle.lis_eval.specs.View.{file_in, IsView, TellsFiles, TellsEntailment}
use Rattle.lis_store.specs.Stored.{AreClosed, TestsAreMet}
use Rattle.lis_store.specs.Seen.{placed, seen_of, table_of}
use Rattle.lis_kept.proofs.Entailed.{leads_from_up, up_from_leads}
use Rattle.lis_store.proofs.Entailment.{closed_up}
use Rattle.lis_store.proofs.StoreSays.{any_is_found}

-- the step of a test checks the size
size_asked : (word : List ℕ) (test : Test) (file : Entry) → holds (step_by (Some test) word) file ≡ is_met (Some test) file.size
size_asked word test file = grind (arith, common_steps)

module _ (k : Metadata) (sound : AreSound k) where
  abbrev Numbered : Type 0
  Numbered = List ℕ × ℕ

  named : (w : Numbered) → Contains k.dict.entries w → word_of k.dict w.1 ≡ Some w.0
  named w there = word_from_among k.dict sound.dict w.0 w.1 (among_from_contains k.dict.entries w there)

  numbered : (w : Numbered) → Contains k.dict.entries w → number_of k.dict w.0 ≡ Some w.1
  numbered w there = number_from_among k.dict sound.dict w.0 w.1 (among_from_contains k.dict.entries w there)

  -- the file that is seen
  filed : (f : Placed) → Contains (map (placed k) k.catalog.entries) f → (g : Filed) × Among k.catalog.entries g × (placed k g ≡ f)
  filed f there = among_map (placed k) k.catalog.entries f (among_from_contains (map (placed k) k.catalog.entries) f there)

  one_filed : (f g : Filed) → Among k.catalog.entries f → Among k.catalog.entries g → f.slot ≡ g.slot → f ≡ g
  one_filed f g in_f in_g same =
      let recs : f.rec ≡ g.rec = same_Some f.rec g.rec (sym (filed_rec k.catalog sound.catalog f in_f) ∙ (ap (rec_at k.catalog) same ∙ filed_rec k.catalog sound.catalog g in_g)) in
      let make : ℕ → FileRecord → Filed = λ slot rec. record { slot = slot; rec = rec } in
      ap₂ make same recs

  same_placed : (f g : Placed) (x y : Filed) → placed k x ≡ f → placed k y ≡ g → x ≡ y → f ≡ g
  same_placed f g x y is_f is_g same = sym is_f ∙ (ap (placed k) same ∙ is_g)

  -- ---- what words entail
  table_apart : (p q : List ℕ) → entails (table_of k) p q ≡ true → Among (up (declared_of k) (axioms_of k) p) q
  table_apart p q h = grind (arith, common_steps, and_parts, among_from_any, among_map, same_word_decides, among_from_has_word)

  table_made : (p q : List ℕ) → Among (words k.dict) p → Among (up (declared_of k) (axioms_of k) p) q → entails (table_of k) p q ≡ true
  table_made p q m h =
      any_from_among (λ (row : List ℕ × List (List ℕ)). same_word row.0 p && has_word row.1 q) (table_of k).entailed (p, up (declared_of k) (axioms_of k) p)
      (map_among (λ (w : List ℕ). (w, up (declared_of k) (axioms_of k) w)) (words k.dict) p m)
      (and_from (same_word p p) (has_word (up (declared_of k) (axioms_of k) p) q) ((same_word_decides p p).1 refl) (has_word_from_among (up (declared_of k) (axioms_of k) p) q h))

  -- ---- the facts of a view
  told_by_rows : (w : Numbered) (f : Placed) → Contains k.dict.entries w → Contains (map (placed k) k.catalog.entries) f → has k.ext w.1 f.slot ≡ has_word f.entry.words w.0
  told_by_rows w f there_w there_f =
      let g = filed f there_f in
      subst (λ (x : Placed). has k.ext w.1 x.slot ≡ has_word x.entry.words w.0) g.2 (number_told k sound (numbers_at k.ext (g.0).slot) w.1 w.0 (named w there_w))

  -- a step of a test finds the files that have the test
  asked : TestsAreMet k → (w : Numbered) (f : Placed) → Contains k.dict.entries w → Contains (map (placed k) k.catalog.entries) f → (test : Option Test) → test_of w.0 ≡ test
      → holds (step_by test w.0) f.entry ≡ has_word f.entry.words w.0
  asked met w f there_w there_f None e = refl
  asked met w f there_w there_f (Some test) e =
      let g = filed f there_f in
      let tested = ap test_by (named w there_w) in
      let here : has k.ext w.1 (g.0).slot ≡ is_met (test_of w.0) (g.0).rec.size =
      met.met (g.0).slot (g.0).rec (filed_rec k.catalog sound.catalog g.0 g.1) w.1 (ap (λ (o : Option Test). is_some o) (tested ∙ e))
      ∙ ap (λ (o : Option Test). is_met o (g.0).rec.size) tested in
      size_asked w.0 test f.entry
      ∙ (ap (λ (x : Placed). is_met (Some test) x.entry.size) (sym g.2)
      ∙ (ap (λ o. is_met o (g.0).rec.size) (sym e)
      ∙ (sym here ∙ (ap (λ (x : Placed). has k.ext w.1 x.slot) g.2 ∙ told_by_rows w f there_w there_f))))

  pub is_view : AreClosed k → TestsAreMet k → IsView (seen_of k)
  is_view closed met = record {
    few_words = omega (arith, sound.dict.few, sound.numbers);
    few_files = omega (arith, length-map k.catalog.entries (placed k), sound.catalog.few, sound.slots);
    numbers = λ w there. omega (arith, number_below k.dict sound.dict w.0 w.1 (numbered w there), sound.numbers);
    apart = λ w x there other.
        same_tests (same_word w.0 x.0) (w.1 == x.1)
        (λ h. eq-eqb w.1 x.1 (same_Some w.1 x.1 (sym (numbered w there) ∙ (ap (number_of k.dict) ((same_word_decides w.0 x.0).0 h) ∙ numbered x other))))
        (λ h. (same_word_decides w.0 x.0).1 (same_Some w.0 x.0 (sym (named w there) ∙ (ap (word_of k.dict) (eqb-true w.1 x.1 h) ∙ named x other))));
    slots = λ f there.
        let g = filed f there in
        let below = all_among (λ (slot : ℕ). nat_lt slot k.catalog.files) (map (λ (x : Filed). x.slot) k.catalog.entries) (g.0).slot sound.catalog.below (map_among (λ (x : Filed). x.slot) k.catalog.entries g.0 g.1) in
        omega (arith, ltb-true (g.0).slot k.catalog.files below, sound.slots, ap (λ (x : Placed). x.slot) g.2);
    one_slot = λ f g there other same.
        let x = filed f there in
        let y = filed g other in
        same_placed f g x.0 y.0 x.2 y.2 (one_filed x.0 y.0 x.1 y.1 (ap (λ (z : Placed). z.slot) x.2 ∙ (same ∙ sym (ap (λ (z : Placed). z.slot) y.2))));
    one_name = λ f g there other same.
        let x = filed f there in
        let y = filed g other in
        let names : (x.0).rec.name ≡ (y.0).rec.name = ap (λ (z : Placed). z.entry.name) x.2 ∙ (same ∙ sym (ap (λ (z : Placed). z.entry.name) y.2)) in
        let slots = same_Some (x.0).slot (y.0).slot (sym (filed_slot k.catalog sound.catalog x.0 x.1) ∙ (ap (slot_of k.catalog) names ∙ filed_slot k.catalog sound.catalog y.0 y.1)) in
        same_placed f g x.0 y.0 x.2 y.2 (one_filed x.0 y.0 x.1 y.1 slots);
    known = λ f word there has_it.
        let g = filed f there in
        let m : Among (words_told k.dict (numbers_at k.ext (g.0).slot)) word = subst (λ (x : Placed). Among x.entry.words word) (sym g.2) (among_from_contains f.entry.words word has_it) in
        let number = among_word k sound (numbers_at k.ext (g.0).slot) word m in
        ((word, number.0), contains_from_among k.dict.entries (word, number.0) (among_from_word k.dict word number.0 number.1), refl);
    closed = λ f w x there_f there_w there_x has_it entailed.
        sym (told_by_rows x f there_x there_f)
        ∙ closed_up k sound closed f.slot w.1 x.1 w.0 x.0 (named w there_w) (named x there_x) (told_by_rows w f there_w there_f ∙ has_it) (table_apart w.0 x.0 entailed);
    steps = λ f w there_f there_w. asked met w f there_w there_f (test_of w.0) refl;
  }

  pub tells_files : FreeSlotsAreEmpty k → TellsFiles (seen_of k) k.ext
  tells_files free = record {
    props = sound.rows;
    files = sound.files;
    told = told_by_rows;
    none = λ w slot there lt none. free slot (empty slot none) w.1;
    named = λ f number there has_it.
        let g = filed f there in
        let there = ap (λ (x : Placed). rec_at k.catalog x.slot) (sym g.2) ∙ filed_rec k.catalog sound.catalog g.0 g.1 in
        let word = some_word (word_of k.dict number) (sound.named number f.slot (ap is_some there) has_it) in
        ((word.0, number), contains_from_among k.dict.entries (word.0, number) (among_from_word k.dict word.0 number word.1), refl);
  }
    where
      empty : (slot : ℕ) → file_in (seen_of k) slot ≡ None → rec_at k.catalog slot ≡ None
      empty slot none = by (rec_at k.catalog slot) refl
        where
          by : (o : Option FileRecord) → rec_at k.catalog slot ≡ o → o ≡ None
          by None is = refl
          by (Some rec) is =
              let g : Filed = record { slot = slot; rec = rec } in
              let some = any_from_among (λ (f : Placed). f.slot == slot) (map (placed k) k.catalog.entries) (placed k g) (map_among (placed k) k.catalog.entries g (filed_at_slot k.catalog sound.catalog slot rec is)) (eq-eqb slot slot refl) in
              absurd (both_ways (list_any (λ (f : Placed). f.slot == slot) (map (placed k) k.catalog.entries)) (any_is_found (λ (f : Placed). f.slot == slot) (map (placed k) k.catalog.entries) ∙ ap is_some none) some)

  pub tells_entailment : (t : Taxonomy) → TellsLinks k t → TellsEntailment (seen_of k) t
  tells_entailment t tells = record {
    props = tells.props;
    told = λ w x there_w there_x.
        same_tests (leads t w.1 x.1) (entails (table_of k) w.0 x.0)
        (λ h. table_made w.0 x.0 (map_among (λ (e : Numbered). e.0) k.dict.entries w (among_from_contains k.dict.entries w there_w))
        (up_from_leads k sound t tells w.1 x.1 w.0 x.0 (named w there_w) (named x there_x) ((entails_decides t w.1 x.1).0 h)))
        (λ h. (entails_decides t w.1 x.1).1 (leads_from_up k sound t tells w.1 x.1 w.0 x.0 (named w there_w) (named x there_x) (table_apart w.0 x.0 h)));
  }
