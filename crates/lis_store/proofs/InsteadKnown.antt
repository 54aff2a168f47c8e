-- The words in use without a file are those that are known after it is removed. So memory shows the words that are known if another file
-- replaces it.
use Rattle.std.proofs.Common.{rules}
use Rattle.std.proofs.Common.{eq-eqb}
use Rattle.lis_store.proofs.Common.{◌≡◌, ◌⊎◌, refl, sym, ap, ap₂, ◌∙◌, subst, inl, inr, ℕ, ◌||◌, ◌&&◌, not, Bool, true, false, cond, Option, Some, None, List, [], ◌∷◌, map, filter, list_any, IsStrictlySortedBy, and_parts, or_cases, not-true, not_from_false, eqb-true, IsStrictlySortedBy-filter, same_Some, Among, contains_from_among, among_filter, filter_among, is_rising, sorted_from_rising, is_taken, number_of, word_of, number_from_word, word_from_number, Filed, slot_of, rec_at, has, numbers_at, FileRecord, AxiomSlot, FreeAxiom, Pair, word_cmp, same_word, is_valued, head_bytes, State, File, description, heads, file_removed, word_order, same_word_decides, among_heads, sorted_known, known_from, Metadata, AreSound, FreeSlotsAreEmpty, bit_of, is_declared, state_of, is_left_of, is_head_by, is_left_head_of, is_had, is_named_left, is_used, Tells, filed_rec, filed_slot, filed_at_slot, some_word, among_place, some_number, word_among, among_word, known_word, declared_word, among_axiom, left_out, emptied, and_from, or_left, or_right, both_ways, false_from_ne_true, among_from_any, any_from_among, among_map, map_among, words, known, same_words, Left, file_told}
use Rattle.lis_dict.proofs.Laws.{among_from_word, number_from_among}
use Rattle.lis_laws.proofs.Chains.{heads_of_valued}
use Rattle.lis_laws.proofs.Sources.{Source, source_of}
use Rattle.lis_laws.proofs.Sources.Source.{Declared, LeftHead, Described}
use Rattle.lis_kept.proofs.Known.{placed_at, axiom_among}
use Rattle.lis_kept.proofs.Without.{had_elsewhere, elsewhere_had}
use Rattle.lis_store.specs.Replacing.{words_without}
use Rattle.lis_store.proofs.StoreSays.{described_told, filed_named}

-- ---- numbers and their words
filter_entries : (t : ℕ → Bool) (u : List ℕ → Bool) (es : List (List ℕ × ℕ)) → ((e : List ℕ × ℕ) → Among es e → u e.0 ≡ t e.1)
    → map (λ (e : List ℕ × ℕ). e.0) (filter (λ (e : List ℕ × ℕ). t e.1) es) ≡ filter u (map (λ (e : List ℕ × ℕ). e.0) es)
filter_entries t u [] same = refl
filter_entries t u (e ∷ es) same = by (t e.1) (same e (inl refl)) (filter_entries t u es (λ x m. same x (inr m)))
  where
    by : (b : Bool) → u e.0 ≡ b → map (λ (x : List ℕ × ℕ). x.0) (filter (λ (x : List ℕ × ℕ). t x.1) es) ≡ filter u (map (λ (x : List ℕ × ℕ). x.0) es)
        → map (λ (x : List ℕ × ℕ). x.0) (cond b (e ∷ filter (λ (x : List ℕ × ℕ). t x.1) es) (filter (λ (x : List ℕ × ℕ). t x.1) es))
        ≡ cond (u e.0) (e.0 ∷ filter u (map (λ (x : List ℕ × ℕ). x.0) es)) (filter u (map (λ (x : List ℕ × ℕ). x.0) es))
    by true is rest = ap (λ ws. e.0 ∷ ws) rest ∙ sym (ap (λ b. cond b (e.0 ∷ filter u (map (λ (x : List ℕ × ℕ). x.0) es)) (filter u (map (λ (x : List ℕ × ℕ). x.0) es))) is)
    by false is rest = rest ∙ sym (ap (λ b. cond b (e.0 ∷ filter u (map (λ (x : List ℕ × ℕ). x.0) es)) (filter u (map (λ (x : List ℕ × ℕ). x.0) es))) is)

-- the number passes, if there is one
abbrev pub passes : (ℕ → Bool) → Option ℕ → Bool
passes t None = false
passes t (Some n) = t n

module _ (k : Metadata) (sound : AreSound k) (slot : ℕ) where
  -- a word that is in use without the slot
  abbrev pub stays : List ℕ → Bool
  stays w = passes (is_used (emptied k slot)) (number_of k.dict w)

  pub without_is : words_without k slot ≡ filter stays (words k.dict)
  without_is = filter_entries (is_used (emptied k slot)) stays k.dict.entries (λ e m. ap (passes (is_used (emptied k slot))) (number_from_among k.dict sound.dict e.0 e.1 m))

  pub sorted_without : IsStrictlySortedBy word_cmp (words_without k slot)
  sorted_without = search (rules, without_is, IsStrictlySortedBy-filter, sorted_from_rising, word_order)

  pub without_word : (w : List ℕ) → Among (words_without k slot) w → (n : ℕ) × (word_of k.dict n ≡ Some w) × (is_used (emptied k slot) n ≡ true)
  without_word w m = search (rules, among_filter, without_is, known_word, number_from_word)

  pub word_without : (w : List ℕ) (n : ℕ) → word_of k.dict n ≡ Some w → is_used (emptied k slot) n ≡ true → Among (words_without k slot) w
  word_without w n is used =
      map_among (λ (e : List ℕ × ℕ). e.0) (filter (λ (e : List ℕ × ℕ). is_used (emptied k slot) e.1) k.dict.entries) (w, n)
      (filter_among (λ (e : List ℕ × ℕ). is_used (emptied k slot) e.1) k.dict.entries (w, n) (among_from_word k.dict w n is) used)

  -- ---- reasons of use
  pub by_flag : (n : ℕ) → is_taken k.declared n ≡ true → is_used (emptied k slot) n ≡ true
  by_flag n bit = or_left (is_taken k.declared n || is_had (left_out k.ext slot) n) (is_named_left k n) (or_left (is_taken k.declared n) (is_had (left_out k.ext slot) n) bit)

  pub by_had : (n : ℕ) → is_had (left_out k.ext slot) n ≡ true → is_used (emptied k slot) n ≡ true
  by_had n had = or_left (is_taken k.declared n || is_had (left_out k.ext slot) n) (is_named_left k n) (or_right (is_taken k.declared n) (is_had (left_out k.ext slot) n) had)

  pub by_left : (n : ℕ) → is_named_left k n ≡ true → is_used (emptied k slot) n ≡ true
  by_left n left = or_right (is_taken k.declared n || is_had (left_out k.ext slot) n) (is_named_left k n) left

module _ (k : Metadata) (at : ℕ → List ℕ) (s : State) (sound : AreSound k) (free : FreeSlotsAreEmpty k) (tells : Tells k at s) (name : List ℕ) (slot : ℕ) (rec : FileRecord)
    (is_slot : slot_of k.catalog name ≡ Some slot) (is_rec : rec_at k.catalog slot ≡ Some rec) where
  abbrev told : State
  told = state_of k at

  abbrev rest : State
  rest = file_removed told name

  abbrev file_in : Filed → File
  file_in f = file_told k.limits k.dict at f

  abbrev other_name : File → Bool
  other_name file = not (same_word file.name name)

  -- ---- the other files
  other_slot : (f : Filed) → Among k.catalog.entries f → same_word f.rec.name name ≡ false → f.slot ≡ slot → ⊥
  other_slot f m differ same =
      let recs : f.rec ≡ rec = same_Some f.rec rec (sym (filed_rec k.catalog sound.catalog f m) ∙ (ap (rec_at k.catalog) same ∙ is_rec)) in
      let named : f.rec.name ≡ name = ap (λ (r : FileRecord). r.name) recs ∙ (filed_named k sound name slot rec is_slot is_rec).1 in
      both_ways (same_word f.rec.name name) differ ((same_word_decides f.rec.name name).1 named)

  file_stays : (f : Filed) → Among k.catalog.entries f → (f.slot ≡ slot → ⊥) → Among rest.files (file_in f)
  file_stays f m differ =
      let apart : same_word f.rec.name name ≡ false = false_from_ne_true (same_word f.rec.name name) (λ same.
      let slots : Some f.slot ≡ Some slot = sym (filed_slot k.catalog sound.catalog f m) ∙ (ap (slot_of k.catalog) ((same_word_decides f.rec.name name).0 same) ∙ is_slot) in
      differ (same_Some f.slot slot slots)) in
      filter_among other_name told.files (file_in f) (map_among file_in k.catalog.entries f m) (not_from_false (same_word f.rec.name name) apart)

  -- ---- what is in use is known
  left_source : (n : ℕ) (w : List ℕ) → word_of k.dict n ≡ Some w → list_any (is_left_of n) k.axioms ≡ true → Source rest w
  left_source n w is h = let found = among_from_any (is_left_of n) k.axioms h in by found.0 found.1 found.2
    where
      by : (a : AxiomSlot) → Among k.axioms a → is_left_of n a ≡ true → Source rest w
      by FreeAxiom m left = absurd cc
      by (Pair p q) m left =
          let place = placed_at k.axioms (Pair p q) m in
          let right = some_word (word_of k.dict q) (sound.axioms place.0 p q place.1).right in
          let word : word_of k.dict p ≡ Some w = ap (word_of k.dict) (eqb-true p n left) ∙ is in
          Left (w, right.0) (axiom_among k sound place.0 p q w right.0 place.1 word right.1) refl

  head_source : (n : ℕ) (w : List ℕ) → word_of k.dict n ≡ Some w → list_any (is_left_head_of k.dict n) k.axioms ≡ true → Source rest w
  head_source n w is h = let found = among_from_any (is_left_head_of k.dict n) k.axioms h in by found.0 found.1 found.2
    where
      by : (a : AxiomSlot) → Among k.axioms a → is_left_head_of k.dict n a ≡ true → Source rest w
      by FreeAxiom m head = absurd cc
      by (Pair p q) m head =
          let place = placed_at k.axioms (Pair p q) m in
          let sides = sound.axioms place.0 p q place.1 in
          let left = some_word (word_of k.dict p) sides.left in
          let right = some_word (word_of k.dict q) sides.right in
          let test : (is_valued left.0 && same_word (head_bytes left.0) w) ≡ true =
          subst (λ o. is_head_by (Some left.0) o ≡ true) is (subst (λ o. is_head_by o (word_of k.dict n) ≡ true) left.1 head) in
          let parts = and_parts (is_valued left.0) (same_word (head_bytes left.0) w) test in
          LeftHead (left.0, right.0) (axiom_among k sound place.0 p q left.0 right.0 place.1 left.1 right.1)
          (subst (λ v. Among (heads left.0) v) ((same_word_decides (head_bytes left.0) w).0 parts.1) (heads_of_valued left.0 parts.0))

  had_source : (n : ℕ) (w : List ℕ) → word_of k.dict n ≡ Some w → is_had (left_out k.ext slot) n ≡ true → Source rest w
  had_source n w is h = let place = had_elsewhere k.ext slot n h in by place.0 place.2 place.3 (rec_at k.catalog place.0) refl
    where
      by : (place : ℕ) → (place ≡ slot → ⊥) → has k.ext n place ≡ true → (o : Option FileRecord) → rec_at k.catalog place ≡ o → Source rest w
      by place differ has_it None none = absurd (both_ways (has k.ext n place) (free place none n) has_it)
      by place differ has_it (Some r) there =
          let f : Filed = record { slot = place; rec = r } in
          let m = filed_at_slot k.catalog sound.catalog place r there in
          Described (file_in f) (file_stays f m differ)
          (subst (λ ws. Among ws w) (described_told k at s sound free tells f (contains_from_among k.catalog.entries f m)) (word_among k sound (numbers_at k.ext place) n w is has_it))

  used_source : (n : ℕ) (w : List ℕ) → word_of k.dict n ≡ Some w → is_used (emptied k slot) n ≡ true → Source rest w
  used_source n w is used = front (or_cases (is_taken k.declared n || is_had (left_out k.ext slot) n) (is_named_left k n) used)
    where
      named : (list_any (is_left_of n) k.axioms ≡ true) ⊎ (list_any (is_left_head_of k.dict n) k.axioms ≡ true) → Source rest w
      named (inl left) = left_source n w is left
      named (inr head) = head_source n w is head

      first : (is_taken k.declared n ≡ true) ⊎ (is_had (left_out k.ext slot) n ≡ true) → Source rest w
      first (inl bit) = Declared (declared_word k sound n w is bit)
      first (inr had) = had_source n w is had

      front : ((is_taken k.declared n || is_had (left_out k.ext slot) n) ≡ true) ⊎ (is_named_left k n ≡ true) → Source rest w
      front (inl some) = first (or_cases (is_taken k.declared n) (is_had (left_out k.ext slot) n) some)
      front (inr left) = named (or_cases (list_any (is_left_of n) k.axioms) (list_any (is_left_head_of k.dict n) k.axioms) left)

  -- ---- what is known is in use
  abbrev InUse : List ℕ → Type 0
  InUse w = (n : ℕ) × (word_of k.dict n ≡ Some w) × (is_used (emptied k slot) n ≡ true)

  source_used : (w : List ℕ) → Source rest w → InUse w
  source_used w (Declared m) =
      let both = among_filter (is_declared k) (words k.dict) w m in
      let found = known_word k sound w both.0 in
      (found.0, found.1, by_flag k sound slot found.0 (sym (ap (bit_of k.declared) (number_from_word k.dict sound.dict w found.0 found.1)) ∙ both.1))
  source_used w (Left e m is) =
      let found = among_axiom k sound e m in
      let p = found.1 in
      let left = any_from_among (is_left_of p) k.axioms (Pair p found.2) (among_place k.axioms found.0 (Pair p found.2) found.3) (eq-eqb p p refl) in
      (p, found.4 ∙ ap Some is, by_left k sound slot p (or_left (list_any (is_left_of p) k.axioms) (list_any (is_left_head_of k.dict p) k.axioms) left))
  source_used w (LeftHead e m head) =
      let found = among_axiom k sound e m in
      let parts = among_heads e.0 w head in
      let number = some_number (number_of k.dict (head_bytes e.0)) (sound.heads found.1 e.0 found.4 parts.0) in
      let word = word_from_number k.dict sound.dict (head_bytes e.0) number.0 number.1 in
      let test : is_head_by (word_of k.dict found.1) (word_of k.dict number.0) ≡ true =
      ap₂ is_head_by found.4 word ∙ and_from (is_valued e.0) (same_word (head_bytes e.0) (head_bytes e.0)) parts.0 ((same_word_decides (head_bytes e.0) (head_bytes e.0)).1 refl) in
      let left = any_from_among (is_left_head_of k.dict number.0) k.axioms (Pair found.1 found.2) (among_place k.axioms found.0 (Pair found.1 found.2) found.3) test in
      (number.0, word ∙ ap Some parts.1, by_left k sound slot number.0 (or_right (list_any (is_left_of number.0) k.axioms) (list_any (is_left_head_of k.dict number.0) k.axioms) left))
  source_used w (Described file m has_it) =
      let stayed = among_filter other_name told.files file m in
      let f = among_map file_in k.catalog.entries file stayed.0 in
      let words_are = described_told k at s sound free tells f.0 (contains_from_among k.catalog.entries f.0 f.1) ∙ ap (description told) f.2 in
      let found = among_word k sound (numbers_at k.ext (f.0).slot) w (subst (λ ws. Among ws w) (sym words_are) has_it) in
      let apart : same_word (f.0).rec.name name ≡ false = ap (λ (x : File). same_word x.name name) f.2 ∙ not-true (same_word file.name name) stayed.1 in
      (found.0, found.1, by_had k sound slot found.0 (elsewhere_had k.ext slot found.0 (f.0).slot (other_slot f.0 f.1 apart) found.2))

  -- ---- so they are the same
  pub rest_known : words_without k slot ≡ known (file_removed s name)
  rest_known =
      same_words (words_without k slot) (known rest) (sorted_without k sound slot) (sorted_known rest declared_set)
      (λ w m. let found = without_word k sound slot w m in known_from rest w (used_source found.0 w found.1 found.2))
      (λ w m. let found = source_used w (source_of rest w m) in word_without k sound slot w found.0 found.1 found.2)
      ∙ ap (λ (t : State). known (file_removed t name)) tells.state
    where
      declared_set : is_rising word_cmp told.declared ≡ true
      declared_set = subst (λ (t : State). is_rising word_cmp t.declared ≡ true) (sym tells.state) tells.formed.declared_set
