-- The words of property slots: read one after another, and sorted once.
use Rattle.lis_open.proofs.Common.{rules, ◌≡◌, ◌∙◌, refl, sym, ap, subst, inl, ℕ, ◌+◌, ◌<◌, Bool, true, false, Option, Some, None, List, replicate, get_or, IsTrue, IsSome, arith, ap₂, option_to_list, [], map, ⊎_elim, IfSome, length-set, get_or-set_same, get_or-set_other, fold, cases_lt, length-replicate, same_Some, Meaning, DiskFaultEnds, Held, Fits, slot, is_taken, number_of, word_of, word_from_number, number_from_word, number_below, prop_bytes, is_prop, PropSlot, FreeProp, Limits, Property, property_by, property_slots, word_in, insert_key, Among, among_map, map_among, among_flat_map, Filed, AxiomSlot, FreeAxiom, Pair, among_from_has_word, among_set_of, sorted_set_of, Metadata, bit_of, pair_by, pair_told, axioms_of, bytes_told, file_told, declared_there, there_declared, words_in, word_at, both_ways, get_or_past, has_word, flat_map_among, has_word_from_among, set_of_among, set_of, File, pair_cmp, file_of_record}
use Rattle.lis_open.proofs.Once.{each_number}
use Rattle.std.proofs.lemmas.List.{get_or-replicate}
use Rattle.lis_graph.specs.Again.{IsAgain, IsFirstAgain}
use Rattle.lis_dict.specs.Dict.{Dict, IsDict, HasWords}
use Rattle.lis_fields.specs.declared.slots.PropSlot.TheVariants.{Known, Declared}
use Rattle.lis_kept.specs.Metadata.{property_at}
use Rattle.lis_store.proofs.Spelled.{word_by, declared_by as declared_by_slot}
use Rattle.lis_open.specs.declared.blocks.LastBlock.{LastBlock}
use Rattle.lis_open.specs.declared.words.Words.{Words}
use Rattle.lis_open.specs.declared.words.WordSlots.{WordSlots}
use Rattle.lis_open.specs.Checks.{IsProperty, HasWord, PropertyFails, AreProperties, declared_by, axioms_by}
use Rattle.lis_ports.specs.Calls.{OnlyReads}
use Rattle.lis_open.specs.Reading.{Recalls, IsReadAs, IsFirst, Passes}
use Rattle.lis_open.specs.ReadWords.{no_words, slot_word, property_read, with_word, with_property, AreFirstSlots, SlotsAreSpelled, SlotsEnded, AreWords, WordsAreSpelled, declared_words, kept_words}
use Rattle.lis_open.proofs.SpotKinds.{none_before, none_fails}
use Rattle.lis_open.proofs.BlocksRead.{StillRecalls, one_property}
use Rattle.std.specs.List.{range_with_len}
use Rattle.std.proofs.lemmas.List.FromFn.{length-map-range_with_len, get_or-map-range_with_len}
use Rattle.lis_graph.proofs.Ranges.{range_among}
use Rattle.lis_laws.proofs.Members.{same_words}
use Rattle.lis_kept.proofs.WordMore.{sorted_declared, flat_all}
use Rattle.lis_store.specs.Stands.{declared_in, all_declared, pair_in}
use Rattle.lis_store.proofs.SlotOrder.{given_at}
use Rattle.lis_open.proofs.Descriptions.{no_word_past, one_in, only_one}

-- ---- one word more
module _ (slots : WordSlots) (number : ℕ) (word : List ℕ) (is_declared : Bool) (limits : Limits) (first : AreFirstSlots limits slots number) (below : number < limits.props) where
  abbrev with_it : WordSlots
  with_it = with_word slots number word is_declared

  -- what holds of the word, and of each other number as it was, holds of each number
  at_each : (P : ℕ → Option (List ℕ) → Bool → Type 0) → P number (Some word) is_declared → ((m : ℕ) → (m ≡ number → ⊥) → P m (slot_word slots m) (is_taken slots.declared m))
      → (m : ℕ) → P m (slot_word with_it m) (is_taken with_it.declared m)
  at_each P here there =
      each_number (λ n. P n (slot_word with_it n) (is_taken with_it.declared n)) number
      (subst (λ o. P number o (is_taken with_it.declared number)) (sym (get_or-set_same slots.unsorted number (Some word) None (omega (arith, first.long, below))))
      (subst (P number (Some word)) (sym (get_or-set_same slots.declared number is_declared false (omega (arith, first.flags, below)))) here)) (λ m differ.
      subst (λ o. P m o (is_taken with_it.declared m)) (sym (get_or-set_other slots.unsorted number m (Some word) None differ))
      (subst (P m (slot_word slots m)) (sym (get_or-set_other slots.declared number m is_declared false differ)) (there m differ)))

  first_more : IsTrue (is_prop (property_by (Some word) is_declared)) → AreFirstSlots limits with_it (number + 1)
  first_more here = record {
    within = omega (arith, below);
    long = length-set slots.unsorted number (Some word) ∙ first.long;
    flags = length-set slots.declared number is_declared ∙ first.flags;
    rest = λ n le. get_or-set_other slots.unsorted number n (Some word) None (λ e. omega arith) ∙ first.rest n (omega arith);
    forms = at_each (λ m o bit. IsTrue (is_prop (property_by o bit))) here (λ m differ. first.forms m);
    flagged = at_each (λ m o bit. bit ≡ true → IsSome o) (λ bit. refl) (λ m differ. first.flagged m);
  }

  spelled_more : (at : ℕ → List ℕ) → SlotsAreSpelled limits at slots number → slot (property_slots limits) at number ≡ prop_bytes (property_by (Some word) is_declared) → SlotsAreSpelled limits at with_it (number + 1)
  spelled_more at spelled here =
      at_each (λ n o bit. n < number + 1 → slot (property_slots limits) at n ≡ prop_bytes (property_by o bit)) (λ lt. here) (λ n differ lt. spelled n (omega arith))

-- ---- one slot more
module _ (limits : Limits) (slots : WordSlots) (number : ℕ) (first : AreFirstSlots limits slots number) (below : number < limits.props) where
  free : slot_word slots number ≡ None
  free = first.rest number (omega arith)

  -- the slots with what one more has, which is spelled if the earlier ones are
  abbrev AreMore : WordSlots → PropSlot → Type 0
  AreMore next property =
      AreFirstSlots limits next (number + 1)
      × ((at : ℕ → List ℕ) → SlotsAreSpelled limits at slots number → IsProperty limits at number property → SlotsAreSpelled limits at next (number + 1))

  word_on : (w : List ℕ) (is_declared : Bool) → IsTrue (is_prop (property_by (Some w) is_declared)) → AreMore (with_word slots number w is_declared) (property_by (Some w) is_declared)
  word_on w is_declared form = (first_more slots number w is_declared limits first below form, λ at spelled read. spelled_more slots number w is_declared limits first below at spelled read.bytes)

  free_on : AreMore slots FreeProp
  free_on = search (rules, free)

  pub slot_on : (property : PropSlot) (next : WordSlots) → IsTrue (is_prop property) → next ≡ with_property slots number property
      → AreFirstSlots limits next (number + 1)
      × ((at : ℕ → List ℕ) → SlotsAreSpelled limits at slots number → IsProperty limits at number property → SlotsAreSpelled limits at next (number + 1))
  slot_on FreeProp next form is = subst (λ (w : WordSlots). AreMore w FreeProp) (sym is) free_on
  slot_on (Known w) next form is = subst (λ (x : WordSlots). AreMore x (Known w)) (sym is) (word_on w false form)
  slot_on (Declared w) next form is = subst (λ (x : WordSlots). AreMore x (Declared w)) (sym is) (word_on w true form)

-- ---- what was found in a slot
pub form_there : (property : PropSlot) (found : Option PropSlot) → found ≡ Some property → IfSome found (λ value. IsTrue (is_prop value)) → IsTrue (is_prop property)
form_there property found is form = subst (λ o. IfSome o (λ value. IsTrue (is_prop value))) is form

pub read_there : (limits : Limits) (at : ℕ → List ℕ) (n : ℕ) (property : PropSlot) (found : Option PropSlot) → found ≡ Some property → IsReadAs prop_bytes is_prop (property_slots limits) at n found → IsProperty limits at n property
read_there limits at n property found is read = subst (λ o. IsReadAs prop_bytes is_prop (property_slots limits) at n o) is read

pub ended_at : (limits : Limits) (at : ℕ → List ℕ) (slots : WordSlots) (end : ℕ) (found : Option PropSlot) → SlotsAreSpelled limits at slots end → found ≡ None
    → IsReadAs prop_bytes is_prop (property_slots limits) at end found → SlotsEnded limits at slots end
ended_at limits at slots end found spelled none read = record { spelled = spelled; malformed = λ below. subst (λ o. IsReadAs prop_bytes is_prop (property_slots limits) at end o) none read }

-- ---- the words, sorted
module _ (limits : Limits) (slots : WordSlots) (end : ℕ) (first : AreFirstSlots limits slots end) (d : Dict) (kept : IsDict d) (has : HasWords d slots.unsorted) where
  -- no word has two numbers
  pub none_again : (n : ℕ) → IsAgain (λ (word : List ℕ). word) slots.unsorted n → ⊥
  none_again n again =
      let here = number_from_word d kept again.2 n (has.1 n ∙ again.5) in
      let there = number_from_word d kept again.2 again.0 (has.1 again.0 ∙ (again.4 ∙ ap (λ w. Some w) again.6)) in
      let same : n ≡ again.0 = same_Some n again.0 (sym here ∙ there) in
      omega (arith, again.3, same)

-- ---- the checks of slots
module _ (limits : Limits) (at : ℕ → List ℕ) (slots : WordSlots) (end : ℕ) (first : AreFirstSlots limits slots end) (spelled : SlotsAreSpelled limits at slots end) where
  -- a slot below the end, as it was read
  property_is : (n : ℕ) → n < end → IsProperty limits at n (property_read slots n)
  property_is n lt = record { below = omega (arith, lt, first.within); bytes = spelled n lt; range = first.forms n }

  -- a number that has a word is below the end
  number_read : (n : ℕ) (w : List ℕ) → slot_word slots n ≡ Some w → n < end
  number_read n w is = ⊎_elim (λ lt. lt) (λ past. absurd (let none = sym (first.rest n past) ∙ is in cc)) (cases_lt n end)

  its_word : (n : ℕ) (w : List ℕ) → slot_word slots n ≡ Some w → HasWord limits at n w
  its_word n w is = record { property = property_read slots n; is = property_is n (number_read n w is); has = word_by (slot_word slots n) (is_taken slots.declared n) ∙ is }

  word_is : (n : ℕ) (w : List ℕ) → n < end → HasWord limits at n w → slot_word slots n ≡ Some w
  word_is n w lt has = sym (word_by (slot_word slots n) (is_taken slots.declared n)) ∙ (ap word_in (one_property limits at n (property_read slots n) has.property (property_is n lt) has.is) ∙ has.has)

  -- of the slots below the end, those fail whose word is there again
  fails_again : (n : ℕ) → n < end → PropertyFails limits at n → IsAgain (λ (word : List ℕ). word) slots.unsorted n
  fails_again n lt fails =
      let found = fails.fault (property_read slots n) (property_is n lt) in (
        found.earlier,
        found.word,
        found.word,
        found.before,
        word_is found.earlier found.word (omega (arith, found.before, lt)) found.there,
        sym (word_by (slot_word slots n) (is_taken slots.declared n)) ∙ found.has,
        refl,
      )

  again_fails : (n : ℕ) → IsAgain (λ (word : List ℕ). word) slots.unsorted n → PropertyFails limits at n
  again_fails n again =
      let lt = number_read n again.2 again.5 in
      record {
        below = omega (arith, lt, first.within);
        fault = λ property is. record {
          word = again.2;
          has = ap word_in (one_property limits at n property (property_read slots n) is (property_is n lt)) ∙ (word_by (slot_word slots n) (is_taken slots.declared n) ∙ again.5);
          earlier = again.0;
          before = again.3;
          there = its_word again.0 again.2 (again.4 ∙ ap (λ w. Some w) again.6);
        };
      }

  pub first_again : (n : ℕ) → IsFirstAgain (λ (word : List ℕ). word) slots.unsorted n → IsFirst limits at 2 (Property n)
  first_again n least = record {
    fails = again_fails n least.again;
    is = refl;
    none_before = none_before limits at 2 n (λ m lt fails.
        least.first m lt (fails_again m (omega (arith, lt, number_read n least.again.2 least.again.5)) fails));
  }

  module _ (d : Dict) (kept : IsDict d) (has : HasWords d slots.unsorted) where
    slot_passes : (n : ℕ) → n < end → PropertyFails limits at n → ⊥
    slot_passes n lt fails = none_again limits slots end first d kept has n (fails_again n lt fails)

    pub malformed_fails : end < limits.props → ((property : PropSlot) → IsProperty limits at end property → ⊥) → IsFirst limits at 2 (Property end)
    malformed_fails below malformed = record {
      fails = record { below = below; fault = λ property is. absurd (malformed property is) };
      is = refl;
      none_before = none_before limits at 2 end slot_passes;
    }

    -- no check of this kind fails
    pub words_pass : end ≡ limits.props → Passes limits at 2 (WordsAreSpelled limits at (record { dict = d; declared = slots.declared }) limits.props)
    words_pass all = record {
      none = none_fails limits at 2 (λ n fails. slot_passes n (omega (arith, all, fails.below)) fails);
      is = λ n lt. spelled n (omega (arith, all, lt)) ∙ ap (λ o. prop_bytes (property_by o (is_taken slots.declared n))) (sym (has.1 n));
    }

-- ---- the loop
pub record SlotsTurn (journal : Held) (limits : Limits) (old now : Meaning) (before last : LastBlock) (slots : WordSlots) (end : ℕ) : Type 0 where
  pub reads : OnlyReads old now
  pub faults : now.disk_faults ≡ old.disk_faults
  pub first_fault : DiskFaultEnds old now
  pub first : AreFirstSlots limits slots end
  pub recalls : StillRecalls journal old before last
  pub spelled : (kept : ℕ → List ℕ) → Fits journal old kept → Recalls before kept → SlotsAreSpelled limits kept slots end

-- a list of one repeated value has it at each index, and past its end
pub nothing_at : {X : Type 0} (n k : ℕ) (x : X) → get_or (replicate n x) k x ≡ x
nothing_at n k x =
    ⊎_elim (get_or-replicate n k x x) (λ past. get_or_past (replicate n x) k x (omega (arith, past, length-replicate n x))) (cases_lt k n)

-- before anything is read
pub no_slots : (limits : Limits) (slots : WordSlots) → slots ≡ no_words limits → AreFirstSlots limits slots 0
unfolding no_words
no_slots limits slots none = search (rules, length-replicate, both_ways, nothing_at)

-- ---- the property slots that words spell, and what they represent
-- the property slots of all numbers
abbrev pub told_properties : Limits → Words → List PropSlot
told_properties limits words = map (property_at words.dict words.declared) (range_with_len 0 limits.props)

some_bit : (bits : List Bool) (o : Option ℕ) → bit_of bits o ≡ true → (n : ℕ) × (o ≡ Some n) × (is_taken bits n ≡ true)
some_bit bits None h = absurd cc
some_bit bits (Some n) h = (n, refl, h)

module _ (limits : Limits) (words : Words) (are : AreWords words) (same : words.dict.props ≡ limits.props) where
  abbrev property : ℕ → PropSlot
  property n = property_at words.dict words.declared n

  abbrev told : List PropSlot
  told = told_properties limits words

  abbrev k : Metadata
  k = kept_words limits words []

  pub number_within : (n : ℕ) (w : List ℕ) → word_of words.dict n ≡ Some w → n < limits.props
  number_within n w is = let below = number_below words.dict are.dict w n (number_from_word words.dict are.dict w n is) in omega (arith, below, same)

  number_among : (n : ℕ) (w : List ℕ) → word_of words.dict n ≡ Some w → Among (range_with_len 0 limits.props) n
  number_among n w is = let below = number_within n w is in range_among 0 limits.props n (omega arith) (omega arith)

  pub word_at_told : (n : ℕ) → word_at (told_properties limits words) n ≡ word_of words.dict n
  word_at_told n =
      ⊎_elim (λ lt. ap word_in (get_or-map-range_with_len property 0 limits.props n n FreeProp lt (omega arith)) ∙ word_by (word_of words.dict n) (is_taken words.declared n))
      (λ past.
      ap word_in (get_or_past told n FreeProp (omega (arith, past, length-map-range_with_len property 0 limits.props)))
      ∙ sym (no_word_past words.dict are.dict n (omega (arith, past, same)))) (cases_lt n limits.props)

  -- ---- words
  slot_declared : (w : List ℕ) → Among (all_declared told) w → Among (declared_words words) w
  slot_declared w m =
      let found = among_flat_map (λ x. option_to_list (declared_in x)) told w m in
      let n = among_map property (range_with_len 0 limits.props) found.0 found.1 in
      let is = declared_by_slot (word_of words.dict n.0) (is_taken words.declared n.0) w (subst (λ x. Among (option_to_list (declared_in x)) w) (sym n.2) found.2) in
      declared_there k w (ap (bit_of words.declared) (number_from_word words.dict are.dict w n.0 is.0) ∙ is.1)

  declared_slot : (w : List ℕ) → Among (declared_words words) w → Among (all_declared told) w
  declared_slot w m =
      let bit = some_bit words.declared (number_of words.dict w) (there_declared k w m) in
      let named = word_from_number words.dict are.dict w bit.0 bit.1 in
      let is : property bit.0 ≡ Declared w = ap₂ property_by named bit.2 in
      flat_map_among (λ x. option_to_list (declared_in x)) told (property bit.0) w (map_among property (range_with_len 0 limits.props) bit.0 (number_among bit.0 w named))
      (subst (λ x. Among (option_to_list (declared_in x)) w) (sym is) (inl refl))

  pub declared_told : declared_by (told_properties limits words) ≡ declared_words words
  declared_told =
      sym (same_words (declared_words words) (set_of (all_declared told)) (sorted_declared k are.dict) (sorted_set_of (all_declared told))
      (λ w m. set_of_among (all_declared told) w (declared_slot w m))
      (λ w m. slot_declared w (among_set_of (all_declared told) w m)))

  -- the words of the slots are those that have numbers
  pub told_word : (n : ℕ) (w : List ℕ) → word_of words.dict n ≡ Some w → has_word (words_in (told_properties limits words)) w ≡ true
  told_word n w is =
      has_word_from_among (words_in told) w
      (flat_map_among (λ x. option_to_list (word_in x)) told (property n) w (map_among property (range_with_len 0 limits.props) n (number_among n w is))
      (one_in (word_in (property n)) w (word_by (word_of words.dict n) (is_taken words.declared n) ∙ is)))

  pub word_told : (w : List ℕ) → has_word (words_in (told_properties limits words)) w ≡ true → (n : ℕ) × (word_of words.dict n ≡ Some w)
  word_told w h =
      let found = among_flat_map (λ x. option_to_list (word_in x)) told w (among_from_has_word (words_in told) w h) in
      let n = among_map property (range_with_len 0 limits.props) found.0 found.1 in
      (n.0, sym (word_by (word_of words.dict n.0) (is_taken words.declared n.0)) ∙ (ap word_in n.2 ∙ only_one (word_in found.0) w found.2))

  -- ---- axioms
  pair_is : (a : AxiomSlot) → pair_in told a ≡ pair_told words.dict a
  pair_is FreeAxiom = refl
  pair_is (Pair p q) = ap₂ pair_by (word_at_told p) (word_at_told q)

  pub axioms_told : (axioms : List AxiomSlot) → axioms_by (told_properties limits words) axioms ≡ axioms_of (kept_words limits words axioms)
  axioms_told axioms = ap (fold (insert_key pair_cmp) []) (flat_all (pair_in told) (pair_told words.dict) axioms (λ a m. pair_is a))

  -- ---- files
  pub file_is_told : (at : ℕ → List ℕ) (f : Filed) → file_of_record limits (told_properties limits words) at f.rec ≡ file_told limits words.dict at f
  file_is_told at f =
      let make : List (List ℕ) → File = λ ws. record { name = f.rec.name; bytes = bytes_told limits at f.rec; assigned = set_of ws } in
      ap make (flat_all (λ n. option_to_list (word_at told n)) (λ n. option_to_list (word_of words.dict n)) f.rec.tags (λ n m. ap (λ o. option_to_list o) (word_at_told n)))

  -- ---- slots
  module _ (at : ℕ → List ℕ) (spelled : WordsAreSpelled limits at words limits.props) where
    pub are_told : AreProperties limits at (told_properties limits words)
    are_told = search (rules, length-map-range_with_len, given_at)
