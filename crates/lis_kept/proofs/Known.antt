-- The words that have numbers are the known words: each number with a word is in use, and what is known has a number.
pub use Rattle.lis_kept.proofs.OwnLinks.{placed_at, among_place}
use Rattle.std.proofs.Common.{option_to_list}
use Rattle.lis_kept.proofs.Common.{rules, ◌≡◌, ◌⊎◌, ℕ, true, List, [], Option, Some, None, is_some, map, slice_get, IsSome, refl, sym, ap, ap₂, ◌∙◌, subst, inl, inr, flat_map, Contains, and_parts, same_Some, Among, contains_from_among, among_filter, among_map, among_flat_map, flat_map_among, sorted_from_rising, number_of, word_of, number_from_word, word_from_number, Filed, rec_at, has, numbers_at, FileRecord, AxiomSlot, FreeAxiom, Pair, word_cmp, same_word, has_word, is_valued, head_bytes, File, description, pair_exact, word_order, same_word_decides, among_from_has_word, both_ways, filter_among, map_among, words, has_word_from_among, same_words, same_tests}
use Rattle.lis_graph.proofs.Members.{among_with_more, with_more_new}
use Rattle.lis_blockmap.specs.Bitmap.{is_taken}
use Rattle.lis_dict.proofs.Laws.{among_from_word, number_from_among}
use Rattle.lis_model.specs.State.{pair_cmp, known, heads}
use Rattle.lis_graph.specs.Graph.{is_rising}
use Rattle.lis_laws.proofs.Members.{among_set_of, set_of_among}
use Rattle.lis_laws.proofs.Counts.{rising_filter}
use Rattle.lis_laws.proofs.Chains.{among_heads, heads_of_valued}
use Rattle.lis_laws.proofs.Known.{sorted_known}
use Rattle.lis_laws.proofs.Sources.{Source, source_of, known_from}
use Rattle.lis_laws.proofs.Sources.Source.{Declared, Left, LeftHead, Described}
use Rattle.lis_kept.specs.Metadata.{Metadata}
use Rattle.lis_kept.specs.Sound.{AreSound, FreeSlotsAreEmpty}
use Rattle.lis_kept.specs.Telling.{is_declared, declared_of, words_told, pair_by, pair_told, pairs_told, axioms_of, file_told, state_of, is_head_by, AreUsed}
use Rattle.lis_kept.proofs.Filing.{among_from_number as among_numbers, number_from_among as has_from_among, filed_at_slot}
use Rattle.lis_kept.proofs.Formed.{some_word}
use Rattle.lis_kept.proofs.Used.{WhyUsed, why_used}
use Rattle.lis_kept.proofs.Used.WhyUsed.{Flagged, Had, OnLeft, HeadOfLeft}
use Rattle.lis_model.specs.Sets.{has_number}

pub only_word : (o : Option (List ℕ)) (w : List ℕ) → Among (option_to_list o) w → o ≡ Some w
only_word o w m = search (rules)

pub some_number : (o : Option ℕ) → IsSome o → (n : ℕ) × (o ≡ Some n)
some_number o h = search (rules)

pub only_pair : (p q : Option (List ℕ)) (e : List ℕ × List ℕ) → Among (pair_by p q) e → (p ≡ Some e.0) × (q ≡ Some e.1)
only_pair p q e m = search (rules)

-- ---- numbers and their words
module _ (k : Metadata) (sound : AreSound k) where
  pub one_number : (m n : ℕ) (w : List ℕ) → word_of k.dict m ≡ Some w → word_of k.dict n ≡ Some w → m ≡ n
  one_number m n w is_m is_n = same_Some m n (sym (number_from_word k.dict sound.dict w m is_m) ∙ number_from_word k.dict sound.dict w n is_n)

  pub word_among : (ns : List ℕ) (n : ℕ) (w : List ℕ) → word_of k.dict n ≡ Some w → has_number ns n ≡ true → Among (words_told k.dict ns) w
  word_among ns n w is h =
      set_of_among (flat_map (λ m. option_to_list (word_of k.dict m)) ns) w
      (flat_map_among (λ m. option_to_list (word_of k.dict m)) ns n w (among_numbers ns n h) (subst (λ o. Among (option_to_list o) w) (sym is) (inl refl)))

  pub among_word : (ns : List ℕ) (w : List ℕ) → Among (words_told k.dict ns) w → (n : ℕ) × (word_of k.dict n ≡ Some w) × (has_number ns n ≡ true)
  among_word ns w m =
      let found = among_flat_map (λ n. option_to_list (word_of k.dict n)) ns w (among_set_of (flat_map (λ n. option_to_list (word_of k.dict n)) ns) w m) in
      (found.0, only_word (word_of k.dict found.0) w found.2, has_from_among ns found.0 found.1)

  -- numbers have the number of a word exactly if their words have the word
  pub number_told : (ns : List ℕ) (n : ℕ) (w : List ℕ) → word_of k.dict n ≡ Some w → has_number ns n ≡ has_word (words_told k.dict ns) w
  number_told ns n w is =
      same_tests (has_number ns n) (has_word (words_told k.dict ns) w)
      (λ h. has_word_from_among (words_told k.dict ns) w (word_among ns n w is h))
      (λ h. let found = among_word ns w (among_from_has_word (words_told k.dict ns) w h) in
      subst (λ m. has_number ns m ≡ true) (one_number found.0 n w found.1 is) found.2)

  pub word_known : (n : ℕ) (w : List ℕ) → word_of k.dict n ≡ Some w → Among (words k.dict) w
  word_known n w is = map_among (λ (e : List ℕ × ℕ). e.0) k.dict.entries (w, n) (among_from_word k.dict w n is)

  pub known_word : (w : List ℕ) → Among (words k.dict) w → (n : ℕ) × (word_of k.dict n ≡ Some w)
  known_word w m =
      let e = among_map (λ (e : List ℕ × ℕ). e.0) k.dict.entries w m in
      ((e.0).1, subst (λ v. word_of k.dict (e.0).1 ≡ Some v) e.2 (word_from_number k.dict sound.dict (e.0).0 (e.0).1 (number_from_among k.dict sound.dict (e.0).0 (e.0).1 e.1)))

  -- ---- declared words
  pub declared_word : (n : ℕ) (w : List ℕ) → word_of k.dict n ≡ Some w → is_taken k.declared n ≡ true → Among (declared_of k) w
  declared_word n w is bit = search (rules, filter_among, word_known, number_from_word)

  pub declared_has_number : (w : List ℕ) → Among (declared_of k) w → (n : ℕ) × (word_of k.dict n ≡ Some w)
  declared_has_number w m = known_word w (among_filter (is_declared k) (words k.dict) w m).0

  pub declared_set : is_rising word_cmp (declared_of k) ≡ true
  declared_set = rising_filter word_cmp (is_declared k) (words k.dict) sound.dict.rising

  -- ---- axioms
  pub axiom_among : (slot p q : ℕ) (l r : List ℕ) → slice_get k.axioms slot ≡ Some (Pair p q) → word_of k.dict p ≡ Some l → word_of k.dict q ≡ Some r → Among (axioms_of k) (l, r)
  axiom_among slot p q l r at is_l is_r =
      with_more_new pair_cmp pair_exact [] (pairs_told k.dict k.axioms) (l, r)
      (flat_map_among (pair_told k.dict) k.axioms (Pair p q) (l, r) (among_place k.axioms slot (Pair p q) at) (here (word_of k.dict p) (word_of k.dict q) is_l is_r))
    where
      here : (a b : Option (List ℕ)) → a ≡ Some l → b ≡ Some r → Among (pair_by a b) (l, r)
      here a b is_a is_b = subst (λ o. Among (pair_by o b) (l, r)) (sym is_a) (subst (λ o. Among (pair_by (Some l) o) (l, r)) (sym is_b) (inl refl))

  pub among_axiom : (e : List ℕ × List ℕ) → Among (axioms_of k) e → (slot : ℕ) × (p : ℕ) × (q : ℕ) × (slice_get k.axioms slot ≡ Some (Pair p q)) × (word_of k.dict p ≡ Some e.0) × (word_of k.dict q ≡ Some e.1)
  among_axiom e m = by (among_with_more pair_cmp [] (pairs_told k.dict k.axioms) e m)
    where
      at : (a : AxiomSlot) → Among k.axioms a → Among (pair_told k.dict a) e → (slot : ℕ) × (p : ℕ) × (q : ℕ) × (slice_get k.axioms slot ≡ Some (Pair p q)) × (word_of k.dict p ≡ Some e.0) × (word_of k.dict q ≡ Some e.1)
      at FreeAxiom there is = absurd is
      at (Pair p q) there is =
          let place = placed_at k.axioms (Pair p q) there in
          let both = only_pair (word_of k.dict p) (word_of k.dict q) e is in
          (place.0, p, q, place.1, both.0, both.1)

      by : Among {K = List ℕ × List ℕ} [] e ⊎ Among (pairs_told k.dict k.axioms) e → (slot : ℕ) × (p : ℕ) × (q : ℕ) × (slice_get k.axioms slot ≡ Some (Pair p q)) × (word_of k.dict p ≡ Some e.0) × (word_of k.dict q ≡ Some e.1)
      by (inl none) = absurd none
      by (inr some) = let found = among_flat_map (pair_told k.dict) k.axioms e some in at found.0 found.1 found.2

-- ---- known by use
module _ (k : Metadata) (sound : AreSound k) (free : FreeSlotsAreEmpty k) (at : ℕ → List ℕ)
    (described : (f : Filed) → Contains k.catalog.entries f → words_told k.dict (numbers_at k.ext f.slot) ≡ description (state_of k at) (file_told k.limits k.dict at f)) where
  abbrev files : List File
  files = map (file_told k.limits k.dict at) k.catalog.entries

  -- a number in a file's slot is that of a word of the file's description
  pub slot_described : (slot n : ℕ) (w : List ℕ) → word_of k.dict n ≡ Some w → has k.ext n slot ≡ true → (file : File) × Among files file × Among (description (state_of k at) file) w
  slot_described slot n w is h = by (rec_at k.catalog slot) refl
    where
      by : (o : Option FileRecord) → rec_at k.catalog slot ≡ o → (file : File) × Among files file × Among (description (state_of k at) file) w
      by None none = absurd (both_ways (has k.ext n slot) (free slot none n) h)
      by (Some rec) there =
          let f : Filed = record { slot = slot; rec = rec } in
          let m = filed_at_slot k.catalog sound.catalog slot rec there in (
            file_told k.limits k.dict at f,
            map_among (file_told k.limits k.dict at) k.catalog.entries f m,
            subst (λ ws. Among ws w) (described f (contains_from_among k.catalog.entries f m)) (word_among k sound (numbers_at k.ext slot) n w is h),
          )

  -- and conversely
  pub described_slot : (file : File) (w : List ℕ) → Among files file → Among (description (state_of k at) file) w → (n : ℕ) × (word_of k.dict n ≡ Some w) × (slot : ℕ) × (has k.ext n slot ≡ true)
  described_slot file w m has_it =
      let f = among_map (file_told k.limits k.dict at) k.catalog.entries file m in
      let told = described f.0 (contains_from_among k.catalog.entries f.0 f.1) ∙ ap (description (state_of k at)) f.2 in
      let found = among_word k sound (numbers_at k.ext (f.0).slot) w (subst (λ ws. Among ws w) (sym told) has_it) in
      (found.0, found.1, (f.0).slot, found.2)

module _ (k : Metadata) (sound : AreSound k) (free : FreeSlotsAreEmpty k) (at : ℕ → List ℕ) (used : AreUsed k)
    (described : (f : Filed) → Contains k.catalog.entries f → words_told k.dict (numbers_at k.ext f.slot) ≡ description (state_of k at) (file_told k.limits k.dict at f)) where
  used_known : (n : ℕ) (w : List ℕ) → word_of k.dict n ≡ Some w → Among (known (state_of k at)) w
  used_known n w is = known_from (state_of k at) w (by (why_used k n (used n (ap is_some is))))
    where
      by : WhyUsed k n → Source (state_of k at) w
      by (Flagged bit) = Declared (declared_word k sound n w is bit)
      by (Had slot h) = let file = slot_described k sound free at described slot n w is h in Described file.0 file.1 file.2
      by (OnLeft slot right there) =
          let r = some_word (word_of k.dict right) (sound.axioms slot n right there).right in
          Left (w, r.0) (axiom_among k sound slot n right w r.0 there is r.1) refl
      by (HeadOfLeft slot left right there head) =
          let one = sound.axioms slot left right there in
          let l = some_word (word_of k.dict left) one.left in
          let r = some_word (word_of k.dict right) one.right in
          let parts = and_parts (is_valued l.0) (same_word (head_bytes l.0) w) (sym (ap₂ is_head_by l.1 is) ∙ head) in
          LeftHead (l.0, r.0) (axiom_among k sound slot left right l.0 r.0 there l.1 r.1) (subst (λ v. Among (heads l.0) v) ((same_word_decides (head_bytes l.0) w).0 parts.1) (heads_of_valued l.0 parts.0))

  known_used : (w : List ℕ) → Source (state_of k at) w → Among (words k.dict) w
  known_used w (Declared m) = (among_filter (is_declared k) (words k.dict) w m).0
  known_used w (Left e m is) = let found = among_axiom k sound e m in subst (λ v. Among (words k.dict) v) is (word_known k sound found.1 e.0 found.4)
  known_used w (LeftHead e m head) =
      let found = among_axiom k sound e m in
      let parts = among_heads e.0 w head in
      let number = some_number (number_of k.dict (head_bytes e.0)) (sound.heads found.1 e.0 found.4 parts.0) in
      subst (λ v. Among (words k.dict) v) parts.1 (word_known k sound number.0 (head_bytes e.0) (word_from_number k.dict sound.dict (head_bytes e.0) number.0 number.1))
  known_used w (Described file m has) = let found = described_slot k sound free at described file w m has in word_known k sound found.0 w found.1

  pub words_known : words k.dict ≡ known (state_of k at)
  words_known =
      same_words (words k.dict) (known (state_of k at)) (sorted_from_rising word_cmp word_order (words k.dict) sound.dict.rising) (sorted_known (state_of k at) (declared_set k sound))
      (λ w m. let number = known_word k sound w m in used_known number.0 w number.1)
      (λ w m. known_used w (source_of (state_of k at) w m))
