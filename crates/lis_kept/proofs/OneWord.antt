-- One number that gets or loses its word, and what stays of all else.
use Rattle.std.proofs.Common.{filter, arith}
use Rattle.lis_kept.proofs.Common.{rules, ◌≡◌, ◌⊎◌, refl, sym, ap, ap₂, ◌∙◌, subst, inl, inr, ℕ, ◌<◌, ◌==◌, if◌then◌else◌, ◌&&◌, ◌||◌, not, Bool, true, false, List, [], length, map, set, Option, Some, None, is_some, IsSome, length-set, insert_key, list_any, fold, and_parts, cases_eq, ne_eqb, not_from_false, not-true, same_Some, IsStrictlySortedBy-filter, Among, among_filter, among_insert_key, insert_key_old, insert_key_new, sorted_insert_key, Dict, IsDict, number_of, word_of, without_word, number_from_word, Filed, rec_at, has, FileRecord, is_prop, AxiomSlot, FreeAxiom, Pair, Taxonomy, has_edge, word_cmp, same_word, is_valued, head_bytes, with_word, word_order, same_word_decides, are_weaker, all_among, and_from, both_ways, false_from_ne_true, filter_among, same_words}
use Rattle.std.specs.Option.{option_to_list}
use Rattle.std.proofs.Math.Bool.{or-false}
use Rattle.std.proofs.lemmas.Bool.{eq-eqb}
use Rattle.lis_graph.proofs.Filters.{any_same}
use Rattle.lis_blockmap.specs.Bitmap.{is_taken}
use Rattle.lis_dict.specs.Dict.{with_entry}
use Rattle.lis_dict.proofs.Laws.{number_of-with_entry, word_of-with_entry, length-with_entry, kept_with_entry, number_of-without_word, word_of-without_word, length-without_word, kept_without_word}
use Rattle.lis_words.specs.Words.{is_property}
use Rattle.lis_model.specs.Sets.{set_of, has_number}
use Rattle.lis_model.specs.State.{pair_cmp}
use Rattle.lis_laws.proofs.Members.{word_exact}
use Rattle.lis_laws.proofs.Counts.{all_weaker}
use Rattle.lis_kept.specs.Metadata.{Metadata, property_by, property_at}
use Rattle.lis_kept.specs.Areas.{Area, slots_of, block_of, spelled}
use Rattle.lis_kept.specs.Areas.Area.{Properties}
use Rattle.lis_kept.specs.Telling.{declared_of, pair_by, pair_told, axioms_of, file_told, state_of, is_left_of, is_head_by, is_left_head_of, is_named_left, is_had, is_used}
use Rattle.lis_kept.specs.Sound.{AreSound}
use Rattle.lis_kept.specs.Links.{AreHeld, HasEdges, has_pair, is_linked, is_edge}
use Rattle.lis_kept.specs.TestEdges.{test_by, declared_test, is_test_link, is_next_test}
use Rattle.lis_kept.specs.Changes.{Marks}
use Rattle.lis_kept.proofs.InArea.{among_slots}
use Rattle.lis_kept.proofs.Formed.{named_below, record_parts, record_stays}
use Rattle.lis_kept.proofs.Marking.{block_marked}
use Rattle.lis_kept.proofs.Filing.{map_all, filed_rec, among_from_number, number_from_among}
use Rattle.lis_kept.proofs.OwnLinks.{IsNoSide, slot_at, no_some, no_side, no_pair_to, no_pair_from}
use Rattle.lis_kept.proofs.NextTests.{none_weaker, next_parts, next_alike}
use Rattle.lis_kept.proofs.TestLinks.{linked_by}
use Rattle.lis_kept.proofs.WordMore.{flat_all, sorted_declared, declared_at, at_declared}

-- Nothing names the number: no axiom does, no file was assigned it, and none has it.
pub record IsUnnamed (k : Metadata) (number : ℕ) : Type 0 where
  pub sides : IsNoSide k.axioms number
  pub tags : (slot : ℕ) (rec : FileRecord) → rec_at k.catalog slot ≡ Some rec → has_number rec.tags number ≡ false
  pub had : (slot : ℕ) → IsSome (rec_at k.catalog slot) → has k.ext number slot ≡ false

-- nothing names a number without a word
unnamed : (k : Metadata) → AreSound k → (number : ℕ) → word_of k.dict number ≡ None → IsUnnamed k number
unnamed k sound number free = record {
  sides = no_side k sound number free;
  tags = λ slot rec is. false_from_ne_true (has_number rec.tags number) (λ has_it.
      let named = (record_parts k.limits k.dict k.limits.blocks rec (sound.records slot rec is)).1 in
      no_some k sound number free number (all_among (λ n. is_some (word_of k.dict n)) rec.tags number named (among_from_number rec.tags number has_it)) refl);
  had = λ slot file. false_from_ne_true (has k.ext number slot) (λ has_it. no_some k sound number free number (sound.named number slot file has_it) refl);
}

-- no edge between tests leads from or to a number that is not declared
no_next : (k : Metadata) → IsDict k.dict → (number : ℕ) → is_taken k.declared number ≡ false → (x y : ℕ) → (x ≡ number) ⊎ (y ≡ number) → is_next_test k.dict k.declared x y ≡ false
no_next k dict number bit x y which = false_from_ne_true (is_next_test k.dict k.declared x y) (λ h. by which (next_parts k.dict dict k.declared x y h).0)
  where
    none : (n : ℕ) → n ≡ number → declared_test k.dict k.declared n ≡ None
    none n same = ap (λ b. if b then test_by (word_of k.dict n) else None) (ap (is_taken k.declared) same ∙ bit)

    by : (x ≡ number) ⊎ (y ≡ number) → is_test_link k.dict k.declared x y ≡ true → ⊥
    by (inl same) link = both_ways (is_test_link k.dict k.declared x y) (ap (are_weaker (declared_test k.dict k.declared y)) (none x same) ∙ none_weaker (declared_test k.dict k.declared y)) link
    by (inr same) link = both_ways (is_test_link k.dict k.declared x y) (ap (λ t. are_weaker t (declared_test k.dict k.declared x)) (none y same)) link

-- its edges are those to its head and from words whose head it is
pub edge_undeclared : (k : Metadata) → IsDict k.dict → (number : ℕ) → IsNoSide k.axioms number → is_taken k.declared number ≡ false → (x y : ℕ) → (x ≡ number) ⊎ (y ≡ number)
    → is_edge k x y ≡ is_head_by (word_of k.dict x) (word_of k.dict y)
edge_undeclared k dict number none bit x y which =
    ap₂ (λ n b. (is_head_by (word_of k.dict x) (word_of k.dict y) || n) || b) (no_next k dict number bit x y which) (no_pair which)
    ∙ (or-false (is_head_by (word_of k.dict x) (word_of k.dict y) || false) ∙ or-false (is_head_by (word_of k.dict x) (word_of k.dict y)))
  where
    no_pair : (x ≡ number) ⊎ (y ≡ number) → has_pair k.axioms x y ≡ false
    no_pair (inl same) = ap (λ n. has_pair k.axioms n y) same ∙ no_pair_from k.axioms number none y
    no_pair (inr same) = ap (has_pair k.axioms x) same ∙ no_pair_to k.axioms number none x

-- The words and bits of all other numbers stay, and nothing names this one. The block of its slot is marked.
pub record OneWord (p : Metadata) (number : ℕ) (d : Dict) (bits marks : List Bool) : Type 0 where
  pub unnamed : IsUnnamed p number
  pub below : number < p.limits.props
  pub dict : IsDict d
  pub props : d.props ≡ p.dict.props
  pub others : (n : ℕ) → (n ≡ number → ⊥) → (word_of d n ≡ word_of p.dict n) × (is_taken bits n ≡ is_taken p.declared n)
  pub heads : (n : ℕ) (v : List ℕ) → word_of d n ≡ Some v → is_valued v ≡ true → IsSome (number_of d (head_bytes v))
  pub long : length bits ≡ length p.declared
  pub flagged : is_taken bits number ≡ true → IsSome (word_of d number)
  pub fits : is_prop (property_at d bits number) ≡ true
  pub marked : marks ≡ set p.marks (block_of p.limits Properties number) true

module _ (p : Metadata) (sound : AreSound p) {number : ℕ} {d : Dict} {bits marks : List Bool} (w : OneWord p number d bits marks) where
  abbrev pub after : Metadata
  after = record p { dict = d; declared = bits; marks = marks }

  pub same_word_there : (n : ℕ) → (n ≡ number → ⊥) → word_of d n ≡ word_of p.dict n
  same_word_there n differ = (w.others n differ).0

  some_stays : (n : ℕ) → (n ≡ number → ⊥) → IsSome (word_of p.dict n) → IsSome (word_of d n)
  some_stays n differ some = ap is_some (same_word_there n differ) ∙ some

  not_tag : (slot : ℕ) (rec : FileRecord) → rec_at p.catalog slot ≡ Some rec → (n : ℕ) → Among rec.tags n → n ≡ number → ⊥
  not_tag slot rec is n m same = both_ways (has_number rec.tags number) (w.unnamed.tags slot rec is) (number_from_among rec.tags number (subst (λ k. Among rec.tags k) same m))

  -- ---- soundness
  property_then : (n : ℕ) → (n ≡ number) ⊎ (n ≡ number → ⊥) → is_prop (property_at d bits n) ≡ true
  property_then n h1 = search (rules, same_word_there)

  flagged_then : (n : ℕ) → is_taken bits n ≡ true → (n ≡ number) ⊎ (n ≡ number → ⊥) → IsSome (word_of d n)
  flagged_then n bit h2 = search (rules, some_stays)

  pub sound_then : AreSound after
  sound_then = record {
    range = sound.range;
    numbers = w.props ∙ sound.numbers;
    dict = w.dict;
    heads = w.heads;
    bits = w.long ∙ sound.bits;
    flagged = λ n bit. flagged_then n bit (cases_eq n number);
    properties = λ n. property_then n (cases_eq n number);
    axiom_count = sound.axiom_count;
    axioms = λ slot left right is.
        let one = sound.axioms slot left right is in
        let differ = w.unnamed.sides.right slot left right is in
        record {
          below = one.below;
          left = some_stays left (w.unnamed.sides.left slot left right is) one.left;
          right = some_stays right differ one.right;
          plain = λ v is_v. one.plain v (sym (same_word_there right differ) ∙ is_v);
        };
    slots = sound.slots;
    catalog = sound.catalog;
    records = λ slot rec is.
        let was = sound.records slot rec is in
        record_stays p.limits p.dict d p.limits.blocks rec was
        (all_weaker (λ n. is_some (word_of p.dict n)) (λ n. is_some (word_of d n)) rec.tags (λ n m some. some_stays n (not_tag slot rec is n m) some) (record_parts p.limits p.dict p.limits.blocks rec was).1);
    blocks = sound.blocks;
    rows = sound.rows;
    files = sound.files;
    named = λ n slot file has_it.
        some_stays n (λ same. both_ways (has p.ext number slot) (w.unnamed.had slot file) (subst (λ m. has p.ext m slot ≡ true) same has_it)) (sound.named n slot file has_it);
    rising = sound.rising;
    settled = sound.settled;
    marks = omega (arith, ap length w.marked, length-set p.marks (block_of p.limits Properties number) true, sound.marks);
  }

  -- ---- the marked block
  spelled_before : (area : Area) (n : ℕ) → n < (slots_of p.limits area).count → (block_of p.limits area n ≡ block_of p.limits Properties number → ⊥) → spelled after area n ≡ spelled p area n
  spelled_before area n lt apart = search (rules, same_word_there)

  pub marks_then : Marks 1 p after
  marks_then = grind (arith, block_marked p after (block_of p.limits Properties number), among_slots p.limits sound.range Properties number w.below)

  -- ---- what memory describes
  pair_same : (a : AxiomSlot) → Among p.axioms a → pair_told d a ≡ pair_told p.dict a
  pair_same FreeAxiom m = refl
  pair_same (Pair left right) m =
      let at = slot_at p.axioms (Pair left right) m in
      ap₂ pair_by (same_word_there left (w.unnamed.sides.left at.0 left right at.1)) (same_word_there right (w.unnamed.sides.right at.0 left right at.1))

  file_same : (at : ℕ → List ℕ) (f : Filed) → Among p.catalog.entries f → file_told p.limits d at f ≡ file_told p.limits p.dict at f
  file_same at f m =
      ap (λ (ws : List (List ℕ)). record (file_told p.limits p.dict at f) { assigned = ws })
      (ap set_of (flat_all (λ n. option_to_list (word_of d n)) (λ n. option_to_list (word_of p.dict n)) f.rec.tags
      (λ n k. ap option_to_list (same_word_there n (not_tag f.slot f.rec (filed_rec p.catalog sound.catalog f m) n k)))))

  -- the state, with these declared words
  pub state_then : (declared : List (List ℕ)) → declared_of after ≡ declared → (at : ℕ → List ℕ) → state_of after at ≡ record (state_of p at) { declared = declared }
  state_then declared is at =
      let axioms_then : axioms_of after ≡ axioms_of p = ap (fold (insert_key pair_cmp) []) (flat_all (pair_told d) (pair_told p.dict) p.axioms pair_same) in
      let files_then : map (file_told p.limits d at) p.catalog.entries ≡ map (file_told p.limits p.dict at) p.catalog.entries =
      map_all (file_told p.limits d at) (file_told p.limits p.dict at) p.catalog.entries (file_same at) in
      cc

  -- ---- declared words
  declared_stays : (v : List ℕ) (n : ℕ) → (n ≡ number → ⊥) → word_of p.dict n ≡ Some v → is_taken p.declared n ≡ true → Among (declared_of after) v
  declared_stays v n differ is bit = at_declared after w.dict n v (same_word_there n differ ∙ is) ((w.others n differ).1 ∙ bit)

  declared_was : (v : List ℕ) (n : ℕ) → (n ≡ number → ⊥) → word_of d n ≡ Some v → is_taken bits n ≡ true → Among (declared_of p) v
  declared_was v n differ is bit = at_declared p sound.dict n v (sym (same_word_there n differ) ∙ is) (sym (w.others n differ).1 ∙ bit)

  other_bit : (flags : List Bool) → is_taken flags number ≡ false → (n : ℕ) → is_taken flags n ≡ true → n ≡ number → ⊥
  other_bit flags none n bit same = both_ways (is_taken flags number) none (ap (is_taken flags) (sym same) ∙ bit)

  -- as before, if the number's is not declared
  pub declared_same : is_taken p.declared number ≡ false → is_taken bits number ≡ false → declared_of after ≡ declared_of p
  declared_same was now =
      same_words (declared_of after) (declared_of p) (sorted_declared after w.dict) (sorted_declared p sound.dict)
      (λ v m. let at = declared_at after w.dict v m in declared_was v at.0 (other_bit bits now at.0 at.2) at.1 at.2)
      (λ v m. let at = declared_at p sound.dict v m in declared_stays v at.0 (other_bit p.declared was at.0 at.2) at.1 at.2)

  -- with the number's word, if it is declared now
  pub declared_more : (word : List ℕ) → word_of d number ≡ Some word → is_taken p.declared number ≡ false → is_taken bits number ≡ true → declared_of after ≡ with_word (declared_of p) word
  declared_more word here was now =
      same_words (declared_of after) (with_word (declared_of p) word) (sorted_declared after w.dict) (sorted_insert_key word_cmp word_order (declared_of p) word (sorted_declared p sound.dict))
      (λ v m. let at = declared_at after w.dict v m in to v at.0 at.1 at.2 (cases_eq at.0 number))
      (λ v m. from v (among_insert_key word_cmp (declared_of p) word v m))
    where
      to : (v : List ℕ) (n : ℕ) → word_of d n ≡ Some v → is_taken bits n ≡ true → (n ≡ number) ⊎ (n ≡ number → ⊥) → Among (with_word (declared_of p) word) v
      to v n is bit (inl same) = subst (λ u. Among (with_word (declared_of p) word) u) (same_Some word v (sym here ∙ (ap (word_of d) (sym same) ∙ is))) (insert_key_new word_cmp word_exact (declared_of p) word)
      to v n is bit (inr differ) = insert_key_old word_cmp (declared_of p) word v (declared_was v n differ is bit)

      from : (v : List ℕ) → (word ≡ v) ⊎ Among (declared_of p) v → Among (declared_of after) v
      from v (inl same) = subst (λ u. Among (declared_of after) u) same (at_declared after w.dict number word here now)
      from v (inr m) = let at = declared_at p sound.dict v m in declared_stays v at.0 (other_bit p.declared was at.0 at.2) at.1 at.2

  -- without the number's word, if it was declared
  pub declared_less : (word : List ℕ) → word_of p.dict number ≡ Some word → is_taken bits number ≡ false → declared_of after ≡ filter (λ v. not (same_word v word)) (declared_of p)
  declared_less word there now =
      same_words (declared_of after) (filter (λ v. not (same_word v word)) (declared_of p)) (sorted_declared after w.dict)
      (IsStrictlySortedBy-filter word_cmp (λ v. not (same_word v word)) (declared_of p) (sorted_declared p sound.dict)) to from
    where
      to : (v : List ℕ) → Among (declared_of after) v → Among (filter (λ v. not (same_word v word)) (declared_of p)) v
      to v m =
          let at = declared_at after w.dict v m in
          let differ = other_bit bits now at.0 at.2 in
          let was = sym (same_word_there at.0 differ) ∙ at.1 in
          filter_among (λ v. not (same_word v word)) (declared_of p) v (declared_was v at.0 differ at.1 at.2)
          (not_from_false (same_word v word) (false_from_ne_true (same_word v word) (λ e.
          differ (same_Some at.0 number (sym (number_from_word p.dict sound.dict v at.0 was) ∙ (ap (number_of p.dict) ((same_word_decides v word).0 e) ∙ number_from_word p.dict sound.dict word number there))))))

      from : (v : List ℕ) → Among (filter (λ v. not (same_word v word)) (declared_of p)) v → Among (declared_of after) v
      from v m =
          let kept = among_filter (λ v. not (same_word v word)) (declared_of p) v m in
          let at = declared_at p sound.dict v kept.0 in
          declared_stays v at.0 (λ same. both_ways (same_word v word) (not-true (same_word v word) kept.1)
          ((same_word_decides v word).1 (same_Some v word (sym at.1 ∙ (ap (word_of p.dict) same ∙ there))))) at.1 at.2

  -- ---- links
  pub test_elsewhere : (n : ℕ) → (n ≡ number → ⊥) → declared_test d bits n ≡ declared_test p.dict p.declared n
  test_elsewhere n differ = ap₂ (λ b o. if b then test_by o else None) (w.others n differ).1 (same_word_there n differ)

  pub linked_elsewhere : (x y : ℕ) → (x ≡ number → ⊥) → (y ≡ number → ⊥) → is_linked after x y ≡ is_linked p x y
  linked_elsewhere x y differ apart =
      grind (arith, linked_by after w.dict x y, same_word_there x differ, same_word_there y apart, test_elsewhere y apart, test_elsewhere x differ, linked_by p sound.dict x y)

  -- ---- edges
  pub heads_elsewhere : (x y : ℕ) → (x ≡ number → ⊥) → (y ≡ number → ⊥) → is_head_by (word_of d x) (word_of d y) ≡ is_head_by (word_of p.dict x) (word_of p.dict y)
  heads_elsewhere x y differ apart = ap₂ is_head_by (same_word_there x differ) (same_word_there y apart)

  -- edges that are those of the number, and otherwise those that there were, if its word is declared neither before nor after
  pub held_then : (t u : Taxonomy) → HasEdges p t → u.props ≡ t.props → is_taken p.declared number ≡ false → is_taken bits number ≡ false → ((y : ℕ) → has_edge u number y ≡ is_edge after number y)
      → ((x : ℕ) → (x ≡ number → ⊥) → has_edge u x number ≡ is_edge after x number) → ((x y : ℕ) → (x ≡ number → ⊥) → (y ≡ number → ⊥) → has_edge u x y ≡ has_edge t x y) → AreHeld after u
  held_then t u links props was now from to elsewhere = record {
    sound = sound_then;
    links = record { props = props ∙ links.props; edges = λ x y. by x y (cases_eq x number) (cases_eq y number) };
  }
    where
      no_test_by : (o : Option (List ℕ)) (b : Bool) → b ≡ false → (if b then test_by o else None) ≡ None
      no_test_by o b is = ap (λ c. if c then test_by o else None) is

      test_by_cases : (n : ℕ) → (n ≡ number) ⊎ (n ≡ number → ⊥) → declared_test d bits n ≡ declared_test p.dict p.declared n
      test_by_cases n (inl same) =
          no_test_by (word_of d n) (is_taken bits n) (ap (is_taken bits) same ∙ now) ∙ sym (no_test_by (word_of p.dict n) (is_taken p.declared n) (ap (is_taken p.declared) same ∙ was))
      test_by_cases n (inr differ) = test_elsewhere n differ

      next_then : (x y : ℕ) → is_next_test d bits x y ≡ is_next_test p.dict p.declared x y
      next_then = next_alike d p.dict w.dict sound.dict bits p.declared (λ n. test_by_cases n (cases_eq n number))

      by : (x y : ℕ) → (x ≡ number) ⊎ (x ≡ number → ⊥) → (y ≡ number) ⊎ (y ≡ number → ⊥) → has_edge u x y ≡ is_edge after x y
      by x y (inl same) other = subst (λ n. has_edge u n y ≡ is_edge after n y) (sym same) (from y)
      by x y (inr differ) (inl same) = subst (λ n. has_edge u x n ≡ is_edge after x n) (sym same) (to x differ)
      by x y (inr differ) (inr apart) =
          elsewhere x y differ apart
          ∙ (links.edges x y ∙ sym (ap₂ (λ h n. (h || n) || has_pair p.axioms x y) (heads_elsewhere x y differ apart) (next_then x y)))

  -- ---- what is used
  pub lefts_same : (n : ℕ) → (n ≡ number → ⊥) → is_named_left after n ≡ is_named_left p n
  lefts_same n differ = ap (λ b. list_any (is_left_of n) p.axioms || b) (any_same (is_left_head_of d n) (is_left_head_of p.dict n) p.axioms alike)
    where
      alike : (a : AxiomSlot) → Among p.axioms a → is_left_head_of d n a ≡ is_left_head_of p.dict n a
      alike FreeAxiom m = refl
      alike (Pair left right) m =
          let at = slot_at p.axioms (Pair left right) m in
          ap₂ is_head_by (same_word_there left (w.unnamed.sides.left at.0 left right at.1)) (same_word_there n differ)

  pub used_same : (n : ℕ) → (n ≡ number → ⊥) → is_used after n ≡ is_used p n
  used_same n differ = ap₂ (λ a b. a || is_had p.ext n || b) (w.others n differ).1 (lefts_same n differ)

-- ---- a word that is added
-- a word without a number is no known word's head
pub new_no_head : (k : Metadata) → AreSound k → (word : List ℕ) → number_of k.dict word ≡ None → (n : ℕ) → is_head_by (word_of k.dict n) (Some word) ≡ false
new_no_head k sound word new n = by (word_of k.dict n) refl
  where
    by : (o : Option (List ℕ)) → word_of k.dict n ≡ o → is_head_by o (Some word) ≡ false
    by None is = refl
    by (Some v) is = false_from_ne_true (is_valued v && same_word (head_bytes v) word) (λ e.
        let both = and_parts (is_valued v) (same_word (head_bytes v) word) e in
        both_ways (is_some (number_of k.dict word)) (ap is_some new)
        (subst (λ u. IsSome (number_of k.dict u)) ((same_word_decides (head_bytes v) word).0 both.1) (sound.heads n v is both.0)))

-- a new word, and a free number that it gets
pub record Comes (p : Metadata) (word : List ℕ) (number : ℕ) (d : Dict) : Type 0 where
  pub new : number_of p.dict word ≡ None
  pub room : length p.dict.entries < p.limits.props
  pub below : number < p.dict.props
  pub free : word_of p.dict number ≡ None
  pub dict_is : d ≡ with_entry p.dict word number

-- what a call of the dictionary says of a new word
pub added : (p : Metadata) (word : List ℕ) (n : ℕ) (d : Dict)
    → ((number_of p.dict word ≡ Some n) × (d ≡ p.dict)) ⊎ ((number_of p.dict word ≡ None) × (n < p.dict.props) × (word_of p.dict n ≡ None) × (d ≡ with_entry p.dict word n))
    → number_of p.dict word ≡ None → length p.dict.entries < p.limits.props → Comes p word n d
added p word n d h1 new room = search (rules)

module _ (p : Metadata) (sound : AreSound p) {word : List ℕ} {number : ℕ} {d : Dict} (come : Comes p word number d) where
  word_then : (n : ℕ) → word_of d n ≡ (if number == n then Some word else word_of p.dict n)
  word_then n = ap (λ (e : Dict). word_of e n) come.dict_is ∙ word_of-with_entry p.dict word number come.new come.free n

  pub word_here : word_of d number ≡ Some word
  word_here = word_then number ∙ ap (λ b. if b then Some word else word_of p.dict number) (eq-eqb number number refl)

  pub number_then : (v : List ℕ) → number_of d v ≡ (if same_word word v then Some number else number_of p.dict v)
  number_then v = ap (λ (e : Dict). number_of e v) come.dict_is ∙ number_of-with_entry p.dict word number come.new v

  pub no_bit : is_taken p.declared number ≡ false
  no_bit = false_from_ne_true (is_taken p.declared number) (λ bit. no_some p sound number come.free number (sound.flagged number bit) refl)

  pub no_head : (n : ℕ) → is_head_by (word_of p.dict n) (Some word) ≡ false
  no_head = new_no_head p sound word come.new

  pub comes : (bits marks : List Bool) → is_property word ≡ true → (is_valued word ≡ true → IsSome (number_of p.dict (head_bytes word)))
      → length bits ≡ length p.declared → ((n : ℕ) → (n ≡ number → ⊥) → is_taken bits n ≡ is_taken p.declared n) → is_prop (property_by (Some word) (is_taken bits number)) ≡ true
      → marks ≡ set p.marks (block_of p.limits Properties number) true → OneWord p number d bits marks
  comes bits marks form headed long others fits marked = record {
    unnamed = unnamed p sound number come.free;
    below = omega (arith, come.below, sound.numbers);
    dict = subst (λ (e : Dict). IsDict e) (sym come.dict_is)
        (kept_with_entry p.dict word number come.new sound.dict form come.below come.free (omega (arith, length-with_entry p.dict word number come.new, come.room, sound.numbers)));
    props = ap (λ (e : Dict). e.props) come.dict_is;
    others = λ n differ. (other n differ, others n differ);
    heads = λ n v is valued. ap is_some (number_then (head_bytes v)) ∙ stays (same_word word (head_bytes v)) (number_of p.dict (head_bytes v)) (head_there n v is valued (cases_eq n number));
    long = long;
    flagged = λ bit. ap is_some word_here;
    fits = ap (λ o. is_prop (property_by o (is_taken bits number))) word_here ∙ fits;
    marked = marked;
  }
    where
      other : (n : ℕ) → (n ≡ number → ⊥) → word_of d n ≡ word_of p.dict n
      other n differ = word_then n ∙ ap (λ b. if b then Some word else word_of p.dict n) (ne_eqb number n (λ e. differ (sym e)))

      head_there : (n : ℕ) (v : List ℕ) → word_of d n ≡ Some v → is_valued v ≡ true → (n ≡ number) ⊎ (n ≡ number → ⊥) → IsSome (number_of p.dict (head_bytes v))
      head_there n v is valued (inl same) =
          let e : word ≡ v = same_Some word v (sym word_here ∙ (ap (word_of d) (sym same) ∙ is)) in
          subst (λ u. IsSome (number_of p.dict (head_bytes u))) e (headed (ap is_valued e ∙ valued))
      head_there n v is valued (inr differ) = sound.heads n v (sym (other n differ) ∙ is) valued

      stays : (b : Bool) (o : Option ℕ) → IsSome o → is_some (if b then Some number else o) ≡ true
      stays true o some = refl
      stays false o some = some

-- ---- a word that is removed
-- nothing names its number, and it is no known word's head
pub record Goes (p : Metadata) (word : List ℕ) (number : ℕ) (d : Dict) : Type 0 where
  pub there : word_of p.dict number ≡ Some word
  pub unnamed : IsUnnamed p number
  pub heads : (n : ℕ) → is_head_by (word_of p.dict n) (word_of p.dict number) ≡ false
  pub dict_is : d ≡ without_word p.dict word

module _ (p : Metadata) (sound : AreSound p) {word : List ℕ} {number : ℕ} {d : Dict} (go : Goes p word number d) where
  at : number_of p.dict word ≡ Some number
  at = number_from_word p.dict sound.dict word number go.there

  pub word_left : (n : ℕ) → word_of d n ≡ (if number == n then None else word_of p.dict n)
  word_left n = ap (λ (e : Dict). word_of e n) go.dict_is ∙ word_of-without_word p.dict word sound.dict number at n

  pub word_gone : word_of d number ≡ None
  word_gone = word_left number ∙ ap (λ b. if b then None else word_of p.dict number) (eq-eqb number number refl)

  -- a number that has a word is another one
  pub not_gone : (n : ℕ) → IsSome (word_of d n) → n ≡ number → ⊥
  not_gone n some same = both_ways (is_some (word_of d n)) (ap is_some (ap (word_of d) same ∙ word_gone)) some

  pub goes : (bits marks : List Bool) → length bits ≡ length p.declared → ((n : ℕ) → (n ≡ number → ⊥) → is_taken bits n ≡ is_taken p.declared n) → is_taken bits number ≡ false
      → marks ≡ set p.marks (block_of p.limits Properties number) true → OneWord p number d bits marks
  goes bits marks long others now marked = record {
    unnamed = go.unnamed;
    below = named_below p sound number (ap is_some go.there);
    dict = subst (λ (e : Dict). IsDict e) (sym go.dict_is) (kept_without_word p.dict word sound.dict (omega (arith, length-without_word p.dict word sound.dict number at, sound.dict.few)));
    props = ap (λ (e : Dict). e.props) go.dict_is;
    others = λ n differ. (other n differ, others n differ);
    heads = λ n v is valued. ap (λ (e : Dict). is_some (number_of e (head_bytes v))) go.dict_is ∙ (ap is_some (number_of-without_word p.dict word (head_bytes v)) ∙ by n v is valued (same_word word (head_bytes v)) refl);
    long = long;
    flagged = λ bit. absurd (both_ways (is_taken bits number) now bit);
    fits = ap (λ o. is_prop (property_by o (is_taken bits number))) word_gone;
    marked = marked;
  }
    where
      other : (n : ℕ) → (n ≡ number → ⊥) → word_of d n ≡ word_of p.dict n
      other n differ = word_left n ∙ ap (λ b. if b then None else word_of p.dict n) (ne_eqb number n (λ e. differ (sym e)))

      by : (n : ℕ) (v : List ℕ) → word_of d n ≡ Some v → is_valued v ≡ true → (b : Bool) → same_word word (head_bytes v) ≡ b → is_some (if b then None else number_of p.dict (head_bytes v)) ≡ true
      by n v is valued b e = cases b e
        where
          was : word_of p.dict n ≡ Some v
          was = sym (other n (not_gone n (ap is_some is))) ∙ is

          cases : (b : Bool) → same_word word (head_bytes v) ≡ b → is_some (if b then None else number_of p.dict (head_bytes v)) ≡ true
          cases false e = sound.heads n v was valued
          cases true e = absurd (both_ways (is_head_by (word_of p.dict n) (word_of p.dict number)) (go.heads n)
              (ap₂ is_head_by was go.there ∙ and_from (is_valued v) (same_word (head_bytes v) word) valued ((same_word_decides (head_bytes v) word).1 (sym ((same_word_decides word (head_bytes v)).0 e)))))
