-- The numbers that the words of a file lead to are those of the words of its description.
use Rattle.std.proofs.Common.{rules}
use Rattle.lis_open.proofs.Common.{◌≡◌, ◌∙◌, refl, sym, ap, subst, ℕ, ◌||◌, not, Bool, true, false, List, Option, Some, None, is_some, IsSome, ◌≤◌, [], arith, slice_get, inl, inr, option_to_list, ◌++◌, length, append_assoc, flat_map, ap₂, zero, suc, ◌==◌, eq-eqb, ◌<◌, ◌∷◌, ⊎_elim, nat_cmp, Among, among_map, is_taken, IsDict, number_of, word_of, number_from_word, is_plain_word, is_valued, head_bytes, among_from_has_word, Limits, is_assignable, is_nameable, bit_of, Dict, number_below, declared_there, there_declared, Pair, list_all, among_left, among_flat_map, word_from_number, FileRecord, plain_not_valued, among_set_of, own_words, met_tests, words_told, some_number, and_parts, both_ways, flat_map_among, has_word, has_word_from_among, set_of_among, all_among, set_of, File, contains_from_among, Taxonomy, no_links, or_cases, or_left, or_right, same_Some, Chain, among_from_contains, among_from_any, Leads, AxiomSlot, FreeAxiom, head_not_valued, up, Metadata, pair_told, pairs_told, axioms_of, has_pair, placed_at, among_place, IsStrictlySortedBy, entails, word_cmp, sorted_set_of, file_words, AllApart, and_from, any_from_among, pair_cmp}
use Rattle.lis_graph.proofs.Members.{among_filter, among_append, among_right, among_with_more, with_more_new}
use Rattle.lis_dict.specs.Dict.{words as words_of}
use Rattle.lis_dict.proofs.Laws.{number_from_among}
use Rattle.lis_open.specs.declared.words.Words.{Words}
use Rattle.lis_open.specs.ReadWords.{declared_words, is_left, is_right, kept_words, AreFirstAxioms, AreFirstWords}
use Rattle.lis_open.specs.ReadFiles.{is_assignable_by, is_assignable_number, is_numbered, numbers_of, own_numbers, found_words, described}
use Rattle.lis_kept.specs.Telling.{declared_of, is_declared}
use Rattle.lis_laws.proofs.Locals.{same_tests}
use Rattle.lis_open.specs.declared.axioms.Axioms.{Axioms}
use Rattle.lis_laws.proofs.Sources.{assignable_cases}
use Rattle.lis_laws.proofs.Sources.Assignable.{Plain, Valued}
use Rattle.lis_model.specs.Derived.{derived_words}
use Rattle.lis_taxonomy.specs.Taxonomy.{any_entails}
use Rattle.lis_kept.proofs.OwnLinks.{pair_slot}
use Rattle.lis_kept.proofs.Entailed.{edge_of, leads_joined}
use Rattle.lis_kept.proofs.EdgesTell.{tells_links}
use Rattle.lis_graph.specs.Graph.{Linked}
use Rattle.lis_laws.proofs.Apart.{test_not_valued}
use Rattle.lis_laws.proofs.Chains.{OwnLink, own_link, weaker_tests_are, up_from_entails, entails_from_up}
use Rattle.lis_laws.proofs.Chains.OwnLink.{Head, Weaker}
use Rattle.lis_laws.proofs.Members.{pair_exact, word_exact, same_words}
use Rattle.lis_model.specs.State.{links}
use Rattle.lis_kept.specs.Links.{is_pair, is_own_link, is_linked, TellsLinks}
use Rattle.lis_kept.proofs.Known.{only_pair}
use Rattle.std.specs.Cmp.{nat_cmp_total}
use Rattle.lis_taxonomy.proofs.Laws.{entails_decides}
use Rattle.lis_ext.proofs.Numbers.{among_where, where_among, sorted_where}
use Rattle.lis_store.proofs.Points.{length-with_more}
use Rattle.lis_store.proofs.Measured.{sorted_apart}
use Rattle.std.specs.FinSet as set

pub record RightWord (words : Words) (o : Option (List ℕ)) : Type 0 where
  pub word : List ℕ
  pub is : o ≡ Some word
  pub plain : is_plain_word word ≡ true
  pub declared : has_word (declared_words words) word ≡ true

pub right_word : (words : Words) (o : Option (List ℕ)) → is_right words o ≡ true → RightWord words o
right_word words o h = search (rules, both_ways, and_parts)

pub record LeftWord (words : Words) (o : Option (List ℕ)) : Type 0 where
  pub word : List ℕ
  pub is : o ≡ Some word
  pub nameable : is_nameable (declared_words words) word ≡ true
  pub headed : (not (is_valued word) || is_some (number_of words.dict (head_bytes word))) ≡ true

pub left_word : (words : Words) (o : Option (List ℕ)) → is_left words o ≡ true → LeftWord words o
left_word words None h = absurd (both_ways false refl h)
left_word words (Some word) h =
    let parts = and_parts (is_nameable (declared_words words) word) (not (is_valued word) || is_some (number_of words.dict (head_bytes word))) h in
    record { word = word; is = refl; nameable = parts.0; headed = parts.1 }

pub assignable_word : (words : Words) (o : Option (List ℕ)) → is_assignable_by words o ≡ true → (w : List ℕ) × (o ≡ Some w) × (is_assignable (declared_words words) w ≡ true)
assignable_word words None h = absurd (both_ways false refl h)
assignable_word words (Some w) h = (w, refl, h)

-- if an option has a word, it is not `None`
pub some_from : (o : Option (List ℕ)) (w : List ℕ) → o ≡ Some w → IsSome o
some_from o w is = ap is_some is

pub valued_headed : (a b : Bool) → (not a || b) ≡ true → a ≡ true → b ≡ true
valued_headed a b h e = search (rules, both_ways)

module _ (limits : Limits) (words : Words) (dict : IsDict words.dict) where
  -- a declared word has a number
  pub declared_numbered : (w : List ℕ) → Among (declared_words words) w → IsSome (number_of words.dict w)
  declared_numbered w m = search (rules, among_filter, among_map, number_from_among)

  pub declared_flagged : (n : ℕ) (w : List ℕ) → word_of words.dict n ≡ Some w → has_word (declared_words words) w ≡ true → is_taken words.declared n ≡ true
  declared_flagged n w is h =
      let m = among_from_has_word (declared_words words) w h in
      sym (ap (bit_of words.declared) (number_from_word words.dict dict w n is))
      ∙ (among_filter (λ word. bit_of words.declared (number_of words.dict word)) (words_of words.dict) w m).1

-- ---- what words may be used for, by what is read of them
-- limits that do not matter to the facts below
abbrev pub no_limits : Limits
no_limits = record { files = 0; props = 0; blocks = 0; version = 0 }

-- a word is declared exactly if its number's bit is set
pub declared_bit : (words : Words) (word : List ℕ) → bit_of words.declared (number_of words.dict word) ≡ has_word (declared_words words) word
declared_bit words word =
    let k = kept_words no_limits words [] in
    same_tests (is_declared k word) (has_word (declared_of k) word) (λ h. has_word_from_among (declared_of k) word (declared_there k word h)) (λ h. there_declared k word (among_from_has_word (declared_of k) word h))

-- a number past the last one has no word
pub no_word_past : (d : Dict) → IsDict d → (n : ℕ) → d.props ≤ n → word_of d n ≡ None
no_word_past d kept n past = (elim (word_of d n) as (λ o. word_of d n ≡ o → o ≡ None) [
  | None ↦ λ is. refl
  | Some w ↦ λ is. absurd (omega (arith, past, number_below d kept w n (number_from_word d kept w n is)))
]) refl

-- ---- the two sides of the axioms that were read
pub record Sides (words : Words) (left right : ℕ) : Type 0 where
  pub from : LeftWord words (word_of words.dict left)
  pub to : RightWord words (word_of words.dict right)

pub sides : (limits : Limits) (words : Words) (axioms : Axioms) (dict : IsDict words.dict) (end : ℕ) → AreFirstAxioms limits words axioms end
    → (slot left right : ℕ) → slice_get axioms.slots.items slot ≡ Some (Pair left right) → Sides words left right
sides limits words axioms dict end first slot left right is =
    let both = and_parts (is_left words (word_of words.dict left)) (is_right words (word_of words.dict right)) (first.good slot left right is).sides in
    record { from = left_word words (word_of words.dict left) both.0; to = right_word words (word_of words.dict right) both.1 }

-- ---- numbers of words: each has a word, and the head of a valued word has a number too
-- the word has the number, and its head has one if the word is valued
pub record IsNumbered (words : Words) (n : ℕ) (word : List ℕ) : Type 0 where
  pub named : word_of words.dict n ≡ Some word
  pub headed : is_valued word ≡ true → IsSome (number_of words.dict (head_bytes word))

pub bare_numbered : (words : Words) (n : ℕ) (word : List ℕ) → word_of words.dict n ≡ Some word → is_valued word ≡ false → IsNumbered words n word
bare_numbered words n word is bare = record { named = is; headed = λ valued. absurd (both_ways (is_valued word) bare valued) }

-- what an option has
pub only_one : {X : Type 0} (o : Option X) (x : X) → Among (option_to_list o) x → o ≡ Some x
only_one o x m = search (rules)

pub one_in : {X : Type 0} (o : Option X) (x : X) → o ≡ Some x → Among (option_to_list o) x
one_in o x is = subst (λ p. Among (option_to_list p) x) (sym is) (inl refl)

-- ---- numbers of words
-- the numbers are those of these words
pub record AreOf (words : Words) (numbers : List ℕ) (named : List (List ℕ)) : Type 0 where
  pub word : (n : ℕ) → Among numbers n → (w : List ℕ) × Among named w × IsNumbered words n w
  pub number : (w : List ℕ) → Among named w → (n : ℕ) × Among numbers n × IsNumbered words n w

of_set : (words : Words) (numbers : List ℕ) (named : List (List ℕ)) → AreOf words numbers named → AreOf words numbers (set_of named)
of_set words numbers named of = search (rules, set_of_among, among_set_of)

of_both : (words : Words) (ms ns : List ℕ) (us vs : List (List ℕ)) → AreOf words ms us → AreOf words ns vs → AreOf words (ms ++ ns) (us ++ vs)
of_both words ms ns us vs first second = search (rules, among_append, among_left, among_right)

-- ---- of a file
-- a record's file, if it has these bytes
abbrev pub file_with : Words → FileRecord → List ℕ → File
file_with words rec bytes = record { name = rec.name; bytes = bytes; assigned = words_told words.dict rec.tags }

module _ (limits : Limits) (words : Words) (dict : IsDict words.dict) where
  -- a word that may be assigned has a number, and so has its head
  given_numbered : (n : ℕ) (w : List ℕ) → word_of words.dict n ≡ Some w → is_assignable (declared_words words) w ≡ true → IsNumbered words n w
  given_numbered n w is may = elim (assignable_cases (declared_words words) w may) [
    | Plain plain m ↦ bare_numbered words n w is (plain_not_valued w plain)
    | Valued valued m ↦ record { named = is; headed = λ v. declared_numbered limits words dict _ m }
  ]

  tags_are : (tags : List ℕ) → list_all (is_assignable_number words) tags ≡ true → AreOf words tags (flat_map (λ n. option_to_list (word_of words.dict n)) tags)
  tags_are tags given = search (rules, assignable_word, all_among, flat_map_among, one_in, given_numbered, among_flat_map, only_one)

  module _ (found : List (List ℕ)) (all : list_all (is_numbered words.dict) found ≡ true) where
    parts : (w : List ℕ) → Among found w → (is_some (number_of words.dict w) ≡ true) × ((not (is_valued w) || is_some (number_of words.dict (head_bytes w))) ≡ true)
    parts w m = and_parts (is_some (number_of words.dict w)) (not (is_valued w) || is_some (number_of words.dict (head_bytes w))) (all_among (is_numbered words.dict) found w all m)

    numbered : (w : List ℕ) (n : ℕ) → Among found w → number_of words.dict w ≡ Some n → IsNumbered words n w
    numbered w n m is = record {
      named = word_from_number words.dict dict w n is;
      headed = valued_headed (is_valued w) (is_some (number_of words.dict (head_bytes w))) (parts w m).1;
    }

    found_are : AreOf words (numbers_of words.dict found) found
    found_are = record {
      word = λ n m.
          let w = among_flat_map (λ word. option_to_list (number_of words.dict word)) found n m in
          (w.0, w.1, numbered w.0 n w.1 (only_one (number_of words.dict w.0) n w.2));
      number = λ w m.
          let n = some_number (number_of words.dict w) (parts w m).0 in
          (n.0, flat_map_among (λ word. option_to_list (number_of words.dict word)) found w n.0 m (one_in (number_of words.dict w) n.0 n.1), numbered w n.0 m n.1);
    }

  -- a file's own words are those assigned to it, and those found in it
  pub own_are : (rec : FileRecord) (bytes : List ℕ) → list_all (is_assignable_number words) rec.tags ≡ true → list_all (is_numbered words.dict) (found_words words rec.name bytes) ≡ true
      → AreOf words (own_numbers words.dict rec.tags (found_words words rec.name bytes)) (own_words (declared_words words) (file_with words rec bytes))
  unfolding own_numbers
  own_are rec bytes given all =
      let found = found_words words rec.name bytes in
      let tags = of_set words rec.tags (flat_map (λ n. option_to_list (word_of words.dict n)) rec.tags) (tags_are rec.tags given) in
      subst (λ ws. AreOf words (rec.tags ++ numbers_of words.dict found) ws) (sym (append_assoc (words_told words.dict rec.tags) (derived_words rec.name bytes) (met_tests (declared_words words) (length bytes))))
      (of_both words rec.tags (numbers_of words.dict found) (words_told words.dict rec.tags) found tags (found_are found all))

  pub found_own : (rec : FileRecord) (bytes w : List ℕ) → Among (found_words words rec.name bytes) w → Among (own_words (declared_words words) (file_with words rec bytes)) w
  found_own rec bytes w m =
      subst (λ ws. Among ws w) (sym (append_assoc (words_told words.dict rec.tags) (derived_words rec.name bytes) (met_tests (declared_words words) (length bytes))))
      (among_right (words_told words.dict rec.tags) (found_words words rec.name bytes) w m)

  pub tag_owned : (rec : FileRecord) (bytes : List ℕ) (n : ℕ) → Among rec.tags n → Among (own_numbers words.dict rec.tags (found_words words rec.name bytes)) n
  unfolding own_numbers
  tag_owned rec bytes n m = among_left rec.tags (numbers_of words.dict (found_words words rec.name bytes)) n m

-- ---- the numbers that the words of a file lead to are those of the words of its description
-- ---- chains of links between words with numbers are chains of edges between these numbers; a head without a number ends a chain of words,
-- so each word here has a number, and so has its head
module _ (limits : Limits) (words : Words) (dict : IsDict words.dict) (axioms : List AxiomSlot)
    (sides : (slot left right : ℕ) → slice_get axioms slot ≡ Some (Pair left right) → Sides words left right) where
  abbrev k : Metadata
  k = kept_words limits words axioms

  -- a link between words, by its definition
  abbrev WordLink : List ℕ → List ℕ → Type 0
  WordLink p r = Linked (links (declared_words words)) (axioms_of k) p r

  pub one_number : (m n : ℕ) (w : List ℕ) → word_of words.dict m ≡ Some w → word_of words.dict n ≡ Some w → m ≡ n
  one_number m n w is_m is_n = same_Some m n (sym (number_from_word words.dict dict w m is_m) ∙ number_from_word words.dict dict w n is_n)

  -- ---- axioms
  pub pair_among : (slot p q : ℕ) (l r : List ℕ) → slice_get axioms slot ≡ Some (Pair p q) → word_of words.dict p ≡ Some l → word_of words.dict q ≡ Some r → Among (axioms_of k) (l, r)
  pair_among slot p q l r at is_l is_r =
      with_more_new pair_cmp pair_exact [] (pairs_told words.dict axioms) (l, r)
      (flat_map_among (pair_told words.dict) axioms (Pair p q) (l, r) (among_place axioms slot (Pair p q) at) (rw (is_l, is_r) (inl refl)))

  pub among_pair : (e : List ℕ × List ℕ) → Among (axioms_of k) e → (slot : ℕ) × (p : ℕ) × (q : ℕ) × (slice_get axioms slot ≡ Some (Pair p q)) × (word_of words.dict p ≡ Some e.0) × (word_of words.dict q ≡ Some e.1)
  among_pair e m =
      ⊎_elim (λ none. absurd none) (λ some. let found = among_flat_map (pair_told words.dict) axioms e some in at found.0 found.1 found.2) (among_with_more pair_cmp [] (pairs_told words.dict axioms) e m)
    where
      at : (a : AxiomSlot) → Among axioms a → Among (pair_told words.dict a) e → (slot : ℕ) × (p : ℕ) × (q : ℕ) × (slice_get axioms slot ≡ Some (Pair p q)) × (word_of words.dict p ≡ Some e.0) × (word_of words.dict q ≡ Some e.1)
      at FreeAxiom there is = absurd is
      at (Pair p q) there is =
          let place = placed_at axioms (Pair p q) there in
          let both = only_pair (word_of words.dict p) (word_of words.dict q) e is in
          (place.0, p, q, place.1, both.0, both.1)

  -- the sides of an axiom have numbers, and so have their heads
  pub left_numbered : (slot p q : ℕ) (l : List ℕ) → slice_get axioms slot ≡ Some (Pair p q) → word_of words.dict p ≡ Some l → IsNumbered words p l
  left_numbered slot p q l at is =
      let from = (sides slot p q at).from in
      let same = same_Some from.word l (sym from.is ∙ is) in
      record {
        named = is;
        headed = λ valued.
            valued_headed (is_valued l) (is_some (number_of words.dict (head_bytes l)))
            (subst (λ w. (not (is_valued w) || is_some (number_of words.dict (head_bytes w))) ≡ true) same from.headed) valued;
      }

  pub right_numbered : (slot p q : ℕ) (r : List ℕ) → slice_get axioms slot ≡ Some (Pair p q) → word_of words.dict q ≡ Some r → IsNumbered words q r
  right_numbered slot p q r at is =
      let to = (sides slot p q at).to in
      bare_numbered words q r is (subst (λ w. is_valued w ≡ false) (same_Some to.word r (sym to.is ∙ is)) (plain_not_valued to.word to.plain))

  -- ---- links
  -- an own link leads to a head or to a declared test, which has a number
  own_numbered : (n : ℕ) (p r : List ℕ) → IsNumbered words n p → Among (links (declared_words words) p) r → (m : ℕ) × IsNumbered words m r
  own_numbered n p r is m = by (own_link (declared_words words) p r m)
    where
      by : OwnLink (declared_words words) p r → (m : ℕ) × IsNumbered words m r
      by (Head valued same) =
          let number = some_number (number_of words.dict (head_bytes p)) (is.headed valued) in
          let named = word_from_number words.dict dict (head_bytes p) number.0 number.1 ∙ ap Some same in
          (number.0, bare_numbered words number.0 r named (subst (λ w. is_valued w ≡ false) same (head_not_valued p)))
      by (Weaker weaker) =
          let number = some_number (number_of words.dict r) (declared_numbered limits words dict r weaker.to) in
          (number.0, bare_numbered words number.0 r (word_from_number words.dict dict r number.0 number.1) (test_not_valued r (weaker_tests_are (declared_words words) p r weaker).1))

  -- a number to whose word the previous number's word links
  pub record NumberedLink (n : ℕ) (r : List ℕ) : Type 0 where
    pub number : ℕ
    pub is : IsNumbered words number r
    pub linked : is_linked k n number ≡ true

  link_numbered : (n : ℕ) (p r : List ℕ) → IsNumbered words n p → WordLink p r → NumberedLink n r
  link_numbered n p r is (inl own) =
      let m = among_from_contains (links (declared_words words) p) r own in
      let number = own_numbered n p r is m in
      record {
        number = number.0;
        is = number.1;
        linked = or_left (is_own_link (declared_words words) (word_of words.dict n) (word_of words.dict number.0)) (has_pair axioms n number.0)
            (ap₂ (is_own_link (declared_words words)) is.named number.1.named ∙ has_word_from_among (links (declared_words words) p) r m);
      }
  link_numbered n p r is (inr edge) =
      let found = among_pair (p, r) (among_from_contains (axioms_of k) (p, r) edge) in
      record {
        number = found.2;
        is = right_numbered found.0 found.1 found.2 r found.3 found.5;
        linked = or_right (is_own_link (declared_words words) (word_of words.dict n) (word_of words.dict found.2)) (has_pair axioms n found.2)
            (any_from_among (is_pair n found.2) axioms (Pair found.1 found.2) (among_place axioms found.0 (Pair found.1 found.2) found.3)
            (and_from (found.1 == n) (found.2 == found.2) (eq-eqb found.1 n (one_number found.1 n p found.4 is.named)) (eq-eqb found.2 found.2 refl)));
      }

  link_named : (n m : ℕ) (p : List ℕ) → word_of words.dict n ≡ Some p → is_linked k n m ≡ true → (r : List ℕ) × (word_of words.dict m ≡ Some r) × WordLink p r
  link_named n m p is linked =
      ⊎_elim (λ h. own (word_of words.dict m) refl (ap (λ o. is_own_link (declared_words words) o (word_of words.dict m)) (sym is) ∙ h))
      (λ h.
      let at = pair_slot axioms n m h in
      let to = (sides at.0 n m at.1).to in
      (to.word, to.is, inr (contains_from_among (axioms_of k) (p, to.word) (pair_among at.0 n m p to.word at.1 is to.is))))
      (or_cases (is_own_link (declared_words words) (word_of words.dict n) (word_of words.dict m)) (has_pair axioms n m) linked)
    where
      own : (o : Option (List ℕ)) → word_of words.dict m ≡ o → is_own_link (declared_words words) (Some p) o ≡ true → (r : List ℕ) × (word_of words.dict m ≡ Some r) × WordLink p r
      own None named h = absurd cc
      own (Some r) named h = (r, named, inl (contains_from_among (links (declared_words words) p) r (among_from_has_word (links (declared_words words) p) r h)))

  -- ---- chains
  module _ (t : Taxonomy) (tells : TellsLinks (kept_words limits words axioms) t) where
    pub leads_numbered : (len n : ℕ) (p q : List ℕ) → IsNumbered words n p → Chain (links (declared_words words)) (axioms_of (kept_words limits words axioms)) len p q
        → (m : ℕ) × IsNumbered words m q × Leads t n m
    leads_numbered zero n p q is same = (n, subst (λ w. IsNumbered words n w) same is, (zero, refl))
    leads_numbered (suc len) n p q is c =
        let link = link_numbered n p c.0 is c.1 in
        let rest = leads_numbered len link.number c.0 q link.is c.2 in
        (rest.0, rest.1, leads_joined t n link.number rest.0 (tells.leads n link.number link.linked) rest.2)

    pub chain_named : (len n m : ℕ) (p : List ℕ) → word_of words.dict n ≡ Some p → Chain no_links (set.items t.edges) len n m
        → (q : List ℕ) × (word_of words.dict m ≡ Some q) × Chain (links (declared_words words)) (axioms_of (kept_words limits words axioms)) len p q
    chain_named zero n m p is same = (p, ap (word_of words.dict) (sym same) ∙ is, refl)
    chain_named (suc len) n m p is c =
        let link = link_named n c.0 p is (tells.linked n c.0 (edge_of t n c.0 c.1)) in
        let rest = chain_named len c.0 m link.0 link.1 c.2 in
        (rest.0, rest.1, (link.0, link.2, rest.2))

    -- what the word of a number entails has a number, to which the number leads
    pub up_numbered : (n : ℕ) (p q : List ℕ) → IsNumbered words n p → Among (up (declared_words words) (axioms_of (kept_words limits words axioms)) p) q
        → (m : ℕ) × IsNumbered words m q × Leads t n m
    up_numbered n p q is h =
        let chain = entails_from_up (declared_words words) (axioms_of k) p q h in
        leads_numbered chain.0 n p q is chain.1

    -- and what a number leads to has a word, which its word entails
    pub up_named : (n m : ℕ) (p : List ℕ) → word_of words.dict n ≡ Some p → Leads t n m
        → (q : List ℕ) × (word_of words.dict m ≡ Some q) × Among (up (declared_words words) (axioms_of (kept_words limits words axioms)) p) q
    up_named n m p is leads = search (rules, chain_named, up_from_entails)

-- ---- the numbers that the words of a file lead to are those of the words of its description
-- ---- words of numbers
pub told_among : (dict : Dict) (ns : List ℕ) (n : ℕ) (w : List ℕ) → word_of dict n ≡ Some w → Among ns n → Among (words_told dict ns) w
told_among dict ns n w is m = search (rules, set_of_among, flat_map_among, one_in)

pub among_told : (dict : Dict) (ns : List ℕ) (w : List ℕ) → Among (words_told dict ns) w → (n : ℕ) × Among ns n × (word_of dict n ≡ Some w)
among_told dict ns w m =
    let found = among_flat_map (λ kept. option_to_list (word_of dict kept)) ns w (among_set_of (flat_map (λ kept. option_to_list (word_of dict kept)) ns) w m) in
    (found.0, found.1, only_one (word_of dict found.0) w found.2)

module _ (dict : Dict) (is_dict : IsDict dict) where
  abbrev word_list : ℕ → List (List ℕ)
  word_list n = option_to_list (word_of dict n)

  -- numbers without repeats have as many words, without repeats
  told_once : (ns : List ℕ) → AllApart ns → ((n : ℕ) → Among ns n → (w : List ℕ) × (word_of dict n ≡ Some w)) → AllApart (flat_map word_list ns) × (length (flat_map word_list ns) ≡ length ns)
  told_once [] apart named = (tt, refl)
  told_once (n ∷ ns) apart named =
      let here = named n (inl refl) in
      let rest = told_once ns apart.1 (λ m of. named m (inr of)) in
      let new : Among (flat_map word_list ns) here.0 → ⊥ = λ of.
      let found = among_flat_map word_list ns here.0 of in
      let same = same_Some found.0 n (sym (number_from_word dict is_dict here.0 found.0 (only_one (word_of dict found.0) here.0 found.2)) ∙ number_from_word dict is_dict here.0 n here.1) in
      apart.0 (subst (λ m. Among ns m) same found.1) in
      let is : flat_map word_list (n ∷ ns) ≡ here.0 ∷ flat_map word_list ns = ap (λ o. option_to_list o ++ flat_map word_list ns) here.1 in
      (subst (λ (ws : List (List ℕ)). AllApart ws) (sym is) (new, rest.0), omega (arith, ap length is, rest.1))

-- ---- words and numbers of one another
module _ (words : Words) (dict : IsDict words.dict) (numbers : List ℕ) (named : List (List ℕ)) (of : AreOf words numbers named) where
  -- the words of the numbers are these
  pub told_are : words_told words.dict numbers ≡ set_of named
  told_are =
      same_words (words_told words.dict numbers) (set_of named) (sorted_set_of (flat_map (λ n. option_to_list (word_of words.dict n)) numbers)) (sorted_set_of named)
      (λ w m.
      let number = among_told words.dict numbers w m in
      let word = of.word number.0 number.1 in
      set_of_among named w (subst (λ v. Among named v) (same_Some word.0 w (sym word.2.named ∙ number.2)) word.1))
      (λ w m. let number = of.number w (among_set_of named w m) in told_among words.dict numbers number.0 w number.2.named number.1)

  -- and there are as many words as numbers
  pub told_long : IsStrictlySortedBy nat_cmp numbers → length (words_told words.dict numbers) ≡ length numbers
  told_long sorted =
      let once = told_once words.dict dict numbers (sorted_apart nat_cmp nat_cmp_total numbers sorted) (λ n m. let word = of.word n m in (word.0, word.2.named)) in
      omega (arith, length-with_more word_cmp word_exact [] (flat_map (λ n. option_to_list (word_of words.dict n)) numbers) once.0 (λ x m none. none), once.1)

-- ---- a description by numbers
module _ (limits : Limits) (words : Words) (axioms : Axioms) (end : ℕ) (are : AreFirstWords limits words limits.props) (first : AreFirstAxioms limits words axioms end) where
  abbrev t : Taxonomy
  t = axioms.taxonomy

  abbrev dict : IsDict words.dict
  dict = are.are.dict

  abbrev kept : Metadata
  kept = kept_words limits words axioms.slots.items

  abbrev all_sides : (slot left right : ℕ) → slice_get axioms.slots.items slot ≡ Some (Pair left right) → Sides words left right
  all_sides = sides limits words axioms dict end first

  tells : TellsLinks kept t
  tells = tells_links kept dict t first.links

  -- all that these words entail
  abbrev pub entailed : List (List ℕ) → List (List ℕ)
  entailed named = flat_map (up (declared_words words) (axioms_of (kept_words limits words axioms.slots.items))) named

  pub word_below : (n : ℕ) (w : List ℕ) → word_of words.dict n ≡ Some w → n < axioms.taxonomy.props
  word_below n w is = let below = number_below words.dict dict w n (number_from_word words.dict dict w n is) in omega (arith, below, are.props, first.links.props)

  -- a number to which another leads has a word too, which the other's word entails
  lead : (own n : ℕ) (p : List ℕ) → IsNumbered words own p → Leads axioms.taxonomy own n → (w : List ℕ) × Among (up (declared_words words) (axioms_of kept) p) w × IsNumbered words n w
  lead own n p is leads =
      let named = up_named limits words dict axioms.slots.items all_sides t tells own n p is.named leads in
      let found = up_numbered limits words dict axioms.slots.items all_sides t tells own p named.0 is named.2 in
      let same = one_number limits words dict axioms.slots.items all_sides found.0 n named.0 found.1.named named.1 in
      (named.0, named.2, subst (λ m. IsNumbered words m named.0) same found.1)

  -- one of the file's own numbers leads to each number of the description
  led_to : (own : List ℕ) (n : ℕ) → Among (described axioms.taxonomy own) n → (m : ℕ) × Among own m × Leads axioms.taxonomy m n
  led_to own n m = search (rules, among_where, among_from_any, entails_decides)

  pub leads_there : (own : List ℕ) (m n : ℕ) → Among own m → Leads axioms.taxonomy m n → n < axioms.taxonomy.props → Among (described axioms.taxonomy own) n
  leads_there own m n here leads below = where_among t.props (any_entails t own) n below (any_from_among (λ j. entails t j n) own m here ((entails_decides t m n).1 leads))

  -- it has all numbers to which one of its numbers is linked
  pub described_on : (own : List ℕ) (p q : ℕ) (w : List ℕ) → Among (described axioms.taxonomy own) p → is_linked kept p q ≡ true → IsNumbered words p w → Among (described axioms.taxonomy own) q
  described_on own p q w m linked is =
      let from = led_to own p m in
      let next = tells.leads p q linked in
      let to = lead p q w is next in
      leads_there own from.0 q from.1 (leads_joined t from.0 p q from.2 next) (word_below q to.0 to.2.named)

  described_are : (own : List ℕ) (named : List (List ℕ)) → AreOf words own named → AreOf words (described axioms.taxonomy own) (entailed named)
  described_are own named of = record {
    word = λ n m.
        let from = led_to own n m in
        let p = of.word from.0 from.1 in
        let word = lead from.0 n p.0 p.2 from.2 in
        (word.0, flat_map_among (up (declared_words words) (axioms_of kept)) named p.0 word.0 p.1 word.1, word.2);
    number = λ w m.
        let p = among_flat_map (up (declared_words words) (axioms_of kept)) named w m in
        let from = of.number p.0 p.1 in
        let found = up_numbered limits words dict axioms.slots.items all_sides t tells from.0 p.0 w from.2 p.2 in
        (found.0, leads_there own from.0 found.0 from.1 found.2 (word_below found.0 w found.1.named), found.1);
  }

  -- ---- the description of a record's file, if it has these bytes
  module _ (rec : FileRecord) (bytes : List ℕ) (given : list_all (is_assignable_number words) rec.tags ≡ true) (numbered : list_all (is_numbered words.dict) (found_words words rec.name bytes) ≡ true) where
    pub file_are : AreOf words (described axioms.taxonomy (own_numbers words.dict rec.tags (found_words words rec.name bytes))) (entailed (own_words (declared_words words) (file_with words rec bytes)))
    file_are = described_are (own_numbers words.dict rec.tags (found_words words rec.name bytes)) (own_words (declared_words words) (file_with words rec bytes)) (own_are limits words dict rec bytes given numbered)

    -- the words of its numbers are its description, and there are as many words as numbers
    pub described_words : words_told words.dict (described axioms.taxonomy (own_numbers words.dict rec.tags (found_words words rec.name bytes)))
        ≡ file_words (declared_words words) (axioms_of (kept_words limits words axioms.slots.items)) (file_with words rec bytes)
    described_words = told_are words dict _ _ file_are

    pub description_long : length (words_told words.dict (described axioms.taxonomy (own_numbers words.dict rec.tags (found_words words rec.name bytes))))
        ≡ length (described axioms.taxonomy (own_numbers words.dict rec.tags (found_words words rec.name bytes)))
    description_long = told_long words dict _ _ file_are (sorted_where t.props (any_entails t (own_numbers words.dict rec.tags (found_words words rec.name bytes))))
