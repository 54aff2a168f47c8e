-- A file that is admitted: its words may get numbers, and its numbers are well formed.
use Rattle.std.proofs.Common.{rules}
use Rattle.std.proofs.Common.{◌^◌}
use Rattle.lis_store.proofs.Common.{◌≡◌, ◌⊎◌, refl, sym, ap, ap₂, ◌∙◌, subst, inl, inr, ℕ, ◌≤◌, nat_lt, nat_le, ◌&&◌, ◌||◌, cond, Bool, true, false, List, [], ◌∷◌, ◌++◌, length, is_some, IsSome, arith, flat_map, list_all, IsStrictlyIncreasing, nat_cmp, nat_cmp_total, and_parts, or_cases, lt-ltb, is_rising, Among, among_filter, among_append, among_left, among_flat_map, members_le, sorted_from_rising, number_of, word_of, are_blocks, is_record, word_cmp, has_word, is_valued, is_head, is_built_in, head_bytes, with_word, with_words, State, heads, up, all_up, is_assignable, met_tests, plain_not_valued, among_heads, up_self, all_weaker, rising_from_sorted, word_order, among_with_words, with_words_new, sorted_with_words, among_from_has_word, Metadata, AreSound, is_sound_record, is_declared, declared_of, axioms_of, among_where, sorted_where, and_from, or_left, or_right, both_ways, le-leb, flat_map-append, IsStrictlyIncreasing-from_sorted, flat_map_among, words, has_number, all_among, all_from, with_words_old, set_of_among, number_from_among}
use Rattle.std.proofs.lemmas.List.Sums.{fold-append}
use Rattle.lis_fields.specs.Layouts.{are_tags, number_width}
use Rattle.lis_model.specs.Sets.{fit}
use Rattle.lis_fields.proofs.Parts.{record_from}
use Rattle.lis_words.specs.Words.{built_in_heads}
use Rattle.lis_laws.proofs.Apart.{head_built_in}
use Rattle.lis_laws.proofs.Chains.{up_own, links_head}
use Rattle.lis_store.specs.Drafts.{Draft}
use Rattle.lis_store.specs.Admitting.{described_by, known_with, IsAdmitted}
use Rattle.lis_store.specs.Adding.{is_one_of, numbers_named, AreNumbered, behind_head, with_heads, may_learn, HasWordRoom, LearnsAll, learnt_words}
use Rattle.lis_store.specs.ReplacingIn.{MayComeIn, record_of}
use Rattle.lis_store.proofs.Learning.{number_there, learns_more, number_learnt, room_left}
use Rattle.lis_store.proofs.Naming.{one_of, named_one, named_few}
use Rattle.lis_kept.proofs.InArea.{numbers_fit}
use Rattle.lis_store.proofs.Told.{words_grow}

-- ---- words that may get numbers
pub declared_known : (k : Metadata) (word : List ℕ) → has_word (declared_of k) word ≡ true → IsSome (number_of k.dict word)
declared_known k word h = number_there k.dict word (among_filter (is_declared k) (words k.dict) word (among_from_has_word (declared_of k) word h)).0

abbrev pub may_by : Metadata → List ℕ → Bool → Bool
may_by k word b = cond b (is_some (number_of k.dict (head_bytes word)) || is_built_in (head_bytes word)) (is_some (number_of k.dict word) || (is_head word && is_built_in word))

assignable_may : (k : Metadata) (word : List ℕ) → is_assignable (declared_of k) word ≡ true → may_learn k word ≡ true
assignable_may k word h = search (rules, or_cases, and_parts, plain_not_valued, or_left, declared_known)

-- a built-in word is valued, and its head is built in, or it is a bare head
built_in_may : (k : Metadata) (word : List ℕ) → is_built_in word ≡ true → may_learn k word ≡ true
built_in_may k word own = by (is_valued word) refl
  where
    bare : is_valued word ≡ false → (has_word built_in_heads word ≡ true) ⊎ ((is_valued word && has_word built_in_heads (head_bytes word)) ≡ true) → is_head word ≡ true
    bare not_valued (inl itself) = all_among is_head built_in_heads word refl (among_from_has_word built_in_heads word itself)
    bare not_valued (inr both) = absurd (both_ways (is_valued word) not_valued (and_parts (is_valued word) (has_word built_in_heads (head_bytes word)) both).0)

    by : (b : Bool) → is_valued word ≡ b → may_by k word b ≡ true
    by true valued = or_right (is_some (number_of k.dict (head_bytes word))) (is_built_in (head_bytes word)) (head_built_in word valued own)
    by false not_valued =
        or_right (is_some (number_of k.dict word)) (is_head word && is_built_in word)
        (and_from (is_head word) (is_built_in word) (bare not_valued (or_cases (has_word built_in_heads word) (is_valued word && has_word built_in_heads (head_bytes word)) own)) own)

pub learnable_from : (k : Metadata) (words : List (List ℕ)) → list_all (is_assignable (declared_of k)) words ≡ true → list_all (may_learn k) words ≡ true
learnable_from k words h = all_weaker (is_assignable (declared_of k)) (may_learn k) words (λ word m one. assignable_may k word one) h

pub own_may : (k : Metadata) (words : List (List ℕ)) → list_all is_built_in words ≡ true → list_all (may_learn k) words ≡ true
own_may k words h = all_weaker is_built_in (may_learn k) words (λ word m one. built_in_may k word one) h

-- ---- what words entail includes the words and their heads
pub head_entailed : (declared : List (List ℕ)) (axioms : List (List ℕ × List ℕ)) (own : List (List ℕ)) (word : List ℕ) → Among (with_heads own) word → Among (all_up declared axioms own) word
head_entailed declared axioms own word m =
    let found = among_flat_map behind_head own word m in
    set_of_among (flat_map (up declared axioms) own) word (flat_map_among (up declared axioms) own found.0 word found.1 (by found.0 (among_append (heads found.0) (found.0 ∷ []) word found.2)))
  where
    by : (own_word : List ℕ) → Among (heads own_word) word ⊎ Among (own_word ∷ []) word → Among (up declared axioms own_word) word
    by own_word (inl head) =
        let parts = among_heads own_word word head in
        subst (λ w. Among (up declared axioms own_word) w) parts.1 (up_own declared axioms own_word (head_bytes own_word) (links_head declared own_word parts.0))
    by own_word (inr here) = elim here [ inl same ↦ subst (λ w. Among (up declared axioms own_word) w) same (up_self declared axioms own_word) | inr none ↦ absurd none ]

-- each word is in the list after its head
pub behind_itself : (own : List (List ℕ)) (word : List ℕ) → Among own word → Among (with_heads own) word
behind_itself own word m = flat_map_among behind_head own word word m (by (is_valued word))
  where
    by : (b : Bool) → Among (cond b (head_bytes word ∷ []) [] ++ word ∷ []) word
    by true = inr (inl refl)
    by false = inl refl

-- a file that is admitted
pub may_come : (p : Metadata) (draft : Draft) → IsAdmitted p draft → MayComeIn p draft
may_come p draft admitted = search (rules)

-- ---- the file
module _ {p : Metadata} (sound : AreSound p) {draft : Draft} (may : MayComeIn p draft) where
  abbrev tests : Metadata → List (List ℕ)
  tests k = met_tests (declared_of k) draft.size

  -- its words and their heads are words of its description
  pub heads_described : (word : List ℕ) → Among (with_heads (learnt_words draft)) word → Among (described_by p draft) word
  heads_described word m =
      head_entailed (declared_of p) (axioms_of p) (learnt_words draft ++ tests p) word
      (subst (λ ws. Among ws word) (sym (flat_map-append behind_head (learnt_words draft) (tests p))) (among_left (with_heads (learnt_words draft)) (with_heads (tests p)) word m))

  pub assigned_may : list_all (may_learn p) draft.assigned ≡ true
  assigned_may = learnable_from p draft.assigned may.assignable

  -- the words and their heads are words of the description
  pub no_more_known : length (with_words (words p.dict) (with_heads (learnt_words draft))) ≤ length (known_with p draft)
  no_more_known =
      let old = sorted_from_rising word_cmp word_order (words p.dict) sound.dict.rising in
      members_le word_cmp word_order (with_words (words p.dict) (with_heads (learnt_words draft))) (known_with p draft)
      (sorted_with_words (words p.dict) (with_heads (learnt_words draft)) old) (sorted_with_words (words p.dict) (described_by p draft) old)
      (λ word m. by word (among_with_words (words p.dict) (with_heads (learnt_words draft)) word m))
    where
      by : (word : List ℕ) → Among (words p.dict) word ⊎ Among (with_heads (learnt_words draft)) word → Among (known_with p draft) word
      by word (inl m) = with_words_old (words p.dict) (described_by p draft) word m
      by word (inr m) = with_words_new (words p.dict) (described_by p draft) word (heads_described word m)

  words_fit : HasWordRoom p (with_heads (learnt_words draft))
  words_fit = omega (arith, no_more_known, may.room)

  heads_split : with_heads (learnt_words draft) ≡ with_heads draft.assigned ++ with_heads draft.own
  heads_split = flat_map-append behind_head draft.assigned draft.own

  pub assigned_room : HasWordRoom p (with_heads draft.assigned)
  assigned_room =
      let whole = ap (λ ws. length (with_words (words p.dict) ws)) heads_split in
      let parts = ap (λ (ws : List (List ℕ)). length ws) (fold-append with_word (words p.dict) (with_heads draft.assigned) (with_heads draft.own)) in
      omega (arith, whole, parts, words_grow (with_words (words p.dict) (with_heads draft.assigned)) (with_heads draft.own), words_fit)

  pub own_room : {q : Metadata} → LearnsAll (with_heads draft.assigned) p q → HasWordRoom q (with_heads draft.own)
  own_room {q} learns = room_left p q (with_heads draft.assigned) learns (with_heads draft.own) (subst (λ ws. HasWordRoom p ws) heads_split words_fit)

  pub both_learnt : {q r : Metadata} → LearnsAll (with_heads draft.assigned) p q → LearnsAll (with_heads draft.own) q r → LearnsAll (with_heads (learnt_words draft)) p r
  both_learnt {q} {r} first second = search (rules, heads_split, learns_more)

  module _ {r : Metadata} (learns : LearnsAll (with_heads (learnt_words draft)) p r) where
    pub own_numbered : AreNumbered r.dict (learnt_words draft)
    own_numbered word h = number_learnt p r (with_heads (learnt_words draft)) learns word (behind_itself (learnt_words draft) word (among_from_has_word (learnt_words draft) word h))

    declared_same : declared_of r ≡ declared_of p
    declared_same = ap (λ (s : State). s.declared) (learns.state (λ n. []))

    axioms_same : axioms_of r ≡ axioms_of p
    axioms_same = ap (λ (s : State). s.axioms) (learns.state (λ n. []))

    pub entailed_is : all_up (declared_of r) (axioms_of r) (learnt_words draft ++ tests r) ≡ described_by p draft
    entailed_is = ap₂ (λ declared axioms. all_up declared axioms (learnt_words draft ++ met_tests declared draft.size)) declared_same axioms_same

    pub entailed_short : length (all_up (declared_of r) (axioms_of r) (learnt_words draft ++ tests r)) ≤ 128
    entailed_short = omega (arith, ap length entailed_is, may.short)

-- ---- numbers in their form
module _ (r : Metadata) (sound : AreSound r) (words : List (List ℕ)) where
  pub named_tags : length words ≤ 16 → are_tags r.limits.version (numbers_named r.dict words) ≡ true
  named_tags few =
      let width = number_width r.limits.version in
      and_from (nat_le (length (numbers_named r.dict words)) 16 && fit width (numbers_named r.dict words)) (is_rising nat_cmp (numbers_named r.dict words))
      (and_from (nat_le (length (numbers_named r.dict words)) 16) (fit width (numbers_named r.dict words))
      (le-leb (length (numbers_named r.dict words)) 16 (omega (arith, named_few r.dict sound.dict words, few)))
      (all_from (λ n. nat_lt n (256 ^ width)) (numbers_named r.dict words) (λ n m.
      lt-ltb n (256 ^ width)
      (numbers_fit r.limits n sound.range (inl (omega (arith, (among_where r.dict.props (λ k. is_one_of words (word_of r.dict k)) n m).0, sound.numbers)))))))
      (rising_from_sorted nat_cmp nat_cmp_total (numbers_named r.dict words) (sorted_where r.dict.props (λ n. is_one_of words (word_of r.dict n))))

  pub named_rising : IsStrictlyIncreasing (numbers_named r.dict words)
  named_rising = IsStrictlyIncreasing-from_sorted (numbers_named r.dict words) (sorted_where r.dict.props (λ n. is_one_of words (word_of r.dict n)))

  pub named_worded : list_all (λ n. is_some (word_of r.dict n)) (numbers_named r.dict words) ≡ true
  named_worded =
      all_from (λ n. is_some (word_of r.dict n)) (numbers_named r.dict words) (λ n m.
      ap is_some (one_of words (word_of r.dict n) (named_one r.dict sound.dict words n m)).1)

-- ---- its record
pub record_sound : {p r : Metadata} {draft : Draft} → MayComeIn p draft → AreSound r → LearnsAll (with_heads (learnt_words draft)) p r → (blocks : List ℕ) → are_blocks p.limits.version draft.size blocks ≡ true
    → list_all (λ n. nat_lt n p.limits.blocks) blocks ≡ true → is_sound_record r.limits r.dict r.limits.blocks (record_of (numbers_named r.dict draft.assigned) draft blocks) ≡ true
record_sound {p} {r} {draft} may sound learns blocks formed below =
    let rec = record_of (numbers_named r.dict draft.assigned) draft blocks in
    and_from (is_record r.limits rec && list_all (λ n. is_some (word_of r.dict n)) rec.tags) (list_all (λ n. nat_lt n r.limits.blocks) blocks)
    (and_from (is_record r.limits rec) (list_all (λ n. is_some (word_of r.dict n)) rec.tags)
    (ap (λ (k : Metadata). is_record k.limits rec) learns.metadata ∙ record_from p.limits rec may.name may.small
    (subst (λ (k : Metadata). are_tags k.limits.version rec.tags ≡ true) learns.metadata (named_tags r sound draft.assigned may.few)) formed)
    (named_worded r sound draft.assigned))
    (ap (λ (k : Metadata). list_all (λ n. nat_lt n k.limits.blocks) blocks) learns.metadata ∙ below)

-- a slot without numbers has the empty set
pub none_has : (ns : List ℕ) → ((n : ℕ) → has_number ns n ≡ false) → ns ≡ []
none_has [] none = refl
none_has (n ∷ ns) none = absurd (both_ways (has_number (n ∷ ns) n) (none n) (number_from_among (n ∷ ns) n (inl refl)))
