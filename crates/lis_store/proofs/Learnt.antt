-- What stays the same after words get numbers.
use Rattle.std.proofs.Common.{rules}
use Rattle.lis_store.proofs.Common.{◌≡◌, ◌⊎◌, refl, sym, ap, ap₂, ◌∙◌, subst, inl, inr, ℕ, ◌||◌, true, List, [], Option, Some, None, is_some, IsSome, Contains, or_cases, Among, among_from_contains, is_taken, word_of, Filed, numbers_at, State, description, among_with_words, Metadata, AreSound, FreeSlotsAreEmpty, declared_of, state_of, is_head_by, is_had, is_named_left, is_used, filed_rec, some_word, named_all, known_word, or_left, or_right, among_from_any, any_from_among, words, is_linked, words_told, file_told, number_from_among, one_number}
use Rattle.lis_kept.proofs.Known.{word_known}
use Rattle.lis_store.specs.Stored.{AreClosed}
use Rattle.lis_store.specs.Adding.{LearnsAll}
use Rattle.lis_store.proofs.Told.{same_map, words_same}
use Rattle.lis_store.proofs.OwnStay.{own_back}

module _ (p q : Metadata) (more : List (List ℕ)) (learns : LearnsAll more p q) (sound : AreSound p) where
  abbrev made : Metadata
  made = record p { dict = q.dict; marks = q.marks }

  pub word_stays : (n : ℕ) → IsSome (word_of p.dict n) → word_of q.dict n ≡ word_of p.dict n
  word_stays n some = let found = some_word (word_of p.dict n) some in learns.keeps n found.0 found.1 ∙ sym found.1

  -- ---- what is in use stays in use
  head_stays : (a b : ℕ) → is_head_by (word_of p.dict a) (word_of p.dict b) ≡ true → is_head_by (word_of q.dict a) (word_of q.dict b) ≡ true
  head_stays a b h = by (word_of p.dict a) (word_of p.dict b) refl refl h
    where
      by : (x y : Option (List ℕ)) → word_of p.dict a ≡ x → word_of p.dict b ≡ y → is_head_by x y ≡ true → is_head_by (word_of q.dict a) (word_of q.dict b) ≡ true
      by None y is_x is_y head = absurd cc
      by (Some w) None is_x is_y head = absurd cc
      by (Some w) (Some v) is_x is_y head = ap₂ is_head_by (learns.keeps a w is_x) (learns.keeps b v is_y) ∙ head

  pub left_stays : (n : ℕ) → is_named_left p n ≡ true → is_named_left made n ≡ true
  left_stays n left = search (rules, or_cases, head_stays, or_left, among_from_any, or_right, any_from_among)

  pub used_learnt : (n : ℕ) → is_used p n ≡ true → is_used q n ≡ true
  used_learnt n used = subst (λ (k : Metadata). is_used k n ≡ true) (sym learns.metadata) (by (or_cases (is_taken p.declared n || is_had p.ext n) (is_named_left p n) used))
    where
      by : ((is_taken p.declared n || is_had p.ext n) ≡ true) ⊎ (is_named_left p n ≡ true) → is_used made n ≡ true
      by (inl either) = or_left (is_taken p.declared n || is_had p.ext n) (is_named_left made n) either
      by (inr left) = or_right (is_taken p.declared n || is_had p.ext n) (is_named_left made n) (left_stays n left)

  -- ---- files
  pub free_learnt : FreeSlotsAreEmpty p → FreeSlotsAreEmpty q
  free_learnt free = subst (λ (k : Metadata). FreeSlotsAreEmpty k) (sym learns.metadata) free

  pub file_learnt : (at : ℕ → List ℕ) (f : Filed) → Among p.catalog.entries f → file_told p.limits q.dict at f ≡ file_told p.limits p.dict at f
  file_learnt at f m =
      let states : state_of made at ≡ state_of p at = ap (λ (k : Metadata). state_of k at) (sym learns.metadata) ∙ learns.state at in
      same_map (file_told p.limits q.dict at) (file_told p.limits p.dict at) p.catalog.entries (ap (λ (s : State). s.files) states) f m

  pub described_learnt : (at : ℕ → List ℕ) (s : State) → state_of p at ≡ s
      → ((f : Filed) → Contains p.catalog.entries f → words_told p.dict (numbers_at p.ext f.slot) ≡ description s (file_told p.limits p.dict at f))
      → (f : Filed) → Contains p.catalog.entries f → words_told q.dict (numbers_at q.ext f.slot) ≡ description (state_of q at) (file_told q.limits q.dict at f)
  described_learnt at s told described f m =
      let ns = numbers_at p.ext f.slot in
      let states : state_of q at ≡ s = learns.state at ∙ told in
      let here : words_told q.dict ns ≡ description (state_of q at) (file_told p.limits q.dict at f) =
      words_same p.dict q.dict ns (λ n has_it. word_stays n (sound.named n f.slot (ap is_some (filed_rec p.catalog sound.catalog f (among_from_contains p.catalog.entries f m))) (number_from_among ns n has_it)))
      ∙ (described f m ∙ ap₂ (λ (x : State) (file : _). description x file) (sym states) (sym (file_learnt at f (among_from_contains p.catalog.entries f m)))) in
      subst (λ (k : Metadata). words_told q.dict (numbers_at k.ext f.slot) ≡ description (state_of q at) (file_told k.limits q.dict at f)) (sym learns.metadata) here

  module _ (after : AreSound q) where
    -- a word is one that was known, or one that gets a number
    pub word_before : (n : ℕ) (word : List ℕ) → word_of q.dict n ≡ Some word → (word_of p.dict n ≡ Some word) ⊎ Among more word
    word_before n word is = by (among_with_words (words p.dict) more word (subst (λ ws. Among ws word) learns.words (word_known q after n word is)))
      where
        by : Among (words p.dict) word ⊎ Among more word → (word_of p.dict n ≡ Some word) ⊎ Among more word
        by (inl m) =
            let known = known_word p sound word m in
            inl (subst (λ k. word_of p.dict k ≡ Some word) (one_number q after known.0 n word (learns.keeps known.0 word known.1) is) known.1)
        by (inr m) = inr m

    -- ---- links
    declared_same : declared_of q ≡ declared_of p
    declared_same = ap (λ (s : State). s.declared) (learns.state (λ n. []))

    pub link_before : (a b : ℕ) → IsSome (word_of p.dict a) → is_linked q a b ≡ true → is_linked p a b ≡ true
    link_before a b some linked = search (rules, or_cases, or_left, own_back, declared_same, or_right)

    pub closed_learnt : FreeSlotsAreEmpty p → AreClosed p → AreClosed q
    closed_learnt free closed slot a b h linked = search (rules, link_before, named_all)
