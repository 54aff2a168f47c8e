-- A word that is declared, known or forgotten.
use Rattle.std.proofs.Common.{eq-eqb, arith}
use Rattle.lis_kept.proofs.Common.{rules, ◌≡◌, ◌⊎◌, refl, sym, ap, ap₂, ◌∙◌, subst, inl, inr, ℕ, ◌==◌, ◌&&◌, ◌||◌, not, Bool, true, false, List, length, set, Option, Some, None, is_some, length-set, get_or-set_same, get_or-set_other, ◌<◌, if◌then◌else◌, IsSome, IfSome, [], ◌∷◌, cases_eq, ne_eqb, Dict, word_of, is_prop, Taxonomy, has_edge, same_word, head_bytes, are_weaker, with_word, is_declarable, declarable_not_valued, same_Some, Among, among_insert_key, insert_key_old, sorted_insert_key, sorted_from_rising, number_of, word_from_number, number_below, is_undeclared, word_cmp, is_valued, word_order, same_word_decides, head_not_valued, without_word, or_left, both_ways, false_from_ne_true, common_steps, map_among, words, same_words}
use Rattle.std.proofs.Math.Bool.{or-false}
use Rattle.lis_blockmap.specs.Bitmap.{is_taken}
use Rattle.lis_fields.proofs.Parts.{declarable_word, undeclared_word}
use Rattle.lis_kept.specs.Metadata.{Metadata, property_by}
use Rattle.lis_kept.specs.Areas.{block_of}
use Rattle.lis_kept.specs.Areas.Area.{Properties}
use Rattle.lis_kept.specs.Telling.{declared_of, is_head_by, is_had, is_named_left, is_used, AreUsed}
use Rattle.lis_kept.specs.Links.{AreHeld, has_pair, is_edge}
use Rattle.lis_kept.specs.TestEdges.{test_by, declared_test, is_next_test, TestsAreOrdered, InsertsTest}
use Rattle.lis_kept.specs.Changes.{Declares, Learns}
use Rattle.lis_kept.proofs.OwnLinks.{no_some, unnamed_to, unnamed_from}
use Rattle.lis_kept.proofs.NextTests.{no_test, next_parts}
use Rattle.lis_kept.proofs.TestLinks.{none_to, none_from, no_edge, no_head_none, beside_test, tests_ordered}
use Rattle.lis_kept.proofs.TestsAround.{inserted, met}
use Rattle.lis_kept.proofs.OneWord.{OneWord, after, same_word_there, marks_then, state_then, declared_more, edge_undeclared, heads_elsewhere, test_elsewhere, held_then, used_same, Comes, word_here, no_bit, no_head, comes, declared_same, number_then, IsUnnamed, sound_then, lefts_same, Goes, word_left, word_gone, not_gone, goes}
use Rattle.lis_dict.specs.Dict.{entry_cmp}
use Rattle.lis_dict.proofs.Laws.{among_from_number}
use Rattle.lis_kept.specs.Edges.{head_number, with_edge_to, without_edge_to}
use Rattle.lis_kept.specs.Sound.{AreSound}
use Rattle.lis_kept.proofs.Filing.{map_insert_key}
use Rattle.lis_kept.proofs.HeadEdges.{same_props_with, other_edges_with, first_edge, same_props_without, other_edges_without, last_edge}
use Rattle.lis_kept.proofs.Used.{is_at, head_by_number}
use Rattle.lis_content.proofs.Numbers.{stays_marked}
use Rattle.lis_kept.specs.Forgetting.{MayGo}
use Rattle.lis_kept.specs.Passes.{ForgetsWhere}
use Rattle.lis_kept.proofs.WordLess.{not_left}

-- edges of which some replace one between tests: `a` and `b` are those, `s` the one, `h`, `g` and `c` to heads, between tests and by axioms
placed : (a b s h g c : Bool) → (s ≡ true → (h ≡ false) × (c ≡ false)) → (a || (b || (not s && ((h || g) || c)))) ≡ ((h || (a || (b || (not s && g)))) || c)
placed a b true h g c none =
    let no = none refl in
    sym (ap₂ (λ i j. (i || (a || (b || false))) || j) no.0 no.1 ∙ or-false (a || (b || false)))
placed true b false true g c none = refl
placed true b false false g c none = refl
placed false true false true g c none = refl
placed false true false false g c none = refl
placed false false false h g c none = refl

module _ (p : Metadata) (t : Taxonomy) (held : AreHeld p t) {word : List ℕ} {number : ℕ} {d : Dict} {bits : List Bool}
    (form : is_declarable word ≡ true) (come : Comes p word number d) (bits_are : bits ≡ set p.declared number true) where
  bit_here : is_taken bits number ≡ true
  bit_here = ap (λ bs. is_taken bs number) bits_are ∙ get_or-set_same p.declared number true false (omega (arith, come.below, held.sound.numbers, held.sound.bits))

  pub one_word : (marks : List Bool) → marks ≡ set p.marks (block_of p.limits Properties number) true → OneWord p number d bits marks
  one_word marks marked =
      comes p held.sound come bits marks (declarable_word word form) (λ valued. absurd (let no : true ≡ false = sym valued ∙ declarable_not_valued word form in cc))
      (ap length bits_are ∙ length-set p.declared number true) (λ n differ. ap (λ bs. is_taken bs n) bits_are ∙ get_or-set_other p.declared number n true false differ)
      (ap (λ b. is_prop (property_by (Some word) b)) bit_here ∙ form) marked

  abbrev one : OneWord p number d bits (set p.marks (block_of p.limits Properties number) true)
  one = one_word (set p.marks (block_of p.limits Properties number) true) refl

  -- ---- the edges, and those between tests on the way
  pub ordered_after : TestsAreOrdered d t
  ordered_after x y edge tested = by (cases_eq x number) (cases_eq y number)
    where
      by : (x ≡ number) ⊎ (x ≡ number → ⊥) → (y ≡ number) ⊎ (y ≡ number → ⊥) → are_weaker (test_by (word_of d y)) (test_by (word_of d x)) ≡ true
      by (inl same) e = absurd (both_ways (has_edge t number y) (none_from p t held number come.free y) (subst (λ n. has_edge t n y ≡ true) same edge))
      by (inr differ) (inl same) = absurd (both_ways (has_edge t x number) (none_to p t held number come.free x) (subst (λ n. has_edge t x n ≡ true) same edge))
      by (inr differ) (inr apart) =
          let to = same_word_there p held.sound one y apart in
          ap₂ (λ r o. are_weaker (test_by r) (test_by o)) to (same_word_there p held.sound one x differ)
          ∙ tests_ordered p t held x y edge (subst (λ o. is_some (test_by o) ≡ true) to tested)

  -- ---- the change
  module _ (u : Taxonomy) (inserts : InsertsTest d bits number t u) (marks : List Bool) (marked : marks ≡ set p.marks (block_of p.limits Properties number) true) where
    abbrev q : Metadata
    q = after p held.sound (one_word marks marked)

    none_behind : (o : Option (List ℕ)) → is_head_by (Some word) o ≡ false
    none_behind None = refl
    none_behind (Some v) = ap (λ b. b && same_word (head_bytes word) v) (declarable_not_valued word form)

    -- the word is no valued one, and no head of one
    heads_same : (x y : ℕ) → (x ≡ number) ⊎ (x ≡ number → ⊥) → (y ≡ number) ⊎ (y ≡ number → ⊥) → is_head_by (word_of p.dict x) (word_of p.dict y) ≡ is_head_by (word_of d x) (word_of d y)
    heads_same x y (inl same) other =
        ap (λ o. is_head_by o (word_of p.dict y)) (ap (word_of p.dict) same ∙ come.free)
        ∙ sym (ap (λ o. is_head_by o (word_of d y)) (ap (word_of d) same ∙ word_here p held.sound come) ∙ none_behind (word_of d y))
    heads_same x y (inr differ) (inl same) =
        ap (is_head_by (word_of p.dict x)) (ap (word_of p.dict) same ∙ come.free) ∙ (no_head_none (word_of p.dict x)
        ∙ sym (ap₂ is_head_by (same_word_there p held.sound one x differ) (ap (word_of d) same ∙ word_here p held.sound come) ∙ no_head p held.sound come x))
    heads_same x y (inr differ) (inr apart) = sym (heads_elsewhere p held.sound one x y differ apart)

    tests_same : (n : ℕ) → (n ≡ number → ⊥) → declared_test d bits n ≡ declared_test p.dict p.declared n
    tests_same = test_elsewhere p held.sound one

    gone : declared_test p.dict p.declared number ≡ None
    gone = no_test p.dict p.declared number come.free

    edges_then : (x y : ℕ) → has_edge u x y ≡ is_edge q x y
    edges_then x y =
        inserts.edges x y
        ∙ (ap (λ b. (is_at inserts.stronger x && (number == y)) || (((number == x) && is_at inserts.weaker y) || (not (is_at inserts.stronger x && is_at inserts.weaker y) && b))) (held.links.edges x y)
        ∙ (placed (is_at inserts.stronger x && (number == y)) ((number == x) && is_at inserts.weaker y) (is_at inserts.stronger x && is_at inserts.weaker y) (is_head_by (word_of p.dict x) (word_of p.dict y))
        (is_next_test p.dict p.declared x y) (has_pair p.axioms x y) alone
        ∙ ap₂ (λ h n. (h || n) || has_pair p.axioms x y) (heads_same x y (cases_eq x number) (cases_eq y number))
        (sym (inserted d one.dict bits p.dict held.sound.dict p.declared number tests_same gone inserts.stronger inserts.weaker inserts.neighbours x y))))
      where
        alone : (is_at inserts.stronger x && is_at inserts.weaker y) ≡ true → (is_head_by (word_of p.dict x) (word_of p.dict y) ≡ false) × (has_pair p.axioms x y ≡ false)
        alone h =
            beside_test p held.sound x y
            (next_parts p.dict held.sound.dict p.declared x y (met d one.dict bits p.dict held.sound.dict p.declared number tests_same gone inserts.stronger inserts.weaker inserts.neighbours x y h)).0

    held_declared : AreHeld q u
    held_declared = record { sound = sound_then p held.sound (one_word marks marked); links = record { props = inserts.props ∙ held.links.props; edges = edges_then } }

    used_then : AreUsed p → AreUsed q
    used_then used n some = by (cases_eq n number)
      where
        by : (n ≡ number) ⊎ (n ≡ number → ⊥) → is_used q n ≡ true
        by (inl same) = or_left (is_taken bits n || is_had p.ext n) (is_named_left q n) (or_left (is_taken bits n) (is_had p.ext n) (ap (is_taken bits) same ∙ bit_here))
        by (inr differ) = used_same p held.sound (one_word marks marked) n differ ∙ used n (ap is_some (sym (same_word_there p held.sound one n differ)) ∙ some)

    -- over what memory kept
    pub declares : (k : Metadata) → p ≡ k → AreHeld q u × Declares word k q
    declares k is = (
      held_declared,
      subst (λ (x : Metadata). Declares word x q) is (record {
        number = number;
        below = omega (arith, come.below, held.sound.numbers);
        free = come.free;
        metadata = cc (come.dict_is, bits_are, marked);
        marks = marks_then p held.sound (one_word marks marked);
        state = state_then p held.sound (one_word marks marked) (with_word (declared_of p) word) (declared_more p held.sound (one_word marks marked) word (word_here p held.sound come) (no_bit p held.sound come) bit_here);
        used = used_then;
      }),
    )

-- ---- a word that is known, and not declared
-- ---- the number of a head
number_is : (d : Dict) (word : List ℕ) (h : ℕ) → head_number d word ≡ Some h → number_of d (head_bytes word) ≡ Some h
number_is d word h is = grind (arith, common_steps)

pub head_below : (p : Metadata) (t : Taxonomy) → AreHeld p t → (word : List ℕ) (o : Option ℕ) → o ≡ head_number p.dict word → IfSome o (λ h. h < t.props)
head_below p t held word None is = search rules
head_below p t held word (Some h) is = omega (arith, number_below p.dict held.sound.dict (head_bytes word) h (number_is p.dict word h (sym is)), held.sound.numbers, held.links.props)

pub head_apart : (p : Metadata) → AreSound p → (word : List ℕ) (number : ℕ) (o : Option ℕ) → o ≡ head_number p.dict word → word_of p.dict number ≡ None → o ≡ Some number → ⊥
head_apart p sound word number o is free same =
    let both : ◌≡◌ {A = Option (List ℕ)} None (Some (head_bytes word)) = sym free ∙ word_from_number p.dict sound.dict (head_bytes word) number (number_is p.dict word number (sym is ∙ same)) in
    cc

-- ---- a new word
module _ (p : Metadata) (t : Taxonomy) (held : AreHeld p t) {word : List ℕ} {number : ℕ} {d : Dict} (come : Comes p word number d) (form : is_undeclared word ≡ true)
    (headed : is_valued word ≡ true → IsSome (number_of p.dict (head_bytes word))) (marks : List Bool) (marked : marks ≡ set p.marks (block_of p.limits Properties number) true) where
  bit : is_taken p.declared number ≡ false
  bit = no_bit p held.sound come

  pub one_learnt : OneWord p number d p.declared marks
  one_learnt =
      comes p held.sound come p.declared marks (undeclared_word word form) headed refl (λ n differ. refl) (ap (λ b. is_prop (property_by (Some word) b)) bit ∙ form) marked

  abbrev learnt : Metadata
  learnt = after p held.sound one_learnt

  abbrev linked : Taxonomy
  linked = with_edge_to t number (head_number p.dict word)

  -- ---- links
  -- its head has the number that it had
  head_is : head_number d word ≡ head_number p.dict word
  head_is = by (is_valued word) refl
    where
      by : (b : Bool) → is_valued word ≡ b → (if b then number_of d (head_bytes word) else None) ≡ (if b then number_of p.dict (head_bytes word) else None)
      by false e = refl
      by true e = number_then p held.sound come (head_bytes word) ∙ ap (λ b. if b then Some number else number_of p.dict (head_bytes word))
          (false_from_ne_true (same_word word (head_bytes word)) (λ same. both_ways (is_valued word) (ap is_valued ((same_word_decides word (head_bytes word)).0 same) ∙ head_not_valued word) e))

  edge_here : (x y : ℕ) → (x ≡ number) ⊎ (y ≡ number) → is_edge learnt x y ≡ is_head_by (word_of d x) (word_of d y)
  edge_here = edge_undeclared learnt one_learnt.dict number one_learnt.unnamed.sides bit

  held_learnt : AreHeld learnt linked
  held_learnt =
      held_then p held.sound one_learnt t linked held.links (same_props_with t number (head_number p.dict word)) bit bit
      (λ y. first_edge t number (head_number p.dict word) y (none_from p t held number come.free y) ∙ (ap (λ o. is_at o y) (sym head_is) ∙ (head_by_number d one_learnt.dict word y
      ∙ sym (edge_here number y (inl refl) ∙ ap (λ o. is_head_by o (word_of d y)) (word_here p held.sound come)))))
      (λ x differ. other_edges_with t number (head_number p.dict word) x number differ ∙ (none_to p t held number come.free x
      ∙ sym (edge_here x number (inr refl) ∙ (ap₂ is_head_by (same_word_there p held.sound one_learnt x differ) (word_here p held.sound come) ∙ no_head p held.sound come x))))
      (λ x y differ apart. other_edges_with t number (head_number p.dict word) x y differ)

  only_then : (n : ℕ) (v : List ℕ) → word_of d n ≡ Some v → (word_of p.dict n ≡ Some v) ⊎ ((n ≡ number) × (v ≡ word))
  only_then n v is = by (cases_eq n number)
    where
      by : (n ≡ number) ⊎ (n ≡ number → ⊥) → (word_of p.dict n ≡ Some v) ⊎ ((n ≡ number) × (v ≡ word))
      by (inl same) = inr (same, same_Some v word (sym is ∙ (ap (word_of d) same ∙ word_here p held.sound come)))
      by (inr differ) = inl (sym (same_word_there p held.sound one_learnt n differ) ∙ is)

  -- a new word, over what memory kept
  pub learns_new : (k : Metadata) (u : Taxonomy) → p ≡ k → u ≡ linked → AreHeld learnt u × Learns word number k learnt
  learns_new k u is linked_is = (
    subst (AreHeld learnt) (sym linked_is) held_learnt,
    subst (λ (x : Metadata). Learns word number x learnt) is (record {
      below = omega (arith, come.below, held.sound.numbers);
      metadata = inr (come.new, come.free, cc (come.dict_is, marked));
      marks = marks_then p held.sound one_learnt;
      words = ap words come.dict_is ∙ map_insert_key (λ (e : List ℕ × ℕ). e.0) entry_cmp word_cmp (λ x y. refl) p.dict.entries (word, number);
      named = word_here p held.sound come;
      keeps = λ n v there. same_word_there p held.sound one_learnt n (no_some p held.sound number come.free n (ap is_some there)) ∙ there;
      only = only_then;
      state = state_then p held.sound one_learnt (declared_of p) (declared_same p held.sound one_learnt bit bit);
    }),
  )

-- a word that has a number
pub learns_there : (k p : Metadata) (t : Taxonomy) (word : List ℕ) (number : ℕ) → p ≡ k → AreHeld p t → number_of p.dict word ≡ Some number → Learns word number k k
learns_there k p t word number is held there =
    let Q : Metadata → Type 0 = λ q. Learns word number q q in
    subst Q is (record {
      below = omega (arith, number_below p.dict held.sound.dict word number there, held.sound.numbers);
      metadata = inl (there, refl);
      marks = record { saved = λ at saved. saved; few = omega arith };
      words = sym again;
      named = word_from_number p.dict held.sound.dict word number there;
      keeps = λ n v named. named;
      only = λ n v named. inl named;
      state = λ at. refl;
    })
  where
    m : Among (words p.dict) word
    m = map_among (λ (e : List ℕ × ℕ). e.0) p.dict.entries (word, number) (among_from_number p.dict word number there)

    again : with_word (words p.dict) word ≡ words p.dict
    again =
        let sorted = sorted_from_rising word_cmp word_order (words p.dict) held.sound.dict.rising in
        same_words (with_word (words p.dict) word) (words p.dict) (sorted_insert_key word_cmp word_order (words p.dict) word sorted) sorted
        (λ v n. elim (among_insert_key word_cmp (words p.dict) word v n) [ inl same ↦ subst (λ u. Among (words p.dict) u) same m | inr old ↦ old ]) (insert_key_old word_cmp (words p.dict) word)

-- ---- a word that is forgotten: it was not declared
module _ (p : Metadata) (t : Taxonomy) (held : AreHeld p t) {word : List ℕ} {number : ℕ} (there : word_of p.dict number ≡ Some word) (may : MayGo number p) where
  unnamed : IsUnnamed p number
  unnamed = record { sides = record { left = not_left p number may.lefts; right = may.rights }; tags = may.tags; had = may.had }

  edge_before : (x y : ℕ) → (x ≡ number) ⊎ (y ≡ number) → is_edge p x y ≡ is_head_by (word_of p.dict x) (word_of p.dict y)
  edge_before = edge_undeclared p held.sound.dict number unnamed.sides may.flagged

  -- its only edge is the one to its head
  edge_is : (y : ℕ) → has_edge t number y ≡ is_at (head_number p.dict word) y
  edge_is y = search (rules, edge_before, head_by_number)

  pub edge_to_head : (o : Option ℕ) → o ≡ head_number p.dict word → IfSome o (λ h. has_edge t number h ≡ true)
  edge_to_head None is = search rules
  edge_to_head (Some h) is = edge_is h ∙ (ap (λ o. is_at o h) (sym is) ∙ eq-eqb h h refl)

  none_before : (x : ℕ) → has_edge t x number ≡ false
  none_before x = held.links.edges x number ∙ (edge_before x number (inr refl) ∙ may.heads x)

  -- over what memory kept
  pub forgets : (k : Metadata) (u : Taxonomy) (dict : Dict) (marks : List Bool) → p ≡ k → dict ≡ without_word p.dict word → u ≡ without_edge_to t number (head_number p.dict word)
      → marks ≡ set p.marks (block_of p.limits Properties number) true
      → AreHeld (record p { dict = dict; marks = marks }) u × ForgetsWhere (λ n. number == n) 1 k (record p { dict = dict; marks = marks })
  forgets k u dict marks is dict_is unlinked_is marked = (
    subst (AreHeld q) (sym unlinked_is) (
        held_then p held.sound one t (without_edge_to t number head) held.links (same_props_without t number head) may.flagged may.flagged
        (λ y. last_edge t number head y (edge_is y) ∙ sym (no_edge q one.dict number y (unnamed_from q (sound_then p held.sound one) number none y)))
        (λ x differ. other_edges_without t number head x number differ ∙ (none_before x ∙ sym (no_edge q one.dict x number (unnamed_to q (sound_then p held.sound one) number none x))))
        (λ x y differ apart. other_edges_without t number head x y differ)),
    subst (λ (x : Metadata). ForgetsWhere (λ n. number == n) 1 x q) is (record {
      metadata = refl;
      props = one.props;
      marks = marks_then p held.sound one;
      marked = λ block taken. ap (λ ms. is_taken ms block) marked ∙ stays_marked p.marks (block_of p.limits Properties number ∷ []) block taken;
      words = word_left p held.sound go;
      state = state_then p held.sound one (declared_of p) (declared_same p held.sound one may.flagged may.flagged);
      lefts = λ n some. lefts_same p held.sound one n (not_gone p held.sound go n some);
    }),
  )
    where
      head : Option ℕ
      head = head_number p.dict word

      go : Goes p word number dict
      go = record { there = there; unnamed = unnamed; heads = may.heads; dict_is = dict_is }

      one : OneWord p number dict p.declared marks
      one = goes p held.sound go p.declared marks refl (λ n differ. refl) may.flagged marked

      none : word_of dict number ≡ None
      none = word_gone p held.sound go

      q : Metadata
      q = record p { dict = dict; marks = marks }

-- a number without a word
pub forgets_none : (k : Metadata) (number : ℕ) → word_of k.dict number ≡ None → ForgetsWhere (λ n. number == n) 1 k k
forgets_none k number none = search (rules, eq-eqb, ne_eqb)
