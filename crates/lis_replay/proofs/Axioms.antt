-- The lines of `axiom` add all axioms of a state, in their order, if its words and files are there.
use Rattle.std.proofs.Common.{◌≡◌, ℕ, ◌+◌, ◌≤◌, true, false, not, ◌&&◌, List, [], ◌∷◌, ◌++◌, length, map, refl, sym, ap, subst, ◌∙◌, inl, inr, append_assoc, append-nil, length-append, arith}
use Rattle.std.proofs.lemmas.Bool.{and_parts, and_from, false_from_ne_true, not_from_true, ltb-true}
use Rattle.lis_graph.specs.Graph.{is_rising}
use Rattle.lis_graph.proofs.Members.{Among, among_from_any, among_left, among_right, among_insert_key}
use Rattle.lis_words.specs.Words.{has_word, same_word, is_plain_word}
use Rattle.lis_model.specs.declared.command.Command.TheVariants.{Axiom}
use Rattle.lis_model.specs.State.{State, WellFormed, up, is_nameable, pair_cmp}
use Rattle.lis_model.specs.Changes.{with_axiom, has_axiom, same_pair}
use Rattle.lis_model.specs.Step.{Item, no_payload, step, changed, axiom_checks, exceeds_axioms, exceeds_known, exceeds_words}
use Rattle.lis_model.specs.Step.Item.{Do}
use Rattle.lis_laws.proofs.Members.{pair_order, same_word_decides}
use Rattle.lis_laws.proofs.Chains.{Pairs, up_decides, acyclic_within}
use Rattle.lis_laws.proofs.Axioms.{acyclic_with_axiom}
use Rattle.lis_laws.proofs.Counts.{all_among, insert_key_le}
use Rattle.lis_laws.proofs.Sources.{rights_are}
use Rattle.lis_laws.proofs.Steps.{NoneStands}
use Rattle.lis_replay.proofs.Rising.{front_apart, insert_next}
use Rattle.lis_replay.proofs.Led.{LeadsTo, said_ok, led_nowhere, led_on, not_refused}
use Rattle.lis_replay.proofs.Lower.{IsLower, barer_itself, room_known, room_words}
use Rattle.lis_replay.proofs.Mkdirs.{with_these, at_root}

abbrev pub axiom_item : List ℕ × List ℕ → Item
axiom_item pair = Do (Axiom pair.0 pair.1) no_payload

same_pair_is : (p q : List ℕ × List ℕ) → same_pair p q ≡ true → p ≡ q
same_pair_is p q h = by ((same_word_decides p.0 q.0).0 parts.0) ((same_word_decides p.1 q.1).0 parts.1)
  where
    parts : (same_word p.0 q.0 ≡ true) × (same_word p.1 q.1 ≡ true)
    parts = and_parts (same_word p.0 q.0) (same_word p.1 q.1) h

    by : p.0 ≡ q.0 → p.1 ≡ q.1 → p ≡ q
    by left right = ap (λ (w : List ℕ). (w, p.1)) left ∙ ap (λ (w : List ℕ). (q.0, w)) right

module _ (t : State) (formed : WellFormed t) where
  abbrev by_axioms : Pairs → State
  by_axioms axioms = with_these t t.declared axioms t.files

  -- the next axiom and those before it are axioms of the state
  record IsNext (front : Pairs) (pair : List ℕ × List ℕ) : Type 0 where
    there : (e : List ℕ × List ℕ) → Among (pair ∷ front) e → Among t.axioms e
    new : Among front pair → ⊥
    few : length front + 1 ≤ length t.axioms

  none_stands : (front : Pairs) (pair : List ℕ × List ℕ) → IsNext front pair → NoneStands (axiom_checks (by_axioms front) pair (by_axioms (with_axiom front pair)))
  none_stands front pair next = (plain, (there_both, (new, (no_circle, (few, (known, (described, tt)))))))
    where
      made : State
      made = by_axioms (with_axiom front pair)

      member : Among t.axioms pair
      member = next.there pair (inl refl)

      within : (e : List ℕ × List ℕ) → Among (with_axiom front pair) e → Among t.axioms e
      within e m = next.there e (among_insert_key pair_cmp front pair e m)

      right : (is_plain_word pair.1 ≡ true) × (has_word t.declared pair.1 ≡ true)
      right = and_parts (is_plain_word pair.1) (has_word t.declared pair.1) (rights_are t formed pair member)

      left : is_nameable t.declared pair.0 ≡ true
      left = all_among (λ (e : List ℕ × List ℕ). is_nameable t.declared e.0) t.axioms pair formed.axioms.lefts member

      plain : not (is_plain_word pair.1) ≡ false
      plain = not_from_true _ right.0

      there_both : not (has_word t.declared pair.1 && is_nameable t.declared pair.0) ≡ false
      there_both = not_from_true _ (and_from _ _ right.1 left)

      there_already : has_axiom front pair ≡ true → ⊥
      there_already has =
          let found = among_from_any (λ (p : List ℕ × List ℕ). same_pair p pair) front has in
          next.new (subst (λ (p : List ℕ × List ℕ). Among front p) (same_pair_is found.0 pair found.2) found.1)

      new : has_axiom front pair ≡ false
      new = false_from_ne_true (has_axiom front pair) there_already

      circle : has_word (up t.declared front pair.1) pair.0 ≡ true → ⊥
      circle back =
          ((acyclic_with_axiom t.declared front pair).0 (acyclic_within t.declared (with_axiom front pair) t.axioms within formed.axioms.acyclic)).1
          ((up_decides t.declared front pair.1 pair.0).0 back)

      no_circle : has_word (up t.declared front pair.1) pair.0 ≡ false
      no_circle = false_from_ne_true (has_word (up t.declared front pair.1) pair.0) circle

      many : exceeds_axioms made ≡ true → ⊥
      many h = omega (arith, ltb-true _ _ h, insert_key_le pair_cmp front pair, next.few, formed.few_axioms)

      few : exceeds_axioms made ≡ false
      few = false_from_ne_true (exceeds_axioms made) many

      lower : IsLower made t
      lower = record {
        limits = refl;
        declared = λ w m. m;
        axioms = within;
        files = λ f m. (f, m, barer_itself f);
      }

      known : exceeds_known made ≡ false
      known = room_known made t formed lower formed.declared_set

      described : exceeds_words made ≡ false
      described = room_words made t formed lower

  axiom_steps : (front : Pairs) (pair : List ℕ × List ℕ) → IsNext front pair → step (at_root (by_axioms front)) (axiom_item pair) ≡ said_ok (at_root (by_axioms (with_axiom front pair)))
  unfolding step
  axiom_steps front pair next =
      let made = by_axioms (with_axiom front pair) in
      let now = at_root (by_axioms front) in
      not_refused now (axiom_checks now.state pair made) (changed now made) (none_stands front pair next)

  is_next : (front : Pairs) (pair : List ℕ × List ℕ) (rest : Pairs) → t.axioms ≡ front ++ pair ∷ rest → IsNext front pair
  is_next front pair rest is = record {
    there = λ e m. subst (λ es. Among es e) (sym is) (by e m);
    new = λ m. front_apart pair_cmp pair_order front (pair ∷ rest) pair rising m (inl refl);
    few = omega (arith, ap length is, length-append front (pair ∷ rest));
  }
    where
      rising : is_rising pair_cmp (front ++ pair ∷ rest) ≡ true
      rising = ap (is_rising pair_cmp) (sym is) ∙ formed.axiom_set

      by : (e : List ℕ × List ℕ) → Among (pair ∷ front) e → Among (front ++ pair ∷ rest) e
      by e (inl same) = among_right front (pair ∷ rest) e (inl same)
      by e (inr m) = among_left front (pair ∷ rest) e m

  pub axioms_lead : (front rest : Pairs) → t.axioms ≡ front ++ rest → LeadsTo (at_root (by_axioms front)) (map axiom_item rest) (at_root (by_axioms t.axioms))
  axioms_lead front [] is =
      subst (λ axioms. LeadsTo (at_root (by_axioms front)) [] (at_root (by_axioms axioms))) (sym (append-nil front) ∙ sym is) (led_nowhere (at_root (by_axioms front)))
  axioms_lead front (pair ∷ rest) is =
      led_on (at_root (by_axioms front)) (at_root (by_axioms (front ++ pair ∷ []))) (at_root (by_axioms t.axioms)) (axiom_item pair) (map axiom_item rest)
      (axiom_steps front pair (is_next front pair rest is)
      ∙ ap (λ axioms. said_ok (at_root (by_axioms axioms))) (insert_next pair_cmp pair_order front pair rest (ap (is_rising pair_cmp) (sym is) ∙ formed.axiom_set)))
      (axioms_lead (front ++ pair ∷ []) rest (is ∙ sym (append_assoc front (pair ∷ []) rest)))
