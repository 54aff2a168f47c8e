-- The lines of `mkdir` declare all words of a state, in their order.
use Rattle.std.proofs.Common.{◌≡◌, ℕ, true, false, List, [], ◌∷◌, ◌++◌, map, refl, sym, ap, subst, ◌∙◌, inl, inr, append_assoc, append-nil, arith}
use Rattle.std.proofs.lemmas.Bool.{false_from_ne_true, ltb-true}
use Rattle.lis_graph.specs.Graph.{is_rising}
use Rattle.lis_graph.proofs.Members.{Among, among_left, among_right, among_insert_key}
use Rattle.lis_words.specs.Words.{word_cmp, has_word, is_built_in, is_valued}
use Rattle.lis_model.specs.declared.command.Command.TheVariants.{Mkdir}
use Rattle.lis_model.specs.Sets.{with_word}
use Rattle.lis_model.specs.State.{State, File, WellFormed, is_declarable}
use Rattle.lis_model.specs.Step.{Situation, Item, no_payload, step, changed, mkdir_checks, exceeds_axioms, exceeds_known, exceeds_words}
use Rattle.lis_model.specs.Step.Item.{Do}
use Rattle.lis_laws.proofs.Members.{word_order, among_from_has_word}
use Rattle.lis_laws.proofs.Counts.{all_among, rising_insert_key}
use Rattle.lis_laws.proofs.Apart.{declarable_not_valued, declarable_not_built_in}
use Rattle.lis_laws.proofs.Steps.{NoneStands}
use Rattle.lis_replay.proofs.Rising.{rising_front, front_apart, insert_next}
use Rattle.lis_replay.proofs.Led.{LeadsTo, said_ok, led_nowhere, led_on, not_refused}
use Rattle.lis_replay.proofs.Lower.{IsLower, room_known, room_words}

-- of the limits of a state, with these words, axioms and files
abbrev pub with_these : State → List (List ℕ) → List (List ℕ × List ℕ) → List File → State
with_these t declared axioms files = record { limits = t.limits; declared = declared; axioms = axioms; files = files }

abbrev pub at_root : State → Situation
at_root s = record { state = s; place = [] }

abbrev pub mkdir_item : List ℕ → Item
mkdir_item word = Do (Mkdir word) no_payload

module _ (t : State) (formed : WellFormed t) where
  -- the next word and those before it are declared words of the state
  record IsNext (front : List (List ℕ)) (word : List ℕ) : Type 0 where
    rising : is_rising word_cmp front ≡ true
    there : (w : List ℕ) → Among (word ∷ front) w → Among t.declared w
    new : Among front word → ⊥

  none_stands : (front : List (List ℕ)) (word : List ℕ) → IsNext front word
      → NoneStands (mkdir_checks (at_root (with_these t front [] [])) word (with_these t (with_word front word) [] []))
  none_stands front word next = (own, (not_valued, (new, (refl, (refl, (few, (known, (described, tt))))))))
    where
      form : is_declarable word ≡ true
      form = all_among is_declarable t.declared word formed.declared (next.there word (inl refl))

      own : is_built_in word ≡ false
      own = declarable_not_built_in word form

      not_valued : is_valued word ≡ false
      not_valued = declarable_not_valued word form

      new : has_word front word ≡ false
      new = false_from_ne_true (has_word front word) (λ has. next.new (among_from_has_word front word has))

      made : State
      made = with_these t (with_word front word) [] []

      few : exceeds_axioms made ≡ false
      few = false_from_ne_true (exceeds_axioms made) (λ h. omega (arith, ltb-true _ _ h))

      lower : IsLower made t
      lower = record {
        limits = refl;
        declared = λ w m. next.there w (among_insert_key word_cmp front word w m);
        axioms = λ e m. absurd m;
        files = λ f m. absurd m;
      }

      known : exceeds_known made ≡ false
      known = room_known made t formed lower (rising_insert_key word_cmp word_order front word next.rising)

      described : exceeds_words made ≡ false
      described = room_words made t formed lower

  mkdir_steps : (front : List (List ℕ)) (word : List ℕ) → IsNext front word
      → step (at_root (with_these t front [] [])) (mkdir_item word) ≡ said_ok (at_root (with_these t (with_word front word) [] []))
  unfolding step
  mkdir_steps front word next =
      let made = with_these t (with_word front word) [] [] in
      let now = at_root (with_these t front [] []) in
      not_refused now (mkdir_checks now word made) (changed now made) (none_stands front word next)

  is_next : (front : List (List ℕ)) (word : List ℕ) (rest : List (List ℕ)) → t.declared ≡ front ++ word ∷ rest → IsNext front word
  is_next front word rest is = record {
    rising = rising_front word_cmp word_order front (word ∷ rest) rising;
    there = λ w m. subst (λ ws. Among ws w) (sym is) (by w m);
    new = λ m. front_apart word_cmp word_order front (word ∷ rest) word rising m (inl refl);
  }
    where
      rising : is_rising word_cmp (front ++ word ∷ rest) ≡ true
      rising = ap (is_rising word_cmp) (sym is) ∙ formed.declared_set

      by : (w : List ℕ) → Among (word ∷ front) w → Among (front ++ word ∷ rest) w
      by w (inl same) = among_right front (word ∷ rest) w (inl same)
      by w (inr m) = among_left front (word ∷ rest) w m

  pub mkdirs_lead : (front rest : List (List ℕ)) → t.declared ≡ front ++ rest
      → LeadsTo (at_root (with_these t front [] [])) (map mkdir_item rest) (at_root (with_these t t.declared [] []))
  mkdirs_lead front [] is =
      subst (λ words. LeadsTo (at_root (with_these t front [] [])) [] (at_root (with_these t words [] []))) (sym (append-nil front) ∙ sym is)
      (led_nowhere (at_root (with_these t front [] [])))
  mkdirs_lead front (word ∷ rest) is =
      led_on (at_root (with_these t front [] [])) (at_root (with_these t (front ++ word ∷ []) [] [])) (at_root (with_these t t.declared [] [])) (mkdir_item word) (map mkdir_item rest)
      (mkdir_steps front word (is_next front word rest is)
      ∙ ap (λ words. said_ok (at_root (with_these t words [] []))) (insert_next word_cmp word_order front word rest (ap (is_rising word_cmp) (sym is) ∙ formed.declared_set)))
      (mkdirs_lead (front ++ word ∷ []) rest (is ∙ sym (append_assoc front (word ∷ []) rest)))
