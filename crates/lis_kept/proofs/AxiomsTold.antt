-- The axioms of memory, by their slots.
use Rattle.std.proofs.Common.{arith, eq-eqb}
use Rattle.lis_kept.proofs.Common.{rules, ◌≡◌, ◌⊎◌, ℕ, zero, suc, ◌+◌, ◌<◌, ◌≤◌, ◌==◌, ◌&&◌, Bool, true, false, cond, Some, List, [], ◌∷◌, ◌++◌, length, slice_get, count_by, IsSome, refl, sym, ap, ap₂, ◌∙◌, subst, inl, inr, Ordering, Less, Equal, Greater, match_ordering, insert_key, fold, list_any, eqb-true, same_Some, sum_by-cons, Among, among_right, among_from_any, among_flat_map, among_insert_key, Dict, word_of, AxiomSlot, FreeAxiom, Pair, same_word, same_pair, pair_exact, same_word_decides, both_ways, any_from_among, same_tests}
use Rattle.lis_model.specs.State.{pair_cmp}
use Rattle.lis_model.specs.Changes.{has_axiom}
use Rattle.lis_kept.specs.Metadata.{Metadata}
use Rattle.lis_kept.specs.Sound.{AreSound}
use Rattle.lis_kept.specs.Links.{is_pair, has_pair}
use Rattle.lis_kept.specs.Linking.{is_filled}
use Rattle.lis_kept.specs.Telling.{pair_by, pair_told, pairs_told, axioms_of}
use Rattle.lis_kept.proofs.Formed.{some_word}
use Rattle.lis_kept.proofs.OwnLinks.{slot_at, among_slot}
use Rattle.lis_kept.proofs.Known.{only_pair, one_number, axiom_among, among_axiom}

-- ---- by words and by numbers
module _ (k : Metadata) (sound : AreSound k) where
  -- numbers are the same exactly if their words are
  pub same_number : (x n : ℕ) (v w : List ℕ) → word_of k.dict x ≡ Some v → word_of k.dict n ≡ Some w → (x == n) ≡ same_word v w
  same_number x n v w is_v is_w =
      same_tests (x == n) (same_word v w)
      (λ e. (same_word_decides v w).1 (same_Some v w (sym is_v ∙ (ap (word_of k.dict) (eqb-true x n e) ∙ is_w))))
      (λ e. eq-eqb x n (one_number k sound x n w (is_v ∙ ap Some ((same_word_decides v w).0 e)) is_w))

  -- a test of slots that says the same of words as one of axioms
  pub by_axioms : (test : AxiomSlot → Bool) (told : List ℕ × List ℕ → Bool) → test FreeAxiom ≡ false
      → ((x y : ℕ) (l r : List ℕ) → word_of k.dict x ≡ Some l → word_of k.dict y ≡ Some r → test (Pair x y) ≡ told (l, r)) → list_any told (axioms_of k) ≡ list_any test k.axioms
  by_axioms test told none same =
      same_tests (list_any told (axioms_of k)) (list_any test k.axioms)
      (λ h. let found = among_from_any told (axioms_of k) h in from found.0 found.1 found.2)
      (λ h. let found = among_from_any test k.axioms h in to found.0 found.1 found.2)
    where
      to : (a : AxiomSlot) → Among k.axioms a → test a ≡ true → list_any told (axioms_of k) ≡ true
      to FreeAxiom m is = absurd (both_ways (test FreeAxiom) none is)
      to (Pair x y) m is =
          let at = slot_at k.axioms (Pair x y) m in
          let one = sound.axioms at.0 x y at.1 in
          let l = some_word (word_of k.dict x) one.left in
          let r = some_word (word_of k.dict y) one.right in
          any_from_among told (axioms_of k) (l.0, r.0) (axiom_among k sound at.0 x y l.0 r.0 at.1 l.1 r.1) (sym (same x y l.0 r.0 l.1 r.1) ∙ is)

      from : (e : List ℕ × List ℕ) → Among (axioms_of k) e → told e ≡ true → list_any test k.axioms ≡ true
      from e m is =
          let at = among_axiom k sound e m in
          any_from_among test k.axioms (Pair at.1 at.2) (among_slot k.axioms at.0 (Pair at.1 at.2) at.3) (same at.1 at.2 e.0 e.1 at.4 at.5 ∙ is)

-- an axiom between two words is one between their numbers
pub axiom_told : (k : Metadata) (sound : AreSound k) (left right : ℕ) (l r : List ℕ) → word_of k.dict left ≡ Some l → word_of k.dict right ≡ Some r → has_axiom (axioms_of k) (l, r) ≡ has_pair k.axioms left right
axiom_told k sound left right l r is_l is_r =
    by_axioms k sound (is_pair left right) (λ e. same_pair e (l, r)) refl (λ x y v w is_v is_w. ap₂ (λ a b. a && b) (same_number k sound x left v l is_v is_l) (same_number k sound y right w r is_w is_r))

-- ---- how many there are
longer : (acc : List (List ℕ × List ℕ)) (e : List ℕ × List ℕ) → (Among acc e → ⊥) → length (insert_key pair_cmp acc e) ≡ length acc + 1
longer [] e new = omega arith
longer (x ∷ acc) e new = by (pair_cmp e x) refl (longer acc e (λ m. new (inr m)))
  where
    by : (o : Ordering) → pair_cmp e x ≡ o → length (insert_key pair_cmp acc e) ≡ length acc + 1 → length (match_ordering o (e ∷ x ∷ acc) (x ∷ acc) (x ∷ insert_key pair_cmp acc e)) ≡ length (x ∷ acc) + 1
    by Less tie rest = omega arith
    by Equal tie rest = absurd (new (inl (sym (pair_exact e x tie))))
    by Greater tie rest = omega (arith, rest)

abbrev count : List AxiomSlot → ℕ
count axioms = count_by is_filled axioms

one_more : (x y : ℕ) (axioms : List AxiomSlot) → count (Pair x y ∷ axioms) ≡ count axioms + 1
one_more x y axioms = omega (arith, sum_by-cons (λ a. cond (is_filled a) 1 0) (Pair x y) axioms)

no_more : (axioms : List AxiomSlot) → count (FreeAxiom ∷ axioms) ≡ count axioms
no_more axioms = omega (arith, sum_by-cons (λ a. cond (is_filled a) 1 0) FreeAxiom axioms)

-- what axioms need so that each slot gives a different one
record AreApart (d : Dict) (axioms : List AxiomSlot) : Type 0 where
  named : (x y : ℕ) → Among axioms (Pair x y) → IsSome (word_of d x) × IsSome (word_of d y)
  apart : (i j x y : ℕ) → slice_get axioms i ≡ Some (Pair x y) → slice_get axioms j ≡ Some (Pair x y) → i ≡ j

module _ (d : Dict) (one : (m n : ℕ) (w : List ℕ) → word_of d m ≡ Some w → word_of d n ≡ Some w → m ≡ n) where
  rest_apart : (a : AxiomSlot) (axioms : List AxiomSlot) → AreApart d (a ∷ axioms) → AreApart d axioms
  rest_apart a axioms are = record {
    named = λ x y m. are.named x y (inr m);
    apart = λ i j x y is_i is_j. let next = are.apart (suc i) (suc j) x y is_i is_j in omega (arith, next);
  }

  -- the first slot's axiom is none of the others'
  first_apart : (x y : ℕ) (axioms : List AxiomSlot) (e : List ℕ × List ℕ) → AreApart d (Pair x y ∷ axioms) → word_of d x ≡ Some e.0 → word_of d y ≡ Some e.1 → Among (pairs_told d axioms) e → ⊥
  first_apart x y axioms e are is_x is_y m = let found = among_flat_map (pair_told d) axioms e m in by found.0 found.1 found.2
    where
      by : (a : AxiomSlot) → Among axioms a → Among (pair_told d a) e → ⊥
      by FreeAxiom there told = told
      by (Pair u v) there told =
          let names = only_pair (word_of d u) (word_of d v) e told in
          let at = slot_at axioms (Pair u v) there in
          let same : ◌≡◌ {A = AxiomSlot} (Pair u v) (Pair x y) = ap₂ (λ (a b : ℕ). Pair a b) (one u x e.0 names.0 is_x) (one v y e.1 names.1 is_y) in
          let tie = are.apart zero (suc at.0) x y refl (at.1 ∙ ap Some same) in
          omega (arith, tie)

  -- nor is an axiom of the others that of the first slot, or one of those before
  no_other : (acc : List (List ℕ × List ℕ)) (x y : ℕ) (axioms : List AxiomSlot) → AreApart d (Pair x y ∷ axioms) → ((e : List ℕ × List ℕ) → Among (pairs_told d (Pair x y ∷ axioms)) e → Among acc e → ⊥)
      → (l : (w : List ℕ) × (word_of d x ≡ Some w)) (r : (w : List ℕ) × (word_of d y ≡ Some w)) (e : List ℕ × List ℕ) → Among (pairs_told d axioms) e → (◌≡◌ {A = List ℕ × List ℕ} (l.0, r.0) e) ⊎ Among acc e → ⊥
  no_other acc x y axioms are new l r e = search (rules, first_apart, among_right)

  counted : (acc : List (List ℕ × List ℕ)) (axioms : List AxiomSlot) → AreApart d axioms → ((e : List ℕ × List ℕ) → Among (pairs_told d axioms) e → Among acc e → ⊥)
      → length (fold (insert_key pair_cmp) acc (pairs_told d axioms)) ≡ length acc + count axioms
  counted acc [] are new = omega arith
  counted acc (FreeAxiom ∷ axioms) are new = counted acc axioms (rest_apart FreeAxiom axioms are) new ∙ ap (λ n. length acc + n) (sym (no_more axioms))
  counted acc (Pair x y ∷ axioms) are new =
      let some = are.named x y (inl refl) in
      let l = some_word (word_of d x) some.0 in
      let r = some_word (word_of d y) some.1 in
      let pair : pair_told d (Pair x y) ≡ (l.0, r.0) ∷ [] = ap₂ pair_by l.1 r.1 in
      let told : pairs_told d (Pair x y ∷ axioms) ≡ (l.0, r.0) ∷ pairs_told d axioms = ap (λ es. es ++ pairs_told d axioms) pair in
      let rest = counted (insert_key pair_cmp acc (l.0, r.0)) axioms (rest_apart (Pair x y) axioms are)
      (λ e m n. no_other acc x y axioms are new l r e m (among_insert_key pair_cmp acc (l.0, r.0) e n)) in
      let grown = longer acc (l.0, r.0) (new (l.0, r.0) (subst (λ es. Among es (l.0, r.0)) (sym told) (inl refl))) in
      let sum : length (insert_key pair_cmp acc (l.0, r.0)) + count axioms ≡ length acc + count (Pair x y ∷ axioms) = omega (arith, grown, one_more x y axioms) in
      ap (λ es. length (fold (insert_key pair_cmp) acc es)) told ∙ (rest ∙ sum)

-- as many as slots that have one, if no two have the same
pub axioms_counted : (k : Metadata) → AreSound k → ((slot other left right : ℕ) → slice_get k.axioms slot ≡ Some (Pair left right) → slice_get k.axioms other ≡ Some (Pair left right) → slot ≡ other)
    → length (axioms_of k) ≡ count_by is_filled k.axioms
axioms_counted k sound apart =
    let are : AreApart k.dict k.axioms = record {
      named = λ x y m. let at = slot_at k.axioms (Pair x y) m in let sides = sound.axioms at.0 x y at.1 in (sides.left, sides.right);
      apart = apart;
    } in
    let all = counted k.dict (one_number k sound) [] k.axioms are (λ e m none. none) in
    omega (arith, all)

-- if fewer have one than there are numbers, a slot is free
pub slot_free : (axioms : List AxiomSlot) (most : ℕ) → most ≤ length axioms → count_by is_filled axioms < most → (slot : ℕ) × (slot < most) × (slice_get axioms slot ≡ Some FreeAxiom)
slot_free [] most within few = absurd (omega (arith, within, few))
slot_free (a ∷ axioms) zero within few = absurd (omega (arith, few))
slot_free (FreeAxiom ∷ axioms) (suc most) within few = (zero, omega arith, refl)
slot_free (Pair x y ∷ axioms) (suc most) within few =
    let rest = slot_free axioms most (omega (arith, within)) (omega (arith, few, one_more x y axioms)) in
    (suc rest.0, omega (arith, rest.1), rest.2)
