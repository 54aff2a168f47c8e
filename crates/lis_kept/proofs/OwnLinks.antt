-- The own links of words.
use Rattle.lis_kept.proofs.Common.{common_steps, rules, [], ◌∷◌, ◌≡◌, ℕ, true, false, Option, Some, None, is_some, IsSome, slice_get, List, refl, ap, ◌∙◌, and_parts, or_cases, eqb-true, same_Some, Among, among_right, among_from_any, contains_from_among, word_of, AxiomSlot, Pair, same_word, has_word, head_bytes, is_valued, is_test, is_plain_word, is_undeclared, same_word_decides, among_from_has_word, all_among, OwnLink, own_link, Head, Weaker, and_from, both_ways, false_from_ne_true, has_word_from_among, same_tests}
use native.Mathlib.Omega.{arith}
use Rattle.std.proofs.lemmas.Option.{slice_get-get_or}
use Rattle.lis_words.proofs.Tests.{plain_not_test, head_not_test, valued_not_test}
use Rattle.lis_model.specs.State.{links}
use Rattle.lis_laws.proofs.Chains.{IsWeakerIn, weaker_tests_are, links_head}
use Rattle.lis_kept.specs.Metadata.{Metadata}
use Rattle.lis_kept.specs.Telling.{declared_of, is_head_by}
use Rattle.lis_kept.specs.Sound.{AreSound}
use Rattle.lis_kept.specs.Links.{is_own_link, is_linked, has_pair}

-- a member is at some index
pub placed_at : {X : Type 0} (xs : List X) (x : X) → Among xs x → (n : ℕ) × (slice_get xs n ≡ Some x)
placed_at xs x m = search (rules, contains_from_among, slice_get-get_or)

pub among_place : {X : Type 0} (xs : List X) (n : ℕ) (x : X) → slice_get xs n ≡ Some x → Among xs x
among_place [] n x is = absurd cc
among_place (y ∷ ys) n x is = grind (arith, common_steps, same_Some, among_place ys)

pub slot_at : (axioms : List AxiomSlot) (a : AxiomSlot) → Among axioms a → (i : ℕ) × (slice_get axioms i ≡ Some a)
slot_at = placed_at

pub among_slot : (axioms : List AxiomSlot) (i : ℕ) (a : AxiomSlot) → slice_get axioms i ≡ Some a → Among axioms a
among_slot = among_place

-- ---- own links of words, whatever tests are declared
pub own_to_none : (declared : List (List ℕ)) (o : Option (List ℕ)) → is_own_link declared o None ≡ false
own_to_none declared o = search (rules)

-- a word leads to its head
pub own_head : (declared : List (List ℕ)) (o r : Option (List ℕ)) → is_head_by o r ≡ true → is_own_link declared o r ≡ true
own_head declared o r h = search (rules, both_ways, and_parts, has_word_from_among, same_word_decides, links_head)

-- what leads to no weaker test leads to its head alone
untested : (declared : List (List ℕ)) (w v : List ℕ) → (IsWeakerIn declared w v → ⊥) → has_word (links declared w) v ≡ is_head_by (Some w) (Some v)
untested declared w v none = same_tests (has_word (links declared w) v) (is_head_by (Some w) (Some v)) forth (own_head declared (Some w) (Some v))
  where
    forth : has_word (links declared w) v ≡ true → is_head_by (Some w) (Some v) ≡ true
    forth has = by (own_link declared w v (among_from_has_word (links declared w) v has))
      where
        by : OwnLink declared w v → is_head_by (Some w) (Some v) ≡ true
        by (Head valued is) = and_from (is_valued w) (same_word (head_bytes w) v) valued ((same_word_decides (head_bytes w) v).1 is)
        by (Weaker weaker) = absurd (none weaker)

-- a link to a word that is no test is that to a head
pub own_to : (declared : List (List ℕ)) (o : Option (List ℕ)) (v : List ℕ) → is_test v ≡ false → is_own_link declared o (Some v) ≡ is_head_by o (Some v)
own_to declared o v plain = search (rules, untested, both_ways, weaker_tests_are)

-- what is known without being declared is no test
pub undeclared_not_test : (word : List ℕ) → is_undeclared word ≡ true → is_test word ≡ false
undeclared_not_test word h = search (rules, or_cases, valued_not_test, head_not_test, and_parts)

-- a plain word is nobody's head
plain_no_head : (l r : List ℕ) → is_plain_word r ≡ true → head_bytes l ≡ r → ⊥
plain_no_head l r plain same = grind (arith, common_steps, and_parts, all_among, among_right, both_ways)

not_head : (o w : Option (List ℕ)) → ((r : List ℕ) → w ≡ Some r → is_plain_word r ≡ true) → is_head_by o w ≡ false
not_head o w plain = grind (arith, common_steps, false_from_ne_true, plain_no_head, same_word_decides, and_parts)

-- no own link of a word leads to a plain word
pub own_to_plain : (declared : List (List ℕ)) (o r : Option (List ℕ)) → ((v : List ℕ) → r ≡ Some v → is_plain_word v ≡ true) → is_own_link declared o r ≡ false
own_to_plain declared o r plain = grind (arith, common_steps, own_to_none, own_to, plain_not_test, not_head)

-- ---- a number that no axiom names
-- the slot of an axiom between two numbers
pub pair_slot : (axioms : List AxiomSlot) (x y : ℕ) → has_pair axioms x y ≡ true → (slot : ℕ) × (slice_get axioms slot ≡ Some (Pair x y))
pair_slot axioms x y has = search (rules, among_from_any, and_parts, slot_at, eqb-true)

-- it is no side of one
pub record IsNoSide (axioms : List AxiomSlot) (number : ℕ) : Type 0 where
  pub left : (slot left right : ℕ) → slice_get axioms slot ≡ Some (Pair left right) → left ≡ number → ⊥
  pub right : (slot left right : ℕ) → slice_get axioms slot ≡ Some (Pair left right) → right ≡ number → ⊥

pub no_pair_to : (axioms : List AxiomSlot) (number : ℕ) → IsNoSide axioms number → (x : ℕ) → has_pair axioms x number ≡ false
no_pair_to axioms number none x = false_from_ne_true (has_pair axioms x number) (λ has. let at = pair_slot axioms x number has in none.right at.0 x number at.1 refl)

pub no_pair_from : (axioms : List AxiomSlot) (number : ℕ) → IsNoSide axioms number → (y : ℕ) → has_pair axioms number y ≡ false
no_pair_from axioms number none y = false_from_ne_true (has_pair axioms number y) (λ has. let at = pair_slot axioms number y has in none.left at.0 number y at.1 refl)

-- ---- a number that has no word has no link
module _ (k : Metadata) (sound : AreSound k) (number : ℕ) (free : word_of k.dict number ≡ None) where
  pub no_some : (n : ℕ) → IsSome (word_of k.dict n) → n ≡ number → ⊥
  no_some n some same = both_ways (is_some (word_of k.dict n)) (ap (λ m. is_some (word_of k.dict m)) same ∙ ap is_some free) some

  pub no_side : IsNoSide k.axioms number
  no_side = record {
    left = λ slot left right is. no_some left (sound.axioms slot left right is).left;
    right = λ slot left right is. no_some right (sound.axioms slot left right is).right;
  }

  pub unnamed_to : (x : ℕ) → is_linked k x number ≡ false
  unnamed_to x = grind (arith, own_to_none (declared_of k) (word_of k.dict x), no_pair_to k.axioms number no_side x)

  pub unnamed_from : (y : ℕ) → is_linked k number y ≡ false
  unnamed_from y = grind (arith, no_pair_from k.axioms number no_side y)
