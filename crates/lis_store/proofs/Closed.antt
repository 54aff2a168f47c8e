-- What numbers entail, and the numbers of all that others entail.
use Rattle.std.proofs.Common.{rules}
use Rattle.lis_store.proofs.Common.{common_steps, ◌≡◌, refl, sym, ap, ◌∙◌, subst, ℕ, ◌+◌, ◌≤◌, true, false, List, [], ◌∷◌, length, Option, Some, None, is_some, IsSome, arith, ap₂, ◌<◌, ◌||◌, some_word, nat_cmp_total, nat_cmp, insert_key, list_all, IsStrictlySortedBy, same_Some, Among, members_le, sorted_nil, word_of, has, numbers_at, among_where, where_among, sorted_where, is_plain_word, up, all_up, up_self, entails_from_up, entailing, all_up_closed, sorted_all_up, insert_key_le, linked_up, Metadata, AreSound, declared_of, axioms_of, link_named, named_below, among_axiom, both_ways, and_parts, among_from_any, any_from_among, among_from_contains, has_number, up_trans, all_from, all_among, is_linked, TellsLinks, words_told, among_from_number, number_from_among, numbers_where, numbers_same, Taxonomy, link_cases, get_or, count_by, range_with_len, Contains-get_or}
use Rattle.std.proofs.lemmas.Map.Lookups.{exact_unsigned}
use Rattle.lis_graph.specs.Graph.{with_more}
use Rattle.lis_graph.proofs.Members.{with_more_new}
use Rattle.lis_graph.proofs.Sets.{sorted_with_more}
use Rattle.lis_laws.proofs.Leads.{right_leads}
use Rattle.lis_kept.proofs.Numbered.{numbers_are}
use Rattle.lis_store.specs.Closing.{AreGained, entails_by, is_entailed, is_gained, closure, wider}
use Rattle.lis_store.specs.Stored.{AreClosed}
use Rattle.lis_store.proofs.Entailment.{up_has_number, closed_up}
use Rattle.lis_store.proofs.Naming.{one_of, of_one}
use Rattle.std.specs.Prelude.{All}
use Rattle.lis_taxonomy.specs.Search.{is_found}
use Rattle.lis_taxonomy.specs.Taxonomy.{entails, any_entails}
use Rattle.lis_store.proofs.Entailed.{entails_told}
use Rattle.lis_store.proofs.Widened.{where_counted}

-- ---- what numbers entail
-- the words of the two numbers, of which the first entails the second
pub record IsLed (k : Metadata) (m n : ℕ) : Type 0 where
  pub from : List ℕ
  pub to : List ℕ
  pub is_from : word_of k.dict m ≡ Some from
  pub is_to : word_of k.dict n ≡ Some to
  pub entailed : Among (up (declared_of k) (axioms_of k) from) to

pub led : (k : Metadata) (m n : ℕ) → is_entailed k m n ≡ true → IsLed k m n
led k m n is = grind (arith, common_steps, both_ways, one_of)

pub led_from : (k : Metadata) (m n : ℕ) (p q : List ℕ) → word_of k.dict m ≡ Some p → word_of k.dict n ≡ Some q → Among (up (declared_of k) (axioms_of k) p) q → is_entailed k m n ≡ true
led_from k m n p q is_m is_n h = ap (λ o. entails_by k o (word_of k.dict n)) is_m ∙ of_one (up (declared_of k) (axioms_of k) p) (word_of k.dict n) q is_n h

pub led_itself : (k : Metadata) (n : ℕ) (w : List ℕ) → word_of k.dict n ≡ Some w → is_entailed k n n ≡ true
led_itself k n w is = led_from k n n w w is is (up_self (declared_of k) (axioms_of k) w)

module _ (k : Metadata) (sound : AreSound k) where
  pub led_on : (m a b : ℕ) → is_entailed k m a ≡ true → is_linked k a b ≡ true → is_entailed k m b ≡ true
  led_on m a b is linked =
      let l = led k m a is in
      let D = declared_of k in
      let A = axioms_of k in
      let link = link_named k sound a b l.to l.is_to linked in
      led_from k m b l.from link.0 l.is_from link.1 (up_trans D A l.from l.to link.0 l.entailed (linked_up D A l.to link.0 (link_cases D A l.to link.0 link.2)))

  pub led_had : AreClosed k → (slot m n : ℕ) → has k.ext m slot ≡ true → is_entailed k m n ≡ true → has k.ext n slot ≡ true
  led_had closed slot m n had is = let l = led k m n is in closed_up k sound closed slot m n l.from l.to l.is_from l.is_to had l.entailed

  -- what a plain word entails is plain
  pub led_plain : (m n : ℕ) (p w : List ℕ) → word_of k.dict m ≡ Some p → is_plain_word p ≡ true → word_of k.dict n ≡ Some w → is_entailed k m n ≡ true → is_plain_word w ≡ true
  led_plain m n p w is_m plain is_n entailed =
      let l = led k m n entailed in
      let rights : (e : List ℕ × List ℕ) → Among (axioms_of k) e → is_plain_word e.1 ≡ true = λ e among. let at = among_axiom k sound e among in (sound.axioms at.0 at.1 at.2 at.3).plain e.1 at.5 in
      let chain = entails_from_up (declared_of k) (axioms_of k) l.from l.to l.entailed in
      subst (λ u. is_plain_word u ≡ true) (same_Some l.to w (sym l.is_to ∙ is_n))
      (right_leads is_plain_word (λ u h. h) (axioms_of k) rights (declared_of k) chain.0 l.from l.to (subst (λ u. is_plain_word u ≡ true) (same_Some p l.from (sym is_m ∙ l.is_from)) plain) chain.1)

-- ---- numbers with all that they entail
pub from_closure : (k : Metadata) (numbers : List ℕ) (n : ℕ) → has_number (closure k numbers) n ≡ true → (m : ℕ) × Among numbers m × (is_entailed k m n ≡ true)
from_closure k numbers n h = search (rules, among_from_any, among_where, among_from_number)

pub closure_named : (k : Metadata) (numbers : List ℕ) (n : ℕ) → has_number (closure k numbers) n ≡ true → IsSome (word_of k.dict n)
closure_named k numbers n h = let from = from_closure k numbers n h in ap is_some (led k from.0 n from.2).is_to

pub closure_words : (k : Metadata) (numbers : List ℕ) → list_all (λ n. is_some (word_of k.dict n)) (closure k numbers) ≡ true
closure_words k numbers = all_from (λ n. is_some (word_of k.dict n)) (closure k numbers) (λ n m. closure_named k numbers n (number_from_among (closure k numbers) n m))

-- there are at most as many rising numbers among others as there are others
set_le : (xs ys : List ℕ) → length (with_more nat_cmp xs ys) ≤ length xs + length ys
set_le xs [] = omega arith
set_le xs (y ∷ ys) = omega (arith, insert_key_le nat_cmp xs y, set_le (insert_key nat_cmp xs y) ys)

pub few_within : (ns ys : List ℕ) → IsStrictlySortedBy nat_cmp ns → ((n : ℕ) → Among ns n → Among ys n) → length ns ≤ length ys
few_within ns ys sorted within =
    let set : List ℕ = with_more nat_cmp [] ys in
    let few = members_le nat_cmp nat_cmp_total ns set sorted (sorted_with_more nat_cmp nat_cmp_total [] ys (sorted_nil nat_cmp nat_cmp_total)) (λ n m. with_more_new nat_cmp exact_unsigned [] ys n (within n m)) in
    omega (arith, few, set_le [] ys)

module _ (k : Metadata) (sound : AreSound k) (numbers : List ℕ) where
  pub in_closure : (m n : ℕ) → Among numbers m → is_entailed k m n ≡ true → has_number (closure k numbers) n ≡ true
  in_closure m n among is = search (rules, number_from_among, where_among, named_below, led, any_from_among)

  -- they have themselves, and are closed
  pub closure_has : (n : ℕ) → IsSome (word_of k.dict n) → Among numbers n → has_number (closure k numbers) n ≡ true
  closure_has n some among = by (word_of k.dict n) refl some
    where
      by : (o : Option (List ℕ)) → word_of k.dict n ≡ o → is_some o ≡ true → has_number (closure k numbers) n ≡ true
      by None is h = absurd (both_ways false refl h)
      by (Some w) is h = in_closure n n among (led_itself k n w is)

  pub closure_closed : (a b : ℕ) → has_number (closure k numbers) a ≡ true → is_linked k a b ≡ true → has_number (closure k numbers) b ≡ true
  closure_closed a b had linked = let from = from_closure k numbers a had in in_closure from.0 b from.1 (led_on k sound from.0 a b from.2 linked)

  -- numbers of a closed description entail no more than it has
  pub closure_within : AreClosed k → (slot : ℕ) → ((n : ℕ) → Among numbers n → has k.ext n slot ≡ true) → (n : ℕ) → has_number (closure k numbers) n ≡ true → has k.ext n slot ≡ true
  closure_within closed slot within n h = let from = from_closure k numbers n h in led_had k sound closed slot from.0 n (within from.0 from.1) from.2

  pub closure_few : AreClosed k → (slot : ℕ) → ((n : ℕ) → Among numbers n → has k.ext n slot ≡ true) → length (closure k numbers) ≤ length (numbers_at k.ext slot)
  closure_few closed slot within =
      few_within (closure k numbers) (numbers_at k.ext slot) (sorted_where k.limits.props (is_gained k numbers))
      (λ n m. among_from_number (numbers_at k.ext slot) n (closure_within closed slot within n (number_from_among (closure k numbers) n m)))

  -- They represent all that words entail, if each of these words has one of the numbers, and the words of the numbers come from them.
  pub closure_told : (own : List (List ℕ)) → ((w : List ℕ) → Among own w → (n : ℕ) × (word_of k.dict n ≡ Some w) × Among numbers n)
      → ((n : ℕ) (w : List ℕ) → word_of k.dict n ≡ Some w → Among numbers n → Among (all_up (declared_of k) (axioms_of k) own) w)
      → words_told k.dict (closure k numbers) ≡ all_up (declared_of k) (axioms_of k) own
  closure_told own numbered worded =
      let D = declared_of k in
      let A = axioms_of k in
      numbers_are k sound (closure k numbers) (all_up D A own) (sorted_all_up D A own) (record {
        numbered = λ w m.
            let from = entailing D A own w m in
            let at = numbered from.0 from.1 in
            let n = up_has_number k sound at.0 from.0 w at.1 from.2 in
            (n.0, n.1, in_closure at.0 n.0 at.2 (led_from k at.0 n.0 from.0 w at.1 n.1 from.2));
        worded = λ n w is h.
            let from = from_closure k numbers n h in
            let l = led k from.0 n from.2 in
            all_up_closed D A own l.from w (worded from.0 l.from l.is_from from.1) (subst (λ v. Among (up D A l.from) v) (same_Some l.to w (sym l.is_to ∙ is)) l.entailed);
      })

-- ---- by a taxonomy
-- a taxonomy shows what numbers entail
pub number_led : (k : Metadata) → AreSound k → (t : Taxonomy) → TellsLinks k t → (m n : ℕ) → is_some (word_of k.dict m) ≡ true → entails t m n ≡ is_entailed k m n
number_led k sound t tells m n some =
    let w = some_word (word_of k.dict m) some in
    entails_told k sound t tells m w.0 w.1 n ∙ sym (ap (λ o. entails_by k o (word_of k.dict n)) w.1)

module _ (k : Metadata) (sound : AreSound k) (t : Taxonomy) (tells : TellsLinks k t) where
  -- numbers of words are numbers of the taxonomy
  pub all_within : (numbers : List ℕ) → list_all (λ n. is_some (word_of k.dict n)) numbers ≡ true → All (λ p. p < t.props) numbers
  all_within numbers named = λ i d lt.
      let named_here = all_among (λ n. is_some (word_of k.dict n)) numbers (get_or numbers i d) named (among_from_contains numbers (get_or numbers i d) (Contains-get_or numbers i d lt)) in
      omega (arith, named_below k sound (get_or numbers i d) named_here, tells.props)

  any_led : (numbers : List ℕ) → list_all (λ n. is_some (word_of k.dict n)) numbers ≡ true → (n : ℕ) → any_entails t numbers n ≡ is_gained k numbers n
  any_led [] named n = refl
  any_led (m ∷ ms) named n =
      let both = and_parts (is_some (word_of k.dict m)) (list_all (λ i. is_some (word_of k.dict i)) ms) named in
      ap₂ (λ a b. a || b) (number_led k sound t tells m n both.0) (any_led ms both.1 n)

  -- what a search finds from the numbers
  pub gained_found : (numbers found : List ℕ) → list_all (λ n. is_some (word_of k.dict n)) numbers ≡ true
      → ((n : ℕ) → is_found found n ≡ any_entails t numbers n) → ((n : ℕ) → is_found found n ≡ true → n < t.props)
      → length found ≡ count_by (any_entails t numbers) (range_with_len 0 t.props) → AreGained k numbers found
  gained_found numbers found named are below count = record {
    gained = λ n lt. are n ∙ any_led numbers named n;
    below = λ n is. omega (arith, below n is, tells.props);
    count = count
        ∙ (where_counted t.props (any_entails t numbers)
        ∙ (ap (λ props. length (numbers_where props (any_entails t numbers))) tells.props
        ∙ ap length (numbers_same k.limits.props (any_entails t numbers) (is_gained k numbers) (λ n lt. any_led numbers named n))));
  }

-- ---- by what was found
module _ (k : Metadata) (numbers found : List ℕ) (are : AreGained k numbers found) where
  pub found_closure : numbers_where k.limits.props (is_found found) ≡ closure k numbers
  found_closure = numbers_same k.limits.props (is_found found) (is_gained k numbers) are.gained

  pub found_wider : AreSound k → (slot : ℕ) → wider k (is_found found) slot ≡ wider k (is_gained k numbers) slot
  found_wider sound slot =
      numbers_same k.ext.props (λ n. has k.ext n slot || is_found found n) (λ n. has k.ext n slot || is_gained k numbers n)
      (λ n lt. ap (λ b. has k.ext n slot || b) (are.gained n (omega (arith, lt, sound.rows))))
