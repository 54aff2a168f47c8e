-- A word that may be declared, and what declaring it gives.
use Rattle.std.proofs.Common.{eq-eqb}
use Rattle.lis_store.proofs.Common.{◌≡◌, ◌⊎◌, refl, sym, ap, ap₂, ◌∙◌, subst, inl, inr, ℕ, ◌+◌, ◌≤◌, ◌==◌, nat_lt, not, ◌&&◌, ◌||◌, true, false, if◌then◌else◌, List, [], ◌∷◌, ◌++◌, length, count_by, set, slice_get, Option, Some, None, option_to_list, is_some, IsSome, arith, get_or-set_same, get_or-set_other, Result, list_all, flat_map, unwrap_or, and_parts, or_cases, cases_eq, ne_eqb, not-true, not-false, ltb-false, Among, is_taken, Dict, number_of, word_of, word_from_number, number_from_word, rec_at, has, Formula, FileRecord, AxiomSlot, Pair, is_prop, word_cmp, has_word, is_head, is_plain_word, is_valued, is_built_in, test_of, Refusal, Limits, place_words, with_word, State, declared_under, exceeds_known, exceeds_words, words_at, under, word_exact, word_order, sorted_set_of, among_from_has_word, known_from, Metadata, property_by, is_pair, has_pair, is_filled, AreSound, KeepsInUse, bit_of, is_declared, declared_of, axioms_of, state_of, Tells, some_word, word_among, among_word, among_slot, axioms_counted, IsStrictlySortedBy, sorted_nil, option_map, and_from, both_ways, any_from_among, has_number, are_distinct, set_of, known, all_among, all_from, Left, words_told, among_from_number, number_from_among, one_number, fun_ext, common_steps, declarable_not_valued}
use Rattle.lis_dict.proofs.Laws.{word_of-with_entry}
use Rattle.lis_fields.specs.declared.slots.PropSlot.{PropSlot}
use Rattle.lis_fields.specs.declared.slots.PropSlot.TheVariants.{Known}
use Rattle.lis_words.specs.Words.{is_property}
use Rattle.lis_model.specs.declared.refusal.Refusal.TheVariants.{NoAxiomRoom, NoPropertyRoom, LargeDescription}
use Rattle.lis_model.specs.Places.{all_conjuncts}
use Rattle.lis_model.specs.State.{is_declarable}
use Rattle.lis_model.specs.Step.{exceeds_axioms, is_plain_place, mkdir_checks, first_refusal}
use Rattle.lis_laws.proofs.Apart.{declarable_from, declarable_not_built_in}
use Rattle.lis_laws.proofs.Growth.{known_declares}
use Rattle.lis_kept.specs.Metadata.{property_at}
use Rattle.lis_kept.specs.Changes.{Declares, Marks}
use Rattle.lis_kept.specs.Under.{is_plain_by, DeclaresUnder}
use Rattle.lis_kept.proofs.OwnLinks.{pair_slot}
use Rattle.lis_kept.proofs.AxiomsChanged.{sorted_axioms}
use Rattle.lis_kept.proofs.StandsUnder.{AreWordsOf, declared_then_linked, declared_then_marked, each_metadata, under_used, each_pairs, under_apart}
use Rattle.lis_store.specs.Stored.{PairsAreApart, Stored, IsSound}
use Rattle.lis_store.specs.Judging.{word_checks, place_checks, room_checks}
use Rattle.lis_store.specs.Placing.{AreNumbersOf}
use Rattle.lis_store.specs.Testing.{MayDeclare}
use Rattle.lis_store.proofs.Crowded.{crowded_told, unknown, crowded_alike}
use Rattle.lis_store.specs.Changes.{Judges}
use Rattle.lis_store.proofs.StoreSays.{limits_told, known_counted}
use Rattle.lis_store.proofs.Judged.{all_pass, judges_then, Alike, same_first}
use Rattle.lis_store.proofs.Told.{words_same, length-with_word}
use Rattle.lis_store.proofs.Points.{AllApart}
use Rattle.lis_store.proofs.Measured.{sorted_apart, told_counted}
use Rattle.lis_store.proofs.Under.{under_set, length-under}
use Rattle.lis_store.specs.Adding.{numbers_named}
use Rattle.lis_store.proofs.ToldBy.{ToldBy}
use Rattle.lis_store.proofs.Naming.{one_of, of_one, named_one, named_has, named_told}
use Rattle.lis_store.proofs.Assigned.{has_declared}

-- the pair in a slot is among the pairs
pub slot_pair : (axioms : List AxiomSlot) (slot left right : ℕ) → slice_get axioms slot ≡ Some (Pair left right) → has_pair axioms left right ≡ true
slot_pair axioms slot left right is =
    any_from_among (is_pair left right) axioms (Pair left right) (among_slot axioms slot (Pair left right) is)
    (and_from (left == left) (right == right) (eq-eqb left left refl) (eq-eqb right right refl))

-- ---- a word that may be declared, and is not, has no number
pub new_word : (k : Metadata) (word : List ℕ) → AreSound k → is_declarable word ≡ true → is_declared k word ≡ false → number_of k.dict word ≡ None
new_word k word sound form undeclared = by (number_of k.dict word) refl
  where
    none_fits : (is_valued word || (is_head word && is_built_in word)) ≡ true → ⊥
    none_fits either = on (or_cases (is_valued word) (is_head word && is_built_in word) either)
      where
        on : (is_valued word ≡ true) ⊎ ((is_head word && is_built_in word) ≡ true) → ⊥
        on (inl valued) = both_ways (is_valued word) (declarable_not_valued word form) valued
        on (inr both) = both_ways (is_built_in word) (declarable_not_built_in word form) (and_parts (is_head word) (is_built_in word) both).1

    by : (o : Option ℕ) → number_of k.dict word ≡ o → o ≡ None
    by None is = refl
    by (Some n) is =
        let bit : is_taken k.declared n ≡ false = ap (bit_of k.declared) (sym is) ∙ undeclared in
        let slot : property_at k.dict k.declared n ≡ Known word = ap₂ property_by (word_from_number k.dict sound.dict word n is) bit in
        absurd (none_fits (subst (λ (p : PropSlot). is_prop p ≡ true) slot (sound.properties n)))

-- ---- the words of a place
pub plain_at : (place : List Formula) → is_plain_place (place_words place) ≡ true → list_all is_plain_word (words_at place) ≡ true
plain_at place = grind (arith, common_steps)

pub sorted_at : (place : List Formula) → IsStrictlySortedBy word_cmp (words_at place)
sorted_at place = by (all_conjuncts place)
  where
    by : (o : Option (List (List ℕ))) → IsStrictlySortedBy word_cmp (unwrap_or (option_map set_of o) [])
    by None = sorted_nil word_cmp word_order
    by (Some found) = sorted_set_of found

pub apart_at : (place : List Formula) → AllApart (words_at place)
apart_at place = sorted_apart word_cmp word_order (words_at place) (sorted_at place)

-- ---- what a state says of the word
pub declared_told : (k : Metadata) (at : ℕ → List ℕ) (s : State) → Tells k at s → (word : List ℕ) → has_word s.declared word ≡ is_declared k word
declared_told k at s tells word = ap (λ (x : State). has_word x.declared word) (sym tells.state) ∙ has_declared k word

-- no two of these numbers are the same
pub apart_numbers : (ns : List ℕ) → are_distinct ns ≡ true → AllApart ns
apart_numbers [] h = tt
apart_numbers (n ∷ ns) h =
    let both = and_parts (not (has_number ns n)) (are_distinct ns) h in
    ((λ m. both_ways (has_number ns n) (not-true (has_number ns n) both.0) (number_from_among ns n m)), apart_numbers ns both.1)

-- ---- the numbers of the words under which it is declared
module _ {p : Metadata} {words : List (List ℕ)} {rights : List ℕ} (sound : AreSound p) (numbers : AreNumbersOf p words rights) where
  pub right_some : (n : ℕ) → Among rights n → IsSome (word_of p.dict n)
  right_some n m = all_among (λ i. is_some (word_of p.dict i)) rights n numbers.named m

  pub right_word : (n : ℕ) → has_number rights n ≡ true → (w : List ℕ) × (word_of p.dict n ≡ Some w) × Among words w
  right_word n has_it =
      let found = some_word (word_of p.dict n) (right_some n (among_from_number rights n has_it)) in
      (found.0, found.1, subst (λ ws. Among ws found.0) numbers.told (word_among p sound rights n found.0 found.1 has_it))

  right_declared : (n : ℕ) → has_number rights n ≡ true → is_taken p.declared n ≡ true
  right_declared n has_it =
      let found = right_word n has_it in
      ap (bit_of p.declared) (sym (number_from_word p.dict sound.dict found.0 n found.1)) ∙ all_among (is_declared p) words found.0 numbers.declared found.2

  pub rights_counted : length rights ≡ length words
  rights_counted = sym (told_counted p sound rights (apart_numbers rights numbers.apart) right_some) ∙ ap length numbers.told

  -- the checks on the numbers are those on the words
  room_same : (word : List ℕ) → room_checks p word (length rights) rights ≡ room_checks p word (length words) (numbers_named p.dict words)
  room_same word =
      ap₂ (λ n large. (nat_lt p.limits.props (count_by is_filled p.axioms + n), NoAxiomRoom) ∷ (nat_lt p.limits.props (length p.dict.entries + 1), NoPropertyRoom) ∷ (large, LargeDescription) ∷ [])
      rights_counted (crowded_alike p (test_of word) rights (numbers_named p.dict words) to from)
    where
      to : (n : ℕ) → Among rights n → Among (numbers_named p.dict words) n
      to n m =
          let found = right_word n (number_from_among rights n m) in
          among_from_number (numbers_named p.dict words) n (named_has p.dict sound.dict words n ∙ of_one words (word_of p.dict n) found.0 found.1 found.2)

      from : (n : ℕ) → Among (numbers_named p.dict words) n → Among rights n
      from n m =
          let found = one_of words (word_of p.dict n) (named_one p.dict sound.dict words n m) in
          let right = among_word p sound rights found.0 (subst (λ ws. Among ws found.0) (sym numbers.told) found.2) in
          subst (λ i. Among rights i) (one_number p sound right.0 n found.0 right.1 found.1) (among_from_number rights right.0 right.2)

-- ---- what follows if a row refuses nothing
pub may_be_declared : (k : Metadata) (place : List Formula) (word : List ℕ) (numbers : List ℕ) → AreSound k → is_declarable word ≡ true → AreNumbersOf k (words_at place) numbers → length numbers ≤ 64
    → first_refusal (place_checks k place word) ≡ None → first_refusal (room_checks k word (length numbers) numbers) ≡ None → MayDeclare k word numbers
may_be_declared k place word numbers sound form are few placed room =
    let at = all_pass (place_checks k place word) placed in
    let left = all_pass (room_checks k word (length numbers) numbers) room in
    let plain = plain_at place (not-false (is_plain_place (place_words place)) at.1.1.1.0) in
    record {
      form = form;
      new = new_word k word sound form at.1.1.0;
      room = omega (arith, ltb-false k.limits.props (length k.dict.entries + 1) left.1.0);
      under = record {
        plain = all_from (λ n. is_plain_by (word_of k.dict n)) numbers (λ n m.
            let found = right_word sound are n (number_from_among numbers n m) in
            ap is_plain_by found.1 ∙ all_among is_plain_word (words_at place) found.0 plain found.2);
        apart = are.apart;
        room = omega (arith, ltb-false k.limits.props (count_by is_filled k.axioms + length numbers) left.0);
      };
      are = subst (λ ws. AreNumbersOf k ws numbers) (sym are.told) are;
      few = left.1.1.0;
      short = few;
    }

-- and what follows if a row refuses the room
pub row_told : (k : Metadata) (place : List Formula) (word : List ℕ) (numbers : List ℕ) → AreSound k → AreNumbersOf k (words_at place) numbers → first_refusal (place_checks k place word) ≡ None
    → {T : Type 0} (result : Result T Refusal) → Judges (room_checks k word (length numbers) numbers) result → Judges (word_checks k place word) result
row_told k place word numbers sound are placed result judges =
    judges_then (place_checks k place word) (room_checks k word (length (words_at place)) (numbers_named k.dict (words_at place))) result placed (subst (λ checks. Judges checks result) (room_same sound are word) judges)

-- ---- the row of `mkdir`, by what memory keeps
module _ {old : Stored} (sound : IsSound old) {s : State} (fits : ToldBy old s) (place : List Formula) (word : List ℕ) (kept : is_property word ≡ true) where
  abbrev k : Metadata
  k = old.metadata

  abbrev named_here : List (List ℕ)
  named_here = words_at place

  abbrev t : State
  t = declared_under s word named_here

  abbrev tells : Tells k fits.kept s
  tells = fits.tells

  most : s.limits.props ≡ k.limits.props
  most = ap (λ (l : Limits). l.props) (sym (limits_told k fits.kept s sound.metadata sound.free tells))

  module _ (own : is_built_in word ≡ false) (valued : is_valued word ≡ false) (there : is_declared k word ≡ false) (plain : is_plain_place (place_words place) ≡ true)
      (over : list_all (is_declared k) named_here ≡ true) where
    form : is_declarable word ≡ true
    form = declarable_from word kept valued own

    new : number_of k.dict word ≡ None
    new = new_word k word sound.metadata form there

    told : words_told k.dict (numbers_named k.dict named_here) ≡ named_here
    told = named_told k.dict sound.metadata.dict named_here (sorted_at place) (λ w has.
        by w (number_of k.dict w) refl (all_among (is_declared k) named_here w over (among_from_has_word named_here w has)))
      where
        by : (w : List ℕ) (o : Option ℕ) → number_of k.dict w ≡ o → is_declared k w ≡ true → IsSome (number_of k.dict w)
        by w None none declared = absurd (both_ways (is_declared k w) (ap (bit_of k.declared) none) declared)
        by w (Some n) is declared = ap is_some is

    unlisted : Among (known s) word → ⊥
    unlisted = unknown sound fits named_here (numbers_named k.dict named_here) told word valued new

    over_told : list_all (λ q. is_plain_word q && has_word s.declared q) named_here ≡ true
    over_told = all_from (λ q. is_plain_word q && has_word s.declared q) named_here (λ q m.
        and_from (is_plain_word q) (has_word s.declared q) (all_among is_plain_word named_here q (plain_at place plain) m) (declared_told k fits.kept s tells q ∙ all_among (is_declared k) named_here q over m))

    axioms_more : length t.axioms ≡ count_by is_filled k.axioms + length named_here
    axioms_more =
        let counted = length-under word s.axioms named_here (apart_at place) (λ q m old_axiom. unlisted (known_from s word (Left (word, q) old_axiom refl))) in
        omega (arith, counted, ap (λ (x : State). length x.axioms) (sym tells.state), axioms_counted k sound.metadata sound.pairs)

    known_more : length (known t) ≡ length k.dict.entries + 1
    known_more =
        let more = ap (λ (ws : List (List ℕ)). length ws) (known_declares s tells.formed word named_here (record { form = form; over = over_told })) in
        let one = length-with_word (known s) word (λ w m tie. unlisted (subst (λ v. Among (known s) v) (sym (word_exact word w tie)) m)) in
        omega (arith, more, one, known_counted k fits.kept s sound.metadata sound.free tells)

    room_alike : Alike ((exceeds_axioms t, NoAxiomRoom) ∷ (exceeds_known t, NoPropertyRoom) ∷ (exceeds_words t, LargeDescription) ∷ []) (room_checks k word (length named_here) (numbers_named k.dict named_here))
    room_alike =
        let crowded = crowded_told sound fits named_here (numbers_named k.dict named_here) told word valued new in
        (refl, ap₂ nat_lt most axioms_more, λ _. (refl, ap₂ nat_lt most known_more, λ _. (refl, crowded, λ _. tt)))

  all_told : list_all (has_word s.declared) named_here ≡ list_all (is_declared k) named_here
  all_told = ap (λ test. list_all test named_here) (fun_ext (declared_told k fits.kept s tells))

  -- the checks on the new state are checks on a new word alone, under plain declared words
  pub mkdir_alike : first_refusal (mkdir_checks (record { state = s; place = place }) word t) ≡ first_refusal (word_checks k place word)
  mkdir_alike =
      let told = declared_told k fits.kept s tells word in
      let room = λ (own : is_built_in word ≡ false) (valued : is_valued word ≡ false) (there : has_word s.declared word ≡ false) (plain : not (is_plain_place (place_words place)) ≡ false)
      (over : not (list_all (has_word s.declared) named_here) ≡ false). room_alike own valued (sym told ∙ there) (not-false _ plain) (sym all_told ∙ not-false _ over) in
      same_first (mkdir_checks (record { state = s; place = place }) word t) (word_checks k place word)
      (refl, refl, λ own. (refl, refl, λ valued. (refl, told, λ there. (refl, refl, λ plain. (refl, ap not all_told, λ over. room own valued there plain over)))))

words_each : (d : Dict) (ns : List ℕ) → ((n : ℕ) → Among ns n → IsSome (word_of d n)) → AreWordsOf d ns (flat_map (λ n. option_to_list (word_of d n)) ns)
words_each d [] some = refl
words_each d (n ∷ ns) some =
    let found = some_word (word_of d n) (some n (inl refl)) in
    let rest = flat_map (λ i. option_to_list (word_of d i)) ns in
    (found.0, rest, found.1, ap (λ o. option_to_list o ++ rest) found.1, words_each d ns (λ i m. some i (inr m)))

-- ---- a word that is declared under others
module _ {p q : Metadata} {word : List ℕ} {rights : List ℕ} (sound : AreSound p) (may : MayDeclare p word rights) (stands : DeclaresUnder word rights p q) where
  abbrev mid : Metadata
  mid = stands.mid

  abbrev declares : Declares word p mid
  declares = stands.declares

  abbrev number : ℕ
  number = declares.number

  abbrev words : List (List ℕ)
  words = words_told p.dict rights

  mid_is : q ≡ record mid { axioms = q.axioms; marks = q.marks }
  mid_is = each_metadata number rights mid q stands.links

  pub metadata_are : q ≡ record p { dict = mid.dict; declared = mid.declared; axioms = q.axioms; marks = q.marks }
  metadata_are = mid_is ∙ ap (λ (k : Metadata). record k { dict = mid.dict; declared = mid.declared; axioms = q.axioms; marks = q.marks }) declares.metadata

  -- ---- words
  word_mid : (n : ℕ) → word_of mid.dict n ≡ (if number == n then Some word else word_of p.dict n)
  word_mid n = ap (λ (k : Metadata). word_of k.dict n) declares.metadata ∙ word_of-with_entry p.dict word number may.new declares.free n

  pub word_new : word_of q.dict number ≡ Some word
  word_new = ap (λ (k : Metadata). word_of k.dict number) mid_is ∙ (word_mid number ∙ ap (λ b. if b then Some word else word_of p.dict number) (eq-eqb number number refl))

  pub word_other : (n : ℕ) → (n ≡ number → ⊥) → word_of q.dict n ≡ word_of p.dict n
  word_other n differ =
      ap (λ (k : Metadata). word_of k.dict n) mid_is ∙ (word_mid n ∙ ap (λ b. if b then Some word else word_of p.dict n) (ne_eqb number n (λ same. differ (sym same))))

  pub named_other : (n : ℕ) → IsSome (word_of p.dict n) → n ≡ number → ⊥
  named_other n some same = both_ways (is_some (word_of p.dict n)) (ap (λ i. is_some (word_of p.dict i)) same ∙ ap is_some declares.free) some

  pub word_kept : (n : ℕ) → IsSome (word_of p.dict n) → word_of q.dict n ≡ word_of p.dict n
  word_kept n some = word_other n (named_other n some)

  pub unnumbered : (n : ℕ) → word_of p.dict n ≡ Some word → ⊥
  unnumbered n is = both_ways (is_some (number_of p.dict word)) (ap is_some may.new) (ap is_some (number_from_word p.dict sound.dict word n is))

  pub number_then : AreSound q → number_of q.dict word ≡ Some number
  number_then after = number_from_word q.dict after.dict word number word_new

  flagged_then : (n : ℕ) → is_taken p.declared n ≡ true → is_taken q.declared n ≡ true
  flagged_then n bit = ap (λ (k : Metadata). is_taken k.declared n) mid_is ∙ (ap (λ (k : Metadata). is_taken k.declared n) declares.metadata ∙ by (cases_eq n number))
    where
      by : (n ≡ number) ⊎ (n ≡ number → ⊥) → is_taken (set p.declared number true) n ≡ true
      by (inl same) = ap (is_taken (set p.declared number true)) same ∙ get_or-set_same p.declared number true false (omega (arith, declares.below, sound.bits))
      by (inr differ) = get_or-set_other p.declared number n true false differ ∙ bit

  -- axioms lead to declared words
  right_then : KeepsInUse p → (slot left right : ℕ) → slice_get q.axioms slot ≡ Some (Pair left right) → is_taken q.declared right ≡ true
  right_then keeps slot left right is = flagged_then right (by (or_cases ((number == left) && has_number rights right) (has_pair mid.axioms left right) (sym (each_pairs number rights mid q stands.links left right) ∙ slot_pair q.axioms slot left right is)))
    where
      by : (((number == left) && has_number rights right) ≡ true) ⊎ (has_pair mid.axioms left right ≡ true) → is_taken p.declared right ≡ true
      by (inl both) = right_declared sound may.are right (and_parts (number == left) (has_number rights right) both).1
      by (inr pair) = let at = pair_slot p.axioms left right (subst (λ (k : Metadata). has_pair k.axioms left right ≡ true) declares.metadata pair) in keeps.rights at.0 left right at.1

  pub in_use_then : KeepsInUse p → KeepsInUse q
  in_use_then keeps = record {
    used = under_used word p mid q declares rights stands.links keeps.used;
    tags = subst (λ (k : Metadata). (slot : ℕ) (rec : FileRecord) → rec_at k.catalog slot ≡ Some rec → (n : ℕ) → has_number rec.tags n ≡ true → has k.ext n slot ≡ true) (sym metadata_are) keeps.tags;
    rights = right_then keeps;
  }

  pub apart_then : PairsAreApart p → PairsAreApart q
  apart_then pairs = under_apart p mid q sound word declares rights may.are.apart stands.links pairs

  pub marked_then : Marks (1 + length rights) p q
  marked_then = declared_then_marked word p mid q declares rights stands.links

  -- the state that it represents
  pub told_then : (at : ℕ → List ℕ) → state_of q at ≡ declared_under (state_of p at) word words
  told_then at =
      let same : (n : ℕ) → Among rights n → word_of mid.dict n ≡ word_of p.dict n = λ n m.
      let some = right_some sound may.are n m in word_mid n ∙ ap (λ b. if b then Some word else word_of p.dict n) (ne_eqb number n (λ is. named_other n some (sym is))) in
      let ws = flat_map (λ n. option_to_list (word_of mid.dict n)) rights in
      let named : word_of mid.dict number ≡ Some word = word_mid number ∙ ap (λ b. if b then Some word else word_of p.dict number) (eq-eqb number number refl) in
      declared_then_linked word p mid q declares rights ws stands.links named (words_each mid.dict rights (λ n m. ap is_some (same n m) ∙ right_some sound may.are n m)) at
      ∙ ap (λ (axioms : List (List ℕ × List ℕ)). record (state_of p at) { declared = with_word (declared_of p) word; axioms = axioms })
      (under_set word (axioms_of p) (sorted_axioms p) ws ∙ ap (under word (axioms_of p)) (words_same p.dict mid.dict rights same))
