-- What an axiom is refused for: the row of `axiom`, by what a store keeps, is the row of the state. Also what holds if it refuses nothing.
use Rattle.std.proofs.Common.{rules}
use Rattle.std.proofs.Common.{◌↔◌}
use Rattle.lis_store.proofs.Common.{◌≡◌, ◌⊎◌, refl, sym, ap, ap₂, ◌∙◌, subst, inl, inr, ℕ, ◌+◌, Bool, true, false, cond, is_some, Some, None, List, [], ◌∷◌, ◌++◌, length, arith, ◌<◌, ◌&&◌, ◌||◌, nat_lt, nat_le, Option, IsSome, option_to_list, not, declared_has_number, IsStrictlySortedBy, length-map, none-some, Among, among_insert_key, insert_key_old, sorted_from_rising, sorted_insert_key, number_of, number_from_word, word_from_number, Taxonomy, leads, entails_decides, word_cmp, has_word, is_valued, head_bytes, with_word, with_words, up, head_not_valued, word_exact, word_order, among_from_has_word, Metadata, AreSound, declared_of, axioms_of, fun_ext, and_parts, cases_lt, leb-true, ltb-true, get_or_past, contains_from_among, Filed, rec_at, word_of, has, numbers_at, State, File, all_up, own_words, description, axiom_added, exceeds_words, entailing, sorted_all_up, all_up_closed, among_with_words, with_words_new, sorted_with_words, FreeSlotsAreEmpty, is_declared, Tells, among_word, number_told, not-false, ltb-false, same_word, is_plain_word, Limits, Refusal, pair_cmp, same_pair, has_axiom, Situation, refused, exceeds_known, add_axiom, pair_exact, same_word_decides, is_filled, axioms_counted, both_ways, false_from_ne_true, and_from, words, has_word_from_among, same_words, with_words_old, same_tests, set_of, entailed_in, all_up_has, all_among, words_told, file_told, any_from_among, changed, declared_there}
use Rattle.lis_taxonomy.specs.Taxonomy.{Entails as Leads}
use Rattle.lis_laws.specs.Changes.{AxiomFits}
use Rattle.lis_laws.proofs.Steps.{axiom_fits}
use Rattle.lis_store.proofs.PutIn.{declared_known}
use Rattle.lis_store.specs.Adding.{behind_head}
use Rattle.lis_store.specs.Relating.{entails_word, is_number_of, is_overfull, has_overfull, axiom_checks_of, MayRelate}
use Rattle.lis_store.proofs.Entailment.{up_has_number}
use Rattle.lis_store.proofs.StoreSays.{numbered, file_of_filed, limits_told}
use Rattle.lis_store.proofs.Found.{headless}
use Rattle.lis_store.proofs.Gathered.{headed}
use Rattle.lis_store.proofs.Told.{length-with_word}
use Rattle.lis_laws.proofs.Closures.{with_one_axiom}
use Rattle.lis_kept.proofs.AxiomTaken.{one_unfelt}
use Rattle.lis_store.specs.Closing.{entails_by, is_gained, is_gained_by, wider}
use Rattle.lis_store.proofs.Crowded.{wider_counted, full_nowhere, full_told, full_at}
use Rattle.lis_store.proofs.Rebuilt.{had_filed}
use Rattle.lis_store.specs.Stored.{AreClosed, Stored, IsSound}
use Rattle.std.specs.Prelude.{count_by}
use Rattle.lis_model.specs.State.{is_nameable}
use Rattle.lis_model.specs.Step.{exceeds_axioms, axiom_checks, first_refusal}
use Rattle.lis_store.proofs.Assigned.{has_declared}
use Rattle.lis_store.proofs.Judged.{same_first, all_pass, judged_refused, judged_done}
use Rattle.lis_store.proofs.Relates.{known_then}
use Rattle.lis_store.proofs.Points.{length-with_more}

-- ---- what the judging computes of numbers
-- a test that decides what a number leads to is that of the taxonomy
pub decided : (t : Taxonomy) (p q : ℕ) (b : Bool) → ((b ≡ true) ↔ Leads t p q) → b ≡ leads t p q
decided t p q b both = same_tests b (leads t p q) (λ h. (entails_decides t p q).1 (both.0 h)) (λ h. both.1 ((entails_decides t p q).0 h))

-- ---- what a word entails
module _ (k : Metadata) (sound : AreSound k) where
  -- what a word with a number entails has one
  pub entails_unnumbered : (word other : List ℕ) (n : ℕ) → number_of k.dict word ≡ Some n → number_of k.dict other ≡ None → entails_word k word other ≡ false
  entails_unnumbered word other n is none = false_from_ne_true (entails_word k word other) (λ has_it.
      let found = up_has_number k sound n word other (word_from_number k.dict sound.dict word n is) (among_from_has_word (up (declared_of k) (axioms_of k) word) other has_it) in
      none-some found.0 (sym none ∙ number_from_word k.dict sound.dict other found.0 found.1))

-- ---- words that have no number yet
word_counted : (ws : List (List ℕ)) → IsStrictlySortedBy word_cmp ws → (w : List ℕ) → length (with_word ws w) ≡ length ws + cond (has_word ws w) 0 1
word_counted ws sorted w = by (has_word ws w) refl
  where
    old : (v : List ℕ) → Among ws w → (w ≡ v) ⊎ Among ws v → Among ws v
    old v m (inl same) = subst (λ u. Among ws u) same m
    old v m (inr there) = there

    by : (b : Bool) → has_word ws w ≡ b → length (with_word ws w) ≡ length ws + cond b 0 1
    by true there =
        let m = among_from_has_word ws w there in
        let same = same_words (with_word ws w) ws (sorted_insert_key word_cmp word_order ws w sorted) sorted (λ v of. old v m (among_insert_key word_cmp ws w v of)) (insert_key_old word_cmp ws w) in
        omega (arith, ap (λ (us : List (List ℕ)). length us) same)
    by false none =
        length-with_word ws w (λ v m tie. both_ways (has_word ws w) none (has_word_from_among ws w (subst (λ u. Among ws u) (sym (word_exact w v tie)) m)))

module _ (k : Metadata) (sound : AreSound k) (word : List ℕ) where
  abbrev known : List (List ℕ)
  known = words k.dict

  abbrev lacked : List ℕ → ℕ
  lacked w = cond (is_some (number_of k.dict w)) 0 1

  sorted : IsStrictlySortedBy word_cmp known
  sorted = sorted_from_rising word_cmp word_order known sound.dict.rising

  known_more : (w : List ℕ) → length (with_word known w) ≡ length k.dict.entries + lacked w
  known_more w = search (rules, word_counted, sorted, length-map, numbered)

  pub lacks_one : (is_valued word ≡ true → ⊥) → length (with_words known (behind_head word)) ≡ length k.dict.entries + lacked word
  lacks_one unheaded = ap (λ (hs : List (List ℕ)). length (with_words known (hs ++ word ∷ []))) (headless word unheaded) ∙ known_more word

  pub lacks_two : is_valued word ≡ true → length (with_words known (behind_head word)) ≡ length k.dict.entries + (lacked (head_bytes word) + lacked word)
  lacks_two valued =
      let head = head_bytes word in
      let one = known_more head in
      let two = word_counted (with_word known head) (sorted_insert_key word_cmp word_order known head sorted) word in
      let still : has_word (with_word known head) word ≡ is_some (number_of k.dict word) =
      same_tests (has_word (with_word known head) word) (has_word known word)
      (λ h. has_word_from_among known word (old (among_insert_key word_cmp known head word (among_from_has_word (with_word known head) word h))))
      (λ h. has_word_from_among (with_word known head) word (insert_key_old word_cmp known head word (among_from_has_word known word h)))
      ∙ numbered k.dict word in
      ap (λ (hs : List (List ℕ)). length (with_words known (hs ++ word ∷ []))) (headed word valued)
      ∙ (two ∙ (ap₂ (λ n b. n + cond b 0 1) one still ∙ omega arith))
    where
      old : (head_bytes word ≡ word) ⊎ Among known word → Among known word
      old (inl same) = absurd (both_ways (is_valued word) (subst (λ w. is_valued w ≡ false) same (head_not_valued word)) valued)
      old (inr there) = there

-- ---- descriptions that an axiom would make too large, by their numbers and by their words
-- a slot that has a number is one of the slots
pub had_below : (k : Metadata) (n slot : ℕ) → has k.ext n slot ≡ true → slot < length k.ext.sets
had_below k n slot had = search (rules, cases_lt, get_or_past, both_ways)

-- what the right word entails, by its number
gains_of : (k : Metadata) (right : List ℕ) (number : ℕ) → word_of k.dict number ≡ Some right → is_gained k (number ∷ []) ≡ is_gained_by k (right ∷ [])
gains_of k right number is = fun_ext (λ n. ap (λ o. entails_by k o (word_of k.dict n) || false) is)

-- one slot, by the numbers of the two words
pub overfull_here : (k : Metadata) (left right : List ℕ) (from number : ℕ) → number_of k.dict left ≡ Some from → word_of k.dict number ≡ Some right → (slot : ℕ)
    → is_overfull k left right slot ≡ (has k.ext from slot && nat_lt 128 (length (wider k (is_gained k (number ∷ [])) slot)))
overfull_here k left right from number is_left is_right slot = search (rules, gains_of)

-- no slot has a word that has no number
pub overfull_unnumbered : (k : Metadata) (left right : List ℕ) → number_of k.dict left ≡ None → has_overfull k left right ≡ false
overfull_unnumbered k left right none = search (rules, full_nowhere)

module _ (k : Metadata) (sound : AreSound k) (at : ℕ → List ℕ) (s : State) (free : FreeSlotsAreEmpty k) (closed : AreClosed k) (tells : Tells k at s) (left right : List ℕ) (declared : is_declared k right ≡ true) where
  abbrev added : State
  added = axiom_added s (left, right)

  abbrev D : List (List ℕ)
  D = s.declared

  abbrev A : List (List ℕ × List ℕ)
  A = s.axioms

  -- a description with all that the right word entails
  joined : (file : File) → with_words (description s file) (up D A right) ≡ all_up D A (right ∷ description s file)
  joined file =
      same_words (with_words had (up D A right)) (all_up D A (right ∷ had)) (sorted_with_words had (up D A right) (sorted_all_up D A (own_words D file))) (sorted_all_up D A (right ∷ had))
      (λ w m. to w (among_with_words had (up D A right) w m)) (λ w m. let source = entailing D A (right ∷ had) w m in from w source.0 source.1 source.2)
    where
      had : List (List ℕ)
      had = description s file

      to : (w : List ℕ) → Among had w ⊎ Among (up D A right) w → Among (all_up D A (right ∷ had)) w
      to w (inl old) = all_up_has D A (right ∷ had) w (inr old)
      to w (inr new) = entailed_in D A (right ∷ had) right w (inl refl) new

      from : (w source : List ℕ) → (right ≡ source) ⊎ Among had source → Among (up D A source) w → Among (with_words had (up D A right)) w
      from w source (inl same) m = with_words_new had (up D A right) w (subst (λ x. Among (up D A x) w) (sym same) m)
      from w source (inr old) m = with_words_old had (up D A right) w (all_up_closed D A (own_words D file) source w old m)

  right_number : (n : ℕ) × (word_of k.dict n ≡ Some right)
  right_number = declared_has_number k sound right (declared_there k right declared)

  module _ (f : Filed) (m : Among k.catalog.entries f) where
    abbrev file : File
    file = file_told k.limits k.dict at f

    has_left : is_number_of (numbers_at k.ext f.slot) (number_of k.dict left) ≡ has_word (description s file) left
    has_left = by (number_of k.dict left) refl
      where
        told : has_word (description s file) left ≡ has_word (words_told k.dict (numbers_at k.ext f.slot)) left
        told = ap (λ ws. has_word ws left) (sym (tells.described f (contains_from_among k.catalog.entries f m)))

        by : (o : Option ℕ) → number_of k.dict left ≡ o → is_number_of (numbers_at k.ext f.slot) o ≡ has_word (description s file) left
        by None none = sym (false_from_ne_true (has_word (description s file) left) (λ h.
            let found = among_word k sound (numbers_at k.ext f.slot) left (among_from_has_word (words_told k.dict (numbers_at k.ext f.slot)) left (sym told ∙ h)) in
            none-some found.0 (sym none ∙ number_from_word k.dict sound.dict left found.0 found.1)))
        by (Some n) is = number_told k sound (numbers_at k.ext f.slot) n left (word_from_number k.dict sound.dict left n is) ∙ sym told

    counted : length (all_up D A (right ∷ description s file)) ≡ length (wider k (is_gained_by k (right ∷ [])) f.slot)
    counted =
        ap₂ (λ (x : State) ws. length (all_up x.declared x.axioms (right ∷ ws))) (sym tells.state) (sym (tells.described f (contains_from_among k.catalog.entries f m)))
        ∙ (wider_counted k sound free closed (right ∷ []) (right_number.0 ∷ []) (ap (λ o. set_of (option_to_list o ++ [])) right_number.1) f.slot
        ∙ ap (λ gains. length (wider k gains f.slot)) (gains_of k right right_number.0 right_number.1))

    full_same : nat_lt 128 (length (description added file)) ≡ is_overfull k left right f.slot
    full_same = by (has_word (description s file) left) refl
      where
        too_many : Bool
        too_many = nat_lt 128 (length (wider k (is_gained_by k (right ∷ [])) f.slot))

        by : (b : Bool) → has_word (description s file) left ≡ b → nat_lt 128 (length (description added file)) ≡ is_overfull k left right f.slot
        by true is =
            ap (λ (ws : List (List ℕ)). nat_lt 128 (length ws))
            (with_one_axiom D A (left, right) (own_words D file)
            ∙ (ap (λ b. cond b (with_words (description s file) (up D A right)) (description s file)) is
            ∙ joined file))
            ∙ (ap (nat_lt 128) counted ∙ sym (ap (λ b. b && too_many) (has_left ∙ is)))
        by false is =
            let few = leb-true (length (description s file)) 128 (all_among (λ (g : File). nat_le (length (description s g)) 128) s.files file tells.formed.files.few_words (file_of_filed k at s sound free tells f m)) in
            let same = ap (λ (ws : List (List ℕ)). length ws) (one_unfelt D A (left, right) file is) in
            false_from_ne_true (nat_lt 128 (length (description added file))) (λ long. omega (arith, few, same, ltb-true 128 (length (description added file)) long))
            ∙ sym (ap (λ b. b && too_many) (has_left ∙ is))

  pub overfull_told : has_overfull k left right ≡ exceeds_words added
  overfull_told = full_told k sound at s free tells added (is_overfull k left right) (λ slot is. by slot (number_of k.dict left) (and_parts (is_number_of (numbers_at k.ext slot) (number_of k.dict left)) (nat_lt 128 (length (wider k (is_gained_by k (right ∷ [])) slot))) is).0) full_same
    where
      by : (slot : ℕ) (o : Option ℕ) → is_number_of (numbers_at k.ext slot) o ≡ true → IsSome (rec_at k.catalog slot)
      by slot None none = absurd (both_ways false refl none)
      by slot (Some n) had = had_filed k free n slot had

-- ---- the row
-- ---- what follows if a row refuses nothing
pub related : {k : Metadata} → AreSound k → {left right : List ℕ} → first_refusal (axiom_checks_of k left right) ≡ None → MayRelate k left right
related {k} sound {left} {right} none =
    let row = all_pass (axiom_checks_of k left right) none in
    let form = row.1 in
    let new = form.1 in
    let acyclic = new.1 in
    let slots = acyclic.1 in
    let room = slots.1 in
    let short = room.1 in
    let both = and_parts (is_declared k right) (is_nameable (declared_of k) left) (not-false (is_declared k right && is_nameable (declared_of k) left) form.0) in
    record {
      plain = not-false (is_plain_word right) row.0;
      declared = both.0;
      numbered = declared_known k right (has_declared k right ∙ both.0);
      nameable = both.1;
      new = new.0;
      no_circle = acyclic.0;
      slots = omega (arith, ltb-false k.limits.props (count_by is_filled k.axioms + 1) slots.0);
      room = ltb-false k.limits.props (length (with_words (words k.dict) (behind_head left))) room.0;
      short = λ n slot is had.
          let wide = length (wider k (is_gained_by k (right ∷ [])) slot) in
          ltb-false 128 wide (false_from_ne_true (nat_lt 128 wide) (λ long.
          let numbered : is_number_of (numbers_at k.ext slot) (number_of k.dict left) ≡ true = ap (is_number_of (numbers_at k.ext slot)) is ∙ had in
          both_ways (has_overfull k left right) short.0
          (full_at (is_overfull k left right) k.limits.files slot (omega (arith, had_below k n slot had, sound.files))
          (and_from (is_number_of (numbers_at k.ext slot) (number_of k.dict left)) (nat_lt 128 wide) numbered long))));
    }

-- ---- the row of the state
module _ {k : Stored} {at : ℕ → List ℕ} (sound : IsSound k) (now : Situation) (tells : Tells k.metadata at now.state) (left right : List ℕ) where
  abbrev p : Metadata
  p = k.metadata

  abbrev s : State
  s = now.state

  abbrev pair : List ℕ × List ℕ
  pair = (left, right)

  abbrev made : State
  made = axiom_added s pair

  limits_are : p.limits ≡ s.limits
  limits_are = limits_told p at s sound.metadata sound.free tells

  declared_are : declared_of p ≡ s.declared
  declared_are = ap (λ (t : State). t.declared) tells.state

  axioms_are : axioms_of p ≡ s.axioms
  axioms_are = ap (λ (t : State). t.axioms) tells.state

  right_told : is_declared p right ≡ has_word s.declared right
  right_told = sym (has_declared p right) ∙ ap (λ (ws : List (List ℕ)). has_word ws right) declared_are

  forms_told : not (is_declared p right && is_nameable (declared_of p) left) ≡ not (has_word s.declared right && is_nameable s.declared left)
  forms_told = ap₂ (λ b declared. not (b && is_nameable declared left)) right_told declared_are

  circle_told : entails_word p right left ≡ has_word (up s.declared s.axioms right) left
  circle_told = ap (λ (t : State). has_word (up t.declared t.axioms right) left) tells.state

  -- a new axiom is one more
  axioms_then : has_axiom s.axioms pair ≡ false → length made.axioms ≡ count_by is_filled p.axioms + 1
  axioms_then new =
      let old = axioms_counted p sound.metadata sound.pairs in
      let more = length-with_more pair_cmp pair_exact s.axioms (pair ∷ []) ((λ none. none), tt) (λ e m there. apart e m there) in
      omega (arith, more, old, ap (λ (es : List (List ℕ × List ℕ)). length es) axioms_are)
    where
      apart : (e : List ℕ × List ℕ) → Among (pair ∷ []) e → Among s.axioms e → ⊥
      apart e (inl same) there =
          both_ways (has_axiom s.axioms pair) new
          (any_from_among (λ x. same_pair x pair) s.axioms pair (subst (λ (x : List ℕ × List ℕ). Among s.axioms x) (sym same) there)
          (and_from (same_word left left) (same_word right right) ((same_word_decides left left).1 refl) ((same_word_decides right right).1 refl)))
      apart e (inr none) there = none

  slots_told : has_axiom s.axioms pair ≡ false → nat_lt p.limits.props (count_by is_filled p.axioms + 1) ≡ exceeds_axioms made
  slots_told new = ap₂ nat_lt (ap (λ (l : Limits). l.props) limits_are) (sym (axioms_then new))

  room_told : (is_plain_word right && has_word s.declared right) ≡ true → nat_lt p.limits.props (length (with_words (words p.dict) (behind_head left))) ≡ exceeds_known made
  room_told form = ap₂ (λ props (ws : List (List ℕ)). nat_lt props (length ws)) (ap (λ (l : Limits). l.props) limits_are) (known_then p at s sound.metadata sound.free tells left right form)

  -- ---- the rows
  -- what the first two checks leave
  pair_form : not (is_plain_word right) ≡ false → not (is_declared p right && is_nameable (declared_of p) left) ≡ false → (is_declared p right ≡ true) × ((is_plain_word right && has_word s.declared right) ≡ true)
  pair_form plain formed = search (rules, and_parts, not-false, and_from, right_told)

  overfull_same : is_declared p right ≡ true → has_overfull p left right ≡ exceeds_words made
  overfull_same declared = overfull_told p sound.metadata at s sound.free sound.closed tells left right declared

  same_row : first_refusal (axiom_checks_of p left right) ≡ first_refusal (axiom_checks s pair made)
  same_row =
      let known = λ (plain : not (is_plain_word right) ≡ false) (formed : not (is_declared p right && is_nameable (declared_of p) left) ≡ false). room_told (pair_form plain formed).1 in
      let large = λ (plain : not (is_plain_word right) ≡ false) (formed : not (is_declared p right && is_nameable (declared_of p) left) ≡ false). overfull_same (pair_form plain formed).0 in
      let there = ap (λ axioms. has_axiom axioms pair) axioms_are in
      let room = λ (new : has_axiom (axioms_of p) pair ≡ false). slots_told (sym there ∙ new) in
      same_first (axiom_checks_of p left right) (axiom_checks s pair made)
      (refl, refl, λ b. (refl, forms_told, λ c. (refl, there, λ d. (refl, circle_told, λ e. (refl, room d, λ f. (refl, known b c, λ g. (refl, large b c, λ h. tt)))))))

  -- what `axiom` gives
  pub axiom_refused : (refusal : Refusal) → first_refusal (axiom_checks_of p left right) ≡ Some refusal → add_axiom now pair ≡ refused now refusal
  axiom_refused refusal first = judged_refused now (axiom_checks s pair made) (changed now made) refusal (sym same_row ∙ first)

  pub axiom_done : first_refusal (axiom_checks_of p left right) ≡ None → add_axiom now pair ≡ changed now made
  axiom_done none = judged_done now (axiom_checks s pair made) (changed now made) (sym same_row ∙ none)

  pub axiom_fit : first_refusal (axiom_checks_of p left right) ≡ None → AxiomFits s pair
  axiom_fit none = axiom_fits s pair (all_pass (axiom_checks s pair made) (sym same_row ∙ none))
