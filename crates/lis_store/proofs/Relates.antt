-- What adding an axiom gives: it links two numbers, and descriptions gain what its right word entails.
use Rattle.std.proofs.Common.{rules}
use Rattle.std.proofs.Common.{eq-eqb}
use Rattle.lis_store.proofs.Common.{◌≡◌, ◌⊎◌, refl, sym, ap, ap₂, ◌∙◌, subst, inl, inr, ℕ, ◌==◌, true, false, List, [], ◌∷◌, Some, is_some, IsSome, ◌+◌, ◌*◌, ◌/◌, ◌<◌, ◌≤◌, ◌&&◌, ◌||◌, Bool, length, count_by, arith, cond, ◌++◌, slice_get, slice_set, Option, None, option_to_list, length-append, Result, and_parts, or_cases, eqb-true, same_Some, Among, among_filter, filter_among, insert_key_old, word_of, Ext, has, numbers_at, differs, is_plain_word, is_test, has_word, plain_not_test, with_axiom, State, File, pair_cmp, up, all_up, own_words, file_words, up_self, Metadata, AreSound, FreeSlotsAreEmpty, declared_of, axioms_of, is_used, named_all, among_word, word_among, number_told, used_had, among_right, number_of, number_from_word, word_from_number, among_where, where_among, sorted_where, is_valued, is_head, is_built_in, head_bytes, heads, has_axiom, plain_not_valued, has_pair, is_filled, some_word, some_number, flat_map, Contains, contains_from_among, among_append, among_left, is_taken, Dict, Filed, AxiomSlot, FreeAxiom, Pair, word_cmp, same_word, with_words, description, axiom_added, sorted_known, IsStrictlySortedBy, among_heads, same_word_decides, among_with_words, with_words_new, sorted_with_words, IsSaved, KeepsInUse, bit_of, state_of, is_head_by, AreUsed, Tells, named_below, marked_count, Meaning, looked, Situation, Outcome, filed_rec, both_ways, and_from, or_left, or_right, has_number, all_up_has, same_tests, is_linked, words_told, file_told, among_from_number, number_from_among, known, one_number, words, numbers_where, with_words_old, same_words, changed}
use Rattle.lis_laws.proofs.Axioms.{up_with_axiom}
use Rattle.lis_laws.proofs.Chains.{up_cons, up_through}
use Rattle.lis_laws.proofs.Closures.{all_up_within}
use Rattle.lis_kept.specs.Linking.{are_both, Links, MayLink}
use Rattle.lis_kept.proofs.AxiomTaken.{one_unfelt}
use Rattle.lis_store.specs.Closing.{is_entailed, closure, is_concerned, base_at, rebuilt, is_gained, entails_number, is_gained_by, wider}
use Rattle.lis_store.specs.declared.closing.Rebuild.TheVariants.{Having}
use Rattle.lis_store.specs.Redescribing.{Redescribes}
use Rattle.lis_store.specs.Stored.{AreClosed, TestsAreMet, PairsAreApart, DescriptionsAreShort, IsSound, Stored, StoreHolds}
use Rattle.lis_store.proofs.Closed.{led, led_from, led_had, led_plain, from_closure, in_closure, closure_has, closure_told, few_within}
use Rattle.lis_store.proofs.HeadsUsed.{use_stays}
use Rattle.lis_store.proofs.Rebuilt.{IsRebuilt, turned_cases, had_filed, set_where, closed_made, tests_made, some_had, few_made, made_edits, free_made, short_made}
use Rattle.lis_model.specs.State.{is_known_head}
use Rattle.lis_laws.proofs.Apart.{test_not_valued, bare_head_not_valued}
use Rattle.lis_kept.proofs.AxiomsTold.{axiom_told, slot_free}
use Rattle.lis_store.specs.Adding.{behind_head, may_learn, LearnsAll}
use Rattle.lis_store.specs.Relating.{MayRelate}
use Rattle.lis_store.proofs.Entailment.{up_has_number}
use Rattle.lis_store.proofs.Learning.{number_stays, number_learnt}
use Rattle.lis_store.proofs.Learnt.{free_learnt, closed_learnt, used_learnt, file_learnt, described_learnt, word_before}
use Rattle.lis_store.proofs.Naming.{of_one}
use Rattle.lis_store.proofs.PutIn.{declared_known, may_by}
use Rattle.lis_laws.specs.Changes.{AxiomFits}
use Rattle.lis_laws.proofs.Growth.{known_adds_axiom}
use Rattle.lis_kept.proofs.AxiomsApart.{apart_linked}
use Rattle.lis_kept.proofs.AxiomSlots.{InSlot, set_cases, same_sides}
use Rattle.lis_store.specs.Saving.{settled, IsReady, Saves}
use Rattle.lis_store.specs.RelatingIn.{RelatesIn}
use Rattle.lis_store.proofs.Declared.{slot_pair}
use Rattle.lis_store.proofs.StoreSays.{known_told}
use Rattle.lis_store.proofs.Cleaned.{none_marked}
use Rattle.lis_store.proofs.Fitting.{most_all, all_fits}
use Rattle.lis_store.proofs.FileTests.{test_flagged, flagged_before, tests_stay}
use Rattle.lis_store.specs.declared.change_fault.ChangeFault.{ChangeFault}
use Rattle.lis_store.specs.Changes.{Holds, AreEditsFew}
use Rattle.lis_store.proofs.SavedAlone.{IsChange, saves_alone}
use Rattle.lis_store.proofs.Retaken.{settled_sound}
use Rattle.lis_store.proofs.Told.{retold, few_with}
use Rattle.lis_store.specs.ReplacingIn.{AreInForm}
use Rattle.lis_laws.proofs.Forms as forms

-- ---- the axiom, and the descriptions that have its left word, rebuilt
-- the axiom leads from the one number to the other
pub record IsLinked (left right : List ℕ) (from to : ℕ) (k linked : Metadata) : Type 0 where
  pub sound : AreSound k
  pub free : FreeSlotsAreEmpty k
  pub closed : AreClosed k
  pub is_from : word_of k.dict from ≡ Some left
  pub is_to : word_of k.dict to ≡ Some right
  pub plain : is_plain_word right ≡ true
  pub links : Links from to k linked
  pub sound_then : AreSound linked

-- the descriptions that have its left word are rebuilt
abbrev pub of_all : Metadata → ℕ → ℕ → List ℕ
of_all k from = base_at k (Having from)

module _ {left right : List ℕ} {from to : ℕ} {k linked : Metadata} (l : IsLinked left right from to k linked) where
  abbrev D : List (List ℕ)
  D = declared_of k

  abbrev A : List (List ℕ × List ℕ)
  A = axioms_of k

  pub dict_same : linked.dict ≡ k.dict
  dict_same = ap (λ (x : Metadata). x.dict) l.links.metadata

  pub ext_same : linked.ext ≡ k.ext
  ext_same = ap (λ (x : Metadata). x.ext) l.links.metadata

  declared_then : declared_of linked ≡ D
  declared_then = ap (λ (s : State). s.declared) (l.links.state (λ _. []) left right l.is_from l.is_to)

  axioms_then : axioms_of linked ≡ with_axiom A (left, right)
  axioms_then = ap (λ (s : State). s.axioms) (l.links.state (λ _. []) left right l.is_from l.is_to)

  up_then : (w : List ℕ) → up (declared_of linked) (axioms_of linked) w ≡ up D ((left, right) ∷ A) w
  up_then w = ap₂ (λ d a. up d a w) declared_then axioms_then ∙ up_with_axiom D A (left, right) w

  word_same : (n : ℕ) → word_of linked.dict n ≡ word_of k.dict n
  word_same n = ap (λ d. word_of d n) dict_same

  has_same : (n slot : ℕ) → has linked.ext n slot ≡ has k.ext n slot
  has_same n slot = ap (λ (e : Ext). has e n slot) ext_same

  -- what a number then entails it entailed before, or the right word entails it
  reach : (a n : ℕ) → is_entailed linked a n ≡ true → (is_entailed k a n ≡ true) ⊎ (is_entailed k to n ≡ true)
  reach a n is =
      let e = led linked a n is in
      by e.from e.to (sym (word_same a) ∙ e.is_from) (sym (word_same n) ∙ e.is_to) (up_cons D (left, right) A e.from e.to (subst (λ ws. Among ws e.to) (up_then e.from) e.entailed))
    where
      by : (x y : List ℕ) → word_of k.dict a ≡ Some x → word_of k.dict n ≡ Some y → Among (up D A x) y ⊎ (Among (up D A x) left × Among (up D A right) y) → (is_entailed k a n ≡ true) ⊎ (is_entailed k to n ≡ true)
      by x y is_x is_y (inl old) = inl (led_from k a n x y is_x is_y old)
      by x y is_x is_y (inr new) = inr (led_from k to n right y l.is_to is_y new.1)

  -- the left word entails all that the right one does
  left_leads : (n : ℕ) → is_entailed k to n ≡ true → is_entailed linked from n ≡ true
  left_leads n is =
      let e = led k to n is in
      let there : Among (up D ((left, right) ∷ A) left) e.to =
      up_through D (left, right) A left e.to (up_self D A left) (subst (λ o. Among (up D A o) e.to) (same_some (sym e.is_from ∙ l.is_to)) e.entailed) in
      led_from linked from n left e.to (word_same from ∙ l.is_from) (word_same n ∙ e.is_to) (subst (λ ws. Among ws e.to) (sym (up_then left)) there)
    where
      same_some : {x y : List ℕ} → Some x ≡ Some y → x ≡ y
      same_some {x} {y} e = same_Some x y e

  -- ---- a description with the left word, rebuilt
  in_base : (n slot : ℕ) → has k.ext n slot ≡ true → Among (of_all linked from slot) n
  in_base n slot had = filter_among (λ _. true) (numbers_at linked.ext slot) n (among_from_number (numbers_at linked.ext slot) n (has_same n slot ∙ had)) refl

  base_had : (n slot : ℕ) → Among (of_all linked from slot) n → has k.ext n slot ≡ true
  base_had n slot among = sym (has_same n slot) ∙ number_from_among (numbers_at linked.ext slot) n (among_filter (λ _. true) (numbers_at linked.ext slot) n among).0

  pub closure_cases : (n slot : ℕ) → has_number (closure linked (of_all linked from slot)) n ≡ true → (has k.ext n slot ≡ true) ⊎ (is_entailed k to n ≡ true)
  closure_cases n slot h = let source = from_closure linked (of_all linked from slot) n h in by source.0 (base_had source.0 slot source.1) (reach source.0 n source.2)
    where
      by : (a : ℕ) → has k.ext a slot ≡ true → (is_entailed k a n ≡ true) ⊎ (is_entailed k to n ≡ true) → (has k.ext n slot ≡ true) ⊎ (is_entailed k to n ≡ true)
      by a had (inl old) = inl (led_had k l.sound l.closed slot a n had old)
      by a had (inr new) = inr new

  closure_had : (n slot : ℕ) → has k.ext n slot ≡ true → has_number (closure linked (of_all linked from slot)) n ≡ true
  closure_had n slot had = search (rules, closure_has, word_same, named_all, in_base)

  pub closure_up : (n slot : ℕ) → has k.ext from slot ≡ true → is_entailed k to n ≡ true → has_number (closure linked (of_all linked from slot)) n ≡ true
  closure_up n slot had is = in_closure linked l.sound_then (of_all linked from slot) from n (in_base from slot had) (left_leads n is)

  -- it represents the description of the file with the axiom
  pub linked_told : (slot : ℕ) (file : File) → words_told k.dict (numbers_at k.ext slot) ≡ file_words D A file
      → words_told linked.dict (closure linked (of_all linked from slot)) ≡ file_words D (with_axiom A (left, right)) file
  linked_told slot file told =
      closure_told linked l.sound_then (of_all linked from slot) (own_words (declared_of linked) file)
      (λ u among.
      let at = among_word k l.sound (numbers_at k.ext slot) u (subst (λ ws. Among ws u) (sym told) (all_up_has D A (own_words D file) u (subst (λ d. Among (own_words d file) u) declared_then among))) in
      (at.0, word_same at.0 ∙ at.1, in_base at.0 slot at.2))
      (λ n u is among.
      let old = subst (λ ws. Among ws u) told (word_among k l.sound (numbers_at k.ext slot) n u (sym (word_same n) ∙ is) (base_had n slot among)) in
      subst (λ ws. Among ws u) (sym then_is)
      (all_up_within D D A (with_axiom A (left, right)) (own_words D file) (own_words D file)
      (record { in_declared = λ w m. m; in_axioms = insert_key_old pair_cmp A (left, right); in_words = λ w m. m }) u old))
      ∙ then_is
    where
      then_is : all_up (declared_of linked) (axioms_of linked) (own_words (declared_of linked) file) ≡ file_words D (with_axiom A (left, right)) file
      then_is = ap₂ (λ d a. file_words d a file) declared_then axioms_then

  -- ---- memory
  module _ {q : Metadata} (rebuilds : Redescribes (rebuilt linked (Having from)) linked.limits.files linked q) where
    pub is_rebuilt : IsRebuilt (is_concerned linked (Having from)) (of_all linked from) linked q
    is_rebuilt = search (rules, had_filed)

    pub had_linked : (n slot : ℕ) → has k.ext n slot ≡ true → has q.ext n slot ≡ true
    had_linked n slot had = set_where is_rebuilt (λ ns. has_number ns n ≡ true) slot (λ here. closure_had n slot had) (λ other. has_same n slot ∙ had)

    pub closed_linked : AreClosed (record linked { ext = q.ext; marks = q.marks })
    closed_linked = closed_made is_rebuilt (λ slot a b lacks had linked_so. has_same b slot ∙ by slot a b lacks (sym (has_same a slot) ∙ had) (or_cases (are_both from to a b) (is_linked k a b) (sym (l.links.linked a b) ∙ linked_so)))
      where
        by : (slot a b : ℕ) → has linked.ext from slot ≡ false → has k.ext a slot ≡ true → (are_both from to a b ≡ true) ⊎ (is_linked k a b ≡ true) → has k.ext b slot ≡ true
        by slot a b lacks had (inl new) =
            absurd (both_ways (has linked.ext from slot) lacks (has_same from slot ∙ (ap (λ n. has k.ext n slot) (eqb-true from a (and_parts (from == a) (to == b) new).0) ∙ had)))
        by slot a b lacks had (inr old) = l.closed slot a b had old

    pub tests_linked : TestsAreMet k → TestsAreMet (record linked { ext = q.ext; marks = q.marks })
    tests_linked tests = tests_made is_rebuilt (λ n slot w is test here.
        same_tests (has_number (closure linked (of_all linked from slot)) n) (has linked.ext n slot)
        (λ h. has_same n slot ∙ by n slot w (sym (word_same n) ∙ is) test (closure_cases n slot h)) (λ had. closure_had n slot (sym (has_same n slot) ∙ had)))
        (subst (λ (x : Metadata). TestsAreMet x) (sym l.links.metadata) (record { given = tests.given; met = tests.met }))
      where
        by : (n slot : ℕ) (w : List ℕ) → word_of k.dict n ≡ Some w → is_test w ≡ true → (has k.ext n slot ≡ true) ⊎ (is_entailed k to n ≡ true) → has k.ext n slot ≡ true
        by n slot w is test (inl had) = had
        by n slot w is test (inr up_so) = absurd (both_ways (is_test w) (plain_not_test w (led_plain k l.sound to n right w l.is_to l.plain is up_so)) test)

    -- each description is that of the state with the axiom
    pub described_linked : (slot : ℕ) (file : File) → words_told k.dict (numbers_at k.ext slot) ≡ file_words D A file → words_told k.dict (numbers_at q.ext slot) ≡ file_words D (with_axiom A (left, right)) file
    described_linked slot file told =
        set_where is_rebuilt (λ ns. words_told k.dict ns ≡ file_words D (with_axiom A (left, right)) file) slot
        (λ here. ap (λ d. words_told d (closure linked (of_all linked from slot))) (sym dict_same) ∙ linked_told slot file told)
        (λ other.
        let lacks : has_word (file_words D A file) left ≡ false =
        ap (λ ws. has_word ws left) (sym told) ∙ (sym (number_told k l.sound (numbers_at k.ext slot) from left l.is_from) ∙ (sym (has_same from slot) ∙ other)) in
        ap (λ (e : Ext). words_told k.dict (numbers_at e slot)) ext_same ∙ (told ∙ sym (one_unfelt D A (left, right) file lacks)))

    pub used_linked : (n : ℕ) → is_used linked n ≡ true → is_used (record linked { ext = q.ext; marks = q.marks }) n ≡ true
    used_linked n =
        let then_is : Metadata = record linked { ext = q.ext; marks = q.marks } in
        use_stays linked then_is n (λ bit. bit) (λ lefts. lefts) (λ slot was. used_had then_is n slot (had_linked n slot (sym (has_same n slot) ∙ was)))

    -- a row changes only for a number that the right word entails
    pub turned_linked : (slot n : ℕ) → differs (numbers_at linked.ext slot) (closure linked (of_all linked from slot)) n ≡ true → is_entailed k to n ≡ true
    turned_linked slot n turned = search (rules, turned_cases, both_ways, has_same, closure_cases, closure_had)

-- ---- what memory allows if an axiom may be added
-- ---- the two words
module _ {k : Metadata} {left right : List ℕ} (may : MayRelate k left right) where
  head_known : (word : List ℕ) → is_known_head (declared_of k) word ≡ true → (is_head word ≡ true) × ((is_some (number_of k.dict word) || is_built_in word) ≡ true)
  head_known word h = search (rules, and_parts, or_cases, or_left, declared_known, or_right)

  abbrev named : Bool
  named = (is_plain_word left || is_test left) && has_word (declared_of k) left

  pub left_may : may_learn k left ≡ true
  left_may = by (or_cases (named || is_known_head (declared_of k) left) (is_valued left && is_known_head (declared_of k) (head_bytes left)) may.nameable)
    where
      bare : is_valued left ≡ false → (is_some (number_of k.dict left) || (is_head left && is_built_in left)) ≡ true → may_learn k left ≡ true
      bare form h = ap (may_by k left) form ∙ h

      form_of : (is_plain_word left ≡ true) ⊎ (is_test left ≡ true) → is_valued left ≡ false
      form_of (inl plain) = plain_not_valued left plain
      form_of (inr test) = test_not_valued left test

      head : (is_head left ≡ true) → (is_some (number_of k.dict left) ≡ true) ⊎ (is_built_in left ≡ true) → (is_some (number_of k.dict left) || (is_head left && is_built_in left)) ≡ true
      head form (inl some) = or_left (is_some (number_of k.dict left)) (is_head left && is_built_in left) some
      head form (inr own) = or_right (is_some (number_of k.dict left)) (is_head left && is_built_in left) (and_from (is_head left) (is_built_in left) form own)

      front : (named ≡ true) ⊎ (is_known_head (declared_of k) left ≡ true) → may_learn k left ≡ true
      front (inl h) =
          let parts = and_parts (is_plain_word left || is_test left) (has_word (declared_of k) left) h in
          bare (form_of (or_cases (is_plain_word left) (is_test left) parts.0)) (or_left (is_some (number_of k.dict left)) (is_head left && is_built_in left) (declared_known k left parts.1))
      front (inr h) =
          let known = head_known left h in
          bare (bare_head_not_valued left known.0) (head known.0 (or_cases (is_some (number_of k.dict left)) (is_built_in left) known.1))

      by : ((named || is_known_head (declared_of k) left) ≡ true) ⊎ ((is_valued left && is_known_head (declared_of k) (head_bytes left)) ≡ true) → may_learn k left ≡ true
      by (inl h) = front (or_cases named (is_known_head (declared_of k) left) h)
      by (inr h) =
          let parts = and_parts (is_valued left) (is_known_head (declared_of k) (head_bytes left)) h in
          ap (may_by k left) parts.0 ∙ (head_known (head_bytes left) parts.1).1

  module _ {learnt : Metadata} (learns : LearnsAll (behind_head left) k learnt) where
    pub left_numbered : IsSome (number_of learnt.dict left)
    left_numbered = number_learnt k learnt (behind_head left) learns left (among_right (heads left) (left ∷ []) left (inl refl))

    pub right_numbered : IsSome (number_of learnt.dict right)
    right_numbered = number_stays k learnt (behind_head left) learns right may.numbered

    pub declared_same : declared_of learnt ≡ declared_of k
    declared_same = ap (λ (s : State). s.declared) (learns.state (λ _. []))

    pub axioms_same : axioms_of learnt ≡ axioms_of k
    axioms_same = ap (λ (s : State). s.axioms) (learns.state (λ _. []))

    props_same : learnt.limits.props ≡ k.limits.props
    props_same = ap (λ (x : Metadata). x.limits.props) learns.metadata

    module _ (after : AreSound learnt) {from to : ℕ} (is_left : number_of learnt.dict left ≡ Some from) (is_right : number_of learnt.dict right ≡ Some to) where
      pub left_named : word_of learnt.dict from ≡ Some left
      left_named = word_from_number learnt.dict after.dict left from is_left

      pub right_named : word_of learnt.dict to ≡ Some right
      right_named = word_from_number learnt.dict after.dict right to is_right

      pub new_pair : has_pair learnt.axioms from to ≡ false
      new_pair = sym (axiom_told learnt after from to left right left_named right_named) ∙ (ap (λ xs. has_axiom xs (left, right)) axioms_same ∙ may.new)

      pub may_link : MayLink from to learnt
      may_link =
          let many : learnt.limits.props ≤ length learnt.axioms = room learnt.limits.props (length learnt.axioms) after.axiom_count in
          let few = ap (λ (x : Metadata). count_by is_filled x.axioms) learns.metadata in
          let found = slot_free learnt.axioms learnt.limits.props many (omega (arith, few, may.slots, props_same)) in
          record {
            from = left;
            to = right;
            is_left = left_named;
            is_right = right_named;
            plain = may.plain;
            new = new_pair;
            no_circle = ap₂ (λ declared axioms. has_word (up declared axioms right) left) declared_same axioms_same ∙ may.no_circle;
            slot = found.0;
            below = found.1;
            free = found.2;
          }
        where
          room : (props count : ℕ) → count ≡ 512 * ((props + 511) / 512) → props ≤ count
          room props count is = omega (arith, is)

      module _ {linked : Metadata} (links : Links from to learnt linked) (sound : AreSound k) (sound_linked : AreSound linked) (free : FreeSlotsAreEmpty k) (closed : AreClosed k) where
        pub linked_in : IsLinked left right from to learnt linked
        linked_in = search (rules, free_learnt, closed_learnt, left_named, right_named)

        ext_learnt : learnt.ext ≡ k.ext
        ext_learnt = ap (λ (x : Metadata). x.ext) learns.metadata

        -- a file that has the left word had it before
        left_before : (slot : ℕ) → has k.ext from slot ≡ true → number_of k.dict left ≡ Some from
        left_before slot had =
            let word = some_word (word_of k.dict from) (named_all k sound free from slot had) in
            let same = same_Some word.0 left (sym (learns.keeps from word.0 word.1) ∙ left_named) in
            number_from_word k.dict sound.dict left from (word.1 ∙ ap Some same)

        -- the right word entails none of the words that get numbers
        entailed_before : (n : ℕ) → is_entailed learnt to n ≡ true → entails_number k right n ≡ true
        entailed_before n is =
            let e = led learnt to n is in
            let reached : Among (up (declared_of k) (axioms_of k) right) e.to =
            subst (λ ws. Among ws e.to) (ap₂ (λ declared axioms. up declared axioms right) declared_same axioms_same)
            (subst (λ w. Among (up (declared_of learnt) (axioms_of learnt) w) e.to) (same_Some e.from right (sym e.is_from ∙ right_named)) e.entailed) in
            let number = some_number (number_of k.dict right) may.numbered in
            let there = up_has_number k sound number.0 right e.to (word_from_number k.dict sound.dict right number.0 number.1) reached in
            let same = one_number learnt after there.0 n e.to (learns.keeps there.0 e.to there.1) e.is_to in
            of_one (up (declared_of k) (axioms_of k) right) (word_of k.dict n) e.to (subst (λ i. word_of k.dict i ≡ Some e.to) same there.1) reached

        -- no description becomes too large
        pub few_linked : (slot : ℕ) → has linked.ext from slot ≡ true → length (closure linked (of_all linked from slot)) ≤ 128
        few_linked slot had =
            let had_before : has k.ext from slot ≡ true = ap (λ (e : Ext). has e from slot) (sym ext_learnt) ∙ (ap (λ (x : Metadata). has x.ext from slot) (sym links.metadata) ∙ had) in
            let numbers = closure linked (of_all linked from slot) in
            let le = few_within numbers (wider k (is_gained_by k (right ∷ [])) slot) (sorted_where linked.limits.props (is_gained linked (of_all linked from slot))) (λ n m.
            inside n (omega (arith, (among_where linked.limits.props (is_gained linked (of_all linked from slot)) n m).0, ap (λ (x : Metadata). x.limits.props) links.metadata, props_same, sound.rows))
            (closure_cases linked_in n slot (number_from_among numbers n m))) in
            omega (arith, le, may.short from slot (left_before slot had_before) had_before)
          where
            inside : (n : ℕ) → n < k.ext.props → (has learnt.ext n slot ≡ true) ⊎ (is_entailed learnt to n ≡ true) → Among (wider k (is_gained_by k (right ∷ [])) slot) n
            inside n lt (inl old) =
                where_among k.ext.props (λ i. has k.ext i slot || is_gained_by k (right ∷ []) i) n lt
                (or_left (has k.ext n slot) (is_gained_by k (right ∷ []) n) (ap (λ (e : Ext). has e n slot) (sym ext_learnt) ∙ old))
            inside n lt (inr up_so) =
                where_among k.ext.props (λ i. has k.ext i slot || is_gained_by k (right ∷ []) i) n lt
                (or_right (has k.ext n slot) (is_gained_by k (right ∷ []) n) (or_left (entails_number k right n) false (entailed_before n up_so)))

-- ---- what adding it gives
-- there are at most as many words as numbers
pub told_few : (d : Dict) (ns : List ℕ) → length (words_told d ns) ≤ length ns
told_few d ns = omega (arith, few_with [] (flat_map (λ n. option_to_list (word_of d n)) ns), flat_few ns)
  where
    one : (o : Option (List ℕ)) → length (option_to_list o) ≤ 1
    one None = omega arith
    one (Some word) = omega arith

    flat_few : (ms : List ℕ) → length (flat_map (λ n. option_to_list (word_of d n)) ms) ≤ length ms
    flat_few [] = omega arith
    flat_few (m ∷ ms) = omega (arith, flat_few ms, one (word_of d m), length-append (option_to_list (word_of d m)) (flat_map (λ n. option_to_list (word_of d n)) ms))

-- a word and its head are at most two words
behind_few : (word : List ℕ) → length (behind_head word) ≤ 2
behind_few word = by (is_valued word)
  where
    by : (b : Bool) → length (cond b (head_bytes word ∷ []) [] ++ word ∷ []) ≤ 2
    by true = omega arith
    by false = omega arith

-- what becomes known with an axiom
module _ (p : Metadata) (at : ℕ → List ℕ) (s : State) (sound : AreSound p) (free : FreeSlotsAreEmpty p) (tells : Tells p at s) (left right : List ℕ) (form : (is_plain_word right && has_word s.declared right) ≡ true) where
  -- the left word and its head are all that becomes known
  pub known_then : with_words (words p.dict) (behind_head left) ≡ known (axiom_added s (left, right))
  known_then =
      ap (λ ws. with_words ws (behind_head left)) (known_told p at s sound free tells)
      ∙ (same_words (with_words (known s) (behind_head left)) (with_words (known s) (left ∷ heads left))
      (sorted_with_words (known s) (behind_head left) sorted) (sorted_with_words (known s) (left ∷ heads left) sorted)
      (λ w m. to w (among_with_words (known s) (behind_head left) w m)) (λ w m. from w (among_with_words (known s) (left ∷ heads left) w m))
      ∙ sym (known_adds_axiom s tells.formed left right form))
    where
      sorted : IsStrictlySortedBy word_cmp (known s)
      sorted = sorted_known s tells.formed.declared_set

      front : (w : List ℕ) → Among (heads left) w ⊎ Among (left ∷ []) w → Among (left ∷ heads left) w
      front w (inl head) = inr head
      front w (inr (inl same)) = inl same
      front w (inr (inr none)) = absurd none

      back : (w : List ℕ) → Among (left ∷ heads left) w → Among (behind_head left) w
      back w (inl same) = among_right (heads left) (left ∷ []) w (inl same)
      back w (inr head) = among_left (heads left) (left ∷ []) w head

      to : (w : List ℕ) → Among (known s) w ⊎ Among (behind_head left) w → Among (with_words (known s) (left ∷ heads left)) w
      to w (inl old) = with_words_old (known s) (left ∷ heads left) w old
      to w (inr new) = with_words_new (known s) (left ∷ heads left) w (front w (among_append (heads left) (left ∷ []) w new))

      from : (w : List ℕ) → Among (known s) w ⊎ Among (left ∷ heads left) w → Among (with_words (known s) (behind_head left)) w
      from w (inl old) = with_words_old (known s) (behind_head left) w old
      from w (inr new) = with_words_new (known s) (behind_head left) w (back w new)

module _ {old : Stored} {q : Metadata} {left right : List ℕ} (was : IsSound old) (may : MayRelate old.metadata left right) (relates : RelatesIn left right old.metadata q) where
  abbrev p : Metadata
  p = old.metadata

  abbrev sound : AreSound p
  sound = was.metadata

  abbrev learnt : Metadata
  learnt = relates.learnt

  abbrev linked : Metadata
  linked = relates.linked

  abbrev from : ℕ
  from = relates.from

  abbrev to : ℕ
  to = relates.to

  abbrev more : List (List ℕ)
  more = behind_head left

  link : IsLinked left right from to learnt linked
  link = linked_in may relates.learns relates.sound relates.is_left relates.is_right relates.links sound relates.sound_linked was.free was.closed

  few_wide : (slot : ℕ) → has linked.ext from slot ≡ true → length (closure linked (of_all linked from slot)) ≤ 128
  few_wide = few_linked may relates.learns relates.sound relates.is_left relates.is_right relates.links sound relates.sound_linked was.free was.closed

  -- the metadata at the end
  abbrev pub end : Metadata
  end = record p { dict = learnt.dict; axioms = slice_set p.axioms relates.links.slot (Pair from to); ext = q.ext; marks = q.marks }

  pub end_is : q ≡ end
  end_is = search (rules)

  made_end : record linked { ext = q.ext; marks = q.marks } ≡ end
  made_end = sym relates.rebuilds.metadata ∙ end_is

  ext_before : linked.ext ≡ p.ext
  ext_before = ap (λ (k : Metadata). k.ext) relates.links.metadata ∙ ap (λ (k : Metadata). k.ext) relates.learns.metadata

  had_stays : (n slot : ℕ) → has p.ext n slot ≡ true → has q.ext n slot ≡ true
  had_stays n slot had = had_linked link relates.rebuilds n slot (ap (λ (k : Metadata). has k.ext n slot) relates.learns.metadata ∙ had)

  short_then : DescriptionsAreShort end
  short_then = short_made (is_rebuilt link relates.rebuilds) few_wide (λ slot. omega (arith, was.short slot, ap (λ (e : Ext). length (numbers_at e slot)) ext_before))

  -- ---- axioms
  slot_was_free : slice_get p.axioms relates.links.slot ≡ Some FreeAxiom
  slot_was_free = ap (λ (k : Metadata). slice_get k.axioms relates.links.slot) (sym relates.learns.metadata) ∙ relates.links.free

  none_there : InSlot learnt.axioms from to → ⊥
  none_there there = search (rules, both_ways, new_pair, slot_pair)

  abbrev AreOnce : List AxiomSlot → Type 0
  AreOnce axioms = (slot other x y : ℕ) → slice_get axioms slot ≡ Some (Pair x y) → slice_get axioms other ≡ Some (Pair x y) → slot ≡ other

  pairs_then : PairsAreApart end
  pairs_then =
      let before : learnt.axioms ≡ p.axioms = ap (λ (k : Metadata). k.axioms) relates.learns.metadata in
      let after : linked.axioms ≡ slice_set p.axioms relates.links.slot (Pair from to) =
      ap (λ (k : Metadata). k.axioms) relates.links.metadata ∙ ap (λ (xs : List AxiomSlot). slice_set xs relates.links.slot (Pair from to)) before in
      let P : List AxiomSlot → Type 0 = λ xs. AreOnce xs in
      subst P after (apart_linked from to learnt linked relates.links none_there (subst P (sym before) was.pairs))

  right_declared : is_taken p.declared to ≡ true
  right_declared =
      let number = some_number (number_of p.dict right) may.numbered in
      let same = one_number learnt relates.sound number.0 to right (relates.learns.keeps number.0 right (word_from_number p.dict sound.dict right number.0 number.1)) link.is_to in
      subst (λ n. is_taken p.declared n ≡ true) same (ap (bit_of p.declared) (sym number.1) ∙ may.declared)

  -- ---- what is in use
  linked_used : (n : ℕ) → IsSome (word_of learnt.dict n) → is_used linked n ≡ true
  linked_used n some = relates.links.used n ∙ by (word_before p learnt more relates.learns sound relates.sound n word.0 word.1)
    where
      word : (w : List ℕ) × (word_of learnt.dict n ≡ Some w)
      word = some_word (word_of learnt.dict n) some

      new : Among (heads left) word.0 ⊎ Among (left ∷ []) word.0 → ((from == n) || is_head_by (word_of learnt.dict from) (word_of learnt.dict n)) ≡ true
      new (inl head) =
          let parts = among_heads left word.0 head in
          or_right (from == n) (is_head_by (word_of learnt.dict from) (word_of learnt.dict n))
          (ap₂ is_head_by link.is_from word.1 ∙ and_from (is_valued left) (same_word (head_bytes left) word.0) parts.0 ((same_word_decides (head_bytes left) word.0).1 parts.1))
      new (inr (inl same)) = or_left (from == n) (is_head_by (word_of learnt.dict from) (word_of learnt.dict n)) (eq-eqb from n (one_number learnt relates.sound from n left link.is_from (word.1 ∙ ap Some (sym same))))
      new (inr (inr none)) = absurd none

      by : (word_of p.dict n ≡ Some word.0) ⊎ Among more word.0 → ((from == n) || is_head_by (word_of learnt.dict from) (word_of learnt.dict n) || is_used learnt n) ≡ true
      by (inl before) = or_right ((from == n) || is_head_by (word_of learnt.dict from) (word_of learnt.dict n)) (is_used learnt n) (used_learnt p learnt more relates.learns sound n (was.in_use.used n (ap is_some before)))
      by (inr m) = or_left ((from == n) || is_head_by (word_of learnt.dict from) (word_of learnt.dict n)) (is_used learnt n) (new (among_append (heads left) (left ∷ []) word.0 m))

  used_then : AreUsed end
  used_then n some = subst (λ (k : Metadata). is_used k n ≡ true) made_end (used_linked link relates.rebuilds n (linked_used n some))

  in_use_then : KeepsInUse end
  in_use_then = record {
    used = used_then;
    tags = λ slot rec is n tag. had_stays n slot (was.in_use.tags slot rec is n tag);
    rights = λ slot x y is. by slot x y (set_cases p.axioms relates.links.slot FreeAxiom (Pair from to) slot_was_free slot (Pair x y) is);
  }
    where
      by : (slot x y : ℕ) → ((slot ≡ relates.links.slot) × (◌≡◌ {A = AxiomSlot} (Pair from to) (Pair x y))) ⊎ ((slot ≡ relates.links.slot → ⊥) × (slice_get p.axioms slot ≡ Some (Pair x y)))
          → is_taken p.declared y ≡ true
      by slot x y (inl new) = subst (λ n. is_taken p.declared n ≡ true) (same_sides new.1).1 right_declared
      by slot x y (inr older) = was.in_use.rights slot x y older.1

  tests_learnt : TestsAreMet learnt
  tests_learnt =
      let more_words : Metadata = record p { dict = learnt.dict; marks = learnt.marks } in
      let after : AreSound more_words = subst (λ (k : Metadata). AreSound k) relates.learns.metadata relates.sound in
      subst (λ (k : Metadata). TestsAreMet k) (sym relates.learns.metadata)
      (tests_stay p more_words (λ at rec there. there) (λ n w is test. flagged_before p sound learnt.dict relates.learns.keeps n w (test_flagged more_words after n w is test) is)
      (λ n at rec w there before test. refl) was.tests)

  -- ---- the store is well formed again
  form_end : AreSound end → AreInForm end
  form_end after = record {
    sound = after;
    free = subst (λ (k : Metadata). FreeSlotsAreEmpty k) made_end (free_made (is_rebuilt link relates.rebuilds) (subst (λ (k : Metadata). FreeSlotsAreEmpty k) (sym relates.links.metadata) link.free));
    closed = subst (λ (k : Metadata). AreClosed k) made_end (closed_linked link relates.rebuilds);
    short = short_then;
    in_use = in_use_then;
    tests = subst (λ (k : Metadata). TestsAreMet k) made_end (tests_linked link relates.rebuilds tests_learnt);
  }

  few_marked : marked_count p ≡ 0 → marked_count q ≤ 3 + most_all p.limits
  few_marked none =
      let ups = numbers_where learnt.limits.props (is_entailed learnt to) in
      let few = few_made (is_rebuilt link relates.rebuilds) (some_had linked.ext from) ups
      (λ slot had.
      let numbers = closure linked (of_all linked from slot) in
      let le = few_within ups numbers (sorted_where learnt.limits.props (is_entailed learnt to)) (λ n m.
      among_from_number numbers n (closure_up link n slot (ap (λ (k : Metadata). has k.ext from slot) (sym relates.links.metadata) ∙ had) (among_where learnt.limits.props (is_entailed learnt to) n m).1)) in
      omega (arith, le, few_wide slot had))
      (λ slot n here turned.
      let up_so = turned_linked link relates.rebuilds slot n turned in
      where_among learnt.limits.props (is_entailed learnt to) n (named_below learnt relates.sound n (ap is_some (led learnt to n up_so).is_to)) up_so) in
      omega (arith, none, relates.learns.marks.few, behind_few left, relates.links.marks.few, few, ap (λ (k : Metadata). most_all k.limits) relates.links.metadata, ap (λ (k : Metadata). most_all k.limits) relates.learns.metadata)

  pub axiom_change : old.is_broken ≡ false → IsChange old q
  axiom_change unbroken = record {
    settles = λ after.
        subst (λ (k : Metadata). IsSound (settled k old.journal)) (sym end_is)
        (settled_sound end old.journal (form_end (subst (λ (k : Metadata). AreSound k) end_is after)) pairs_then was.image (was.journal unbroken));
    limits = ap (λ (k : Metadata). k.limits) end_is;
    room = omega (arith, few_marked (none_marked p (was.clean unbroken)), all_fits p.limits was.metadata.range, was.few unbroken);
    edits = subst (λ (e : Ext). AreEditsFew e q.ext) ext_before (made_edits (is_rebuilt link relates.rebuilds));
  }

  -- ---- the state that it represents
  module _ (at : ℕ → List ℕ) (s : State) (tells : Tells p at s) where
    abbrev t : State
    t = axiom_added s (left, right)

    state_before : state_of learnt at ≡ s
    state_before = relates.learns.state at ∙ tells.state

    state_then : state_of q at ≡ t
    state_then =
        ap (λ (k : Metadata). state_of k at) relates.rebuilds.metadata
        ∙ (relates.links.state at left right link.is_from link.is_to ∙ ap (λ (x : State). axiom_added x (left, right)) state_before)

    described_then : (f : Filed) → Contains p.catalog.entries f → words_told learnt.dict (numbers_at q.ext f.slot) ≡ description t (file_told p.limits learnt.dict at f)
    described_then f m =
        let before = described_learnt p learnt more relates.learns sound at s tells.state tells.described f m in
        described_linked link relates.rebuilds f.slot (file_told learnt.limits learnt.dict at f) before
        ∙ (ap (λ (x : State). description (axiom_added x (left, right)) (file_told learnt.limits learnt.dict at f)) state_before
        ∙ ap (λ (k : Metadata). description t (file_told k.limits learnt.dict at f)) relates.learns.metadata)

    file_same : (f : Filed) → Among p.catalog.entries f → file_told p.limits learnt.dict at f ≡ file_told p.limits p.dict at f
    file_same f of = file_learnt p learnt more relates.learns sound at f of

    tags_stay : (f : Filed) → Among p.catalog.entries f → (n : ℕ) → Among f.rec.tags n → word_of q.dict n ≡ word_of p.dict n
    tags_stay f of n tag =
        let there = filed_rec p.catalog sound.catalog f of in
        let w = some_word (word_of p.dict n) (named_all p sound was.free n f.slot (was.in_use.tags f.slot f.rec there n (number_from_among f.rec.tags n tag))) in
        ap (λ (k : Metadata). word_of k.dict n) end_is ∙ (relates.learns.keeps n w.0 w.1 ∙ sym w.1)

    ready_related : AxiomFits s (left, right) → IsSaved p at → IsReady q at t
    ready_related fits saved = record {
      tells =
          retold p q (subst (λ (k : Metadata). k ≡ record p { dict = k.dict; declared = k.declared; axioms = k.axioms; ext = k.ext; marks = k.marks }) (sym end_is) refl) tags_stay at s t tells refl
          state_then (forms.adds_axiom s tells.formed (left, right) fits) (subst (λ (k : Metadata). AreUsed k) (sym end_is) used_then)
          (λ f of. ap (λ (k : Metadata). words_told k.dict (numbers_at q.ext f.slot)) end_is ∙ (described_then f (contains_from_among p.catalog.entries f of) ∙ ap (description t) (file_same f of)));
      saved = relates.rebuilds.saved at (relates.links.marks.saved at (relates.learns.marks.saved at saved));
    }

  pub axiom_holds : {T : Type 0} {new : Stored} {before after : Meaning} {result : Result T ChangeFault} {base : State} {outcome : Outcome} → old.is_broken ≡ false → Saves q old.journal new before after result
      → (now : Situation) → StoreHolds old before base now.state → AxiomFits now.state (left, right) → outcome ≡ changed now (axiom_added now.state (left, right)) → Holds base now outcome new before after result
  axiom_holds unbroken saves now holds fits done =
      saves_alone old was unbroken (axiom_change unbroken) saves now (axiom_added now.state (left, right)) holds
      (ready_related (looked old.journal.staged holds.kept) now.state holds.tells fits (λ area n lt unmarked. holds.written area n lt)) done
