-- What removing an axiom gives: the axiom is found by its words and removed, and descriptions lose what they had by it alone.
use Rattle.std.proofs.Common.{rules}
use Rattle.lis_words.specs.declared.test.Test.{Test}
use Rattle.lis_store.proofs.Common.{◌≡◌, refl, sym, ap, ◌∙◌, subst, ℕ, ◌==◌, true, false, List, Some, None, ◌⊎◌, inl, inr, not, ◌||◌, Bool, cond, length, slice_get, Option, is_some, IsSome, option_to_list, arith, ap₂, ◌≤◌, ◌&&◌, if◌then◌else◌, [], filter, slice_set, Result, and_parts, none-some, Among, number_of, word_from_number, number_from_word, FreeAxiom, Pair, same_word, same_pair, has_axiom, same_word_decides, Metadata, AreSound, has_pair, axioms_of, among_axiom, or_cases, not-true, not_from_false, among_filter, filter_among, is_taken, Dict, IsDict, word_of, rec_at, has, numbers_at, FileRecord, is_plain_word, is_test, is_valued, has_word, test_of, plain_not_test, with_axiom, File, up, all_up, own_words, file_words, is_met, entails_from_up, derived_built_in, among_with_words, OwnWord, own_word, own_from, Assigned, Derived, Met, MayForget, FreeSlotsAreEmpty, bit_of, is_declared, declared_of, is_head_by, is_used, AreUsed, among_word, word_among, declared_word, declared_has_number, used_flagged, used_had, IsStrictlySortedBy, contains_from_among, sorted_from_rising, Filed, Ext, differs, State, pair_cmp, description, IsSaved, is_own_link, state_of, Tells, among_where, where_among, sorted_where, filed_rec, some_word, named_below, named_all, number_told, same_Some, Meaning, looked, Situation, refused, both_ways, false_from_ne_true, or_left, or_right, among_from_any, has_number, words, all_up_has, same_tests, is_linked, words_told, file_told, among_from_number, number_from_among, one_number, numbers_where, changed, built_in_not_plain}
use Rattle.lis_kept.specs.Sound.{IsSoundAxiom}
use Rattle.lis_kept.proofs.AxiomsTold.{axiom_told}
use Rattle.lis_kept.proofs.OwnLinks.{pair_slot}
use Rattle.lis_store.proofs.Declared.{slot_pair}
use Rattle.lis_store.specs.Unlinking.{IsAxiomAt, heads_by, with_head, TakesAxiom}
use Rattle.lis_words.proofs.Tests.{test_not_plain}
use Rattle.lis_laws.proofs.Closures.{with_one_axiom}
use Rattle.lis_laws.proofs.Leads.{declared_leads}
use Rattle.lis_kept.specs.Linking.{Unlinks, MayUnlink}
use Rattle.lis_kept.proofs.AxiomSlots.{set_cases}
use Rattle.lis_kept.proofs.Emptied.{flagged_not_valued}
use Rattle.lis_kept.proofs.Known.{axiom_among}
use Rattle.lis_kept.proofs.Used.{is_at, head_by_number}
use Rattle.lis_store.specs.Closing.{is_entailed, closure, is_concerned, tags_by, tags_at, stays, base_at, rebuilt}
use Rattle.lis_store.specs.declared.closing.Rebuild.TheVariants.{Losing}
use Rattle.lis_store.specs.Redescribing.{Redescribes}
use Rattle.lis_store.specs.Stored.{AreClosed, PairsAreApart, DescriptionsAreShort, TestsAreMet, IsSound, Stored, StoreHolds}
use Rattle.lis_store.proofs.Closed.{led, led_from, led_plain, closure_has, closure_within, closure_few, closure_told, led_had, few_within}
use Rattle.lis_store.proofs.HeadsUsed.{head_used, use_stays}
use Rattle.lis_store.proofs.Rebuilt.{IsRebuilt, had_filed, made_is, set_where, short_made, closed_made, tests_made, turned_cases, free_made, some_had, few_made, made_edits}
use Rattle.lis_model.specs.Changes.{axiom_removed}
use Rattle.lis_laws.proofs.Members.{pair_order}
use Rattle.lis_laws.proofs.Sources.{rights_are, right_plain}
use Rattle.lis_kept.specs.Edges.{head_number}
use Rattle.lis_kept.proofs.AxiomTaken.{axiom_back, taken_unfelt}
use Rattle.lis_store.specs.Saving.{settled, IsReady, Saves}
use Rattle.lis_store.proofs.Cleaned.{none_marked}
use Rattle.lis_store.proofs.Fitting.{most_all, all_fits}
use Rattle.lis_store.proofs.Forgot.{word_before, word_stays, known_used}
use Rattle.lis_store.proofs.FileTests.{tests_stay}
use Rattle.lis_store.proofs.OwnStay.{own_before}
use Rattle.lis_store.proofs.Told.{words_same, retold}
use Rattle.lis_model.specs.declared.refusal.Refusal.TheVariants.{NoAxiom}
use Rattle.lis_model.specs.Step.{unaxiom}
use Rattle.lis_store.specs.declared.change_fault.ChangeFault.{ChangeFault}
use Rattle.lis_store.specs.Changes.{Holds, AreEditsFew}
use Rattle.lis_store.proofs.SavedAlone.{IsChange, saves_alone}
use Rattle.lis_store.proofs.Retaken.{settled_sound}
use Rattle.lis_store.specs.ReplacingIn.{AreInForm}
use Rattle.lis_laws.proofs.Forms as forms
use Rattle.lis_kept.specs.Image.{image_shape}

-- ---- finding an axiom
-- an axiom between two numbers is one that is kept
pub pair_sound : (k : Metadata) → AreSound k → (left right : ℕ) → has_pair k.axioms left right ≡ true → (slot : ℕ) × IsSoundAxiom k slot left right
pair_sound k sound left right has = let at = pair_slot k.axioms left right has in (at.0, sound.axioms at.0 left right at.1)

module _ (k : Metadata) (sound : AreSound k) (l r : List ℕ) where
  -- its words have numbers
  numbered : has_axiom (axioms_of k) (l, r) ≡ true → (x : ℕ) × (y : ℕ) × (number_of k.dict l ≡ Some x) × (number_of k.dict r ≡ Some y)
  numbered has =
      let found = among_from_any (λ p. same_pair p (l, r)) (axioms_of k) has in
      let e = found.0 in
      let same = and_parts (same_word e.0 l) (same_word e.1 r) found.2 in
      let at = among_axiom k sound e found.1 in (
        at.1,
        at.2,
        number_from_word k.dict sound.dict l at.1 (at.4 ∙ ap Some ((same_word_decides e.0 l).0 same.0)),
        number_from_word k.dict sound.dict r at.2 (at.5 ∙ ap Some ((same_word_decides e.1 r).0 same.1)),
      )

  pub no_left : number_of k.dict l ≡ None → false ≡ has_axiom (axioms_of k) (l, r)
  no_left none = sym (false_from_ne_true (has_axiom (axioms_of k) (l, r)) (λ has. let at = numbered has in none-some at.0 (sym none ∙ at.2)))

  pub no_right : number_of k.dict r ≡ None → false ≡ has_axiom (axioms_of k) (l, r)
  no_right none = sym (false_from_ne_true (has_axiom (axioms_of k) (l, r)) (λ has. let at = numbered has in none-some at.1 (sym none ∙ at.3)))

  module _ (left right : ℕ) (is_left : number_of k.dict l ≡ Some left) (is_right : number_of k.dict r ≡ Some right) where
    pub found_told : has_axiom (axioms_of k) (l, r) ≡ has_pair k.axioms left right
    found_told = axiom_told k sound left right l r (word_from_number k.dict sound.dict l left is_left) (word_from_number k.dict sound.dict r right is_right)

    pub found_at : has_pair k.axioms left right ≡ true → IsAxiomAt k l r left right
    found_at there = record {
      is_left = word_from_number k.dict sound.dict l left is_left;
      is_right = word_from_number k.dict sound.dict r right is_right;
      plain = (pair_sound k sound left right there).1.plain r (word_from_number k.dict sound.dict r right is_right);
      there = there;
    }

-- ---- memory without it
-- axioms lead to declared words
abbrev pub RightsAreDeclared : Metadata → Type 0
RightsAreDeclared k = (slot x y : ℕ) → slice_get k.axioms slot ≡ Some (Pair x y) → is_taken k.declared y ≡ true

-- a file has the words that are assigned to it
abbrev pub TagsAreHad : Metadata → Type 0
TagsAreHad k = (slot : ℕ) (rec : FileRecord) → rec_at k.catalog slot ≡ Some rec → (n : ℕ) → has_number rec.tags n ≡ true → has k.ext n slot ≡ true

-- ---- without the axiom
module _ {left right : ℕ} {p k : Metadata} (unlinks : Unlinks left right p k) where
  -- each other axiom was there before
  was_there : (at x y : ℕ) → slice_get k.axioms at ≡ Some (Pair x y) → slice_get p.axioms at ≡ Some (Pair x y)
  was_there at x y is = search (rules, set_cases)

  pub rights_unlinked : RightsAreDeclared p → RightsAreDeclared k
  rights_unlinked rights slot x y is = ap (λ (u : Metadata). is_taken u.declared y) unlinks.metadata ∙ rights slot x y (was_there slot x y is)

  pub pairs_unlinked : PairsAreApart p → PairsAreApart k
  pairs_unlinked apart slot other x y is_slot is_other = apart slot other x y (was_there slot x y is_slot) (was_there other x y is_other)

  pub closed_unlinked : AreClosed p → AreClosed k
  closed_unlinked closed slot a b had linked = search (rules, and_parts)

  pub tags_unlinked : TagsAreHad p → TagsAreHad k
  tags_unlinked = subst TagsAreHad (sym unlinks.metadata)

  pub right_flagged : RightsAreDeclared p → is_taken k.declared right ≡ true
  right_flagged rights = ap (λ (u : Metadata). is_taken u.declared right) unlinks.metadata ∙ rights unlinks.slot left right unlinks.there

-- ---- descriptions
-- The axiom between two numbers is removed, and descriptions that have the left number are rebuilt.
pub record IsLessened (left right : ℕ) (k m : Metadata) : Type 0 where
  pub sound : AreSound k
  pub closed : AreClosed k
  pub free : FreeSlotsAreEmpty k
  pub lessens : Redescribes (rebuilt k (Losing left right)) k.limits.files k m

-- from numbers that it has
pub less_had : (k : Metadata) (left right slot n : ℕ) → Among (base_at k (Losing left right) slot) n → has k.ext n slot ≡ true
less_had k left right slot n among = number_from_among (numbers_at k.ext slot) n (among_filter (stays k right (tags_at k slot)) (numbers_at k.ext slot) n among).0

module _ {left right : ℕ} {k m : Metadata} (l : IsLessened left right k m) where
  abbrev pub base : ℕ → List ℕ
  base = base_at k (Losing left right)

  pub is_rebuilt : IsRebuilt (is_concerned k (Losing left right)) base k m
  is_rebuilt = record { sound = l.sound; filed = λ slot had. had_filed k l.free left slot had; redescribes = l.lessens }

  abbrev pub less : Metadata
  less = record k { ext = m.ext; marks = m.marks }

  pub base_had : (slot n : ℕ) → Among (base slot) n → has k.ext n slot ≡ true
  base_had slot n among = less_had k left right slot n among

  -- a number that stays is kept
  pub base_has : (n slot : ℕ) → IsSome (word_of k.dict n) → has k.ext n slot ≡ true → stays k right (tags_at k slot) n ≡ true → has_number (closure k (base slot)) n ≡ true
  base_has n slot worded had held = search (rules, closure_has, filter_among, among_from_number)

  pub had_on : (n slot : ℕ) → IsSome (word_of k.dict n) → has k.ext n slot ≡ true → stays k right (tags_at k slot) n ≡ true → has m.ext n slot ≡ true
  had_on n slot worded had held = set_where is_rebuilt (λ ns. has_number ns n ≡ true) slot (λ here. base_has n slot worded had held) (λ other. had)

  -- the right word entails what is lost
  pub lost_led : (n slot : ℕ) → IsSome (word_of k.dict n) → has k.ext n slot ≡ true → has_number (closure k (base slot)) n ≡ false → is_entailed k right n ≡ true
  lost_led n slot worded had gone = by (is_entailed k right n) refl
    where
      by : (b : Bool) → is_entailed k right n ≡ b → is_entailed k right n ≡ true
      by true is = is
      by false is =
          absurd (both_ways (has_number (closure k (base slot)) n) gone
          (base_has n slot worded had (or_right (has_number (tags_at k slot) n) (not (is_entailed k right n)) (not_from_false (is_entailed k right n) is))))

  pub lost : (n slot : ℕ) → IsSome (word_of k.dict n) → has k.ext n slot ≡ true → has m.ext n slot ≡ false → is_entailed k right n ≡ true
  lost n slot worded had gone =
      set_where is_rebuilt (λ ns. has_number ns n ≡ false → is_entailed k right n ≡ true) slot (λ here. lost_led n slot worded had) (λ other none. absurd (both_ways (has k.ext n slot) none had)) gone

  pub tags_less : TagsAreHad k → TagsAreHad less
  tags_less tags slot rec is n tag = search (rules, had_on, or_left)

  pub short_less : DescriptionsAreShort k → DescriptionsAreShort less
  short_less short = short_made is_rebuilt (λ slot here. omega (arith, closure_few k l.sound (base slot) l.closed slot (base_had slot), short slot)) short

  pub closed_less : AreClosed less
  closed_less = closed_made is_rebuilt (λ slot a b none had linked. l.closed slot a b had linked)

  -- what a plain word entails is no test
  pub tests_less : (r : List ℕ) → word_of k.dict right ≡ Some r → is_plain_word r ≡ true → TestsAreMet k → TestsAreMet less
  tests_less r is_right plain = tests_made is_rebuilt (λ n slot w is test here.
      same_tests (has_number (closure k (base slot)) n) (has k.ext n slot) (closure_within k l.sound (base slot) l.closed slot (base_had slot) n)
      (λ had. base_has n slot (ap is_some is) had (or_right (has_number (tags_at k slot) n) (not (is_entailed k right n)) (not_from_false (is_entailed k right n)
      (false_from_ne_true (is_entailed k right n) (λ entailed. both_ways (is_test w) (plain_not_test w (led_plain k l.sound right n r w is_right plain is entailed)) test))))))

  -- ---- use
  module _ (rights : RightsAreDeclared k) (flagged : is_taken k.declared right ≡ true) where
    flag_of : (n : ℕ) (w : List ℕ) → word_of k.dict n ≡ Some w → Among (declared_of k) w → is_taken k.declared n ≡ true
    flag_of n w is there = sym (ap (bit_of k.declared) (number_from_word k.dict l.sound.dict w n is)) ∙ (among_filter (is_declared k) (words k.dict) w there).1

    none_valued : (w : List ℕ) → Among (declared_of k) w → is_valued w ≡ false
    none_valued w there = let n = declared_has_number k l.sound w there in flagged_not_valued k l.sound n.0 w n.1 (flag_of n.0 w n.1 there)

    rights_there : (e : List ℕ × List ℕ) → Among (axioms_of k) e → Among (declared_of k) e.1
    rights_there e there = let at = among_axiom k l.sound e there in declared_word k l.sound at.2 e.1 at.5 (rights at.0 at.1 at.2 at.3)

    -- what the right word entails is declared
    pub led_flagged : (n : ℕ) → is_entailed k right n ≡ true → is_taken k.declared n ≡ true
    led_flagged n is =
        let e = led k right n is in
        let chain = entails_from_up (declared_of k) (axioms_of k) e.from e.to e.entailed in
        flag_of n e.to e.is_to
        (declared_leads (declared_of k) (axioms_of k) none_valued rights_there chain.0 e.from e.to (declared_word k l.sound right e.from e.is_from flagged) chain.1)

    pub used_on : (n : ℕ) → IsSome (word_of k.dict n) → is_used k n ≡ true → is_used less n ≡ true
    used_on n worded used = use_stays k less n (λ bit. bit) (λ lefts. lefts) (λ slot was. had slot was (has m.ext n slot) refl) used
      where
        had : (slot : ℕ) → has k.ext n slot ≡ true → (b : Bool) → has m.ext n slot ≡ b → is_used less n ≡ true
        had slot was true now = used_had less n slot now
        had slot was false gone = used_flagged less n (led_flagged n (lost n slot worded was gone))

-- ---- what may be removed
at_has : (o : Option ℕ) (n : ℕ) → is_at o n ≡ true → has_number (option_to_list o) n ≡ true
at_has o n is = search (rules, both_ways, or_left)

head_has : (d : Dict) → IsDict d → (o : Option (List ℕ)) (n : ℕ) → is_head_by o (word_of d n) ≡ true → has_number (heads_by d o) n ≡ true
head_has d dict o n is = search (rules, both_ways, at_has, head_by_number)

module _ {left right : ℕ} {k m : Metadata} (l : IsLessened left right k m) (p : Metadata) (sound_before : AreSound p) (used : AreUsed p) (unlinks : Unlinks left right p k) (rights : RightsAreDeclared p) where
  -- a known word that is not in use is the left one, or its head
  pub unused_is : (n : ℕ) → is_some (word_of p.dict n) ≡ true → is_used (less l) n ≡ false → has_number (with_head p.dict left) n ≡ true
  unused_is n some unused = by (or_cases ((left == n) || is_head_by (word_of p.dict left) (word_of p.dict n)) (is_used k n) (sym (unlinks.used n) ∙ used n some))
    where
      head : is_head_by (word_of p.dict left) (word_of p.dict n) ≡ true → has_number (with_head p.dict left) n ≡ true
      head is = or_right (left == n) (has_number (heads_by p.dict (word_of p.dict left)) n) (head_has p.dict sound_before.dict (word_of p.dict left) n is)

      front : ((left == n) ≡ true) ⊎ (is_head_by (word_of p.dict left) (word_of p.dict n) ≡ true) → has_number (with_head p.dict left) n ≡ true
      front (inl same) = or_left (left == n) (has_number (heads_by p.dict (word_of p.dict left)) n) same
      front (inr is) = head is

      by : (((left == n) || is_head_by (word_of p.dict left) (word_of p.dict n)) ≡ true) ⊎ (is_used k n ≡ true) → has_number (with_head p.dict left) n ≡ true
      by (inl either) = front (or_cases (left == n) (is_head_by (word_of p.dict left) (word_of p.dict n)) either)
      by (inr still) =
          absurd (both_ways (is_used (less l) n) unused
          (used_on l (rights_unlinked unlinks rights) (right_flagged unlinks rights) n (ap (λ (u : Metadata). is_some (word_of u.dict n)) unlinks.metadata ∙ some) still))

  pub gone_may_forget : TagsAreHad p → AreSound m → MayForget (with_head p.dict left) m
  gone_may_forget tags sound_then =
      subst (λ (u : Metadata). MayForget (with_head p.dict left) u) (sym (made_is (is_rebuilt l))) (record {
        given = λ n some unused. unused_is n (ap (λ (u : Metadata). is_some (word_of u.dict n)) (sym unlinks.metadata) ∙ some) unused;
        tags = λ slot rec is n tag. used_had (less l) n slot (tags_less l (tags_unlinked unlinks tags) slot rec is n tag);
        rights = λ slot x y is. used_flagged (less l) y (rights_unlinked unlinks rights slot x y is);
        heads = λ n head n_used is. head_used (less l) (subst (λ (u : Metadata). AreSound u) (made_is (is_rebuilt l)) sound_then) (closed_less l) n head is n_used;
      })

-- ---- what remains of a description
module _ {left right : ℕ} {k m : Metadata} (l : IsLessened left right k m) (slot : ℕ) (w r : List ℕ) (file : File) (is_right : word_of k.dict right ≡ Some r) (plain : is_plain_word r ≡ true)
    (given : file.assigned ≡ words_told k.dict (tags_at k slot)) (told : words_told k.dict (numbers_at k.ext slot) ≡ file_words (declared_of k) (with_axiom (axioms_of k) (w, r)) file) where
  abbrev D : List (List ℕ)
  D = declared_of k

  abbrev A : List (List ℕ × List ℕ)
  A = axioms_of k

  abbrev own : List (List ℕ)
  own = own_words D file

  abbrev old : List ℕ
  old = numbers_at k.ext slot

  abbrev tags : List ℕ
  tags = tags_at k slot

  -- the right word does not entail what is not plain
  not_plain_stays : (u : List ℕ) (n : ℕ) → word_of k.dict n ≡ Some u → is_plain_word u ≡ false → stays k right tags n ≡ true
  not_plain_stays u n is never = search (rules, or_right, not_from_false, false_from_ne_true, both_ways, led_plain)

  met_not_plain : (u : List ℕ) → (t : Option Test) → test_of u ≡ t → is_met t (length file.bytes) ≡ true → is_plain_word u ≡ false
  met_not_plain u t is met = search (rules, both_ways, test_not_plain)

  own_stays : (u : List ℕ) (n : ℕ) → word_of k.dict n ≡ Some u → OwnWord D file u → stays k right tags n ≡ true
  own_stays u n is (Assigned of) =
      let tag = among_word k l.sound tags u (subst (λ ws. Among ws u) given of) in
      or_left (has_number tags n) (not (is_entailed k right n)) (subst (λ i. has_number tags i ≡ true) (one_number k l.sound tag.0 n u tag.1 is) tag.2)
  own_stays u n is (Derived of) = not_plain_stays u n is (built_in_not_plain u (derived_built_in file.name file.bytes u of))
  own_stays u n is (Met there met) = not_plain_stays u n is (met_not_plain u (test_of u) refl met)

  -- a word of the old description is entailed without the axiom, or by its right word
  come : (u : List ℕ) → Among (file_words D (with_axiom A (w, r)) file) u → Among (all_up D A own) u ⊎ Among (up D A r) u
  come u among = search (rules, with_one_axiom, among_with_words)

  -- the word of a number that stays is entailed without it
  held_come : (n : ℕ) (u : List ℕ) → word_of k.dict n ≡ Some u → Among old n → stays k right tags n ≡ true → Among (all_up D A own) u
  held_come n u is among held = by (or_cases (has_number tags n) (not (is_entailed k right n)) held) (come u (subst (λ ws. Among ws u) told (word_among k l.sound old n u is (number_from_among old n among))))
    where
      by : (has_number tags n ≡ true) ⊎ (not (is_entailed k right n) ≡ true) → Among (all_up D A own) u ⊎ Among (up D A r) u → Among (all_up D A own) u
      by (inl tag) any = all_up_has D A own u (own_from D file u (Assigned (subst (λ ws. Among ws u) (sym given) (word_among k l.sound tags n u is tag))))
      by (inr not_led) (inl without) = without
      by (inr not_led) (inr by_right) = absurd (both_ways (is_entailed k right n) (not-true (is_entailed k right n) not_led) (led_from k right n r u is_right is by_right))

  pub lessened_told : words_told k.dict (closure k (base l slot)) ≡ file_words D A file
  lessened_told =
      closure_told k l.sound (base l slot) own
      (λ u among.
      let at = among_word k l.sound old u (subst (λ ws. Among ws u) (sym told) (all_up_has D (with_axiom A (w, r)) own u among)) in
      (at.0, at.1, filter_among (stays k right tags) old at.0 (among_from_number old at.0 at.2) (own_stays u at.0 at.1 (own_word D file u among))))
      (λ n u is among. let both = among_filter (stays k right tags) old n among in held_come n u is both.0 both.1)

-- ---- the call
-- an axiom that may be removed
pub may_go : (k : Metadata) → PairsAreApart k → (l r : List ℕ) (left right : ℕ) → IsAxiomAt k l r left right → MayUnlink left right k
may_go k apart l r left right found = search (rules, same_Some)

-- what `unaxiom` gives
pub unaxiom_is : {old : Stored} {m : Meaning} {base : State} (l r : List ℕ) (b : Bool) → has_axiom (axioms_of old.metadata) (l, r) ≡ b → (now : Situation) → StoreHolds old m base now.state
    → unaxiom now (l, r) ≡ cond (not b) (refused now NoAxiom) (changed now (axiom_removed now.state (l, r)))
unaxiom_is l r b has now fits = search (rules)

-- ---- what becomes of the store
heads_few : (d : Dict) (o : Option (List ℕ)) → length (heads_by d o) ≤ 1
heads_few d None = omega arith
heads_few d (Some w) = by (head_number d w)
  where
    by : (o : Option ℕ) → length (option_to_list o) ≤ 1
    by None = omega arith
    by (Some n) = omega arith

module _ {left right : ℕ} {old : Stored} {q : Metadata} (was : IsSound old) (takes : TakesAxiom left right old.metadata q) where
  -- memory at the start, without the axiom, then with smaller descriptions, and at the end
  abbrev p : Metadata
  p = old.metadata

  abbrev k : Metadata
  k = takes.unlinked

  abbrev m : Metadata
  m = takes.made

  abbrev fewer : Metadata
  fewer = record k { ext = m.ext; marks = m.marks }

  abbrev end : Metadata
  end = record fewer { dict = q.dict; marks = q.marks }

  abbrev numbers : List ℕ
  numbers = with_head p.dict left

  end_is : q ≡ end
  end_is = takes.forgets.metadata ∙ ap (λ (u : Metadata). record u { dict = q.dict; marks = q.marks }) takes.lessens.metadata

  dict_is : k.dict ≡ p.dict
  dict_is = ap (λ (u : Metadata). u.dict) takes.unlinks.metadata

  lessened : IsLessened left right k m
  lessened = search (rules, closed_unlinked)

  tags_k : TagsAreHad k
  tags_k = tags_unlinked takes.unlinks was.in_use.tags

  -- ---- words
  words_then : (n : ℕ) → word_of q.dict n ≡ (if has_number numbers n && not (is_used fewer n) then None else word_of k.dict n)
  words_then n = subst (λ (u : Metadata). word_of q.dict n ≡ (if has_number numbers n && not (is_used u n) then None else word_of u.dict n)) takes.lessens.metadata (takes.forgets.words n)

  was_word : (n : ℕ) (w : List ℕ) → word_of q.dict n ≡ Some w → word_of k.dict n ≡ Some w
  was_word = word_before k.dict q.dict numbers (is_used fewer) words_then

  used_stays : (n : ℕ) → is_used fewer n ≡ true → word_of q.dict n ≡ word_of k.dict n
  used_stays = word_stays k.dict q.dict numbers (is_used fewer) words_then

  used_then : AreUsed q
  used_then n some =
      takes.forgets.used n some
      ∙ (ap (λ (u : Metadata). is_used u n) takes.lessens.metadata ∙ known_used k.dict q.dict numbers (is_used fewer) words_then (λ i known. by i known (is_used fewer i) refl) n some)
    where
      by : (i : ℕ) → is_some (word_of k.dict i) ≡ true → (c : Bool) → is_used fewer i ≡ c → (is_used fewer i ≡ true) ⊎ (has_number numbers i ≡ true)
      by i known true used = inl used
      by i known false unused =
          let before = ap (λ d. is_some (word_of d i)) (sym dict_is) ∙ known in
          inr (unused_is lessened p was.metadata was.in_use.used takes.unlinks was.in_use.rights i before unused)

  -- ---- the store is well formed again
  declared_same : declared_of end ≡ declared_of k
  declared_same = ap declared_of (sym end_is) ∙ (ap (λ (s : State). s.declared) (takes.forgets.state (λ n. [])) ∙ ap declared_of takes.lessens.metadata)

  link_back : (x y : ℕ) → is_linked end x y ≡ true → is_linked k x y ≡ true
  link_back x y linked = by (or_cases (is_own_link (declared_of end) (word_of q.dict x) (word_of q.dict y)) (has_pair k.axioms x y) linked)
    where
      by : (is_own_link (declared_of end) (word_of q.dict x) (word_of q.dict y) ≡ true) ⊎ (has_pair k.axioms x y ≡ true) → is_linked k x y ≡ true
      by (inl own) =
          or_left (is_own_link (declared_of k) (word_of k.dict x) (word_of k.dict y)) (has_pair k.axioms x y)
          (own_before (declared_of k) (word_of q.dict x) (word_of q.dict y) (word_of k.dict x) (word_of k.dict y) (was_word x) (was_word y)
          (subst (λ ws. is_own_link ws (word_of q.dict x) (word_of q.dict y) ≡ true) declared_same own))
      by (inr pair) = or_right (is_own_link (declared_of k) (word_of k.dict x) (word_of k.dict y)) (has_pair k.axioms x y) pair

  tests_end : TestsAreMet end
  tests_end =
      let edge = was.metadata.axioms takes.unlinks.slot left right takes.unlinks.there in
      let r = some_word (word_of p.dict right) edge.right in
      let before : TestsAreMet k = subst (λ (u : Metadata). TestsAreMet u) (sym takes.unlinks.metadata) (record { given = was.tests.given; met = was.tests.met }) in
      tests_stay fewer end (λ at rec there. there) (λ n w is test. was_word n w is) (λ n at rec w there is test. refl)
      (tests_less lessened r.0 (ap (λ d. word_of d right) dict_is ∙ r.1) (edge.plain r.0 r.1) before)

  form_end : AreSound end → AreInForm end
  form_end sound = record {
    sound = sound;
    free = free_made (is_rebuilt lessened) lessened.free;
    closed = λ slot x y had linked. closed_less lessened slot x y had (link_back x y linked);
    short = short_less lessened (subst (λ (u : Metadata). DescriptionsAreShort u) (sym takes.unlinks.metadata) was.short);
    in_use = record { used = subst (λ (u : Metadata). AreUsed u) end_is used_then; tags = tags_less lessened tags_k; rights = rights_unlinked takes.unlinks was.in_use.rights };
    tests = tests_end;
  }

  -- ---- how much is marked
  -- the numbers of all that the right word entails
  abbrev ups : List ℕ
  ups = numbers_where k.limits.props (is_entailed k right)

  turned_up : (slot n : ℕ) → differs (numbers_at k.ext slot) (closure k (base lessened slot)) n ≡ true → Among ups n
  turned_up slot n turned = by (turned_cases (numbers_at k.ext slot) new n turned)
    where
      new : List ℕ
      new = closure k (base lessened slot)

      by : ((has_number new n ≡ true) × (has k.ext n slot ≡ false)) ⊎ ((has k.ext n slot ≡ true) × (has_number new n ≡ false)) → Among ups n
      by (inl more) = absurd (both_ways (has k.ext n slot) more.1 (closure_within k takes.sound (base lessened slot) lessened.closed slot (base_had lessened slot) n more.0))
      by (inr fewer) =
          let some = named_all k takes.sound lessened.free n slot fewer.0 in
          where_among k.limits.props (is_entailed k right) n (named_below k takes.sound n some) (lost_led lessened n slot some fewer.0 fewer.1)

  -- a file that has the left word had all that the right one entails
  ups_had : (slot : ℕ) → has k.ext left slot ≡ true → length ups ≤ 128
  ups_had slot had =
      let few = few_within ups (numbers_at k.ext slot) (sorted_where k.limits.props (is_entailed k right)) (λ n of.
      among_from_number (numbers_at k.ext slot) n (led_had k takes.sound lessened.closed slot right n right_had (among_where k.limits.props (is_entailed k right) n of).1)) in
      omega (arith, few, was.short slot, ap (λ (u : Metadata). length (numbers_at u.ext slot)) takes.unlinks.metadata)
    where
      linked : is_linked p left right ≡ true
      linked = or_right (is_own_link (declared_of p) (word_of p.dict left) (word_of p.dict right)) (has_pair p.axioms left right) (slot_pair p.axioms takes.unlinks.slot left right takes.unlinks.there)

      right_had : has k.ext right slot ≡ true
      right_had =
          ap (λ (u : Metadata). has u.ext right slot) takes.unlinks.metadata
          ∙ was.closed slot left right (ap (λ (u : Metadata). has u.ext left slot) (sym takes.unlinks.metadata) ∙ had) linked

  pub unaxiom_change : old.is_broken ≡ false → IsChange old q
  unaxiom_change unbroken = record {
    settles = λ after.
        subst (λ (u : Metadata). IsSound (settled u old.journal)) (sym end_is)
        (settled_sound end old.journal (form_end (subst (λ (u : Metadata). AreSound u) end_is after)) (pairs_unlinked takes.unlinks was.pairs) (was.image ∙ ap (λ (u : Metadata). image_shape u.limits) (sym takes.unlinks.metadata)) (was.journal unbroken));
    limits = ap (λ (u : Metadata). u.limits) end_is ∙ ap (λ (u : Metadata). u.limits) takes.unlinks.metadata;
    room =
        let few = few_made (is_rebuilt lessened) (some_had k.ext left) ups ups_had (λ slot n here turned. turned_up slot n turned) in
        omega (
          arith,
          none_marked p (was.clean unbroken),
          takes.unlinks.marks.few,
          few,
          takes.forgets.marks.few,
          heads_few p.dict (word_of p.dict left),
          ap (λ (u : Metadata). most_all u.limits) takes.unlinks.metadata,
          all_fits p.limits was.metadata.range,
          was.few unbroken,
        );
    edits =
        subst (λ (a : Ext). AreEditsFew a q.ext) (ap (λ (u : Metadata). u.ext) takes.unlinks.metadata)
        (subst (λ (c : Ext). AreEditsFew k.ext c) (sym (ap (λ (u : Metadata). u.ext) end_is)) (made_edits (is_rebuilt lessened)));
  }

  -- ---- the state that it represents
  module _ (at : ℕ → List ℕ) (s : State) (tells : Tells p at s) (l r : List ℕ) (is_left : word_of p.dict left ≡ Some l) (is_right : word_of p.dict right ≡ Some r) where
    abbrev pair : List ℕ × List ℕ
    pair = (l, r)

    abbrev t : State
    t = axiom_removed s pair

    state_k : state_of k at ≡ t
    state_k = takes.unlinks.state at l r is_left is_right ∙ ap (λ (x : State). axiom_removed x pair) tells.state

    state_then : state_of q at ≡ t
    state_then = takes.forgets.state at ∙ (ap (λ (u : Metadata). state_of u at) takes.lessens.metadata ∙ state_k)

    declared_is : declared_of k ≡ s.declared
    declared_is = ap (λ (x : State). x.declared) state_k

    axioms_are : axioms_of k ≡ filter (λ e. not (same_pair e pair)) s.axioms
    axioms_are = ap (λ (x : State). x.axioms) state_k

    there : Among s.axioms pair
    there = subst (λ (x : State). Among x.axioms pair) tells.state (axiom_among p was.metadata takes.unlinks.slot left right l r takes.unlinks.there is_left is_right)

    sorted : IsStrictlySortedBy pair_cmp s.axioms
    sorted = sorted_from_rising pair_cmp pair_order s.axioms tells.formed.axiom_set

    back : s.axioms ≡ with_axiom (axioms_of k) pair
    back = sym (ap (λ xs. with_axiom xs pair) axioms_are ∙ axiom_back s.axioms pair sorted there)

    abbrev file_of : Filed → File
    file_of f = file_told p.limits p.dict at f

    told_k : (f : Filed) → Among p.catalog.entries f → words_told k.dict (numbers_at k.ext f.slot) ≡ description s (file_of f)
    told_k f of = ap (λ (u : Metadata). words_told u.dict (numbers_at u.ext f.slot)) takes.unlinks.metadata ∙ tells.described f (contains_from_among p.catalog.entries f of)

    described_k : (f : Filed) → Among p.catalog.entries f → words_told k.dict (numbers_at m.ext f.slot) ≡ description t (file_of f)
    described_k f of =
        set_where (is_rebuilt lessened) (λ ns. words_told k.dict ns ≡ description t (file_of f)) f.slot
        (λ here.
        lessened_told lessened f.slot l r (file_of f) (ap (λ d. word_of d right) dict_is ∙ is_right) (right_plain s r (rights_are s tells.formed pair there))
        (ap (λ o. words_told p.dict (tags_by o)) (sym (filed_rec p.catalog was.metadata.catalog f of)) ∙ ap (λ (u : Metadata). words_told u.dict (tags_at u f.slot)) (sym takes.unlinks.metadata))
        (told_k f of ∙ ap₂ (λ D A. file_words D A (file_of f)) (sym declared_is) back)
        ∙ ap₂ (λ D A. file_words D A (file_of f)) declared_is axioms_are)
        (λ other.
        let not_had : has_word (description s (file_of f)) l ≡ false =
        ap (λ ws. has_word ws l) (sym (told_k f of)) ∙ (sym (number_told k takes.sound (numbers_at k.ext f.slot) left l (ap (λ d. word_of d left) dict_is ∙ is_left)) ∙ other) in
        told_k f of ∙ sym (taken_unfelt s.declared s.axioms pair (file_of f) sorted there not_had))

    described_then : (f : Filed) → Among p.catalog.entries f → words_told q.dict (numbers_at q.ext f.slot) ≡ description t (file_of f)
    described_then f of =
        let ns = numbers_at m.ext f.slot in
        ap (λ (u : Metadata). words_told q.dict (numbers_at u.ext f.slot)) end_is
        ∙ (words_same k.dict q.dict ns (λ n m_of. used_stays n (used_had fewer n f.slot (number_from_among ns n m_of))) ∙ described_k f of)

    tags_stay : (f : Filed) → Among p.catalog.entries f → (n : ℕ) → Among f.rec.tags n → word_of q.dict n ≡ word_of p.dict n
    tags_stay f of n tag =
        let there_k = ap (λ (u : Metadata). rec_at u.catalog f.slot) takes.unlinks.metadata ∙ filed_rec p.catalog was.metadata.catalog f of in
        used_stays n (used_had fewer n f.slot (tags_less lessened tags_k f.slot f.rec there_k n (number_from_among f.rec.tags n tag))) ∙ ap (λ d. word_of d n) dict_is

    told_is : q ≡ record p { dict = q.dict; axioms = slice_set p.axioms takes.unlinks.slot FreeAxiom; ext = m.ext; marks = q.marks }
    told_is = end_is ∙ ap (λ (u : Metadata). record u { dict = q.dict; ext = m.ext; marks = q.marks }) takes.unlinks.metadata

    ready_gone : IsSaved p at → IsReady q at t
    ready_gone saved = record {
      tells =
          retold p q (subst (λ (u : Metadata). u ≡ record p { dict = u.dict; declared = u.declared; axioms = u.axioms; ext = u.ext; marks = u.marks }) (sym told_is) refl) tags_stay at s t tells refl
          state_then (forms.removes_axiom s tells.formed pair) used_then described_then;
      saved = takes.forgets.marks.saved at (takes.lessens.saved at (takes.unlinks.marks.saved at saved));
    }

  pub unaxiom_holds : {T : Type 0} {l r : List ℕ} {new : Stored} {before after : Meaning} {result : Result T ChangeFault} {base : State} → IsAxiomAt p l r left right → has_axiom (axioms_of p) (l, r) ≡ true → old.is_broken ≡ false
      → Saves q old.journal new before after result → (now : Situation) → StoreHolds old before base now.state → Holds base now (unaxiom now (l, r)) new before after result
  unaxiom_holds {l = l} {r = r} found there unbroken saves now fits =
      saves_alone old was unbroken (unaxiom_change unbroken) saves now (axiom_removed now.state (l, r)) fits
      (ready_gone (looked old.journal.staged fits.kept) now.state fits.tells l r found.is_left found.is_right (λ area n lt unmarked. fits.written area n lt))
      (unaxiom_is l r true there now fits)
