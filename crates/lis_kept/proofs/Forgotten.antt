-- Words of given numbers that nothing uses except a slot: valued words are forgotten first, then the others.
use Rattle.std.proofs.Common.{arith}
use Rattle.lis_kept.proofs.Common.{rules, ◌≡◌, refl, sym, ap, ap₂, ◌∙◌, ℕ, ◌+◌, ◌<◌, ◌≤◌, ◌==◌, if◌then◌else◌, ◌&&◌, ◌||◌, not, cond, Bool, true, false, List, [], ◌∷◌, length, take, get_or, Option, Some, None, is_some, IsSome, IfSome, slice_get, count_by, and_parts, eqb-true, not-true, sum_by-cons, word_of, rec_at, has, FileRecord, Pair, same_word_decides, head_not_valued, and_from, both_ways, false_from_ne_true, neither}
use Rattle.std.proofs.lemmas.Bool.{true_from_ne_false}
use Rattle.std.proofs.lemmas.List.Folds.{list_any_more}
use Rattle.std.proofs.lemmas.List.Sums.{count_by_more_yes, count_by_more_no}
use Rattle.lis_blockmap.specs.Bitmap.{is_taken}
use Rattle.lis_kept.specs.Metadata.{Metadata}
use Rattle.lis_kept.specs.Telling.{is_head_by, is_named_left, is_used}
use Rattle.lis_kept.specs.Changes.{Forgets}
use Rattle.lis_kept.specs.Forgetting.{MayGo, MayForget, ForgetsWithout}
use Rattle.lis_kept.specs.Passes.{beside, is_of_pass, is_due, ForgetsWhere, ForgetsDue}
use Rattle.lis_kept.proofs.WordLess.{had_from}
use Rattle.lis_kept.proofs.Without.{elsewhere_had}
use Rattle.lis_model.specs.Sets.{has_number}

-- ---- tests
one_more : (x d e y : Bool) → y ≡ (x || e) → (e ≡ true → d ≡ true) → ((x && d) || e) ≡ (y && d)
one_more x d e y is here = grind arith

no_more : (x d e y : Bool) → y ≡ (x || e) → (e ≡ true → d ≡ true → x ≡ true) → (x && d) ≡ (y && d)
no_more x d e y is were = grind arith

-- h: the number is given; v: its word is valued; u: it is used; l: its word goes in the second pass
in_either : (h v u l : Bool) → ((h && (v && not u)) ≡ true → l ≡ false) → ((h && (v && not u)) ≡ false → l ≡ (not v && not u)) → ((h && (v && not u)) || (h && l)) ≡ (h && not u)
in_either h v u l gone stays = grind arith

is_first : (x n : ℕ) (x_is : x ≡ n) (P : ℕ → Bool) → P x ≡ true → P n ≡ true
is_first x n x_is P is = ap P (sym x_is) ∙ is

-- ---- what is left after words were forgotten
module _ {test : ℕ → Bool} {most : ℕ} {p q : Metadata} (went : ForgetsWhere test most p q) where
  left_alone : (n : ℕ) → test n ≡ false → word_of q.dict n ≡ word_of p.dict n
  left_alone n e = went.words n ∙ ap (λ t. if t then None else word_of p.dict n) e

  none_left : (n : ℕ) → test n ≡ true → word_of q.dict n ≡ None
  none_left n e = went.words n ∙ ap (λ t. if t then None else word_of p.dict n) e

  -- the test let a word stay that is still there
  stayed : (n : ℕ) → is_some (word_of q.dict n) ≡ true → test n ≡ false
  stayed n some = false_from_ne_true (test n) (λ e. both_ways (is_some (word_of q.dict n)) (ap is_some (none_left n e)) some)

  same_word_then : (n : ℕ) → is_some (word_of q.dict n) ≡ true → word_of q.dict n ≡ word_of p.dict n
  same_word_then n some = left_alone n (stayed n some)

  used_then : (but : Option ℕ) (n : ℕ) → is_some (word_of q.dict n) ≡ true → is_used (beside but q) n ≡ is_used (beside but p) n
  used_then but n some = search (rules)

  same_due : (but : Option ℕ) (valued : Bool) (n : ℕ) → is_some (word_of q.dict n) ≡ true → is_due but q valued n ≡ is_due but p valued n
  same_due but valued n some = ap₂ (λ o u. is_of_pass valued o && not u) (same_word_then n some) (used_then but n some)

-- a word that is due is known, and nothing else uses it
due_parts : (but : Option ℕ) (k : Metadata) (valued : Bool) (n : ℕ) → is_due but k valued n ≡ true
    → (is_of_pass valued (word_of k.dict n) ≡ true) × (is_used (beside but k) n ≡ false) × (is_some (word_of k.dict n) ≡ true)
due_parts but k valued n is = search (rules, and_parts, not-true, both_ways)

pub due_before : (test : ℕ → Bool) (most : ℕ) (p q : Metadata) → ForgetsWhere test most p q → (but : Option ℕ) (valued : Bool) (n : ℕ) → is_due but q valued n ≡ true → is_due but p valued n ≡ true
due_before test most p q went but valued n is = sym (same_due went but valued n (due_parts but q valued n is).2) ∙ is

-- ---- what nothing uses except a slot without a file
-- the slot has none
abbrev pub HasNoFile : Option ℕ → Metadata → Type 0
HasNoFile but k = IfSome but (λ slot. rec_at k.catalog slot ≡ None)

-- all that is required of a number whose word may be forgotten, except that no word has that word as its head
record IsLone (k : Metadata) (n : ℕ) : Type 0 where
  pub flagged : is_taken k.declared n ≡ false
  pub had : (slot : ℕ) → IsSome (rec_at k.catalog slot) → has k.ext n slot ≡ false
  pub lefts : is_named_left k n ≡ false
  pub tags : (slot : ℕ) (rec : FileRecord) → rec_at k.catalog slot ≡ Some rec → has_number rec.tags n ≡ false
  pub rights : (slot left right : ℕ) → slice_get k.axioms slot ≡ Some (Pair left right) → right ≡ n → ⊥

may_go : (k : Metadata) (n : ℕ) → IsLone k n → ((m : ℕ) → is_head_by (word_of k.dict m) (word_of k.dict n) ≡ false) → MayGo n k
may_go k n lone heads = record { flagged = lone.flagged; had = lone.had; lefts = lone.lefts; tags = lone.tags; rights = lone.rights; heads = heads }

lone_from : (but : Option ℕ) (numbers : List ℕ) (k : Metadata) (n : ℕ) → HasNoFile but k → MayForget numbers (beside but k) → is_used (beside but k) n ≡ false → IsLone k n
lone_from but numbers k n empty may unused = search (rules, false_from_ne_true, both_ways, is_first, neither, had_from, elsewhere_had)

-- it stays so when others are forgotten
lone_still : {test : ℕ → Bool} {most : ℕ} {p q : Metadata} → ForgetsWhere test most p q → (n : ℕ) → is_some (word_of q.dict n) ≡ true → IsLone p n → IsLone q n
lone_still {q = q} went n some lone = search (rules)

-- what may be forgotten still may when others are
pub may_still : (test : ℕ → Bool) (most : ℕ) (p q : Metadata) → ForgetsWhere test most p q → (but : Option ℕ) (valued : Bool) (n : ℕ) → is_due but q valued n ≡ true → MayGo n p → MayGo n q
may_still test most p q went but valued n is go = search (rules, may_go, lone_still, due_parts, none_left, left_alone, same_word_then)

-- ---- one change after another
both : {f g : ℕ → Bool} {a b : ℕ} {p q r : Metadata} → ForgetsWhere f a p q → ForgetsWhere g b q r → ForgetsWhere (λ n. f n || g n) (a + b) p r
both {f = f} {g = g} {p = p} {r = r} first second = search (rules, same_word_then)

-- another test, that gives the same for each known word
retest : {f : ℕ → Bool} {a : ℕ} {p q : Metadata} (g : ℕ → Bool) (b : ℕ) → ForgetsWhere f a p q → ((n : ℕ) → is_some (word_of p.dict n) ≡ true → f n ≡ g n) → a ≤ b → ForgetsWhere g b p q
retest {f = f} {p = p} g b went same le = search (rules)

-- ---- a pass, number by number
module _ (but : Option ℕ) (valued : Bool) (numbers : List ℕ) (i : ℕ) (p q : Metadata) (lt : i < length numbers) (went : ForgetsDue but valued (take i numbers) p q) where
  abbrev number : ℕ
  number = get_or numbers i 0

  abbrev due : ℕ → Bool
  due = is_due but p valued

  abbrev after : ℕ → Bool
  after n = has_number (take (i + 1) numbers) n && due n

  pub due_more : (r : Metadata) → is_due but q valued number ≡ true → ForgetsWhere (λ n. number == n) 1 q r → ForgetsDue but valued (take (i + 1) numbers) p r
  due_more r is one =
      let was = sym (same_due went but valued number (due_parts but q valued number is).2) ∙ is in
      retest after (count_by due (take (i + 1) numbers)) (both went one)
      (λ n some. one_more (has_number (take i numbers) n) (due n) (number == n) (has_number (take (i + 1) numbers) n) (list_any_more (λ m. m == n) numbers i 0 lt)
      (λ e. is_first number n (eqb-true number n e) due was))
      (omega (arith, count_by_more_yes due numbers i 0 lt was))

  pub due_past : is_due but q valued number ≡ false → ForgetsDue but valued (take (i + 1) numbers) p q
  due_past is =
      retest after (count_by due (take (i + 1) numbers)) went
      (λ n some. no_more (has_number (take i numbers) n) (due n) (number == n) (has_number (take (i + 1) numbers) n) (list_any_more (λ m. m == n) numbers i 0 lt)
      (λ e. were n some (eqb-true number n e)))
      (as_many (due number) refl)
    where
      as_many : (b : Bool) → due number ≡ b → count_by due (take i numbers) ≤ count_by due (take (i + 1) numbers)
      as_many true e = omega (arith, count_by_more_yes due numbers i 0 lt e)
      as_many false e = omega (arith, count_by_more_no due numbers i 0 lt e)

      -- the next number is not due any more, since its word was forgotten before
      were : (n : ℕ) → is_some (word_of p.dict n) ≡ true → number ≡ n → due n ≡ true → has_number (take i numbers) n ≡ true
      were n some e is_due_n =
          true_from_ne_false (has_number (take i numbers) n) (λ none.
          let same = left_alone went n (ap (λ b. b && due n) none) in
          both_ways (is_due but q valued n) (ap (is_due but q valued) (sym e) ∙ is) (same_due went but valued n (ap is_some same ∙ some) ∙ is_due_n))

-- ---- both passes
-- the first word of a head is known and valued, and the second one is not
head_by_parts : (o w : Option (List ℕ)) → is_head_by o w ≡ true → (is_some o ≡ true) × (is_of_pass true o ≡ true) × (is_of_pass true w ≡ false)
head_by_parts o w said = search (rules, both_ways, and_parts, same_word_decides, head_not_valued)

-- a known word is in exactly one of the passes
of_other_pass : (o : Option (List ℕ)) → is_some o ≡ true → is_of_pass false o ≡ not (is_of_pass true o)
of_other_pass o some = search (rules, both_ways)

pub first_may : (but : Option ℕ) (numbers : List ℕ) (p : Metadata) → HasNoFile but p → MayForget numbers (beside but p) → (n : ℕ) → is_due but p true n ≡ true → MayGo n p
first_may but numbers p empty may n is =
    let parts = due_parts but p true n is in
    may_go p n (lone_from but numbers p n empty may parts.1)
    (λ m. false_from_ne_true (is_head_by (word_of p.dict m) (word_of p.dict n)) (λ said.
    both_ways (is_of_pass true (word_of p.dict n)) (head_by_parts (word_of p.dict m) (word_of p.dict n) said).2 parts.0))

module _ (but : Option ℕ) (numbers : List ℕ) (p q : Metadata) (went : ForgetsDue but true numbers p q) where
  abbrev gone : ℕ → Bool
  gone n = has_number numbers n && is_due but p true n

  pub second_may : HasNoFile but p → MayForget numbers (beside but p) → (n : ℕ) → is_due but q false n ≡ true → MayGo n q
  second_may empty may n is =
      may_go q n (lone_still went n some (lone_from but numbers p n empty may unused))
      (λ m. false_from_ne_true (is_head_by (word_of q.dict m) (word_of q.dict n)) (λ said. by m said (is_used (beside but p) m) refl))
    where
      some : is_some (word_of q.dict n) ≡ true
      some = (due_parts but q false n is).2

      unused : is_used (beside but p) n ≡ false
      unused = sym (used_then went but n some) ∙ (due_parts but q false n is).1

      -- a valued word that is still known is in use, and so is its head
      by : (m : ℕ) → is_head_by (word_of q.dict m) (word_of q.dict n) ≡ true → (b : Bool) → is_used (beside but p) m ≡ b → ⊥
      by m said b e = cases b e
        where
          parts : (is_some (word_of q.dict m) ≡ true) × (is_of_pass true (word_of q.dict m) ≡ true) × (is_of_pass true (word_of q.dict n) ≡ false)
          parts = head_by_parts (word_of q.dict m) (word_of q.dict n) said

          same : word_of q.dict m ≡ word_of p.dict m
          same = same_word_then went m parts.0

          cases : (b : Bool) → is_used (beside but p) m ≡ b → ⊥
          cases true e = both_ways (is_used (beside but p) n) unused (may.heads m n e (sym (ap₂ is_head_by same (same_word_then went n some)) ∙ said))
          cases false e =
              both_ways (gone m) (stayed went m parts.0)
              (and_from (has_number numbers m) (is_due but p true m) (may.given m (sym (ap is_some same) ∙ parts.0) e)
              (and_from (is_of_pass true (word_of p.dict m)) (not (is_used (beside but p) m)) (sym (ap (is_of_pass true) same) ∙ parts.1) (ap not e)))

  apart : (n : ℕ) → is_due but p true n ≡ true → is_due but q false n ≡ false
  apart n is = search (rules, false_from_ne_true, due_parts, both_ways, of_other_pass, same_word_then)

  counts_apart : (ns : List ℕ) → count_by (is_due but p true) ns + count_by (is_due but q false) ns ≤ length ns
  counts_apart [] = omega arith
  counts_apart (n ∷ ns) =
      omega (arith, sum_by-cons (λ k. cond (is_due but p true k) 1 0) n ns, sum_by-cons (λ k. cond (is_due but q false k) 1 0) n ns, at_most (is_due but p true n) (is_due but q false n) (apart n), counts_apart ns)
    where
      at_most : (a b : Bool) → (a ≡ true → b ≡ false) → cond a 1 0 + cond b 1 0 ≤ 1
      at_most a b one = search (rules, both_ways)

  pub both_forget : (r : Metadata) → ForgetsDue but false numbers q r → ForgetsWhere (λ n. has_number numbers n && not (is_used (beside but p) n)) (length numbers) p r
  both_forget r more =
      retest (λ n. has_number numbers n && not (is_used (beside but p) n)) (length numbers) (both went more)
      (λ n some. in_either (has_number numbers n) (is_of_pass true (word_of p.dict n)) (is_used (beside but p) n) (is_due but q false n)
      (λ is. ap (λ o. is_of_pass false o && not (is_used (beside but q) n)) (none_left went n is))
      (λ is. same_due went but false n (ap is_some (left_alone went n is) ∙ some) ∙ ap (λ b. b && not (is_used (beside but p) n)) (of_other_pass (word_of p.dict n) some)))
      (counts_apart numbers)

-- if no slot is given
pub forgets_where : (numbers : List ℕ) (p q : Metadata) → ForgetsWhere (λ n. has_number numbers n && not (is_used (beside None p) n)) (length numbers) p q → Forgets numbers p q
forgets_where numbers p q went = search (rules, used_then)

-- and if one is
pub forgets_beside : (slot : ℕ) (numbers : List ℕ) (p q : Metadata) → ForgetsWhere (λ n. has_number numbers n && not (is_used (beside (Some slot) p) n)) (length numbers) p q
    → ForgetsWithout slot numbers p q
forgets_beside slot numbers p q went = search (rules, used_then)
