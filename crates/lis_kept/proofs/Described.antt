-- A file slot that gets other numbers.
use Rattle.std.proofs.Common.{arith}
use Rattle.lis_kept.proofs.Common.{rules, ◌≡◌, ◌⊎◌, ℕ, ◌+◌, ◌<◌, ◌≤◌, ◌||◌, nat_lt, Bool, true, false, List, [], length, get_or, set, map, is_some, IsSome, refl, sym, ap, ◌∙◌, subst, inl, inr, length-set, get_or-set_same, get_or-set_other, list_all, cases_eq, lt-ltb, eqb-true, and_parts, or_cases, among_from_any, among_from_contains, length-marked, word_of, rec_at, Ext, has, Taxonomy, all_among, among_where, both_ways, false_from_ne_true, marked, all_from, Contains-get_or, Among}
use Rattle.std.specs.List.{All}
use Rattle.std.specs.List.Sorted.{IsStrictlyIncreasing}
use Rattle.lis_ext.proofs.Counted.{where_le}
use Rattle.lis_ext.proofs.Numbers.{has_decides, numbers_of, numbers_same}
use Rattle.lis_ext.specs.Ext.{set_of, with_marks, IsKept}
use Rattle.lis_ext.specs.Numbers.{has_number, differs, numbers_where}
use Rattle.lis_kept.specs.Metadata.{Metadata}
use Rattle.lis_kept.specs.Areas.{description_home}
use Rattle.lis_kept.specs.Sound.{AreSound}
use Rattle.lis_kept.specs.Links.{AreHeld}
use Rattle.lis_kept.specs.Changes.{Marks, Describes}
use Rattle.lis_kept.proofs.Formed.{held_files, named_below, had_within}
use Rattle.lis_kept.proofs.Marking.{description_marked}

-- ---- numbers
same_numbers : (old new : List ℕ) (n : ℕ) → differs old new n ≡ false → has_number new n ≡ has_number old n
same_numbers old new n same = search (rules)

-- with nothing marked before, what differs is marked
pub marks_differ : (e : Ext) (old new : List ℕ) → e.marks ≡ [] → with_marks e (differs old new) ≡ numbers_where e.props (differs old new)
marks_differ e old new none = ap (λ ms. numbers_where e.props (λ n. has_number ms n || differs old new n)) none

pub few_where : (props : ℕ) (test : ℕ → Bool) (ns : List ℕ) → ns ≡ numbers_where props test → length ns ≤ props
few_where props test ns is = omega (arith, ap length is, where_le props test)

pub where_below : (props limit : ℕ) (test : ℕ → Bool) (ns : List ℕ) → ns ≡ numbers_where props test → props ≡ limit → list_all (λ n. nat_lt n limit) ns ≡ true
where_below props limit test ns is same = search (rules, all_from, lt-ltb, among_where)

module _ (p : Metadata) (t : Taxonomy) (held : AreHeld p t) (slot : ℕ) (old new : List ℕ) (e : Ext) (marks : List Bool)
    (kept : IsKept p.ext) (below : slot < p.limits.files) (is_old : set_of p.ext slot ≡ old) (rises : IsStrictlyIncreasing new) (named : list_all (λ n. is_some (word_of p.dict n)) new ≡ true)
    (props : e.props ≡ p.ext.props) (sets : e.sets ≡ set p.ext.sets slot new) (settled : e.marks ≡ [])
    (edits : e.edits ≤ p.ext.edits + length (numbers_where p.ext.props (differs old new))) (no_fewer : p.ext.edits ≤ e.edits)
    (are_marks : marks ≡ marked p.marks (map (description_home p.limits slot) (numbers_where p.ext.props (differs old new)))) where
  abbrev described : Metadata
  described = record p { ext = e; marks = marks }

  -- the numbers of each file
  set_in : set_of e slot ≡ new
  set_in = ap (λ ss. get_or ss slot []) sets ∙ get_or-set_same p.ext.sets slot new [] (omega (arith, below, held.sound.files))

  set_at : (s : ℕ) → (s ≡ slot → ⊥) → set_of e s ≡ set_of p.ext s
  set_at s differ = ap (λ ss. get_or ss s []) sets ∙ get_or-set_other p.ext.sets slot s new [] differ

  new_named : (n : ℕ) → has_number new n ≡ true → IsSome (word_of p.dict n)
  new_named n has_it = search (rules, among_from_any, eqb-true, all_among)

  -- a number in which they do not differ has the row that it had
  same_row : (n : ℕ) → (n < p.ext.props → differs old new n ≡ false) → (s : ℕ) → has e n s ≡ has p.ext n s
  same_row n agree s = by (cases_eq s slot)
    where
      in_range : differs old new n ≡ true → n < p.ext.props
      in_range differ = search (rules, or_cases, named_below, new_named, and_parts, had_within, kept.in_range)

      alike : differs old new n ≡ false
      alike = false_from_ne_true (differs old new n) (λ differ. both_ways (differs old new n) (agree (in_range differ)) differ)

      by : (s ≡ slot) ⊎ (s ≡ slot → ⊥) → has e n s ≡ has p.ext n s
      by (inl same) =
          ap (λ k. has e n k) same ∙ (ap (λ ns. has_number ns n) set_in
          ∙ (same_numbers old new n alike ∙ (ap (λ ns. has_number ns n) (sym is_old) ∙ ap (λ k. has p.ext n k) (sym same))))
      by (inr differ) = ap (λ ns. has_number ns n) (set_at s differ)

  slot_in : slot < length p.ext.sets
  slot_in = omega (arith, below, held.sound.files)

  -- if no number differs, the set is the same, since both rise
  unchanged : ((n : ℕ) → n < p.ext.props → differs old new n ≡ false) → set_of e slot ≡ set_of p.ext slot
  unchanged agree =
      let props = p.ext.props in
      set_in
      ∙ (sym (numbers_of props new rises new_below)
      ∙ (numbers_same props (has_number new) (has_number old) (λ n lt. same_numbers old new n (agree n lt))
      ∙ (ap (λ ns. numbers_where props (has_number ns)) (sym is_old)
      ∙ numbers_of props (set_of p.ext slot) (kept.rise slot slot_in) (λ n m. had_within p.ext kept.in_range n slot ((has_decides (set_of p.ext slot) n).1 m)))))
    where
      new_below : (n : ℕ) → Among new n → n < p.ext.props
      new_below n m = omega (arith, named_below p held.sound n (all_among (λ n. is_some (word_of p.dict n)) new n named m), held.sound.rows)

  as_many : length e.sets ≡ length p.ext.sets
  as_many = ap length sets ∙ length-set p.ext.sets slot new

  rising : (s : ℕ) → s < length e.sets → IsStrictlyIncreasing (set_of e s)
  rising s lt = by (cases_eq s slot)
    where
      by : (s ≡ slot) ⊎ (s ≡ slot → ⊥) → IsStrictlyIncreasing (set_of e s)
      by (inl is) = subst (λ n. IsStrictlyIncreasing (set_of e n)) (sym is) (subst IsStrictlyIncreasing (sym set_in) rises)
      by (inr differ) = subst IsStrictlyIncreasing (sym (set_at s differ)) (kept.rise s (omega (arith, lt, as_many)))

  held_described : AreHeld described t
  held_described =
      held_files p t p.catalog p.taken e marks held
      (assumption (as_many, is_named, rising, ap length are_marks ∙ length-marked p.marks (map (description_home p.limits slot) (numbers_where p.ext.props (differs old new)))))
    where
      by : (n s : ℕ) → (s ≡ slot) ⊎ (s ≡ slot → ⊥) → IsSome (rec_at p.catalog s) → has e n s ≡ true → IsSome (word_of p.dict n)
      by n s h1 there has_it = search (rules, new_named, set_in, set_at)

      is_named : (n s : ℕ) → IsSome (rec_at p.catalog s) → has e n s ≡ true → IsSome (word_of p.dict n)
      is_named n s = by n s (cases_eq s slot)

  pub described_made : AreHeld described t × Describes slot new p described
  described_made = (
    held_described,
    record {
      metadata = refl;
      props = props;
      sets = sets;
      settled = settled;
      edits = λ was is. subst (λ ns. e.edits ≤ p.ext.edits + length (numbers_where p.ext.props (differs ns new))) (sym is_old ∙ sym is) edits;
      no_fewer = no_fewer;
      touched = λ was is. subst (λ ns. marks ≡ marked p.marks (map (description_home p.limits slot) (numbers_where p.ext.props (differs ns new)))) (sym is_old ∙ sym is) are_marks;
      marks = λ was is. subst (λ ns. Marks (length (numbers_where p.ext.props (differs ns new))) p described) (sym is_old ∙ sym is) (description_marked p held.sound slot below (differs old new) e marks as_many are_marks same_row set_at unchanged);
    },
  )

-- numbers of words are below the limit
pub numbers_below : (k p : Metadata) (ns : List ℕ) → p ≡ k → AreSound p → list_all (λ n. is_some (word_of k.dict n)) ns ≡ true → All (λ n. n < p.ext.props) ns
numbers_below k p ns is sound named i d lt =
    let n = get_or ns i d in
    let there : Among ns n = among_from_contains ns n (Contains-get_or ns i d lt) in
    let below = named_below p sound n (ap (λ (x : Metadata). is_some (word_of x.dict n)) is ∙ all_among (λ m. is_some (word_of k.dict m)) ns n named there) in
    omega (arith, below, sound.rows)

-- the same, over what memory kept
pub describes : (k p : Metadata) (t : Taxonomy) (slot : ℕ) (old new : List ℕ) (e : Ext) (marks : List Bool) → p ≡ k → AreHeld p t → IsKept p.ext
    → slot < k.limits.files → set_of k.ext slot ≡ old → IsStrictlyIncreasing new → list_all (λ n. is_some (word_of k.dict n)) new ≡ true
    → e.props ≡ p.ext.props → e.sets ≡ set p.ext.sets slot new → e.marks ≡ [] → e.edits ≤ p.ext.edits + length (numbers_where p.ext.props (differs old new)) → p.ext.edits ≤ e.edits
    → marks ≡ marked p.marks (map (description_home p.limits slot) (numbers_where p.ext.props (differs old new)))
    → AreHeld (record p { ext = e; marks = marks }) t × Describes slot new k (record p { ext = e; marks = marks })
describes k p t slot old new e marks is held kept below is_old rises named props sets settled edits no_fewer are_marks =
    let P : Metadata → Type 0 = λ q. slot < q.limits.files → set_of q.ext slot ≡ old → list_all (λ n. is_some (word_of q.dict n)) new ≡ true
    → AreHeld (record p { ext = e; marks = marks }) t × Describes slot new q (record p { ext = e; marks = marks }) in
    subst P is (λ b o n. described_made p t held slot old new e marks kept b o rises n props sets settled edits no_fewer are_marks) below is_old named
