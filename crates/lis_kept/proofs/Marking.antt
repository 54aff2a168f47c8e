-- Marks of the blocks that a change touches.
use Rattle.std.proofs.Common.{arith}
use Rattle.lis_kept.proofs.Common.{rules, ◌≡◌, ◌⊎◌, ℕ, ◌+◌, ◌<◌, ◌≤◌, ◌==◌, Bool, true, false, cond, nat_lt, IsTrue, slice_get, Some, List, [], ◌∷◌, ◌++◌, length, set, map, take, count_by, refl, sym, ap, ◌∙◌, subst, inl, inr, length-set, get_or-set_same, get_or-set_other, zero, suc, list_all, Contains, cases_eq, ltb-true, take_more, Contains-get_or, slice_get_within, get_or_from_slice_get, Among, among_from_contains, Limits, are_in_range, data_start, all_among, sum_by-cons, length-map, among_map, Ext, has, among_where, marked, common_steps, both_ways, false_from_ne_true, map_among}
use Rattle.std.proofs.lemmas.List.{map-append}
use Rattle.std.proofs.lemmas.List.Sums.{sum_by-set}
use Rattle.lis_blockmap.specs.Bitmap.{is_taken}
use Rattle.lis_content.proofs.Numbers.{marked_more}
use Rattle.lis_kept.specs.Metadata.{Metadata}
use Rattle.lis_kept.specs.Areas.{Area, slots_of, block_of, description_home, spelled}
use Rattle.lis_kept.specs.Areas.Area.{Rows, Sets, Properties, Axioms, Files, Bitmap}
use Rattle.lis_kept.specs.Changes.{Marks}
use Rattle.lis_kept.proofs.InArea.{among_slots, rows_counted, third_sets, some_are_early, some_are_third}
use Rattle.lis_ext.specs.Ext.{set_of}
use Rattle.lis_ext.specs.Numbers.{numbers_where}
use Rattle.lis_fields.specs.Layouts.{set_bytes}
use Rattle.lis_ext.proofs.Numbers.{where_among}
use Rattle.lis_kept.specs.Sound.{AreSound}
use Rattle.lis_kept.proofs.Spelled.{row_bytes_same}

abbrev pub true_in : List Bool → ℕ
true_in bits = count_by (λ (b : Bool). b) bits

true_set : (bits : List Bool) (n : ℕ) → n < length bits → true_in (set bits n true) ≤ true_in bits + 1
true_set bits n lt = omega (arith, sum_by-set (λ (b : Bool). cond b 1 0) bits n true false lt)

-- each of the blocks is below this number
abbrev pub AreBelow : ℕ → List ℕ → Type 0
AreBelow most homes = (n : ℕ) → Among homes n → n < most

true_marked : (homes : List ℕ) (bits : List Bool) → AreBelow (length bits) homes → true_in (marked bits homes) ≤ true_in bits + length homes
true_marked [] bits below = omega arith
true_marked (n ∷ homes) bits below =
    let one = true_set bits n (below n (inl refl)) in
    let rest = true_marked homes (set bits n true) (λ m among. omega (arith, below m (inr among), length-set bits n true)) in
    omega (arith, one, rest)

-- a block that is not marked then was not marked, and is none of these
unmarked_all : (homes : List ℕ) (bits : List Bool) (n : ℕ) → AreBelow (length bits) homes → is_taken (marked bits homes) n ≡ false → (is_taken bits n ≡ false) × (Among homes n → ⊥)
unmarked_all [] bits n below free = (free, λ m. m)
unmarked_all (h ∷ homes) bits n below free =
    by (unmarked_all homes (set bits h true) n (λ m among. omega (arith, below m (inr among), length-set bits h true)) free) (cases_eq n h)
  where
    by : (is_taken (set bits h true) n ≡ false) × (Among homes n → ⊥) → (n ≡ h) ⊎ (n ≡ h → ⊥) → (is_taken bits n ≡ false) × (Among (h ∷ homes) n → ⊥)
    by rest h2 = search (rules, get_or-set_same, get_or-set_other)

-- The blocks that differ are marked: the others' slots are spelled as before.
pub blocks_marked : (p q : Metadata) (homes : List ℕ) → q.limits ≡ p.limits → q.marks ≡ marked p.marks homes → AreBelow (length p.marks) homes
    → ((area : Area) (n : ℕ) → n < (slots_of p.limits area).count → (Among homes (block_of p.limits area n) → ⊥) → spelled q area n ≡ spelled p area n)
    → Marks (length homes) p q
blocks_marked p q homes limits marks below same = search (rules, true_marked, unmarked_all)

-- one block
pub block_marked : (p q : Metadata) (home : ℕ) → q.limits ≡ p.limits → q.marks ≡ set p.marks home true → home < length p.marks
    → ((area : Area) (n : ℕ) → n < (slots_of p.limits area).count → (block_of p.limits area n ≡ home → ⊥) → spelled q area n ≡ spelled p area n)
    → Marks 1 p q
block_marked p q home limits marks below same =
    blocks_marked p q (home ∷ []) limits marks (λ n m. one n m) (λ area n lt apart. same area n lt (λ e. apart (inl (sym e))))
  where
    one : (n : ℕ) → Among (home ∷ []) n → n < length p.marks
    one n h1 = search (rules)

-- one more of the blocks of numbers
pub marked_next : (f : ℕ → ℕ) (bits : List Bool) (ns : List ℕ) (k n : ℕ) → slice_get ns k ≡ Some n → set (marked bits (map f (take k ns))) (f n) true ≡ marked bits (map f (take (k + 1) ns))
marked_next f bits ns k n is =
    let lt = slice_get_within ns k n is in
    marked_more bits (map f (take k ns)) (f n)
    ∙ ap (marked bits) (sym (ap (map f) (take_more ns k 0 lt ∙ ap (λ m. take k ns ++ m ∷ []) (get_or_from_slice_get ns k n 0 is)) ∙ map-append f (take k ns) (n ∷ [])))

pub among_got : (ns : List ℕ) (k n : ℕ) → slice_get ns k ≡ Some n → Among ns n
among_got ns k n is = among_from_contains ns n (subst (λ m. Contains ns m) (get_or_from_slice_get ns k n 0 is) (Contains-get_or ns k 0 (slice_get_within ns k n is)))

-- ---- the blocks of descriptions
pub third_home : (limits : Limits) (slot n : ℕ) → (limits.version == 3) ≡ true → description_home limits slot n ≡ block_of limits Sets slot
third_home limits slot n third = ap (λ b. cond b (block_of limits Sets slot) (block_of limits Rows n)) third

pub early_home : (limits : Limits) (slot n : ℕ) → (limits.version == 3) ≡ false → description_home limits slot n ≡ block_of limits Rows n
early_home limits slot n early = ap (λ b. cond b (block_of limits Sets slot) (block_of limits Rows n)) early

pub home_below : (limits : Limits) (slot n : ℕ) → IsTrue (are_in_range limits) → slot < limits.files → n < limits.props → description_home limits slot n < data_start limits
home_below limits slot n range slot_in number_in = by (limits.version == 3) refl
  where
    by : (third : Bool) → (limits.version == 3) ≡ third → description_home limits slot n < data_start limits
    by true third = omega (arith, third_home limits slot n third, (among_slots limits range Sets slot (omega (arith, slot_in, third_sets limits third))).1)
    by false early = omega (arith, early_home limits slot n early, (among_slots limits range Rows n (omega (arith, number_in, rows_counted limits range early))).1)

-- the block of one of the numbers
pub marked_home : (limits : Limits) (slot : ℕ) (ns : List ℕ) (k n : ℕ) → IsTrue (are_in_range limits) → slot < limits.files → list_all (λ m. nat_lt m limits.props) ns ≡ true → slice_get ns k ≡ Some n
    → description_home limits slot n < data_start limits
marked_home limits slot ns k n range slot_in below is = home_below limits slot n range slot_in (ltb-true n limits.props (all_among (λ m. nat_lt m limits.props) ns n below (among_got ns k n is)))

-- ---- which blocks are marked, and how many
-- what is marked was so, or is one of the blocks
pub marked_only : (homes : List ℕ) (bits : List Bool) (n : ℕ) → is_taken (marked bits homes) n ≡ true → (is_taken bits n ≡ true) ⊎ Among homes n
marked_only [] bits n is = inl is
marked_only (h ∷ homes) bits n is = grind (arith, common_steps, get_or-set_other, marked_only homes (set bits h true) n is)

pub one_at_most : (b : Bool) → cond b 1 0 ≤ 1
one_at_most b = search (rules)

unset : (bits : List Bool) (m : ℕ) → is_taken (set bits m false) m ≡ false
unset [] m = refl
unset (b ∷ bits) zero = refl
unset (b ∷ bits) (suc m) = unset bits m

one_fewer : (bits : List Bool) (m : ℕ) → true_in bits ≤ true_in (set bits m false) + 1
one_fewer [] m = omega arith
one_fewer (b ∷ bits) zero = omega (arith, sum_by-cons (λ (b : Bool). cond b 1 0) b bits, sum_by-cons (λ (b : Bool). cond b 1 0) false bits, one_at_most b)
one_fewer (b ∷ bits) (suc m) = omega (arith, sum_by-cons (λ (b : Bool). cond b 1 0) b bits, sum_by-cons (λ (b : Bool). cond b 1 0) b (set bits m false), one_fewer bits m)

none_true : (bits : List Bool) → ((n : ℕ) → is_taken bits n ≡ true → ⊥) → true_in bits ≡ 0
none_true [] none = omega arith
none_true (true ∷ bits) none = absurd (none zero refl)
none_true (false ∷ bits) none = omega (arith, sum_by-cons (λ (b : Bool). cond b 1 0) false bits, none_true bits (λ n. none (suc n)))

pub marked_within : (bits : List Bool) (ns : List ℕ) → ((n : ℕ) → is_taken bits n ≡ true → Among ns n) → true_in bits ≤ length ns
marked_within bits [] within = omega (arith, none_true bits within)
marked_within bits (m ∷ ns) within = omega (arith, one_fewer bits m, marked_within (set bits m false) ns rest)
  where
    rest : (n : ℕ) → is_taken (set bits m false) n ≡ true → Among ns n
    rest n is = search (rules, get_or-set_other, both_ways, unset)

-- ---- marks of the blocks of descriptions
-- if a slot has other numbers, and the blocks that show who has those that pass a test were marked
module _ (p : Metadata) (sound : AreSound p) (slot : ℕ) (slot_in : slot < p.limits.files) (test : ℕ → Bool) (e : Ext) (marks : List Bool) (as_many : length e.sets ≡ length p.ext.sets)
    (are_marks : marks ≡ marked p.marks (map (description_home p.limits slot) (numbers_where p.ext.props test)))
    (same_row : (n : ℕ) → (n < p.ext.props → test n ≡ false) → (s : ℕ) → has e n s ≡ has p.ext n s)
    (same_set : (s : ℕ) → (s ≡ slot → ⊥) → set_of e s ≡ set_of p.ext s)
    (unchanged : ((n : ℕ) → n < p.ext.props → test n ≡ false) → set_of e slot ≡ set_of p.ext slot) where
  abbrev touched : List ℕ
  touched = numbers_where p.ext.props test

  abbrev home : ℕ → ℕ
  home = description_home p.limits slot

  abbrev described : Metadata
  described = record p { ext = e; marks = marks }

  homes_below : AreBelow (length p.marks) (map home touched)
  homes_below h m =
      let found = among_map home touched h m in
      let lt = (among_where p.ext.props test found.0 found.1).0 in
      let inside = home_below p.limits slot found.0 sound.range slot_in (omega (arith, lt, sound.rows)) in
      omega (arith, inside, found.2, sound.marks)

  -- the test fails for a number whose block was not marked
  untouched : (n : ℕ) → (Among (map home touched) (home n) → ⊥) → n < p.ext.props → test n ≡ false
  untouched n apart lt = false_from_ne_true (test n) (λ passes. apart (map_among home touched n (where_among p.ext.props test n lt passes)))

  spelled_before : (area : Area) (n : ℕ) → n < (slots_of p.limits area).count → (Among (map home touched) (block_of p.limits area n) → ⊥) → spelled described area n ≡ spelled p area n
  spelled_before Properties n lt apart = refl
  spelled_before Axioms n lt apart = refl
  spelled_before Files n lt apart = refl
  spelled_before Rows n lt apart =
      let here = early_home p.limits slot n (some_are_early p.limits n lt) in
      row_bytes_same p.ext e n as_many (same_row n (untouched n (subst (λ b. Among (map home touched) b → ⊥) (sym here) apart)))
  spelled_before Sets n lt apart = ap set_bytes (by (cases_eq n slot))
    where
      by : (n ≡ slot) ⊎ (n ≡ slot → ⊥) → set_of e n ≡ set_of p.ext n
      by (inl is) =
          let here : (m : ℕ) → home m ≡ block_of p.limits Sets n = λ m. third_home p.limits slot m (some_are_third p.limits n lt) ∙ ap (block_of p.limits Sets) (sym is) in
          let same = unchanged (λ m. untouched m (subst (λ b. Among (map home touched) b → ⊥) (sym (here m)) apart)) in
          subst (λ s. set_of e s ≡ set_of p.ext s) (sym is) same
      by (inr differ) = same_set n differ
  spelled_before Bitmap n lt apart = refl

  pub description_marked : Marks (length touched) p described
  description_marked =
      let M : ℕ → Type 0 = λ n. Marks n p described in
      subst M (length-map touched home) (blocks_marked p described (map home touched) refl are_marks homes_below spelled_before)
