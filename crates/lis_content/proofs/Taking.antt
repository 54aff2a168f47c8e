-- Blocks that are given back one by one, and blocks that are taken for a file's bytes, one for each part of them.
use Rattle.std.proofs.Common.{◌≡◌, ◌⊎◌, ℕ, ◌+◌, ◌-◌, ◌*◌, ◌<◌, ◌≤◌, min, ◌==◌, Bool, true, false, not, ◌||◌, cond, List, [], ◌∷◌, ◌++◌, length, take, drop, replicate, get_or, set, refl, sym, ◌∙◌, ap, subst, inl, inr, arith, add-one, append_assoc, length-append, length-set, drop-cons, eqb}
use Rattle.std.specs.List.{flat_map}
use Rattle.std.proofs.lemmas.Bool.{and_parts, eqb-false, eq-eqb, ne_eqb, cases_lt}
use Rattle.std.proofs.lemmas.Grind.{flat_map-append}
use Rattle.std.proofs.lemmas.List.{append-nil, take_all, take_at}
use Rattle.std.proofs.lemmas.List.Folds.{list_any-append}
use Rattle.lis_model.specs.State.{blocks_needed}
use Rattle.lis_journal.specs.Journal.{Held, shape_of}
use Rattle.lis_journal.specs.Images.{look}
use Rattle.lis_journal.specs.Phases.{looked}
use Rattle.lis_journal.specs.Staging.{with_entry}
use Rattle.lis_journal.proofs.Entries.{length-with_entry, neither}
use Rattle.lis_blockmap.specs.Bitmap.{free_count, is_taken}
use Rattle.lis_words.specs.Bytes.{padded}
use Rattle.lis_words.proofs.Bytes.{length_padded}
use Rattle.lis_content.specs.Content.{content, given, marked, are_taken, are_free, has_home}
use Rattle.lis_content.specs.Putting.{IsPut}
use Rattle.lis_content.proofs.Numbers.{length-marked, not_true, below_from_free, free_after, distinct_more, free_more, marked_more, marked_are_taken, taken_still}
use Rattle.lis_model.specs.Sets.{are_distinct, has_number}

-- ---- blocks that are given back: those of `left` are still to be given
pub record Giving (start now : List Bool) (all left : List ℕ) : Type 0 where
  pub gives : given now left ≡ given start all
  pub held : are_taken now left ≡ true
  pub distinct : are_distinct left ≡ true
  pub counted : free_count now + length left ≡ free_count start + length all
  pub len : length now ≡ length start

at_first : (start now : List Bool) (ns : List ℕ) (k : ℕ) → k < length ns → Giving start now ns (drop k ns) → Giving start now ns (get_or ns k 0 ∷ drop (k + 1) ns)
at_first start now ns k lt giving =
    subst (λ left. Giving start now ns left) (drop-cons ns k 0 lt ∙ ap (λ i. get_or ns k 0 ∷ drop i ns) (sym (add-one k))) giving

pub giving_on : (start now after : List Bool) (ns : List ℕ) (k : ℕ) → k < length ns → Giving start now ns (drop k ns) → after ≡ set now (get_or ns k 0) false → free_count after ≡ free_count now + 1 → Giving start after ns (drop (k + 1) ns)
giving_on start now after ns k lt giving is more =
    let n = get_or ns k 0 in
    let rest = drop (k + 1) ns in
    let was = at_first start now ns k lt giving in
    let unlike = and_parts (not (has_number rest n)) (are_distinct rest) was.distinct in
    record {
      gives = ap (λ t. given t rest) is ∙ was.gives;
      held = ap (λ t. are_taken t rest) is ∙ taken_still now rest n (and_parts (is_taken now n) (are_taken now rest) was.held).1 (not_true (has_number rest n) unlike.0);
      distinct = unlike.1;
      counted = omega (arith, more, was.counted);
      len = ap length is ∙ (length-set now n false ∙ was.len);
    }

-- ---- bytes that are put: those of `rest` are still to be put
pub record Filling (base : ℕ) (bytes rest : List ℕ) (start now_taken : List Bool) (before now : Held) (blocks : List ℕ) : Type 0 where
  pub distinct : are_distinct blocks ≡ true
  pub were_free : are_free start blocks ≡ true
  pub marks : now_taken ≡ marked start blocks
  pub counted : free_count now_taken + length blocks ≡ free_count start
  pub count : length blocks + blocks_needed (length rest) ≡ blocks_needed (length bytes)
  pub enough : blocks_needed (length rest) ≤ free_count now_taken
  pub image : shape_of now ≡ shape_of before
  pub records : now.records ≡ before.records
  pub placed : now.placed ≡ before.placed
  pub broken : now.is_broken ≡ before.is_broken
  pub left : 0 < length rest → 4096 * length blocks + length rest ≡ length bytes
  pub long : (kept : ℕ → List ℕ) → length (flat_map (λ b. looked now.staged kept (base + b)) blocks) ≡ 4096 * length blocks
  pub holds : (kept : ℕ → List ℕ) → take (length bytes) (flat_map (λ b. looked now.staged kept (base + b)) blocks ++ rest) ≡ bytes
  pub others : (n : ℕ) (was : List ℕ) → has_home base blocks n ≡ false → look now.staged n was ≡ look before.staged n was
  pub few : length now.staged ≤ length before.staged + length blocks

pub filling_done : (base : ℕ) (bytes rest : List ℕ) (start now_taken : List Bool) (before now : Held) (blocks : List ℕ) → length rest ≡ 0 → Filling base bytes rest start now_taken before now blocks → IsPut base [] bytes start now_taken before now blocks
filling_done base bytes rest start now_taken before now blocks none was = record {
  count = omega (arith, was.count, none);
  distinct = was.distinct;
  were_free = was.were_free;
  marks = was.marks;
  taken_now = ap (λ t. are_taken t blocks) was.marks ∙ marked_are_taken (length start) start blocks refl (below_from_free start blocks was.were_free);
  len = ap length was.marks ∙ length-marked start blocks;
  counted = omega (arith, was.counted);
  enough = omega (arith, was.count, was.enough, was.counted);
  image = was.image;
  records = was.records;
  placed = was.placed;
  broken = was.broken;
  holds = λ kept.
      ap (take (length bytes)) (sym (append-nil (flat_map (λ b. looked now.staged kept (base + b)) blocks)) ∙ ap (λ r. flat_map (λ b. looked now.staged kept (base + b)) blocks ++ r) (sym (empty rest none)))
      ∙ was.holds kept;
  others = was.others;
  few = was.few;
}
  where
    empty : (xs : List ℕ) → length xs ≡ 0 → xs ≡ []
    empty [] is = refl
    empty (x ∷ xs) is = absurd (omega arith)

-- the next part of the bytes, after those that are there already
pub part_more : (bytes flat rest front behind : List ℕ) → length flat + length rest ≡ length bytes → take (length bytes) (flat ++ rest) ≡ bytes → front ++ behind ≡ rest → (length front ≡ 4096) ⊎ (length behind ≡ 0) → take (length bytes) ((flat ++ (padded 4096 front ++ [])) ++ behind) ≡ bytes
part_more bytes flat rest front behind all holds parts ends = by ends
  where
    zeros : List ℕ
    zeros = replicate (4096 - length front) 0

    whole : flat ++ rest ≡ bytes
    whole = sym (take_all (length bytes) (flat ++ rest) (omega (arith, all, length-append flat rest))) ∙ holds

    empty : (xs : List ℕ) → length xs ≡ 0 → xs ≡ []
    empty [] is = refl
    empty (x ∷ xs) is = absurd (omega arith)

    by : (length front ≡ 4096) ⊎ (length behind ≡ 0) → take (length bytes) ((flat ++ (padded 4096 front ++ [])) ++ behind) ≡ bytes
    by (inl full) =
        let none : padded 4096 front ≡ front = ap (λ k. front ++ replicate k 0) (let e : 4096 - length front ≡ 0 = omega arith in e) ∙ append-nil front in
        ap (λ p. take (length bytes) ((flat ++ (p ++ [])) ++ behind)) none
        ∙ (ap (λ p. take (length bytes) ((flat ++ p) ++ behind)) (append-nil front)
        ∙ (ap (take (length bytes)) (append_assoc flat front behind)
        ∙ (ap (λ r. take (length bytes) (flat ++ r)) parts ∙ holds)))
    by (inr last) =
        let none : behind ≡ [] = empty behind last in
        let is_rest : front ≡ rest = sym (append-nil front) ∙ (ap (λ r. front ++ r) (sym none) ∙ parts) in
        ap (λ r. take (length bytes) ((flat ++ (padded 4096 front ++ [])) ++ r)) none
        ∙ (ap (take (length bytes)) (append-nil (flat ++ (padded 4096 front ++ [])))
        ∙ (ap (λ p. take (length bytes) (flat ++ p)) (append-nil (padded 4096 front))
        ∙ (ap (take (length bytes)) (sym (append_assoc flat front (replicate (4096 - length front) 0)))
        ∙ take_at (flat ++ front) (replicate (4096 - length front) 0) (length bytes) (ap length (ap (λ r. flat ++ r) is_rest ∙ whole))
        ∙ (ap (λ r. flat ++ r) is_rest ∙ whole))))

-- blocks whose homes are not that of n have what they had
pub same_others : (at after : ℕ → List ℕ) (base n : ℕ) (blocks content : List ℕ) → ((m : ℕ) → after m ≡ cond (eqb m (base + n)) content (at m)) → has_number blocks n ≡ false → flat_map (λ b. after (base + b)) blocks ≡ flat_map (λ b. at (base + b)) blocks
same_others at after base n [] content looks new = refl
same_others at after base n (b ∷ blocks) content looks new =
    let unlike = neither (eqb b n) (has_number blocks n) new in
    let differ : base + b ≡ base + n → ⊥ = λ e. eqb-false b n unlike.0 (omega (arith, e)) in
    let same : after (base + b) ≡ at (base + b) = looks (base + b) ∙ ap (λ t. cond t content (at (base + b))) (ne_eqb (base + b) (base + n) differ) in
    ap (λ xs. xs ++ flat_map (λ k. after (base + k)) blocks) same
    ∙ ap (λ xs. at (base + b) ++ xs) (same_others at after base n blocks content looks unlike.1)

pub filling_more : (base : ℕ) (bytes rest front behind : List ℕ) (start now_taken next_taken : List Bool) (before now next : Held) (blocks : List ℕ) (n : ℕ) → Filling base bytes rest start now_taken before now blocks → 0 < length rest → front ++ behind ≡ rest → length front ≡ min (length rest) 4096 → n < length now_taken → is_taken now_taken n ≡ false → next_taken ≡ set now_taken n true → free_count next_taken + 1 ≡ free_count now_taken → next ≡ record now { staged = with_entry now.staged (base + n) (padded 4096 front) } → ((m : ℕ) (was : List ℕ) → look next.staged m was ≡ cond (eqb m (base + n)) (padded 4096 front) (look now.staged m was)) → Filling base bytes behind start next_taken before next (blocks ++ n ∷ [])
filling_more base bytes rest front behind start now_taken next_taken before now next blocks n was some parts size lt free takes fewer staged looks = record {
  distinct = distinct_more blocks n was.distinct unlike.0;
  were_free = free_more start blocks n was.were_free below unlike.1;
  marks = takes ∙ (ap (λ t. set t n true) was.marks ∙ marked_more start blocks n);
  counted = omega (arith, was.counted, fewer, longer);
  count = omega (arith, was.count, longer, size, some, both);
  enough = omega (arith, was.enough, fewer, size, some, both);
  image = ap shape_of staged ∙ was.image;
  records = ap (λ (h : Held). h.records) staged ∙ was.records;
  placed = ap (λ (h : Held). h.placed) staged ∙ was.placed;
  broken = ap (λ (h : Held). h.is_broken) staged ∙ was.broken;
  left = λ more. omega (arith, was.left some, longer, size, both, more);
  long = λ kept.
      ap length (flat kept)
      ∙ (length-append (flat_map (λ b. looked now.staged kept (base + b)) blocks) (padded 4096 front ++ [])
      ∙ omega (arith, was.long kept, longer, length-append (padded 4096 front) [], length_padded 4096 front (omega (arith, size))));
  holds = λ kept.
      ap (λ xs. take (length bytes) (xs ++ behind)) (flat kept)
      ∙ part_more bytes (flat_map (λ b. looked now.staged kept (base + b)) blocks) rest front behind (omega (arith, was.long kept, was.left some)) (was.holds kept) parts ends;
  others = λ m old none.
      let split = neither (has_home base blocks m) (eqb (base + n) m || false) (sym (list_any-append (λ b. base + b == m) blocks (n ∷ [])) ∙ none) in
      let differ : m ≡ base + n → ⊥ = λ e. eqb-false (base + n) m (neither (eqb (base + n) m) false split.1).0 (sym e) in
      looks m old ∙ (ap (λ t. cond t (padded 4096 front) (look now.staged m old)) (ne_eqb m (base + n) differ) ∙ was.others m old split.0);
  few = omega (arith, was.few, longer, length-with_entry now.staged (base + n) (padded 4096 front), ap (λ (h : Held). length h.staged) staged);
}
  where
    longer : length (blocks ++ n ∷ []) ≡ length blocks + 1
    longer = length-append blocks (n ∷ [])

    both : length front + length behind ≡ length rest
    both = sym (length-append front behind) ∙ ap length parts

    unlike : (has_number blocks n ≡ false) × (is_taken start n ≡ false)
    unlike = free_after (length start) start blocks n refl (below_from_free start blocks was.were_free) (ap (λ t. is_taken t n) (sym was.marks) ∙ free)

    below : n < length start
    below = omega (arith, lt, ap length was.marks, length-marked start blocks)

    ends : (length front ≡ 4096) ⊎ (length behind ≡ 0)
    ends = elim (cases_lt 4096 (length rest)) as (λ _. (length front ≡ 4096) ⊎ (length behind ≡ 0)) [
      | inl more ↦ inl (omega (arith, size, more))
      | inr less ↦ inr (omega (arith, size, less, both))
    ]

    at_n : (kept : ℕ → List ℕ) → looked next.staged kept (base + n) ≡ padded 4096 front
    at_n kept = looks (base + n) (kept (base + n)) ∙ ap (λ t. cond t (padded 4096 front) (looked now.staged kept (base + n))) (eq-eqb (base + n) (base + n) refl)

    flat : (kept : ℕ → List ℕ) → flat_map (λ b. looked next.staged kept (base + b)) (blocks ++ n ∷ []) ≡ flat_map (λ b. looked now.staged kept (base + b)) blocks ++ (padded 4096 front ++ [])
    flat kept =
        flat_map-append (λ b. looked next.staged kept (base + b)) blocks (n ∷ [])
        ∙ (ap (λ xs. xs ++ (looked next.staged kept (base + n) ++ [])) (same_others (looked now.staged kept) (looked next.staged kept) base n blocks (padded 4096 front) (λ m. looks m (kept m)) unlike.0)
        ∙ ap (λ xs. flat_map (λ b. looked now.staged kept (base + b)) blocks ++ (xs ++ [])) (at_n kept))
