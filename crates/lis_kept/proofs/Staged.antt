-- Blocks that are staged one by one, each as memory spells it.
use Rattle.std.proofs.Common.{arith}
use Rattle.lis_kept.proofs.Common.{rules, ◌≡◌, ◌⊎◌, ℕ, ◌+◌, ◌<◌, ◌≤◌, ◌==◌, zero, suc, subst, Bool, true, false, cond, List, [], ◌∷◌, length, take, count_by, IsTrue, refl, sym, ap, ◌∙◌, inl, inr, cases_eq, cases_lt, ne_eqb, Held, are_in_range, data_start}
use Rattle.std.proofs.lemmas.Bool.{eq-eqb}
use Rattle.std.proofs.lemmas.List.Sums.{count_by_more_no, count_by_more_yes, sum_by-take-le}
use Rattle.lis_journal.specs.Record.{HomeBlock}
use Rattle.lis_journal.specs.Staging.{with_entry}
use Rattle.lis_journal.specs.Images.{look}
use Rattle.lis_journal.specs.Phases.{looked}
use Rattle.lis_journal.proofs.Entries.{length-with_entry}
use Rattle.lis_kept.specs.Metadata.{Metadata}
use Rattle.lis_kept.specs.Areas.{Area, slots_of, block_of, spelled, held_in, is_marked, marked_count, IsSaved}
use Rattle.lis_kept.specs.Staging.{Stages}
use Rattle.lis_kept.specs.Inside.{bytes_in, IsBlock, StagesBlock, StagedBelow}
use Rattle.lis_kept.proofs.InArea.{held_by, among_slots}
use Rattle.lis_journal.specs.Journal.{shape_of}
use Rattle.lis_model.specs.Image.{properties_start}

pub stages_block : (k : Metadata) (n : ℕ) (old new : Held) (block : List ℕ) → new ≡ record old { staged = with_entry old.staged n block }
    → ((m : ℕ) (was : List ℕ) → look new.staged m was ≡ cond (m == n) block (look old.staged m was)) → IsBlock k n block → StagesBlock k n old new
stages_block k n old new block is looks spells = record {
  image = ap shape_of is;
  records = ap (λ (h : Held). h.records) is;
  placed = ap (λ (h : Held). h.placed) is;
  broken = ap (λ (h : Held). h.is_broken) is;
  few = omega (arith, ap (λ (h : Held). length h.staged) is, length-with_entry old.staged n block);
  bytes = block;
  block = spells;
  here = λ was. looks n was ∙ ap (λ b. cond b block (look old.staged n was)) (eq-eqb n n refl);
  others = λ other was differ. looks other was ∙ ap (λ b. cond b block (look old.staged other was)) (ne_eqb other n differ);
}

-- whatever was there, a block looks as what is staged for it, so something is staged
staged_some : (es : List HomeBlock) (n : ℕ) (bytes : List ℕ) → ((was : List ℕ) → look es n was ≡ bytes) → 0 < length es
staged_some [] n bytes here = absurd (let e : ◌≡◌ {A = List ℕ} [] (0 ∷ []) = here [] ∙ sym (here (0 ∷ [])) in cc)
staged_some (e ∷ es) n bytes here = omega arith

-- nothing yet
pub staged_none : (k : Metadata) (old : Held) → IsTrue (are_in_range k.limits) → StagedBelow k (properties_start k.limits) old old
staged_none k old range = search (rules, among_slots)

module _ (k : Metadata) (n : ℕ) (old now : Held) (within : n < length k.marks) (from : properties_start k.limits ≤ n) (so_far : StagedBelow k n old now) where
  -- a block that is not marked
  pub staged_past : is_marked k n ≡ false → StagedBelow k (n + 1) old now
  staged_past unmarked = search (rules, count_by_more_no, cases_lt)

  -- a marked one
  pub staged_more : (new : Held) → is_marked k n ≡ true → StagesBlock k n now new → StagedBelow k (n + 1) old new
  staged_more new marked one = record {
    image = one.image ∙ so_far.image;
    records = one.records ∙ so_far.records;
    placed = one.placed ∙ so_far.placed;
    broken = one.broken ∙ so_far.broken;
    few = omega (arith, so_far.few, one.few, count_by_more_yes (λ (b : Bool). b) k.marks n false within marked);
    some = λ m low lt is. staged_some new.staged n one.bytes one.here;
    written = λ kept saved area m lt either. by kept saved area m lt either (cases_eq (block_of k.limits area m) n);
    others = λ other was out. apart other was out;
  }
    where
      by : (kept : ℕ → List ℕ) → IsSaved k (looked old.staged kept) → (area : Area) (m : ℕ) → m < (slots_of k.limits area).count
          → (block_of k.limits area m < n + 1) ⊎ (is_marked k (block_of k.limits area m) ≡ false) → (block_of k.limits area m ≡ n) ⊎ (block_of k.limits area m ≡ n → ⊥)
          → held_in k.limits area (looked new.staged kept) m ≡ spelled k area m
      by kept saved area m lt either (inl here) =
          held_by k.limits area m lt (looked new.staged kept)
          ∙ (ap (bytes_in k.limits area m) (ap (looked new.staged kept) here ∙ one.here (kept n))
          ∙ one.block area m lt here)
      by kept saved area m lt either (inr differ) =
          held_by k.limits area m lt (looked new.staged kept)
          ∙ (ap (bytes_in k.limits area m) (one.others (block_of k.limits area m) (kept (block_of k.limits area m)) differ)
          ∙ (sym (held_by k.limits area m lt (looked now.staged kept))
          ∙ so_far.written kept saved area m lt (closer either)))
        where
          closer : (block_of k.limits area m < n + 1) ⊎ (is_marked k (block_of k.limits area m) ≡ false) → (block_of k.limits area m < n) ⊎ (is_marked k (block_of k.limits area m) ≡ false)
          closer (inl below) = inl (omega (arith, below, differ))
          closer (inr free) = inr free

      apart : (other : ℕ) (was : List ℕ) → (other < properties_start k.limits) ⊎ (n + 1 ≤ other) → look new.staged other was ≡ look old.staged other was
      apart other was (inl before) = one.others other was (λ e. omega (arith, e, before, from)) ∙ so_far.others other was (inl before)
      apart other was (inr behind) = one.others other was (λ e. omega (arith, e, behind)) ∙ so_far.others other was (inr (omega arith))

-- no block in a row of blocks is marked
pub staged_over : (k : Metadata) (old now : Held) (from d : ℕ) → d + from ≤ length k.marks → properties_start k.limits ≤ from → ((j : ℕ) → from ≤ j → j < d + from → is_marked k j ≡ false)
    → StagedBelow k from old now → StagedBelow k (d + from) old now
staged_over k old now from zero within low none so_far = subst (λ n. StagedBelow k n old now) (omega arith) so_far
staged_over k old now from (suc d) within low none so_far =
    subst (λ n. StagedBelow k n old now) (omega arith) (staged_past k (d + from) old now (omega (arith, within)) (omega (arith, low))
    (staged_over k old now from d (omega (arith, within)) low (λ j ge lt. none j ge (omega (arith, lt))) so_far) (none (d + from) (omega arith) (omega arith)))

count_front : (bits : List Bool) (n : ℕ) → count_by (λ (b : Bool). b) (take n bits) ≤ count_by (λ (b : Bool). b) bits
count_front bits n = sum_by-take-le _ bits n

-- before a marked block there are fewer marks than all
pub marks_before : (k : Metadata) (n : ℕ) → n < length k.marks → is_marked k n ≡ true → count_by (λ (b : Bool). b) (take n k.marks) < marked_count k
marks_before k n within marked = omega (arith, count_front k.marks (n + 1), count_by_more_yes (λ (b : Bool). b) k.marks n false within marked)

-- all of them
pub staged_all : (k : Metadata) (end : ℕ) (old new : Held) → IsTrue (are_in_range k.limits) → end ≡ data_start k.limits → StagedBelow k end old new → Stages k old new
staged_all k end old new range is all = search (rules, count_front, among_slots)
