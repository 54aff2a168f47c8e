-- Consecutive free blocks.
use Rattle.std.proofs.Common.{◌≡◌, ℕ, ◌+◌, ◌-◌, ◌<◌, Bool, true, false, List, [], length, set, refl, sym, ◌∙◌, ap, inl, inr, arith}
use Rattle.std.specs.List.{range_with_len}
use Rattle.std.proofs.lemmas.Bool.{cases_lt}
use Rattle.lis_journal.specs.Record.{HomeBlock}
use Rattle.lis_journal.specs.Staging.{has_entry, HasNone}
use Rattle.lis_journal.proofs.Runs.{row_more, row_within}
use Rattle.lis_blockmap.specs.Bitmap.{free_count, is_taken}
use Rattle.lis_content.specs.Content.{marked}
use Rattle.lis_content.specs.Placing.{AreUnstaged, TakesRow}
use Rattle.lis_content.proofs.Numbers.{length-marked, free_after, marked_more}

pub length_row : (taken now : List Bool) (n count : ℕ) → TakesRow taken now n count → length now ≡ length taken
length_row taken now n count row = ap length row.marks ∙ length-marked taken (range_with_len n count)

pub takes_next : (taken now next : List Bool) (n count : ℕ) → TakesRow taken now n count → n + count < length taken → is_taken now (n + count) ≡ false → next ≡ set now (n + count) true → free_count next + 1 ≡ free_count now → TakesRow taken next n (count + 1)
takes_next taken now next n count was lt free is fewer = record {
  within = omega (arith, lt);
  were_free = λ k le less. elim (cases_lt k (n + count)) as (λ _. is_taken taken k ≡ false) [
    | inl before ↦ was.were_free k le before
    | inr past ↦ let same : k ≡ n + count = omega (arith, less, past) in ap (is_taken taken) same ∙ new
  ];
  marks = is ∙ (ap (λ t. set t (n + count) true) was.marks ∙ (marked_more taken (range_with_len n count) (n + count) ∙ ap (marked taken) (row_more [] n count)));
  counted = omega (arith, was.counted, fewer);
}
  where
    new : is_taken taken (n + count) ≡ false
    new = (free_after (length taken) taken (range_with_len n count) (n + count) refl (row_within n count (length taken) was.within) (ap (λ t. is_taken t (n + count)) (sym was.marks) ∙ free)).1

-- no block of the row is staged
pub row_unstaged : (base : ℕ) (taken now : List Bool) (staged : List HomeBlock) (n count home : ℕ) → home ≡ base + n → TakesRow taken now n count → AreUnstaged base taken staged → HasNone staged home count
row_unstaged base taken now staged n count home at row unstaged m le lt =
    let same : base + (m - base) ≡ m = omega (arith, le, at) in
    ap (has_entry staged) (sym same) ∙ unstaged (m - base) (omega (arith, le, lt, at, row.within)) (row.were_free (m - base) (omega (arith, le, at)) (omega (arith, le, lt, at)))
