-- The first bytes of a long line say as much as the whole line.
use Rattle.std.proofs.Common.{◌≡◌, ℕ, ◌<◌, true, false, List, [], ◌∷◌, ◌++◌, length, take, zero, suc, Option, Some, None, ap, sym, subst, ◌∙◌, refl, inl, inr, arith}
use Rattle.std.proofs.lemmas.Grind.{common_steps}
use Rattle.std.proofs.lemmas.List.{take_all, length-take}
use Rattle.std.proofs.lemmas.Bool.{cases_lt, le-leb}
use Rattle.lis_model.specs.declared.refusal.Refusal.TheVariants.{LongLine}
use Rattle.lis_model.specs.Step.{Item, no_payload}
use Rattle.lis_model.specs.Step.Item.{Bad}
use Rattle.lis_model.specs.Script.{FirstOf, is_long, item_of, payload_size, first_of}
use Rattle.lis_line.specs.Stock.{Stocked, LineTaken}
use Rattle.lis_model.proofs.Lines.{IsOneLine, line_alone, last_alone, last_with, with_cut}

-- Segments begin with a line: the first 1,025 bytes of a long line say as much as the whole line, and an input without a line feed is one
-- segment, the last.
pub record ByLines {I : Type 0} (first : List ℕ → FirstOf I) : Type 0 where
  pub none : first [] ≡ record { item = None; rest = []; is_whole = false }
  pub last : (text : List ℕ) → IsOneLine text → first text ≡ record { item = (first (take 1025 text)).item; rest = []; is_whole = false }
  pub kept : (text more : List ℕ) → IsOneLine text → first (text ++ 10 ∷ more) ≡ first (take 1025 text ++ 10 ∷ more)

-- a prefix of one line is one line
pub one_line_front : (n : ℕ) (text : List ℕ) → IsOneLine text → IsOneLine (take n text)
one_line_front zero text one = refl
one_line_front (suc n) [] one = refl
one_line_front (suc n) (b ∷ text) one = grind (arith, common_steps, one_line_front n text)

front_long : (text : List ℕ) → 1025 < length text → is_long (take 1025 text) ≡ true
front_long text long = le-leb 1025 (length (take 1025 text)) (omega (arith, long, length-take 1025 text))

-- what is kept of a line that was taken
pub kept_one_line : {old new : Stocked} {left_before left : Option (List ℕ)} {line kept text bytes : List ℕ} → line ≡ kept → LineTaken old new left_before left kept text bytes → IsOneLine line
kept_one_line {text = text} is taken = subst IsOneLine (sym (is ∙ taken.kept)) (one_line_front 1025 text taken.one_line)

-- what a last segment requests, by the segment itself
pub by_itself : {I : Type 0} (first : FirstOf I) (item : Option I) → first ≡ record { item = item; rest = []; is_whole = false }
    → first ≡ record { item = first.item; rest = []; is_whole = false }
by_itself {I} first item is = is ∙ ap (λ asked. record { item = asked; rest = []; is_whole = false }) (sym (ap (λ (f : FirstOf I). f.item) is))

-- segments whose long lines all request the same
pub by_lines : {I : Type 0} (first : List ℕ → FirstOf I) (long : Option I)
    → first [] ≡ record { item = None; rest = []; is_whole = false }
    → ((text : List ℕ) → IsOneLine text → first text ≡ record { item = (first text).item; rest = []; is_whole = false })
    → ((text : List ℕ) → IsOneLine text → is_long text ≡ true → (first text).item ≡ long)
    → ((text more : List ℕ) → IsOneLine text → is_long text ≡ true → first (text ++ 10 ∷ more) ≡ record { item = long; rest = more; is_whole = true })
    → ByLines first
by_lines {I} first long none last last_long then_long = record {
  none = none;
  last = λ text one. last text one ∙ ap (λ item. record { item = item; rest = []; is_whole = false }) (same_item text one);
  kept = kept;
}
  where
    same_item : (text : List ℕ) → IsOneLine text → (first text).item ≡ (first (take 1025 text)).item
    same_item text one = elim (cases_lt 1025 (length text)) as (λ _. (first text).item ≡ (first (take 1025 text)).item) [
      | inl more ↦
          last_long text one (le-leb 1025 (length text) (omega (arith, more)))
          ∙ sym (last_long (take 1025 text) (one_line_front 1025 text one) (front_long text more))
      | inr le ↦ ap (λ xs. (first xs).item) (sym (take_all 1025 text le))
    ]

    kept : (text more : List ℕ) → IsOneLine text → first (text ++ 10 ∷ more) ≡ first (take 1025 text ++ 10 ∷ more)
    kept text more one = elim (cases_lt 1025 (length text)) as (λ _. first (text ++ 10 ∷ more) ≡ first (take 1025 text ++ 10 ∷ more)) [
      | inl longer ↦
          then_long text more one (le-leb 1025 (length text) (omega (arith, longer)))
          ∙ sym (then_long (take 1025 text) more (one_line_front 1025 text one) (front_long text longer))
      | inr le ↦ ap (λ xs. first (xs ++ 10 ∷ more)) (sym (take_all 1025 text le))
    ]

-- ---- the lines of a session
long_alone : (text : List ℕ) → is_long text ≡ true → payload_size text ≡ None
long_alone text long = rw long refl

long_asks : (text : List ℕ) → is_long text ≡ true → item_of text no_payload ≡ Some (Bad LongLine)
long_asks text long = rw long refl

session_last : (text : List ℕ) → IsOneLine text → first_of text ≡ record { item = (first_of text).item; rest = []; is_whole = false }
session_last text one = by (payload_size text) refl
  where
    by : (size : Option ℕ) → payload_size text ≡ size → first_of text ≡ record { item = (first_of text).item; rest = []; is_whole = false }
    by None is = by_itself (first_of text) _ (last_alone text one is)
    by (Some zero) is = by_itself (first_of text) _ (last_with text zero one is)
    by (Some (suc n)) is = by_itself (first_of text) _ (last_with text (suc n) one is ∙ with_cut text [] (suc n) (omega arith))

pub session_lines : ByLines first_of
session_lines = by_lines first_of (Some (Bad LongLine)) refl session_last
    (λ text one long. ap (λ (f : FirstOf Item). f.item) (last_alone text one (long_alone text long)) ∙ long_asks text long)
    (λ text more one long. line_alone text more one (long_alone text long)
    ∙ ap (λ item. record { item = item; rest = more; is_whole = true }) (long_asks text long))
