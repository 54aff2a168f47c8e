-- Counts and marks of the numbers of a list, one by one.
use Rattle.std.proofs.Common.{◌≡◌, ◌⊎◌, ℕ, ◌+◌, ◌-◌, ◌<◌, ◌==◌, Bool, true, false, not, ◌&&◌, ◌||◌, if◌then◌else◌, List, length, get_or, set, take, refl, sym, ap, ◌∙◌, inl, inr, arith, eq-eqb, get_or-set_same, get_or-set_other}
use Rattle.std.specs.List.Sorted.{IsStrictlyIncreasing}
use Rattle.std.proofs.lemmas.Bool.{cases_eq, ne_eqb}
use Rattle.lis_bits.specs.Rows.{Rows, get, with_row}
use Rattle.lis_bits.proofs.Laws.{shaped, new_row}
use Rattle.lis_ext.specs.Numbers.{has_number}
use Rattle.lis_ext.specs.Inside.{CountsUp, Touches, has_alone}
use Rattle.lis_graph.proofs.Members.{among_from_contains}
use Rattle.std.proofs.lemmas.List.{get_or_default}
use Rattle.lis_ext.proofs.Numbers.{has_decides, has_more, not_before}

or_true : (b : Bool) → (b || true) ≡ true
or_true true = refl
or_true false = refl

or_false : (b : Bool) → (b || false) ≡ b
or_false true = refl
or_false false = refl

and_false : (b : Bool) → (b && false) ≡ false
and_false true = refl
and_false false = refl

-- ---- tests of the next number of a list
module _ (numbers : List ℕ) (k : ℕ) (lt : k < length numbers) where
  pub next_has : has_number (take (k + 1) numbers) (get_or numbers k 0) ≡ true
  next_has = has_more numbers k (get_or numbers k 0) lt ∙ (ap (λ b. has_number (take k numbers) (get_or numbers k 0) || b) (eq-eqb (get_or numbers k 0) (get_or numbers k 0) refl) ∙ or_true (has_number (take k numbers) (get_or numbers k 0)))

  pub other_has : (p : ℕ) → (p ≡ get_or numbers k 0 → ⊥) → has_number (take (k + 1) numbers) p ≡ has_number (take k numbers) p
  other_has p differ = has_more numbers k p lt ∙ (ap (λ b. has_number (take k numbers) p || b) (ne_eqb (get_or numbers k 0) p (λ e. differ (sym e))) ∙ or_false (has_number (take k numbers) p))

-- a number of the list is among its numbers
pub has_it : (numbers : List ℕ) (k : ℕ) → k < length numbers → has_number numbers (get_or numbers k 0) ≡ true
has_it numbers k lt = (has_decides numbers (get_or numbers k 0)).1 (among_from_contains numbers (get_or numbers k 0) (k, lt, get_or_default numbers k (get_or numbers k 0) 0 lt))

-- a test, and a test that lets one more number pass
pub record PassesMore (touched touched' : ℕ → Bool) (q : ℕ) : Type 0 where
  pub fresh : touched q ≡ false
  pub passes : touched' q ≡ true
  pub others : (p : ℕ) → (p ≡ q → ⊥) → touched' p ≡ touched p

pub more_of : (numbers : List ℕ) (k : ℕ) → IsStrictlyIncreasing numbers → k < length numbers → PassesMore (has_number (take k numbers)) (has_number (take (k + 1) numbers)) (get_or numbers k 0)
more_of numbers k rises lt = record { fresh = not_before numbers k rises lt; passes = next_has numbers k lt; others = other_has numbers k lt }

pub more_alone : (numbers others : List ℕ) (k : ℕ) → IsStrictlyIncreasing numbers → k < length numbers → has_number others (get_or numbers k 0) ≡ false → PassesMore (has_alone (take k numbers) others) (has_alone (take (k + 1) numbers) others) (get_or numbers k 0)
more_alone numbers others k rises lt lacks = record {
  fresh = ap (λ b. b && not (has_number others (get_or numbers k 0))) (not_before numbers k rises lt);
  passes = rw (next_has numbers k lt, lacks) refl;
  others = λ p differ. ap (λ b. b && not (has_number others p)) (other_has numbers k lt p differ);
}

pub same_alone : (numbers others : List ℕ) (k : ℕ) → k < length numbers → has_number others (get_or numbers k 0) ≡ true → (p : ℕ) → has_alone (take (k + 1) numbers) others p ≡ has_alone (take k numbers) others p
same_alone numbers others k lt there p = by (cases_eq p (get_or numbers k 0))
  where
    none : (b : Bool) → has_number others p ≡ true → (b && not (has_number others p)) ≡ false
    none b e = rw e (and_false b)

    by : (p ≡ get_or numbers k 0) ⊎ (p ≡ get_or numbers k 0 → ⊥) → has_alone (take (k + 1) numbers) others p ≡ has_alone (take k numbers) others p
    by (inl same) = let had : has_number others p ≡ true = ap (has_number others) same ∙ there in none (has_number (take (k + 1) numbers) p) had ∙ sym (none (has_number (take k numbers) p) had)
    by (inr differ) = ap (λ b. b && not (has_number others p)) (other_has numbers k lt p differ)

-- ---- one more number passes
module _ (touched touched' : ℕ → Bool) (q props : ℕ) (q_in : q < props) (more : PassesMore touched touched' q) where
  pub touch_more : (old now : Rows) → Touches old now props touched → Touches old (with_row now 0 (λ p. if p == q then true else get now 0 p)) props touched'
  touch_more old now h = record {
    shape = shaped now 1 props 0 (λ p. if p == q then true else get now 0 p) h.shape;
    marks = λ p p_in. new_row now 1 props 0 p (λ p. if p == q then true else get now 0 p) h.shape (omega arith) p_in ∙ mark p p_in (cases_eq p q);
  }
    where
      mark : (p : ℕ) → p < props → (p ≡ q) ⊎ (p ≡ q → ⊥) → (if p == q then true else get now 0 p) ≡ (get old 0 p || touched' p)
      mark p p_in (inl same) = rw (eq-eqb p q same, same, more.passes) (sym (or_true (get old 0 q)))
      mark p p_in (inr differ) = rw (ne_eqb p q differ) (h.marks p p_in ∙ ap (λ b. get old 0 p || b) (sym (more.others p differ)))

  module _ (low high : List ℕ) (h : CountsUp low high props touched) where
    pub same_before : get_or high q 0 ≡ get_or low q 0
    same_before = let at = rw more.fresh at (h q q_in) in omega (arith, at)

    rest : (p : ℕ) → p < props → (p ≡ q → ⊥) → get_or high p 0 ≡ get_or low p 0 + (if touched' p then 1 else 0)
    rest p p_in differ = h p p_in ∙ ap (λ b. get_or low p 0 + (if b then 1 else 0)) (sym (more.others p differ))

    pub counts_up : length high ≡ props → CountsUp low (set high q (get_or high q 0 + 1)) props touched'
    counts_up room p p_in = by (cases_eq p q)
      where
        by : (p ≡ q) ⊎ (p ≡ q → ⊥) → get_or (set high q (get_or high q 0 + 1)) p 0 ≡ get_or low p 0 + (if touched' p then 1 else 0)
        by (inl same) = rw (same, get_or-set_same high q (get_or high q 0 + 1) 0 (omega arith), more.passes, same_before) refl
        by (inr differ) = get_or-set_other high q p (get_or high q 0 + 1) 0 differ ∙ rest p p_in differ

    pub counts_down : length low ≡ props → 0 < get_or low q 0 → CountsUp (set low q (get_or low q 0 - 1)) high props touched'
    counts_down room some p p_in = by (cases_eq p q)
      where
        by : (p ≡ q) ⊎ (p ≡ q → ⊥) → get_or high p 0 ≡ get_or (set low q (get_or low q 0 - 1)) p 0 + (if touched' p then 1 else 0)
        by (inl same) = rw (same, get_or-set_same low q (get_or low q 0 - 1) 0 (omega arith), more.passes) (omega (arith, same_before))
        by (inr differ) = rw (get_or-set_other low q p (get_or low q 0 - 1) 0 differ) (rest p p_in differ)

-- ---- the test lets the same numbers pass
module _ (touched touched' : ℕ → Bool) (props : ℕ) (same : (p : ℕ) → touched' p ≡ touched p) where
  pub touch_same : (old now : Rows) → Touches old now props touched → Touches old now props touched'
  touch_same old now h = record {
    shape = h.shape;
    marks = λ p p_in. h.marks p p_in ∙ ap (λ b. get old 0 p || b) (sym (same p));
  }

  pub counts_same : (low high : List ℕ) → CountsUp low high props touched → CountsUp low high props touched'
  counts_same low high h = λ p p_in. h p p_in ∙ ap (λ b. get_or low p 0 + (if b then 1 else 0)) (sym (same p))
