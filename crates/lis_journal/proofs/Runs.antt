-- Consecutive numbers.
use Rattle.std.proofs.Common.{◌≡◌, ℕ, zero, suc, ◌+◌, ◌≤◌, ◌==◌, nat_lt, Bool, true, false, cond, ◌||◌, List, [], ◌∷◌, ◌++◌, take, drop, refl, sym, ap, ◌∙◌, arith, add-one, append_assoc}
use Rattle.std.specs.List.{range_with_len, list_all}
use Rattle.std.proofs.lemmas.Bool.{and_from, lt-ltb, eqb-false, ne_eqb, false≢true}
use Rattle.std.proofs.lemmas.List.Folds.{list_any-append}
use Rattle.lis_journal.specs.Images.{is_among, with_kept, with_run}
use Rattle.lis_journal.proofs.Entries.{neither}

range_next : (a n : ℕ) → range_with_len a (suc n) ≡ range_with_len a n ++ (a + n) ∷ []
range_next a zero = let same : a ≡ a + 0 = omega arith in ap (λ k. k ∷ []) same
range_next a (suc n) =
    let sum : a + 1 + n ≡ a + suc n = omega arith in
    ap (λ xs. a ∷ xs) (range_next (a + 1) n ∙ ap (λ k. range_with_len (a + 1) n ++ k ∷ []) sum)

-- with one more number after these
pub row_more : (row : List ℕ) (a n : ℕ) → (row ++ range_with_len a n) ++ (a + n) ∷ [] ≡ row ++ range_with_len a (n + 1)
row_more row a n = append_assoc row (range_with_len a n) ((a + n) ∷ []) ∙ ap (λ xs. row ++ xs) (sym (range_next a n) ∙ ap (range_with_len a) (sym (add-one n)))

-- consecutive numbers are below a bound if the last one is
pub row_within : (a n bound : ℕ) → a + n ≤ bound → list_all (λ k. nat_lt k bound) (range_with_len a n) ≡ true
row_within a zero bound le = refl
row_within a (suc n) bound le =
    and_from (nat_lt a bound) (list_all (λ k. nat_lt k bound) (range_with_len (a + 1) n)) (lt-ltb a bound (omega (arith, le))) (row_within (a + 1) n bound (omega (arith, le)))

-- ---- blocks that are none of a run
pub among_head : (n m : ℕ) (placed : List ℕ) → is_among (n ∷ placed) m ≡ false → (n ≡ m → ⊥) × (is_among placed m ≡ false)
among_head n m placed e = by (n == m) refl e
  where
    by : (b : Bool) → (n == m) ≡ b → (b || is_among placed m) ≡ false → (n ≡ m → ⊥) × (is_among placed m ≡ false)
    by true is e = absurd (false≢true (sym e))
    by false is e = (eqb-false n m is, e)

pub among_parts : (run placed : List ℕ) (m : ℕ) → is_among (run ++ placed) m ≡ false → (is_among run m ≡ false) × (is_among placed m ≡ false)
among_parts run placed m out = neither (is_among run m) (is_among placed m) (sym (list_any-append (λ k. k == m) run placed) ∙ out)

pub among_swapped : (placed run : List ℕ) (m : ℕ) → is_among (placed ++ run) m ≡ false → is_among (run ++ placed) m ≡ false
among_swapped placed run m out =
    let parts = among_parts placed run m out in
    list_any-append (λ k. k == m) run placed ∙ (ap (λ b. b || is_among placed m) parts.1 ∙ parts.0)

-- the blocks outside a run are kept as before
pub run_other : (n count : ℕ) (bytes : List ℕ) (kept : ℕ → List ℕ) (m : ℕ) → is_among (range_with_len n count) m ≡ false → with_run n count bytes kept m ≡ kept m
run_other n zero bytes kept m out = refl
run_other n (suc count) bytes kept m out =
    let parts = among_head n m (range_with_len (n + 1) count) out in
    run_other (n + 1) count (drop 4096 bytes) (with_kept n (take 4096 bytes) kept) m parts.1
    ∙ ap (λ b. cond b (take 4096 bytes) (kept m)) (ne_eqb m n (λ e. parts.0 (sym e)))
