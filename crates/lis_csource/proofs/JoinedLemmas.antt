-- Joined lines, byte by byte.
use Rattle.std.proofs.Common.{◌≡◌, ◌≢◌, ℕ, ◌-◌, ◌<◌, ◌≤◌, ◌==◌, ◌&&◌, Bool, true, false, cond, List, [], ◌∷◌, length, take, drop, get_or, refl, sym, ap, ◌∙◌, arith}
use Rattle.std.proofs.lemmas.List.{take_rest}
use Rattle.lis_transducers.specs.Joined.{joined}
use Rattle.lis_csource.specs.Joints.{joint_len}

pub joined_nil : joined [] ≡ []
unfolding joined
joined_nil = refl

-- a byte with no joint before it
pub joined_first : (b : ℕ) (bytes : List ℕ) → joint_len (b ∷ bytes) ≡ 0 → joined (b ∷ bytes) ≡ b ∷ joined bytes
unfolding joined
joined_first a [] none = refl
joined_first a (b ∷ []) none = by ((a == 92) && (b == 10)) none
  where
    by : (t : Bool) → cond {A = ℕ} t 2 0 ≡ 0 → cond t [] (a ∷ b ∷ []) ≡ a ∷ b ∷ []
    by true h = absurd (omega (arith, h))
    by false h = refl
joined_first a (b ∷ c ∷ bytes) none = by ((a == 92) && (b == 10)) ((a == 92) && (b == 13) && (c == 10)) none
  where
    by : (t u : Bool) → cond {A = ℕ} t 2 (cond {A = ℕ} u 3 0) ≡ 0
        → cond t (joined (c ∷ bytes)) (cond u (joined bytes) (a ∷ joined (b ∷ c ∷ bytes))) ≡ a ∷ joined (b ∷ c ∷ bytes)
    by true u h = absurd (omega (arith, h))
    by false true h = absurd (omega (arith, h))
    by false false h = refl

-- a joint before the bytes changes nothing
pub joined_past : (bytes : List ℕ) (n : ℕ) → n ≡ joint_len bytes → (n ≢ 0) → joined bytes ≡ joined (drop n bytes)
unfolding joined
joined_past [] n is some = absurd (some is)
joined_past (a ∷ []) n is some = absurd (some is)
joined_past (a ∷ b ∷ []) n is some = by ((a == 92) && (b == 10)) is
  where
    by : (t : Bool) → n ≡ cond {A = ℕ} t 2 0 → cond t [] (a ∷ b ∷ []) ≡ joined (drop n (a ∷ b ∷ []))
    by true h = ap (λ k. joined (drop k (a ∷ b ∷ []))) (sym h)
    by false h = absurd (some h)
joined_past (a ∷ b ∷ c ∷ bytes) n is some = by ((a == 92) && (b == 10)) ((a == 92) && (b == 13) && (c == 10)) is
  where
    by : (t u : Bool) → n ≡ cond {A = ℕ} t 2 (cond {A = ℕ} u 3 0)
        → cond t (joined (c ∷ bytes)) (cond u (joined bytes) (a ∷ joined (b ∷ c ∷ bytes))) ≡ joined (drop n (a ∷ b ∷ c ∷ bytes))
    by true u h = ap (λ k. joined (drop k (a ∷ b ∷ c ∷ bytes))) (sym h)
    by false true h = ap (λ k. joined (drop k (a ∷ b ∷ c ∷ bytes))) (sym h)
    by false false h = absurd (some h)

-- the first byte of bytes that begin with no joint
pub joined_head : (bytes rest : List ℕ) → joined rest ≡ joined bytes → joint_len rest ≡ 0 → 1 ≤ length rest
    → joined bytes ≡ get_or rest 0 0 ∷ joined (take (length rest - 1) (drop 1 rest))
joined_head bytes [] same none some = absurd (omega arith)
joined_head bytes (b ∷ rest) same none some =
    sym same ∙ joined_first b rest none ∙ ap (λ xs. b ∷ joined xs) (sym (take_rest (b ∷ rest) 1))

pub joined_end : (bytes rest : List ℕ) → joined rest ≡ joined bytes → length rest < 1 → joined bytes ≡ []
joined_end bytes [] same none = sym same ∙ joined_nil
joined_end bytes (b ∷ rest) same none = absurd (omega arith)
