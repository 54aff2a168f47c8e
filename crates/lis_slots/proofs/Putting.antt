-- What the slots of a block have when the bytes of one are written over.
use Rattle.std.proofs.Common.{◌≡◌, ◌⊎◌, ℕ, ◌+◌, ◌*◌, ◌/◌, ◌%◌, ◌<◌, ◌≤◌, eqb, Bool, true, false, cond, List, ◌++◌, length, take, drop, refl, sym, ◌∙◌, ap, subst, inl, inr, arith, append_assoc, mul-le-mul_left}
use Rattle.std.proofs.Math.Nat.{div-add-mod, mod-lt}
use Rattle.std.proofs.lemmas.Bool.{eqb-true, eqb-false, eq-eqb, cases_lt}
use Rattle.std.proofs.lemmas.List.{drop-drop}
use Rattle.lis_ports.specs.Bytes.{part, put}
use Rattle.lis_ports.proofs.Parts.{Apart, part-put, part-put_other}
use Rattle.lis_slots.specs.Slots.{Slots, per_block, home, place}

pub put_between : (xs : List ℕ) (at n : ℕ) (bytes : List ℕ) → n ≡ length bytes → take at xs ++ (bytes ++ drop n (drop at xs)) ≡ put xs at bytes
unfolding put
put_between xs at n bytes is =
    ap (λ k. take at xs ++ (bytes ++ drop k (drop at xs))) is
    ∙ (sym (append_assoc (take at xs) bytes (drop (length bytes) (drop at xs)))
    ∙ ap (λ ys. take at xs ++ bytes ++ ys) (drop-drop (length bytes) at xs))

-- different slots of one block are apart
pub places_apart : (w a b : ℕ) → (a ≡ b → ⊥) → Apart (w * b) w (w * a) w
places_apart w a b differ = cases (cases_lt a b)
  where
    cases : (a < b) ⊎ (b ≤ a) → Apart (w * b) w (w * a) w
    cases (inl lt) =
        let le : a + 1 ≤ b = omega arith in
        inl (omega (arith, mul-le-mul_left w le))
    cases (inr le) =
        let more : b + 1 ≤ a = omega (arith, differ) in
        inr (omega (arith, mul-le-mul_left w more))

-- a slot ends within its block
pub within_block : (w p k : ℕ) → p * w ≡ 4096 → w * (k % p) + w ≤ 4096
within_block w p k all = by (cases_lt 0 p)
  where
    by : (0 < p) ⊎ (p ≤ 0) → w * (k % p) + w ≤ 4096
    by (inl some) =
        let below : k % p + 1 ≤ p = omega (arith, mod-lt k some) in
        omega (arith, all, mul-le-mul_left w below)
    by (inr none) =
        let zero_p : p ≡ 0 = omega arith in
        absurd (omega (arith, all, ap (λ q. q * w) zero_p))

-- the slots of a block whose k-th slot was written over, and those of other blocks
pub slot_over : (s : Slots) (k j : ℕ) (bytes block content : List ℕ) (at : ℕ → List ℕ) → per_block s * s.width ≡ 4096 → length bytes ≡ s.width → length block ≡ 4096 → block ≡ at (home s k) → content ≡ put block (place s k) bytes → part (place s j) s.width (cond (eqb (home s j) (home s k)) content (at (home s j))) ≡ cond (eqb j k) bytes (part (place s j) s.width (at (home s j)))
slot_over s k j bytes block content at all wide whole held is = by (eqb j k) (eqb (home s j) (home s k)) refl refl
  where
    fits : place s k + length bytes ≤ length block
    fits = omega (arith, wide, whole, within_block s.width (per_block s) k all)

    unlike : (j ≡ k → ⊥) → home s j ≡ home s k → j % per_block s ≡ k % per_block s → ⊥
    unlike differ same rest =
        let quotient : j / per_block s ≡ k / per_block s = omega (arith, same) in
        differ (sym (div-add-mod j (per_block s)) ∙ (ap (λ q. per_block s * q + j % per_block s) quotient ∙ (ap (λ r. per_block s * (k / per_block s) + r) rest ∙ div-add-mod k (per_block s))))

    by : (same same_home : Bool) → eqb j k ≡ same → eqb (home s j) (home s k) ≡ same_home → part (place s j) s.width (cond same_home content (at (home s j))) ≡ cond same bytes (part (place s j) s.width (at (home s j)))
    by true same_home is_k is_home =
        let e : j ≡ k = eqb-true j k is_k in
        let h : same_home ≡ true = sym is_home ∙ eq-eqb (home s j) (home s k) (ap (home s) e) in
        ap (λ b. part (place s j) s.width (cond b content (at (home s j)))) h
        ∙ (ap (λ i. part (place s i) s.width content) e
        ∙ (ap (part (place s k) s.width) is
        ∙ (ap (λ n. part (place s k) n (put block (place s k) bytes)) (sym wide) ∙ part-put block (place s k) bytes fits)))
    by false true is_k is_home =
        let same : home s j ≡ home s k = eqb-true (home s j) (home s k) is_home in
        let apart : Apart (place s k) (length bytes) (place s j) s.width = subst (λ n. Apart (place s k) n (place s j) s.width) (sym wide) (places_apart s.width (j % per_block s) (k % per_block s) (unlike (eqb-false j k is_k) same)) in
        ap (part (place s j) s.width) is
        ∙ (part-put_other block (place s k) bytes fits (place s j) s.width apart
        ∙ ap (part (place s j) s.width) (held ∙ ap at (sym same)))
    by false false is_k is_home = refl
