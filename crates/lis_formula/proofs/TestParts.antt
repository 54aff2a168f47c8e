-- The parts of a test, as the code finds them.
use Rattle.std.proofs.Common.{◌≡◌, ℕ, Bool, true, false, cond, ◌&&◌, ◌||◌, ◌==◌, ◌↔◌, IsTrue, IsSome, is_some, nat_eq, Option, Some, None, List, [], ◌∷◌, length, take, drop, refl, ap, sym, arith}
use Rattle.std.specs.List.{starts_with}
use Rattle.std.specs.Cmp.Lexicographic.{pointwise}
use Rattle.std.proofs.lemmas.Bool.{false≢true, lt-ltb, ne_eqb, false_from_ne_true, both_ways, or_left, or_right}
use Rattle.lis_grammar.specs.Machine.{after_sign, is_test_front}
use Rattle.lis_formula.specs.Operands.{is_digits_front}

pub after_sign_some : (sign text : List ℕ) → pointwise nat_eq (take (length sign) text) sign ≡ true → after_sign sign text ≡ Some (drop (length sign) text)
after_sign_some [] text h = refl
after_sign_some (c ∷ sign) [] h = absurd (false≢true h)
after_sign_some (c ∷ sign) (b ∷ text) h = by (b == c) h (after_sign_some sign text)
  where
    by : (t : Bool) → (t && pointwise nat_eq (take (length sign) text) sign) ≡ true → (pointwise nat_eq (take (length sign) text) sign ≡ true → after_sign sign text ≡ Some (drop (length sign) text))
        → cond t (after_sign sign text) None ≡ Some (drop (length sign) text)
    by true h more = more h
    by false h more = absurd (false≢true h)

pub after_sign_none : (sign text : List ℕ) → pointwise nat_eq (take (length sign) text) sign ≡ false → after_sign sign text ≡ None
after_sign_none [] text h = absurd (false≢true (sym h))
after_sign_none (c ∷ sign) [] h = refl
after_sign_none (c ∷ sign) (b ∷ text) h = by (b == c) h (after_sign_none sign text)
  where
    by : (t : Bool) → (t && pointwise nat_eq (take (length sign) text) sign) ≡ false → (pointwise nat_eq (take (length sign) text) sign ≡ false → after_sign sign text ≡ None)
        → cond t (after_sign sign text) None ≡ None
    by true h more = more h
    by false h more = refl

pub digits_front : (digits : List ℕ) → is_digits_front digits ≡ is_test_front [] digits
digits_front [] = refl
digits_front (d ∷ digits) =
    rw (ne_eqb (length (d ∷ digits)) 0 (λ e. absurd (omega (arith, e))), lt-ltb 0 (length (d ∷ digits)) (omega arith)) refl

-- the text begins with the sign, or it is a prefix of the sign, or neither
pub front_behind : (sign text digits : List ℕ) → after_sign sign text ≡ Some digits → is_test_front sign text ≡ is_test_front [] digits
front_behind [] text digits h = let same : text ≡ digits = cc in ap (λ xs. is_test_front [] xs) same
front_behind (c ∷ sign) [] digits h = absurd (cc)
front_behind (c ∷ sign) (b ∷ text) digits h = by (b == c) h (front_behind sign text digits)
  where
    by : (t : Bool) → cond t (after_sign sign text) None ≡ Some digits → (after_sign sign text ≡ Some digits → is_test_front sign text ≡ is_test_front [] digits)
        → (t && is_test_front sign text) ≡ is_test_front [] digits
    by true h more = more h
    by false h more = absurd (cc)

pub front_within : (sign text : List ℕ) → after_sign sign text ≡ None → is_test_front sign text ≡ starts_with nat_eq sign text
front_within [] text h = absurd (cc)
front_within (c ∷ sign) [] h = refl
front_within (c ∷ sign) (b ∷ text) h = by (b == c) h (front_within sign text)
  where
    by : (t : Bool) → cond t (after_sign sign text) None ≡ None → (after_sign sign text ≡ None → is_test_front sign text ≡ starts_with nat_eq sign text)
        → (t && is_test_front sign text) ≡ (t && starts_with nat_eq sign text)
    by true h more = more h
    by false h more = refl

pub no_word : {A : Type 0} (found : Option A) (t : Bool) → (IsSome found ↔ IsTrue t) → is_some found ≡ false → t ≡ false
no_word found t h none = false_from_ne_true t (λ e. both_ways (is_some found) none (h.1 e))

pub second : (w a b : Bool) → a ≡ true → true ≡ (w || a || b)
second w a b h = sym (or_left (w || a) b (or_right w a h))

pub third : (w a b : Bool) → w ≡ false → a ≡ false → b ≡ (w || a || b)
third w a b v h = rw (v, h) refl
