-- A line read byte by byte.
use Rattle.std.proofs.Common.{◌≡◌, ◌==◌, ℕ, ◌+◌, ◌-◌, ◌≤◌, ◌<◌, Bool, true, false, ◌||◌, List, [], ◌∷◌, ◌++◌, length, take, drop, Option, Some, None, ap, sym, subst, ◌∙◌, refl, inl, inr, arith, append_assoc, length-append, append-nil}
use Rattle.std.specs.List.{list_any}
use Rattle.std.specs.Io.KnownBytes.{prepend_known, Consumes, Keeps}
use Rattle.std.proofs.lemmas.List.Folds.{list_any-append}
use Rattle.std.proofs.lemmas.List.{take-append-le, take_all, length-take, drop-take, drop-drop}
use Rattle.std.proofs.lemmas.Bool.Decides.{eqb_tells}
use Rattle.lis_line.specs.Stock.{Stocked, stream_of, LineTaken}
use Rattle.lis_line.specs.Reading.{Gave}
use Rattle.lis_words.specs.Bytes.{is_feed}

pub consumes_none : (known : Option (List ℕ)) → Consumes known known []
consumes_none None = tt
consumes_none (Some xs) = refl

pub consumes_then : (a b c : Option (List ℕ)) (xs ys : List ℕ) → Consumes a b xs → Consumes b c ys → Consumes a c (xs ++ ys)
consumes_then None b c xs ys p q = tt
consumes_then (Some zs) None c xs ys p q = absurd p
consumes_then (Some zs) (Some bs) None xs ys p q = absurd q
consumes_then (Some zs) (Some bs) (Some cs) xs ys p q =
    let first : zs ≡ xs ++ bs = p in
    let next : bs ≡ ys ++ cs = q in
    first ∙ ap (λ rest. xs ++ rest) next ∙ sym (append_assoc xs ys cs)

-- nothing was ahead before, and nothing is ahead now: the stream is what the source has left
pub consumes_kept : (a b : Option (List ℕ)) → Keeps a b → Consumes (prepend_known [] a) (prepend_known [] b) []
consumes_kept None b k = tt
consumes_kept (Some zs) None k = absurd k
consumes_kept (Some zs) (Some bs) k = let e : bs ≡ zs = k in sym e

-- what is ahead after this many bytes of it were given
pub rest_ahead : (start count end : ℕ) (buf : List ℕ) → count ≤ end - start → take (end - (start + count)) (drop (start + count) buf) ≡ drop count (take (end - start) (drop start buf))
rest_ahead start count end buf within =
    let sum : end - start ≡ count + (end - (start + count)) = omega (arith, within) in
    rw (sum, drop-take count (end - (start + count)) (drop start buf), drop-drop count start buf) refl

pub gave_none : (stock : Stocked) (left : Option (List ℕ)) → Gave stock stock left left []
gave_none stock left = record { took = consumes_none (stream_of stock left); rest = omega arith }

pub gave_then : (old now next : Stocked) (left_before left left_after : Option (List ℕ)) (first more : List ℕ)
    → Gave old now left_before left first → Gave now next left left_after more → Gave old next left_before left_after (first ++ more)
gave_then old now next left_before left left_after first more gave then = record {
  took = consumes_then _ (stream_of now left) _ first more gave.took then.took;
  rest = omega (arith, gave.rest, then.rest, length-append first more);
}

-- the end of the input, or a fault: nothing more was given
pub gave_stopped : (old now next : Stocked) (left_before left left_after : Option (List ℕ)) (bytes : List ℕ)
    → Gave old now left_before left bytes → now.ahead ≡ [] → next.ahead ≡ [] → Keeps left left_after → next.rest ≡ now.rest
    → Gave old next left_before left_after bytes
gave_stopped old now next left_before left left_after bytes gave none none_now keeps rest =
    let none_took = subst (λ xs. Consumes (prepend_known xs left) (stream_of next left_after) []) (sym none)
    (subst (λ xs. Consumes (prepend_known [] left) (prepend_known xs left_after) []) (sym none_now) (consumes_kept left left_after keeps)) in
    subst (λ xs. Gave old next left_before left_after xs) (append-nil bytes)
    (gave_then old now next left_before left left_after bytes [] gave (record { took = none_took; rest = omega (arith, rest) }))

-- what holds while a line is read
pub record Going (old now : Stocked) (left_before left : Option (List ℕ)) (line : List ℕ) : Type 0 where
  pub text : List ℕ
  pub taken : LineTaken old now left_before left line text text
  pub some : 0 < now.rest

pub same : (a b : ℕ) → a ≡ b → (a == b) ≡ true
same a b is = elim (eqb_tells a b) as (λ _. (a == b) ≡ true) [ inl h ↦ h.0 | inr h ↦ absurd (h.1 is) ]

pub differs : (a b : ℕ) → (a ≡ b → ⊥) → (a == b) ≡ false
differs a b ne = elim (eqb_tells a b) as (λ _. (a == b) ≡ false) [ inl h ↦ absurd (ne h.1) | inr h ↦ h.0 ]

feed_none : (text : List ℕ) (b : ℕ) → list_any is_feed text ≡ false → (b ≡ 10 → ⊥) → list_any is_feed (text ++ b ∷ []) ≡ false
feed_none text b one other = list_any-append is_feed text (b ∷ []) ∙ both (list_any is_feed text) (b == 10) one (differs b 10 other)
  where
    both : (x y : Bool) → x ≡ false → y ≡ false → (x || (y || false)) ≡ false
    both true y p q = absurd (cc)
    both false true p q = absurd (cc)
    both false false p q = refl

kept_more : (line text : List ℕ) (b : ℕ) → line ≡ take 1025 text → length line < 1025 → line ++ b ∷ [] ≡ take 1025 (text ++ b ∷ [])
kept_more line text b is few =
    let short : length text ≤ 1024 = omega (arith, ap length is, length-take 1025 text) in
    let all : take 1025 text ≡ text = take_all 1025 text (omega arith) in
    let longer : length (text ++ b ∷ []) ≤ 1025 = omega (arith, length-append text (b ∷ [])) in
    ap (λ xs. xs ++ b ∷ []) (is ∙ all) ∙ sym (take_all 1025 (text ++ b ∷ []) longer)

kept_full : (line text : List ℕ) (b : ℕ) → line ≡ take 1025 text → 1025 ≤ length line → line ≡ take 1025 (text ++ b ∷ [])
kept_full line text b is full =
    let long : 1025 ≤ length text = omega (arith, ap length is, length-take 1025 text) in
    is ∙ sym (take-append-le 1025 text (b ∷ []) long)

-- one more byte of the line
taken_more : (old now next : Stocked) (left_before left left_after : Option (List ℕ)) (line longer text : List ℕ) (b : ℕ)
    → LineTaken old now left_before left line text text → Consumes (stream_of now left) (stream_of next left_after) (b ∷ [])
    → next.rest + 1 ≡ now.rest → (b ≡ 10 → ⊥) → longer ≡ take 1025 (text ++ b ∷ [])
    → LineTaken old next left_before left_after longer (text ++ b ∷ []) (text ++ b ∷ [])
taken_more old now next left_before left left_after line longer text b taken byte rest other kept = record {
  one_line = feed_none text b taken.one_line other;
  took = consumes_then _ (stream_of now left) _ text (b ∷ []) taken.took byte;
  rest = omega (arith, taken.rest, rest, length-append text (b ∷ []));
  kept = kept;
}

pub going_pushed : (old now next : Stocked) (left_before left left_after : Option (List ℕ)) (line longer : List ℕ) (b : ℕ)
    → Going old now left_before left line → Consumes (stream_of now left) (stream_of next left_after) (b ∷ [])
    → next.rest + 1 ≡ now.rest → (b ≡ 10 → ⊥) → 0 < next.rest → length line < 1025 → longer ≡ line ++ b ∷ []
    → Going old next left_before left_after longer
going_pushed old now next left_before left left_after line longer b going byte rest other some few is = record {
  text = going.text ++ b ∷ [];
  taken = taken_more old now next left_before left left_after line longer going.text b going.taken byte rest other (is ∙ kept_more line going.text b going.taken.kept few);
  some = some;
}

pub going_full : (old now next : Stocked) (left_before left left_after : Option (List ℕ)) (line : List ℕ) (b : ℕ)
    → Going old now left_before left line → Consumes (stream_of now left) (stream_of next left_after) (b ∷ [])
    → next.rest + 1 ≡ now.rest → (b ≡ 10 → ⊥) → 0 < next.rest → 1025 ≤ length line
    → Going old next left_before left_after line
going_full old now next left_before left left_after line b going byte rest other some full = record {
  text = going.text ++ b ∷ [];
  taken = taken_more old now next left_before left left_after line line going.text b going.taken byte rest other (kept_full line going.text b going.taken.kept full);
  some = some;
}

-- the byte that ends the line
pub taken_ended : (old now next : Stocked) (left_before left left_after : Option (List ℕ)) (line text : List ℕ) (b : ℕ)
    → LineTaken old now left_before left line text text → Consumes (stream_of now left) (stream_of next left_after) (b ∷ [])
    → next.rest + 1 ≡ now.rest → LineTaken old next left_before left_after line text (text ++ b ∷ [])
taken_ended old now next left_before left left_after line text b taken byte rest = record {
  one_line = taken.one_line;
  took = consumes_then _ (stream_of now left) _ text (b ∷ []) taken.took byte;
  rest = omega (arith, taken.rest, rest, length-append text (b ∷ []));
  kept = taken.kept;
}

-- what a line was taken from
pub gave_line : (old new : Stocked) (left_before left : Option (List ℕ)) (line text bytes : List ℕ)
    → LineTaken old new left_before left line text bytes → Gave old new left_before left bytes
gave_line old new left_before left line text bytes taken = record { took = taken.took; rest = taken.rest }
